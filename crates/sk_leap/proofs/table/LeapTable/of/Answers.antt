use Rattle.std.proofs.Common.{◌≡◌, ◌∙◌, inl, inr, refl, sym, subst, List}
use Rattle.std.specs.List.{AllZip}
use Rattle.std.proofs.lemmas.Bool.{and_parts, ltb-true}
use Rattle.sk_leap.specs.declared.pair.LeapPair.{LeapPair}
use Rattle.sk_leap.specs.Kernel.{Entry, delta_at, entries_of}
use Rattle.sk_leap.specs.Entries.{IsPairOf}
use Rattle.sk_leap.proofs.Tables.{pairs_refused, table_taken, table_refused, read_entries, values_short}
use Rattle.sk_leap.proofs.table.LeapTable.of.Goals as goal

pub read_pairs-requires-clause-short : goal.read_pairs-requires-clause-short
read_pairs-requires-clause-short c = values_short delta_at c.args.pool.now c.in-Some-values.delta_at.now c.in-Some-values.ensures.value c.requires

pub returns-then-not-are_entries : goal.returns-then-not-are_entries
returns-then-not-are_entries c =
    inr (pairs_refused c.args.pool.now c.in-Some.delta_t.now c.in-Some-values.delta_at.now c.in-Some.ensures.value c.in-Some-values.ensures.value (c.if-not-is_delta_t.ensures.0 refl)
    (sym c.are_entries.ensures ∙ c.if-not-are_entries.true))

pub returns-in-Ok : goal.returns-in-Ok
returns-in-Ok c =
    let both = and_parts _ _ (sym c.if-not-are_entries.ensures) in
    let a = c.in-Some-values.delta_at.now in
    let some = ltb-true _ _ both.0 in (
      table_taken c.args.pool.now c.in-Some.delta_t.now a c.in-Some.ensures.value c.in-Some-values.ensures.value (c.if-not-is_delta_t.ensures.0 refl) both.1 some c.in-Ok.ensures.0,
      subst (λ (entries : List Entry). AllZip IsPairOf c.from_pairs.result entries) (sym (read_entries c.args.pool.now a c.in-Some-values.ensures.value))
          (subst (λ (pairs : List LeapPair). AllZip IsPairOf pairs (entries_of a)) (sym c.from_pairs.ensures) c.in-Ok.ensures.1.zipped),
    )

pub returns-in-Err : goal.returns-in-Err
returns-in-Err c =
    let both = and_parts _ _ (sym c.if-not-are_entries.ensures) in
    let some = ltb-true _ _ both.0 in
    elim c.in-Err.ensures [
      | inl memory ↦ inl memory
      | inr refused ↦ inr (table_refused c.args.pool.now c.in-Some.delta_t.now c.in-Some-values.delta_at.now c.in-Err.fault c.in-Some.ensures.value c.in-Some-values.ensures.value (c.if-not-is_delta_t.ensures.0 refl) both.1 some refused)
    ]
