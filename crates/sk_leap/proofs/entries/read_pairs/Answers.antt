use Rattle.std.proofs.Common.{◌≡◌, ◌-◌, ◌+◌, ◌++◌, [], ◌∷◌, ◌∙◌, inl, inr, sym, ap, subst, ℕ, List, Option, None, length, slice_get, arith}
use Rattle.std.specs.List.{last_or}
use Rattle.sk_checks.specs.Checks.{FirstRefuses, NoneRefuses}
use Rattle.sk_leap.specs.declared.pair.LeapPair.{LeapPair}
use Rattle.sk_leap.specs.Entries.{pair_checks}
use Rattle.sk_leap.proofs.Turns.{entry_begins, none_begins}
use Rattle.sk_leap.proofs.Pairs.{ReadsTo, pair_refused, pair_taken, reads_all, last_is}
use Rattle.sk_leap.proofs.entries.read_pairs.Goals as goal

pub returns-in-Err : goal.returns-in-Err
returns-in-Err c =
    let pairs = c.loop-value.pairs.items in
    let begins = entry_begins c.loop-value.rest.now c.in-Some.value c.in-Some.date.now c.in-Some.behind.now c.in-Some.ensures.some in
    let last : c.copied.result ≡ last_or None pairs = c.copied.ensures ∙ c.last.ensures.value ∙ ap (λ (xs : List LeapPair). slice_get xs (length xs - 1)) c.deref.ensures.value ∙ last_is pairs in
    let place : c.len.result ≡ length pairs = c.len.ensures ∙ sym c.deref.ensures.len ∙ ap length c.deref.ensures.value in
    let refused = subst (λ (n : ℕ). FirstRefuses (pair_checks c.copied.result (n + 1) c.in-Some.value c.in-Some.date.now) c.in-Err.fault) place c.in-Err.ensures in
    inr (pair_refused c.args.values.now c.loop-value.rest.now c.in-Some.behind.now pairs c.copied.result c.in-Some.value c.in-Some.date.now c.in-Err.fault c.loop-value.invariant begins last refused)

pub loop-value-smaller : goal.loop-value-smaller
loop-value-smaller c =
    omega (arith, (entry_begins c.loop-value.rest.now c.in-Some.value c.in-Some.date.now c.in-Some.behind.now c.in-Some.ensures.some).long)

pub loop-value-preserved : goal.loop-value-preserved
loop-value-preserved c =
    let pairs = c.loop-value.pairs.items in
    let begins = entry_begins c.loop-value.rest.now c.in-Some.value c.in-Some.date.now c.in-Some.behind.now c.in-Some.ensures.some in
    let last : c.copied.result ≡ last_or None pairs = c.copied.ensures ∙ c.last.ensures.value ∙ ap (λ (xs : List LeapPair). slice_get xs (length xs - 1)) c.deref.ensures.value ∙ last_is pairs in
    let place : c.len.result ≡ length pairs = c.len.ensures ∙ sym c.deref.ensures.len ∙ ap length c.deref.ensures.value in
    let none = subst (λ (n : ℕ). NoneRefuses (pair_checks c.copied.result (n + 1) c.in-Some.value c.in-Some.date.now)) place c.in-Ok.ensures.0 in
    let taken = pair_taken c.args.values.now c.loop-value.rest.now c.in-Some.behind.now pairs c.copied.result c.in-Some.value c.in-Some.date.now c.in-Ok.pair c.loop-value.invariant begins last
    c.in-Some.ensures.small none c.in-Ok.ensures.1.0 c.in-Ok.ensures.1.1 in
    let P : List LeapPair → Type 0 = λ xs. ReadsTo c.args.values.now c.in-Some.behind.now xs in
    subst P (sym c.in-Ok-push.ensures.items) taken
