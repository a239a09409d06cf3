use Rattle.std.proofs.Common.{◌≡◌, ◌∙◌, subst, pos, List}
use Rattle.sk_checks.specs.Checks.{Judges, NoneRefuses}
use Rattle.sk_leap.specs.declared.pair.LeapPair.{LeapPair}
use Rattle.sk_leap.specs.declared.utc.Utc.{Utc}
use Rattle.sk_leap.specs.Leap.{tdt_of, utc_checks, tdt_checks}
use Rattle.sk_leap.proofs.Found.{table_parts, same_parts}
use Rattle.sk_leap.proofs.table.LeapTable.to_utc.Goals as goal

pub utc_of-requires : goal.utc_of-requires
utc_of-requires c = table_parts c.pairs.result.now _ c.in-len1-up.len_at_least c.pairs.ensures.table

pub returns-in-len1-up : goal.returns-in-len1-up
returns-in-len1-up c =
    let units = c.args.tdt.units in
    let whole = same_parts c.pairs.result.now (record { value = 0; day = pos 0 }) c.in-len1-up.len_at_least ∙ c.pairs.ensures.value in
    let P : List LeapPair → Type 0 = λ pairs. Judges (tdt_checks pairs units) (λ (utc : Utc). NoneRefuses (utc_checks pairs utc) × (tdt_of pairs utc ≡ units)) c.utc_of.result in
    subst P whole c.utc_of.ensures
