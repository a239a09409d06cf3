use Rattle.std.proofs.Common.{ℕ, ◌<◌, length, Option, sym, subst, Bor}
use Rattle.std.specs.Option.{option_map}
use Rattle.sk_publishing.specs.Terms.{sights}
use Rattle.sk_fit.specs.declared.chain.Chain.{Chain}
use Rattle.sk_fit.specs.Given.{chain_view}
use Rattle.sk_report.specs.Marks.{Tells}
use Rattle.sk_report.proofs.listing.marks_for.Goals as goal

pub returns-in-None-clause-tells : goal.returns-in-None-clause-tells
returns-in-None-clause-tells c =
    let rows = c.args.observations.now in
    let Told : Option (Bor Chain) → Type 0 = λ o. (place : ℕ) → place < length rows
    → Tells rows (option_map (chain_view (sights rows)) (option_map (λ c'. c'.now) o)) c.old_marks.result place in
    subst Told (sym c.in-None.is) (c.old_marks.ensures.tells rows)
