use Rattle.std.proofs.Common.{subst}
use Rattle.std.specs.Prelude.{pos}
use Rattle.sk_clock.specs.Clock.{lengths}
use Rattle.sk_least.specs.Answer.{AreLeast}
use Rattle.sk_least.specs.Search.{SearchView}
use Rattle.sk_least.proofs.OneCover.{answer_within}
use Rattle.sk_least.proofs.cover.least.Goals as goal

pub returns-clause-within : goal.returns-clause-within
returns-clause-within c =
    let stretches = c.in_ok-stretches.stretches in
    answer_within c.args.clock.now c.units.result c.args.observations.now stretches
    (subst (λ (v : SearchView). AreLeast (lengths v.clock) (pos v.tolerance) v.all stretches) c.in_ok-search.ensures c.in_ok-stretches.ensures)
