use Rattle.std.proofs.Common.{List, length, ap, arith, ◌∙◌}
use Rattle.sk_publishing.specs.Terms.{Sight}
use Rattle.sk_least.specs.Search.{SearchView}
use Rattle.sk_least.proofs.Runs.{last_run}
use Rattle.sk_least.proofs.search.Search.longest.Goals as goal

pub overflow_step-past : goal.overflow_step-past
overflow_step-past c =
    let points = c.as_slice-points.ensures.value ∙ ap (λ (v : SearchView). v.all) c.self.view_is in
    let count = ap (λ (xs : List Sight). length xs) points in
    let inside = c.requires in omega arith

pub returns : goal.returns
returns c =
    let points = c.as_slice-points.ensures.value ∙ ap (λ (v : SearchView). v.all) c.self.view_is in
    last_run c.args.self.now c.args.first c.loop-past.past c.loop-past.hulls (length c.as_slice-points.result.now) c.loop-past.invariant (omega arith) (ap (λ (xs : List Sight). length xs) points)
