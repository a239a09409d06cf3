use Rattle.std.proofs.Common.{◌≡◌, ◌+◌, ◌<◌, ◌^◌, slice_get, Some, List, length, refl, arith, rules, subst, ap}
use Rattle.std.proofs.lemmas.Option.{slice_get_read}
use Rattle.sk_publishing.specs.Row.{RowView}
use Rattle.sk_fit.specs.Context.{FitView, IsFit}
use Rattle.sk_clock.specs.Clock.{total}
use Rattle.sk_fit.proofs.Looping.{next_one}
use Rattle.sk_fit.proofs.Observed.{in_range}
use Rattle.sk_fit.proofs.context.Fit.at.Goals as goal

pub returns-clause-short : goal.returns-clause-short
returns-clause-short c =
    let rows : List RowView = c.self.inside.observations.now in
    let row : RowView = c.index-rows-place.result in
    let same = ap length (ap (λ (v : FitView). v.rows) c.self.view_is) in
    let here : slice_get c.args.self.now.rows c.args.place ≡ Some row =
    subst (λ (v : FitView). slice_get v.rows c.args.place ≡ Some row) c.self.view_is (slice_get_read rows (length rows) c.args.place row refl (omega arith) c.index-rows-place.is) in
    let given : IsFit c.args.self.now = subst IsFit c.self.view_is c.self.invariant in
    (in_range (total c.args.self.now.clock) c.args.self.now.rows c.args.place row given.observed here).0

pub returns-clause-next : goal.returns-clause-next
returns-clause-next c new =
    let rows : List RowView = c.self.inside.observations.now in
    let row : RowView = c.index-rows-place.result in
    let same = ap length (ap (λ (v : FitView). v.rows) c.self.view_is) in
    let here : slice_get c.args.self.now.rows c.args.place ≡ Some row =
    subst (λ (v : FitView). slice_get v.rows c.args.place ≡ Some row) c.self.view_is (slice_get_read rows (length rows) c.args.place row refl (omega arith) c.index-rows-place.is) in
    let short : c.args.place + 1 < 2 ^ 64 = search rules in
    next_one c.args.self.now c.args.place row (subst IsFit c.self.view_is c.self.invariant) here short new
