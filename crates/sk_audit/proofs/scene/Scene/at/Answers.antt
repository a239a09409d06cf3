use Rattle.std.proofs.Common.{◌≡◌, ◌+◌, ◌<◌, ◌^◌, slice_get, Some, List, length, refl, arith, rules, subst, ap}
use Rattle.std.proofs.lemmas.Option.{slice_get_read}
use Rattle.sk_publishing.specs.Row.{RowView}
use Rattle.sk_audit.specs.Scene.{SceneView, IsScene}
use Rattle.sk_audit.proofs.Looping.{next_one}
use Rattle.sk_audit.proofs.scene.Scene.at.Goals as goal

pub returns-clause-next : goal.returns-clause-next
returns-clause-next c new =
    let rows : List RowView = c.self.inside.observations.now in
    let row : RowView = c.index-rows-place.result in
    let same = ap length (ap (λ (v : SceneView). v.rows) c.self.view_is) in
    let here : slice_get c.args.self.now.rows c.args.place ≡ Some row =
    subst (λ (v : SceneView). slice_get v.rows c.args.place ≡ Some row) c.self.view_is (slice_get_read rows (length rows) c.args.place row refl (omega arith) c.index-rows-place.is) in
    let short : c.args.place + 1 < 2 ^ 64 = search rules in
    next_one c.args.self.now c.args.place row (subst IsScene c.self.view_is c.self.invariant) here short new
