use Rattle.std.proofs.Common.{◌≡◌, ◌*◌, List, ◌∷◌, [], map, get_or, ap, subst, ◌∙◌}
use Rattle.sk_publishing.specs.Terms.{Sight}
use Rattle.sk_least.specs.Hull.{IsHullOf}
use Rattle.sk_least.specs.Search.{turned, SearchView, IsSearch}
use Rattle.sk_least.proofs.Runs.{run_begun}
use Rattle.sk_least.proofs.Grown.{turned_at}
use Rattle.sk_least.proofs.search.Search.begin.Goals as goal

pub returns : goal.returns
returns c =
    let v : SearchView = c.args.self.now in
    let is : IsSearch v c.self.inside.turned.items = subst (λ (x : SearchView). IsSearch x c.self.inside.turned.items) c.self.view_is c.self.invariant in
    let points : c.as_slice-points.result.now ≡ v.all = c.as_slice-points.ensures.value ∙ ap (λ (x : SearchView). x.all) c.self.view_is in
    let over : c.as_slice-turned.result.now ≡ map turned v.all = c.as_slice-turned.ensures.value ∙ is.is_over in
    let o : Sight = c.index-points-first.result in
    let at : o ≡ get_or v.all c.args.first o = subst (λ (xs : List Sight). o ≡ get_or xs c.args.first o) points c.index-points-first.is in
    let same : c.index-turned-first.result ≡ turned o = turned_at v.all c.args.first o c.index-turned-first.result c.requires at
    (subst (λ (xs : List Sight). c.index-turned-first.result ≡ get_or xs c.args.first c.index-turned-first.result) over c.index-turned-first.is) in
    run_begun v c.args.first o (record { need = c.in_ok-need.need; room = c.in_ok-room.room }) c.requires at (c.in_ok-need.ensures (2 * v.tolerance))
    (subst (λ (x : Sight). IsHullOf (2 * v.tolerance) (x ∷ []) c.in_ok-room.room.points c.in_ok-room.room.best) same (c.in_ok-room.ensures (2 * v.tolerance)))
