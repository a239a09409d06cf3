use Rattle.std.proofs.Common.{◌≡◌, ◌+◌, ◌-◌, ◌<◌, ◌∷◌, ◌++◌, [], ℕ, List, Some, length, take, drop, get_or, refl, sym, ap, subst, ◌∙◌}
use Rattle.std.specs.List.{AllByRecursion}
use Rattle.sk_publishing.specs.Terms.{Sight}
use Rattle.sk_least.specs.Hull.{IsEarlier, EachPair, IsConvex, IsSteepestAt, AreHidden, IsHullOf, HullView}
use Rattle.sk_least.proofs.Taking.{live_is, part_is, hull_before, part_before, part_rising, part_convex, best_rises, top_is, top_before, takes, within_place, new_points}
use Rattle.sk_least.proofs.hull.Hull.take.Goals as goal

pub steepest-place-requires-clause-before : goal.steepest-place-requires-clause-before
steepest-place-requires-clause-before c =
    let points : List Sight = c.self.inside.points.items in
    let front : ℕ = c.self.inside.front in
    let taken : IsHullOf c.args.slack (take (length c.args.run.now - 1) c.args.run.now) (drop front points) c.self.inside.best =
    subst (λ (v : HullView). IsHullOf c.args.slack (take (length c.args.run.now - 1) c.args.run.now) v.points v.best) (sym c.self.view_is) c.requires.taken in
    subst (AllByRecursion (λ x. x.tick < c.index-run-run.result.tick)) (sym (live_is c.deref.result.now points front c.deref.ensures.value))
    (hull_before c.args.slack c.args.run.now (drop front points) c.self.inside.best c.index-run-run.result c.requires.some c.requires.rising c.index-run-run.is taken)

pub kept-count-requires-clause-rising : goal.kept-count-requires-clause-rising
kept-count-requires-clause-rising c =
    let points : List Sight = c.self.inside.points.items in
    let front : ℕ = c.self.inside.front in
    let taken : IsHullOf c.args.slack (take (length c.args.run.now - 1) c.args.run.now) (drop front points) c.self.inside.best =
    subst (λ (v : HullView). IsHullOf c.args.slack (take (length c.args.run.now - 1) c.args.run.now) v.points v.best) (sym c.self.view_is) c.requires.taken in
    subst (EachPair IsEarlier) (sym (part_is c.deref.result.now points front c.steepest-place.result c.deref.ensures.value))
    (part_rising c.args.slack c.args.run.now (drop front points) c.self.inside.best c.index-run-run.result c.requires.some c.requires.rising c.index-run-run.is taken c.steepest-place.result)

pub kept-count-requires-clause-convex : goal.kept-count-requires-clause-convex
kept-count-requires-clause-convex c =
    let points : List Sight = c.self.inside.points.items in
    let front : ℕ = c.self.inside.front in
    let taken : IsHullOf c.args.slack (take (length c.args.run.now - 1) c.args.run.now) (drop front points) c.self.inside.best =
    subst (λ (v : HullView). IsHullOf c.args.slack (take (length c.args.run.now - 1) c.args.run.now) v.points v.best) (sym c.self.view_is) c.requires.taken in
    subst IsConvex (sym (part_is c.deref.result.now points front c.steepest-place.result c.deref.ensures.value))
    (part_convex c.args.slack c.args.run.now (drop front points) c.self.inside.best c.index-run-run.result c.requires.some c.requires.rising c.index-run-run.is taken c.steepest-place.result)

pub kept-count-requires-clause-before : goal.kept-count-requires-clause-before
kept-count-requires-clause-before c =
    let points : List Sight = c.self.inside.points.items in
    let front : ℕ = c.self.inside.front in
    let taken : IsHullOf c.args.slack (take (length c.args.run.now - 1) c.args.run.now) (drop front points) c.self.inside.best =
    subst (λ (v : HullView). IsHullOf c.args.slack (take (length c.args.run.now - 1) c.args.run.now) v.points v.best) (sym c.self.view_is) c.requires.taken in
    subst (AllByRecursion (λ x. x.tick < c.index-run-run.result.tick)) (sym (part_is c.deref.result.now points front c.steepest-place.result c.deref.ensures.value))
    (part_before c.args.slack c.args.run.now (drop front points) c.self.inside.best c.index-run-run.result c.requires.some c.requires.rising c.index-run-run.is taken c.steepest-place.result)

pub steeper_of-pair-requires-clause-best : goal.steeper_of-pair-requires-clause-best
steeper_of-pair-requires-clause-best c =
    let taken : IsHullOf c.args.slack (take (length c.args.run.now - 1) c.args.run.now) (drop c.self.inside.front c.self.inside.points.items) c.self.inside.best =
    subst (λ (v : HullView). IsHullOf c.args.slack (take (length c.args.run.now - 1) c.args.run.now) v.points v.best) (sym c.self.view_is) c.requires.taken in
    best_rises c.args.slack c.args.run.now (drop c.self.inside.front c.self.inside.points.items) c.self.inside.best c.index-run-run.result c.requires.some c.requires.rising c.index-run-run.is taken

pub steeper_of-pair-requires-clause-pair : goal.steeper_of-pair-requires-clause-pair
steeper_of-pair-requires-clause-pair c =
    let points : List Sight = c.self.inside.points.items in
    let front : ℕ = c.self.inside.front in
    let place : ℕ = c.steepest-place.result in
    let live = live_is c.deref.result.now points front c.deref.ensures.value in
    let taken : IsHullOf c.args.slack (take (length c.args.run.now - 1) c.args.run.now) (drop front points) c.self.inside.best =
    subst (λ (v : HullView). IsHullOf c.args.slack (take (length c.args.run.now - 1) c.args.run.now) v.points v.best) (sym c.self.view_is) c.requires.taken in
    let s : IsSteepestAt c.args.slack (drop front points) c.index-run-run.result place = subst (λ (xs : List Sight). IsSteepestAt c.args.slack xs c.index-run-run.result place) live c.steepest-place.ensures in
    let at : c.index-live-place.result ≡ get_or (drop front points) place c.index-live-place.result = subst (λ (xs : List Sight). c.index-live-place.result ≡ get_or xs place c.index-live-place.result) live c.index-live-place.is in
    let inside : place < length (drop front points) = within_place (drop front points) place s.top s.rest s.here in
    subst (λ (o : Sight). o.tick < c.index-run-run.result.tick) (sym (top_is c.args.slack c.args.run.now (drop front points) c.self.inside.best c.index-run-run.result c.requires.some c.requires.rising c.index-run-run.is taken place s c.index-live-place.result inside at))
    (top_before c.args.slack c.args.run.now (drop front points) c.self.inside.best c.index-run-run.result c.requires.some c.requires.rising c.index-run-run.is taken place s)

pub returns : goal.returns
returns c =
    let points : List Sight = c.self.inside.points.items in
    let front : ℕ = c.self.inside.front in
    let place : ℕ = c.steepest-place.result in
    let count : ℕ = c.kept-count.result in
    let live = live_is c.deref.result.now points front c.deref.ensures.value in
    let part = part_is c.deref.result.now points front place c.deref.ensures.value in
    let taken : IsHullOf c.args.slack (take (length c.args.run.now - 1) c.args.run.now) (drop front points) c.self.inside.best =
    subst (λ (v : HullView). IsHullOf c.args.slack (take (length c.args.run.now - 1) c.args.run.now) v.points v.best) (sym c.self.view_is) c.requires.taken in
    let s : IsSteepestAt c.args.slack (drop front points) c.index-run-run.result place = subst (λ (xs : List Sight). IsSteepestAt c.args.slack xs c.index-run-run.result place) live c.steepest-place.ensures in
    let at : c.index-live-place.result ≡ get_or (drop front points) place c.index-live-place.result = subst (λ (xs : List Sight). c.index-live-place.result ≡ get_or xs place c.index-live-place.result) live c.index-live-place.is in
    let inside : place < length (drop front points) = within_place (drop front points) place s.top s.rest s.here in
    let hid : AreHidden (drop place (drop front points)) c.index-run-run.result count = subst (λ (xs : List Sight). AreHidden xs c.index-run-run.result count) part c.kept-count.ensures.hidden in
    let convex : IsConvex (take count (drop place (drop front points)) ++ c.index-run-run.result ∷ []) = subst (λ (xs : List Sight). IsConvex (take count xs ++ c.index-run-run.result ∷ [])) part c.kept-count.ensures.convex in
    let items : c.push.new.self.items ≡ take (front + place + count) points ++ c.index-run-run.result ∷ [] =
    c.in_ok-push.ensures.items ∙ ap (λ (xs : List Sight). xs ++ c.index-run-run.result ∷ []) c.truncate.ensures.items in (
      subst (λ (xs : List Sight). IsHullOf c.args.slack c.args.run.now xs (Some c.steeper_of-pair.result)) (sym (ap (drop (front + place)) items ∙ new_points points front place count c.index-run-run.result hid.some hid.within))
          (takes c.args.slack c.args.run.now (drop front points) c.self.inside.best c.index-run-run.result c.requires.some c.requires.rising c.index-run-run.is taken place count c.index-live-place.result c.steeper_of-pair.result inside at s hid convex c.steeper_of-pair.ensures),
      refl,
    )
