use Rattle.std.proofs.Common.{◌≡◌, ◌+◌, ◌-◌, ◌*◌, ℕ, List, Some, length, map, take, drop, get_or, sym, ap, subst, arith, rules, ◌∙◌}
use Rattle.sk_clock.specs.Clock.{lengths}
use Rattle.sk_publishing.specs.Terms.{Sight}
use Rattle.sk_least.specs.Cover.{partition_at}
use Rattle.sk_least.specs.Hull.{IsHullOf}
use Rattle.sk_least.specs.Search.{turned, IsConflict, SearchView, IsSearch, between_places, HullsView, IsRun, EndsAs}
use Rattle.sk_least.proofs.Runs.{goes_on, ends_bent}
use Rattle.sk_least.proofs.Grown.{part_is, turned_part_is, part_rising, turned_part_rising, seen_is, turned_seen_is, best_rises}
use Rattle.sk_least.proofs.search.Search.grow.Goals as goal

pub take-requires-clause-rising : goal.take-requires-clause-rising
take-requires-clause-rising c =
    let v : SearchView = c.args.self.now in
    let is : IsSearch v c.self.inside.turned.items = subst (λ (x : SearchView). IsSearch x c.self.inside.turned.items) c.self.view_is c.self.invariant in
    part_rising v.all c.args.first (c.args.past + 1) c.as_slice-points.result.now (c.as_slice-points.ensures.value ∙ ap (λ (x : SearchView). x.all) c.self.view_is) is.rising

pub take-requires-clause-taken : goal.take-requires-clause-taken
take-requires-clause-taken c =
    let v : SearchView = c.args.self.now in
    let o : Sight = c.index-points-past.result in
    let points : c.as_slice-points.result.now ≡ v.all = c.as_slice-points.ensures.value ∙ ap (λ (x : SearchView). x.all) c.self.view_is in
    let at : o ≡ get_or v.all c.args.past o = subst (λ (xs : List Sight). o ≡ get_or xs c.args.past o) points c.index-points-past.is in
    let run : IsRun v c.args.first c.args.past (record { need = c.hulls.inside.need; room = c.hulls.inside.room }) = subst (IsRun v c.args.first c.args.past) (sym c.hulls.view_is) c.requires.run in
    subst (λ (n : ℕ). IsHullOf (2 * n) (take (length (take (c.args.past + 1 - c.args.first) (drop c.args.first c.as_slice-points.result.now)) - 1) (take (c.args.past + 1 - c.args.first) (drop c.args.first c.as_slice-points.result.now))) c.hulls.inside.need.points c.hulls.inside.need.best) (sym (ap (λ (x : SearchView). x.tolerance) c.self.view_is))
    (subst (λ (xs : List Sight). IsHullOf (2 * v.tolerance) xs c.hulls.inside.need.points c.hulls.inside.need.best)
    (sym (seen_is v.all c.as_slice-points.result.now c.args.first c.args.past o (let a = run.some in omega arith) c.requires.inside at points)) run.need)

pub take-requires-2-clause-rising : goal.take-requires-2-clause-rising
take-requires-2-clause-rising c =
    let v : SearchView = c.args.self.now in
    let is : IsSearch v c.self.inside.turned.items = subst (λ (x : SearchView). IsSearch x c.self.inside.turned.items) c.self.view_is c.self.invariant in
    turned_part_rising v.all c.args.first (c.args.past + 1) c.as_slice-turned.result.now (c.as_slice-turned.ensures.value ∙ is.is_over) is.rising

pub take-requires-2-clause-taken : goal.take-requires-2-clause-taken
take-requires-2-clause-taken c =
    let v : SearchView = c.args.self.now in
    let is : IsSearch v c.self.inside.turned.items = subst (λ (x : SearchView). IsSearch x c.self.inside.turned.items) c.self.view_is c.self.invariant in
    let o : Sight = c.index-points-past.result in
    let points : c.as_slice-points.result.now ≡ v.all = c.as_slice-points.ensures.value ∙ ap (λ (x : SearchView). x.all) c.self.view_is in
    let at : o ≡ get_or v.all c.args.past o = subst (λ (xs : List Sight). o ≡ get_or xs c.args.past o) points c.index-points-past.is in
    let run : IsRun v c.args.first c.args.past (record { need = c.hulls.inside.need; room = c.hulls.inside.room }) = subst (IsRun v c.args.first c.args.past) (sym c.hulls.view_is) c.requires.run in
    subst (λ (n : ℕ). IsHullOf (2 * n) (take (length (take (c.args.past + 1 - c.args.first) (drop c.args.first c.as_slice-turned.result.now)) - 1) (take (c.args.past + 1 - c.args.first) (drop c.args.first c.as_slice-turned.result.now))) c.hulls.inside.room.points c.hulls.inside.room.best) (sym (ap (λ (x : SearchView). x.tolerance) c.self.view_is))
    (subst (λ (xs : List Sight). IsHullOf (2 * v.tolerance) xs c.hulls.inside.room.points c.hulls.inside.room.best)
    (sym (turned_seen_is v.all c.as_slice-turned.result.now c.args.first c.args.past o (let a = run.some in omega arith) c.requires.inside at (c.as_slice-turned.ensures.value ∙ is.is_over))) run.room)

pub is_conflict-requires-clause-need : goal.is_conflict-requires-clause-need
is_conflict-requires-clause-need c =
    let v : SearchView = c.args.self.now in
    let is : IsSearch v c.self.inside.turned.items = subst (λ (x : SearchView). IsSearch x c.self.inside.turned.items) c.self.view_is c.self.invariant in
    best_rises _ _ _ c.in_ok-need.need (part_rising v.all c.args.first (c.args.past + 1) c.as_slice-points.result.now (c.as_slice-points.ensures.value ∙ ap (λ (x : SearchView). x.all) c.self.view_is) is.rising) c.in_ok-need.ensures.0

pub is_conflict-requires-clause-room : goal.is_conflict-requires-clause-room
is_conflict-requires-clause-room c =
    let v : SearchView = c.args.self.now in
    let is : IsSearch v c.self.inside.turned.items = subst (λ (x : SearchView). IsSearch x c.self.inside.turned.items) c.self.view_is c.self.invariant in
    best_rises _ _ _ c.in_ok-room.room (turned_part_rising v.all c.args.first (c.args.past + 1) c.as_slice-turned.result.now (c.as_slice-turned.ensures.value ∙ is.is_over) is.rising) c.in_ok-room.ensures.0

pub returns-then-is_conflict : goal.returns-then-is_conflict
returns-then-is_conflict c =
    let v : SearchView = c.args.self.now in
    let is : IsSearch v c.self.inside.turned.items = subst (λ (x : SearchView). IsSearch x c.self.inside.turned.items) c.self.view_is c.self.invariant in
    let f : Sight = c.index-points-first.result in
    let o : Sight = c.index-points-past.result in
    let points : c.as_slice-points.result.now ≡ v.all = c.as_slice-points.ensures.value ∙ ap (λ (x : SearchView). x.all) c.self.view_is in
    let over : c.as_slice-turned.result.now ≡ map turned v.all = c.as_slice-turned.ensures.value ∙ is.is_over in
    let tolerance : c.self.inside.tolerance ≡ v.tolerance = ap (λ (x : SearchView). x.tolerance) c.self.view_is in
    let at_first : f ≡ get_or v.all c.args.first f = subst (λ (xs : List Sight). f ≡ get_or xs c.args.first f) points c.index-points-first.is in
    let at_past : o ≡ get_or v.all c.args.past o = subst (λ (xs : List Sight). o ≡ get_or xs c.args.past o) points c.index-points-past.is in
    let h' : HullsView = record { need = c.take.new.self; room = c.take-2.new.self } in
    let needs : IsHullOf (2 * v.tolerance) (between_places v.all c.args.first (c.args.past + 1)) c.take.new.self.points (Some c.in_ok-need.need) =
    subst (λ (n : ℕ). IsHullOf (2 * n) (between_places v.all c.args.first (c.args.past + 1)) c.take.new.self.points (Some c.in_ok-need.need)) tolerance
    (subst (λ (xs : List Sight). IsHullOf (2 * c.self.inside.tolerance) xs c.take.new.self.points (Some c.in_ok-need.need)) (part_is v.all c.args.first (c.args.past + 1) c.as_slice-points.result.now points) c.in_ok-need.ensures.0) in
    let rooms : IsHullOf (2 * v.tolerance) (map turned (between_places v.all c.args.first (c.args.past + 1))) c.take-2.new.self.points (Some c.in_ok-room.room) =
    subst (λ (n : ℕ). IsHullOf (2 * n) (map turned (between_places v.all c.args.first (c.args.past + 1))) c.take-2.new.self.points (Some c.in_ok-room.room)) tolerance
    (subst (λ (xs : List Sight). IsHullOf (2 * c.self.inside.tolerance) xs c.take-2.new.self.points (Some c.in_ok-room.room)) (turned_part_is v.all c.args.first (c.args.past + 1) c.as_slice-turned.result.now over) c.in_ok-room.ensures.0) in
    let same : partition_at (lengths v.clock) f.tick ≡ partition_at (lengths v.clock) o.tick =
    subst (λ (x : Sight). partition_at (lengths v.clock) x.tick ≡ partition_at (lengths v.clock) o.tick) c.start.view_is
    (subst (λ (x : Sight). partition_at (lengths v.clock) c.start.inside.tick ≡ partition_at (lengths v.clock) x.tick) c.next.view_is
    (subst (λ (x : SearchView). partition_at (lengths x.clock) c.start.inside.tick ≡ partition_at (lengths x.clock) c.next.inside.tick) c.self.view_is (c.are_together.ensures.0 (search rules)))) in
    let conflict : IsConflict (2 * v.tolerance) c.in_ok-need.need c.in_ok-room.room = subst (λ (n : ℕ). IsConflict (2 * n) c.in_ok-need.need c.in_ok-room.room) tolerance (c.is_conflict.ensures.0 (search rules)) in
    subst (EndsAs v c.args.first c.args.past) (sym c.bent.ensures)
    (ends_bent v c.self.inside.turned.items is c.args.first c.args.past f o c.args.hulls.now c.requires.run c.requires.inside at_first at_past same c.in_ok-need.need c.in_ok-room.room h' needs rooms conflict)

pub returns : goal.returns
returns c =
    let v : SearchView = c.args.self.now in
    let is : IsSearch v c.self.inside.turned.items = subst (λ (x : SearchView). IsSearch x c.self.inside.turned.items) c.self.view_is c.self.invariant in
    let f : Sight = c.index-points-first.result in
    let o : Sight = c.index-points-past.result in
    let points : c.as_slice-points.result.now ≡ v.all = c.as_slice-points.ensures.value ∙ ap (λ (x : SearchView). x.all) c.self.view_is in
    let over : c.as_slice-turned.result.now ≡ map turned v.all = c.as_slice-turned.ensures.value ∙ is.is_over in
    let tolerance : c.self.inside.tolerance ≡ v.tolerance = ap (λ (x : SearchView). x.tolerance) c.self.view_is in
    let at_first : f ≡ get_or v.all c.args.first f = subst (λ (xs : List Sight). f ≡ get_or xs c.args.first f) points c.index-points-first.is in
    let at_past : o ≡ get_or v.all c.args.past o = subst (λ (xs : List Sight). o ≡ get_or xs c.args.past o) points c.index-points-past.is in
    let h' : HullsView = record { need = c.take.new.self; room = c.take-2.new.self } in
    let needs : IsHullOf (2 * v.tolerance) (between_places v.all c.args.first (c.args.past + 1)) c.take.new.self.points (Some c.in_ok-need.need) =
    subst (λ (n : ℕ). IsHullOf (2 * n) (between_places v.all c.args.first (c.args.past + 1)) c.take.new.self.points (Some c.in_ok-need.need)) tolerance
    (subst (λ (xs : List Sight). IsHullOf (2 * c.self.inside.tolerance) xs c.take.new.self.points (Some c.in_ok-need.need)) (part_is v.all c.args.first (c.args.past + 1) c.as_slice-points.result.now points) c.in_ok-need.ensures.0) in
    let rooms : IsHullOf (2 * v.tolerance) (map turned (between_places v.all c.args.first (c.args.past + 1))) c.take-2.new.self.points (Some c.in_ok-room.room) =
    subst (λ (n : ℕ). IsHullOf (2 * n) (map turned (between_places v.all c.args.first (c.args.past + 1))) c.take-2.new.self.points (Some c.in_ok-room.room)) tolerance
    (subst (λ (xs : List Sight). IsHullOf (2 * c.self.inside.tolerance) xs c.take-2.new.self.points (Some c.in_ok-room.room)) (turned_part_is v.all c.args.first (c.args.past + 1) c.as_slice-turned.result.now over) c.in_ok-room.ensures.0) in
    let same : partition_at (lengths v.clock) f.tick ≡ partition_at (lengths v.clock) o.tick =
    subst (λ (x : Sight). partition_at (lengths v.clock) x.tick ≡ partition_at (lengths v.clock) o.tick) c.start.view_is
    (subst (λ (x : Sight). partition_at (lengths v.clock) c.start.inside.tick ≡ partition_at (lengths v.clock) x.tick) c.next.view_is
    (subst (λ (x : SearchView). partition_at (lengths x.clock) c.start.inside.tick ≡ partition_at (lengths x.clock) c.next.inside.tick) c.self.view_is (c.are_together.ensures.0 (search rules)))) in
    let apart : ¬ IsConflict (2 * v.tolerance) c.in_ok-need.need c.in_ok-room.room = λ conflict. grind (arith, c.is_conflict.ensures.1 (subst (λ (n : ℕ). IsConflict (2 * n) c.in_ok-need.need c.in_ok-room.room) (sym tolerance) conflict)) in
    goes_on v c.self.inside.turned.items is c.args.first c.args.past f o c.args.hulls.now c.requires.run c.requires.inside at_first at_past same c.in_ok-need.need c.in_ok-room.room h' needs rooms apart c.in_ok-need.ensures.1 c.in_ok-room.ensures.1
