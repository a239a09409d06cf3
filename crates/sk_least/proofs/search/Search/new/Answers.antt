use Rattle.std.proofs.Common.{◌≡◌, ℕ, ◌<◌, ◌≤◌, List, [], ◌∷◌, ◌++◌, length, map, take, sym, ap, subst, arith, ◌∙◌}
use Rattle.std.proofs.lemmas.List.{take_all}
use Rattle.sk_clock.specs.Clock.{ClockView}
use Rattle.sk_publishing.specs.Row.{RowView}
use Rattle.sk_publishing.specs.Terms.{Sight, sights}
use Rattle.sk_least.specs.Search.{turned, SearchView, IsSearch}
use Rattle.sk_least.proofs.Placed.{in_place, is_search, one_placed, one_turned, length_sights, place_is, tick_within}
use Rattle.sk_least.proofs.search.Search.new.Goals as goal

pub point_at-point-requires : goal.point_at-point-requires
point_at-point-requires c =
    let most = tick_within _ c.args.observations.now c.loop-observation.observation-index c.observation-item.result (omega arith) c.observation-item.is c.requires.observations.within in
    let short = c.total-total.ensures.clock.partitions.together in omega arith

pub loop-observation-preserved : goal.loop-observation-preserved
loop-observation-preserved c =
    let i : ℕ = c.loop-observation.observation-index in
    let rows : List RowView = c.args.observations.now in
    let row : RowView = c.observation-item.result in
    let inside : i < length rows = omega arith in
    let point : c.point_at-point.result ≡ in_place i row = c.point_at-point.ensures ∙ ap (λ (n : ℕ). in_place n row) (place_is rows i c.as_slice.result.now inside (c.as_slice.ensures.value ∙ c.loop-observation.invariant.points)) in
    record {
      points = c.in_ok-push.ensures.items ∙ ap (λ (xs : List Sight). xs ++ c.point_at-point.result ∷ []) c.loop-observation.invariant.points
          ∙ ap (λ (o : Sight). take i (sights rows) ++ o ∷ []) point ∙ sym (one_placed rows i row inside c.observation-item.is);
      over = c.in_ok-push-2.ensures.items ∙ ap (λ (xs : List Sight). xs ++ c.turned.result ∷ []) c.loop-observation.invariant.over
          ∙ ap (λ (o : Sight). map turned (take i (sights rows)) ++ o ∷ []) (c.turned.ensures ∙ ap turned point) ∙ sym (one_turned rows i row inside c.observation-item.is);
    }

pub invariant_of-result : goal.invariant_of-result
invariant_of-result c =
    let rows : List RowView = c.args.observations.now in
    let all : take c.loop-observation.observation-index (sights rows) ≡ sights rows = take_all c.loop-observation.observation-index (sights rows) (subst (λ (n : ℕ). n ≤ c.loop-observation.observation-index) (sym (length_sights rows)) (omega arith)) in
    subst (λ (xs : List Sight). IsSearch (record { clock = c.args.clock.now; tolerance = c.args.tolerance; all = xs }) c.loop-observation.over.items) (sym (c.loop-observation.invariant.points ∙ all))
    (is_search c.args.clock.now c.args.tolerance rows c.loop-observation.over.items c.requires.observations c.requires.tolerance (c.loop-observation.invariant.over ∙ ap (map turned) all))

abbrev the_view : ClockView → ℕ → List Sight → SearchView
the_view clock tolerance all = record { clock = clock; tolerance = tolerance; all = all }

pub returns : goal.returns
returns c =
    let rows : List RowView = c.args.observations.now in
    let all : take c.loop-observation.observation-index (sights rows) ≡ sights rows = take_all c.loop-observation.observation-index (sights rows) (subst (λ (n : ℕ). n ≤ c.loop-observation.observation-index) (sym (length_sights rows)) (omega arith)) in
    ap (λ (xs : List Sight). the_view c.args.clock.now c.args.tolerance xs) (c.loop-observation.invariant.points ∙ all)
