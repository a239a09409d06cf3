use Rattle.std.proofs.Common.{rules, ◌≡◌, List, ℕ, ap, arith, ◌∙◌}
use Rattle.std.proofs.lemmas.Int.{ints}
use Rattle.std.specs.Prelude.{ℤ, ◌-ℤ◌}
use mir.Syntax.{w128}
use mir.Val.{to_z, of_z}
use Rattle.sk_clock.specs.Clock.{clock_text}
use Rattle.sk_plot.specs.Point.{PointView}
use Rattle.sk_publishing.specs.Row.{RowView}
use Rattle.sk_publishing.specs.Table.{KernelView, kernel_view}
use Rattle.sk_outcome.specs.Drawn.{point_by, residual_by}
use Rattle.sk_triples.proofs.Wide.{passed_small}
use Rattle.sk_commands.proofs.Timed.{timed_residual}
use Rattle.sk_commands.proofs.drawn.point_of.Goals as goal

abbrev passed : ℤ → ℤ
passed z = to_z w128 (of_z w128 z)

-- a point with these members
abbrev point : List ℕ → List ℕ → ℤ → ℤ → PointView
point id clock time residual = record { id = id; clock = clock; time = time; residual = residual }

same_point : (a a' b b' : List ℕ) (c c' d d' : ℤ) → a ≡ a' → b ≡ b' → c ≡ c' → d ≡ d' → point a b c d ≡ point a' b' c' d'
same_point a a' b b' c c' d d' p q r s =
    ap (λ (x : List ℕ). point x b c d) p ∙ ap (λ (x : List ℕ). point a' x c d) q ∙ ap (λ (x : ℤ). point a' b' x d) r ∙ ap (λ (x : ℤ). point a' b' c' x) s

pub returns : goal.returns
returns c =
    let k : KernelView = kernel_view 12 c.args.clock.now c.args.triples.now.triples in
    let row : RowView = c.args.observation.now in
    let id : c.in-Ok-copied.id.items ≡ row.id = search rules in
    let clock : c.into_bytes.result.items ≡ clock_text c.args.clock.now row.tick = search rules in
    let time : c.observation.inside.time.units ≡ row.time = search rules in
    let units : ℤ = c.observation.inside.time.units in
    let by : ℤ = c.in-Ok.timed.time.units in
    let own : passed units ≡ units = passed_small units (omega (arith, ints, c.observation.invariant.time)) (omega (arith, ints, c.observation.invariant.time)) in
    let own_by : passed by ≡ by = passed_small by (omega (arith, ints, c.in-Ok.ensures.from)) (omega (arith, ints, c.in-Ok.ensures.to)) in
    let apart : passed (units -ℤ by) ≡ units -ℤ by =
    passed_small (units -ℤ by) (omega (arith, ints, c.observation.invariant.time, c.in-Ok.ensures.to)) (omega (arith, ints, c.observation.invariant.time, c.in-Ok.ensures.from)) in
    let difference : passed (passed units -ℤ passed by) ≡ row.time -ℤ by =
    ap (λ (z : ℤ). passed (z -ℤ passed by)) own ∙ ap (λ (z : ℤ). passed (units -ℤ z)) own_by ∙ apart ∙ ap (λ (z : ℤ). z -ℤ by) time in
    let residual = difference ∙ timed_residual c.args.triples.now c.args.clock.now row c.in-Ok.timed c.requires (search rules) in
    (search rules, same_point _ _ _ _ _ _ _ _ id clock time residual)
