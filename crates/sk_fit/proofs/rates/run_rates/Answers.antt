use Rattle.std.proofs.Common.{◌≡◌, suc, ◌+◌, ◌<◌, ◌↔◌, ◌∷◌, arith, rules, length, subst, sym, ap, ◌∙◌, add-one, drop, drop-cons}
use Rattle.std.proofs.lemmas.Int.{ints}
use Rattle.std.proofs.lemmas.List.{drop_all}
use mir.Syntax.{w128}
use mir.Val.{to_z, of_z}
use Rattle.std.specs.Prelude.{ℤ, ◌≤ℤ◌}
use Rattle.sk_publishing.specs.Row.{RowView}
use Rattle.sk_fit.specs.Given.{gauge_of, anchor_of, band_view}
use Rattle.sk_fit.proofs.Quotients.{passed_on}
use Rattle.sk_fit.proofs.Runs.{Reads, reads_more, reads_some}
use Rattle.sk_fit.proofs.rates.run_rates.Goals as goal

pub loop-obs-preserved : goal.loop-obs-preserved
loop-obs-preserved c =
    let inside : c.loop-obs.obs-index < length c.args.observations.now = omega arith in
    let next : drop c.loop-obs.obs-index c.args.observations.now ≡ c.obs-item.result ∷ drop (c.loop-obs.obs-index + 1) c.args.observations.now =
    rw add-one (drop-cons c.args.observations.now c.loop-obs.obs-index c.obs-item.result inside
    ∙ ap (λ (o : RowView). o ∷ drop (suc c.loop-obs.obs-index) c.args.observations.now) (sym c.obs-item.is)) in
    let least : to_z w128 (of_z w128 c.bounds-bound.result.least) ≡ c.bounds-bound.result.least = search rules in
    let greatest : to_z w128 (of_z w128 c.bounds-bound.result.greatest) ≡ c.bounds-bound.result.greatest = search rules in
    let law : Reads (gauge_of c.args.settings.now c.args.clock.now) (band_view c.args.band) (anchor_of c.args.line) c.args.observations.now
    (c.loop-obs.obs-index + 1) c.greater-least.result c.lesser-greatest.result =
    reads_more (gauge_of c.args.settings.now c.args.clock.now) (band_view c.args.band) (anchor_of c.args.line) c.args.observations.now
    c.loop-obs.obs-index c.obs-item.result (to_z w128 c.loop-obs.least-bits) (to_z w128 c.loop-obs.greatest-bits)
    c.bounds-bound.result.least c.bounds-bound.result.greatest _ _ next c.bounds-bound.ensures.least c.bounds-bound.ensures.greatest
    (subst (λ (x : ℤ). (n : ℤ) → (c.greater-least.result ≤ℤ n) ↔ ((to_z w128 c.loop-obs.least-bits ≤ℤ n) × (x ≤ℤ n))) least c.greater-least.ensures)
    (subst (λ (x : ℤ). (n : ℤ) → (n ≤ℤ c.lesser-greatest.result) ↔ ((n ≤ℤ to_z w128 c.loop-obs.greatest-bits) × (n ≤ℤ x))) greatest c.lesser-greatest.ensures)
    c.loop-obs.invariant in
    let a = passed_on c.greater-least.result c.greater-least.type_inv in
    let b = passed_on c.lesser-greatest.result c.lesser-greatest.type_inv in
    subst (λ (x : ℤ). Reads (gauge_of c.args.settings.now c.args.clock.now) (band_view c.args.band) (anchor_of c.args.line) c.args.observations.now
    (c.loop-obs.obs-index + 1) x (to_z w128 (of_z w128 c.lesser-greatest.result))) (sym a)
    (subst (λ (x : ℤ). Reads (gauge_of c.args.settings.now c.args.clock.now) (band_view c.args.band) (anchor_of c.args.line) c.args.observations.now
    (c.loop-obs.obs-index + 1) c.greater-least.result x) (sym b) law)

pub returns-then-least-greatest-clause-some : goal.returns-then-least-greatest-clause-some
returns-then-least-greatest-clause-some c =
    reads_some (gauge_of c.args.settings.now c.args.clock.now) (band_view c.args.band) (anchor_of c.args.line) c.args.observations.now c.loop-obs.obs-index _ _
    (drop_all c.loop-obs.obs-index c.args.observations.now (omega arith)) c.loop-obs.invariant (omega (arith, ints))
