use Rattle.std.proofs.Common.{◌≡◌, arith, subst, ap, ◌∙◌}
use Rattle.std.proofs.lemmas.Int.{ints, to_z-of_z}
use mir.Syntax.{w128}
use Rattle.std.specs.Prelude.{ℤ, ◌≤ℤ◌, ◌<ℤ◌}
use Rattle.sk_decimal.specs.Quotient.{floor_quotient}
use Rattle.sk_audit.specs.Given.{band_view}
use Rattle.sk_audit.specs.Gains.{IsGreatestGain}
use Rattle.sk_audit.proofs.Quotients.{greatest_over, greatest_inside, greatest_under}
use Rattle.sk_audit.proofs.gains.greatest_gain.Goals as goal

pub returns-then-quotient-band : goal.returns-then-quotient-band
returns-then-quotient-band c =
    let same : c.floor_by-quotient.result ≡ floor_quotient c.args.room c.args.step =
    c.floor_by-quotient.ensures.value ∙ ap (λ (z : ℤ). floor_quotient z c.args.step) (to_z-of_z w128 c.args.room c.ranges.room) in
    let under : floor_quotient c.args.room c.args.step <ℤ c.args.band.least =
    subst (λ (q : ℤ). q <ℤ c.args.band.least) same (omega (arith, ints)) in
    subst (IsGreatestGain (band_view c.args.band) c.args.room c.args.step) (omega (arith, ints))
    (greatest_under (band_view c.args.band) c.requires.filled c.args.room c.args.step (omega arith) under)

pub returns-then-quotient-band-2 : goal.returns-then-quotient-band-2
returns-then-quotient-band-2 c =
    let same : c.floor_by-quotient.result ≡ floor_quotient c.args.room c.args.step =
    c.floor_by-quotient.ensures.value ∙ ap (λ (z : ℤ). floor_quotient z c.args.step) (to_z-of_z w128 c.args.room c.ranges.room) in
    let high : floor_quotient c.args.room c.args.step ≤ℤ c.args.band.greatest =
    subst (λ (q : ℤ). q ≤ℤ c.args.band.greatest) same (omega (arith, ints)) in
    let low : c.args.band.least ≤ℤ floor_quotient c.args.room c.args.step =
    subst (λ (q : ℤ). c.args.band.least ≤ℤ q) same (omega (arith, ints)) in
    subst (IsGreatestGain (band_view c.args.band) c.args.room c.args.step) (omega (arith, ints, same))
    (greatest_inside (band_view c.args.band) c.requires.filled c.args.room c.args.step (omega arith) low high)

pub returns : goal.returns
returns c =
    let same : c.floor_by-quotient.result ≡ floor_quotient c.args.room c.args.step =
    c.floor_by-quotient.ensures.value ∙ ap (λ (z : ℤ). floor_quotient z c.args.step) (to_z-of_z w128 c.args.room c.ranges.room) in
    let over : c.args.band.greatest ≤ℤ floor_quotient c.args.room c.args.step =
    subst (λ (q : ℤ). c.args.band.greatest ≤ℤ q) same (omega (arith, ints)) in
    subst (IsGreatestGain (band_view c.args.band) c.args.room c.args.step) (omega (arith, ints))
    (greatest_over (band_view c.args.band) c.requires.filled c.args.room c.args.step (omega arith) over)
