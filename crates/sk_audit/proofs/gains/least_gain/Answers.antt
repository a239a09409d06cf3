use Rattle.std.proofs.Common.{◌≡◌, arith, subst, ap, ◌∙◌}
use Rattle.std.proofs.lemmas.Int.{ints, to_z-of_z}
use mir.Syntax.{w128}
use Rattle.std.specs.Prelude.{ℤ, ◌≤ℤ◌, ◌<ℤ◌}
use Rattle.sk_decimal.specs.Quotient.{ceiling_quotient}
use Rattle.sk_audit.specs.Given.{band_view}
use Rattle.sk_audit.specs.Gains.{IsLeastGain}
use Rattle.sk_audit.proofs.Quotients.{least_over, least_inside, least_under}
use Rattle.sk_audit.proofs.gains.least_gain.Goals as goal

pub returns-then-quotient-band : goal.returns-then-quotient-band
returns-then-quotient-band c =
    let same : c.ceiling_by-quotient.result ≡ ceiling_quotient c.args.wanted c.args.step =
    c.ceiling_by-quotient.ensures ∙ ap (λ (z : ℤ). ceiling_quotient z c.args.step) (to_z-of_z w128 c.args.wanted c.ranges.wanted) in
    let over : c.args.band.greatest <ℤ ceiling_quotient c.args.wanted c.args.step =
    subst (λ (q : ℤ). c.args.band.greatest <ℤ q) same (omega (arith, ints)) in
    subst (IsLeastGain (band_view c.args.band) c.args.wanted c.args.step) (omega (arith, ints))
    (least_over (band_view c.args.band) c.requires.filled c.args.wanted c.args.step (omega arith) over)

pub returns-then-quotient-band-2 : goal.returns-then-quotient-band-2
returns-then-quotient-band-2 c =
    let same : c.ceiling_by-quotient.result ≡ ceiling_quotient c.args.wanted c.args.step =
    c.ceiling_by-quotient.ensures ∙ ap (λ (z : ℤ). ceiling_quotient z c.args.step) (to_z-of_z w128 c.args.wanted c.ranges.wanted) in
    let high : ceiling_quotient c.args.wanted c.args.step ≤ℤ c.args.band.greatest =
    subst (λ (q : ℤ). q ≤ℤ c.args.band.greatest) same (omega (arith, ints)) in
    let low : c.args.band.least ≤ℤ ceiling_quotient c.args.wanted c.args.step =
    subst (λ (q : ℤ). c.args.band.least ≤ℤ q) same (omega (arith, ints)) in
    subst (IsLeastGain (band_view c.args.band) c.args.wanted c.args.step) (omega (arith, ints, same))
    (least_inside (band_view c.args.band) c.requires.filled c.args.wanted c.args.step (omega arith) high low)

pub returns : goal.returns
returns c =
    let same : c.ceiling_by-quotient.result ≡ ceiling_quotient c.args.wanted c.args.step =
    c.ceiling_by-quotient.ensures ∙ ap (λ (z : ℤ). ceiling_quotient z c.args.step) (to_z-of_z w128 c.args.wanted c.ranges.wanted) in
    let under : ceiling_quotient c.args.wanted c.args.step ≤ℤ c.args.band.least =
    subst (λ (q : ℤ). q ≤ℤ c.args.band.least) same (omega (arith, ints)) in
    subst (IsLeastGain (band_view c.args.band) c.args.wanted c.args.step) (omega (arith, ints))
    (least_under (band_view c.args.band) c.requires.filled c.args.wanted c.args.step (omega arith) under)
