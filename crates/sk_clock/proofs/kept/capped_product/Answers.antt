use Rattle.std.proofs.Common.{◌≡◌, ◌*◌, ◌+◌, ◌^◌, ◌∙◌, sym, ℕ, get_or, drop, arith, min, ap}
use Rattle.std.proofs.Math.Nat.{mul-pos}
use Rattle.std.proofs.lemmas.List.{at_drop_more}
use Rattle.sk_clock.specs.Clock.{product}
use Rattle.sk_clock.proofs.FieldLemmas.{AllInRange-drop, product-some, capped-step}
use Rattle.sk_clock.proofs.kept.capped_product.Goals as goal

pub loop-modulus-preserved : goal.loop-modulus-preserved
loop-modulus-preserved c =
    let ns = c.args.moduli.now in
    let i = c.loop-modulus.modulus-index in
    let here = c.requires i 0 (omega arith) in
    let rest = product-some (drop (i + 1) ns) (AllInRange-drop _ _ (i + 1) ns c.requires) in
    let step : product (drop i ns) ≡ get_or ns i 0 * product (drop (i + 1) ns) = at_drop_more product ns i 0 (omega arith) in
    let capped = capped-step c.loop-modulus.value (get_or ns i 0) (product (drop (i + 1) ns)) (2 ^ 32 + 1) here.0 rest in
    let now : c.min-value.result ≡ min (c.loop-modulus.value * get_or ns i 0) (2 ^ 32 + 1) = omega arith in
    record {
      some = omega (arith, now, here.0, c.loop-modulus.invariant.some, mul-pos c.loop-modulus.invariant.some here.0);
      few = omega (arith, now);
      same = ap (λ (n : ℕ). min (n * product (drop (i + 1) ns)) (2 ^ 32 + 1)) now ∙ (capped ∙ (ap (λ (n : ℕ). min (c.loop-modulus.value * n) (2 ^ 32 + 1)) (sym step) ∙ c.loop-modulus.invariant.same));
    }
