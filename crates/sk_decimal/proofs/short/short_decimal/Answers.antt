use Rattle.std.proofs.Common.{◌≡◌, ◌+◌, ◌<◌, ◌≤◌, ◌^◌, ◌*◌, ◌++◌, length, ap, sym, ◌∙◌, arith, ℕ, cond}
use Rattle.std.specs.Str.Parse.{digits_value, digits_value_after}
use Rattle.sk_decimal.specs.Power.{with_power}
use Rattle.sk_decimal.proofs.Deciding.{after-append}
use Rattle.sk_decimal.proofs.FewDigits.{both_few, short_is}
use Rattle.sk_decimal.proofs.Wide.{pow_le}
use Rattle.sk_decimal.proofs.short.short_decimal.Goals as goal

pub short_value-requires-clause-few : goal.short_value-requires-clause-few
short_value-requires-clause-few c = omega (arith, pow_le (length c.args.whole.now) 18 (omega (arith, c.requires.few)))

pub short_value-size-requires-clause-few : goal.short_value-size-requires-clause-few
short_value-size-requires-clause-few c = both_few c.short_value.result (length c.args.whole.now) (length c.args.fraction.now) c.short_value.ensures.small c.requires.few

pub placed-requires-clause-size : goal.placed-requires-clause-size
placed-requires-clause-size c =
    let few = both_few c.short_value.result (length c.args.whole.now) (length c.args.fraction.now) c.short_value.ensures.small c.requires.few in
    omega (arith, few, c.short_value-size.ensures.small)

pub returns : goal.returns
returns c =
    let is : c.short_value-size.result ≡ digits_value 10 (c.args.whole.now ++ c.args.fraction.now) =
    c.short_value-size.ensures.value ∙ ap (λ (n : ℕ). digits_value_after 10 n c.args.fraction.now) c.short_value.ensures.value ∙ sym (after-append 0 c.args.whole.now c.args.fraction.now) in
    short_is (with_power c.args.negative c.args.whole.now c.args.fraction.now c.args.power.negative c.args.power.size) c.placed.result c.short_value-size.result c.up.result (c.down.result + length c.args.fraction.now) is c.up.ensures
    (ap (λ (n : ℕ). n + length c.args.fraction.now) c.down.ensures) c.placed.ensures
