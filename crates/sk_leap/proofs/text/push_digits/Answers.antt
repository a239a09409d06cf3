use Rattle.std.proofs.Common.{◌≡◌, ◌+◌, ◌-◌, ◌/◌, ◌%◌, ◌^◌, ap, ℕ, ◌∙◌, ◌<◌, arith}
use Rattle.std.specs.String.{string_bytes}
use Rattle.sk_leap.specs.Digits.{last_digits}
use Rattle.sk_leap.proofs.Padded.{power_some}
use Rattle.sk_leap.proofs.Printing.{digit_step}
use Rattle.sk_leap.proofs.text.push_digits.Goals as goal

pub nonzero_div-digit : goal.nonzero_div-digit
nonzero_div-digit c = omega (arith, c.pow.ensures, power_some (c.loop-place.place - 1))

pub loop-place-preserved : goal.loop-place-preserved
loop-place-preserved c =
    let digit : c.from.result ≡ 48 + c.args.number / 10 ^ (c.loop-place.place - 1) % 10 = c.from.ensures ∙ ap (λ (p : ℕ). 48 + c.args.number / p % 10) c.pow.ensures in
    let small : c.from.result < 128 = omega (arith, digit) in
    record {
      room = omega (arith, c.loop-place.invariant.room);
      text = digit_step (string_bytes c.loop-place.text) (string_bytes c.push.new.self) _ _ c.loop-place.place c.args.number c.from.result c.loop-place-test.true
          c.in_ok-push.ensures.bytes (c.in_ok-push.ensures.ascii small) digit c.loop-place.invariant.text;
    }
