use Rattle.std.proofs.Common.{◌≡◌, ◌-◌, length, decimal, replicate, append_assoc, ap, arith}
use Rattle.std.specs.String.{string_bytes}
use Rattle.sk_clock.proofs.text.push_padded.Goals as goal

pub returns : goal.returns
returns c =
    let digits = c.format-digits.result.now in
    let same : digits ≡ decimal c.args.number = c.format-digits.ensures.text in
    let many : c.loop.counter - length digits ≡ c.args.width - length (decimal c.args.number) = omega (arith, ap length same) in
    let split = append_assoc (string_bytes c.args.text.now) (replicate (c.loop.counter - length digits) 48) digits in
    cc (c.in_ok-push_str.ensures.bytes, c.loop.invariant.zeros)
