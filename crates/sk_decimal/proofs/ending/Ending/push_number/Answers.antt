use Rattle.std.proofs.Common.{◌≡◌, ◌+◌, ◌<◌, ◌≤◌, ◌^◌, List, ℕ, length, drop, ap, ◌∙◌, arith, length-drop, length-append}
use Rattle.std.specs.Fmt.{decimal}
use Rattle.std.proofs.lemmas.Fmt.{length-decimal-le}
use Rattle.sk_decimal.proofs.ending.Ending.push_number.Goals as goal

short : (n : ℕ) → n < 2 ^ 64 → length (decimal n) ≤ 20
short n fits = length-decimal-le 20 n (omega arith) (omega arith) fits

pub write_digits-self-inside-requires : goal.write_digits-self-inside-requires
write_digits-self-inside-requires c =
    (omega (arith, short c.args.number c.ranges.number.fits, c.requires, ap length c.self.view_is, length-drop c.self.inside.start c.self.inside.bytes, c.self.told), omega (arith, c.self.told, c.self.invariant))

pub returns-clause-length : goal.returns-clause-length
returns-clause-length c =
    let long : length (drop c.write_digits-self-inside.result c.write_digits-self-inside.new.buf) ≡ length (decimal c.args.number) + length c.args.self.now =
    ap length c.write_digits-self-inside.ensures.written ∙ length-append (decimal c.args.number) (drop c.self.inside.start c.self.inside.bytes) ∙ ap (λ (l : List ℕ). length (decimal c.args.number) + length l) c.self.view_is in
    omega (arith, long, short c.args.number c.ranges.number.fits)
