-- How large a quotient of 128 bits is.
use Rattle.std.proofs.Common.{ℕ, ◌*◌, ◌<◌, ◌≤◌, ◌^◌, arith}
use Rattle.std.proofs.lemmas.Int.{ints, by_lt_z}
use Rattle.std.proofs.Math.Nat.{mul-le-mul_left}
use lib.Signed.{mag}
use Rattle.std.specs.Prelude.{ℤ, pos, negsuc, neg_ℤ, ◌+ℤ◌, ◌*ℤ◌, ◌≤ℤ◌, ◌<ℤ◌}
use Rattle.sk_decimal.specs.Fixed.{IsFloor}
use Rattle.sk_decimal.proofs.Signed.{mul-le_right}

-- a number below 2 ^ 127 over a million or more
pub floor_to : (a q : ℤ) (d : ℕ) → a ≤ℤ pos (2 ^ 127) → 10 ^ 6 ≤ d → IsFloor a (pos d) q → q ≤ℤ pos (10 ^ 33)
floor_to a (pos n) d most large is =
    let more : n * 10 ^ 6 ≤ n * d = mul-le-mul_left n large in
    let under = is.0 in
    omega (arith, ints)
floor_to a (negsuc n) d most large is = omega (arith, ints)

pub floor_from : (a q : ℤ) (d : ℕ) → neg_ℤ (pos (2 ^ 127)) ≤ℤ a → 10 ^ 6 ≤ d → IsFloor a (pos d) q → neg_ℤ (pos (10 ^ 33)) ≤ℤ q
floor_from a q d least large is = by_lt_z q (neg_ℤ (pos (10 ^ 33)))
    (λ less. absurd (let more : ((q +ℤ pos 1) *ℤ pos d) ≤ℤ (neg_ℤ (pos (10 ^ 33)) *ℤ pos d) = mul-le_right (q +ℤ pos 1) (neg_ℤ (pos (10 ^ 33))) d (next q less) in
    let far : 10 ^ 33 * 10 ^ 6 ≤ 10 ^ 33 * d = mul-le-mul_left (10 ^ 33) large in
    let above = is.1 in
    apart a (((q +ℤ pos 1) *ℤ pos d)) d above more far least))
    (λ le. le)
  where
    next : (q : ℤ) → q <ℤ neg_ℤ (pos (10 ^ 33)) → (q +ℤ pos 1) ≤ℤ neg_ℤ (pos (10 ^ 33))
    next q h = omega (arith, ints)

    apart : (a x : ℤ) (d : ℕ) → a <ℤ x → x ≤ℤ (neg_ℤ (pos (10 ^ 33)) *ℤ pos d) → 10 ^ 33 * 10 ^ 6 ≤ 10 ^ 33 * d → neg_ℤ (pos (2 ^ 127)) ≤ℤ a → ⊥
    apart a x d p q r s = omega (arith, ints)

pub above_least : (z : ℤ) → mag z < 2 ^ 127 → neg_ℤ (pos (2 ^ 127)) ≤ℤ z
above_least (pos n) h = omega (arith, ints)
above_least (negsuc n) h = omega (arith, ints)

pub below_most : (z : ℤ) → mag z < 2 ^ 127 → z ≤ℤ pos (2 ^ 127)
below_most (pos n) h = omega (arith, ints)
below_most (negsuc n) h = omega (arith, ints)

pub million : (n : ℕ) → 1 ≤ n → (pos 0 <ℤ pos (10 ^ 6 * n)) × (10 ^ 6 ≤ 10 ^ 6 * n)
million n h = (omega (arith, ints), omega arith)
