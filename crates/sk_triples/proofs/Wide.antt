-- Numbers that are passed on in 128 bits.
use Rattle.std.proofs.Common.{◌≡◌, ℕ, ◌<◌, ◌≤◌, ◌*◌, ◌^◌, arith}
use Rattle.std.proofs.lemmas.Int.{ints, to_z-of_z}
use Rattle.std.specs.Prelude.{ℤ, pos, neg_ℤ, ◌≤ℤ◌}
use mir.Syntax.{w128}
use mir.Val.{to_z, of_z}
use lib.Signed.{mag}

pub passed_on : (z : ℤ) → mag z < 2 ^ 127 → to_z w128 (of_z w128 z) ≡ z
passed_on z h = to_z-of_z w128 z (record { sfits = h })

pub passed_small : (z : ℤ) → neg_ℤ (pos (16 * 10 ^ 37)) ≤ℤ z → z ≤ℤ pos (16 * 10 ^ 37) → to_z w128 (of_z w128 z) ≡ z
passed_small z h k = omega (arith, ints)

pub count_passed : (n : ℕ) → n ≤ 2 ^ 32 → to_z w128 n ≡ pos n
count_passed n h = omega (arith, ints)
