-- The time of a code: its whole units and its fraction are scaled apart.
use Rattle.std.proofs.Common.{◌≡◌, ℕ, ◌+◌, ◌*◌, ◌/◌, ◌%◌, ◌^◌, ◌<◌, ◌≤◌, refl, ap, sym, ◌∙◌, subst, arith}
use Rattle.std.specs.Prelude.{ℤ, pos, ◌+ℤ◌, ◌*ℤ◌, ◌≤ℤ◌, ◌<ℤ◌}
use Rattle.std.proofs.lemmas.Int.{ints}
use Rattle.std.proofs.lemmas.Nat.{div-add-mod', mod_below}
use Rattle.sk_decimal.specs.Fixed.{IsFloor}
use Rattle.sk_decimal.proofs.Signed.{add-mul}

le_moved : (x y : ℕ) (z : ℤ) → x ≤ y → (pos x +ℤ z) ≤ℤ (pos y +ℤ z)
le_moved x y z le = omega (arith, ints)

lt_moved : (x y : ℕ) (z : ℤ) → x < y → (pos x +ℤ z) <ℤ (pos y +ℤ z)
lt_moved x y z lt = omega (arith, ints)

-- the whole units, and the floor of the scaled fraction, are the floor of the scaled count
pub cuc_time : (coarse fine d whole part : ℕ) (shift time : ℤ) → 0 < d → whole ≡ coarse * 10 ^ 12 → part ≡ fine * 10 ^ 12 / d → time ≡ pos (whole + part) +ℤ shift
    → IsFloor (pos ((coarse * d + fine) * 10 ^ 12) +ℤ shift *ℤ pos d) (pos d) time
cuc_time coarse fine d whole part shift time some is_whole is_part is =
    let n = fine * 10 ^ 12 in
    let split : part * d + n % d ≡ n = ap (λ (q : ℕ). q * d + n % d) is_part ∙ div-add-mod' n d in
    let rest : n % d < d = mod_below n d some in
    let units : whole * d ≡ coarse * 10 ^ 12 * d = ap (λ (x : ℕ). x * d) is_whole in
    let product : time *ℤ pos d ≡ pos ((whole + part) * d) +ℤ shift *ℤ pos d = ap (λ (z : ℤ). z *ℤ pos d) is ∙ add-mul (pos (whole + part)) shift d in
    let next : time +ℤ pos 1 ≡ pos (whole + part + 1) +ℤ shift = ap (λ (z : ℤ). z +ℤ pos 1) is ∙ one_more (whole + part) shift in
    let above : (time +ℤ pos 1) *ℤ pos d ≡ pos ((whole + part + 1) * d) +ℤ shift *ℤ pos d = ap (λ (z : ℤ). z *ℤ pos d) next ∙ add-mul (pos (whole + part + 1)) shift d in (
      subst (λ (z : ℤ). z ≤ℤ (pos ((coarse * d + fine) * 10 ^ 12) +ℤ shift *ℤ pos d)) (sym product) (le_moved _ _ (shift *ℤ pos d) (omega arith)),
      subst (λ (z : ℤ). (pos ((coarse * d + fine) * 10 ^ 12) +ℤ shift *ℤ pos d) <ℤ z) (sym above) (lt_moved _ _ (shift *ℤ pos d) (omega arith)),
    )
  where
    one_more : (n : ℕ) (z : ℤ) → (pos n +ℤ z) +ℤ pos 1 ≡ pos (n + 1) +ℤ z
    one_more n z = omega (arith, ints)
