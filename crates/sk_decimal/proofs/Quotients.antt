-- Floors and ceilings of whole quotients.
use Rattle.std.proofs.Common.{◌≡◌, ◌≢◌, ℕ, zero, suc, ◌*◌, ◌/◌, ◌<◌, ◌≤◌, refl, sym, ap, ◌∙◌, subst, arith}
use Rattle.std.proofs.lemmas.Int.{ints, by_lt_z}
use Rattle.std.specs.Prelude.{ℤ, pos, negsuc, neg_ℤ, ◌+ℤ◌, ◌-ℤ◌, ◌*ℤ◌, ◌≤ℤ◌, ◌<ℤ◌}
use Rattle.sk_decimal.specs.Quotient.{floor_quotient, ceiling_quotient}
use Rattle.std.specs.Int.{int_div_euclid, int_rem_euclid}
use Rattle.sk_decimal.specs.Fixed.{IsFloor, IsCeiling}
use Rattle.sk_decimal.proofs.Signed.{mul-le_right, sub-mul}

pub neg-mul : (q : ℤ) (d : ℕ) → neg_ℤ q *ℤ pos d ≡ neg_ℤ (q *ℤ pos d)
neg-mul (pos zero) d = omega (arith, ints)
neg-mul (pos (suc n)) d = refl
neg-mul (negsuc n) d = omega (arith, ints)

pub floor_below : (n : ℤ) (d : ℕ) → 0 < d → (floor_quotient n d *ℤ pos d) ≤ℤ n
floor_below (pos a) d h = omega (arith, ints)
floor_below (negsuc a) d h = omega (arith, ints)

pub floor_above : (n : ℤ) (d : ℕ) → 0 < d → n <ℤ ((floor_quotient n d +ℤ pos 1) *ℤ pos d)
floor_above (pos a) d h = omega (arith, ints)
floor_above (negsuc a) d h = below (a / d) (negsuc (a / d) +ℤ pos 1) (one_more (a / d)) (omega arith)
  where
    one_more : (q : ℕ) → negsuc q +ℤ pos 1 ≡ neg_ℤ (pos q)
    one_more q = omega (arith, ints)

    below : (q : ℕ) (z : ℤ) → z ≡ neg_ℤ (pos q) → q * d ≤ a → negsuc a <ℤ (z *ℤ pos d)
    below q z e k = subst (λ (x : ℤ). negsuc a <ℤ (x *ℤ pos d)) (sym e) (subst (λ (x : ℤ). negsuc a <ℤ x) (sym (neg-mul (pos q) d)) (omega (arith, ints)))

pub floor_greatest : (n : ℤ) (d : ℕ) (q : ℤ) → 0 < d → (q *ℤ pos d) ≤ℤ n → q ≤ℤ floor_quotient n d
floor_greatest n d q h k = by_lt_z (floor_quotient n d) q
    (λ less. let over : ((floor_quotient n d +ℤ pos 1) *ℤ pos d) ≤ℤ (q *ℤ pos d) = mul-le_right (floor_quotient n d +ℤ pos 1) q d (next _ _ less) in
    let above = floor_above n d h in absurd (apart _ _ _ above over k))
    (λ le. le)
  where
    next : (a b : ℤ) → a <ℤ b → (a +ℤ pos 1) ≤ℤ b
    next a b p = omega (arith, ints)

    apart : (n a b : ℤ) → n <ℤ a → a ≤ℤ b → b ≤ℤ n → ⊥
    apart n a b p q r = omega (arith, ints)

pub ceiling_above : (n : ℤ) (d : ℕ) → 0 < d → n ≤ℤ (ceiling_quotient n d *ℤ pos d)
ceiling_above n d h = turned n (floor_quotient (neg_ℤ n) d) (floor_below (neg_ℤ n) d h)
  where
    turned : (n q : ℤ) → (q *ℤ pos d) ≤ℤ neg_ℤ n → n ≤ℤ (neg_ℤ q *ℤ pos d)
    turned n q p = subst (λ (x : ℤ). n ≤ℤ x) (sym (neg-mul q d)) (omega (arith, ints))

pub ceiling_least : (n : ℤ) (d : ℕ) (q : ℤ) → 0 < d → n ≤ℤ (q *ℤ pos d) → ceiling_quotient n d ≤ℤ q
ceiling_least n d q h k = back (floor_quotient (neg_ℤ n) d) q (floor_greatest (neg_ℤ n) d (neg_ℤ q) h (turned n q k))
  where
    turned : (n q : ℤ) → n ≤ℤ (q *ℤ pos d) → (neg_ℤ q *ℤ pos d) ≤ℤ neg_ℤ n
    turned n q p = subst (λ (x : ℤ). x ≤ℤ neg_ℤ n) (sym (neg-mul q d)) (omega (arith, ints))

    back : (f q : ℤ) → neg_ℤ q ≤ℤ f → neg_ℤ f ≤ℤ q
    back f q p = omega (arith, ints)

-- std's quotient by a number above 0 is the floor
pub floor_is : (a b q : ℤ) → pos 0 <ℤ b → q ≡ int_div_euclid a b → IsFloor a b q
floor_is a (pos d) q h e = subst (λ (x : ℤ). IsFloor a (pos d) x) (sym e) (floor_below a d (omega (arith, ints)), floor_above a d (omega (arith, ints)))
floor_is a (negsuc d) q h e = absurd (omega (arith, ints))

-- std's quotient and remainder by a number above 0 make the number
quotient_remainder : (a : ℤ) (d : ℕ) → 0 < d → (int_div_euclid a (pos d) *ℤ pos d) +ℤ int_rem_euclid a (pos d) ≡ a
quotient_remainder (pos n) d h = omega (arith, ints)
quotient_remainder (negsuc n) d h = omega (arith, ints)

parts : (a q r : ℤ) (d : ℕ) → 0 < d → q ≡ int_div_euclid a (pos d) → r ≡ int_rem_euclid a (pos d) → (q *ℤ pos d) +ℤ r ≡ a
parts a q r d h e f = ap (λ (x : ℤ). (x *ℤ pos d) +ℤ r) e ∙ ap (λ (x : ℤ). (int_div_euclid a (pos d) *ℤ pos d) +ℤ x) f ∙ quotient_remainder a d h

-- a quotient with no remainder is its ceiling
pub ceiling_whole : (a b q r : ℤ) → pos 0 <ℤ b → q ≡ int_div_euclid a b → r ≡ int_rem_euclid a b → r ≡ pos 0 → IsCeiling a b q
ceiling_whole a (pos d) q r h e f none =
    let all = parts a q r d (omega (arith, ints)) e f in
    (omega (arith, ints), subst (λ (x : ℤ). x <ℤ a) (sym (sub-mul q (pos 1) d)) (omega (arith, ints)))
ceiling_whole a (negsuc d) q r h e f none = absurd (omega (arith, ints))

-- and one with a remainder is one below its ceiling
pub ceiling_next : (a b q r : ℤ) → pos 0 <ℤ b → q ≡ int_div_euclid a b → r ≡ int_rem_euclid a b → r ≢ pos 0 → IsCeiling a b (q +ℤ pos 1)
ceiling_next a (pos d) q r h e f some =
    let floor = floor_is a (pos d) q h e in
    let all = parts a q r d (omega (arith, ints)) e f in
    let back : (q +ℤ pos 1) -ℤ pos 1 ≡ q = omega (arith, ints) in
    (below a ((q +ℤ pos 1) *ℤ pos d) floor.1, subst (λ (x : ℤ). (x *ℤ pos d) <ℤ a) (sym back) (over (q *ℤ pos d) floor.0 all))
  where
    below : (m n : ℤ) → m <ℤ n → m ≤ℤ n
    below m n p = omega (arith, ints)

    over : (m : ℤ) → m ≤ℤ a → m +ℤ r ≡ a → m <ℤ a
    over m p all = by_lt_z m a (λ less. less) (λ more. absurd (some (nought m p more all)))
      where
        nought : (m : ℤ) → m ≤ℤ a → a ≤ℤ m → m +ℤ r ≡ a → r ≡ pos 0
        nought m p q all = omega (arith, ints)
ceiling_next a (negsuc d) q r h e f some = absurd (omega (arith, ints))
