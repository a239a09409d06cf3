-- A whole number of steps is the quotient by the step.
use Rattle.std.proofs.Common.{◌≡◌, ℕ, ◌<◌, sym, subst, ap, ◌∙◌, arith, negsuc}
use Rattle.std.proofs.lemmas.Int.{ints, by_lt_z}
use Rattle.std.specs.Prelude.{ℤ, pos, ◌+ℤ◌, ◌*ℤ◌, ◌≤ℤ◌, ◌<ℤ◌}
use Rattle.std.specs.Int.{int_div_euclid, int_rem_euclid}
use Rattle.sk_decimal.specs.Quotient.{floor_quotient}
use Rattle.sk_decimal.proofs.Quotients.{floor_below, floor_greatest}
use Rattle.sk_decimal.proofs.Signed.{mul-le_right, add-mul, ≤ℤ-antisym}

pub exact_floor : (z n : ℤ) (d : ℕ) → 0 < d → z ≡ n *ℤ pos d → int_div_euclid z (pos d) ≡ n
exact_floor z n d some e = ≤ℤ-antisym (floor_quotient z d) n upper lower
  where
    lower : n ≤ℤ floor_quotient z d
    lower = floor_greatest z d n some (subst (λ (x : ℤ). (n *ℤ pos d) ≤ℤ x) (sym e) (omega (arith, ints)))

    next : (a b : ℤ) → a <ℤ b → (a +ℤ pos 1) ≤ℤ b
    next a b p = omega (arith, ints)

    apart : (a b c z : ℤ) (d : ℕ) → a ≡ b +ℤ (pos 1 *ℤ pos d) → a ≤ℤ c → c ≤ℤ z → z ≡ b → 0 < d → ⊥
    apart a b c z d p q r s k = omega (arith, ints)

    upper : floor_quotient z d ≤ℤ n
    upper = by_lt_z n (floor_quotient z d)
        (λ less. absurd (apart ((n +ℤ pos 1) *ℤ pos d) (n *ℤ pos d) (floor_quotient z d *ℤ pos d) z d (add-mul n (pos 1) d)
        (mul-le_right (n +ℤ pos 1) (floor_quotient z d) d (next n (floor_quotient z d) less)) (floor_below z d some) e some))
        (λ le. le)

quotient_remainder : (a : ℤ) (d : ℕ) → 0 < d → (int_div_euclid a (pos d) *ℤ pos d) +ℤ int_rem_euclid a (pos d) ≡ a
quotient_remainder (pos n) d h = omega (arith, ints)
quotient_remainder (negsuc n) d h = omega (arith, ints)

pub no_remainder : (z n : ℤ) (d : ℕ) → 0 < d → z ≡ n *ℤ pos d → int_rem_euclid z (pos d) ≡ pos 0
no_remainder z n d some e =
    rest z (n *ℤ pos d) (int_rem_euclid z (pos d)) e
    (ap (λ (x : ℤ). (x *ℤ pos d) +ℤ int_rem_euclid z (pos d)) (sym (exact_floor z n d some e)) ∙ quotient_remainder z d some)
  where
    rest : (z a r : ℤ) → z ≡ a → a +ℤ r ≡ z → r ≡ pos 0
    rest z a r p q = omega (arith, ints)
