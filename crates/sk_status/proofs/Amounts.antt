-- Amounts of falls: a ceiling of a ceiling, and whole numbers as texts.
use Rattle.std.proofs.Common.{◌≡◌, ℕ, ◌*◌, ◌<◌, ◌^◌, sym, subst, arith}
use Rattle.std.proofs.lemmas.Int.{ints, by_lt_z}
use Rattle.std.specs.Prelude.{ℤ, pos, negsuc, nat_abs, ◌-ℤ◌, ◌*ℤ◌, ◌≤ℤ◌, ◌<ℤ◌}
use Rattle.sk_decimal.specs.Fixed.{IsCeiling}
use Rattle.sk_decimal.specs.Quotient.{ceiling_quotient}
use Rattle.sk_decimal.proofs.Quotients.{ceiling_above, ceiling_least}
use Rattle.sk_decimal.proofs.Signed.{≤ℤ-antisym, mul-le_right}
use Rattle.sk_line.proofs.Products.{twice}

through : (a b c : ℤ) → a ≤ℤ b → b ≤ℤ c → a ≤ℤ c
through a b c p q = omega (arith, ints)

apart : (a b c : ℤ) → a <ℤ b → b ≤ℤ c → c ≤ℤ a → ⊥
apart a b c p q r = omega (arith, ints)

before : (a b : ℤ) → a <ℤ b → a ≤ℤ (b -ℤ pos 1)
before a b p = omega (arith, ints)

-- what is not below a ceiling's number over d is not below the ceiling
not_below : (n c q : ℤ) (d : ℕ) → IsCeiling n (pos d) c → n ≤ℤ (q *ℤ pos d) → c ≤ℤ q
not_below n c q d h k = by_lt_z q c
    (λ less. absurd (apart ((c -ℤ pos 1) *ℤ pos d) n (q *ℤ pos d) h.1 k (mul-le_right q (c -ℤ pos 1) d (before q c less))))
    (λ le. le)

pub ceiling_twice : (n c q : ℤ) (d m : ℕ) → 0 < d * m → IsCeiling n (pos d) c → IsCeiling c (pos m) q → q ≡ ceiling_quotient n (d * m)
ceiling_twice n c q d m some h k =
    let whole = ceiling_quotient n (d * m) in
    let turn : (z : ℤ) → (z *ℤ pos m) *ℤ pos d ≡ z *ℤ pos (d * m) =
    λ z. let swap : m * d ≡ d * m = omega arith in subst (λ (x : ℕ). (z *ℤ pos m) *ℤ pos d ≡ z *ℤ pos x) swap (twice z m d) in
    let low : n ≤ℤ (q *ℤ pos (d * m)) =
    subst (λ (x : ℤ). n ≤ℤ x) (turn q) (through n (c *ℤ pos d) ((q *ℤ pos m) *ℤ pos d) h.0 (mul-le_right c (q *ℤ pos m) d k.0)) in
    let high : q ≤ℤ whole =
    not_below c q whole m k (not_below n c (whole *ℤ pos m) d h (subst (λ (x : ℤ). n ≤ℤ x) (sym (turn whole)) (ceiling_above n (d * m) some))) in
    ≤ℤ-antisym q whole high (ceiling_least n (d * m) q some low)

-- a number of 10^-18 parts over den, as 10^-9 parts
pub in_nanoseconds : (n den c q : ℤ) → pos 0 <ℤ den → IsCeiling n den c → IsCeiling c (pos (10 ^ 9)) q → q ≡ ceiling_quotient n (nat_abs den * 10 ^ 9)
in_nanoseconds n (pos d) c q h k l = ceiling_twice n c q d (10 ^ 9) (omega (arith, ints)) k l
in_nanoseconds n (negsuc d) c q h k l = absurd (omega (arith, ints))
