-- The last digits of a number, from the left, are the number padded.
use Rattle.std.proofs.Common.{◌≡◌, ◌≤◌, ◌<◌, ◌+◌, ◌-◌, ◌*◌, ◌/◌, ◌%◌, ◌^◌, ℕ, suc, zero, List, [], ◌∷◌, ◌++◌, length, sym, ap, ◌∙◌, refl, arith, lit<, replicate, length-append, append_assoc}
use Rattle.std.proofs.Math.Nat.{pow-suc, div-div-eq-div-mul, mul_comm}
use Rattle.std.specs.Prelude.{decimal}
use Rattle.std.proofs.lemmas.Fmt.{decimal_digit, decimal_step_wide}
use Rattle.sk_decimal.specs.Number.{padded_decimal}
use Rattle.sk_leap.specs.Digits.{last_digits}

-- the last digits of n are those of n / 10 and one more
last_digits-more : (k n : ℕ) → last_digits (suc k) n ≡ last_digits k (n / 10) ++ (48 + n % 10) ∷ []
last_digits-more zero n = ap (λ m. (48 + m % 10) ∷ []) (omega arith)
last_digits-more (suc k) n =
    let head : n / 10 ^ suc k ≡ n / 10 / 10 ^ k = ap (λ p. n / p) (pow-suc 10 k ∙ mul_comm (10 ^ k) 10) ∙ sym (div-div-eq-div-mul n 10 (10 ^ k)) in
    ap (λ m. (48 + m % 10) ∷ last_digits (suc k) n) head ∙ ap (λ l. (48 + n / 10 / 10 ^ k % 10) ∷ l) (last_digits-more k n)

abbrev zeros : ℕ → List ℕ
zeros k = replicate k 48

zeros-more : (k : ℕ) → zeros k ++ 48 ∷ [] ≡ zeros (suc k)
zeros-more zero = refl
zeros-more (suc k) = ap (λ l. 48 ∷ l) (zeros-more k)

padded_small : (k n : ℕ) → n < 10 → padded_decimal (suc k) n ≡ zeros k ++ (48 + n) ∷ []
padded_small k n h =
    let less : suc k - 1 ≡ k = omega arith in
    ap (λ l. zeros (suc k - length l) ++ l) (decimal_digit n h) ∙ ap (λ m. zeros m ++ (48 + n) ∷ []) less

padded_large : (k n : ℕ) → 10 ≤ n → n < 10 ^ 64 → padded_decimal (suc k) n ≡ padded_decimal k (n / 10) ++ (48 + n % 10) ∷ []
padded_large k n h b =
    let step = decimal_step_wide n h b in
    let long : length (decimal n) ≡ length (decimal (n / 10)) + 1 = ap length step ∙ length-append (decimal (n / 10)) ((48 + n % 10) ∷ []) in
    let less : suc k - length (decimal n) ≡ k - length (decimal (n / 10)) = omega arith in
    ap (λ m. zeros m ++ decimal n) less ∙ ap (λ l. zeros (k - length (decimal (n / 10))) ++ l) step
    ∙ sym (append_assoc (zeros (k - length (decimal (n / 10)))) (decimal (n / 10)) ((48 + n % 10) ∷ []))

padded_by : (k n q : ℕ) → q ≡ n / 10 → n < 10 ^ 64 → padded_decimal (suc (suc k)) n ≡ padded_decimal (suc k) (n / 10) ++ (48 + n % 10) ∷ []
padded_by k n zero e b =
    let small : n < 10 = omega arith in
    let all : n % 10 ≡ n = omega arith in
    padded_small (suc k) n small ∙ ap (λ l. l ++ (48 + n) ∷ []) (sym (zeros-more k) ∙ sym (padded_small k 0 (lit< tt)))
    ∙ ap (λ m. padded_decimal (suc k) m ++ (48 + n) ∷ []) e ∙ ap (λ m. padded_decimal (suc k) (n / 10) ++ (48 + m) ∷ []) (sym all)
padded_by k n (suc q) e b = padded_large (suc k) n (omega arith) b

pub last_digits_padded : (k n : ℕ) → n < 10 ^ suc k → n < 10 ^ 64 → last_digits (suc k) n ≡ padded_decimal (suc k) n
last_digits_padded zero n h b = ap (λ m. (48 + m) ∷ []) (omega arith) ∙ sym (padded_small zero n (omega arith))
last_digits_padded (suc k) n h b =
    let less : n / 10 < 10 ^ suc k = div-lt (rw (sym (pow-suc 10 (suc k))) h) in
    last_digits-more (suc k) n ∙ ap (λ l. l ++ (48 + n % 10) ∷ []) (last_digits_padded k (n / 10) less (omega (arith, b))) ∙ sym (padded_by k n (n / 10) refl b)
  where
    div-lt : n < 10 ^ suc k * 10 → n / 10 < 10 ^ suc k
    div-lt p = omega (arith, p)
