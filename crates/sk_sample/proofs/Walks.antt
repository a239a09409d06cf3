-- How far the walk goes, and one step more.
use Rattle.std.proofs.Common.{◌≡◌, ℕ, zero, suc, ◌+◌, ◌*◌, ◌%◌, ◌^◌, ◌<◌, ◌≤◌, refl, subst, sym, arith, ◌∙◌, ap}
use Rattle.std.specs.Prelude.{ℤ, pos, negsuc, neg_ℤ, ◌+ℤ◌, ◌-ℤ◌, ◌≤ℤ◌}
use Rattle.std.proofs.lemmas.Int.{ints}
use Rattle.sk_sample.specs.Sample.{drawn, walk, observed_time}

-- no step is longer than a tenth of a millisecond
step : (w : ℤ) (x k : ℕ) → x < 200001 → neg_ℤ (pos (100000 * k)) ≤ℤ w → w ≤ℤ pos (100000 * k)
    → (neg_ℤ (pos (100000 * suc k)) ≤ℤ (w +ℤ (pos x -ℤ pos 100000))) × ((w +ℤ (pos x -ℤ pos 100000)) ≤ℤ pos (100000 * suc k))
step w x k short from to = (omega (arith, ints), omega (arith, ints))

remainder : (x : ℕ) → x % 200001 < 200001
remainder x = omega arith

within : (seed k : ℕ) → (neg_ℤ (pos (100000 * k)) ≤ℤ walk seed k) × (walk seed k ≤ℤ pos (100000 * k))
within seed zero = (omega (arith, ints), omega (arith, ints))
within seed (suc k) =
    let before = within seed k in
    step (walk seed k) (drawn seed (suc k) % 200001) k (remainder (drawn seed (suc k))) before.0 before.1

-- of as many observations as a u32 counts
pub far : (seed k : ℕ) → k < 2 ^ 32 → (neg_ℤ (pos (10 ^ 15)) ≤ℤ walk seed k) × (walk seed k ≤ℤ pos (10 ^ 15))
far seed k few = wide (walk seed k) k few (within seed k).0 (within seed k).1
  where
    wide : (w : ℤ) (k : ℕ) → k < 2 ^ 32 → neg_ℤ (pos (100000 * k)) ≤ℤ w → w ≤ℤ pos (100000 * k) → (neg_ℤ (pos (10 ^ 15)) ≤ℤ w) × (w ≤ℤ pos (10 ^ 15))
    wide w k few from to = (omega (arith, ints), omega (arith, ints))

-- ---- one more

drawn_more : (seed k : ℕ) → drawn seed (k + 1) ≡ (drawn seed k * 1664525 + 1013904223) % 2 ^ 32
drawn_more seed k =
    let next : suc k ≡ k + 1 = omega arith in
    subst (λ (n : ℕ). drawn seed n ≡ (drawn seed k * 1664525 + 1013904223) % 2 ^ 32) next refl

walk_more : (seed k : ℕ) → walk seed (k + 1) ≡ walk seed k +ℤ (pos (drawn seed (k + 1) % 200001) -ℤ pos 100000)
walk_more seed k =
    let next : suc k ≡ k + 1 = omega arith in
    subst (λ (n : ℕ). walk seed n ≡ walk seed k +ℤ (pos (drawn seed n % 200001) -ℤ pos 100000)) next refl

-- what the next place of the walk is
pub drawn_next : (seed k before after : ℕ) → before ≡ drawn seed k → after ≡ (before * 1664525 + 1013904223) % 2 ^ 32 → after ≡ drawn seed (k + 1)
drawn_next seed k before after was is = is ∙ ap (λ (x : ℕ). (x * 1664525 + 1013904223) % 2 ^ 32) was ∙ sym (drawn_more seed k)

pub late_next : (seed k before after : ℕ) (early late : ℤ) → before ≡ drawn seed k → early ≡ walk seed k → after ≡ (before * 1664525 + 1013904223) % 2 ^ 32
    → late ≡ early +ℤ (pos (after % 200001) -ℤ pos 100000) → late ≡ walk seed (k + 1)
late_next seed k before after early late was place is is_late =
    is_late ∙ ap (λ (z : ℤ). z +ℤ (pos (after % 200001) -ℤ pos 100000)) place
    ∙ ap (λ (x : ℕ). walk seed k +ℤ (pos (x % 200001) -ℤ pos 100000)) (drawn_next seed k before after was is) ∙ sym (walk_more seed k)

-- the time of the next observation
pub time_more : (seed k number : ℕ) (late : ℤ) → number ≡ k + 1 → late ≡ walk seed (k + 1) → pos (10 ^ 11 * number) +ℤ late ≡ observed_time seed (k + 1)
time_more seed k number late counted is =
    ap (λ (n : ℕ). pos (10 ^ 11 * n) +ℤ late) counted ∙ ap (λ (z : ℤ). pos (10 ^ 11 * (k + 1)) +ℤ z) is
