-- The interval law: which rates meet a run, by the bounds of its observations.
use Rattle.std.proofs.Common.{◌≡◌, ℕ, ◌-◌, List, ◌∷◌, ◌++◌, sym, subst, inl, inr, arith, ◌∙◌}
use Rattle.std.proofs.lemmas.Int.{ints, by_lt_z}
use Rattle.std.specs.Prelude.{ℤ, pos, ◌+ℤ◌, ◌-ℤ◌, ◌*ℤ◌, ◌≤ℤ◌, ◌<ℤ◌}
use Rattle.std.specs.List.{AllByRecursion}
use Rattle.sk_publishing.specs.Terms.{Sight, Gauge, grid}
use Rattle.sk_line.specs.Triple.{Anchor}
use Rattle.sk_publishing.specs.Meets.{line_at, scaled, IsTooSmall, IsTooLarge, Meets}
use Rattle.sk_publishing.specs.Rates.{IsLeast, IsGreatest, on_grid, IsFastEnough, IsSlowEnough, IsLeastRate, IsGreatestRate, IsFirstGreatest, IsFirstLeast, Blocks, InBand}
use Rattle.sk_decimal.proofs.Signed.{mul-le_right, ≤ℤ-antisym, <ℤ-or-≤ℤ}
use Rattle.sk_line.proofs.Lists.{all_back, all_append, all_map, all_both, Same, First_ends, Second_ends, fronts, heads, tails}
use Rattle.sk_publishing.specs.Laws.{IntervalLaw, PairLaw}

-- a faster rate has a later line
pub line_rises : (t : Gauge) (anchor : Anchor) (m n : ℤ) (tick : ℕ) → m ≤ℤ n
    → line_at t anchor (on_grid t.rate_decimals m) tick ≤ℤ line_at t anchor (on_grid t.rate_decimals n) tick
line_rises t anchor m n tick h =
    let faster : on_grid t.rate_decimals m ≤ℤ on_grid t.rate_decimals n = mul-le_right m n (grid t.rate_decimals) h in
    let later : (on_grid t.rate_decimals m *ℤ pos (tick - anchor.ticks)) ≤ℤ (on_grid t.rate_decimals n *ℤ pos (tick - anchor.ticks)) =
    mul-le_right (on_grid t.rate_decimals m) (on_grid t.rate_decimals n) (tick - anchor.ticks) faster in
    after (anchor.time *ℤ pos t.per_count) (on_grid t.rate_decimals m *ℤ pos (tick - anchor.ticks)) (on_grid t.rate_decimals n *ℤ pos (tick - anchor.ticks)) later
  where
    after : (c a b : ℤ) → a ≤ℤ b → (c +ℤ a) ≤ℤ (c +ℤ b)
    after c a b p = omega (arith, ints)

-- what is too small stays too small at slower rates, what is too large at faster ones
pub too_small_below : (t : Gauge) (anchor : Anchor) (o : Sight) (m n : ℤ) → m ≤ℤ n
    → IsTooSmall t anchor (on_grid t.rate_decimals n) o → IsTooSmall t anchor (on_grid t.rate_decimals m) o
too_small_below t anchor o m n h s = below _ _ _ (line_rises t anchor m n o.tick h) s
  where
    below : (a b c : ℤ) → a ≤ℤ b → b <ℤ c → a <ℤ c
    below a b c p q = omega (arith, ints)

pub too_large_above : (t : Gauge) (anchor : Anchor) (o : Sight) (m n : ℤ) → m ≤ℤ n
    → IsTooLarge t anchor (on_grid t.rate_decimals m) o → IsTooLarge t anchor (on_grid t.rate_decimals n) o
too_large_above t anchor o m n h s = above _ _ _ (line_rises t anchor m n o.tick h) s
  where
    above : (a b c : ℤ) → a ≤ℤ b → c <ℤ a → c <ℤ b
    above a b c p q = omega (arith, ints)

-- a rate meets an observation where it is neither too small nor too large
pub meets_not_small : (t : Gauge) (anchor : Anchor) (rate : ℤ) (o : Sight) → Meets t anchor rate o → ¬ IsTooSmall t anchor rate o
meets_not_small t anchor rate o m s = let p = m.low in omega (arith, ints)

pub meets_not_large : (t : Gauge) (anchor : Anchor) (rate : ℤ) (o : Sight) → Meets t anchor rate o → ¬ IsTooLarge t anchor rate o
meets_not_large t anchor rate o m s = let p = m.high in omega (arith, ints)

pub meets_between : (t : Gauge) (anchor : Anchor) (rate : ℤ) (o : Sight) → ¬ IsTooSmall t anchor rate o → ¬ IsTooLarge t anchor rate o → Meets t anchor rate o
meets_between t anchor rate o s l = record { low = <ℤ-or-≤ℤ _ _ s; high = <ℤ-or-≤ℤ _ _ l }

module _ (allowed : ℤ → Type 0) (t : Gauge) (anchor : Anchor) where
  -- an allowed rate is not too small exactly from the least rate on
  pub least_rate_le : (o : Sight) (b n : ℤ) → IsLeastRate allowed t anchor o b → allowed n
      → ¬ IsTooSmall t anchor (on_grid t.rate_decimals n) o → b ≤ℤ n
  least_rate_le o b n (inl l) a s = l.least n (a, s)
  least_rate_le o b n (inr e) a s = absurd (e.0 n (a, s))

  pub le_least_rate : (o : Sight) (b n : ℤ) → IsLeastRate allowed t anchor o b → allowed n
      → b ≤ℤ n → ¬ IsTooSmall t anchor (on_grid t.rate_decimals n) o
  le_least_rate o b n (inl l) a h s = l.has.1 (too_small_below t anchor o b n h s)
  le_least_rate o b n (inr e) a h s = let p = e.1.greatest n a in omega (arith, ints)

  pub greatest_rate_ge : (o : Sight) (b n : ℤ) → IsGreatestRate allowed t anchor o b → allowed n
      → ¬ IsTooLarge t anchor (on_grid t.rate_decimals n) o → n ≤ℤ b
  greatest_rate_ge o b n (inl l) a s = l.greatest n (a, s)
  greatest_rate_ge o b n (inr e) a s = absurd (e.0 n (a, s))

  pub ge_greatest_rate : (o : Sight) (b n : ℤ) → IsGreatestRate allowed t anchor o b → allowed n
      → n ≤ℤ b → ¬ IsTooLarge t anchor (on_grid t.rate_decimals n) o
  ge_greatest_rate o b n (inl l) a h s = l.has.1 (too_large_above t anchor o n b h s)
  ge_greatest_rate o b n (inr e) a h s = let p = e.1.least n a in omega (arith, ints)

  abbrev pub Fast : ℤ → Sight → Type 0
  Fast n o = ¬ IsTooSmall t anchor (on_grid t.rate_decimals n) o

  abbrev pub Slow : ℤ → Sight → Type 0
  Slow n o = ¬ IsTooLarge t anchor (on_grid t.rate_decimals n) o

  -- all are met from the greatest least rate to the least greatest one, and at no other allowed rate
  pub meets_from : (run : List Sight) (o : Sight) (b n : ℤ) → IsFirstGreatest allowed t anchor run o b → allowed n
      → AllByRecursion (Meets t anchor (on_grid t.rate_decimals n)) run → b ≤ℤ n
  meets_from run o b n g a h =
      let all : AllByRecursion (Meets t anchor (on_grid t.rate_decimals n)) (g.front ++ o ∷ g.back) = subst (AllByRecursion (Meets t anchor (on_grid t.rate_decimals n))) g.joined h in
      least_rate_le o b n g.is_bound a (meets_not_small t anchor (on_grid t.rate_decimals n) o (all_back _ g.front (o ∷ g.back) all).0)

  pub meets_to : (run : List Sight) (o : Sight) (b n : ℤ) → IsFirstLeast allowed t anchor run o b → allowed n
      → AllByRecursion (Meets t anchor (on_grid t.rate_decimals n)) run → n ≤ℤ b
  meets_to run o b n g a h =
      let all : AllByRecursion (Meets t anchor (on_grid t.rate_decimals n)) (g.front ++ o ∷ g.back) = subst (AllByRecursion (Meets t anchor (on_grid t.rate_decimals n))) g.joined h in
      greatest_rate_ge o b n g.is_bound a (meets_not_large t anchor (on_grid t.rate_decimals n) o (all_back _ g.front (o ∷ g.back) all).0)

  all_fast : (run : List Sight) (o : Sight) (b n : ℤ) → IsFirstGreatest allowed t anchor run o b → allowed n
      → b ≤ℤ n → AllByRecursion (Fast n) run
  all_fast run o b n g a h = subst (AllByRecursion (Fast n)) (sym g.joined) (all_append _ g.front (o ∷ g.back)
      (all_map _ _ (λ x w. le_least_rate x w.0 n w.1 a (let p = w.2 in omega (arith, ints))) g.front g.before)
      (le_least_rate o b n g.is_bound a h, all_map _ _ (λ x w. le_least_rate x w.0 n w.1 a (let p = w.2 in omega (arith, ints))) g.back g.after))

  all_slow : (run : List Sight) (o : Sight) (b n : ℤ) → IsFirstLeast allowed t anchor run o b → allowed n
      → n ≤ℤ b → AllByRecursion (Slow n) run
  all_slow run o b n g a h = subst (AllByRecursion (Slow n)) (sym g.joined) (all_append _ g.front (o ∷ g.back)
      (all_map _ _ (λ x w. ge_greatest_rate x w.0 n w.1 a (let p = w.2 in omega (arith, ints))) g.front g.before)
      (ge_greatest_rate o b n g.is_bound a h, all_map _ _ (λ x w. ge_greatest_rate x w.0 n w.1 a (let p = w.2 in omega (arith, ints))) g.back g.after))

  pub meets_within : (run : List Sight) (low high : Sight) (b c n : ℤ) → IsFirstGreatest allowed t anchor run low b
      → IsFirstLeast allowed t anchor run high c → allowed n → b ≤ℤ n → n ≤ℤ c → AllByRecursion (Meets t anchor (on_grid t.rate_decimals n)) run
  meets_within run low high b c n g l a h k =
      all_map _ _ (λ x w. meets_between t anchor (on_grid t.rate_decimals n) x w.0 w.1) run
      (all_both (Fast n) (Slow n) run (all_fast run low b n g a h) (all_slow run high c n l a k))

pub interval_law : IntervalLaw
interval_law t band anchor run low high least greatest g l n a = (
  (λ h. (meets_from (InBand band) t anchor run low least n g a h, meets_to (InBand band) t anchor run high greatest n l a h)),
  (λ h. meets_within (InBand band) t anchor run low high least greatest n g l a h.0 h.1),
)

-- the pair blocks, for any allowed rates
pub pair_blocks : (allowed : ℤ → Type 0) (t : Gauge) (anchor : Anchor) (run : List Sight) (low high : Sight) (least greatest : ℤ)
    → IsFirstGreatest allowed t anchor run low least → IsFirstLeast allowed t anchor run high greatest
    → ((n : ℤ) → allowed n → ¬ AllByRecursion (Meets t anchor (on_grid t.rate_decimals n)) run) → Blocks allowed t anchor low high
pair_blocks allowed t anchor run low high least greatest g l none n a =
    by_lt_z (line_at t anchor (on_grid t.rate_decimals n) low.tick) (scaled t (low.time -ℤ t.tolerance)) inl
    (λ fast. by_lt_z (scaled t (high.time +ℤ t.tolerance)) (line_at t anchor (on_grid t.rate_decimals n) high.tick) inr
    (λ slow. absurd (none n a (meets_within allowed t anchor run low high least greatest n g l a
    (least_rate_le allowed t anchor low least n g.is_bound a (λ s. let p = fast in let q : line_at t anchor (on_grid t.rate_decimals n) low.tick <ℤ scaled t (low.time -ℤ t.tolerance) = s in omega (arith, ints)))
    (greatest_rate_ge allowed t anchor high greatest n l.is_bound a (λ s. let p = slow in let q : scaled t (high.time +ℤ t.tolerance) <ℤ line_at t anchor (on_grid t.rate_decimals n) high.tick = s in omega (arith, ints)))))))

pub pair_law : PairLaw
pair_law t band anchor run low high least greatest g l none = pair_blocks (InBand band) t anchor run low high least greatest g l none

-- ---- bounds are determined

pub least_unique : (P : ℤ → Type 0) (a b : ℤ) → IsLeast P a → IsLeast P b → a ≡ b
least_unique P a b p q = ≤ℤ-antisym a b (p.least b q.has) (q.least a p.has)

pub greatest_unique : (P : ℤ → Type 0) (a b : ℤ) → IsGreatest P a → IsGreatest P b → a ≡ b
greatest_unique P a b p q = ≤ℤ-antisym a b (q.greatest a p.has) (p.greatest b q.has)

module _ (allowed : ℤ → Type 0) (t : Gauge) (anchor : Anchor) where
  pub least_rate_unique : (o : Sight) (a b : ℤ) → IsLeastRate allowed t anchor o a → IsLeastRate allowed t anchor o b → a ≡ b
  least_rate_unique o a b (inl p) (inl q) = least_unique (IsFastEnough allowed t anchor o) a b p q
  least_rate_unique o a b (inl p) (inr q) = absurd (q.0 a p.has)
  least_rate_unique o a b (inr p) (inl q) = absurd (p.0 b q.has)
  least_rate_unique o a b (inr p) (inr q) = let e = greatest_unique allowed _ _ p.1 q.1 in omega (arith, ints)

  pub greatest_rate_unique : (o : Sight) (a b : ℤ) → IsGreatestRate allowed t anchor o a → IsGreatestRate allowed t anchor o b → a ≡ b
  greatest_rate_unique o a b (inl p) (inl q) = greatest_unique (IsSlowEnough allowed t anchor o) a b p q
  greatest_rate_unique o a b (inl p) (inr q) = absurd (q.0 a p.has)
  greatest_rate_unique o a b (inr p) (inl q) = absurd (p.0 b q.has)
  greatest_rate_unique o a b (inr p) (inr q) = let e = least_unique allowed _ _ p.1 q.1 in omega (arith, ints)

  -- in no list does the second of two firsts stand behind the first one
  not_behind : (front back' m : List Sight) (o o' : Sight) (b b' : ℤ)
      → IsLeastRate allowed t anchor o b → IsLeastRate allowed t anchor o' b'
      → AllByRecursion (λ x. (n : ℤ) × IsLeastRate allowed t anchor x n × (n ≤ℤ b)) (m ++ o' ∷ back')
      → AllByRecursion (λ x. (n : ℤ) × IsLeastRate allowed t anchor x n × (n <ℤ b')) (front ++ o ∷ m) → ⊥
  not_behind front back' m o o' b b' p p' after before' =
      let w = (all_back _ m (o' ∷ back') after).0 in
      let w' = (all_back _ front (o ∷ m) before').0 in
      let e = least_rate_unique o' w.0 b' w.1 p' in
      let e' = least_rate_unique o w'.0 b w'.1 p in
      let h = w.2 in let h' = w'.2 in omega (arith, ints)

  not_behind_high : (front back' m : List Sight) (o o' : Sight) (b b' : ℤ)
      → IsGreatestRate allowed t anchor o b → IsGreatestRate allowed t anchor o' b'
      → AllByRecursion (λ x. (n : ℤ) × IsGreatestRate allowed t anchor x n × (b ≤ℤ n)) (m ++ o' ∷ back')
      → AllByRecursion (λ x. (n : ℤ) × IsGreatestRate allowed t anchor x n × (b' <ℤ n)) (front ++ o ∷ m) → ⊥
  not_behind_high front back' m o o' b b' p p' after before' =
      let w = (all_back _ m (o' ∷ back') after).0 in
      let w' = (all_back _ front (o ∷ m) before').0 in
      let e = greatest_rate_unique o' w.0 b' w.1 p' in
      let e' = greatest_rate_unique o w'.0 b w'.1 p in
      let h = w.2 in let h' = w'.2 in omega (arith, ints)

  pub first_greatest_unique : (run : List Sight) (o o' : Sight) (b b' : ℤ)
      → IsFirstGreatest allowed t anchor run o b → IsFirstGreatest allowed t anchor run o' b' → o ≡ o'
  first_greatest_unique run o o' b b' g g' = elim (fronts g.front (o ∷ g.back) g'.front (o' ∷ g'.back) (sym g.joined ∙ g'.joined)) [
    | Same p q ↦ heads o o' _ _ q
    | First_ends x m p q ↦ absurd (not_behind g.front g'.back m o o' b b' g.is_bound g'.is_bound
        (subst (AllByRecursion (λ x. (n : ℤ) × IsLeastRate allowed t anchor x n × (n ≤ℤ b))) (tails o x _ _ q) g.after)
        (subst (λ y. AllByRecursion (λ x. (n : ℤ) × IsLeastRate allowed t anchor x n × (n <ℤ b')) (g.front ++ y ∷ m)) (sym (heads o x _ _ q))
        (subst (AllByRecursion (λ x. (n : ℤ) × IsLeastRate allowed t anchor x n × (n <ℤ b'))) p g'.before)))
    | Second_ends x m p q ↦ absurd (not_behind g'.front g.back m o' o b' b g'.is_bound g.is_bound
        (subst (AllByRecursion (λ x. (n : ℤ) × IsLeastRate allowed t anchor x n × (n ≤ℤ b'))) (tails o' x _ _ q) g'.after)
        (subst (λ y. AllByRecursion (λ x. (n : ℤ) × IsLeastRate allowed t anchor x n × (n <ℤ b)) (g'.front ++ y ∷ m)) (sym (heads o' x _ _ q))
        (subst (AllByRecursion (λ x. (n : ℤ) × IsLeastRate allowed t anchor x n × (n <ℤ b))) p g.before)))
  ]

  pub first_least_unique : (run : List Sight) (o o' : Sight) (b b' : ℤ)
      → IsFirstLeast allowed t anchor run o b → IsFirstLeast allowed t anchor run o' b' → o ≡ o'
  first_least_unique run o o' b b' g g' = elim (fronts g.front (o ∷ g.back) g'.front (o' ∷ g'.back) (sym g.joined ∙ g'.joined)) [
    | Same p q ↦ heads o o' _ _ q
    | First_ends x m p q ↦ absurd (not_behind_high g.front g'.back m o o' b b' g.is_bound g'.is_bound
        (subst (AllByRecursion (λ x. (n : ℤ) × IsGreatestRate allowed t anchor x n × (b ≤ℤ n))) (tails o x _ _ q) g.after)
        (subst (λ y. AllByRecursion (λ x. (n : ℤ) × IsGreatestRate allowed t anchor x n × (b' <ℤ n)) (g.front ++ y ∷ m)) (sym (heads o x _ _ q))
        (subst (AllByRecursion (λ x. (n : ℤ) × IsGreatestRate allowed t anchor x n × (b' <ℤ n))) p g'.before)))
    | Second_ends x m p q ↦ absurd (not_behind_high g'.front g.back m o' o b' b g'.is_bound g.is_bound
        (subst (AllByRecursion (λ x. (n : ℤ) × IsGreatestRate allowed t anchor x n × (b' ≤ℤ n))) (tails o' x _ _ q) g'.after)
        (subst (λ y. AllByRecursion (λ x. (n : ℤ) × IsGreatestRate allowed t anchor x n × (b <ℤ n)) (g'.front ++ y ∷ m)) (sym (heads o' x _ _ q))
        (subst (AllByRecursion (λ x. (n : ℤ) × IsGreatestRate allowed t anchor x n × (b <ℤ n))) p g.before)))
  ]
