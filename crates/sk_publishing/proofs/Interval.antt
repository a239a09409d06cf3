-- The running interval: how its bounds grow, and the middle rate.
use Rattle.std.proofs.Common.{List, [], ◌∷◌, ◌++◌, refl, sym, ap, subst, inl, inr, ◌∙◌, append_assoc, arith}
use Rattle.std.proofs.lemmas.Int.{ints}
use Rattle.std.specs.Prelude.{ℤ, pos, ◌+ℤ◌, ◌≤ℤ◌, ◌<ℤ◌}
use Rattle.std.specs.List.{AllByRecursion}
use Rattle.sk_decimal.specs.Quotient.{floor_quotient}
use Rattle.sk_publishing.specs.Terms.{Sight, Gauge}
use Rattle.sk_line.specs.Triple.{Anchor}
use Rattle.sk_publishing.specs.Meets.{Meets}
use Rattle.sk_publishing.specs.Rates.{on_grid, IsLeastRate, IsGreatestRate, IsMiddleRate, IsFirstGreatest, IsFirstLeast}
use Rattle.sk_line.proofs.Lists.{all_append}
use Rattle.sk_publishing.proofs.Bounds.{meets_from, meets_to, meets_within}

module _ (allowed : ℤ → Type 0) (g : Gauge) (anchor : Anchor) where
  -- one more observation: the first greatest stays, or is the new one where its bound is greater
  pub greatest_stays : (run : List Sight) (low o : Sight) (b n : ℤ) → IsFirstGreatest allowed g anchor run low b
      → IsLeastRate allowed g anchor o n → n ≤ℤ b → IsFirstGreatest allowed g anchor (run ++ o ∷ []) low b
  greatest_stays run low o b n h r le = record {
    front = h.front;
    back = h.back ++ o ∷ [];
    joined = ap (λ (z : List Sight). z ++ o ∷ []) h.joined ∙ append_assoc h.front (low ∷ h.back) (o ∷ []);
    is_bound = h.is_bound;
    before = h.before;
    after = all_append _ h.back (o ∷ []) h.after ((n, r, le), tt);
  }

  pub greatest_moves : (run : List Sight) (low o : Sight) (b n : ℤ) → IsFirstGreatest allowed g anchor run low b
      → IsLeastRate allowed g anchor o n → b <ℤ n → IsFirstGreatest allowed g anchor (run ++ o ∷ []) o n
  greatest_moves run low o b n h r lt = record {
    front = run;
    back = [];
    joined = refl;
    is_bound = r;
    before = subst (AllByRecursion (λ x. (m : ℤ) × IsLeastRate allowed g anchor x m × (m <ℤ n))) (sym h.joined)
        (all_append _ h.front (low ∷ h.back) (weaker h.front (λ m p. omega (arith, ints)) h.before)
        ((b, h.is_bound, lt), weaker' h.back h.after));
    after = tt;
  }
    where
      weaker : (xs : List Sight) → ((m : ℤ) → m <ℤ b → m <ℤ n)
          → AllByRecursion (λ x. (m : ℤ) × IsLeastRate allowed g anchor x m × (m <ℤ b)) xs
          → AllByRecursion (λ x. (m : ℤ) × IsLeastRate allowed g anchor x m × (m <ℤ n)) xs
      weaker [] f w = tt
      weaker (x ∷ xs) f w = ((w.0.0, w.0.1, f w.0.0 w.0.2), weaker xs f w.1)

      weaker' : (xs : List Sight)
          → AllByRecursion (λ x. (m : ℤ) × IsLeastRate allowed g anchor x m × (m ≤ℤ b)) xs
          → AllByRecursion (λ x. (m : ℤ) × IsLeastRate allowed g anchor x m × (m <ℤ n)) xs
      weaker' [] w = tt
      weaker' (x ∷ xs) w = ((w.0.0, w.0.1, (let p = w.0.2 in omega (arith, ints))), weaker' xs w.1)

  -- where the interval is not empty, its ends are allowed
  pub least_allowed : (o o' : Sight) (b c : ℤ) → IsLeastRate allowed g anchor o b → IsGreatestRate allowed g anchor o' c → b ≤ℤ c → allowed b
  least_allowed o o' b c (inl p) q h = p.has.0
  least_allowed o o' b c (inr p) (inl q) h = let e = p.1.greatest c q.has.0 in absurd (omega (arith, ints))
  least_allowed o o' b c (inr p) (inr q) h = let e = p.1.greatest (c +ℤ pos 1) q.1.has in absurd (omega (arith, ints))

  pub greatest_allowed : (o o' : Sight) (b c : ℤ) → IsLeastRate allowed g anchor o b → IsGreatestRate allowed g anchor o' c → b ≤ℤ c → allowed c
  greatest_allowed o o' b c p (inl q) h = q.has.0
  greatest_allowed o o' b c (inl p) (inr q) h = let e = q.1.least b p.has.0 in absurd (omega (arith, ints))
  greatest_allowed o o' b c (inr p) (inr q) h = let e = p.1.greatest (c +ℤ pos 1) q.1.has in absurd (omega (arith, ints))

  -- The ends of an interval that is not empty are the least and the greatest rate that meet all, so their middle is the middle rate.
  pub middle_of : (run : List Sight) (low high : Sight) (b c : ℤ) → IsFirstGreatest allowed g anchor run low b
      → IsFirstLeast allowed g anchor run high c → b ≤ℤ c
      → IsMiddleRate allowed g anchor run (on_grid g.rate_decimals (floor_quotient (b +ℤ c) 2))
  middle_of run low high b c p q h =
      let at_b = least_allowed low high b c p.is_bound q.is_bound h in
      let at_c = greatest_allowed low high b c p.is_bound q.is_bound h in
      record {
        least = b;
        greatest = c;
        is_least = record {
          has = (at_b, meets_within allowed g anchor run low high b c b p q at_b (omega (arith, ints)) h);
          least = λ m w. meets_from allowed g anchor run low b m p w.0 w.1;
        };
        is_greatest = record {
          has = (at_c, meets_within allowed g anchor run low high b c c p q at_c h (omega (arith, ints)));
          greatest = λ m w. meets_to allowed g anchor run high c m q w.0 w.1;
        };
        middle = refl;
      }

  -- where the interval is empty, no allowed rate meets all
  pub none_meets : (run : List Sight) (low high : Sight) (b c : ℤ) → IsFirstGreatest allowed g anchor run low b
      → IsFirstLeast allowed g anchor run high c → c <ℤ b → (n : ℤ) → allowed n → ¬ AllByRecursion (Meets g anchor (on_grid g.rate_decimals n)) run
  none_meets run low high b c p q h n a w =
      let from = meets_from allowed g anchor run low b n p a w in
      let to = meets_to allowed g anchor run high c n q a w in
      omega (arith, ints)

-- ---- the mirror images: the first of the least greatest rates

module _ (allowed : ℤ → Type 0) (g : Gauge) (anchor : Anchor) where
  pub least_stays : (run : List Sight) (high o : Sight) (b n : ℤ) → IsFirstLeast allowed g anchor run high b
      → IsGreatestRate allowed g anchor o n → b ≤ℤ n → IsFirstLeast allowed g anchor (run ++ o ∷ []) high b
  least_stays run high o b n h r le = record {
    front = h.front;
    back = h.back ++ o ∷ [];
    joined = ap (λ (z : List Sight). z ++ o ∷ []) h.joined ∙ append_assoc h.front (high ∷ h.back) (o ∷ []);
    is_bound = h.is_bound;
    before = h.before;
    after = all_append _ h.back (o ∷ []) h.after ((n, r, le), tt);
  }

  pub least_moves : (run : List Sight) (high o : Sight) (b n : ℤ) → IsFirstLeast allowed g anchor run high b
      → IsGreatestRate allowed g anchor o n → n <ℤ b → IsFirstLeast allowed g anchor (run ++ o ∷ []) o n
  least_moves run high o b n h r lt = record {
    front = run;
    back = [];
    joined = refl;
    is_bound = r;
    before = subst (AllByRecursion (λ x. (m : ℤ) × IsGreatestRate allowed g anchor x m × (n <ℤ m))) (sym h.joined)
        (all_append _ h.front (high ∷ h.back) (weaker h.front h.before)
        ((b, h.is_bound, lt), weaker' h.back h.after));
    after = tt;
  }
    where
      weaker : (xs : List Sight)
          → AllByRecursion (λ x. (m : ℤ) × IsGreatestRate allowed g anchor x m × (b <ℤ m)) xs
          → AllByRecursion (λ x. (m : ℤ) × IsGreatestRate allowed g anchor x m × (n <ℤ m)) xs
      weaker [] w = tt
      weaker (x ∷ xs) w = ((w.0.0, w.0.1, (let p = w.0.2 in omega (arith, ints))), weaker xs w.1)

      weaker' : (xs : List Sight)
          → AllByRecursion (λ x. (m : ℤ) × IsGreatestRate allowed g anchor x m × (b ≤ℤ m)) xs
          → AllByRecursion (λ x. (m : ℤ) × IsGreatestRate allowed g anchor x m × (n <ℤ m)) xs
      weaker' [] w = tt
      weaker' (x ∷ xs) w = ((w.0.0, w.0.1, (let p = w.0.2 in omega (arith, ints))), weaker' xs w.1)

  -- a run of one observation
  pub one_greatest : (o : Sight) (n : ℤ) → IsLeastRate allowed g anchor o n → IsFirstGreatest allowed g anchor (o ∷ []) o n
  one_greatest o n r = record { front = []; back = []; joined = refl; is_bound = r; before = tt; after = tt }

  pub one_least : (o : Sight) (n : ℤ) → IsGreatestRate allowed g anchor o n → IsFirstLeast allowed g anchor (o ∷ []) o n
  one_least o n r = record { front = []; back = []; joined = refl; is_bound = r; before = tt; after = tt }
