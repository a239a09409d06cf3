-- What stands before the first new observation: the old last triple alone is a publication of nothing.
use Rattle.std.proofs.Common.{◌≡◌, ◌⊎◌, ℕ, suc, ◌+◌, ◌-◌, ◌*◌, ◌^◌, ◌<◌, ◌≤◌, Bool, true, false, List, [], ◌∷◌, refl, sym, ap, subst, inl, inr, ◌∙◌, arith}
use Rattle.std.proofs.lemmas.Int.{ints}
use Rattle.std.proofs.lemmas.Bool.Decides.{leb_tells}
use Rattle.std.proofs.Math.Nat.{mul-le-mul_left, one-le-mul}
use Rattle.std.specs.Prelude.{ℤ, pos, neg_ℤ, ◌+ℤ◌, ◌*ℤ◌, ◌≤ℤ◌, ◌<ℤ◌, ◌||◌, nat_lt, None, max}
use Rattle.std.specs.List.{AllByRecursion}
use Rattle.sk_decimal.specs.Quotient.{floor_quotient, ceiling_quotient}
use Rattle.sk_decimal.proofs.Quotients.{neg-mul, floor_above}
use Rattle.sk_decimal.proofs.Signed.{mul-le_right, add-mul}
use Rattle.sk_clock.specs.Clock.{ClockView, ticks_per, total}
use Rattle.sk_publishing.specs.Terms.{Sight, Terms, unit, partition_at, hold_of, seam}
use Rattle.sk_line.specs.Triple.{TripleView}
use Rattle.sk_publishing.specs.Meets.{line_at}
use Rattle.sk_publishing.specs.Chain.{SegmentView, LastEnd, IsChain, rounded_up}
use Rattle.sk_publishing.specs.Kept.{is_new}
use Rattle.sk_triples.specs.Kernel.{IsTriple}
use Rattle.sk_publishing.specs.Built.{Built}
use Rattle.sk_line.proofs.Lists.{all_map}
use Rattle.sk_publishing.proofs.RoundedUp.{rounding_law}
use Rattle.sk_line.proofs.Products.{twice, power_positive}
use Rattle.sk_publishing.proofs.Marks.{partition_rises}
use Rattle.sk_audit.specs.declared.settings.AuditSettings.{AuditSettings}
use Rattle.sk_audit.specs.Given.{IsSmallClock, terms_of}
use Rattle.sk_audit.specs.Walking.{HoldsDue, IsOpen, IsWalk, fresh}
use Rattle.sk_audit.proofs.Quotients.{through}

-- ---- the chain of the old last triple alone

-- it covers nothing
abbrev covering : TripleView → List Sight → SegmentView
covering old c = record { anchor = old.anchor; rate = old.rate; covered = c; ended = LastEnd }

abbrev alone : TripleView → SegmentView
alone old = covering old []

chain_alone : (t : Terms) → IsChain t [] None (alone t.old ∷ [])
chain_alone t = record {
  runs = record { begins = (refl, refl); joined = refl; later = tt };
  partition = (tt, tt);
  meets = ((refl, tt), tt);
  anchor_within = tt;
  anchor_anew = tt;
  past_anchor = tt;
  middle = (tt, tt);
  maximal = (tt, tt);
  ends = (refl, tt);
}

built_alone : (t : Terms) (low high : Sight) (least greatest : ℤ) → Built t [] [] (alone t.old) low high least greatest
built_alone t low high least greatest = record {
  chain = chain_alone t;
  covers = λ h. absurd (omega arith);
  interval = λ h. absurd (omega arith);
}

-- ---- new observations are ahead of it

either : (p q s k : ℕ) → (nat_lt p q || nat_lt s k) ≡ true → (p < q) ⊎ (s < k)
either p q s k e = elim (leb_tells (suc p) q) [
  | inl v ↦ inl (let l = v.1 in omega arith)
  | inr v ↦ elim (leb_tells (suc s) k) [
    | inl w ↦ inr (let l = w.1 in omega arith)
    | inr w ↦ absurd (let none : (false || false) ≡ true = sym (ap (λ (b : Bool). b || nat_lt s k) v.0 ∙ ap (λ (b : Bool). false || b) w.0) ∙ e in cc)
  ]
]

past_old : (t : Terms) → t.old.anchor.ticks < seam t
past_old t = let e : seam t ≡ max (hold_of t) (t.old.anchor.ticks + 1) = refl in omega arith

ahead_of : (t : Terms) (x : Sight) → is_new t x ≡ true → (t.old.anchor.ticks < x.tick) × (partition_at t x.tick ≡ partition_at t t.old.anchor.ticks → seam t < x.tick)
ahead_of t x e = elim (either (partition_at t t.old.anchor.ticks) (partition_at t x.tick) (seam t) x.tick e) [
  | inl later ↦ (later_tick later, λ here. absurd (omega arith))
  | inr past ↦ (let l : t.old.anchor.ticks < seam t = past_old t in (omega arith, λ _. past))
]
  where
    later_tick : partition_at t t.old.anchor.ticks < partition_at t x.tick → t.old.anchor.ticks < x.tick
    later_tick later = elim (leb_tells x.tick t.old.anchor.ticks) [
      | inl w ↦ absurd (let back : partition_at t x.tick ≤ partition_at t t.old.anchor.ticks = partition_rises 0 t.lengths x.tick t.old.anchor.ticks w.1 in omega arith)
      | inr w ↦ w.1
    ]

-- ---- sizes

-- a ceiling is less than one above the quotient
ceiling_below : (n : ℤ) (d : ℕ) → 0 < d → (ceiling_quotient n d *ℤ pos d) ≤ℤ (n +ℤ pos d)
ceiling_below n d h =
    let f : ℤ = floor_quotient (neg_ℤ n) d in
    subst (λ (z : ℤ). z ≤ℤ (n +ℤ pos d)) (sym (neg-mul f d)) (turned n (f *ℤ pos d) ((f +ℤ pos 1) *ℤ pos d) (pos 1 *ℤ pos d) (floor_above (neg_ℤ n) d h) (add-mul f (pos 1) d) (one d))
  where
    one : (d : ℕ) → (pos 1 *ℤ pos d) ≡ pos d
    one d = omega (arith, ints)

    turned : (n x y z : ℤ) → neg_ℤ n <ℤ y → y ≡ x +ℤ z → z ≡ pos d → neg_ℤ x ≤ℤ (n +ℤ pos d)
    turned n x y z p q r = omega (arith, ints)

-- the time of the old last triple, times ticks per count
time_to : (z : ℤ) (per_count : ℕ) → z ≤ℤ pos (10 ^ 28) → per_count ≤ 2 ^ 32 → (z *ℤ pos per_count) ≤ℤ pos (43 * 10 ^ 36)
time_to z per_count h k = through _ _ _ (mul-le_right z (pos (10 ^ 28)) per_count h) (omega (arith, ints, mul-le-mul_left (10 ^ 28) k))

time_from : (z : ℤ) (per_count : ℕ) → neg_ℤ (pos (10 ^ 28)) ≤ℤ z → per_count ≤ 2 ^ 32 → neg_ℤ (pos (43 * 10 ^ 36)) ≤ℤ (z *ℤ pos per_count)
time_from z per_count h k = through _ _ _ (omega (arith, ints, mul-le-mul_left (10 ^ 28) k)) (mul-le_right (neg_ℤ (pos (10 ^ 28))) z per_count h)

-- how far the line runs to the seam
run_to : (rate : ℤ) (ticks : ℕ) → rate ≤ℤ pos (1000 * 10 ^ 18) → ticks ≤ 2 ^ 53 → (rate *ℤ pos ticks) ≤ℤ pos (91 * 10 ^ 35)
run_to rate ticks h k = through _ _ _ (mul-le_right rate (pos (1000 * 10 ^ 18)) ticks h) (omega (arith, ints, mul-le-mul_left (1000 * 10 ^ 18) k))

run_from : (rate : ℤ) (ticks : ℕ) → pos 0 <ℤ rate → pos 0 ≤ℤ (rate *ℤ pos ticks)
run_from rate ticks h = through _ _ _ (none ticks) (mul-le_right (pos 0) rate ticks (weaker rate h))
  where
    none : (n : ℕ) → pos 0 ≤ℤ (pos 0 *ℤ pos n)
    none n = omega (arith, ints)

    weaker : (z : ℤ) → pos 0 <ℤ z → pos 0 ≤ℤ z
    weaker z h = omega (arith, ints)

-- the anchor due at the seam is small
due_alone : (t : Terms) (s : SegmentView) (tick : ℕ) → t.gauge.decimals ≡ 12 → 0 < t.gauge.per_count → t.gauge.per_count ≤ 2 ^ 32
    → neg_ℤ (pos (10 ^ 28)) ≤ℤ s.anchor.time → s.anchor.time ≤ℤ pos (10 ^ 28) → pos 0 <ℤ s.rate → s.rate ≤ℤ pos (1000 * 10 ^ 18) → tick - s.anchor.ticks ≤ 2 ^ 53
    → HoldsDue t s tick
due_alone t s tick twelve some few from to positive slow near = record {
  from = low (s.anchor.time *ℤ pos t.gauge.per_count) (s.rate *ℤ pos (tick - s.anchor.ticks)) (rounded_up t s tick *ℤ pos t.gauge.per_count)
      (time_from s.anchor.time t.gauge.per_count from few) (run_from s.rate (tick - s.anchor.ticks) positive) (rounding_law.order t s tick some);
  to = high (s.anchor.time *ℤ pos t.gauge.per_count) (s.rate *ℤ pos (tick - s.anchor.ticks)) (rounded_up t s tick *ℤ pos t.gauge.per_count) (unit t.gauge * t.gauge.per_count)
      (time_to s.anchor.time t.gauge.per_count to few) (run_to s.rate (tick - s.anchor.ticks) slow near) rounded small;
}
  where
    rounded : (rounded_up t s tick *ℤ pos t.gauge.per_count) ≤ℤ (line_at t.gauge s.anchor s.rate tick +ℤ pos (unit t.gauge * t.gauge.per_count))
    rounded = subst (λ (x : ℤ). x ≤ℤ (line_at t.gauge s.anchor s.rate tick +ℤ pos (unit t.gauge * t.gauge.per_count)))
        (sym (twice (ceiling_quotient (line_at t.gauge s.anchor s.rate tick) (unit t.gauge * t.gauge.per_count)) (unit t.gauge) t.gauge.per_count))
        (ceiling_below (line_at t.gauge s.anchor s.rate tick) (unit t.gauge * t.gauge.per_count) (one-le-mul (power_positive (18 - t.gauge.decimals)) some))

    small : unit t.gauge * t.gauge.per_count ≤ 10 ^ 6 * 2 ^ 32
    small = subst (λ (d : ℕ). 10 ^ (18 - d) * t.gauge.per_count ≤ 10 ^ 6 * 2 ^ 32) (sym twelve) (mul-le-mul_left (10 ^ 6) few)

    low : (a b r : ℤ) → neg_ℤ (pos (43 * 10 ^ 36)) ≤ℤ a → pos 0 ≤ℤ b → (a +ℤ b) ≤ℤ r → neg_ℤ (pos (6 * 10 ^ 37)) ≤ℤ r
    low a b r p q e = omega (arith, ints)

    high : (a b r : ℤ) (u : ℕ) → a ≤ℤ pos (43 * 10 ^ 36) → b ≤ℤ pos (91 * 10 ^ 35) → r ≤ℤ ((a +ℤ b) +ℤ pos u) → u ≤ 10 ^ 6 * 2 ^ 32 → r ≤ℤ pos (6 * 10 ^ 37)
    high a b r u p q e k = omega (arith, ints)

-- ---- what stands at the start

module _ (settings : AuditSettings) (clock : ClockView) (old : TripleView) (all : List Sight) (n : ℕ) (clocked : IsSmallClock clock) (is : IsTriple (total clock) old)
    (hold : hold_of (terms_of settings clock old) ≤ total clock) (news : AllByRecursion (λ x. n ≤ x.place → is_new (terms_of settings clock old) x ≡ true) all) where
  due_fresh : HoldsDue (terms_of settings clock old) (alone old) (seam (terms_of settings clock old))
  due_fresh = due_alone (terms_of settings clock old) (alone old) (seam (terms_of settings clock old)) refl clocked.some clocked.few is.from is.to is.positive is.slow
      (near (hold_of (terms_of settings clock old)) (seam (terms_of settings clock old)) old.anchor.ticks refl hold is.ticks)
    where
      near : (h s l : ℕ) → s ≡ max h (l + 1) → h ≤ total clock → l ≤ total clock → s - l ≤ 2 ^ 53
      near h s l e p q = let r = clocked.short in omega arith

  open_fresh : IsOpen (terms_of settings clock old) all n (fresh old (seam (terms_of settings clock old))) []
  open_fresh =
      let t : Terms = terms_of settings clock old in
      record {
        left = refl;
        covered_to = tt;
        from_anchor = (let l = past_old t in omega arith);
        first_from_anchor = λ _. past_old t;
        whole = λ h. absurd (omega arith);
        ahead = all_map (λ x. n ≤ x.place → is_new t x ≡ true) _ (λ x f l. ahead_of t x (f l)) all news;
        line = record {
          from = through _ _ _ (omega (arith, ints)) (time_from old.anchor.time (ticks_per clock) is.from clocked.few);
          to = through _ _ _ (time_to old.anchor.time (ticks_per clock) is.to clocked.few) (omega (arith, ints));
        };
        rate = record { positive = is.positive; slow = is.slow };
        due_from = due_fresh;
      }

  -- a publication of no new observation, whatever is to come
  pub starts : IsWalk (terms_of settings clock old) all n (fresh old (seam (terms_of settings clock old))) [] []
  starts =
      let t : Terms = terms_of settings clock old in
      let none : Sight = record { place = 0; tick = 0; time = pos 0 } in
      record {
        front = [];
        covered = [];
        low = none;
        high = none;
        low_place = refl;
        high_place = refl;
        tells = refl;
        last = refl;
        built = built_alone t none none (pos 0) (pos 0);
        room = omega arith;
        places = refl;
        is_open = open_fresh;
      }
