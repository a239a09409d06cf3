-- One observation more: what becomes of a publication of all that came so far.
use Rattle.std.proofs.Common.{◌≡◌, ◌^◌, ◌<◌, List, [], ◌∷◌, ◌++◌, length, refl, sym, subst, inl, inr, ◌∙◌, arith, true}
use Rattle.std.proofs.lemmas.Int.{ints}
use Rattle.std.specs.Prelude.{ℤ, pos, ◌+ℤ◌, ◌*ℤ◌, ◌≤ℤ◌, ◌<ℤ◌, Some, None}
use Rattle.std.specs.List.{AllByRecursion}
use Rattle.sk_decimal.specs.Quotient.{floor_quotient}
use Rattle.sk_publishing.specs.Terms.{Sight, Terms, partition_at, grid}
use Rattle.sk_line.specs.Triple.{Anchor}
use Rattle.sk_publishing.specs.Meets.{IsTooLarge, Meets}
use Rattle.sk_publishing.specs.Rates.{on_grid, IsLeastRate, IsGreatestRate, IsFirstGreatest, IsFirstLeast}
use Rattle.sk_publishing.specs.Chain.{PartitionEnd, FixedEnd, BlockedEnd, SegmentView, IsAllowedStep, IsInPartition, IsGridRate, anchor_due, IsNotLater, IsChain}
use Rattle.sk_publishing.specs.Kept.{is_new, HasNoRate, HasTimeFall, SortsNext}
use Rattle.sk_publishing.specs.Built.{Built, middle_rate, longer, beginning}
use Rattle.sk_line.proofs.Lists.{all_back, all_append}
use Rattle.sk_publishing.proofs.Sorting.{bars_chain, no_rate_bars}
use Rattle.sk_publishing.proofs.Steps.{ended_as, end_at, begin_at, go_on}
use Rattle.sk_publishing.proofs.Interval.{middle_of, none_meets, least_allowed, greatest_allowed, one_greatest, one_least}
use Rattle.sk_publishing.proofs.Bounds.{meets_within}
use Rattle.sk_decimal.proofs.Quotients.{floor_below, floor_greatest}
use Rattle.sk_decimal.proofs.Signed.{mul-le_right}

-- what lies between allowed rates is allowed
pub between : (t : Terms) (a b n : ℤ) → IsAllowedStep t a → IsAllowedStep t b → a ≤ℤ n → n ≤ℤ b → IsAllowedStep t n
between t a b n p q h k =
    let lower : on_grid t.gauge.rate_decimals a ≤ℤ on_grid t.gauge.rate_decimals n = mul-le_right a n (grid t.gauge.rate_decimals) h in
    let upper : on_grid t.gauge.rate_decimals n ≤ℤ on_grid t.gauge.rate_decimals b = mul-le_right n b (grid t.gauge.rate_decimals) k in
    record {
      low = through _ _ _ p.low (mul-le_right (on_grid t.gauge.rate_decimals a) (on_grid t.gauge.rate_decimals n) (10 ^ 6) lower);
      high = through _ _ _ (mul-le_right (on_grid t.gauge.rate_decimals n) (on_grid t.gauge.rate_decimals b) (10 ^ 6) upper) q.high;
      most = through _ _ _ upper q.most;
    }
  where
    through : (a b c : ℤ) → a ≤ℤ b → b ≤ℤ c → a ≤ℤ c
    through a b c p q = omega (arith, ints)

-- the middle of the ends is an allowed rate that meets all
pub middle_meets : (t : Terms) (anchor : Anchor) (run : List Sight) (low high : Sight) (least greatest : ℤ)
    → IsFirstGreatest (IsAllowedStep t) t.gauge anchor run low least → IsFirstLeast (IsAllowedStep t) t.gauge anchor run high greatest → least ≤ℤ greatest
    → IsGridRate t (middle_rate t least greatest) × AllByRecursion (Meets t.gauge anchor (middle_rate t least greatest)) run
middle_meets t anchor run low high least greatest p q h =
    let n : ℤ = floor_quotient (least +ℤ greatest) 2 in
    let from : least ≤ℤ n = middle_from least greatest h in
    let to : n ≤ℤ greatest = middle_to least greatest h in
    let a : IsAllowedStep t n = between t least greatest n (least_allowed (IsAllowedStep t) t.gauge anchor low high least greatest p.is_bound q.is_bound h) (greatest_allowed (IsAllowedStep t) t.gauge anchor low high least greatest p.is_bound q.is_bound h) from to in
    ((n, a, refl), meets_within (IsAllowedStep t) t.gauge anchor run low high least greatest n p q a from to)
  where
    through : (a b c : ℤ) → a ≤ℤ b → b ≤ℤ c → a ≤ℤ c
    through a b c p q = omega (arith, ints)

    middle_from : (a b : ℤ) → a ≤ℤ b → a ≤ℤ floor_quotient (a +ℤ b) 2
    middle_from a b h = floor_greatest (a +ℤ b) 2 a (omega arith) (omega (arith, ints))

    middle_to : (a b : ℤ) → a ≤ℤ b → floor_quotient (a +ℤ b) 2 ≤ℤ b
    middle_to a b h = let e = floor_below (a +ℤ b) 2 (omega arith) in half (floor_quotient (a +ℤ b) 2) a b e h
      where
        half : (z a b : ℤ) → (z *ℤ pos 2) ≤ℤ (a +ℤ b) → a ≤ℤ b → z ≤ℤ b
        half z a b e h = omega (arith, ints)

module _ (t : Terms) where
  -- an observation that a chain goes on over is kept
  pub is_kept : (kept dropped : List Sight) (o : Sight) (chain : List SegmentView) → is_new t o ≡ true
      → IsChain t (kept ++ o ∷ []) None chain → SortsNext t kept dropped o (kept ++ o ∷ []) dropped
  is_kept kept dropped o chain new h = inr (inr (new, (λ d. bars_chain t kept [] o None chain (no_rate_bars t kept o d.no_rate) h), refl, refl))

  pub is_dropped : (kept dropped : List Sight) (o : Sight) → is_new t o ≡ true → length dropped < t.reject
      → HasNoRate t kept o → SortsNext t kept dropped o kept (dropped ++ o ∷ [])
  is_dropped kept dropped o new room h = inr (inl (record { is_new = new; room = room; no_rate = h }, refl, refl))

  longer_some : (c : List Sight) (o : Sight) → 0 < length (c ++ o ∷ [])
  longer_some [] o = omega arith
  longer_some (x ∷ c) o = omega arith

  -- a rate is allowed and middle: of an interval that is not empty
  grid_rate : (anchor : Anchor) (run : List Sight) (low high : Sight) (least greatest : ℤ)
      → IsFirstGreatest (IsAllowedStep t) t.gauge anchor run low least → IsFirstLeast (IsAllowedStep t) t.gauge anchor run high greatest → least ≤ℤ greatest
      → IsGridRate t (middle_rate t least greatest) × AllByRecursion (Meets t.gauge anchor (middle_rate t least greatest)) run
  grid_rate anchor run low high least greatest p q h = middle_meets t anchor run low high least greatest p q h

  -- ---- the last segment goes on

  pub first_goes_on : (kept : List Sight) (last : SegmentView) (o : Sight) (low high : Sight) (least greatest : ℤ)
      → IsInPartition t last o → Meets t.gauge last.anchor last.rate o
      → Built t kept [] last low high least greatest → Built t (kept ++ o ∷ []) [] (longer last o last.rate) low high least greatest
  first_goes_on kept last o low high least greatest here meets b =
      let rated = b.chain.meets.0 in
      record {
        chain = go_on t kept [] last o last.rate b.covers here (inl refl) (rated.0, all_append _ last.covered (o ∷ []) rated.1 (meets, tt)) tt b.chain;
        covers = λ h. absurd (omega arith);
        interval = λ h. absurd (omega arith);
      }

  pub later_goes_on : (kept : List Sight) (front : List SegmentView) (last : SegmentView) (o low high low' high' : Sight) (least greatest least' greatest' : ℤ)
      → 0 < length front → IsInPartition t last o
      → IsFirstGreatest (IsAllowedStep t) t.gauge last.anchor (last.covered ++ o ∷ []) low' least'
      → IsFirstLeast (IsAllowedStep t) t.gauge last.anchor (last.covered ++ o ∷ []) high' greatest' → least' ≤ℤ greatest'
      → Built t kept front last low high least greatest
      → Built t (kept ++ o ∷ []) front (longer last o (middle_rate t least' greatest')) low' high' least' greatest'
  later_goes_on kept [] last o low high low' high' least greatest least' greatest' some here p q h b = absurd (omega arith)
  later_goes_on kept (s ∷ front) last o low high low' high' least greatest least' greatest' some here p q h b = record {
    chain = go_on t kept (s ∷ front) last o (middle_rate t least' greatest') b.covers here (inr (omega arith))
        (grid_rate last.anchor (last.covered ++ o ∷ []) low' high' least' greatest' p q h)
        (middle_of (IsAllowedStep t) t.gauge last.anchor (last.covered ++ o ∷ []) low' high' least' greatest' p q h) b.chain;
    covers = λ _. longer_some last.covered o;
    interval = λ _. record { is_low = p; is_high = q; filled = h };
  }

  -- ---- the last segment ends

  not_all : (anchor : Anchor) (rate : ℤ) (c : List Sight) (o : Sight) → AllByRecursion (Meets t.gauge anchor rate) (c ++ o ∷ []) → Meets t.gauge anchor rate o
  not_all anchor rate c o h = (all_back _ c (o ∷ []) h).0

  pub first_ends : (kept : List Sight) (last : SegmentView) (o low high : Sight) (least greatest : ℤ)
      → IsInPartition t last o → ¬ Meets t.gauge last.anchor last.rate o
      → Built t kept [] last low high least greatest → IsChain t kept (Some o) (ended_as t last FixedEnd ∷ [])
  first_ends kept last o low high least greatest here misses b =
      end_at t kept [] last o FixedEnd b.covers
      (λ _ rate old w. misses (subst (λ (r : ℤ). Meets t.gauge last.anchor r o) (old ∙ sym b.chain.runs.begins.1) (not_all last.anchor rate last.covered o w)))
      ((λ _. refl), (λ n. absurd (n here))) b.chain

  pub later_ends : (kept : List Sight) (front : List SegmentView) (last : SegmentView) (o low high low' high' : Sight) (least greatest least' greatest' : ℤ)
      → 0 < length front → IsInPartition t last o
      → IsFirstGreatest (IsAllowedStep t) t.gauge last.anchor (last.covered ++ o ∷ []) low' least'
      → IsFirstLeast (IsAllowedStep t) t.gauge last.anchor (last.covered ++ o ∷ []) high' greatest' → greatest' <ℤ least'
      → Built t kept front last low high least greatest
      → IsChain t kept (Some o) (front ++ ended_as t last (BlockedEnd low'.place high'.place) ∷ [])
  later_ends kept [] last o low high low' high' least greatest least' greatest' some here p q h b = absurd (omega arith)
  later_ends kept (s ∷ front) last o low high low' high' least greatest least' greatest' some here p q h b =
      end_at t kept (s ∷ front) last o (BlockedEnd low'.place high'.place) b.covers
      (λ _ rate allowed w. none_meets (IsAllowedStep t) t.gauge last.anchor (last.covered ++ o ∷ []) low' high' least' greatest' p q h allowed.0 allowed.1
      (subst (λ (r : ℤ). AllByRecursion (Meets t.gauge last.anchor r) (last.covered ++ o ∷ [])) allowed.2 w))
      ((λ _. record { low = low'; high = high'; least = least'; greatest = greatest'; is_low = p; is_high = q; named = refl }), (λ n. absurd (n here))) b.chain

  pub partition_ends : (kept : List Sight) (front : List SegmentView) (last : SegmentView) (o low high : Sight) (least greatest : ℤ)
      → ¬ IsInPartition t last o → Built t kept front last low high least greatest
      → IsChain t kept (Some o) (front ++ ended_as t last PartitionEnd ∷ [])
  partition_ends kept [] last o low high least greatest away b =
      end_at t kept [] last o PartitionEnd b.covers (λ here _ _ _. away here) ((λ here. absurd (away here)), (λ _. refl)) b.chain
  partition_ends kept (s ∷ front) last o low high least greatest away b =
      end_at t kept (s ∷ front) last o PartitionEnd b.covers (λ here _ _ _. away here) ((λ here. absurd (away here)), (λ _. refl)) b.chain

  -- ---- a further segment begins, or none can

  pub begins : (kept : List Sight) (front : List SegmentView) (last : SegmentView) (o : Sight) (least greatest : ℤ)
      → (¬ IsInPartition t last o → IsNotLater t last o)
      → partition_at t o.tick ≡ partition_at t (anchor_due t last o).ticks
      → last.anchor.ticks < (anchor_due t last o).ticks
      → (partition_at t (anchor_due t last o).ticks ≡ partition_at t last.anchor.ticks → (anchor_due t last o).ticks < o.tick)
      → IsLeastRate (IsAllowedStep t) t.gauge (anchor_due t last o) o least → IsGreatestRate (IsAllowedStep t) t.gauge (anchor_due t last o) o greatest
      → least ≤ℤ greatest → IsChain t kept (Some o) (front ++ last ∷ [])
      → Built t (kept ++ o ∷ []) (front ++ last ∷ []) (beginning (anchor_due t last o) o (middle_rate t least greatest)) o o least greatest
  begins kept front last o least greatest later here rises past p q h chain =
      let low = one_greatest (IsAllowedStep t) t.gauge (anchor_due t last o) o least p in
      let high = one_least (IsAllowedStep t) t.gauge (anchor_due t last o) o greatest q in
      let rate = grid_rate (anchor_due t last o) (o ∷ []) o o least greatest low high h in
      record {
        chain = begin_at t kept front last o (middle_rate t least greatest) (anchor_due t last o) refl later here rises past rate.0 rate.1.0
            (middle_of (IsAllowedStep t) t.gauge (anchor_due t last o) (o ∷ []) o o least greatest low high h) chain;
        covers = λ _. omega arith;
        interval = λ _. record { is_low = low; is_high = high; filled = h };
      }

  pub has_no_rate : (kept : List Sight) (front : List SegmentView) (last : SegmentView) (o : Sight) (least greatest : ℤ)
      → IsInPartition t last o
      → IsLeastRate (IsAllowedStep t) t.gauge (anchor_due t last o) o least → IsGreatestRate (IsAllowedStep t) t.gauge (anchor_due t last o) o greatest
      → greatest <ℤ least → IsChain t kept (Some o) (front ++ last ∷ []) → HasNoRate t kept o
  has_no_rate kept front last o least greatest here p q h chain = record {
    chain = front ++ last ∷ [];
    last = last;
    so_far = chain;
    is_last = (front, refl);
    same_partition = here;
    none = λ n a m. none_meets (IsAllowedStep t) t.gauge (anchor_due t last o) (o ∷ []) o o least greatest
        (one_greatest (IsAllowedStep t) t.gauge (anchor_due t last o) o least p) (one_least (IsAllowedStep t) t.gauge (anchor_due t last o) o greatest q) h n a (m, tt);
  }

  pub has_time_fall : (kept : List Sight) (front : List SegmentView) (last : SegmentView) (o : Sight)
      → ¬ IsInPartition t last o → IsTooLarge t.gauge last.anchor last.rate o
      → IsChain t kept (Some o) (front ++ last ∷ []) → HasTimeFall t kept o
  has_time_fall kept front last o away falls chain = record {
    chain = front ++ last ∷ [];
    last = last;
    so_far = chain;
    is_last = (front, refl);
    later_partition = away;
    falls = falls;
  }
