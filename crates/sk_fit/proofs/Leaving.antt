-- The open segment ends at the next observation, and another one begins with it.
use Rattle.std.proofs.Common.{◌≡◌, ℕ, ◌*◌, ◌^◌, ◌<◌, ◌≤◌, Bool, List, [], ◌∷◌, ◌++◌, length, refl, sym, ap, subst, inl, inr, ◌∙◌, arith, map, if◌then◌else◌}
use Rattle.std.proofs.lemmas.Int.{ints}
use Rattle.std.proofs.lemmas.Bool.Decides.{eqb_tells}
use Rattle.std.specs.Prelude.{ℤ, pos, neg_ℤ, ◌+ℤ◌, ◌*ℤ◌, ◌≤ℤ◌, ◌<ℤ◌, Some, None}
use Rattle.std.specs.List.{AllByRecursion}
use Rattle.sk_decimal.specs.Quotient.{ceiling_quotient}
use Rattle.sk_clock.specs.Clock.{ticks_per}
use Rattle.sk_publishing.specs.Row.{RowView}
use Rattle.sk_publishing.specs.Terms.{Sight, Terms, partition_at, unit}
use Rattle.sk_line.specs.Triple.{Anchor}
use Rattle.sk_publishing.specs.Meets.{Meets, line_at}
use Rattle.sk_publishing.specs.Rates.{on_grid}
use Rattle.sk_publishing.specs.Chain.{EndView, FixedEnd, BlockedEnd, SegmentView, IsAllowedStep, left_at, rounded_up, time_anew, IsInPartition, anchor_due, IsNotLater, IsGridRate, HasRate, IsOldRate, IsChain}
use Rattle.sk_publishing.specs.Built.{Built, beginning}
use Rattle.sk_publishing.proofs.Steps.{ended_as, split}
use Rattle.sk_publishing.proofs.Interval.{one_greatest, one_least, none_meets}
use Rattle.sk_publishing.proofs.Fitting.{middle_meets, first_ends, later_ends, partition_ends}
use Rattle.sk_publishing.proofs.Anew.{anew_whole, anew_from, anew_to, anew_meets}
use Rattle.sk_fit.specs.declared.settings.Line.{Line}
use Rattle.sk_fit.specs.declared.chain.Segment.{Segment}
use Rattle.sk_fit.specs.declared.chain.End.{End}
use Rattle.sk_fit.specs.declared.chain.End.TheVariants.{Partition}
use Rattle.sk_fit.specs.declared.open_segment.Running.{Running}
use Rattle.sk_fit.specs.declared.ending.Beginning.{Beginning}
use Rattle.sk_fit.specs.Given.{segment_view, end_view, anchor_of, sight_at, CanMeet}
use Rattle.sk_fit.specs.State.{FittingView, begun_at, front_of, open_of, IsFitting}
use Rattle.sk_fit.specs.Pairs.{CanEnd, IsRunning}
use Rattle.sk_fit.specs.Context.{FitView, terms, all_of, IsNext, IsBuiltTo, Grows, IsHere, CanEndAs, LacksRate, IsBeginning, NoneMeets}
use Rattle.sk_fit.proofs.Moves.{IsLeft, moves_off, after_anchor, after_left, some_front}
use Rattle.sk_fit.proofs.Quotients.{through}
use Rattle.sk_fit.proofs.Ranges.{between_ticks, due_near, left_is_anchor, meets_stuck, scaled_from, scaled_to}

-- the anchor due in the same partition
pub due_here : (t : Terms) (s : SegmentView) (o : Sight) → IsInPartition t s o
    → anchor_due t s o ≡ record { ticks = left_at t s; time = rounded_up t s (left_at t s) }
due_here t s o here = elim (eqb_tells (partition_at t o.tick) (partition_at t s.anchor.ticks)) [
  | inl w ↦ ap (λ (b : Bool). if b then other else record { ticks = o.tick; time = time_anew t s o }) w.0
  | inr w ↦ absurd (w.1 here)
]
  where
    other : Anchor
    other = record { ticks = left_at t s; time = rounded_up t s (left_at t s) }

abbrev pub made : ℕ → ℤ → Anchor
made ticks time = record { ticks = ticks; time = time }

pub both_same : (a b : ℕ) (x y : ℤ) → a ≡ b → x ≡ y → made a x ≡ made b y
both_same a b x y p q = ap (λ (l : ℕ). made l x) p ∙ ap (made b) q

-- all that is covered is met by the segment's rate
covered_met : (t : Terms) (kept : List Sight) (front : List SegmentView) (last : SegmentView) → IsChain t kept None (front ++ last ∷ [])
    → AllByRecursion (Meets t.gauge last.anchor last.rate) last.covered
covered_met t kept [] last p = p.meets.0.1
covered_met t kept (s ∷ front) last p =
    (split (λ s _. HasRate (IsOldRate t) t s) (λ s _. HasRate (IsGridRate t) t s) (s ∷ front) last None p.meets).1.1

module _ (t : Terms) (all : List Sight) (n : ℕ) (f : FittingView) (o : Sight) (kept dropped : List Sight) (some : 0 < t.gauge.per_count)
    (h : IsFitting t all n f kept dropped) (here : IsInPartition t (open_of all f) o) where
  -- what the open segment leaves
  pub due_left : anchor_due t (open_of all f) o ≡ record { ticks = f.leave_tick; time = rounded_up t (open_of all f) f.leave_tick }
  due_left = due_here t (open_of all f) o here
      ∙ ap (λ (l : ℕ). made l (rounded_up t (open_of all f) l)) (sym h.is_open.left)

  -- A later segment that is left at its own anchor: a rate that meets the next observation from there meets all.
  pub stuck : 0 < length f.closed → f.leave_tick ≡ f.open_one.anchor.ticks → (rate : ℤ) → Meets t.gauge (anchor_due t (open_of all f) o) rate o
      → AllByRecursion (Meets t.gauge (open_of all f).anchor rate) ((open_of all f).covered ++ o ∷ [])
  stuck later e rate m =
      let units = h.is_open.whole later in
      let time : rounded_up t (open_of all f) f.leave_tick ≡ (open_of all f).anchor.time =
      ap (rounded_up t (open_of all f)) e ∙ left_is_anchor t (open_of all f) units.0 some units.1 in
      let own : anchor_due t (open_of all f) o ≡ (open_of all f).anchor = due_left ∙ both_same f.leave_tick (open_of all f).anchor.ticks (rounded_up t (open_of all f) f.leave_tick) (open_of all f).anchor.time e time in
      let to : AllByRecursion (λ x. x.tick ≤ (open_of all f).anchor.ticks) (open_of all f).covered =
      subst (λ (l : ℕ). AllByRecursion (λ x. x.tick ≤ l) (open_of all f).covered) e h.is_open.covered_to in
      meets_stuck t.gauge (open_of all f).anchor (open_of all f).rate rate (open_of all f).covered o to
      (covered_met t kept (front_of all f) (open_of all f) h.built.chain) (subst (λ (a : Anchor). Meets t.gauge a rate o) own m)

  -- where some rate meets the next observation from there, it is left past its anchor
  pub left_past : (n : ℤ) → IsAllowedStep t n → Meets t.gauge (anchor_due t (open_of all f) o) (on_grid t.gauge.rate_decimals n) o
      → (0 < length f.closed → (m : ℤ) → IsAllowedStep t m → ¬ AllByRecursion (Meets t.gauge (open_of all f).anchor (on_grid t.gauge.rate_decimals m)) ((open_of all f).covered ++ o ∷ []))
      → f.open_one.anchor.ticks < f.leave_tick
  left_past n a m none = by_length f.closed refl
    where
      by_length : (xs : List Segment) → f.closed ≡ xs → f.open_one.anchor.ticks < f.leave_tick
      by_length [] e = h.is_open.first_from_anchor e
      by_length (x ∷ xs) e = elim (eqb_tells f.leave_tick f.open_one.anchor.ticks) [
        | inl w ↦ absurd (let later : 0 < length f.closed = subst (λ (z : List Segment). 0 < length z) (sym e) (omega arith) in
            none later n a (stuck later w.1 (on_grid t.gauge.rate_decimals n) m))
        | inr w ↦ (let p = h.is_open.from_anchor in let q = w.1 in omega arith)
      ]

pub due_away : (t : Terms) (s : SegmentView) (o : Sight) → ¬ IsInPartition t s o → anchor_due t s o ≡ record { ticks = o.tick; time = time_anew t s o }
due_away t s o away = elim (eqb_tells (partition_at t o.tick) (partition_at t s.anchor.ticks)) [
  | inl w ↦ absurd (away w.1)
  | inr w ↦ ap (λ (b : Bool). if b then made (left_at t s) (rounded_up t s (left_at t s)) else made o.tick (time_anew t s o)) w.0
]

-- ---- a segment that begins

-- its rate is allowed and meets its first observation
begun_meets : (t : Terms) (o : Sight) (b : Beginning) → IsBeginning t o b → IsGridRate t b.rate.units × Meets t.gauge (anchor_of b.anchor) b.rate.units o
begun_meets t o b h =
    let m = middle_meets t (anchor_of b.anchor) (o ∷ []) o o b.bounds.least b.bounds.greatest
    (one_greatest (IsAllowedStep t) t.gauge (anchor_of b.anchor) o b.bounds.least h.is_least)
    (one_least (IsAllowedStep t) t.gauge (anchor_of b.anchor) o b.bounds.greatest h.is_greatest) h.filled in
    (subst (IsGridRate t) (sym h.middle) m.0, subst (λ (r : ℤ). Meets t.gauge (anchor_of b.anchor) r o) (sym h.middle) m.1.0)

module _ (fit : FitView) (n : ℕ) (row : RowView) (f : FittingView) (next : IsNext fit n row) where
  abbrev t : Terms
  t = terms fit

  abbrev all : List Sight
  all = all_of fit

  abbrev o : Sight
  o = sight_at n row

  -- what the open segment leaves in its partition
  abbrev left_here : Anchor
  left_here = made f.leave_tick (rounded_up t (open_of all f) f.leave_tick)

  at_place : (b : Beginning) → IsBeginning t (sight_at 0 row) b → IsBeginning t o b
  at_place b h = record { is_least = h.is_least; is_greatest = h.is_greatest; filled = h.filled; middle = h.middle; good = h.good }

  begins_off : (ended : End) (b : Beginning) → IsBeginning t o b → IsLeft t all f o b.anchor
      → ((kept dropped : List Sight) → IsFitting t all n f kept dropped → IsChain t kept (Some o) (front_of all f ++ ended_as t (open_of all f) (end_view ended) ∷ []))
      → Grows fit n row f (begun_at f ended b n row.tick)
  begins_off ended b begun left so_far kept dropped h =
      let met = (begun_meets t o b begun).1 in
      let m = moves_off t all n f o kept dropped next.at next.rises next.new h ended b begun left (so_far kept dropped h)
      (due_near fit n row next (beginning (anchor_of b.anchor) o b.rate.units) (record { low = met.low; high = met.high })) in
      (kept ++ o ∷ [], dropped, m.0, m.1)

  -- ---- in the same partition

  module _ (built : IsBuiltTo fit n f) (here : IsHere fit n row f) where
    pub left_before : f.leave_tick < row.tick
    left_before = after_left t all n f o built.1 next.at next.rises built.2.is_open built.2.places here

    pub left_short : f.leave_tick < 2 ^ 53
    left_short = let before = left_before in let past = next.not_past in let short = next.given.clocked.short in omega arith

    -- the line from there can be compared with the next observation
    pub can_meet_left : (anchor : Line) → anchor_of anchor ≡ left_here → CanMeet fit.clock anchor row
    can_meet_left anchor e =
        let before = left_before in
        let time : anchor.time.units ≡ rounded_up t (open_of all f) f.leave_tick = ap (λ (a : Anchor). a.time) e in
        let ticks : anchor.ticks ≡ f.leave_tick = ap (λ (a : Anchor). a.ticks) e in
        record {
          not_before = omega arith;
          not_past = next.not_past;
          from = subst (λ (x : ℤ). neg_ℤ (pos (6 * 10 ^ 37)) ≤ℤ (x *ℤ pos t.gauge.per_count)) (sym time) built.2.is_open.due_from.from;
          to = subst (λ (x : ℤ). (x *ℤ pos t.gauge.per_count) ≤ℤ pos (6 * 10 ^ 37)) (sym time) built.2.is_open.due_from.to;
        }

    due_there : (anchor : Line) → anchor_of anchor ≡ left_here → anchor_of anchor ≡ anchor_due t (open_of all f) o
    due_there anchor e = e ∙ sym (due_left t all n f o built.0 built.1 next.given.clocked.some built.2 here)

    -- one observation more: the open segment ends in its partition, and another one begins
    pub leaves_here : (ended : End) (b : Beginning) → CanEndAs fit n row f ended → anchor_of b.anchor ≡ left_here → IsBeginning t (sight_at 0 row) b
        → Grows fit n row f (begun_at f ended b n row.tick)
    leaves_here ended b ends e begun =
        let is_begun : IsBeginning t o b = at_place b begun in
        let met = begun_meets t o b is_begun in
        let due : anchor_of b.anchor ≡ anchor_due t (open_of all f) o = due_there b.anchor e in
        let meets_due : Meets t.gauge (anchor_due t (open_of all f) o) (on_grid t.gauge.rate_decimals met.0.0) o =
        subst (λ (a : Anchor). Meets t.gauge a (on_grid t.gauge.rate_decimals met.0.0) o) due (subst (λ (r : ℤ). Meets t.gauge (anchor_of b.anchor) r o) met.0.2 met.1) in
        let past = left_past t all n f o built.0 built.1 next.given.clocked.some built.2 here met.0.0 met.0.1 meets_due ends.none in
        let before = left_before in
        let ticks : b.anchor.ticks ≡ f.leave_tick = ap (λ (a : Anchor). a.ticks) e in
        let same : partition_at t f.leave_tick ≡ partition_at t (open_of all f).anchor.ticks =
        between_ticks t (open_of all f).anchor.ticks f.leave_tick row.tick built.2.is_open.from_anchor (omega arith) here in
        let can = can_meet_left b.anchor e in
        begins_off ended b is_begun (record {
          due = due;
          not_later = λ away. absurd (away here);
          here = here ∙ sym same ∙ ap (partition_at t) (sym ticks);
          past = omega arith;
          before = λ _. omega arith;
          reached = omega arith;
          whole = (ceiling_quotient (line_at t.gauge (open_of all f).anchor (open_of all f).rate f.leave_tick) (unit t.gauge * t.gauge.per_count), ap (λ (a : Anchor). a.time) e);
          line = record { from = can.from; to = can.to };
        }) ends.so_far

    -- or no allowed rate meets the observation
    pub lacks_rate : (ended : End) (anchor : Line) → CanEndAs fit n row f ended → anchor_of anchor ≡ left_here → NoneMeets t anchor (sight_at 0 row) → LacksRate fit n row ended f
    lacks_rate ended anchor ends e none kept dropped h = (
      record {
        chain = front_of all f ++ ended_as t (open_of all f) (end_view ended) ∷ [];
        last = ended_as t (open_of all f) (end_view ended);
        so_far = ends.so_far kept dropped h;
        is_last = (front_of all f, refl);
        same_partition = here;
        none = λ m a met. (let seen = subst (λ (x : Anchor). Meets t.gauge x (on_grid t.gauge.rate_decimals m) o) (sym (due_there anchor e)) met in
            none m a (record { low = seen.low; high = seen.high }));
      },
      refl,
    )

  -- ---- in another partition

  -- what is due there
  abbrev anew_here : Anchor
  anew_here = made row.tick (time_anew t (open_of all f) o)

  -- the line from there can be compared with the observation
  pub can_meet_anew : (anchor : Line) → IsNotLater t (open_of all f) o → anchor_of anchor ≡ anew_here → CanMeet fit.clock anchor row
  can_meet_anew anchor not_later e =
      let from = next.from in
      let to = next.to in
      let tolerance = next.given.ranges.tolerance_from in
      let most = next.given.ranges.tolerance_to in
      let ticks : anchor.ticks ≡ row.tick = ap (λ (a : Anchor). a.ticks) e in
      let time : anchor.time.units ≡ time_anew t (open_of all f) o = ap (λ (a : Anchor). a.time) e in
      record {
        not_before = omega arith;
        not_past = next.not_past;
        from = subst (λ (x : ℤ). neg_ℤ (pos (6 * 10 ^ 37)) ≤ℤ (x *ℤ pos (ticks_per fit.clock))) (sym time)
            (through _ _ _ (scaled_from row.time (ticks_per fit.clock) (omega (arith, ints)) next.given.clocked.few) (anew_from t (open_of all f) o));
        to = subst (λ (x : ℤ). (x *ℤ pos (ticks_per fit.clock)) ≤ℤ pos (6 * 10 ^ 37)) (sym time)
            (through _ _ _ (anew_to t (open_of all f) o next.given.clocked.some (omega (arith, ints)) not_later)
            (scaled_to (row.time +ℤ fit.settings.tolerance.units) (ticks_per fit.clock) (omega (arith, ints)) next.given.clocked.few));
      }

  -- and every rate meets it
  pub anew_is_met : (anchor : Line) → IsNotLater t (open_of all f) o → anchor_of anchor ≡ anew_here → ¬ NoneMeets t anchor (sight_at 0 row)
  anew_is_met anchor not_later e none =
      let tolerance = next.given.ranges.tolerance_from in
      none fit.start.band.least next.given.allowed.least.has
      (subst (λ (a : Anchor). Meets t.gauge a (on_grid t.gauge.rate_decimals fit.start.band.least) (sight_at 0 row)) (sym e)
      (anew_meets t (open_of all f) (sight_at 0 row) next.given.clocked.some (omega (arith, ints)) not_later (on_grid t.gauge.rate_decimals fit.start.band.least)))

  -- one observation more: the open segment ends with its partition, and another one begins at the observation
  pub leaves_apart : IsBuiltTo fit n f → ¬ IsHere fit n row f → IsNotLater t (open_of all f) o → (b : Beginning) → anchor_of b.anchor ≡ anew_here
      → IsBeginning t (sight_at 0 row) b → Grows fit n row f (begun_at f Partition b n row.tick)
  leaves_apart built away not_later b e begun =
      let due : anchor_of b.anchor ≡ anchor_due t (open_of all f) o = e ∙ sym (due_away t (open_of all f) o away) in
      let ticks : b.anchor.ticks ≡ row.tick = ap (λ (a : Anchor). a.ticks) e in
      let after = after_anchor t all n f o built.1 next.at next.rises built.2.is_open built.2.places in
      let can = can_meet_anew b.anchor not_later e in
      let units = anew_whole t (open_of all f) o in
      begins_off Partition b (at_place b begun) (record {
        due = due;
        not_later = λ _. not_later;
        here = ap (partition_at t) (sym ticks);
        past = omega arith;
        before = λ same. absurd (away (ap (partition_at t) (sym ticks) ∙ same));
        reached = omega arith;
        whole = (units.0, ap (λ (a : Anchor). a.time) e ∙ units.1);
        line = record { from = can.from; to = can.to };
      }) (λ kept dropped h. partition_ends t kept (front_of all f) (open_of all f) o h.low h.high f.least f.greatest away h.built)

-- ---- how the open segment can end in its partition

pub first_can_end : (t : Terms) (all : List Sight) (n : ℕ) (f : FittingView) (o : Sight) → f.closed ≡ [] → IsInPartition t (open_of all f) o
    → ¬ Meets t.gauge (open_of all f).anchor (open_of all f).rate o → CanEnd t all n f o FixedEnd
first_can_end t all n f o none here misses = record {
  so_far = λ kept dropped h.
      let front : front_of all f ≡ [] = ap (map (segment_view all f.dropped)) none in
      subst (λ (z : List SegmentView). IsChain t kept (Some o) (z ++ ended_as t (open_of all f) FixedEnd ∷ [])) (sym front)
      (first_ends t kept (open_of all f) o h.low h.high f.least f.greatest here misses
      (subst (λ (z : List SegmentView). Built t kept z (open_of all f) h.low h.high f.least f.greatest) front h.built));
  none = λ later. absurd (let l = ap length none in omega arith);
}

pub later_can_end : (t : Terms) (all : List Sight) (n : ℕ) (f : FittingView) (o : Sight) (r : Running) → 0 < length f.closed → IsInPartition t (open_of all f) o
    → IsRunning t all f o r → r.bounds.greatest <ℤ r.bounds.least → CanEnd t all n f o (BlockedEnd r.least_place r.greatest_place)
later_can_end t all n f o r later here run empty = record {
  so_far = λ kept dropped h.
      subst (λ (e : EndView). IsChain t kept (Some o) (front_of all f ++ ended_as t (open_of all f) e ∷ []))
      (sym (ap (λ (p : ℕ). BlockedEnd p r.greatest_place) run.low_place ∙ ap (λ (p : ℕ). BlockedEnd run.first.place p) run.high_place))
      (later_ends t kept (front_of all f) (open_of all f) o h.low h.high run.first run.second f.least f.greatest r.bounds.least r.bounds.greatest (some_front all f later) here run.is_low run.is_high empty h.built);
  none = λ _ m a w. none_meets (IsAllowedStep t) t.gauge (open_of all f).anchor ((open_of all f).covered ++ o ∷ []) run.first run.second r.bounds.least r.bounds.greatest run.is_low run.is_high empty m a w;
}
