-- The times of a kernel with new triples.
use Rattle.std.proofs.Common.{◌≡◌, ℕ, ◌+◌, ◌<◌, ◌≤◌, List, [], ◌∷◌, ◌++◌, length, refl, sym, ap, subst, inl, inr, ◌∙◌, append_assoc, arith, true, false}
use Rattle.std.proofs.lemmas.Int.{ints}
use Rattle.std.proofs.lemmas.Bool.Decides.{eqb_tells, nat_tests}
use Rattle.std.specs.Prelude.{ℤ, pos, ◌+ℤ◌, ◌-ℤ◌, ◌*ℤ◌, ◌≤ℤ◌, Option, Some, None, nat_le, flat_map}
use Rattle.std.specs.List.{AllByRecursion}
use Rattle.sk_publishing.specs.Terms.{Sight, Terms, partition_at, seam}
use Rattle.sk_line.specs.Triple.{Anchor, TripleView}
use Rattle.sk_line.specs.Line.{line_over, covering_from}
use Rattle.sk_publishing.specs.Meets.{line_at, scaled, Meets}
use Rattle.sk_publishing.specs.Chain.{SegmentView, first_of, last_of, covered_by, EachFollowed, EachJoined, ForNext, IsInPartition, IsGridRate, HasRate, anchor_due, left_at, rounded_up, time_anew, IsNotLater}
use Rattle.sk_publishing.specs.Laws.{SightsRise, TriplesRise, ToleranceLaw, NoFallLaw}
use Rattle.sk_publishing.specs.Meets.{IsWithinTolerance}
use Rattle.sk_line.proofs.Lists.{all_front, all_back, all_append, all_map, heads}
use Rattle.sk_publishing.proofs.Chains.{due_of, starts}
use Rattle.sk_publishing.proofs.RoundedUp.{rounding_law}
use Rattle.sk_publishing.proofs.Anew.{anew_in_order, at_anchor}

-- ---- no join of a chain falls

abbrev pub triple_of : SegmentView → TripleView
triple_of s = record { anchor = s.anchor; rate = s.rate }

module _ (t : Terms) where
  abbrev NotFalling : SegmentView → SegmentView → Type 0
  NotFalling before s = line_over t.gauge.per_count before.anchor before.rate s.anchor.ticks ≤ℤ (s.anchor.time *ℤ pos t.gauge.per_count)

  abbrev Within : SegmentView → SegmentView → Type 0
  Within before s = ForNext (first_of s.covered) (λ o. IsInPartition t before o → s.anchor ≡ anchor_due t before o)

  abbrev Anew : SegmentView → SegmentView → Type 0
  Anew before s = ForNext (first_of s.covered) (λ o. ¬ IsInPartition t before o → (s.anchor ≡ anchor_due t before o) × IsNotLater t before o)

  -- the anchor due, by cases on the partition
  pub due_within : (before : SegmentView) (o : Sight) → IsInPartition t before o
      → anchor_due t before o ≡ record { ticks = left_at t before; time = rounded_up t before (left_at t before) }
  due_within before o h = elim (eqb_tells (partition_at t o.tick) (partition_at t before.anchor.ticks)) [
    | inl e ↦ rw e.0 refl
    | inr e ↦ absurd (e.1 h)
  ]

  pub due_anew : (before : SegmentView) (o : Sight) → ¬ IsInPartition t before o
      → anchor_due t before o ≡ record { ticks = o.tick; time = time_anew t before o }
  due_anew before o h = elim (eqb_tells (partition_at t o.tick) (partition_at t before.anchor.ticks)) [
    | inl e ↦ absurd (h e.1)
    | inr e ↦ rw e.0 refl
  ]

  abbrev Ends : SegmentView → Anchor → Type 0
  Ends before a = line_over t.gauge.per_count before.anchor before.rate a.ticks ≤ℤ (a.time *ℤ pos t.gauge.per_count)

  not_falling : (before s : SegmentView) (o : Sight) (m : List Sight) → 0 < t.gauge.per_count → s.covered ≡ o ∷ m
      → Within before s → Anew before s → NotFalling before s
  not_falling before s o m h e within anew = elim (eqb_tells (partition_at t o.tick) (partition_at t before.anchor.ticks)) [
    | inl p ↦ subst (Ends before) (sym (due_of t before s o m e within anew ∙ due_within before o p.1)) (rounding_law.order t before (left_at t before) h)
    | inr p ↦ subst (Ends before) (sym (due_of t before s o m e within anew ∙ due_anew before o p.1)) (anew_in_order t before o h)
  ]

  joins : (before : SegmentView) (later : List SegmentView) → 0 < t.gauge.per_count → AllByRecursion (λ l. 0 < length l.covered) later
      → EachJoined Within (before ∷ later) → EachJoined Anew (before ∷ later) → EachJoined NotFalling (before ∷ later)
  joins before [] h c w a = tt
  joins before (s ∷ later) h c w a =
      let b = starts s.covered c.0 in
      (not_falling before s b.0 b.1 h b.2 w.0 a.0, joins s later h c.1 w.1 a.1)

pub no_fall_law : NoFallLaw
no_fall_law t kept next [] h p = tt
no_fall_law t kept next (s ∷ later) h p = joins t s later h p.runs.later p.anchor_within p.anchor_anew

-- ---- the triple that covers a tick

le_true : (a b : ℕ) → a ≤ b → nat_le a b ≡ true
le_true a b h = grind (arith, nat_tests)

le_false : (a b : ℕ) → b < a → nat_le a b ≡ false
le_false a b h = grind (arith, nat_tests)

none_covers : (n : ℕ) (ys : List TripleView) (tick : ℕ) → AllByRecursion (λ b. tick < b.anchor.ticks) ys → covering_from n ys tick ≡ None
none_covers n [] tick h = refl
none_covers n (y ∷ ys) tick h = rw (le_false y.anchor.ticks tick h.0) refl

last_covers : (n : ℕ) (xs ys : List TripleView) (a : TripleView) (tick : ℕ) → TriplesRise (xs ++ a ∷ ys) → a.anchor.ticks ≤ tick
    → AllByRecursion (λ b. tick < b.anchor.ticks) ys → (m : ℕ) × (covering_from n (xs ++ a ∷ ys) tick ≡ Some (m, a))
last_covers n [] ys a tick r le above = (n, rw (le_true a.anchor.ticks tick le, none_covers (n + 1) ys tick above) refl)
last_covers n (x ∷ xs) ys a tick r le above =
    let rec = last_covers (n + 1) xs ys a tick r.1 le above in
    let first : x.anchor.ticks < a.anchor.ticks = (all_back _ xs (a ∷ ys) r.0).0 in
    (rec.0, rw (le_true x.anchor.ticks tick (omega arith), rec.1) refl)

-- ---- ticks of sights that rise

-- the tick where a run is left
abbrev last_tick : List Sight → ℕ
last_tick c = elim (last_of c) [ None ↦ 0 | Some o ↦ o.tick ]

to_last : (c : List Sight) → SightsRise c → AllByRecursion (λ o. o.tick ≤ last_tick c) c
to_last [] h = tt
to_last (o ∷ []) h = (omega arith, tt)
to_last (o ∷ p ∷ os) h = (let r = (to_last (p ∷ os) h.1).0 in let q = h.0.0 in omega arith, to_last (p ∷ os) h.1)

rise_front : (c d : List Sight) → SightsRise (c ++ d) → SightsRise c
rise_front [] d h = tt
rise_front (o ∷ c) d h = (all_front _ c d h.0, rise_front c d h.1)

rise_back : (c d : List Sight) → SightsRise (c ++ d) → SightsRise d
rise_back [] d h = h
rise_back (o ∷ c) d h = rise_back c d h.1

above_last : (c d : List Sight) → 0 < length c → SightsRise (c ++ d) → AllByRecursion (λ p. last_tick c < p.tick) d
above_last [] d n h = absurd (omega arith)
above_last (o ∷ []) d n h = h.0
above_last (o ∷ p ∷ c) d n h = above_last (p ∷ c) d (omega arith) h.1

each_below : (c d : List Sight) (p : Sight) (m : List Sight) → d ≡ p ∷ m → SightsRise (c ++ d) → AllByRecursion (λ o. o.tick < p.tick) c
each_below [] d p m e h = tt
each_below (o ∷ c) d p m e h = ((subst (AllByRecursion (λ q. o.tick < q.tick)) e (all_back _ c d h.0)).0, each_below c d p m e h.1)

triples_back : (xs ys : List TripleView) → TriplesRise (xs ++ ys) → TriplesRise ys
triples_back [] ys h = h
triples_back (x ∷ xs) ys h = triples_back xs ys h.1

-- ---- each segment

abbrev triples_of : List SegmentView → List TripleView
triples_of later = flat_map (λ l. record { anchor = l.anchor; rate = l.rate } ∷ []) later

module _ (t : Terms) (positive : 0 < t.gauge.per_count) where
  left_is : (s : SegmentView) → 0 < length s.covered → left_at t s ≡ last_tick s.covered
  left_is s h = of s.covered h
    where
      of : (c : List Sight) → 0 < length c → elim (last_of c) [ None ↦ seam t | Some o ↦ o.tick ] ≡ last_tick c
      of [] h = absurd (omega arith)
      of (o ∷ []) h = refl
      of (o ∷ p ∷ c) h = of (p ∷ c) (omega arith)

  own : (xs ys : List TripleView) (s : SegmentView) (o : Sight) → TriplesRise (xs ++ triple_of s ∷ ys) → s.anchor.ticks ≤ o.tick
      → AllByRecursion (λ b. o.tick < b.anchor.ticks) ys → Meets t.gauge s.anchor s.rate o → IsWithinTolerance t.gauge (xs ++ triple_of s ∷ ys) o
  own xs ys s o r le above m =
      let c = last_covers 1 xs ys (triple_of s) o.tick r le above in
      (line_at t.gauge s.anchor s.rate o.tick, (c.0, triple_of s, c.1, refl), m.low, m.high)

  -- at the next anchor, whose time is the line rounded up
  next : (xs ys : List TripleView) (before s : SegmentView) (o : Sight) → TriplesRise (xs ++ triple_of s ∷ ys)
      → s.anchor ≡ record { ticks = left_at t before; time = rounded_up t before (left_at t before) } → o.tick ≡ left_at t before
      → Meets t.gauge before.anchor before.rate o → IsWithinTolerance t.gauge (xs ++ triple_of s ∷ ys) o
  next xs ys before s o r e f m =
      let there : o.tick ≡ s.anchor.ticks = f ∙ sym (ap (λ (a : Anchor). a.ticks) e) in
      let c = last_covers 1 xs ys (triple_of s) o.tick r (omega arith) (all_map _ _ (λ b (h : s.anchor.ticks < b.anchor.ticks). omega arith) ys (triples_back xs (triple_of s ∷ ys) r).0) in
      let time : line_over t.gauge.per_count s.anchor s.rate o.tick ≡ rounded_up t before (left_at t before) *ℤ pos t.gauge.per_count =
      at_anchor t.gauge.per_count s.anchor s.rate o.tick there ∙ ap (λ (a : Anchor). a.time *ℤ pos t.gauge.per_count) e in
      let high : line_at t.gauge before.anchor before.rate (left_at t before) ≤ℤ scaled t.gauge (o.time +ℤ t.gauge.tolerance) =
      subst (λ (k : ℕ). line_at t.gauge before.anchor before.rate k ≤ℤ scaled t.gauge (o.time +ℤ t.gauge.tolerance)) f m.high in
      let low : scaled t.gauge (o.time -ℤ t.gauge.tolerance) ≤ℤ line_at t.gauge before.anchor before.rate (left_at t before) =
      subst (λ (k : ℕ). scaled t.gauge (o.time -ℤ t.gauge.tolerance) ≤ℤ line_at t.gauge before.anchor before.rate k) f m.low in (
        line_over t.gauge.per_count s.anchor s.rate o.tick,
        (c.0, triple_of s, c.1, refl),
        subst (λ (x : ℤ). scaled t.gauge (o.time -ℤ t.gauge.tolerance) ≤ℤ x) (sym time) (through _ _ _ low (rounding_law.order t before (left_at t before) positive)),
        subst (λ (x : ℤ). x ≤ℤ scaled t.gauge (o.time +ℤ t.gauge.tolerance)) (sym time) (rounding_law.tolerance t before (left_at t before) o positive high),
      )
    where
      through : (a b c : ℤ) → a ≤ℤ b → b ≤ℤ c → a ≤ℤ c
      through a b c p q = omega (arith, ints)

  -- the observations of a segment, before the next one
  own_or_next : (pre : List TripleView) (s s2 : SegmentView) (ys : List TripleView) (o2 : Sight) (m2 : List Sight) (os : List Sight)
      → TriplesRise (pre ++ triple_of s ∷ (triple_of s2 ∷ ys))
      → s2.covered ≡ o2 ∷ m2 → Within t s s2 → Anew t s s2
      → (IsInPartition t s o2 → AllByRecursion (λ o. o.tick ≤ left_at t s) os)
      → AllByRecursion (λ o. o.tick < o2.tick) os
      → AllByRecursion (λ o. s.anchor.ticks ≤ o.tick) os
      → AllByRecursion (Meets t.gauge s.anchor s.rate) os
      → AllByRecursion (IsWithinTolerance t.gauge (pre ++ triple_of s ∷ (triple_of s2 ∷ ys))) os
  own_or_next pre s s2 ys o2 m2 [] r e w a left below from meets = tt
  own_or_next pre s s2 ys o2 m2 (o ∷ os) r e w a left below from meets = (
    elim (eqb_tells (partition_at t o2.tick) (partition_at t s.anchor.ticks)) [
      | inl p ↦ same (due_of t s s2 o2 m2 e w a ∙ due_within t s o2 p.1) (left p.1).0
      | inr p ↦ before (let d : s2.anchor.ticks ≡ o2.tick = ap (λ (x : Anchor). x.ticks) (due_of t s s2 o2 m2 e w a ∙ due_anew t s o2 p.1) in let b = below.0 in omega arith)
    ],
    own_or_next pre s s2 ys o2 m2 os r e w a (λ p. (left p).1) below.1 from.1 meets.1,
  )
    where
      before : o.tick < s2.anchor.ticks → IsWithinTolerance t.gauge (pre ++ triple_of s ∷ (triple_of s2 ∷ ys)) o
      before h = own pre (triple_of s2 ∷ ys) s o r from.0
          (h, all_map _ _ (λ b (k : s2.anchor.ticks < b.anchor.ticks). omega arith) ys (triples_back pre (triple_of s ∷ (triple_of s2 ∷ ys)) r).1.0) meets.0

      at_next : s2.anchor ≡ record { ticks = left_at t s; time = rounded_up t s (left_at t s) } → o.tick ≡ left_at t s
          → IsWithinTolerance t.gauge (pre ++ triple_of s ∷ (triple_of s2 ∷ ys)) o
      at_next d q = subst (λ (z : List TripleView). IsWithinTolerance t.gauge z o) (append_assoc pre (triple_of s ∷ []) (triple_of s2 ∷ ys))
          (next (pre ++ triple_of s ∷ []) ys s s2 o (subst TriplesRise (sym (append_assoc pre (triple_of s ∷ []) (triple_of s2 ∷ ys))) r) d q meets.0)

      same : s2.anchor ≡ record { ticks = left_at t s; time = rounded_up t s (left_at t s) } → o.tick ≤ left_at t s
          → IsWithinTolerance t.gauge (pre ++ triple_of s ∷ (triple_of s2 ∷ ys)) o
      same d q = elim (eqb_tells o.tick (left_at t s)) [
        | inl h ↦ at_next d h.1
        | inr h ↦ before (let k : s2.anchor.ticks ≡ left_at t s = ap (λ (x : Anchor). x.ticks) d in let n = h.1 in omega arith)
      ]

  up_to_left : (s : SegmentView) (c : List Sight) → s.covered ≡ c → SightsRise c → AllByRecursion (λ o. o.tick ≤ left_at t s) c
  up_to_left s [] e h = tt
  up_to_left s (x ∷ c) e h =
      let left : left_at t s ≡ last_tick (x ∷ c) = left_is s (let l = ap length e in omega arith) ∙ ap last_tick e in
      all_map _ _ (λ o (k : o.tick ≤ last_tick (x ∷ c)). omega arith) (x ∷ c) (to_last (x ∷ c) h)

  from_first : (k : ℕ) (c : List Sight) (o : Sight) (m : List Sight) → c ≡ o ∷ m → SightsRise c → k ≤ o.tick → AllByRecursion (λ x. k ≤ x.tick) c
  from_first k [] o m e h le = tt
  from_first k (x ∷ c) o m e h le =
      let same : x.tick ≡ o.tick = ap (λ (z : Sight). z.tick) (heads x o c m e) in
      (omega arith, all_map _ _ (λ y (g : x.tick < y.tick). omega arith) c h.0)

  within_from : (pre : List TripleView) (s : SegmentView) (later : List SegmentView)
      → TriplesRise (pre ++ triple_of s ∷ triples_of later)
      → SightsRise (s.covered ++ covered_by later)
      → AllByRecursion (λ o. s.anchor.ticks ≤ o.tick) s.covered
      → AllByRecursion (Meets t.gauge s.anchor s.rate) s.covered
      → AllByRecursion (λ o. IsInPartition t s o → left_at t s < o.tick) (covered_by later)
      → EachFollowed (λ l _. HasRate (IsGridRate t) t l) later None
      → AllByRecursion (λ l. 0 < length l.covered) later
      → EachJoined (Within t) (s ∷ later) → EachJoined (Anew t) (s ∷ later)
      → AllByRecursion (IsWithinTolerance t.gauge (pre ++ triple_of s ∷ triples_of later)) (s.covered ++ covered_by later)
  within_from pre s [] r rise from meets left rates cover w a =
      all_append _ s.covered [] (alone s.covered from meets) tt
    where
      alone : (os : List Sight) → AllByRecursion (λ o. s.anchor.ticks ≤ o.tick) os → AllByRecursion (Meets t.gauge s.anchor s.rate) os
          → AllByRecursion (IsWithinTolerance t.gauge (pre ++ triple_of s ∷ [])) os
      alone [] f m = tt
      alone (o ∷ os) f m = (own pre [] s o r f.0 tt m.0, alone os f.1 m.1)
  within_from pre s (s2 ∷ later) r rise from meets left rates cover w a =
      let b = starts s2.covered cover.0 in
      let begins : covered_by (s2 ∷ later) ≡ b.0 ∷ (b.1 ++ covered_by later) = ap (λ (z : List Sight). z ++ covered_by later) b.2 in
      let below = each_below s.covered (covered_by (s2 ∷ later)) b.0 (b.1 ++ covered_by later) begins rise in
      let rise2 = rise_back s.covered (covered_by (s2 ∷ later)) rise in
      let here = own_or_next pre s s2 (triples_of later) b.0 b.1 s.covered r b.2 w.0 a.0 (λ _. up_to_left s s.covered refl (rise_front s.covered _ rise)) below from meets in
      let after : IsInPartition t s b.0 → left_at t s < b.0.tick =
      (subst (AllByRecursion (λ o. IsInPartition t s o → left_at t s < o.tick)) begins left).0 in
      let reached : s2.anchor.ticks ≤ b.0.tick =
      elim (eqb_tells (partition_at t b.0.tick) (partition_at t s.anchor.ticks)) [
        | inl p ↦ (let d : s2.anchor.ticks ≡ left_at t s = ap (λ (x : Anchor). x.ticks) (due_of t s s2 b.0 b.1 b.2 w.0 a.0 ∙ due_within t s b.0 p.1) in let q = after p.1 in omega arith)
        | inr p ↦ (let d : s2.anchor.ticks ≡ b.0.tick = ap (λ (x : Anchor). x.ticks) (due_of t s s2 b.0 b.1 b.2 w.0 a.0 ∙ due_anew t s b.0 p.1) in omega arith)
      ] in
      let there = from_first s2.anchor.ticks s2.covered b.0 b.1 b.2 (rise_front s2.covered (covered_by later) rise2) reached in
      let left2 : AllByRecursion (λ o. IsInPartition t s2 o → left_at t s2 < o.tick) (covered_by later) =
      all_map (λ o. last_tick s2.covered < o.tick) (λ o. IsInPartition t s2 o → left_at t s2 < o.tick) (λ o g i. (let q = left_is s2 cover.0 in omega arith)) (covered_by later) (above_last s2.covered (covered_by later) cover.0 rise2) in
      let rest = within_from (pre ++ triple_of s ∷ []) s2 later
      (subst TriplesRise (sym (append_assoc pre (triple_of s ∷ []) (triple_of s2 ∷ triples_of later))) r)
      rise2 there rates.0.1 left2 rates.1 cover.1 w.1 a.1 in
      all_append _ s.covered (covered_by (s2 ∷ later)) here
      (subst (λ (z : List TripleView). AllByRecursion (IsWithinTolerance t.gauge z) (covered_by (s2 ∷ later))) (append_assoc pre (triple_of s ∷ []) (triple_of s2 ∷ triples_of later)) rest)

abbrev made : Anchor → ℤ → TripleView
made a r = record { anchor = a; rate = r }

triple_is : (x y : TripleView) → x.anchor ≡ y.anchor → x.rate ≡ y.rate → x ≡ y
triple_is x y e f = let g : made x.anchor x.rate ≡ made y.anchor y.rate = cc in g

-- where the first segment is left
first_left : (t : Terms) (s : SegmentView) (c : List Sight) (d : List Sight) → s.covered ≡ c → s.anchor ≡ t.old.anchor → SightsRise (c ++ d)
    → AllByRecursion (λ o. partition_at t o.tick ≡ partition_at t t.old.anchor.ticks → seam t < o.tick) d
    → AllByRecursion (λ o. IsInPartition t s o → left_at t s < o.tick) d
first_left t s [] d e f r h = all_map (λ o. partition_at t o.tick ≡ partition_at t t.old.anchor.ticks → seam t < o.tick) (λ o. IsInPartition t s o → left_at t s < o.tick) (λ o g i.
    (let q = g (i ∙ ap (λ (a : Anchor). partition_at t a.ticks) f) in let l : left_at t s ≡ seam t = ap (λ (z : List Sight). elim (last_of z) [ None ↦ seam t | Some o ↦ o.tick ]) e in omega arith)) d h
first_left t s (x ∷ c) d e f r h = all_map (λ o. last_tick (x ∷ c) < o.tick) (λ o. IsInPartition t s o → left_at t s < o.tick) (λ o g i. (let l : left_at t s ≡ last_tick (x ∷ c) = lefts (x ∷ c) (omega arith) in omega arith)) d (above_last (x ∷ c) d (omega arith) r)
  where
    of : (c : List Sight) → 0 < length c → elim (last_of c) [ None ↦ seam t | Some o ↦ o.tick ] ≡ last_tick c
    of [] h = absurd (omega arith)
    of (o ∷ []) h = refl
    of (o ∷ p ∷ c) h = of (p ∷ c) (omega arith)

    lefts : (c' : List Sight) → 0 < length (x ∷ c) → left_at t s ≡ last_tick (x ∷ c)
    lefts c' n = ap (λ (z : List Sight). elim (last_of z) [ None ↦ seam t | Some o ↦ o.tick ]) e ∙ of (x ∷ c) n

pub tolerance_law : ToleranceLaw
tolerance_law t front kept next [] h r rise above seams p = absurd p.runs.begins
tolerance_law t front kept next (s ∷ later) h r rise above seams p =
    let same : t.old ≡ triple_of s = triple_is t.old (triple_of s) (sym p.runs.begins.0) (sym p.runs.begins.1) in
    let all : (front ++ t.old ∷ []) ++ triples_of later ≡ front ++ triple_of s ∷ triples_of later =
    append_assoc front (t.old ∷ []) (triples_of later) ∙ ap (λ (x : TripleView). front ++ x ∷ triples_of later) same in
    let joined : kept ≡ s.covered ++ covered_by later = sym p.runs.joined in
    let rise' : SightsRise (s.covered ++ covered_by later) = subst SightsRise joined rise in
    let from : AllByRecursion (λ o. s.anchor.ticks ≤ o.tick) s.covered =
    all_map _ _ (λ o (k : t.old.anchor.ticks < o.tick). (let e : s.anchor.ticks ≡ t.old.anchor.ticks = ap (λ (a : Anchor). a.ticks) p.runs.begins.0 in omega arith)) s.covered
    (all_front _ s.covered (covered_by later) (subst (AllByRecursion (λ o. t.old.anchor.ticks < o.tick)) joined above)) in
    let left = first_left t s s.covered (covered_by later) refl p.runs.begins.0 rise'
    (all_back _ s.covered (covered_by later) (subst (AllByRecursion (λ o. partition_at t o.tick ≡ partition_at t t.old.anchor.ticks → seam t < o.tick)) joined seams)) in
    let done = within_from t h front s later (subst TriplesRise all r) rise' from p.meets.0.1 left p.meets.1 p.runs.later p.anchor_within p.anchor_anew in
    subst (λ (z : List TripleView). AllByRecursion (IsWithinTolerance t.gauge z) kept) (sym all)
    (subst (AllByRecursion (IsWithinTolerance t.gauge (front ++ triple_of s ∷ triples_of later))) (sym joined) done)
