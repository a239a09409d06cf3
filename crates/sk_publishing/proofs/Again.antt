-- A second publication of the same observations adds no triple.
use Rattle.std.proofs.Common.{rules, ◌≡◌, ◌⊎◌, ℕ, zero, suc, ◌+◌, ◌<◌, ◌≤◌, Bool, true, false, List, [], ◌∷◌, ◌++◌, length, Option, Some, None, refl, sym, ap, subst, inl, inr, ◌∙◌, arith, append-nil, append_assoc, length-append}
use Rattle.std.proofs.lemmas.Bool.{cases_lt, cases_order, leb-true}
use Rattle.std.proofs.lemmas.Bool.Decides.{leb_tells}
use Rattle.std.specs.Prelude.{ℤ, ◌≤ℤ◌, ◌||◌, nat_lt, nat_le, max, unwrap_or, if◌then◌else◌}
use Rattle.std.specs.List.{AllByRecursion}
use Rattle.sk_line.specs.Triple.{Anchor, TripleView}
use Rattle.sk_line.specs.Line.{line_over, covering_from, covering}
use Rattle.sk_publishing.specs.Terms.{Sight, Terms, Gauge, partition_at, hold_of, seam}
use Rattle.sk_publishing.specs.Meets.{Meets, IsWithinTolerance}
use Rattle.sk_publishing.specs.Chain.{SegmentView, LastEnd, covered_by, first_or, BeginsWithOld, StayInPartition, IsChain, IsMaximal, IsInPartition, IsOldRate, new_triples}
use Rattle.sk_publishing.specs.Kept.{is_new, SortsNext, SortsFrom, Sorts, IsPublication}
use Rattle.sk_publishing.specs.Laws.{TriplesRise}
use Rattle.sk_publishing.specs.Again.{over, AgainLaw, NoneLaw}
use Rattle.sk_line.proofs.Lists.{all_front, all_back, all_append, all_map, all_both, heads, tails}
use Rattle.sk_publishing.proofs.Chains.{starts}
use Rattle.sk_publishing.proofs.Marks.{partition_rises}
use Rattle.sk_publishing.proofs.NewKernel.{triple_of}
use Rattle.sk_publishing.proofs.Sorting.{kept_grows}

-- ---- the last triple

-- of rising triples none is later than the last
all_before : (xs : List TripleView) (last : TripleView) → TriplesRise (xs ++ last ∷ []) → AllByRecursion (λ x. x.anchor.ticks ≤ last.anchor.ticks) (xs ++ last ∷ [])
all_before [] last rise = (omega arith, tt)
all_before (x ∷ xs) last rise =
    let less = all_back (λ (b : TripleView). x.anchor.ticks < b.anchor.ticks) xs (last ∷ []) rise.0 in
    (omega (arith, less.0), all_before xs last rise.1)

-- the last triple covers the ticks from its own on
last_covers : (n : ℕ) (xs : List TripleView) (last : TripleView) (tick : ℕ) → AllByRecursion (λ x. x.anchor.ticks ≤ tick) (xs ++ last ∷ [])
    → (m : ℕ) × (covering_from n (xs ++ last ∷ []) tick ≡ Some (m, last))
last_covers n [] last tick below = elim (leb_tells last.anchor.ticks tick) [
  | inl is ↦ (n, rw is.0 refl)
  | inr not ↦ absurd (let no = not.1 in let yes' = below.0 in omega arith)
]
last_covers n (x ∷ xs) last tick below = elim (leb_tells x.anchor.ticks tick) [
  | inl is ↦ (let later = last_covers (n + 1) xs last tick below.1 in (later.0, rw is.0 (ap (λ (o : Option (ℕ × TripleView)). Some (unwrap_or o (n, x))) later.1)))
  | inr not ↦ absurd (let no = not.1 in let yes' = below.0 in omega arith)
]

some_same : {A : Type 0} (a b : A) → ◌≡◌ {A = Option A} (Some a) (Some b) → a ≡ b
some_same a b e = cc

-- what is within the tolerance by the triples is met by the last one from its tick on
meets_last : (g : Gauge) (xs : List TripleView) (last : TripleView) (o : Sight) → TriplesRise (xs ++ last ∷ []) → last.anchor.ticks ≤ o.tick
    → IsWithinTolerance g (xs ++ last ∷ []) o → Meets g last.anchor last.rate o
meets_last g xs last o rise from within =
    let below = all_map (λ (x : TripleView). x.anchor.ticks ≤ last.anchor.ticks) (λ (x : TripleView). x.anchor.ticks ≤ o.tick) (λ x less. omega (arith, less, from)) (xs ++ last ∷ []) (all_before xs last rise) in
    let covers = last_covers 1 xs last o.tick below in
    let timed = within.1 in
    let found : ◌≡◌ {A = ℕ × TripleView} (timed.0, timed.1) (covers.0, last) = some_same (timed.0, timed.1) (covers.0, last) (sym timed.2 ∙ covers.1) in
    let same : timed.1 ≡ last = ap (λ (p : ℕ × TripleView). p.1) found in
    let at : within.0 ≡ line_over g.per_count last.anchor last.rate o.tick = timed.3 ∙ ap (λ (x : TripleView). line_over g.per_count x.anchor x.rate o.tick) same in
    record { low = subst (λ (z : ℤ). _ ≤ℤ z) at within.2; high = subst (λ (z : ℤ). z ≤ℤ _) at within.3 }

-- ---- what is kept

-- where nothing is dropped, each new observation is kept
module _ (t : Terms) (P : Sight → Type 0) where
  none_grown : (d more : List Sight) (o : Sight) → ¬ ([] ≡ (d ++ o ∷ []) ++ more)
  none_grown d more o e = absurd (omega (arith, ap length e, length-append (d ++ o ∷ []) more, length-append d (o ∷ [])))

  dropped_grows : (rest kept dropped k d : List Sight) → SortsFrom t kept dropped rest k d → (more : List Sight) × (d ≡ dropped ++ more)
  dropped_grows [] kept dropped k d s = ([], s.1 ∙ sym (append-nil dropped))
  dropped_grows (o ∷ rest) kept dropped k d s = grown (dropped_grows rest s.0 s.1 k d s.3) s.2
    where
      grown : ((more : List Sight) × (d ≡ s.1 ++ more)) → SortsNext t kept dropped o s.0 s.1 → (more : List Sight) × (d ≡ dropped ++ more)
      grown r (inl p) = (r.0, let e = r.1 in let f = p.2 in cc)
      grown r (inr (inl p)) = (o ∷ r.0, r.1 ∙ ap (λ (z : List Sight). z ++ r.0) p.2 ∙ append_assoc dropped (o ∷ []) r.0)
      grown r (inr (inr p)) = (r.0, let e = r.1 in let f = p.3 in cc)

  true_false : (b : Bool) → b ≡ true → ¬ (b ≡ false)
  true_false b e f = let g : true ≡ false = sym e ∙ f in cc

  new_kept : (rest kept dropped k : List Sight) → SortsFrom t kept dropped rest k [] → AllByRecursion P k → AllByRecursion (λ o. is_new t o ≡ true → P o) rest
  new_kept [] kept dropped k s all = tt
  new_kept (o ∷ rest) kept dropped k s all = (here s.2, new_kept rest s.0 s.1 k s.3 all)
    where
      here : SortsNext t kept dropped o s.0 s.1 → is_new t o ≡ true → P o
      here (inl p) new = absurd (true_false (is_new t o) new p.0)
      here (inr (inl p)) new =
          let more = dropped_grows rest s.0 s.1 k [] s.3 in
          absurd (none_grown dropped more.0 o (more.1 ∙ ap (λ (z : List Sight). z ++ more.0) p.2))
      here (inr (inr p)) new =
          let more = kept_grows t rest s.0 s.1 k [] s.3 in
          let whole : k ≡ (kept ++ o ∷ []) ++ more.0 = more.1 ∙ ap (λ (z : List Sight). z ++ more.0) p.2 in
          (all_back P kept (o ∷ []) (all_front P (kept ++ o ∷ []) more.0 (subst (AllByRecursion P) whole all))).0

  kept_next : (kept dropped : List Sight) (o : Sight) (k d : List Sight) → SortsNext t kept dropped o k d
      → (is_new t o ≡ true → P o) → AllByRecursion P kept → AllByRecursion P k
  kept_next kept dropped o k d (inl s) p h = subst (AllByRecursion P) (sym s.1) h
  kept_next kept dropped o k d (inr (inl s)) p h = subst (AllByRecursion P) (sym s.1) h
  kept_next kept dropped o k d (inr (inr s)) p h = subst (AllByRecursion P) (sym s.2) (all_append P kept (o ∷ []) h (p s.0, tt))

  -- what holds of the new ones holds of what is kept
  kept_new : (rest kept dropped k d : List Sight) → SortsFrom t kept dropped rest k d → AllByRecursion (λ o. is_new t o ≡ true → P o) rest → AllByRecursion P kept → AllByRecursion P k
  kept_new [] kept dropped k d s p h = subst (AllByRecursion P) (sym s.0) h
  kept_new (o ∷ rest) kept dropped k d s p h = kept_new rest s.0 s.1 k d s.3 p.1 (kept_next kept dropped o s.0 s.1 s.2 p.0 h)

-- ---- what is new

-- in a later partition, or above the seam
either : (a b : Bool) → (a || b) ≡ true → (a ≡ true) ⊎ (b ≡ true)
either true b h = inl refl
either false b h = inr h

new_so : (t : Terms) (o : Sight) → is_new t o ≡ true → (partition_at t t.old.anchor.ticks < partition_at t o.tick) ⊎ (seam t < o.tick)
new_so t o new = elim (either (nat_lt (partition_at t t.old.anchor.ticks) (partition_at t o.tick)) (nat_lt (seam t) o.tick) new) [
  | inl later ↦ inl (let less = leb-true (suc (partition_at t t.old.anchor.ticks)) (partition_at t o.tick) later in omega (arith, less))
  | inr past ↦ inr (let less = leb-true (suc (seam t)) o.tick past in omega (arith, less))
]

so_new : (t : Terms) (o : Sight) → (partition_at t t.old.anchor.ticks < partition_at t o.tick) ⊎ (seam t < o.tick) → is_new t o ≡ true
so_new t o (inl later) = elim (leb_tells (suc (partition_at t t.old.anchor.ticks)) (partition_at t o.tick)) [
  | inl is ↦ ap (λ (b : Bool). b || nat_lt (seam t) o.tick) is.0
  | inr not ↦ absurd (let no = not.1 in omega (arith, no, later))
]
so_new t o (inr past) = elim (leb_tells (suc (seam t)) o.tick) [
  | inl is ↦ ap (λ (b : Bool). nat_lt (partition_at t t.old.anchor.ticks) (partition_at t o.tick) || b) is.0 ∙ or_true (nat_lt (partition_at t t.old.anchor.ticks) (partition_at t o.tick))
  | inr not ↦ absurd (let no = not.1 in omega (arith, no, past))
]
  where
    or_true : (b : Bool) → (b || true) ≡ true
    or_true true = refl
    or_true false = refl

-- without a hold the seam is the tick after the old last triple's
seam_is : (t : Terms) → t.hold ≡ None → seam t ≡ t.old.anchor.ticks + 1
seam_is t none = ap (λ (h : Option ℕ). max (unwrap_or h t.old.anchor.ticks) (t.old.anchor.ticks + 1)) none ∙ larger t.old.anchor.ticks
  where
    larger : (n : ℕ) → max n (n + 1) ≡ n + 1
    larger n = search rules

module _ (t : Terms) (front front' : List TripleView) (last : TripleView) (all : List Sight) (chain : List SegmentView) (p : IsPublication t all [] chain) (none : t.hold ≡ None)
    (joined : (front ++ t.old ∷ []) ++ new_triples chain ≡ front' ++ last ∷ []) (rise : TriplesRise (front' ++ last ∷ []))
    (within : AllByRecursion (IsWithinTolerance t.gauge (front' ++ last ∷ [])) p.kept) where
  abbrev u : Terms
  u = over last t

  before_last : AllByRecursion (λ x. x.anchor.ticks ≤ last.anchor.ticks) ((front ++ t.old ∷ []) ++ new_triples chain)
  before_last = subst (AllByRecursion (λ x. x.anchor.ticks ≤ last.anchor.ticks)) (sym joined) (all_before front' last rise)

  old_before : t.old.anchor.ticks ≤ last.anchor.ticks
  old_before =
      (all_back (λ (x : TripleView). x.anchor.ticks ≤ last.anchor.ticks) front (t.old ∷ [])
      (all_front (λ (x : TripleView). x.anchor.ticks ≤ last.anchor.ticks) (front ++ t.old ∷ []) (new_triples chain) before_last)).0

  -- what is new over the new kernel was new over the old one
  still_new : (o : Sight) → is_new u o ≡ true → is_new t o ≡ true
  still_new o new = so_new t o (elim (new_so u o new) [
    | inl later ↦ inl (let rises = partition_rises 0 t.lengths t.old.anchor.ticks last.anchor.ticks old_before in omega (arith, rises, later))
    | inr past ↦ inr (omega (arith, past, seam_is t none, seam_is u none, old_before))
  ])

  past_last : (o : Sight) → is_new u o ≡ true → last.anchor.ticks < o.tick
  past_last o new = elim (new_so u o new) [
    | inl later ↦ elim (cases_lt last.anchor.ticks o.tick) [
      | inl less ↦ less
      | inr not ↦ absurd (let rises = partition_rises 0 t.lengths o.tick last.anchor.ticks (omega (arith, not)) in omega (arith, rises, later))
    ]
    | inr past ↦ omega (arith, past, seam_is u none)
  ]

  -- ---- partitions of what is kept

  abbrev Early : Sight → Type 0
  Early o = partition_at t o.tick ≤ partition_at t last.anchor.ticks

  each_early : (s : SegmentView) → s.anchor.ticks ≤ last.anchor.ticks → (os : List Sight) → AllByRecursion (IsInPartition t s) os → AllByRecursion Early os
  each_early s before os h =
      all_map (IsInPartition t s) Early (λ o is. let rises = partition_rises 0 t.lengths s.anchor.ticks last.anchor.ticks before in omega (arith, is, rises)) os h

  later_early : (later : List SegmentView) → AllByRecursion (λ s. AllByRecursion (IsInPartition t s) s.covered) later
      → AllByRecursion (λ x. x.anchor.ticks ≤ last.anchor.ticks) (new_triples (record { anchor = t.old.anchor; rate = t.old.rate; covered = []; ended = LastEnd } ∷ later)) → AllByRecursion Early (covered_by later)
  later_early [] partition before = tt
  later_early (s ∷ later) partition before =
      all_append Early s.covered (covered_by later) (each_early s before.0 s.covered partition.0) (later_early later partition.1 before.1)

  kept_early : AllByRecursion Early p.kept
  kept_early = subst (AllByRecursion Early) p.is_chain.runs.joined (of chain p.is_chain.runs.begins p.is_chain.partition
      (all_back (λ (x : TripleView). x.anchor.ticks ≤ last.anchor.ticks) (front ++ t.old ∷ []) (new_triples chain) before_last))
    where
      of : (c : List SegmentView) → BeginsWithOld t c → StayInPartition t c → AllByRecursion (λ x. x.anchor.ticks ≤ last.anchor.ticks) (new_triples c) → AllByRecursion Early (covered_by c)
      of [] begins partition before = absurd begins
      of (s ∷ later) begins partition before =
          let first : s.anchor.ticks ≤ last.anchor.ticks = subst (λ (a : Anchor). a.ticks ≤ last.anchor.ticks) (sym begins.0) old_before in
          all_append Early s.covered (covered_by later) (each_early s first s.covered partition.0) (later_early later partition.1 before)

  -- ---- the second publication

  -- the last triple's line goes on to an observation
  record GoesOn (o : Sight) : Type 0 where
    meets : Meets t.gauge last.anchor last.rate o
    same : partition_at t o.tick ≡ partition_at t last.anchor.ticks

  goes_on : (o : Sight) → IsWithinTolerance t.gauge (front' ++ last ∷ []) o × Early o → is_new u o ≡ true → GoesOn o
  goes_on o has new =
      let past = past_last o new in
      let rises = partition_rises 0 t.lengths last.anchor.ticks o.tick (omega (arith, past)) in
      record { meets = meets_last t.gauge front' last o rise (omega (arith, past)) has.0; same = omega (arith, rises, has.1) }

  all_go_on : AllByRecursion (λ o. is_new u o ≡ true → GoesOn o) all
  all_go_on =
      let both = all_both (IsWithinTolerance t.gauge (front' ++ last ∷ [])) Early p.kept within kept_early in
      let new = new_kept t (λ (o : Sight). IsWithinTolerance t.gauge (front' ++ last ∷ []) o × Early o) all [] [] p.kept p.sorts both in
      all_map (λ (o : Sight). is_new t o ≡ true → IsWithinTolerance t.gauge (front' ++ last ∷ []) o × Early o) (λ (o : Sight). is_new u o ≡ true → GoesOn o)
      (λ o has new. goes_on o (has (still_new o new)) new) all new

  none_begins : (again : List SegmentView) (kept : List Sight) → AllByRecursion GoesOn kept → IsChain u kept None again → new_triples again ≡ []
  none_begins [] kept on is = absurd is.runs.begins
  none_begins (s ∷ []) kept on is = refl
  none_begins (s ∷ v ∷ later) kept on is =
      let b = starts v.covered is.runs.later.0 in
      let whole : AllByRecursion GoesOn (s.covered ++ ((b.0 ∷ b.1) ++ covered_by later)) =
      subst (λ (c : List Sight). AllByRecursion GoesOn (s.covered ++ (c ++ covered_by later))) b.2 (subst (AllByRecursion GoesOn) (sym is.runs.joined) on) in
      let first : AllByRecursion GoesOn (s.covered ++ b.0 ∷ []) = all_front GoesOn (s.covered ++ b.0 ∷ []) (b.1 ++ covered_by later)
      (subst (AllByRecursion GoesOn) (sym (append_assoc s.covered (b.0 ∷ []) (b.1 ++ covered_by later))) whole) in
      let next : GoesOn b.0 = (all_back GoesOn s.covered (b.0 ∷ []) first).0 in
      let ends = subst (λ (c : List Sight). IsMaximal (IsOldRate u) u s (first_or (c ++ covered_by later) None)) b.2 is.maximal.0 in
      absurd (ends (next.same ∙ ap (λ (a : Anchor). partition_at t a.ticks) (sym is.runs.begins.0)) last.rate refl
      (all_map GoesOn (Meets t.gauge s.anchor last.rate) (λ o on. subst (λ (a : Anchor). Meets t.gauge a last.rate o) (sym is.runs.begins.0) on.meets) (s.covered ++ b.0 ∷ []) first))

  again_adds_none : (dropped : List Sight) (again : List SegmentView) → IsPublication u all dropped again → new_triples again ≡ []
  again_adds_none dropped again q = none_begins again q.kept (kept_new u GoesOn all [] [] q.kept dropped q.sorts all_go_on tt) q.is_chain

pub again_law : AgainLaw
again_law t front front' last all chain p none joined rise within = again_adds_none t front front' last all chain p none joined rise within

-- ---- no observations

none_covered : (t : Terms) (chain : List SegmentView) → IsChain t [] None chain → new_triples chain ≡ []
none_covered t [] is = absurd is.runs.begins
none_covered t (s ∷ []) is = refl
none_covered t (s ∷ v ∷ later) is =
    absurd (omega (arith, is.runs.later.0, ap length is.runs.joined, length-append s.covered (v.covered ++ covered_by later), length-append v.covered (covered_by later)))

pub none_law : NoneLaw
none_law t dropped chain p = none_covered t chain (subst (λ (kept : List Sight). IsChain t kept None chain) p.sorts.0 p.is_chain)
