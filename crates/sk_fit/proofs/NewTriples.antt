-- The old triples and those of a publication are triples that a kernel may have.
use Rattle.std.proofs.Common.{◌≡◌, ◌≢◌, ℕ, ◌+◌, ◌-◌, ◌*◌, ◌^◌, ◌<◌, ◌≤◌, List, [], ◌∷◌, ◌++◌, length, length-append, map, drop, refl, sym, ap, subst, inl, inr, ◌∙◌, arith, true}
use Rattle.std.proofs.lemmas.Int.{ints, by_lt_z}
use Rattle.std.proofs.lemmas.Bool.{cases_lt}
use Rattle.std.proofs.lemmas.Bool.Decides.{eqb_tells}
use Rattle.std.proofs.lemmas.List.Elements.{All-from_recursion}
use Rattle.std.specs.Prelude.{ℤ, pos, neg_ℤ, ◌+ℤ◌, ◌*ℤ◌, ◌≤ℤ◌, ◌<ℤ◌, Option, None, flat_map}
use Rattle.std.specs.List.{Any, AllByRecursion}
use Rattle.sk_decimal.proofs.Signed.{mul-le_right, add-mul}
use Rattle.sk_publishing.specs.Row.{RowView, AreRows}
use Rattle.sk_clock.specs.Clock.{ClockView, total}
use Rattle.sk_publishing.specs.Terms.{Sight, Terms, in_seconds, partition_at, sights}
use Rattle.sk_line.specs.Triple.{Anchor, TripleView}
use Rattle.sk_publishing.specs.Meets.{Meets, scaled}
use Rattle.sk_line.specs.Line.{line_over}
use Rattle.sk_publishing.specs.Rates.{on_grid}
use Rattle.sk_publishing.specs.Chain.{SegmentView, first_of, covered_by, EachFollowed, EachJoined, ForNext, IsInPartition, IsGridRate, HasRate, anchor_due, IsNotLater, IsChain, new_triples}
use Rattle.sk_publishing.specs.Input.{HasLast, AreTooMany}
use Rattle.sk_publishing.specs.Kept.{is_new, IsPublication}
use Rattle.sk_triples.specs.Kernel.{TriplesView, AreOf, AreKept, AreTriples, IsTriple, Rise}
use Rattle.sk_line.proofs.Lists.{all_front, all_back, all_append}
use Rattle.sk_publishing.proofs.Chains.{starts}
use Rattle.sk_publishing.proofs.NewKernel.{triple_of, due_anew, no_fall_law}
use Rattle.sk_fit.specs.declared.settings.Settings.{Settings}
use Rattle.sk_fit.specs.declared.chain.Chain.{Chain}
use Rattle.sk_fit.specs.declared.chain.Segment.{Segment}
use Rattle.sk_fit.specs.Given.{AreSettings, terms_of, segment_view, segments_of, new_triples_of}
use Rattle.sk_fit.specs.State.{IsSmallClock}
use Rattle.sk_fit.specs.Causes.{Gives, input}
use Rattle.sk_fit.proofs.Observed.{all_sights, in_range}
use Rattle.sk_fit.proofs.Kept.{kept_all}
use Rattle.sk_fit.proofs.Quotients.{through}

-- ---- numbers

-- factors above 0 are taken off
cancel : (a b : ℤ) (d : ℕ) → 0 < d → (a *ℤ pos d) ≤ℤ (b *ℤ pos d) → a ≤ℤ b
cancel a b d some h = by_lt_z b a
    (λ less. absurd (apart (a *ℤ pos d) (b *ℤ pos d) (pos 1 *ℤ pos d) ((b +ℤ pos 1) *ℤ pos d) (mul-le_right (b +ℤ pos 1) a d (next b a less)) (add-mul b (pos 1) d) (positive d some) h))
    (λ le. le)
  where
    next : (a b : ℤ) → a <ℤ b → (a +ℤ pos 1) ≤ℤ b
    next a b p = omega (arith, ints)

    positive : (m : ℕ) → 0 < m → pos 0 <ℤ (pos 1 *ℤ pos m)
    positive m k = omega (arith, ints)

    apart : (a b c e : ℤ) → e ≤ℤ a → e ≡ b +ℤ c → pos 0 <ℤ c → a ≤ℤ b → ⊥
    apart a b c e p q r s = omega (arith, ints)

-- a rate above 0 gains at least one in each tick
gains : (rate : ℤ) (ticks : ℕ) → pos 0 <ℤ rate → pos ticks ≤ℤ (rate *ℤ pos ticks)
gains rate ticks h = through (pos ticks) (pos 1 *ℤ pos ticks) (rate *ℤ pos ticks) (one ticks) (mul-le_right (pos 1) rate ticks (at_least rate h))
  where
    one : (n : ℕ) → pos n ≤ℤ (pos 1 *ℤ pos n)
    one n = omega (arith, ints)

    at_least : (z : ℤ) → pos 0 <ℤ z → pos 1 ≤ℤ z
    at_least z h = omega (arith, ints)

-- ---- lists

rise_join : (front : List TripleView) (a : TripleView) (ys : List TripleView) → Rise (front ++ a ∷ []) → Rise (a ∷ ys) → Rise ((front ++ a ∷ []) ++ ys)
rise_join [] a ys h k = k
rise_join (x ∷ []) a ys h k = (h.0, h.1, k)
rise_join (x ∷ y ∷ front) a ys h k = (h.0, h.1, rise_join (y ∷ front) a ys h.2 k)

covered_all : (P : Sight → Type 0) (ss : List SegmentView) → AllByRecursion P (covered_by ss) → AllByRecursion (λ s. AllByRecursion P s.covered) ss
covered_all P [] h = tt
covered_all P (s ∷ ss) h = (all_front P s.covered (covered_by ss) h, covered_all P ss (all_back P s.covered (covered_by ss) h))

each_of : (P : SegmentView → Type 0) (ss : List SegmentView) (next : Option Sight) → EachFollowed (λ s _. P s) ss next → AllByRecursion P ss
each_of P [] next h = tt
each_of P (s ∷ ss) next h = (h.0, each_of P ss next h.1)

any_of : (P Q : Sight → Type 0) (xs : List Sight) → Any P xs → AllByRecursion Q xs → (x : Sight) × P x × Q x
any_of P Q xs h all = (h.1, h.4, subst Q h.3 (All-from_recursion Q xs all h.0 h.1 h.2))

singles : (later : List SegmentView) → flat_map (λ (l : SegmentView). record { anchor = l.anchor; rate = l.rate } ∷ []) later ≡ map triple_of later
singles [] = refl
singles (s ∷ later) = ap (λ (z : List TripleView). triple_of s ∷ z) (singles later)

-- ---- along a chain

-- what an observation keeps
record IsSeen (total : ℕ) (o : Sight) : Type 0 where
  pub tick : o.tick ≤ total
  pub time : o.time ≤ℤ pos (9 * 10 ^ 21)

module _ (t : Terms) (most : ℕ) (some : 0 < t.gauge.per_count) (twelve : t.gauge.decimals ≡ 12) (tolerance : t.gauge.tolerance ≤ℤ pos (60 * 10 ^ 12))
    (band : t.band ≤ 100000) (old : IsTriple most t.old) where
  rate_positive : (rate : ℤ) → IsGridRate t rate → pos 0 <ℤ rate
  rate_positive rate h = subst (λ (r : ℤ). pos 0 <ℤ r) (sym h.2) (positive (on_grid t.gauge.rate_decimals h.0) (10 ^ 6 - t.band) (omega arith) h.1.low)
    where
      positive : (z : ℤ) (share : ℕ) → 0 < share → (t.old.rate *ℤ pos share) ≤ℤ (z *ℤ pos (10 ^ 6)) → pos 0 <ℤ z
      positive z share k p = let q : pos share ≤ℤ (t.old.rate *ℤ pos share) = gains t.old.rate share old.positive in omega (arith, ints)

  rate_slow : (rate : ℤ) → IsGridRate t rate → rate ≤ℤ pos (1000 * 10 ^ 18)
  rate_slow rate h = subst (λ (r : ℤ). r ≤ℤ pos (1000 * 10 ^ 18)) (sym h.2) h.1.most

  -- times rise where ticks do and time does not fall
  time_rises : (before s : SegmentView) → pos 0 <ℤ before.rate → before.anchor.ticks < s.anchor.ticks
      → line_over t.gauge.per_count before.anchor before.rate s.anchor.ticks ≤ℤ (s.anchor.time *ℤ pos t.gauge.per_count) → before.anchor.time <ℤ s.anchor.time
  time_rises before s positive rises falls = by_lt_z before.anchor.time s.anchor.time (λ less. less)
      (λ le. absurd (apart (before.anchor.time *ℤ pos t.gauge.per_count) (before.rate *ℤ pos (s.anchor.ticks - before.anchor.ticks)) (s.anchor.time *ℤ pos t.gauge.per_count) (s.anchor.ticks - before.anchor.ticks)
      (omega arith) (gains before.rate (s.anchor.ticks - before.anchor.ticks) positive) falls (mul-le_right s.anchor.time before.anchor.time t.gauge.per_count le)))
    where
      apart : (a b c : ℤ) (d : ℕ) → 0 < d → pos d ≤ℤ b → (a +ℤ b) ≤ℤ c → c ≤ℤ a → ⊥
      apart a b c d k p q r = omega (arith, ints)

  -- an anchor is not later than what is met from it
  time_small : (s : SegmentView) (o : Sight) → pos 0 <ℤ s.rate → Meets t.gauge s.anchor s.rate o → o.time ≤ℤ pos (9 * 10 ^ 21) → s.anchor.time ≤ℤ pos (10 ^ 28)
  time_small s o positive met seen = through s.anchor.time (in_seconds t.gauge (o.time +ℤ t.gauge.tolerance)) (pos (10 ^ 28))
      (cancel s.anchor.time (in_seconds t.gauge (o.time +ℤ t.gauge.tolerance)) t.gauge.per_count some
      (further (s.anchor.time *ℤ pos t.gauge.per_count) (s.rate *ℤ pos (o.tick - s.anchor.ticks)) (scaled t.gauge (o.time +ℤ t.gauge.tolerance)) (o.tick - s.anchor.ticks) (gains s.rate (o.tick - s.anchor.ticks) positive) met.high))
      (subst (λ (d : ℕ). ((o.time +ℤ t.gauge.tolerance) *ℤ pos (10 ^ (18 - d))) ≤ℤ pos (10 ^ 28)) (sym twelve) (small o.time t.gauge.tolerance seen tolerance))
    where
      further : (a b c : ℤ) (d : ℕ) → pos d ≤ℤ b → (a +ℤ b) ≤ℤ c → a ≤ℤ c
      further a b c d p q = omega (arith, ints)

      small : (a b : ℤ) → a ≤ℤ pos (9 * 10 ^ 21) → b ≤ℤ pos (60 * 10 ^ 12) → ((a +ℤ b) *ℤ pos (10 ^ 6)) ≤ℤ pos (10 ^ 28)
      small a b p q = omega (arith, ints)

  -- an anchor is before an observation, or at it
  tick_within : (before s : SegmentView) → 0 < length s.covered → AllByRecursion (IsInPartition t s) s.covered → AllByRecursion (IsSeen most) s.covered
      → (partition_at t s.anchor.ticks ≡ partition_at t before.anchor.ticks → Any (λ o. s.anchor.ticks < o.tick) s.covered)
      → ForNext (first_of s.covered) (λ o. ¬ IsInPartition t before o → (s.anchor ≡ anchor_due t before o) × IsNotLater t before o) → s.anchor.ticks ≤ most
  tick_within before s cover here seen past anew = elim (eqb_tells (partition_at t s.anchor.ticks) (partition_at t before.anchor.ticks)) [
    | inl e ↦ passed (any_of (λ o. s.anchor.ticks < o.tick) (IsSeen most) s.covered (past e.1) seen)
    | inr e ↦ begun (starts s.covered cover) e.1
  ]
    where
      passed : (x : Sight) × (s.anchor.ticks < x.tick) × IsSeen most x → s.anchor.ticks ≤ most
      passed h = let p = h.1 in let q = h.2.tick in omega arith

      begun : (o : Sight) × (m : List Sight) × (s.covered ≡ o ∷ m) → partition_at t s.anchor.ticks ≢ partition_at t before.anchor.ticks → s.anchor.ticks ≤ most
      begun h other =
          let o : Sight = h.0 in
          let in_own : IsInPartition t s o = (subst (AllByRecursion (IsInPartition t s)) h.2 here).0 in
          let is_seen : IsSeen most o = (subst (AllByRecursion (IsSeen most)) h.2 seen).0 in
          let away : ¬ IsInPartition t before o = λ e. other (sym in_own ∙ e) in
          let due : s.anchor ≡ anchor_due t before o =
          (subst (λ (f : Option Sight). ForNext f (λ o. ¬ IsInPartition t before o → (s.anchor ≡ anchor_due t before o) × IsNotLater t before o)) (ap first_of h.2) anew away).0 in
          let at : s.anchor.ticks ≡ o.tick = ap (λ (a : Anchor). a.ticks) (due ∙ due_anew t before o away) in
          let q : o.tick ≤ most = is_seen.tick in omega arith

  -- each further segment makes a triple, and they rise
  walk : (before : SegmentView) (later : List SegmentView) → neg_ℤ (pos (10 ^ 28)) ≤ℤ before.anchor.time → pos 0 <ℤ before.rate
      → AllByRecursion (λ s. 0 < length s.covered) later → AllByRecursion (λ s. AllByRecursion (IsInPartition t s) s.covered) later
      → AllByRecursion (λ s. AllByRecursion (IsSeen most) s.covered) later → AllByRecursion (HasRate (IsGridRate t) t) later
      → EachJoined (λ b s. (b.anchor.ticks < s.anchor.ticks) × (partition_at t s.anchor.ticks ≡ partition_at t b.anchor.ticks → Any (λ o. s.anchor.ticks < o.tick) s.covered)) (before ∷ later)
      → EachJoined (λ b s. ForNext (first_of s.covered) (λ o. ¬ IsInPartition t b o → (s.anchor ≡ anchor_due t b o) × IsNotLater t b o)) (before ∷ later)
      → EachJoined (λ b s. line_over t.gauge.per_count b.anchor b.rate s.anchor.ticks ≤ℤ (s.anchor.time *ℤ pos t.gauge.per_count)) (before ∷ later)
      → AllByRecursion (IsTriple most) (map triple_of later) × Rise (map triple_of (before ∷ later))
  walk before [] from positive cover here seen rates past anew falls = (tt, tt)
  walk before (s ∷ later) from positive cover here seen rates past anew falls =
      let first = starts s.covered cover.0 in
      let met : Meets t.gauge s.anchor s.rate first.0 = (subst (AllByRecursion (Meets t.gauge s.anchor s.rate)) first.2 rates.0.1).0 in
      let is_seen : IsSeen most first.0 = (subst (AllByRecursion (IsSeen most)) first.2 seen.0).0 in
      let own : pos 0 <ℤ s.rate = rate_positive s.rate rates.0.0 in
      let rises : before.anchor.time <ℤ s.anchor.time = time_rises before s positive past.0.0 falls.0 in
      let above : neg_ℤ (pos (10 ^ 28)) ≤ℤ s.anchor.time = higher before.anchor.time s.anchor.time from rises in
      let rest = walk s later above own cover.1 here.1 seen.1 rates.1 past.1 anew.1 falls.1 in (
        (
          record {
            ticks = tick_within before s cover.0 here.0 seen.0 past.0.1 anew.0;
            from = above;
            to = time_small s first.0 own met is_seen.time;
            positive = own;
            slow = rate_slow s.rate rates.0.0;
          },
          rest.0,
        ),
        (past.0.0, rises, rest.1),
      )
    where
      higher : (a b : ℤ) → neg_ℤ (pos (10 ^ 28)) ≤ℤ a → a <ℤ b → neg_ℤ (pos (10 ^ 28)) ≤ℤ b
      higher a b p q = omega (arith, ints)

  -- the triples of a chain
  chain_triples : (kept : List Sight) (next : Option Sight) (chain : List SegmentView) → AllByRecursion (IsSeen most) kept → IsChain t kept next chain
      → AllByRecursion (IsTriple most) (new_triples chain) × Rise (t.old ∷ new_triples chain)
  chain_triples kept next [] seen p = absurd p.runs.begins
  chain_triples kept next (s ∷ later) seen p =
      let same : triple_of s ≡ t.old = ap (λ (a : Anchor). made a s.rate) p.runs.begins.0 ∙ ap (made t.old.anchor) p.runs.begins.1 in
      let all : AllByRecursion (λ s. AllByRecursion (IsSeen most) s.covered) (s ∷ later) = covered_all (IsSeen most) (s ∷ later) (subst (AllByRecursion (IsSeen most)) (sym p.runs.joined) seen) in
      let found = walk s later
      (subst (λ (a : Anchor). neg_ℤ (pos (10 ^ 28)) ≤ℤ a.time) (sym p.runs.begins.0) old.from)
      (subst (λ (r : ℤ). pos 0 <ℤ r) (sym p.runs.begins.1) old.positive)
      p.runs.later p.partition.1 all.1 (each_of (HasRate (IsGridRate t) t) later None p.meets.1) p.past_anchor p.anchor_anew
      (no_fall_law t kept next (s ∷ later) some p) in (
        subst (AllByRecursion (IsTriple most)) (sym (singles later)) found.0,
        subst (λ (z : List TripleView). Rise (t.old ∷ z)) (sym (singles later)) (subst (λ (o : TripleView). Rise (o ∷ map triple_of later)) same found.1),
      )
    where
      made : Anchor → ℤ → TripleView
      made anchor rate = record { anchor = anchor; rate = rate }

-- ---- a publication's triples

new_ones : (all : List Sight) (dropped : List ℕ) (segments : List Segment)
    → map (λ s. record { anchor = record { ticks = s.anchor.ticks; time = s.anchor.time.units }; rate = s.rate.units }) segments ≡ map triple_of (map (segment_view all dropped) segments)
new_ones all dropped [] = refl
new_ones all dropped (s ∷ segments) = ap (λ (z : List TripleView). triple_of (segment_view all dropped s) ∷ z) (new_ones all dropped segments)

same_new : (all : List Sight) (dropped : List ℕ) (segments : List Segment)
    → map (λ s. record { anchor = record { ticks = s.anchor.ticks; time = s.anchor.time.units }; rate = s.rate.units }) (drop 1 segments) ≡ new_triples (map (segment_view all dropped) segments)
same_new all dropped [] = refl
same_new all dropped (s ∷ segments) = new_ones all dropped segments ∙ sym (singles (map (segment_view all dropped) segments))

-- with the triples of a publication the old kernel has triples that a kernel may have
pub publication_triples : (triples : TriplesView) (clock : ClockView) (rows : List RowView) (settings : Settings) (old : TripleView) (dropped : List Sight) (segments : List SegmentView)
    → AreSettings settings → IsSmallClock clock → AreKept triples → AreOf clock triples → AreRows (total clock) rows → HasLast (input triples clock rows settings) old
    → IsPublication (terms_of settings clock old) (sights rows) dropped segments → ¬ AreTooMany (input triples clock rows settings) segments
    → AreTriples triples.total (triples.triples ++ new_triples segments)
publication_triples triples clock rows settings old dropped segments given clocked kept of_clock are last p fits =
    let t : Terms = terms_of settings clock old in
    let is_old : IsTriple triples.total old = (all_back (IsTriple triples.total) last.0 (old ∷ []) (subst (AllByRecursion (IsTriple triples.total)) last.1 kept.triples.each)).0 in
    let seen : AllByRecursion (λ o. is_new t o ≡ true → IsSeen triples.total o) (sights rows) = all_sights (λ o. is_new t o ≡ true → IsSeen triples.total o) rows (λ k row here new. one k row (in_range (total clock) rows k row are here)) in
    let made = chain_triples t triples.total clocked.some refl given.tolerance_to given.band_to is_old p.kept None segments
    (kept_all t (IsSeen triples.total) (sights rows) p.kept dropped p.sorts seen) p.is_chain in
    record {
      some = (let l = length-append triples.triples (new_triples segments) in let k = kept.triples.some in omega arith);
      few = elim (cases_lt 50000 (length triples.triples + length (new_triples segments))) [
        | inl h ↦ absurd (fits h)
        | inr h ↦ (let l = length-append triples.triples (new_triples segments) in omega arith)
      ];
      each = all_append (IsTriple triples.total) triples.triples (new_triples segments) kept.triples.each made.0;
      rise = subst (λ (z : List TripleView). Rise (z ++ new_triples segments)) (sym last.1)
          (rise_join last.0 old (new_triples segments) (subst Rise last.1 kept.triples.rise) made.1);
    }
  where
    one : (k : ℕ) (row : RowView) → (row.tick ≤ total clock) × (neg_ℤ (pos (9 * 10 ^ 21)) ≤ℤ row.time) × (row.time ≤ℤ pos (9 * 10 ^ 21))
        → IsSeen triples.total (record { place = k; tick = row.tick; time = row.time })
    one k row h = record { tick = subst (λ (m : ℕ). row.tick ≤ m) (sym of_clock.1) h.0; time = h.2 }

-- and so with those of a chain
pub gives_triples : (triples : TriplesView) (clock : ClockView) (rows : List RowView) (settings : Settings) (chain : Chain) → AreSettings settings → IsSmallClock clock
    → AreKept triples → AreOf clock triples → AreRows (total clock) rows → Gives (input triples clock rows settings) chain
    → AreTriples triples.total (triples.triples ++ new_triples_of chain)
gives_triples triples clock rows settings chain given clocked kept of_clock are g =
    subst (λ (z : List TripleView). AreTriples triples.total (triples.triples ++ z)) (sym (same_new (sights rows) chain.dropped chain.segments))
    (publication_triples triples clock rows settings g.old g.dropped (segments_of (sights rows) chain) given clocked kept of_clock are g.begins.last g.publication g.few)
