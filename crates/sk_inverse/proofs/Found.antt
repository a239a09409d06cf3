-- The tick of a time is in the last triple that begins by then.
use Rattle.std.proofs.Common.{◌≡◌, ◌≢◌, ℕ, zero, suc, ◌+◌, ◌-◌, ◌<◌, ◌≤◌, List, [], ◌∷◌, length, get_or, Some, refl, sym, ap, subst, inl, inr, arith, ◌∙◌}
use Rattle.std.proofs.lemmas.Int.{ints}
use Rattle.std.proofs.lemmas.Bool.{cases_lt, leb-false}
use Rattle.std.proofs.lemmas.Option.{none-some, same_Some, some_pair_parts, slice_get_within, slice_get_read, get_or_from_slice_get}
use Rattle.std.specs.Prelude.{ℤ, pos, ◌-ℤ◌, ◌*ℤ◌, ◌≤ℤ◌, ◌<ℤ◌, slice_get, false}
use Rattle.sk_line.specs.Triple.{TripleView}
use Rattle.sk_line.specs.Line.{line_over, IsTimeAt}
use Rattle.sk_triples.specs.Kernel.{TriplesView, IsTriple, IsCovering, AreTriples, AreKept, Rise}
use Rattle.sk_triples.proofs.Covering.{has_begun, IsPoint, point_of, covers_last, covers_none, covers, covered, ticks_rise, all_at}
use Rattle.sk_triples.proofs.Falls.{join_rises}
use Rattle.sk_inverse.specs.Inverse.{IsTickOf, IsAfter, IsBeforeFirst, IsPastEnd}
use Rattle.sk_inverse.specs.Search.{HaveBegun, IsReached}
use Rattle.sk_inverse.proofs.Times.{times_up}
use Rattle.sk_inverse.proofs.Lines.{gain_level, counts_up, line_from, by_elapsed, within_elapsed, past_elapsed, elapsed_past}

-- ---- triples and ticks

pub kept_triple : (total : ℕ) (ts : List TripleView) (place : ℕ) (triple : TripleView) → AreTriples total ts → slice_get ts place ≡ Some triple → IsTriple total triple
kept_triple total ts place triple are here =
    subst (IsTriple total) (get_or_from_slice_get ts place triple triple here) (all_at (IsTriple total) ts place triple are.each (slice_get_within ts place triple here))

-- a triple at a later place has later ticks
pub later_ticks : (ts : List TripleView) (i j : ℕ) (a b : TripleView) → Rise ts → i ≤ j → slice_get ts i ≡ Some a → slice_get ts j ≡ Some b → a.anchor.ticks ≤ b.anchor.ticks
later_ticks ts i j a b rise up at_a at_b =
    subst (λ (x : TripleView). x.anchor.ticks ≤ b.anchor.ticks) (get_or_from_slice_get ts i a a at_a)
    (subst (λ (x : TripleView). (get_or ts i a).anchor.ticks ≤ x.anchor.ticks) (get_or_from_slice_get ts j b a at_b)
    (ticks_rise ts rise i j a up (slice_get_within ts j b at_b)))

pub later_times : (ts : List TripleView) (i j : ℕ) (a b : TripleView) → Rise ts → i ≤ j → slice_get ts i ≡ Some a → slice_get ts j ≡ Some b → a.anchor.time ≤ℤ b.anchor.time
later_times ts i j a b rise up at_a at_b =
    subst (λ (x : TripleView). x.anchor.time ≤ℤ b.anchor.time) (get_or_from_slice_get ts i a a at_a)
    (subst (λ (x : TripleView). (get_or ts i a).anchor.time ≤ℤ x.anchor.time) (get_or_from_slice_get ts j b a at_b)
    (times_up ts rise i j a up (slice_get_within ts j b at_b)))

-- the ticks of a join rise strictly
pub next_ticks : (ts : List TripleView) (i : ℕ) (a b : TripleView) → Rise ts → slice_get ts i ≡ Some a → slice_get ts (suc i) ≡ Some b → a.anchor.ticks < b.anchor.ticks
next_ticks ts i a b rise at_a at_b =
    subst (λ (x : TripleView). x.anchor.ticks < b.anchor.ticks) (get_or_from_slice_get ts i a a at_a)
    (subst (λ (x : TripleView). (get_or ts i a).anchor.ticks < x.anchor.ticks) (get_or_from_slice_get ts (suc i) b a at_b)
    (join_rises ts i a rise (slice_get_within ts (suc i) b at_b)))

-- what covers a tick
pub record Cover (ts : List TripleView) (tick : ℕ) : Type 0 where
  pub place : ℕ
  pub triple : TripleView
  pub is : IsCovering ts tick place triple

-- a tick from a triple's own on is covered by it or by a later one
pub cover_from : (ts : List TripleView) (tick place : ℕ) (triple : TripleView) → Rise ts → slice_get ts place ≡ Some triple → triple.anchor.ticks ≤ tick
    → (c : Cover ts tick) × (place ≤ c.place)
cover_from ts tick place triple rise here from = by_point (point_of tick ts rise)
  where
    not_before : (c : Cover ts tick) → (c : Cover ts tick) × (place ≤ c.place)
    not_before c = elim (cases_lt c.place place) [
      | inl before ↦ absurd (let less = c.is.last place triple before here in omega arith)
      | inr up ↦ (c, up)
    ]

    by_point : (i : ℕ) × IsPoint tick ts i → (c : Cover ts tick) × (place ≤ c.place)
    by_point (zero, p) =
        let not_yet = subst (λ (x : TripleView). has_begun tick x ≡ false) (get_or_from_slice_get ts place triple triple here)
        (p.2 place triple (omega arith) (slice_get_within ts place triple here)) in
        absurd (let less = leb-false triple.anchor.ticks tick not_yet in omega arith)
    by_point (suc j, p) =
        let same : suc j ≡ j + 1 = omega arith in
        let e = covers_last tick ts j triple p ∙ ap (λ (m : ℕ). Some (m, get_or ts j triple)) same in
        not_before (record { place = j; triple = get_or ts j triple; is = covers tick ts j (get_or ts j triple) rise e })

-- a tick that has a time is covered
pub cover_of : (per_count : ℕ) (ts : List TripleView) (tick : ℕ) (over : ℤ) → Rise ts → IsTimeAt per_count ts tick over → Cover ts tick
cover_of per_count ts tick over rise at = by_point (point_of tick ts rise)
  where
    by_point : (i : ℕ) × IsPoint tick ts i → Cover ts tick
    by_point (zero, p) = absurd (none-some (at.0, at.1) (sym (covers_none tick ts p) ∙ at.2))
    by_point (suc j, p) =
        let same : suc j ≡ j + 1 = omega arith in
        let e = covers_last tick ts j at.1 p ∙ ap (λ (m : ℕ). Some (m, get_or ts j at.1)) same in
        record { place = j; triple = get_or ts j at.1; is = covers tick ts j (get_or ts j at.1) rise e }

-- the time of a tick is that by the triple that covers it
pub time_by : (per_count : ℕ) (ts : List TripleView) (tick : ℕ) → Rise ts → (c : Cover ts tick) → IsTimeAt per_count ts tick (line_over per_count c.triple.anchor c.triple.rate tick)
time_by per_count ts tick rise c = (c.place + 1, c.triple, covered tick ts c.place c.triple rise c.is, refl)

pub one_time : (per_count : ℕ) (ts : List TripleView) (tick : ℕ) (over : ℤ) → Rise ts → (c : Cover ts tick) → IsTimeAt per_count ts tick over
    → over ≡ line_over per_count c.triple.anchor c.triple.rate tick
one_time per_count ts tick over rise c t =
    let e : Some (t.0, t.1) ≡ Some (c.place + 1, c.triple) = sym t.2 ∙ covered tick ts c.place c.triple rise c.is in
    let same : t.1 ≡ c.triple = (some_pair_parts t.0 (c.place + 1) t.1 c.triple e).1 in
    t.3 ∙ ap (λ (x : TripleView). line_over per_count x.anchor x.rate tick) same

-- ---- the triple of a time

-- the last triple that begins by the time
pub record IsStart (ts : List TripleView) (time : ℤ) (place : ℕ) (triple : TripleView) : Type 0 where
  pub here : slice_get ts place ≡ Some triple
  pub begun : triple.anchor.time ≤ℤ time
  pub later : (j : ℕ) (next : TripleView) → place < j → slice_get ts j ≡ Some next → time <ℤ next.anchor.time

-- a triple covers the ticks from its own to the end
pub record CoversTo (k : TriplesView) (place : ℕ) (triple : TripleView) (end : ℕ) : Type 0 where
  pub from : triple.anchor.ticks ≤ end
  pub to : end ≤ k.total
  pub covers : (tick : ℕ) → triple.anchor.ticks ≤ tick → tick ≤ end → IsCovering k.triples tick place triple
  pub ends : (tick : ℕ) → tick ≤ k.total → IsCovering k.triples tick place triple → tick ≤ end

pub start_of : (ts : List TripleView) (time : ℤ) (number : ℕ) (triple : TripleView) → HaveBegun ts time number → number ≢ 0 → triple ≡ get_or ts (number - 1) triple
    → IsStart ts time (number - 1) triple
start_of ts time number triple have some at =
    let within = have.within in
    let here : slice_get ts (number - 1) ≡ Some triple = slice_get_read ts (length ts) (number - 1) triple refl (omega arith) at in
    record {
      here = here;
      begun = subst (λ (x : TripleView). x.anchor.time ≤ℤ time) (sym at) (have.begun (number - 1) triple (omega arith) (omega arith));
      later = λ j next behind there. subst (λ (x : TripleView). time <ℤ x.anchor.time) (get_or_from_slice_get ts j next triple there)
          (have.later j triple (omega arith) (slice_get_within ts j next there));
    }

pub next_here : (ts : List TripleView) (number : ℕ) (next : TripleView) → number ≢ 0 → number < length ts → next ≡ get_or ts number next → slice_get ts (suc (number - 1)) ≡ Some next
next_here ts number next some within at =
    let same : number ≡ suc (number - 1) = omega arith in
    subst (λ (n : ℕ). slice_get ts n ≡ Some next) same (slice_get_read ts (length ts) number next refl within at)

pub covers_to_next : (k : TriplesView) → AreKept k → (place : ℕ) (triple next : TripleView) → slice_get k.triples place ≡ Some triple → slice_get k.triples (suc place) ≡ Some next
    → CoversTo k place triple (next.anchor.ticks - 1)
covers_to_next k kept place triple next here there =
    let rise = kept.triples.rise in
    let up = next_ticks k.triples place triple next rise here there in
    let most = (kept_triple k.total k.triples (suc place) next kept.triples there).ticks in
    record {
      from = omega arith;
      to = omega arith;
      covers = λ tick from to. record {
        here = here;
        begun = from;
        last = λ j other behind at. let past = later_ticks k.triples (suc place) j next other rise behind there at in omega arith;
      };
      ends = λ tick within is. let before = is.last (suc place) next (omega arith) there in omega arith;
    }

pub covers_to_total : (k : TriplesView) → AreKept k → (place : ℕ) (triple : TripleView) → slice_get k.triples place ≡ Some triple → length k.triples ≤ suc place
    → CoversTo k place triple k.total
covers_to_total k kept place triple here all = record {
  from = (kept_triple k.total k.triples place triple kept.triples here).ticks;
  to = omega arith;
  covers = λ tick from to. record {
    here = here;
    begun = from;
    last = λ j other behind at. absurd (let within = slice_get_within k.triples j other at in omega arith);
  };
  ends = λ tick within is. within;
}

module _ (k : TriplesView) (kept : AreKept k) (time : ℤ) (place : ℕ) (triple : TripleView) (start : IsStart k.triples time place triple) where
  rise : Rise k.triples
  rise = kept.triples.rise

  positive : (j : ℕ) (t : TripleView) → slice_get k.triples j ≡ Some t → pos 0 <ℤ t.rate
  positive j t at = (kept_triple k.total k.triples j t kept.triples at).positive

  -- a tick that a later triple covers is later
  later_line : (tick : ℕ) (c : Cover k.triples tick) → place < c.place → (time *ℤ pos k.per_count) <ℤ line_over k.per_count c.triple.anchor c.triple.rate tick
  later_line tick c behind =
      through _ _ _ (counts_up time c.triple.anchor.time k.per_count kept.per_count.0 (start.later c.place c.triple behind c.is.here))
      (line_from k.per_count c.triple (positive c.place c.triple c.is.here) tick)
    where
      through : (x y z : ℤ) → x <ℤ y → y ≤ℤ z → x <ℤ z
      through x y z p q = omega (arith, ints)

  same_triple : (tick : ℕ) (c : Cover k.triples tick) → c.place ≡ place → IsCovering k.triples tick place triple
  same_triple tick c e =
      let at : slice_get k.triples place ≡ Some c.triple = subst (λ (j : ℕ). slice_get k.triples j ≡ Some c.triple) e c.is.here in
      let same : c.triple ≡ triple = same_Some c.triple triple (sym at ∙ start.here) in
      subst (λ (j : ℕ). IsCovering k.triples tick j triple) e (subst (λ (x : TripleView). IsCovering k.triples tick c.place x) same c.is)

  module _ (end : ℕ) (to_end : CoversTo k place triple end) where
    abbrev by : (tick : ℕ) → triple.anchor.ticks ≤ tick → tick ≤ end → Cover k.triples tick
    by tick from to = record { place = place; triple = triple; is = to_end.covers tick from to }

    greatest : (tick later : ℕ) → IsReached triple ((time -ℤ triple.anchor.time) *ℤ pos k.per_count) end tick → tick < later → later ≤ k.total → IsAfter k later time
    greatest tick later reached up within = elim (cases_lt place found.0.place) [
      | inl behind ↦ (line_over k.per_count found.0.triple.anchor found.0.triple.rate later, time_by k.per_count k.triples later rise found.0, later_line later found.0 behind)
      | inr not_behind ↦ (let least = found.1 in here (omega arith))
    ]
      where
        from : triple.anchor.ticks ≤ later
        from = let own = reached.from in omega arith

        found : (c : Cover k.triples later) × (place ≤ c.place)
        found = cover_from k.triples later place triple rise start.here from

        here : found.0.place ≡ place → IsAfter k later time
        here e =
            let to : later ≤ end = to_end.ends later within (same_triple later found.0 e) in
            let more = gain_level triple.rate (tick + 1 - triple.anchor.ticks) (later - triple.anchor.ticks) (positive place triple start.here) (omega arith) in
            let less = through _ _ _ (reached.greatest (omega arith)) more in (
              line_over k.per_count triple.anchor triple.rate later,
              time_by k.per_count k.triples later rise (by later from to),
              by_elapsed k.per_count triple (positive place triple start.here) time later less,
            )
          where
            through : (x y z : ℤ) → x <ℤ y → y ≤ℤ z → x <ℤ z
            through x y z p q = omega (arith, ints)

    pub is_tick : (tick : ℕ) → IsReached triple ((time -ℤ triple.anchor.time) *ℤ pos k.per_count) end tick → IsTickOf k time tick
    is_tick tick reached = record {
      within = let to = reached.to in let most = to_end.to in omega arith;
      not_after = (
        line_over k.per_count triple.anchor triple.rate tick,
        time_by k.per_count k.triples tick rise (by tick reached.from reached.to),
        within_elapsed k.per_count triple (positive place triple start.here) time tick reached.reached,
      );
      greatest = λ later up within. greatest tick later reached up within;
    }

  -- ---- what is refused

  pub not_before_first : ¬ IsBeforeFirst k time
  not_before_first (first, rest, is, less) =
      let at : slice_get k.triples 0 ≡ Some first = subst (λ (ts : List TripleView). slice_get ts 0 ≡ Some first) (sym is) refl in
      against _ _ _ (later_times k.triples 0 place first triple rise (omega arith) at start.here) start.begun less
    where
      against : (x y z : ℤ) → x ≤ℤ y → y ≤ℤ z → z <ℤ x → ⊥
      against x y z p q r = omega (arith, ints)

  pub not_past_next : (next : TripleView) → slice_get k.triples (suc place) ≡ Some next → ¬ IsPastEnd k time
  not_past_next next there (over, at, less) =
      let found = cover_from k.triples k.total (suc place) next rise there (kept_triple k.total k.triples (suc place) next kept.triples there).ticks in
      let same = one_time k.per_count k.triples k.total over rise found.0 at in
      let after = later_line k.total found.0 (let behind = found.1 in omega arith) in
      against _ _ (subst (λ (x : ℤ). (time *ℤ pos k.per_count) <ℤ x) (sym same) after) less
    where
      against : (x y : ℤ) → x <ℤ y → y <ℤ x → ⊥
      against x y p q = omega (arith, ints)

  module _ (all : length k.triples ≤ suc place) where
    abbrev last : Cover k.triples k.total
    last =
        let to = covers_to_total k kept place triple start.here all in
        record { place = place; triple = triple; is = to.covers k.total to.from (omega arith) }

    pub past_end : (triple.rate *ℤ pos (k.total - triple.anchor.ticks)) <ℤ ((time -ℤ triple.anchor.time) *ℤ pos k.per_count) → IsPastEnd k time
    past_end less = (
      line_over k.per_count triple.anchor triple.rate k.total,
      time_by k.per_count k.triples k.total rise last,
      past_elapsed k.per_count triple (positive place triple start.here) time k.total less,
    )

    pub not_past_end : ¬ ((triple.rate *ℤ pos (k.total - triple.anchor.ticks)) <ℤ ((time -ℤ triple.anchor.time) *ℤ pos k.per_count)) → ¬ IsPastEnd k time
    not_past_end not (over, at, less) =
        let same = one_time k.per_count k.triples k.total over rise last at in
        not (elapsed_past k.per_count triple (positive place triple start.here) time k.total (subst (λ (x : ℤ). x <ℤ (time *ℤ pos k.per_count)) same less))

-- where no triple has begun, the time is before the first
pub before_first : (k : TriplesView) (time : ℤ) → AreKept k → HaveBegun k.triples time 0 → IsBeforeFirst k time
before_first k time kept have = first_of k.triples kept.triples.some have
  where
    first_of : (ts : List TripleView) → 0 < length ts → HaveBegun ts time 0 → (first : TripleView) × (rest : List TripleView) × (ts ≡ first ∷ rest) × (time <ℤ first.anchor.time)
    first_of [] some have = absurd (omega arith)
    first_of (a ∷ ts) some have = (a, ts, refl, have.later 0 a (omega arith) (omega arith))

-- ---- what the call answers

pub in_next : (k : TriplesView) (time : ℤ) (place tick : ℕ) (triple next : TripleView) → AreKept k → IsStart k.triples time place triple → slice_get k.triples (suc place) ≡ Some next
    → IsReached triple ((time -ℤ triple.anchor.time) *ℤ pos k.per_count) (next.anchor.ticks - 1) tick
    → ((¬ IsBeforeFirst k time) × ((¬ IsPastEnd k time) × Unit {0})) × IsTickOf k time tick
in_next k time place tick triple next kept start there reached = (
  (not_before_first k kept time place triple start, (not_past_next k kept time place triple start next there, tt)),
  is_tick k kept time place triple start (next.anchor.ticks - 1) (covers_to_next k kept place triple next start.here there) tick reached,
)

pub in_last : (k : TriplesView) (time : ℤ) (place tick : ℕ) (triple : TripleView) → AreKept k → IsStart k.triples time place triple → length k.triples ≤ suc place
    → ¬ ((triple.rate *ℤ pos (k.total - triple.anchor.ticks)) <ℤ ((time -ℤ triple.anchor.time) *ℤ pos k.per_count))
    → IsReached triple ((time -ℤ triple.anchor.time) *ℤ pos k.per_count) k.total tick
    → ((¬ IsBeforeFirst k time) × ((¬ IsPastEnd k time) × Unit {0})) × IsTickOf k time tick
in_last k time place tick triple kept start all not reached = (
  (not_before_first k kept time place triple start, (not_past_end k kept time place triple start all not, tt)),
  is_tick k kept time place triple start k.total (covers_to_total k kept place triple start.here all) tick reached,
)
