-- The triple that covers a tick.
use Rattle.std.proofs.Common.{◌≡◌, ◌≢◌, ◌↔◌, ℕ, zero, suc, ◌+◌, ◌-◌, ◌<◌, ◌≤◌, Bool, true, false, if◌then◌else◌, leb, List, [], ◌∷◌, length, get_or, Option, Some, None, refl, sym, ap, subst, inl, inr, arith, ◌∙◌}
use Rattle.std.proofs.lemmas.Bool.{cases_lt, le-leb, lt-leb, leb-true, leb-false}
use Rattle.std.proofs.lemmas.Option.{some_pair_parts, none-some, same_Some, slice_get_within, slice_get-get_or, get_or_from_slice_get}
use Rattle.std.proofs.lemmas.Int.{ints}
use Rattle.std.specs.Prelude.{ℤ, ◌<ℤ◌, slice_get, unwrap_or, SomeIff}
use Rattle.std.specs.List.{AllWithin, AllByRecursion}
use Rattle.std.specs.Option.{option_map_or, option_map}
use Rattle.std.specs.List.Sorted.{IsNonDecreasingBy}
use Rattle.sk_line.specs.Triple.{TripleView}
use Rattle.sk_line.specs.Line.{covering, covering_from, begun_at}
use Rattle.sk_triples.specs.Kernel.{Rise, IsCovering, AreTriples, IsTriple}

pub rise_tail : (a : TripleView) (ts : List TripleView) → Rise (a ∷ ts) → Rise ts
rise_tail a [] rise = tt
rise_tail a (b ∷ ts) rise = rise.2

-- ticks and times are greater than those of the first
pub ticks_behind : (a : TripleView) (ts : List TripleView) → Rise (a ∷ ts) → (k : ℕ) (d : TripleView) → k < length ts → a.anchor.ticks < (get_or ts k d).anchor.ticks
ticks_behind a [] rise k d less = absurd (omega arith)
ticks_behind a (b ∷ ts) rise zero d less = rise.0
ticks_behind a (b ∷ ts) rise (suc k) d less =
    let first = rise.0 in
    let rest = ticks_behind b ts rise.2 k d (omega arith) in omega arith

pub times_behind : (a : TripleView) (ts : List TripleView) → Rise (a ∷ ts) → (k : ℕ) (d : TripleView) → k < length ts → a.anchor.time <ℤ (get_or ts k d).anchor.time
times_behind a [] rise k d less = absurd (omega arith)
times_behind a (b ∷ ts) rise zero d less = rise.1
times_behind a (b ∷ ts) rise (suc k) d less = through _ _ _ rise.1 (times_behind b ts rise.2 k d (omega arith))
  where
    through : (x y z : ℤ) → x <ℤ y → y <ℤ z → x <ℤ z
    through x y z p q = omega (arith, ints)

-- ticks do not fall
pub ticks_rise : (ts : List TripleView) → Rise ts → IsNonDecreasingBy (λ (t : TripleView). t.anchor.ticks) ts
ticks_rise [] rise i j d up in_list = absurd (omega arith)
ticks_rise (a ∷ ts) rise zero zero d up in_list = omega arith
ticks_rise (a ∷ ts) rise zero (suc j) d up in_list = let less = ticks_behind a ts rise j d (omega arith) in omega arith
ticks_rise (a ∷ ts) rise (suc i) zero d up in_list = absurd (omega arith)
ticks_rise (a ∷ ts) rise (suc i) (suc j) d up in_list = ticks_rise ts (rise_tail a ts rise) i j d (omega arith) (omega arith)

-- the triple has begun at the tick
abbrev pub has_begun : ℕ → TripleView → Bool
has_begun tick triple = leb triple.anchor.ticks tick

abbrev pub IsPoint : ℕ → List TripleView → ℕ → Type 0
IsPoint tick ts i = (i ≤ length ts) × AllWithin (λ t. has_begun tick t ≡ true) ts 0 i × AllWithin (λ t. has_begun tick t ≡ false) ts i (length ts)

point_tail : (tick : ℕ) (a : TripleView) (ts : List TripleView) (i : ℕ) → IsPoint tick (a ∷ ts) (suc i) → IsPoint tick ts i
point_tail tick a ts i p = (
  omega (arith, p.0),
  (λ k d from to. p.1 (suc k) d (omega arith) (omega arith)),
  (λ k d from to. p.2 (suc k) d (omega arith) (omega arith)),
)

abbrev choice : ℕ → TripleView → List TripleView → ℕ → Bool → Option (ℕ × TripleView)
choice n a ts tick b = if b then Some (unwrap_or (covering_from (n + 1) ts tick) (n, a)) else None

-- where none has begun none covers
none_covers : (n tick : ℕ) (ts : List TripleView) → IsPoint tick ts 0 → covering_from n ts tick ≡ None
none_covers n tick [] p = refl
none_covers n tick (a ∷ ts) p = ap (choice n a ts tick) (p.2 0 a (omega arith) (omega arith))

-- else the last that has begun does
last_covers : (n tick : ℕ) (ts : List TripleView) (i : ℕ) (d : TripleView) → IsPoint tick ts (suc i) → covering_from n ts tick ≡ Some (n + i, get_or ts i d)
last_covers n tick [] i d p = absurd (omega (arith, p.0))
last_covers n tick (a ∷ ts) zero d p =
    let here : covering_from n (a ∷ ts) tick ≡ choice n a ts tick true = ap (choice n a ts tick) (p.1 0 a (omega arith) (omega arith)) in
    let same : n ≡ n + 0 = omega arith in
    here ∙ ap (λ (o : Option (ℕ × TripleView)). Some (unwrap_or o (n, a))) (none_covers (n + 1) tick ts (point_tail tick a ts 0 p)) ∙ ap (λ (m : ℕ). Some (m, a)) same
last_covers n tick (a ∷ ts) (suc i) d p =
    let here : covering_from n (a ∷ ts) tick ≡ choice n a ts tick true = ap (choice n a ts tick) (p.1 0 a (omega arith) (omega arith)) in
    let same : n + 1 + i ≡ n + suc i = omega arith in
    here ∙ ap (λ (o : Option (ℕ × TripleView)). Some (unwrap_or o (n, a))) (last_covers (n + 1) tick ts i d (point_tail tick a ts (suc i) p)) ∙ ap (λ (m : ℕ). Some (m, get_or ts i d)) same

pub covers_none : (tick : ℕ) (ts : List TripleView) → IsPoint tick ts 0 → covering ts tick ≡ None
covers_none tick ts p = none_covers 1 tick ts p

pub covers_last : (tick : ℕ) (ts : List TripleView) (i : ℕ) (d : TripleView) → IsPoint tick ts (suc i) → covering ts tick ≡ Some (suc i, get_or ts i d)
covers_last tick ts i d p = let same : 1 + i ≡ suc i = omega arith in last_covers 1 tick ts i d p ∙ ap (λ (m : ℕ). Some (m, get_or ts i d)) same

-- the number of triples that have begun
pub begun_is : (tick : ℕ) (ts : List TripleView) (i : ℕ) → IsPoint tick ts i → i ≡ begun_at ts tick
begun_is tick ts zero p = sym (ap (λ (o : Option (ℕ × TripleView)). option_map_or (λ found. found.0) o 0) (covers_none tick ts p))
begun_is tick [] (suc i) p = absurd (omega (arith, p.0))
begun_is tick (a ∷ ts) (suc i) p = sym (ap (λ (o : Option (ℕ × TripleView)). option_map_or (λ found. found.0) o 0) (covers_last tick (a ∷ ts) i a p))

-- ---- some triples have begun, and the others have not

begun_split : (tick : ℕ) (a : TripleView) (ts : List TripleView) → Rise (a ∷ ts) → (rest : (i : ℕ) × IsPoint tick ts i) → (i : ℕ) × IsPoint tick (a ∷ ts) i
begun_split tick a ts rise rest = elim (cases_lt tick a.anchor.ticks) [
  | inl before ↦ (0, (omega arith, (λ k d from to. absurd (omega arith)), λ k d from to. after before k d to))
  | inr begun ↦ (suc rest.0, (omega (arith, rest.1.0), (λ k d from to. low begun k d to), λ k d from to. high k d from to))
]
  where
    after : tick < a.anchor.ticks → (k : ℕ) (d : TripleView) → k < length (a ∷ ts) → has_begun tick (get_or (a ∷ ts) k d) ≡ false
    after before zero d to = lt-leb a.anchor.ticks tick before
    after before (suc k) d to = let less = ticks_behind a ts rise k d (omega arith) in lt-leb (get_or ts k d).anchor.ticks tick (omega arith)

    low : a.anchor.ticks ≤ tick → (k : ℕ) (d : TripleView) → k < suc rest.0 → has_begun tick (get_or (a ∷ ts) k d) ≡ true
    low begun zero d to = le-leb a.anchor.ticks tick begun
    low begun (suc k) d to = rest.1.1 k d (omega arith) (omega arith)

    high : (k : ℕ) (d : TripleView) → suc rest.0 ≤ k → k < length (a ∷ ts) → has_begun tick (get_or (a ∷ ts) k d) ≡ false
    high zero d from to = absurd (omega arith)
    high (suc k) d from to = rest.1.2 k d (omega arith) (omega arith)

pub point_of : (tick : ℕ) (ts : List TripleView) → Rise ts → (i : ℕ) × IsPoint tick ts i
point_of tick [] rise = (0, (omega arith, (λ k d from to. absurd (omega arith)), λ k d from to. absurd (omega arith)))
point_of tick (a ∷ ts) rise = begun_split tick a ts rise (point_of tick ts (rise_tail a ts rise))

-- ---- what the number of those that have begun says

pub none_at : (tick : ℕ) (ts : List TripleView) → Rise ts → begun_at ts tick ≡ 0 → covering ts tick ≡ None
none_at tick ts rise e =
    let point = point_of tick ts rise in
    let zero_is : point.0 ≡ 0 = begun_is tick ts point.0 point.1 ∙ e in
    covers_none tick ts (subst (λ (i : ℕ). IsPoint tick ts i) zero_is point.1)

pub some_at : (tick : ℕ) (ts : List TripleView) (j : ℕ) (d : TripleView) → Rise ts → begun_at ts tick ≡ suc j → covering ts tick ≡ Some (suc j, get_or ts j d)
some_at tick ts j d rise e =
    let point = point_of tick ts rise in
    let is : point.0 ≡ suc j = begun_is tick ts point.0 point.1 ∙ e in
    covers_last tick ts j d (subst (λ (i : ℕ). IsPoint tick ts i) is point.1)

pub triple_at : (tick : ℕ) (ts : List TripleView) (n : ℕ) (t : TripleView) → Rise ts → n ≡ begun_at ts tick → n ≢ 0 → t ≡ get_or ts (n - 1) t
    → Some t ≡ option_map (λ found. found.1) (covering ts tick)
triple_at tick ts n t rise e some at =
    let is : begun_at ts tick ≡ suc (n - 1) = omega arith in
    ap (λ (x : TripleView). Some x) at ∙ sym (ap (λ (o : Option (ℕ × TripleView)). option_map (λ found. found.1) o) (some_at tick ts (n - 1) t rise is))

pub place_at : (tick : ℕ) (ts : List TripleView) (n : ℕ) → Rise ts → suc n ≡ begun_at ts tick → Some (n + 1) ≡ option_map (λ found. found.0) (covering ts tick)
place_at tick [] n rise e = absurd (omega arith)
place_at tick (a ∷ ts) n rise e =
    let same : n + 1 ≡ suc n = omega arith in
    ap (λ (m : ℕ). Some m) same ∙ sym (ap (λ (o : Option (ℕ × TripleView)). option_map (λ found. found.0) o) (some_at tick (a ∷ ts) n a rise (sym e)))

-- ---- the law

pub covers : (tick : ℕ) (ts : List TripleView) (place : ℕ) (triple : TripleView) → Rise ts → covering ts tick ≡ Some (place + 1, triple) → IsCovering ts tick place triple
covers tick ts place triple rise e = by_point (point_of tick ts rise)
  where
    by_point : (i : ℕ) × IsPoint tick ts i → IsCovering ts tick place triple
    by_point (zero, p) = absurd (let no : None ≡ Some (place + 1, triple) = sym (covers_none tick ts p) ∙ e in cc)
    by_point (suc j, p) =
        let both : ◌≡◌ {A = Option (ℕ × TripleView)} (Some (suc j, get_or ts j triple)) (Some (place + 1, triple)) = sym (covers_last tick ts j triple p) ∙ e in
        let parts : (suc j ≡ place + 1) × (get_or ts j triple ≡ triple) = some_pair_parts (suc j) (place + 1) (get_or ts j triple) triple both in
        let same : j ≡ place = let q = parts.0 in omega arith in
        record {
          here = subst (λ (k : ℕ). slice_get ts k ≡ Some triple) same (slice_get-get_or ts j triple (omega (arith, p.0)) ∙ ap (λ (x : TripleView). Some x) parts.1);
          begun = leb-true triple.anchor.ticks tick (subst (λ (x : TripleView). has_begun tick x ≡ true) parts.1 (p.1 j triple (omega arith) (omega arith)));
          last = λ later next behind at.
              let in_list = slice_get_within ts later next at in
              let not_yet = subst (λ (x : TripleView). has_begun tick x ≡ false) (get_or_from_slice_get ts later next triple at) (p.2 later triple (omega arith) in_list) in
              leb-false next.anchor.ticks tick not_yet;
        }

pub covered : (tick : ℕ) (ts : List TripleView) (place : ℕ) (triple : TripleView) → Rise ts → IsCovering ts tick place triple → covering ts tick ≡ Some (place + 1, triple)
covered tick ts place triple rise is =
    let here : get_or ts place triple ≡ triple = get_or_from_slice_get ts place triple triple is.here in
    let within = slice_get_within ts place triple is.here in
    let same : suc place ≡ place + 1 = omega arith in
    let point : IsPoint tick ts (suc place) = (omega arith, (λ k d from to. low k d (omega arith)), λ k d from to. high k d (omega arith) to) in
    covers_last tick ts place triple point ∙ ap (λ (x : TripleView). Some (suc place, x)) here ∙ ap (λ (m : ℕ). Some (m, triple)) same
  where
    low : (k : ℕ) (d : TripleView) → k ≤ place → has_begun tick (get_or ts k d) ≡ true
    low k d le =
        let within = slice_get_within ts place triple is.here in
        let up = ticks_rise ts rise k place d le within in
        let at : get_or ts place d ≡ triple = get_or_from_slice_get ts place triple d is.here in
        let most : (get_or ts k d).anchor.ticks ≤ triple.anchor.ticks = subst (λ (x : TripleView). (get_or ts k d).anchor.ticks ≤ x.anchor.ticks) at up in
        let begun = is.begun in
        le-leb (get_or ts k d).anchor.ticks tick (omega arith)

    high : (k : ℕ) (d : TripleView) → place < k → k < length ts → has_begun tick (get_or ts k d) ≡ false
    high k d behind to = lt-leb (get_or ts k d).anchor.ticks tick (is.last k (get_or ts k d) behind (slice_get-get_or ts k d to))

pub covering_is_last : (total tick place : ℕ) (triples : List TripleView) (triple : TripleView) → AreTriples total triples
    → (covering triples tick ≡ Some (place + 1, triple)) ↔ IsCovering triples tick place triple
covering_is_last total tick place triples triple are = (covers tick triples place triple are.rise, covered tick triples place triple are.rise)

-- ---- what calls answer

pub place_of : (tick : ℕ) (ts : List TripleView) (n : ℕ) (o : Option ℕ) → Rise ts → n ≡ begun_at ts tick → SomeIff o (1 ≤ n) (n - 1)
    → option_map (λ place. place + 1) o ≡ option_map (λ found. found.0) (covering ts tick)
place_of tick ts n None rise e none =
    let zero_is : begun_at ts tick ≡ 0 = omega arith in
    sym (ap (λ (o : Option (ℕ × TripleView)). option_map (λ found. found.0) o) (none_at tick ts rise zero_is))
place_of tick ts n (Some place) rise e some =
    let from = some.0 in
    let is = some.1 in
    place_at tick ts place rise (omega arith)

pub found_of : (o : Option (ℕ × TripleView)) (t : TripleView) → Some t ≡ option_map (λ found. found.1) o → (n : ℕ) × (o ≡ Some (n, t))
found_of None t e = absurd (none-some t (sym e))
found_of (Some found) t e = (found.0, ap (λ (x : TripleView). Some (found.0, x)) (sym (same_Some t found.1 e)))

pub all_at : {X : Type 0} (P : X → Type 0) (xs : List X) (k : ℕ) (d : X) → AllByRecursion P xs → k < length xs → P (get_or xs k d)
all_at P [] k d all less = absurd (omega arith)
all_at P (x ∷ xs) zero d all less = all.0
all_at P (x ∷ xs) (suc k) d all less = all_at P xs k d all.1 (omega arith)

-- the triple that covers a tick has begun at it, and is one of the clock's
pub kept_at : (total tick : ℕ) (ts : List TripleView) (n : ℕ) (t : TripleView) → AreTriples total ts → covering ts tick ≡ Some (n, t) → IsTriple tick t
kept_at total tick ts n t are e = by_point (point_of tick ts are.rise)
  where
    by_point : (i : ℕ) × IsPoint tick ts i → IsTriple tick t
    by_point (zero, p) = absurd (none-some (n, t) (sym (covers_none tick ts p) ∙ e))
    by_point (suc j, p) =
        let both : ◌≡◌ {A = Option (ℕ × TripleView)} (Some (suc j, get_or ts j t)) (Some (n, t)) = sym (covers_last tick ts j t p) ∙ e in
        let parts : (suc j ≡ n) × (get_or ts j t ≡ t) = some_pair_parts (suc j) n (get_or ts j t) t both in
        let kept : IsTriple total t = subst (IsTriple total) parts.1 (all_at (IsTriple total) ts j t are.each (omega (arith, p.0))) in
        record {
          ticks = leb-true t.anchor.ticks tick (subst (λ (x : TripleView). has_begun tick x ≡ true) parts.1 (p.1 j t (omega arith) (omega arith)));
          from = kept.from;
          to = kept.to;
          positive = kept.positive;
          slow = kept.slow;
        }
