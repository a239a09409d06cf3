-- What `least` answers is the only answer.
use Rattle.std.proofs.Common.{◌≡◌, ℕ, zero, suc, ◌+◌, ◌-◌, ◌<◌, ◌≤◌, List, [], ◌∷◌, ◌++◌, length, take, drop, Some, refl, sym, ap, subst, ◌⊎◌, inl, inr, arith, ◌∙◌, append_assoc, length-append, length-drop, take-add, drop-drop, take-append-drop}
use Rattle.std.proofs.lemmas.Int.{ints}
use Rattle.std.proofs.lemmas.Bool.{cases_lt}
use Rattle.std.proofs.lemmas.List.{append_cancel_left}
use Rattle.std.proofs.lemmas.Option.{none-some, same_Some, slice_get_within}
use Rattle.std.specs.Prelude.{ℤ, pos, ◌*ℤ◌, ◌<ℤ◌, All, slice_index_or}
use Rattle.std.specs.List.{AllByRecursion}
use Rattle.sk_clock.specs.Clock.{ClockView, lengths}
use Rattle.sk_publishing.specs.Row.{RowView}
use Rattle.sk_publishing.specs.Terms.{Sight, sights_from, sights}
use Rattle.sk_line.proofs.Lists.{heads}
use Rattle.sk_least.specs.Cover.{IsStretch, IsGreatestNeed, IsLeastRoom, AreBent, ComesFirst, need_over, room_over, ticks_between}
use Rattle.sk_least.specs.Answer.{run_of, IsAt, IsStop, GoesOnInPartition, AreLeast, IsStopWithin, IsWithin, OneAnswer}
use Rattle.sk_least.specs.Search.{SearchView, EndsAs, IsLongestFrom, AreLongestFrom}
use Rattle.sk_least.specs.declared.stretch.Stretch.{Stretch}
use Rattle.sk_least.specs.declared.stretch.Stop.{Stop}
use Rattle.sk_least.specs.declared.stretch.Stop.TheVariants.{Last, Partition, Bent}
use Rattle.sk_least.proofs.Covers.{joined, Longest, stretch_front}
use Rattle.sk_least.proofs.Placed.{in_place, length_sights}
use Rattle.sk_least.proofs.Chained.{at_drop, runs, followed}

-- ---- places

-- each observation names its place
abbrev pub NamePlaces : List Sight → Type 0
NamePlaces all = (n : ℕ) (o : Sight) → IsAt all n o → o.place ≡ n

places_from : (place : ℕ) (rows : List RowView) (n : ℕ) (o : Sight) → IsAt (sights_from place rows) n o → o.place ≡ place + n
places_from place [] n o h = absurd (none-some o h)
places_from place (row ∷ rows) zero o h = ap (λ (x : Sight). x.place) (sym (same_Some (in_place place row) o h)) ∙ first place
  where
    first : (n : ℕ) → n ≡ n + 0
    first n = omega arith
places_from place (row ∷ rows) (suc n) o h = let e = places_from (place + 1) rows n o h in omega arith

pub sights_name_places : (rows : List RowView) → NamePlaces (sights rows)
sights_name_places rows n o h = let e = places_from 0 rows n o h in omega arith

-- ---- pairs

abbrev SamePlaces : Sight → Sight → Sight → Sight → Type 0
SamePlaces i j x y = (i.place ≡ x.place) × (j.place ≡ y.place)

first_same : (i j x y : Sight) → ComesFirst i j x y → ComesFirst x y i j → SamePlaces i j x y
first_same i j x y (inl h) (inl k) = absurd (omega arith)
first_same i j x y (inl h) (inr k) = absurd (let e = k.0 in omega arith)
first_same i j x y (inr h) (inl k) = absurd (let e = h.0 in omega arith)
first_same i j x y (inr h) (inr k) = ((let a = h.1 in let b = k.1 in omega arith), h.0)

-- neither is before the other
settled : (u v : ℤ) (i j x y : Sight) → (u <ℤ v) ⊎ ((u ≡ v) × ComesFirst i j x y) → (v <ℤ u) ⊎ ((v ≡ u) × ComesFirst x y i j) → SamePlaces i j x y
settled u v i j x y (inl a) (inl b) = absurd (omega (arith, ints, a, b))
settled u v i j x y (inl a) (inr b) = absurd (let e = b.0 in omega (arith, ints, a, e))
settled u v i j x y (inr a) (inl b) = absurd (let e = a.0 in omega (arith, ints, b, e))
settled u v i j x y (inr a) (inr b) = first_same i j x y a.1 b.1

turned_equal : (u v : ℤ) (A B : Type 0) → A ⊎ ((v ≡ u) × B) → A ⊎ ((u ≡ v) × B)
turned_equal u v A B (inl a) = inl a
turned_equal u v A B (inr b) = inr (sym b.0, b.1)

need_same : (tol : ℤ) (run : List Sight) (i j x y : Sight) → IsGreatestNeed tol run i j → IsGreatestNeed tol run x y → SamePlaces i j x y
need_same tol run i j x y h k =
    settled (need_over tol x y *ℤ pos (ticks_between i j)) (need_over tol i j *ℤ pos (ticks_between x y)) i j x y (h.greatest x y k.pair) (k.greatest i j h.pair)

room_same : (tol : ℤ) (run : List Sight) (i j x y : Sight) → IsLeastRoom tol run i j → IsLeastRoom tol run x y → SamePlaces i j x y
room_same tol run i j x y h k =
    let u : ℤ = room_over tol i j *ℤ pos (ticks_between x y) in
    let v : ℤ = room_over tol x y *ℤ pos (ticks_between i j) in
    settled u v i j x y (turned_equal u v (u <ℤ v) (ComesFirst i j x y) (h.least x y k.pair)) (turned_equal v u (v <ℤ u) (ComesFirst x y i j) (k.least i j h.pair))

-- ---- ends

same_bent : (a b c d e f g h : ℕ) → a ≡ e → b ≡ f → c ≡ g → d ≡ h → ◌≡◌ {A = Stop} (Bent a b c d) (Bent e f g h)
same_bent a b c d e f g h p q r s = λ i. Bent (p i) (q i) (r i) (s i)

head_of : (k : ℕ) (xs : List Sight) (o : Sight) (m : List Sight) → take k xs ≡ o ∷ m → (rest : List Sight) × (xs ≡ o ∷ rest) × (0 < k)
head_of zero xs o m e = absurd (cc)
head_of (suc k) [] o m e = absurd (cc)
head_of (suc k) (x ∷ xs) o m e = (xs, ap (λ (y : Sight). y ∷ xs) (heads x o (take k xs) m e), omega arith)

-- ---- counts

ends_at : (n first past : ℕ) → first ≡ n → 0 < past - first → n + (past - first) ≡ past
ends_at n first past e h = omega arith

some_between : (first past : ℕ) → first < past → 0 < past - first
some_between first past h = omega arith

longer : (first past past' first' : ℕ) → first' ≡ first → first < past → past < past' → past' - first' ≡ (past - first) + suc (past' - past - 1)
longer first past past' first' e h k = omega arith

module _ (v : SearchView) (names : NamePlaces v.all) where
  abbrev Ends : Stretch → Stop → Type 0
  Ends s stop = IsStop (lengths v.clock) (pos v.tolerance) v.all s stop

  next_same : (n : ℕ) (o p : Sight) → IsAt v.all n o → IsAt v.all n p → o ≡ p
  next_same n o p h k = same_Some o p (sym h ∙ k)

  past_end : (n : ℕ) (o : Sight) → n ≡ length v.all → IsAt v.all n o → ⊥
  past_end n o e h = let w = slice_get_within v.all n o h in omega arith

  placed : (m n : ℕ) (o p : Sight) → o.place ≡ p.place → IsAt v.all m o → IsAt v.all n p → m ≡ n
  placed m n o p e h k = sym (names m o h) ∙ e ∙ names n p k

  goes_on : (first past : ℕ) (p q : Stop) (o u : Sight) → o ≡ u
      → GoesOnInPartition (lengths v.clock) v.all (record { first = first; past = past; stop = p }) o
      → GoesOnInPartition (lengths v.clock) v.all (record { first = first; past = past; stop = q }) u
  goes_on first past p q o u e h = subst (λ (x : Sight). GoesOnInPartition (lengths v.clock) v.all (record { first = first; past = past; stop = q }) x) e h

  one_end : (first past : ℕ) (p q : Stop) → EndsAs v first past p → EndsAs v first past q → p ≡ q
  one_end first past Last Last h k = refl
  one_end first past Last Partition h k = absurd (past_end past k.0 h k.1)
  one_end first past Last (Bent a b c d) h k = absurd (past_end past k.0 h k.1)
  one_end first past Partition Last h k = absurd (past_end past h.0 k h.1)
  one_end first past Partition Partition h k = refl
  one_end first past Partition (Bent a b c d) h k = absurd (h.2 (goes_on first past (Bent a b c d) Partition k.0 h.0 (next_same past k.0 h.0 k.1 h.1) k.2))
  one_end first past (Bent a b c d) Last h k = absurd (past_end past h.0 k h.1)
  one_end first past (Bent a b c d) Partition h k = absurd (k.2 (goes_on first past (Bent a b c d) Partition h.0 k.0 (next_same past h.0 k.0 h.1 k.1) h.2))
  one_end first past (Bent a b c d) (Bent e f g i) h k =
      let x = h.3 in
      let y = k.3 in
      let run : List Sight = take (past - first) (drop first v.all) in
      let bent : AreBent (pos v.tolerance) (run ++ k.0 ∷ []) x.0 x.1 x.2 x.3 =
      subst (λ (o : Sight). AreBent (pos v.tolerance) (run ++ o ∷ []) x.0 x.1 x.2 x.3) (next_same past h.0 k.0 h.1 k.1) x.8 in
      let need = need_same (pos v.tolerance) (run ++ k.0 ∷ []) x.0 x.1 y.0 y.1 bent.need y.8.need in
      let room = room_same (pos v.tolerance) (run ++ k.0 ∷ []) x.2 x.3 y.2 y.3 bent.room y.8.room in
      same_bent a b c d e f g i (placed a e x.0 y.0 need.0 x.4 y.4) (placed b f x.1 y.1 need.1 x.5 y.5) (placed c g x.2 y.2 room.0 x.6 y.6) (placed d i x.3 y.3 room.1 x.7 y.7)

  ends_as : (s : Stretch) (stop : Stop) → Ends s stop → EndsAs v s.first s.past stop
  ends_as s Last h = h
  ends_as s Partition h = h
  ends_as s (Bent a b c d) h = h

  past_within : (s : Stretch) (stop : Stop) → Ends s stop → s.past ≤ length v.all
  past_within s Last h = let e : s.past ≡ length v.all = h in omega arith
  past_within s Partition h = let w = slice_get_within v.all s.past h.0 h.1 in omega arith
  past_within s (Bent a b c d) h = let w = slice_get_within v.all s.past h.0 h.1 in omega arith

  stop_within : (s : Stretch) (stop : Stop) → Ends s stop → IsStopWithin (length v.all) stop
  stop_within s Last h = tt
  stop_within s Partition h = tt
  stop_within s (Bent a b c d) h =
      let x = h.3 in
      (slice_get_within v.all a x.0 x.4, slice_get_within v.all b x.1 x.5, slice_get_within v.all c x.2 x.6, slice_get_within v.all d x.3 x.7)

  -- ---- runs

  -- runs of a cover, each with its end, follow one another
  chained : (n : ℕ) (stretches : List Stretch) → n ≤ length v.all → joined (runs v stretches) ≡ drop n v.all
      → AllByRecursion (IsStretch (lengths v.clock) (pos v.tolerance)) (runs v stretches) → AllByRecursion (λ s. Ends s s.stop) stretches
      → AreLongestFrom v n stretches (length v.all)
  chained n [] le e each stops = at_end (ap length e) (length-drop n v.all)
    where
      at_end : 0 ≡ length (drop n v.all) → length (drop n v.all) ≡ length v.all - n → n ≡ length v.all
      at_end l d = omega arith
  chained n (s ∷ stretches) le e each stops =
      of (λ behind. chained s.past stretches (past_within s s.stop stops.0) behind each.1 stops.1) (run_of v.all s) refl
    where
      later : List Sight
      later = joined (runs v stretches)

      rest : s.first ≡ n → 0 < s.past - s.first → later ≡ drop s.past v.all
      rest begins some =
          let same : run_of v.all s ≡ take (s.past - s.first) (drop n v.all) = ap (λ (f : ℕ). take (s.past - s.first) (drop f v.all)) begins in
          let parts : run_of v.all s ++ drop (s.past - s.first) (drop n v.all) ≡ drop n v.all =
          ap (λ (xs : List Sight). xs ++ drop (s.past - s.first) (drop n v.all)) same ∙ take-append-drop (s.past - s.first) (drop n v.all) in
          append_cancel_left (run_of v.all s) later (drop (s.past - s.first) (drop n v.all)) (e ∙ sym parts)
          ∙ drop-drop (s.past - s.first) n v.all ∙ ap (λ (m : ℕ). drop m v.all) (ends_at n s.first s.past begins some)

      of : (later ≡ drop s.past v.all → AreLongestFrom v s.past stretches (length v.all)) → (run : List Sight) → run_of v.all s ≡ run
          → IsLongestFrom v n s × AreLongestFrom v s.past stretches (length v.all)
      of next [] e0 = absurd (let l : length (run_of v.all s) ≡ 0 = ap length e0 in let k : 0 < length (run_of v.all s) = each.0.not_empty in omega arith)
      of next (o ∷ m) e0 =
          let head = head_of (s.past - s.first) (drop s.first v.all) o m e0 in
          let there : IsAt v.all s.first o = at_drop v.all s.first o head.0 head.1 in
          let here : IsAt v.all n o = at_drop v.all n o (m ++ later) (sym e ∙ ap (λ (xs : List Sight). xs ++ later) e0) in
          let begins : s.first ≡ n = sym (names s.first o there) ∙ names n o here in
          let some = head.2 in
          (record { begins = begins; some = omega arith; within = past_within s s.stop stops.0; stretch = each.0; stops = stops.0 }, next (rest begins some))

  -- a run that ends before another one from the same place could have gone on
  not_shorter : (n : ℕ) (s t : Stretch) → IsLongestFrom v n s → IsLongestFrom v n t → s.past < t.past → ⊥
  not_shorter n s t h k less = of (drop s.past v.all) refl
    where
      of : (xs : List Sight) → drop s.past v.all ≡ xs → ⊥
      of [] e = let l : length (drop s.past v.all) ≡ 0 = ap length e in let d = length-drop s.past v.all in let w = k.within in omega arith
      of (o ∷ rest) e =
          let some : s.first < s.past = (let a = h.some in let b = h.begins in omega arith) in
          let ends : Longest (lengths v.clock) (pos v.tolerance) (run_of v.all s) (o ∷ rest) = followed v s s.stop some h.within h.stops (o ∷ rest) e in
          let more : List Sight = take (t.past - s.past - 1) rest in
          let starts : t.first ≡ s.first = k.begins ∙ sym h.begins in
          let behind : drop (s.past - s.first) (drop s.first v.all) ≡ o ∷ rest =
          drop-drop (s.past - s.first) s.first v.all ∙ ap (λ (m : ℕ). drop m v.all) (ends_at s.first s.first s.past refl (some_between s.first s.past some)) ∙ e in
          let parts : run_of v.all t ≡ (run_of v.all s ++ o ∷ []) ++ more =
          ap (λ (f : ℕ). take (t.past - t.first) (drop f v.all)) starts
          ∙ ap (λ (m : ℕ). take m (drop s.first v.all)) (longer s.first s.past t.past t.first starts some less)
          ∙ take-add (s.past - s.first) (suc (t.past - s.past - 1)) (drop s.first v.all)
          ∙ ap (λ (xs : List Sight). run_of v.all s ++ take (suc (t.past - s.past - 1)) xs) behind
          ∙ sym (append_assoc (run_of v.all s) (o ∷ []) more) in
          let some_more : 0 < length (run_of v.all s ++ o ∷ []) = (let l = length-append (run_of v.all s) (o ∷ []) in omega arith) in
          ends (stretch_front (lengths v.clock) (pos v.tolerance) (run_of v.all s ++ o ∷ []) more some_more (subst (IsStretch (lengths v.clock) (pos v.tolerance)) parts k.stretch))

  same_stretch : (s t : Stretch) → s.first ≡ t.first → s.past ≡ t.past → s.stop ≡ t.stop → s ≡ t
  same_stretch s t p q r = λ i. record { first = p i; past = q i; stop = r i }

  one_longest : (n : ℕ) (s t : Stretch) → IsLongestFrom v n s → IsLongestFrom v n t → s ≡ t
  one_longest n s t h k =
      let first : s.first ≡ t.first = h.begins ∙ sym k.begins in
      let past : s.past ≡ t.past = elim (cases_lt s.past t.past) [
        | inl less ↦ absurd (not_shorter n s t h k less)
        | inr not_less ↦ elim (cases_lt t.past s.past) [ inl less ↦ absurd (not_shorter n t s k h less) | inr not_more ↦ omega arith ]
      ] in
      let there : EndsAs v s.first s.past t.stop =
      subst (λ (f : ℕ). EndsAs v f s.past t.stop) (sym first) (subst (λ (p : ℕ). EndsAs v t.first p t.stop) (sym past) (ends_as t t.stop k.stops)) in
      same_stretch s t first past (one_end s.first s.past s.stop t.stop (ends_as s s.stop h.stops) there)

  one_chain : (n : ℕ) (as' bs : List Stretch) → AreLongestFrom v n as' (length v.all) → AreLongestFrom v n bs (length v.all) → as' ≡ bs
  one_chain n [] [] h k = refl
  one_chain n [] (t ∷ bs) h k = absurd (let e : n ≡ length v.all = h in let s = k.0.some in let w = k.0.within in omega arith)
  one_chain n (s ∷ as') [] h k = absurd (let e : n ≡ length v.all = k in let t = h.0.some in let w = h.0.within in omega arith)
  one_chain n (s ∷ as') (t ∷ bs) h k =
      let same : s ≡ t = one_longest n s t h.0 k.0 in
      let after : AreLongestFrom v s.past bs (length v.all) = subst (λ (x : Stretch). AreLongestFrom v x.past bs (length v.all)) (sym same) k.1 in
      λ i. same i ∷ one_chain s.past as' bs h.1 after i

  abbrev Answers : List Stretch → Type 0
  Answers stretches = AreLeast (lengths v.clock) (pos v.tolerance) v.all stretches

  in_turn : (stretches : List Stretch) → Answers stretches → AreLongestFrom v 0 stretches (length v.all)
  in_turn stretches h = chained 0 stretches (omega arith) h.shortest.cover.joined h.shortest.cover.each h.stops

  one_of : (a b : List Stretch) → Answers a → Answers b → a ≡ b
  one_of a b h k = one_chain 0 a b (in_turn a h) (in_turn b k)

  are_within : (n : ℕ) (stretches : List Stretch) (past : ℕ) → AreLongestFrom v n stretches past → All (IsWithin (length v.all)) stretches
  are_within n [] past h k d w = absurd (omega (arith, w))
  are_within n (s ∷ stretches) past h zero d w = record {
    some = (let a = h.0.some in let b = h.0.begins in omega arith);
    past = h.0.within;
    stop = stop_within s s.stop h.0.stops;
  }
  are_within n (s ∷ stretches) past h (suc k) d w = are_within s.past stretches past h.1 k d (omega (arith, w))

  within_of : (stretches : List Stretch) → Answers stretches → All (IsWithin (length v.all)) stretches
  within_of stretches h = are_within 0 stretches (length v.all) (in_turn stretches h)

abbrev view_of : ClockView → ℕ → List RowView → SearchView
view_of clock tolerance rows = record { clock = clock; tolerance = tolerance; all = sights rows }

pub one_answer : OneAnswer
one_answer clock tolerance rows a b h k = one_of (view_of clock tolerance rows) (sights_name_places rows) a b h k

pub answer_within : (clock : ClockView) (tolerance : ℕ) (rows : List RowView) (stretches : List Stretch)
    → AreLeast (lengths clock) (pos tolerance) (sights rows) stretches → All (IsWithin (length rows)) stretches
answer_within clock tolerance rows stretches h =
    subst (λ (n : ℕ). All (IsWithin n) stretches) (length_sights rows) (within_of (view_of clock tolerance rows) (sights_name_places rows) stretches h)
