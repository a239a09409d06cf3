-- Observations in their order and places.
use Rattle.std.proofs.Common.{◌≡◌, ℕ, zero, suc, ◌+◌, ◌*◌, ◌^◌, ◌<◌, ◌≤◌, List, [], ◌∷◌, ◌++◌, length, map, take, get_or, Some, refl, sym, ap, subst, arith, ◌∙◌, append_assoc, length-append}
use Rattle.std.proofs.lemmas.List.{map-append, length-take-le}
use Rattle.std.specs.Prelude.{slice_get, All, AllPairs}
use Rattle.std.specs.List.{AllByRecursion}
use Rattle.sk_clock.specs.Clock.{ClockView, total}
use Rattle.sk_publishing.specs.Row.{RowView, AreRows}
use Rattle.sk_publishing.specs.Terms.{Sight, sights_from, sights}
use Rattle.sk_least.specs.Answer.{IsAt}
use Rattle.sk_least.specs.Hull.{IsEarlier, EachPair}
use Rattle.sk_least.specs.Search.{turned, IsSearch}

abbrev pub in_place : ℕ → RowView → Sight
in_place place row = record { place = place; tick = row.tick; time = row.time }

later : (o : Sight) (place : ℕ) (rows : List RowView) → o.place < place → ((j : ℕ) (d : RowView) → j < length rows → o.tick < (get_or rows j d).tick)
    → AllByRecursion (IsEarlier o) (sights_from place rows)
later o place [] h k = tt
later o place (row ∷ rows) h k = (record { tick = k zero row (omega arith); place = h }, later o (place + 1) rows (omega arith) (λ j d w. k (suc j) d (omega arith)))

rising_from : (place : ℕ) (rows : List RowView) → AllPairs (λ a b. a.tick < b.tick) rows → EachPair IsEarlier (sights_from place rows)
rising_from place [] h = tt
rising_from place (row ∷ rows) h = (
  later (in_place place row) (place + 1) rows (omega arith) (λ j d w. h zero (suc j) d (omega arith) (omega arith)),
  rising_from (place + 1) rows (λ i j d less w. h (suc i) (suc j) d (omega arith) (omega arith)),
)

within_from : (most place : ℕ) (rows : List RowView) → All (λ row. row.tick ≤ most) rows → AllByRecursion (λ o. o.tick ≤ most) (sights_from place rows)
within_from most place [] h = tt
within_from most place (row ∷ rows) h = (h zero row (omega arith), within_from most (place + 1) rows (λ k d w. h (suc k) d (omega arith)))

at_seam : (front : List Sight) (o : Sight) (rest : List Sight) (place : ℕ) → length front ≡ place → slice_get (front ++ o ∷ rest) place ≡ Some o
at_seam [] o rest zero e = refl
at_seam [] o rest (suc n) e = absurd (omega arith)
at_seam (x ∷ front) o rest zero e = absurd (omega arith)
at_seam (x ∷ front) o rest (suc n) e = at_seam front o rest n (omega arith)

placed_from : (all front : List Sight) (place : ℕ) (rows : List RowView) → all ≡ front ++ sights_from place rows → length front ≡ place
    → AllByRecursion (λ o. IsAt all o.place o) (sights_from place rows)
placed_from all front place [] e h = tt
placed_from all front place (row ∷ rows) e h = (
  subst (λ (xs : List Sight). slice_get xs place ≡ Some (in_place place row)) (sym e) (at_seam front (in_place place row) (sights_from (place + 1) rows) place h),
  placed_from all (front ++ in_place place row ∷ []) (place + 1) rows (e ∙ sym (append_assoc front (in_place place row ∷ []) (sights_from (place + 1) rows)))
      (length-append front (in_place place row ∷ []) ∙ ap (λ (n : ℕ). n + 1) h),
)

pub is_search : (clock : ClockView) (tolerance : ℕ) (rows : List RowView) (over : List Sight) → AreRows (total clock) rows → tolerance ≤ 60 * 10 ^ 12
    → over ≡ map turned (sights rows) → IsSearch (record { clock = clock; tolerance = tolerance; all = sights rows }) over
is_search clock tolerance rows over are small e = record {
  is_over = e;
  rising = rising_from 0 rows are.rising;
  placed = placed_from (sights rows) [] 0 rows refl refl;
  within = within_from (total clock) 0 rows are.within;
  tolerance = small;
}

more_from : (place : ℕ) (rows : List RowView) (i : ℕ) (row : RowView) → i < length rows → row ≡ get_or rows i row
    → take (i + 1) (sights_from place rows) ≡ take i (sights_from place rows) ++ in_place (place + i) row ∷ []
more_from place [] i row h e = absurd (omega arith)
more_from place (x ∷ rows) zero row h e = ap (λ (r : RowView). in_place place r ∷ []) (sym e) ∙ ap (λ (n : ℕ). in_place n row ∷ []) (same place)
  where
    same : (n : ℕ) → n ≡ n + 0
    same n = omega arith
more_from place (x ∷ rows) (suc i) row h e = ap (λ (n : ℕ). take n (sights_from place (x ∷ rows))) (one_more i) ∙ ap (λ (xs : List Sight). in_place place x ∷ xs) (more_from (place + 1) rows i row (omega arith) e)
    ∙ ap (λ (n : ℕ). in_place place x ∷ (take i (sights_from (place + 1) rows) ++ in_place n row ∷ [])) (counts place i)
  where
    one_more : (i : ℕ) → suc i + 1 ≡ suc (i + 1)
    one_more i = omega arith

    counts : (place i : ℕ) → place + 1 + i ≡ place + suc i
    counts place i = omega arith

pub one_placed : (rows : List RowView) (i : ℕ) (row : RowView) → i < length rows → row ≡ get_or rows i row
    → take (i + 1) (sights rows) ≡ take i (sights rows) ++ in_place i row ∷ []
one_placed rows i row h e = more_from 0 rows i row h e ∙ ap (λ (n : ℕ). take i (sights rows) ++ in_place n row ∷ []) (same i)
  where
    same : (n : ℕ) → 0 + n ≡ n
    same n = omega arith

pub one_turned : (rows : List RowView) (i : ℕ) (row : RowView) → i < length rows → row ≡ get_or rows i row
    → map turned (take (i + 1) (sights rows)) ≡ map turned (take i (sights rows)) ++ turned (in_place i row) ∷ []
one_turned rows i row h e = ap (map turned) (one_placed rows i row h e) ∙ map-append turned (take i (sights rows)) (in_place i row ∷ [])

length_from : (place : ℕ) (rows : List RowView) → length (sights_from place rows) ≡ length rows
length_from place [] = refl
length_from place (row ∷ rows) = ap suc (length_from (place + 1) rows)

pub length_sights : (rows : List RowView) → length (sights rows) ≡ length rows
length_sights rows = length_from 0 rows

-- the next one's place is the number of those before it
pub place_is : (rows : List RowView) (i : ℕ) (points : List Sight) → i < length rows → points ≡ take i (sights rows) → length points ≡ i
place_is rows i points h e = ap length e ∙ length-take-le i (sights rows) (subst (λ (n : ℕ). i ≤ n) (sym (length_sights rows)) (omega arith))

pub tick_within : (most : ℕ) (rows : List RowView) (i : ℕ) (row : RowView) → i < length rows → row ≡ get_or rows i row → All (λ r. r.tick ≤ most) rows → row.tick ≤ most
tick_within most rows i row h e all = subst (λ (r : RowView). r.tick ≤ most) (sym e) (all i row h)
