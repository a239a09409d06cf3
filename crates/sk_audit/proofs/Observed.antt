-- Observations with their places: the one in a place and those round it, and which ones are new.
use Rattle.std.proofs.Common.{◌≡◌, ◌⊎◌, ℕ, zero, suc, ◌+◌, ◌*◌, ◌^◌, ◌<◌, ◌≤◌, Bool, true, false, cond, List, [], ◌∷◌, ◌++◌, length, take, drop, get_or, Some, refl, sym, ap, subst, inl, inr, ◌∙◌, arith, add-one, zero-add}
use Rattle.sk_audit.proofs.Quotients.{sized_from, sized_to}
use Rattle.std.proofs.lemmas.Bool.Decides.{leb_tells}
use Rattle.std.proofs.lemmas.List.Sums.{sum_by-cons}
use Rattle.std.proofs.lemmas.Option.{none-some, same_Some, slice_get_within, slice_get-get_or, get_or_from_slice_get}
use Rattle.std.specs.Prelude.{pos, neg_ℤ, ◌≤ℤ◌, not, slice_get, count_by}
use Rattle.std.specs.List.{AllByRecursion}
use Rattle.sk_publishing.specs.Row.{RowView, AreRows, IsObservedTime}
use Rattle.sk_publishing.specs.Terms.{Sight, Terms, sights, sights_from}
use Rattle.sk_publishing.specs.Kept.{is_new, SortsNext, SortsFrom, Sorts}
use Rattle.sk_line.proofs.Lists.{all_back, all_map}
use Rattle.sk_audit.specs.Given.{sight_at}
use Rattle.sk_audit.specs.Walking.{IsAt, Rises}
use Rattle.sk_publishing.proofs.Marks.{new_stays}

-- ---- places

split_from : (place : ℕ) (rows : List RowView) (n p : ℕ) (row : RowView) → p ≡ place + n → slice_get rows n ≡ Some row
    → sights_from place rows ≡ take n (sights_from place rows) ++ sight_at p row ∷ drop (suc n) (sights_from place rows)
split_from place [] n p row e h = absurd (none-some row h)
split_from place (r ∷ rows) zero p row e h =
    let same : r ≡ row = same_Some r row h in
    let at : place ≡ p = omega arith in
    ap (λ (x : RowView). sight_at place x ∷ sights_from (place + 1) rows) same ∙ ap (λ (q : ℕ). sight_at q row ∷ sights_from (place + 1) rows) at
split_from place (r ∷ rows) (suc n) p row e h =
    ap (λ (z : List Sight). sight_at place r ∷ z) (split_from (place + 1) rows n p row (omega arith) h)

pub here_row : (rows : List RowView) (n : ℕ) (row : RowView) → slice_get rows n ≡ Some row
    → sights rows ≡ take n (sights rows) ++ sight_at n row ∷ drop (n + 1) (sights rows)
here_row rows n row here =
    subst (λ (m : ℕ). sights rows ≡ take n (sights rows) ++ sight_at n row ∷ drop m (sights rows)) (sym (add-one n))
    (split_from 0 rows n n row (sym (zero-add n)) here)

take_from : (place : ℕ) (rows : List RowView) (n p : ℕ) (row : RowView) → p ≡ place + n → slice_get rows n ≡ Some row
    → take (suc n) (sights_from place rows) ≡ take n (sights_from place rows) ++ sight_at p row ∷ []
take_from place [] n p row e h = absurd (none-some row h)
take_from place (r ∷ rows) zero p row e h =
    let same : r ≡ row = same_Some r row h in
    let at : place ≡ p = omega arith in
    ap (λ (x : RowView). sight_at place x ∷ []) same ∙ ap (λ (q : ℕ). sight_at q row ∷ []) at
take_from place (r ∷ rows) (suc n) p row e h =
    ap (λ (z : List Sight). sight_at place r ∷ z) (take_from (place + 1) rows n p row (omega arith) h)

-- one observation more
pub take_row : (rows : List RowView) (n : ℕ) (row : RowView) → slice_get rows n ≡ Some row
    → take (n + 1) (sights rows) ≡ take n (sights rows) ++ sight_at n row ∷ []
take_row rows n row here =
    subst (λ (m : ℕ). take m (sights rows) ≡ take n (sights rows) ++ sight_at n row ∷ []) (sym (add-one n))
    (take_from 0 rows n n row (sym (zero-add n)) here)

smaller_from : (place : ℕ) (rows : List RowView) (n p : ℕ) → p ≡ place + n → AllByRecursion (λ x. x.place < p) (take n (sights_from place rows))
smaller_from place rows zero p e = tt
smaller_from place [] (suc n) p e = tt
smaller_from place (r ∷ rows) (suc n) p e = (omega arith, smaller_from (place + 1) rows n p (omega arith))

pub from_place : (place : ℕ) (rows : List RowView) (p : ℕ) → p < place → AllByRecursion (λ x. p < x.place) (sights_from place rows)
from_place place [] p h = tt
from_place place (r ∷ rows) p h = (h, from_place (place + 1) rows p (omega arith))

greater_from : (place : ℕ) (rows : List RowView) (n p : ℕ) → p < place + n → AllByRecursion (λ x. p < x.place) (drop n (sights_from place rows))
greater_from place rows zero p h = from_place place rows p (omega arith)
greater_from place [] (suc n) p h = tt
greater_from place (r ∷ rows) (suc n) p h = greater_from (place + 1) rows n p (omega arith)

pub at_row : (rows : List RowView) (n : ℕ) (row : RowView) → slice_get rows n ≡ Some row → IsAt (sights rows) n (sight_at n row)
at_row rows n row here = record {
  before = take n (sights rows);
  after = drop (n + 1) (sights rows);
  here = here_row rows n row here;
  place = refl;
  smaller = smaller_from 0 rows n n (sym (zero-add n));
  greater = greater_from 0 rows (n + 1) n (omega arith);
}

-- ---- what holds of all

all_from : (P : Sight → Type 0) (place : ℕ) (rows : List RowView)
    → ((k p : ℕ) (row : RowView) → p ≡ place + k → slice_get rows k ≡ Some row → P (sight_at p row)) → AllByRecursion P (sights_from place rows)
all_from P place [] h = tt
all_from P place (r ∷ rows) h = (h 0 place r (omega arith) refl, all_from P (place + 1) rows (λ k p row e here. h (suc k) p row (omega arith) here))

-- it is enough that it holds of each row in its place
pub all_sights : (P : Sight → Type 0) (rows : List RowView) → ((k : ℕ) (row : RowView) → slice_get rows k ≡ Some row → P (sight_at k row)) → AllByRecursion P (sights rows)
all_sights P rows h = all_from P 0 rows (λ k p row e here. subst (λ (q : ℕ). P (sight_at q row)) (sym (e ∙ zero-add k)) (h k row here))

-- and then it holds of each
pub each_sight : (P : Sight → Type 0) (rows : List RowView) (k : ℕ) (row : RowView) → slice_get rows k ≡ Some row → AllByRecursion P (sights rows) → P (sight_at k row)
each_sight P rows k row here h =
    (all_back P (take k (sights rows)) (sight_at k row ∷ drop (k + 1) (sights rows)) (subst (AllByRecursion P) (here_row rows k row here) h)).0

front_from : (P : Sight → Type 0) (place : ℕ) (rows : List RowView) (n : ℕ)
    → ((k p : ℕ) (row : RowView) → p ≡ place + k → k < n → slice_get rows k ≡ Some row → P (sight_at p row)) → AllByRecursion P (take n (sights_from place rows))
front_from P place rows zero h = tt
front_from P place [] (suc n) h = tt
front_from P place (r ∷ rows) (suc n) h =
    (h 0 place r (omega arith) (omega arith) refl, front_from P (place + 1) rows n (λ k p row e l here. h (suc k) p row (omega arith) (omega arith) here))

-- ---- ticks rise

pub ticks_rise : (total : ℕ) (rows : List RowView) (j k : ℕ) (a b : RowView) → AreRows total rows → slice_get rows j ≡ Some a → slice_get rows k ≡ Some b
    → j < k → a.tick < b.tick
ticks_rise total rows j k a b are at_j at_k less =
    let rises : (get_or rows j a).tick < (get_or rows k a).tick = are.rising j k a less (slice_get_within rows k b at_k) in
    let first : (get_or rows j a).tick ≡ a.tick = ap (λ (x : RowView). x.tick) (get_or_from_slice_get rows j a a at_j) in
    let second : (get_or rows k a).tick ≡ b.tick = ap (λ (x : RowView). x.tick) (get_or_from_slice_get rows k b a at_k) in
    omega arith

pub rises_row : (total : ℕ) (rows : List RowView) (n : ℕ) (row : RowView) → AreRows total rows → slice_get rows n ≡ Some row
    → Rises (sights rows) n (sight_at n row)
rises_row total rows n row are here = all_sights (λ x. n < x.place → row.tick < x.tick) rows (λ k other there less. ticks_rise total rows n k row other are here there less)

pub in_range : (total : ℕ) (rows : List RowView) (n : ℕ) (row : RowView) → AreRows total rows → slice_get rows n ≡ Some row
    → (row.tick ≤ total) × (neg_ℤ (pos (9 * 10 ^ 21)) ≤ℤ row.time) × (row.time ≤ℤ pos (9 * 10 ^ 21))
in_range total rows n row are here =
    let at : get_or rows n row ≡ row = get_or_from_slice_get rows n row row here in
    let time : IsObservedTime row.time = subst (λ (x : RowView). IsObservedTime x.time) at (are.times n row (slice_get_within rows n row here)) in
    (subst (λ (x : RowView). x.tick ≤ total) at (are.within n row (slice_get_within rows n row here)), sized_from row.time (9 * 10 ^ 21) time, sized_to row.time (9 * 10 ^ 21) time)

-- ---- new ones

-- none before a place is new
abbrev pub AreOld : Terms → List RowView → ℕ → Type 0
AreOld t rows n = (k : ℕ) (row : RowView) → k < n → slice_get rows k ≡ Some row → is_new t (sight_at k row) ≡ false

-- the one in a place is new, or none stands there
abbrev pub BeginsNew : Terms → List RowView → ℕ → Type 0
BeginsNew t rows n = (n ≡ length rows) ⊎ ((row : RowView) → slice_get rows n ≡ Some row → is_new t (sight_at n row) ≡ true)

news_row : (t : Terms) (total : ℕ) (rows : List RowView) (n k : ℕ) (row : RowView) → AreRows total rows → BeginsNew t rows n
    → slice_get rows k ≡ Some row → n ≤ k → is_new t (sight_at k row) ≡ true
news_row t total rows n k row are (inl e) there h = absurd (let l = slice_get_within rows k row there in omega arith)
news_row t total rows n k row are (inr f) there h =
    let l : k < length rows = slice_get_within rows k row there in
    let first : RowView = get_or rows n row in
    let here : slice_get rows n ≡ Some (get_or rows n row) = slice_get-get_or rows n row (omega arith) in
    elim (leb_tells (suc n) k) [
      | inl w ↦ new_stays t (sight_at n first) (sight_at k row)
          (let r : first.tick < row.tick = ticks_rise total rows n k first row are here there w.1 in omega arith) (f first here)
      | inr w ↦ (let same : n ≡ k = (let p = w.1 in omega arith) in f' same there)
    ]
  where
    f' : n ≡ k → slice_get rows k ≡ Some row → is_new t (sight_at k row) ≡ true
    f' e there = subst (λ (m : ℕ). slice_get rows m ≡ Some row → is_new t (sight_at m row) ≡ true) e (f row) there

pub news_from : (t : Terms) (total : ℕ) (rows : List RowView) (n : ℕ) → AreRows total rows → BeginsNew t rows n
    → AllByRecursion (λ x. n ≤ x.place → is_new t x ≡ true) (sights rows)
news_from t total rows n are begins = all_sights (λ x. n ≤ x.place → is_new t x ≡ true) rows (λ k row there h. news_row t total rows n k row are begins there h)

pub new_at : (t : Terms) (rows : List RowView) (n k : ℕ) (row : RowView) → n ≤ k → slice_get rows k ≡ Some row
    → AllByRecursion (λ x. n ≤ x.place → is_new t x ≡ true) (sights rows) → is_new t (sight_at k row) ≡ true
new_at t rows n k row h there all = each_sight (λ x. n ≤ x.place → is_new t x ≡ true) rows k row there all h

count_from : (p : Sight → Bool) (place : ℕ) (rows : List RowView) (n : ℕ) → n ≤ length rows
    → AllByRecursion (λ x. p x ≡ true) (take n (sights_from place rows)) → AllByRecursion (λ x. place + n ≤ x.place → p x ≡ false) (sights_from place rows)
    → n ≡ count_by p (sights_from place rows)
count_from p place [] n h olds news = omega arith
count_from p place (r ∷ rows) zero h olds news =
    let none : p (sight_at place r) ≡ false = news.0 (omega arith) in
    let off : cond {A = ℕ} (p (sight_at place r)) 1 0 ≡ 0 = ap (λ (b : Bool). cond {A = ℕ} b 1 0) none in
    let rest : 0 ≡ count_by p (sights_from (place + 1) rows) = count_from p (place + 1) rows zero (omega arith) tt
    (all_map _ _ (λ x f l. f (omega arith)) (sights_from (place + 1) rows) news.1) in
    let sum = sum_by-cons (λ (x : Sight). cond {A = ℕ} (p x) 1 0) (sight_at place r) (sights_from (place + 1) rows) in
    omega arith
count_from p place (r ∷ rows) (suc n) h olds news =
    let on : cond {A = ℕ} (p (sight_at place r)) 1 0 ≡ 1 = ap (λ (b : Bool). cond {A = ℕ} b 1 0) olds.0 in
    let rest : n ≡ count_by p (sights_from (place + 1) rows) = count_from p (place + 1) rows n (omega arith) olds.1
    (all_map _ _ (λ x f l. f (omega arith)) (sights_from (place + 1) rows) news.1) in
    let sum = sum_by-cons (λ (x : Sight). cond {A = ℕ} (p x) 1 0) (sight_at place r) (sights_from (place + 1) rows) in
    omega arith

olds_front : (t : Terms) (rows : List RowView) (n : ℕ) → AreOld t rows n → AllByRecursion (λ x. is_new t x ≡ false) (take n (sights rows))
olds_front t rows n olds = front_from (λ x. is_new t x ≡ false) 0 rows n
    (λ k p row e l here. subst (λ (q : ℕ). is_new t (sight_at q row) ≡ false) (sym (e ∙ zero-add k)) (olds k row l here))

-- the old ones are as many as stand before the first new one
pub count_news : (t : Terms) (total : ℕ) (rows : List RowView) (n : ℕ) → AreRows total rows → AreOld t rows n → BeginsNew t rows n → n ≤ length rows
    → n ≡ count_by (λ o. not (is_new t o)) (sights rows)
count_news t total rows n are olds begins h = count_from (λ o. not (is_new t o)) 0 rows n h
    (all_map (λ x. is_new t x ≡ false) (λ x. not (is_new t x) ≡ true) (λ x e. ap not e) (take n (sights rows)) (olds_front t rows n olds))
    (all_map (λ x. n ≤ x.place → is_new t x ≡ true) (λ x. 0 + n ≤ x.place → not (is_new t x) ≡ false) (λ x f l. ap not (f (omega arith))) (sights rows) (news_from t total rows n are begins))

-- ---- what is kept and dropped

sorts_front : (t : Terms) (xs : List Sight) → AllByRecursion (λ x. is_new t x ≡ false) xs → Sorts t xs [] []
sorts_front t [] h = (refl, refl)
sorts_front t (x ∷ xs) h = ([], [], inl (h.0, refl, refl), sorts_front t xs h.1)

-- of the old ones none
pub sorts_olds : (t : Terms) (rows : List RowView) (n : ℕ) → AreOld t rows n → Sorts t (take n (sights rows)) [] []
sorts_olds t rows n olds = sorts_front t (take n (sights rows)) (olds_front t rows n olds)

sorts_on : (t : Terms) (xs : List Sight) (o : Sight) (kept dropped k d k' d' : List Sight) → SortsFrom t kept dropped xs k d → SortsNext t k d o k' d'
    → SortsFrom t kept dropped (xs ++ o ∷ []) k' d'
sorts_on t [] o kept dropped k d k' d' s next =
    (k', d', subst (λ (x : List Sight). SortsNext t x dropped o k' d') s.0 (subst (λ (y : List Sight). SortsNext t k y o k' d') s.1 next), (refl, refl))
sorts_on t (x ∷ xs) o kept dropped k d k' d' s next = (s.0, s.1, s.2, sorts_on t xs o s.0 s.1 k d k' d' s.3 next)

-- one observation more
pub sorts_more : (t : Terms) (xs : List Sight) (o : Sight) (k d k' d' : List Sight) → Sorts t xs k d → SortsNext t k d o k' d' → Sorts t (xs ++ o ∷ []) k' d'
sorts_more t xs o k d k' d' s next = sorts_on t xs o [] [] k d k' d' s next
