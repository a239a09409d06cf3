-- The table marks each observation by what became of it.
use Rattle.std.proofs.Common.{◌≡◌, ◌⊎◌, ℕ, zero, suc, ◌+◌, ◌<◌, ◌≤◌, Bool, true, false, cond, if◌then◌else◌, leb, List, [], ◌∷◌, ◌++◌, length, Some, refl, sym, ap, subst, inl, inr, ◌∙◌, arith, append-nil}
use Rattle.std.proofs.lemmas.Bool.Decides.{leb_tells, eqb_tells}
use Rattle.std.proofs.lemmas.List.Sums.{sum_by-cons}
use Rattle.std.specs.Prelude.{◌||◌, ◌==◌, not, nat_lt, nat_le, count_by, map, codes}
use Rattle.std.specs.List.{AllByRecursion, list_any}
use Rattle.sk_clock.specs.Clock.{partition_from}
use Rattle.sk_publishing.specs.Row.{RowView}
use Rattle.sk_publishing.specs.Terms.{Sight, Terms, partition_at, seam, sights, sights_from}
use Rattle.sk_publishing.specs.Chain.{SegmentView}
use Rattle.sk_publishing.specs.Kept.{is_new, SortsNext, SortsFrom, IsPublication}
use Rattle.sk_publishing.specs.Table.{ChainView, kind_text}
use Rattle.sk_publishing.specs.Laws.{SightsRise}
use Rattle.sk_publishing.specs.Told.{told, AreMarked, MarksLaw}
use Rattle.sk_line.proofs.Lists.{all_append, all_map}

-- ---- from a new one on all are new

pub partition_rises : (before : ℕ) (lens : List ℕ) (a b : ℕ) → a ≤ b → partition_from before lens a ≤ partition_from before lens b
partition_rises before [] a b h = omega arith
partition_rises before (len ∷ lens) a b h = elim (leb_tells before a) [
  | inl w ↦ elim (leb_tells before b) [
    | inl v ↦ subst (λ (x : Bool). (if x then 1 + partition_from (before + len) lens a else 0) ≤ (if nat_le before b then 1 + partition_from (before + len) lens b else 0)) (sym w.0)
        (subst (λ (x : Bool). (1 + partition_from (before + len) lens a) ≤ (if x then 1 + partition_from (before + len) lens b else 0)) (sym v.0)
        (let r = partition_rises (before + len) lens a b h in omega arith))
    | inr v ↦ absurd (let p = w.1 in let q = v.1 in omega arith)
  ]
  | inr w ↦ subst (λ (x : Bool). (if x then 1 + partition_from (before + len) lens a else 0) ≤ (if nat_le before b then 1 + partition_from (before + len) lens b else 0)) (sym w.0) (omega arith)
]

pub new_stays : (t : Terms) (a b : Sight) → a.tick ≤ b.tick → is_new t a ≡ true → is_new t b ≡ true
new_stays t a b h e =
    let old : ℕ = partition_at t t.old.anchor.ticks in
    either (nat_lt old (partition_at t a.tick)) (nat_lt (seam t) a.tick) (nat_lt old (partition_at t b.tick)) (nat_lt (seam t) b.tick)
    (further old (partition_at t a.tick) (partition_at t b.tick) (partition_rises 0 t.lengths a.tick b.tick h)) (further (seam t) a.tick b.tick h) e
  where
    further : (m x y : ℕ) → x ≤ y → nat_lt m x ≡ true → nat_lt m y ≡ true
    further m x y h e = elim (leb_tells (suc m) x) [
      | inl v ↦ elim (leb_tells (suc m) y) [ inl w ↦ w.0 | inr w ↦ absurd (let p = v.1 in let q = w.1 in omega arith) ]
      | inr v ↦ absurd (let f : false ≡ true = sym v.0 ∙ e in cc)
    ]

    or_true : (p : Bool) → (p || true) ≡ true
    or_true true = refl
    or_true false = refl

    either : (p q p' q' : Bool) → (p ≡ true → p' ≡ true) → (q ≡ true → q' ≡ true) → (p || q) ≡ true → (p' || q') ≡ true
    either true q p' q' f g h = ap (λ (x : Bool). x || q') (f refl)
    either false q p' q' f g h = ap (λ (x : Bool). p' || x) (g h) ∙ or_true p'

true_or_false : (b : Bool) → (b ≡ true) ⊎ (b ≡ false)
true_or_false true = inl refl
true_or_false false = inr refl

-- ---- how many are old

module _ (t : Terms) where
  abbrev sight : ℕ → RowView → Sight
  sight place row = record { place = place; tick = row.tick; time = row.time }

  abbrev is_old : Sight → Bool
  is_old o = not (is_new t o)

  -- a place below n is that of an old one, and no other
  pub record IsParted (n : ℕ) (o : Sight) : Type 0 where
    pub new : is_new t o ≡ true → n ≤ o.place
    pub old : is_new t o ≡ false → o.place < n

  all_later : (place : ℕ) (rows : List RowView) → AllByRecursion (λ o. place ≤ o.place) (sights_from place rows)
  all_later place [] = tt
  all_later place (row ∷ rows) = (omega arith, all_map (λ o. place + 1 ≤ o.place) (λ o. place ≤ o.place) (λ o h. omega arith) (sights_from (place + 1) rows) (all_later (place + 1) rows))

  none_old : (os : List Sight) → AllByRecursion (λ o. is_new t o ≡ true) os → count_by is_old os ≡ 0
  none_old [] h = refl
  none_old (o ∷ os) h =
      let off : cond {A = ℕ} (is_old o) 1 0 ≡ 0 = ap (λ (b : Bool). cond {A = ℕ} (not b) 1 0) h.0 in
      let rest : count_by is_old os ≡ 0 = none_old os h.1 in
      let sum = sum_by-cons (λ (x : Sight). cond {A = ℕ} (is_old x) 1 0) o os in
      omega arith

  parted : (place n : ℕ) (rows : List RowView) → SightsRise (sights_from place rows) → n ≡ place + count_by is_old (sights_from place rows)
      → AllByRecursion (IsParted n) (sights_from place rows)
  parted place n [] rise e = tt
  parted place n (row ∷ rows) rise e = elim (true_or_false (is_new t (sight place row))) [
    | inl is ↦ all_new is
    | inr is ↦ first_old is (λ (more : n ≡ (place + 1) + count_by is_old (sights_from (place + 1) rows)). parted (place + 1) n rows rise.1 more)
  ]
    where
      all_new : is_new t (sight place row) ≡ true → AllByRecursion (IsParted n) ((sight place row) ∷ (sights_from (place + 1) rows))
      all_new is =
          let news : AllByRecursion (λ x. is_new t x ≡ true) (sights_from (place + 1) rows) = all_map (λ x. (sight place row).tick < x.tick) (λ x. is_new t x ≡ true) (λ x up. new_stays t (sight place row) x (omega arith) is) (sights_from (place + 1) rows) rise.0 in
          let zero_is : count_by is_old ((sight place row) ∷ (sights_from (place + 1) rows)) ≡ 0 = none_old ((sight place row) ∷ (sights_from (place + 1) rows)) (is, news) in
          let at : n ≡ place = omega arith in
          all_map (λ x. (place ≤ x.place) × (is_new t x ≡ true)) (IsParted n)
          (λ x h. record { new = λ _. (let p = h.0 in omega arith); old = λ f. absurd (let g : true ≡ false = sym h.1 ∙ f in cc) })
          ((sight place row) ∷ (sights_from (place + 1) rows)) (both ((sight place row) ∷ (sights_from (place + 1) rows)) (all_later place (row ∷ rows)) (is, news))
        where
          both : (xs : List Sight) → AllByRecursion (λ x. place ≤ x.place) xs → AllByRecursion (λ x. is_new t x ≡ true) xs → AllByRecursion (λ x. (place ≤ x.place) × (is_new t x ≡ true)) xs
          both [] h k = tt
          both (x ∷ xs) h k = ((h.0, k.0), both xs h.1 k.1)

      first_old : is_new t (sight place row) ≡ false
          → (n ≡ (place + 1) + count_by is_old (sights_from (place + 1) rows) → AllByRecursion (IsParted n) (sights_from (place + 1) rows)) → AllByRecursion (IsParted n) ((sight place row) ∷ (sights_from (place + 1) rows))
      first_old is later =
          let on : cond {A = ℕ} (is_old (sight place row)) 1 0 ≡ 1 = ap (λ (b : Bool). cond {A = ℕ} (not b) 1 0) is in
          let sum = sum_by-cons (λ (x : Sight). cond {A = ℕ} (is_old x) 1 0) (sight place row) (sights_from (place + 1) rows) in
          let more : n ≡ (place + 1) + count_by is_old (sights_from (place + 1) rows) = omega arith in
          (record { new = λ f. absurd (let g : true ≡ false = sym f ∙ is in cc); old = λ _. omega arith }, later more)

  -- ---- what is kept and what is dropped

  abbrev is_in : List Sight → ℕ → Bool
  is_in dropped place = list_any (λ d. d == place) (map (λ o. o.place) dropped)

  pub record AreApart (n place : ℕ) (kept dropped : List Sight) : Type 0 where
    pub kept_apart : AllByRecursion (λ o. (n ≤ o.place) × (o.place < place) × (is_in dropped o.place ≡ false)) kept
    pub dropped_late : AllByRecursion (λ o. (n ≤ o.place) × (o.place < place)) dropped

  not_here : (a b : ℕ) → a < b → (a == b) ≡ false
  not_here a b h = elim (eqb_tells a b) [ inl e ↦ absurd (let p = e.1 in omega arith) | inr e ↦ e.0 ]

  here : (a : ℕ) → (a == a) ≡ true
  here a = elim (eqb_tells a a) [ inl e ↦ e.0 | inr e ↦ absurd (e.1 refl) ]

  none_in : (dropped : List Sight) (place : ℕ) → AllByRecursion (λ o. o.place < place) dropped → is_in dropped place ≡ false
  none_in [] place h = refl
  none_in (d ∷ ds) place h = ap (λ (b : Bool). b || is_in ds place) (not_here d.place place h.0) ∙ none_in ds place h.1

  in_append : (ds : List Sight) (d : Sight) (place : ℕ) → is_in ds place ≡ false → (d.place == place) ≡ false → is_in (ds ++ d ∷ []) place ≡ false
  in_append [] d place h k = ap (λ (b : Bool). b || false) k
  in_append (x ∷ ds) d place h k = elim (true_or_false (x.place == place)) [
    | inl e ↦ absurd (let f : true ≡ false = sym (ap (λ (b : Bool). b || is_in ds place) e) ∙ h in cc)
    | inr e ↦ ap (λ (b : Bool). b || is_in (ds ++ d ∷ []) place) e ∙ in_append ds d place (sym (ap (λ (b : Bool). b || is_in ds place) e) ∙ h) k
  ]

  not_there : (a b : ℕ) → a < b → (b == a) ≡ false
  not_there a b h = elim (eqb_tells b a) [ inl e ↦ absurd (let p = e.1 in omega arith) | inr e ↦ e.0 ]

  apart_on : (n place : ℕ) (kept dropped : List Sight) → AreApart n place kept dropped → AreApart n (place + 1) kept dropped
  apart_on n place kept dropped h = record {
    kept_apart = all_map _ _ (λ o k. (k.0, (let p = k.1 in omega arith), k.2)) kept h.kept_apart;
    dropped_late = all_map _ _ (λ o k. (k.0, (let p = k.1 in omega arith))) dropped h.dropped_late;
  }

  apart_next : (n place : ℕ) (kept dropped kept' dropped' : List Sight) (o : Sight) → o.place ≡ place → IsParted n o → AreApart n place kept dropped
      → SortsNext t kept dropped o kept' dropped' → AreApart n (place + 1) kept' dropped'
  apart_next n place kept dropped kept' dropped' o at is h (inl old) =
      subst (λ (k : List Sight). AreApart n (place + 1) k dropped') (sym old.1) (subst (λ (d : List Sight). AreApart n (place + 1) kept d) (sym old.2) (apart_on n place kept dropped h))
  apart_next n place kept dropped kept' dropped' o at is h (inr (inl drops)) =
      let from : n ≤ o.place = is.new drops.0.is_new in
      subst (λ (k : List Sight). AreApart n (place + 1) k dropped') (sym drops.1) (subst (λ (d : List Sight). AreApart n (place + 1) kept d) (sym drops.2) (record {
        kept_apart = all_map (λ x. (n ≤ x.place) × (x.place < place) × (is_in dropped x.place ≡ false)) (λ x. (n ≤ x.place) × (x.place < place + 1) × (is_in (dropped ++ o ∷ []) x.place ≡ false))
            (λ x k. (k.0, (let p = k.1 in omega arith), in_append dropped o x.place k.2 (let p = k.1 in not_there x.place o.place (omega arith)))) kept h.kept_apart;
        dropped_late = all_append _ dropped (o ∷ []) (apart_on n place kept dropped h).dropped_late ((from, omega arith), tt);
      }))
  apart_next n place kept dropped kept' dropped' o at is h (inr (inr keeps)) =
      let from : n ≤ o.place = is.new keeps.0 in
      subst (λ (k : List Sight). AreApart n (place + 1) k dropped') (sym keeps.2) (subst (λ (d : List Sight). AreApart n (place + 1) (kept ++ o ∷ []) d) (sym keeps.3) (record {
        kept_apart = all_append _ kept (o ∷ []) (apart_on n place kept dropped h).kept_apart
            ((from, omega arith, none_in dropped o.place (all_map _ (λ x. x.place < o.place) (λ x k. (let p = k.1 in omega arith)) dropped h.dropped_late)), tt);
        dropped_late = (apart_on n place kept dropped h).dropped_late;
      }))

  apart_all : (n place : ℕ) (rows : List RowView) (kept dropped kept' dropped' : List Sight) → AllByRecursion (IsParted n) (sights_from place rows) → AreApart n place kept dropped
      → SortsFrom t kept dropped (sights_from place rows) kept' dropped' → (last : ℕ) × AreApart n last kept' dropped'
  apart_all n place [] kept dropped kept' dropped' are h s =
      (place, subst (λ (k : List Sight). AreApart n place k dropped') (sym s.0) (subst (λ (d : List Sight). AreApart n place kept d) (sym s.1) h))
  apart_all n place (row ∷ rows) kept dropped kept' dropped' are h s =
      apart_all n (place + 1) rows s.0 s.1 kept' dropped' are.1
      (apart_next n place kept dropped s.0 s.1 (record { place = place; tick = row.tick; time = row.time }) refl are.0 h s.2) s.3

  -- ---- the marks

  each_in : (front xs : List Sight) → AllByRecursion (λ o. is_in (front ++ xs) o.place ≡ true) xs
  each_in front [] = tt
  each_in front (x ∷ xs) = (found front x xs, subst (λ (ys : List Sight). AllByRecursion (λ o. is_in ys o.place ≡ true) xs) (joined front x xs) (each_in (front ++ x ∷ []) xs))
    where
      or_true : (p : Bool) → (p || true) ≡ true
      or_true true = refl
      or_true false = refl

      found : (front : List Sight) (x : Sight) (xs : List Sight) → is_in (front ++ x ∷ xs) x.place ≡ true
      found [] x xs = ap (λ (b : Bool). b || is_in xs x.place) (here x.place)
      found (y ∷ front) x xs = ap (λ (b : Bool). (y.place == x.place) || b) (found front x xs) ∙ or_true (y.place == x.place)

      joined : (front : List Sight) (x : Sight) (xs : List Sight) → (front ++ x ∷ []) ++ xs ≡ front ++ x ∷ xs
      joined [] x xs = refl
      joined (y ∷ front) x xs = ap (λ (zs : List Sight). y ∷ zs) (joined front x xs)

  none_before : (dropped : List Sight) (n place : ℕ) → place < n → AllByRecursion (λ o. n ≤ o.place) dropped → is_in dropped place ≡ false
  none_before [] n place h all = refl
  none_before (d ∷ ds) n place h all = ap (λ (b : Bool). b || is_in ds place) (not_there place d.place (let p = all.0 in omega arith)) ∙ none_before ds n place h all.1

le_true : (a b : ℕ) → a ≤ b → nat_le a b ≡ true
le_true a b h = elim (leb_tells a b) [ inl v ↦ v.0 | inr v ↦ absurd (let p = v.1 in omega arith) ]

le_false : (a b : ℕ) → b < a → nat_le a b ≡ false
le_false a b h = elim (leb_tells a b) [ inl v ↦ absurd (let p = v.1 in omega arith) | inr v ↦ v.0 ]

abbrev pick : Bool → Bool → List ℕ
pick is_dropped is_late = if is_dropped then codes "dropped" else if is_late then codes "new" else codes "old"

pub marks_law : MarksLaw
marks_law t rows dropped chain rise p =
    let n : ℕ = count_by (λ o. not (is_new t o)) (sights rows) in
    let parts : AllByRecursion (IsParted t n) (sights rows) = parted t 0 n rows rise (omega arith) in
    let last = apart_all t n 0 rows [] [] p.kept dropped parts (record { kept_apart = tt; dropped_late = tt }) p.sorts in
    let apart : AreApart t n last.0 p.kept dropped = last.1 in
    record {
      kept_new = all_map _ (λ o. kind_text (Some (told t rows dropped chain)) o.place ≡ codes "new") (λ o h. marked_new o h.2 h.0) p.kept apart.kept_apart;
      dropped_so = all_map (λ o. is_in t dropped o.place ≡ true) (λ o. kind_text (Some (told t rows dropped chain)) o.place ≡ codes "dropped") (λ o h. marked_dropped o h) dropped (each_in t [] dropped);
      others_old = all_map (IsParted t n) (λ o. is_new t o ≡ false → kind_text (Some (told t rows dropped chain)) o.place ≡ codes "old")
          (λ o is f. marked_old o (none_before t dropped n o.place (is.old f) (all_map _ (λ d. n ≤ d.place) (λ d k. k.0) dropped apart.dropped_late)) (is.old f)) (sights rows) parts;
    }
  where
    marked_dropped : (o : Sight) → is_in t dropped o.place ≡ true → kind_text (Some (told t rows dropped chain)) o.place ≡ codes "dropped"
    marked_dropped o h = ap (λ (b : Bool). pick b (nat_le (told t rows dropped chain).first_new o.place)) h

    marked_new : (o : Sight) → is_in t dropped o.place ≡ false → (told t rows dropped chain).first_new ≤ o.place → kind_text (Some (told t rows dropped chain)) o.place ≡ codes "new"
    marked_new o h from = ap (λ (b : Bool). pick b (nat_le (told t rows dropped chain).first_new o.place)) h ∙ ap (λ (b : Bool). pick false b) (le_true (told t rows dropped chain).first_new o.place from)

    marked_old : (o : Sight) → is_in t dropped o.place ≡ false → o.place < (told t rows dropped chain).first_new → kind_text (Some (told t rows dropped chain)) o.place ≡ codes "old"
    marked_old o h to = ap (λ (b : Bool). pick b (nat_le (told t rows dropped chain).first_new o.place)) h ∙ ap (λ (b : Bool). pick false b) (le_false (told t rows dropped chain).first_new o.place to)
