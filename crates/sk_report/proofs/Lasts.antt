-- The last place that a segment covers.
use Rattle.std.proofs.Common.{◌≡◌, ℕ, ◌+◌, ◌<◌, ◌≤◌, Bool, true, false, cond, ◌&&◌, not, eqb, ltb, leb, List, [], ◌∷◌, length, Option, None, Some, refl, ap, inl, inr, arith, ◌∙◌}
use Rattle.std.proofs.lemmas.Bool.{cases_lt, le-leb, lt-ltb, leb-true, ltb-true}
use Rattle.std.specs.Prelude.{filter}
use Rattle.std.specs.List.{list_any}
use Rattle.std.specs.Option.{option_map, option_map_or}
use Rattle.sk_publishing.specs.Row.{RowView}
use Rattle.sk_publishing.specs.Terms.{Sight, sights_from}
use Rattle.sk_publishing.specs.Chain.{last_of}
use Rattle.sk_fit.specs.declared.chain.Segment.{Segment}
use Rattle.sk_report.specs.Ends.{leaves}

abbrev sight_of : ℕ → RowView → Sight
sight_of place row = record { place = place; tick = row.tick; time = row.time }

abbrev place_of : Option Sight → Option ℕ
place_of o = option_map (λ s. s.place) o

last_more : (o : Sight) (xs : List Sight) (q : ℕ) → place_of (last_of xs) ≡ Some q → place_of (last_of (o ∷ xs)) ≡ Some q
last_more o [] q e = absurd (let no : None ≡ Some q = e in cc)
last_more o (x ∷ xs) q e = e

module _ (g : ℕ → Bool) where
  abbrev chosen : List Sight → List Sight
  chosen xs = filter (λ o. g o.place) xs

  pub none_left : (n : ℕ) (rows : List RowView) → ((k : ℕ) → n ≤ k → k < n + length rows → g k ≡ false) → chosen (sights_from n rows) ≡ []
  none_left n [] none = refl
  none_left n (row ∷ rows) none =
      ap (λ (b : Bool). cond b (sight_of n row ∷ chosen (sights_from (n + 1) rows)) (chosen (sights_from (n + 1) rows))) (none n (omega arith) (omega arith))
      ∙ none_left (n + 1) rows (λ k from to. none k (omega arith) (omega arith))

  either_way : (b : Bool) (o : Sight) (xs : List Sight) (q : ℕ) → place_of (last_of xs) ≡ Some q → place_of (last_of (cond b (o ∷ xs) xs)) ≡ Some q
  either_way true o xs q e = last_more o xs q e
  either_way false o xs q e = e

  pub last_place : (n : ℕ) (rows : List RowView) (q : ℕ) → n ≤ q → q < n + length rows → g q ≡ true → ((k : ℕ) → q < k → k < n + length rows → g k ≡ false)
      → place_of (last_of (chosen (sights_from n rows))) ≡ Some q
  last_place n [] q from to here none = absurd (omega arith)
  last_place n (row ∷ rows) q from to here none = elim (cases_lt n q) [
    | inl before ↦ either_way (g n) (sight_of n row) (chosen (sights_from (n + 1) rows)) q
        (last_place (n + 1) rows q (omega arith) (omega arith) here (λ k from to. none k from (omega arith)))
    | inr after ↦ (let same : n ≡ q = omega arith in
        let first : g n ≡ true = ap g same ∙ here in
        let rest : chosen (sights_from (n + 1) rows) ≡ [] = none_left (n + 1) rows (λ k from to. none k (omega arith) (omega arith)) in
        ap (λ (b : Bool). place_of (last_of (cond b (sight_of n row ∷ chosen (sights_from (n + 1) rows)) (chosen (sights_from (n + 1) rows))))) first
        ∙ ap (λ (xs : List Sight). place_of (last_of (sight_of n row ∷ xs))) rest ∙ ap (λ (m : ℕ). Some m) same)
  ]

tested : (o : Option Sight) (q place : ℕ) → place_of o ≡ Some q → option_map_or (λ s. eqb s.place place) o false ≡ eqb q place
tested None q place e = absurd (let no : None ≡ Some q = e in cc)
tested (Some s) q place e = let same : s.place ≡ q = cc in ap (λ (n : ℕ). eqb n place) same

-- the places from first to before past that are not listed
abbrev covered : List ℕ → ℕ → ℕ → ℕ → Bool
covered listed first past k = leb first k && (ltb k past && not (list_any (λ d. eqb d k) listed))

not_covered : (listed : List ℕ) (first past k : ℕ) → (first ≤ k → k < past → list_any (λ d. eqb d k) listed ≡ true) → covered listed first past k ≡ false
not_covered listed first past k h = by (leb first k) refl (ltb k past) refl
  where
    by : (a : Bool) → leb first k ≡ a → (b : Bool) → ltb k past ≡ b → (a && (b && not (list_any (λ d. eqb d k) listed))) ≡ false
    by false p b q = refl
    by true p false q = refl
    by true p true q = ap (λ (x : Bool). not x) (h (leb-true first k p) (ltb-true k past q))

is_covered : (listed : List ℕ) (first past k : ℕ) → first ≤ k → k < past → list_any (λ d. eqb d k) listed ≡ false → covered listed first past k ≡ true
is_covered listed first past k from to e =
    ap (λ (a : Bool). a && (ltb k past && not (list_any (λ d. eqb d k) listed))) (le-leb first k from)
    ∙ ap (λ (b : Bool). b && not (list_any (λ d. eqb d k) listed)) (lt-ltb k past to) ∙ ap (λ (x : Bool). not x) e

-- where all from first to before past are listed the end stands nowhere
pub leaves_none : (rows : List RowView) (listed : List ℕ) (s : Segment) (place : ℕ)
    → ((k : ℕ) → s.first ≤ k → k < s.past → list_any (λ d. eqb d k) listed ≡ true) → leaves rows listed place s ≡ false
leaves_none rows listed s place all =
    ap (λ (xs : List Sight). option_map_or (λ o. eqb o.place place) (last_of xs) false)
    (none_left (covered listed s.first s.past) 0 rows (λ k from to. not_covered listed s.first s.past k (all k)))

-- else at the last that is not
pub leaves_at : (rows : List RowView) (listed : List ℕ) (s : Segment) (q place : ℕ) → s.past ≤ length rows → s.first ≤ q → q < s.past
    → list_any (λ d. eqb d q) listed ≡ false → ((k : ℕ) → q < k → k < s.past → list_any (λ d. eqb d k) listed ≡ true) → leaves rows listed place s ≡ eqb q place
leaves_at rows listed s q place long from to here later =
    tested _ q place (last_place (covered listed s.first s.past) 0 rows q (omega arith) (omega arith) (is_covered listed s.first s.past q from to here)
    (λ k behind within. not_covered listed s.first s.past k (λ from to. later k behind to)))
