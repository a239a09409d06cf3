-- The triples that cover two ticks.
use Rattle.std.proofs.Common.{◌≡◌, ℕ, ◌+◌, ◌<◌, ◌≤◌, true, leb, List, [], ◌∷◌, length, Option, Some, None, refl, sym, ap, inl, inr, arith, ◌∙◌}
use Rattle.std.proofs.lemmas.Bool.{cases_Bool, leb-true, le-leb}
use Rattle.std.proofs.lemmas.Option.{none-some, same_Some}
use Rattle.std.specs.Prelude.{unwrap_or}
use Rattle.std.specs.Option.{option_map}
use Rattle.sk_line.specs.Triple.{TripleView}
use Rattle.sk_line.specs.Line.{covering_from}

-- the number is one of the list's
pub numbered : (n : ℕ) (ts : List TripleView) (tick : ℕ) (f : ℕ × TripleView) → covering_from n ts tick ≡ Some f → (n ≤ f.0) × (f.0 < n + length ts)
numbered n [] tick f e = absurd (none-some f e)
numbered n (t ∷ ts) tick f e = elim (cases_Bool (leb t.anchor.ticks tick)) [
  | inl begun ↦
      let here : Some (unwrap_or (covering_from (n + 1) ts tick) (n, t)) ≡ Some f = rw begun at e in
      within (λ g at. numbered (n + 1) ts tick g at) (covering_from (n + 1) ts tick) refl (same_Some (unwrap_or (covering_from (n + 1) ts tick) (n, t)) f here)
  | inr not ↦ let no : ◌≡◌ {A = Option (ℕ × TripleView)} None (Some f) = rw not at e in absurd (none-some f no)
]
  where
    within : ((g : ℕ × TripleView) → covering_from (n + 1) ts tick ≡ Some g → (n + 1 ≤ g.0) × (g.0 < n + 1 + length ts))
        → (o : Option (ℕ × TripleView)) → covering_from (n + 1) ts tick ≡ o → unwrap_or o (n, t) ≡ f → (n ≤ f.0) × (f.0 < n + length (t ∷ ts))
    within rest None at is = let same : n ≡ f.0 = ap (λ p. p.0) is in (omega arith, omega arith)
    within rest (Some g) at is =
        let same : g.0 ≡ f.0 = ap (λ p. p.0) is in
        let below = rest g at in
        (omega (arith, below.0, same), omega (arith, below.1, same))

-- a later tick is covered by the same triple or a later one
pub later : (n : ℕ) (ts : List TripleView) (from to : ℕ) (f : ℕ × TripleView) → from ≤ to → covering_from n ts from ≡ Some f
    → (l : ℕ × TripleView) × (covering_from n ts to ≡ Some l) × (f.0 ≤ l.0)
later n [] from to f up e = absurd (none-some f e)
later n (t ∷ ts) from to f up e = elim (cases_Bool (leb t.anchor.ticks from)) [
  | inl begun ↦
      let here : Some (unwrap_or (covering_from (n + 1) ts from) (n, t)) ≡ Some f = rw begun at e in
      let low : t.anchor.ticks ≤ from = leb-true t.anchor.ticks from begun in
      let too : leb t.anchor.ticks to ≡ true = le-leb t.anchor.ticks to (omega arith) in
      let l = unwrap_or (covering_from (n + 1) ts to) (n, t) in (
        l,
        rw too refl,
        behind (λ g at. later (n + 1) ts from to g up at) (covering_from (n + 1) ts from) (covering_from (n + 1) ts to) refl refl (same_Some (unwrap_or (covering_from (n + 1) ts from) (n, t)) f here),
      )
  | inr not ↦ let no : ◌≡◌ {A = Option (ℕ × TripleView)} None (Some f) = rw not at e in absurd (none-some f no)
]
  where
    behind : ((g : ℕ × TripleView) → covering_from (n + 1) ts from ≡ Some g → (l : ℕ × TripleView) × (covering_from (n + 1) ts to ≡ Some l) × (g.0 ≤ l.0))
        → (o p : Option (ℕ × TripleView)) → covering_from (n + 1) ts from ≡ o → covering_from (n + 1) ts to ≡ p → unwrap_or o (n, t) ≡ f → f.0 ≤ (unwrap_or p (n, t)).0
    behind rest None None at to_at is = let same : n ≡ f.0 = ap (λ q. q.0) is in omega arith
    behind rest None (Some l) at to_at is =
        let same : n ≡ f.0 = ap (λ q. q.0) is in
        let low = numbered (n + 1) ts to l to_at in
        omega (arith, low.0, same)
    behind rest (Some g) None at to_at is = let some = rest g at in absurd (none-some some.0 (sym to_at ∙ some.1))
    behind rest (Some g) (Some l) at to_at is =
        let same : g.0 ≡ f.0 = ap (λ q. q.0) is in
        let some = rest g at in
        let one : some.0 ≡ l = same_Some some.0 l (sym some.1 ∙ to_at) in
        let number : some.0.0 ≡ l.0 = ap (λ q. q.0) one in
        omega (arith, some.2, same, number)

-- ---- what the places say

pub found_at : (place : ℕ) (o : Option (ℕ × TripleView)) → Some (place + 1) ≡ option_map (λ found. found.0) o → (t : TripleView) × (o ≡ Some (place + 1, t))
found_at place None e = absurd (none-some (place + 1) (sym e))
found_at place (Some f) e = (f.1, ap (λ (n : ℕ). Some (n, f.1)) (sym (same_Some (place + 1) f.0 e)))

pub nothing_at : (o : Option (ℕ × TripleView)) → None ≡ option_map (λ found. found.0) o → o ≡ None
nothing_at None e = refl
nothing_at (Some f) e = absurd (none-some f.0 e)
