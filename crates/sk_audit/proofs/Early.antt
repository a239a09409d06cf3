-- Where the first observation is not before the first triple, none is.
use Rattle.std.proofs.Common.{◌≡◌, ◌≢◌, ℕ, zero, suc, ◌+◌, ◌<◌, ◌≤◌, List, [], ◌∷◌, length, slice_index_or, Bool, false, cond, not, refl, sym, ap, ◌∙◌, inl, inr, arith, Option, None, Some}
use Rattle.std.proofs.lemmas.Bool.Decides.{leb_tells}
use Rattle.std.specs.Prelude.{unwrap_or, slice_get}
use Rattle.sk_publishing.specs.Row.{RowView, AreRows}
use Rattle.std.specs.Option.{option_map, is_some}
use Rattle.sk_line.specs.Triple.{TripleView}
use Rattle.sk_line.specs.Line.{covering, covering_from}

abbrev choice : ℕ → TripleView → List TripleView → ℕ → Bool → Option (ℕ × TripleView)
choice n t ts tick b = cond b (Some (unwrap_or (covering_from (n + 1) ts tick) (n, t))) None

none_covers : (n : ℕ) (ts : List TripleView) (a b : ℕ) → a ≤ b → covering_from n ts b ≡ None → covering_from n ts a ≡ None
none_covers n [] a b less none = refl
none_covers n (t ∷ ts) a b less none = elim (leb_tells t.anchor.ticks b) [
  | inl begun ↦ absurd (some (unwrap_or (covering_from (n + 1) ts b) (n, t)) (sym (ap (choice n t ts b) begun.0) ∙ none))
  | inr before ↦ elim (leb_tells t.anchor.ticks a) [
    | inl begun ↦ absurd (let p = before.1 in let q = begun.1 in omega arith)
    | inr still ↦ ap (choice n t ts a) still.0
  ]
]
  where
    some : (x : ℕ × TripleView) → Some x ≡ None → ⊥
    some x e = cc

-- what covers a tick covers a later one
pub covers_later : (triples : List TripleView) (a b : ℕ) → a ≤ b → covering triples b ≡ None → covering triples a ≡ None
covers_later triples a b less none = none_covers 1 triples a b less none

-- none covers a tick exactly where none is found
pub none_found : (found : Option ℕ) (covered : Option (ℕ × TripleView)) (none : Bool) → option_map (λ place. place + 1) found ≡ option_map (λ c. c.0) covered
    → is_some found ≡ not none → none ≡ false → covered ≢ None
none_found None covered none same some e is = cc
none_found (Some place) covered none same some e is = absurd (differ (same ∙ ap (option_map (λ c. c.0)) is))
  where
    differ : Some (place + 1) ≡ None → ⊥
    differ e = cc

-- the first observation is not after any
pub first_is_first : (total : ℕ) (rows : List RowView) (first d : RowView) (k : ℕ) → AreRows total rows → slice_get rows 0 ≡ Some first → k < length rows
    → first.tick ≤ (slice_index_or rows k d).tick
first_is_first total [] first d k are here less = absurd (omega arith)
first_is_first total (r ∷ rows) first d zero are here less = let same : r ≡ first = is here in let t = ap (λ (x : RowView). x.tick) same in omega arith
  where
    is : Some r ≡ Some first → r ≡ first
    is e = cc
first_is_first total (r ∷ rows) first d (suc k) are here less =
    let same : r ≡ first = is here in
    let t = ap (λ (x : RowView). x.tick) same in
    let rises = are.rising 0 (suc k) d (omega arith) less in
    omega arith
  where
    is : Some r ≡ Some first → r ≡ first
    is e = cc
