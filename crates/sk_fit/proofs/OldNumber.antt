-- The old observations stand before all new ones.
use Rattle.std.proofs.Common.{◌≡◌, ℕ, zero, suc, ◌+◌, ◌≤◌, Bool, true, false, List, length, Some, refl, sym, ap, subst, inl, inr, ◌∙◌, arith}
use Rattle.std.proofs.lemmas.Bool.{cases_lt}
use Rattle.std.proofs.lemmas.Option.{slice_get_cases, same_Some}
use Rattle.std.specs.Prelude.{slice_get}
use Rattle.sk_publishing.specs.Row.{RowView, AreRows}
use Rattle.sk_publishing.specs.Terms.{Terms, sights}
use Rattle.sk_publishing.specs.Kept.{is_new}
use Rattle.sk_fit.specs.Given.{sight_at}
use Rattle.sk_fit.specs.State.{old_number}
use Rattle.sk_fit.proofs.Observed.{AreOld, BeginsNew, count_news}

-- where new ones begin
record Boundary (t : Terms) (rows : List RowView) : Type 0 where
  pub place : ℕ
  pub within : place ≤ length rows
  pub olds : AreOld t rows place
  pub begins : BeginsNew t rows place

module _ (t : Terms) (rows : List RowView) where
  one_more : (m : ℕ) (row : RowView) → slice_get rows m ≡ Some row → is_new t (sight_at m row) ≡ false → AreOld t rows m → AreOld t rows (suc m)
  one_more m row here old olds k other less there = elim (cases_lt k m) [
    | inl h ↦ olds k other h there
    | inr h ↦ at_m (let e : k ≡ m = omega arith in e)
  ]
    where
      at_m : k ≡ m → is_new t (sight_at k other) ≡ false
      at_m e =
          let same : other ≡ row = same_Some other row (sym there ∙ ap (slice_get rows) e ∙ here) in
          subst (λ (j : ℕ). is_new t (sight_at j other) ≡ false) (sym e) (subst (λ (r : RowView). is_new t (sight_at m r) ≡ false) (sym same) old)

  scan : (left m : ℕ) → m + left ≡ length rows → AreOld t rows m → Boundary t rows
  scan zero m e olds = record { place = m; within = omega arith; olds = olds; begins = inl (omega arith) }
  scan (suc left) m e olds = elim (slice_get_cases rows m).1 [
    | inl w ↦ test w.0 w.2 (λ old. scan left (suc m) (omega arith) (one_more m w.0 w.2 old olds)) (is_new t (sight_at m w.0)) refl
    | inr w ↦ absurd (let l = w.0 in omega arith)
  ]
    where
      test : (row : RowView) → slice_get rows m ≡ Some row → (is_new t (sight_at m row) ≡ false → Boundary t rows) → (b : Bool) → is_new t (sight_at m row) ≡ b → Boundary t rows
      test row here next true new = record {
        place = m;
        within = omega arith;
        olds = olds;
        begins = inr (λ other there. subst (λ (r : RowView). is_new t (sight_at m r) ≡ true) (same_Some row other (sym here ∙ there)) new);
      }
      test row here next false old = next old

  boundary : Boundary t rows
  boundary = scan (length rows) 0 (omega arith) (λ k row less there. absurd (omega arith))

-- there are no more old ones than observations
pub olds_within : (t : Terms) (most : ℕ) (rows : List RowView) → AreRows most rows → old_number t (sights rows) ≤ length rows
olds_within t most rows are =
    let b = boundary t rows in
    let e : b.place ≡ old_number t (sights rows) = count_news t most rows b.place are b.olds b.begins b.within in
    let l = b.within in omega arith

-- and none stands after a new one
pub olds_before : (t : Terms) (most : ℕ) (rows : List RowView) (k : ℕ) (row : RowView) → AreRows most rows → slice_get rows k ≡ Some row
    → is_new t (sight_at k row) ≡ true → old_number t (sights rows) ≤ k
olds_before t most rows k row are here new =
    let b = boundary t rows in
    let e : b.place ≡ old_number t (sights rows) = count_news t most rows b.place are b.olds b.begins b.within in
    elim (cases_lt k b.place) [
      | inl h ↦ absurd (let f : false ≡ true = sym (b.olds k row h here) ∙ new in cc)
      | inr h ↦ omega arith
    ]
