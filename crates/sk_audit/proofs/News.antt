-- Which observations are new, by their ticks.
use Rattle.std.proofs.Common.{◌≡◌, ℕ, ◌+◌, List, true, false, sym, ap, subst, inl, inr, ◌∙◌, arith}
use Rattle.std.proofs.lemmas.Bool.Decides.{eqb_tells}
use Rattle.std.specs.Prelude.{Some, slice_get}
use Rattle.sk_publishing.specs.Row.{RowView}
use Rattle.sk_clock.specs.Clock.{ClockView}
use Rattle.sk_line.specs.Triple.{TripleView}
use Rattle.sk_publishing.specs.Terms.{seam}
use Rattle.sk_audit.specs.declared.settings.AuditSettings.{AuditSettings}
use Rattle.sk_audit.specs.Given.{terms_of}
use Rattle.sk_audit.specs.Walked.{is_new_tick, AreOldTicks, IsNewTick}
use Rattle.sk_audit.proofs.Observed.{AreOld, BeginsNew}

pub old_more : (clock : ClockView) (last left : ℕ) (rows : List RowView) (n : ℕ) (row : RowView) → AreOldTicks clock last left rows n
    → slice_get rows n ≡ Some row → is_new_tick clock last left row.tick ≡ false → AreOldTicks clock last left rows (n + 1)
old_more clock last left rows n row olds here old k r less at = elim (eqb_tells k n) [
  | inl w ↦ (let same : r ≡ row = one (sym at ∙ ap (slice_get rows) w.1 ∙ here) in subst (λ (x : RowView). is_new_tick clock last left x.tick ≡ false) (sym same) old)
  | inr w ↦ olds k r (let ne = w.1 in omega arith) at
]
  where
    one : Some r ≡ Some row → r ≡ row
    one e = cc

-- the same of the terms of a publication
pub olds_of : (settings : AuditSettings) (clock : ClockView) (old : TripleView) (left : ℕ) (rows : List RowView) (n : ℕ) → left ≡ seam (terms_of settings clock old)
    → AreOldTicks clock old.anchor.ticks left rows n → AreOld (terms_of settings clock old) rows n
olds_of settings clock old left rows n e olds k row less here =
    subst (λ (s : ℕ). is_new_tick clock old.anchor.ticks s row.tick ≡ false) e (olds k row less here)

pub news_of : (settings : AuditSettings) (clock : ClockView) (old : TripleView) (left : ℕ) (rows : List RowView) (n : ℕ) → left ≡ seam (terms_of settings clock old)
    → IsNewTick clock old.anchor.ticks left rows n → BeginsNew (terms_of settings clock old) rows n
news_of settings clock old left rows n e new =
    inr (λ row here. subst (λ (s : ℕ). is_new_tick clock old.anchor.ticks s row.tick ≡ true) e (new row here))
