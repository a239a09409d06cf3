-- What is asked before the first new triple.
use Rattle.std.proofs.Common.{◌≡◌, ◌≢◌, ◌⊎◌, ℕ, ◌+◌, ◌-◌, ◌<◌, List, [], ◌∷◌, ◌++◌, length, take, sym, ap, subst, ◌∙◌, arith, get_or}
use Rattle.std.proofs.lemmas.List.{take_more, take_all}
use Rattle.std.specs.Prelude.{ℤ, unwrap_or}
use Rattle.std.specs.List.{AllByRecursion}
use Rattle.sk_publishing.specs.Row.{RowView}
use Rattle.sk_clock.specs.Clock.{ClockView, total, partition_at}
use Rattle.sk_line.specs.Triple.{TripleView}
use Rattle.sk_line.specs.Line.{FallsOver}
use Rattle.sk_triples.specs.Kernel.{TriplesView, IsTriple}
use Rattle.sk_publishing.specs.Input.{IsBadHold}
use Rattle.sk_line.proofs.Lists.{all_back}
use Rattle.sk_audit.specs.declared.settings.AuditSettings.{AuditSettings}
use Rattle.sk_audit.specs.Audit.{input_of}

-- the last of some triples stands last
pub last_place : (ts : List TripleView) (old : TripleView) → 0 < length ts → old ≡ get_or ts (length ts - 1) old
    → (front : List TripleView) × (ts ≡ front ++ old ∷ [])
last_place ts old some e =
    let i : ℕ = length ts - 1 in
    (take i ts, sym (take_all (i + 1) ts (omega arith)) ∙ take_more ts i old (omega arith) ∙ ap (λ (x : TripleView). take i ts ++ x ∷ []) (sym e))

pub last_triple : (most : ℕ) (ts : List TripleView) (old : TripleView) (front : List TripleView) → ts ≡ front ++ old ∷ []
    → AllByRecursion (IsTriple most) ts → IsTriple most old
last_triple most ts old front e h = (all_back (IsTriple most) front (old ∷ []) (subst (AllByRecursion (IsTriple most)) e h)).0

module _ (triples : TriplesView) (clock : ClockView) (rows : List RowView) (settings : AuditSettings) (old : TripleView) (hold : ℕ)
    (is_hold : hold ≡ unwrap_or settings.hold old.anchor.ticks) where
  abbrev pub IsBadAt : ℕ → Type 0
  IsBadAt h = (h < old.anchor.ticks) ⊎ (total clock < h) ⊎ (partition_at clock h ≢ partition_at clock old.anchor.ticks)

  pub bad_hold : IsBadAt hold → IsBadHold (input_of triples clock rows settings) old
  bad_hold h = subst IsBadAt is_hold h

  pub good_hold : ¬ IsBadAt hold → ¬ IsBadHold (input_of triples clock rows settings) old
  good_hold n h = n (subst IsBadAt (sym is_hold) h)

-- falls over ticks per count, of the kernel's triples or of the clock
pub same_falls : (per_count per_count' : ℕ) (ts : List TripleView) (slip : ℤ) → per_count ≡ per_count' → ((i : ℕ) → ¬ FallsOver per_count ts slip i)
    → (i : ℕ) → ¬ FallsOver per_count' ts slip i
same_falls per_count per_count' ts slip e = subst (λ (p : ℕ). (i : ℕ) → ¬ FallsOver p ts slip i) e
