-- What a run has written or noted when it ends.
use Rattle.std.specs.Prelude.{◌≡◌, ◌⊎◌, ℕ, List, Option}
use Rattle.std.specs.Io.KnownBytes.{Appends}
use Rattle.sk_edge.specs.Causes.{Rose}
use Rattle.sk_edge.specs.Transfer.{AppendsProperPrefix}
use Rattle.sk_status.specs.declared.status.Status.{Status}
use Rattle.sk_status.specs.declared.status.Status.TheVariants.{Done}
use Rattle.sk_status.specs.Notes.{note_line}

-- an output before and after the run, and whether its count of faults rose
pub record Written : Type 1 where
  pub before : Option (List ℕ)
  pub after : Option (List ℕ)
  pub rose : Type 0

-- what a sink tells of the time between two states of it
abbrev pub written_by : {S : Type 0} → (S → Option (List ℕ)) → (S → ℕ) → S → S → Written
written_by written faults old new = record { before = written old; after = written new; rose = Rose (faults old) (faults new) }

-- nothing was written
abbrev pub IsUntouched : Written → Type 0
IsUntouched out = out.after ≡ out.before

-- what is noted
abbrev pub IsNoted : Written → Status → Type 0
IsNoted notes Done = IsUntouched notes
IsNoted notes status = Appends notes.before notes.after (note_line status)
    ⊎ (notes.rose × AppendsProperPrefix notes.before notes.after (note_line status))
