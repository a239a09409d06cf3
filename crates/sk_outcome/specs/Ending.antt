-- What a run has written when it ends, and how it ends.
use Rattle.std.specs.Prelude.{◌≡◌, ◌⊎◌, ℕ, List, Result, Ok, Err}
use Rattle.std.specs.Io.KnownBytes.{Appends}
use Rattle.sk_edge.specs.Transfer.{AppendsProperPrefix}
use Rattle.sk_status.specs.declared.status.Status.{Status}
use Rattle.sk_status.specs.declared.status.Status.TheVariants.{Done, WriteFault, NoMemory}
use Rattle.sk_outcome.specs.Stage.{Stage}
use Rattle.sk_status.specs.Written.{Written, IsUntouched}

-- The text was written, or a proper prefix of it where the output failed, or there is none: the run was refused.
abbrev pub Ends : Stage (List ℕ) → Written → Status → Type 0
Ends outcome out Done = (text : List ℕ) × outcome (Ok text) × Appends out.before out.after text
Ends outcome out WriteFault = out.rose × ((text : List ℕ) × outcome (Ok text) × AppendsProperPrefix out.before out.after text)
Ends outcome out NoMemory = IsUntouched out
Ends outcome out status = outcome (Err status) × IsUntouched out

-- the run has ended as its files and words say
abbrev pub HasEnded : Result (List ℕ) Status → Written → Status → Type 0
HasEnded (Ok text) out status = (status ≡ Done) × Appends out.before out.after text
HasEnded (Err expected) out status = (status ≡ expected) × IsUntouched out
