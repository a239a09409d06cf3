-- What the stages of a run refuse is no end of a run that wrote.
use Rattle.std.proofs.Common.{◌≡◌, ℕ, List, Option, Some, None, Result, Ok, Err, ◌∷◌, sym, subst, inl, inr}
use Rattle.std.specs.Prelude.{codes}
use Rattle.sk_status.specs.declared.status.Status.{Status}
use Rattle.sk_status.specs.declared.status.Status.TheVariants.{Done, WriteFault, NoMemory}
use Rattle.sk_words.specs.declared.topic.Topic.{Topic}
use Rattle.sk_words.specs.Topics.{topic_of}
use Rattle.sk_outcome.specs.Stage.{Stage, MayAnswer, gives}
use Rattle.sk_outcome.specs.Seen.{Source}
use Rattle.sk_outcome.specs.Outcome.{commanded, told_or, outcome}
use Rattle.sk_outcome.specs.Ending.{Ends}
use Rattle.sk_status.specs.Written.{Written, IsUntouched}
use Rattle.sk_status.specs.Notes.{CarriesNoMemory}
use Rattle.station.proofs.Refusals.{Wrote, always_command}

-- the end of a run that was refused: nothing was written, and want of memory is not the reason
abbrev Ended : Status → Type 0
Ended status = (Wrote status → ⊥) × CarriesNoMemory status

commanded_ended : (words : List (List ℕ)) (source : Source) (status : Status) → commanded words source (Err status) → Ended status
commanded_ended words source status (inl h) = subst Ended (sym h.2) (λ w. w, tt)
commanded_ended words source status (inr h) = let s = always_command h.0.command source h.0.options status h.2 in (s.0, s.1)

told_ended : (topic : Option Topic) (next : Stage (List ℕ)) (status : Status) → (next (Err status) → Ended status) → told_or topic next (Err status) → Ended status
told_ended (Some topic) next status f h = cc
told_ended None next status f h = f h

always_outcome : (words : List (List ℕ)) (source : Source) (status : Status) → outcome words source (Err status) → Ended status
always_outcome words source status h =
    told_ended (topic_of (codes "station" ∷ words)) (commanded (codes "station" ∷ words) source) status (commanded_ended (codes "station" ∷ words) source status) h

-- a run that wrote the text of its stage
pub ends_text : (stage : Stage (List ℕ)) (text : List ℕ) (out : Written) (status : Status) → stage (Ok text) → Ends (gives text) out status → Ends stage out status
ends_text stage text out Done h e = (e.0, subst stage (sym e.1) h, e.2)
ends_text stage text out WriteFault h e = (e.0, (e.1.0, subst stage (sym e.1.1) h, e.1.2))
ends_text stage text out NoMemory h e = e
ends_text stage text out status h e = absurd (no_error status text e.0)
  where
    no_error : (s : Status) (t : List ℕ) → ◌≡◌ {A = Result (List ℕ) Status} (Err s) (Ok t) → ⊥
    no_error s t k = cc

-- a run that was refused, and wrote nothing
pub ends_refused : {X : Type 0} (view : X → List ℕ) (words : List (List ℕ)) (source : Source) (out : Written) (status : Status)
    → MayAnswer view (outcome words source) (Err status) → IsUntouched out → Ends (outcome words source) out status
ends_refused view words source out Done h u = absurd ((always_outcome words source Done h).0 tt)
ends_refused view words source out WriteFault h u = absurd ((always_outcome words source WriteFault h).0 tt)
ends_refused view words source out NoMemory h u = u
ends_refused view words source out _ h u = (h, u)

pub no_memory_carried : {X : Type 0} (view : X → List ℕ) (words : List (List ℕ)) (source : Source) (status : Status)
    → MayAnswer view (outcome words source) (Err status) → CarriesNoMemory status
no_memory_carried view words source NoMemory h = tt
no_memory_carried view words source _ h = (always_outcome words source _ h).1
