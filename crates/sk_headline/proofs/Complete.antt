-- Where nothing fails and the files are known, a run comes to one end.
use Rattle.std.proofs.Common.{◌≡◌, ℕ, List, ◌∷◌, Option, Result, Ok, Err, refl, subst, ◌⊎◌, inl, inr}
use Rattle.std.specs.Prelude.{All, IsSome, codes}
use Rattle.sk_words.specs.Request.{files_of}
use Rattle.sk_words.specs.Asked.{Request, WordsAsk}
use Rattle.sk_words.proofs.Needed.{are_named}
use Rattle.sk_status.specs.declared.status.Status.{Status}
use Rattle.sk_status.specs.declared.status.Status.TheVariants.{Done, WordsRefused, WriteFault, NoMemory}
use Rattle.sk_status.specs.Written.{Written}
use Rattle.sk_words.specs.declared.topic.Topic.{Topic}
use Rattle.sk_words.proofs.Apart.{no_topic}
use Rattle.sk_outcome.specs.Stage.{Stage, IsDetermined}
use Rattle.sk_outcome.specs.Seen.{Source}
use Rattle.sk_outcome.specs.Outcome.{requested, commanded, told_or, outcome, outcome_of}
use Rattle.sk_outcome.specs.Ending.{Ends, HasEnded}
use Rattle.sk_headline.proofs.Determined.{judged_determined}
use Rattle.sk_headline.proofs.OneAnswer.{words_one}
use Rattle.sk_outcome.proofs.Moves.{Moves, follows_moved}
use Rattle.sk_outcome.proofs.Follows.{outcome_follows}
use Rattle.sk_headline.proofs.Commands.{IsCalm, command_determined, have_bytes}

pub requested_determined : (words : List (List ℕ)) → IsDetermined (requested words)
requested_determined words = judged_determined (WordsAsk words) WordsRefused (words_one words)

-- the words ask for this, and the run goes on with it alone
commanded_for : (words : List (List ℕ)) (request : Request) (source : Source) (r : Result (List ℕ) Status) → requested words (Ok request) → commanded words source r
    → outcome_of request.command source request.options r
commanded_for words request source (Ok text) asked h =
    let same : ◌≡◌ {A = Result Request Status} (Ok h.0) (Ok request) = requested_determined words (Ok h.0) (Ok request) h.1 asked in
    let is : h.0 ≡ request = cc in
    subst (λ (q : Request). outcome_of q.command source q.options (Ok text)) is h.2
commanded_for words request source (Err s) asked (inl h) =
    let same : ◌≡◌ {A = Result Request Status} (Err s) (Ok request) = requested_determined words (Err s) (Ok request) h asked in cc
commanded_for words request source (Err s) asked (inr h) =
    let same : ◌≡◌ {A = Result Request Status} (Ok h.0) (Ok request) = requested_determined words (Ok h.0) (Ok request) h.1 asked in
    let is : h.0 ≡ request = cc in
    subst (λ (q : Request). outcome_of q.command source q.options (Err s)) is h.2

pub asked_for : (words : List (List ℕ)) (request : Request) (source : Source) (r : Result (List ℕ) Status) → requested (codes "station" ∷ words) (Ok request) → outcome words source r
    → outcome_of request.command source request.options r
asked_for words request source r asked h =
    commanded_for (codes "station" ∷ words) request source r asked
    (subst (λ (topic : Option Topic). told_or topic (commanded (codes "station" ∷ words) source) r) (no_topic (codes "station" ∷ words) request asked) h)

outcome_determined : (words : List (List ℕ)) (request : Request) (source : Source) → IsCalm source → requested (codes "station" ∷ words) (Ok request)
    → All (λ name. IsSome (source.holds name)) (files_of request.options) → IsDetermined (outcome words source)
outcome_determined words request source calm asked known a b h k =
    command_determined request.command source request.options calm (are_named (codes "station" ∷ words) request asked) (have_bytes source request.options known) a b
    (asked_for words request source a asked h) (asked_for words request source b asked k)

ended_so : (out : Written) (status : Status) (stage : Stage (List ℕ)) (ended : Result (List ℕ) Status) → (¬ out.rose) → IsDetermined stage → Ends stage out status → stage ended
    → HasEnded ended out status ⊎ (status ≡ NoMemory)
ended_so out Done stage ended calm one h k = inl (subst (λ (r : Result (List ℕ) Status). HasEnded r out Done) (one (Ok h.0) ended h.1 k) (refl, h.2))
ended_so out WriteFault stage ended calm one h k = absurd (calm h.0)
ended_so out NoMemory stage ended calm one h k = inr refl
ended_so out status stage ended calm one h k = inl (subst (λ (r : Result (List ℕ) Status). HasEnded r out status) (one (Err status) ended h.0 k) (refl, h.1))

-- a run over a source of which no count rose, and an end of the same files
pub completed : (words : List (List ℕ)) (request : Request) (source quiet : Source) (out : Written) (status : Status) (ended : Result (List ℕ) Status) → Moves quiet source → IsCalm source
    → (¬ out.rose) → requested (codes "station" ∷ words) (Ok request) → All (λ name. IsSome (source.holds name)) (files_of request.options)
    → Ends (outcome words source) out status → outcome words quiet ended → HasEnded ended out status ⊎ (status ≡ NoMemory)
completed words request source quiet out status ended m calm quiet_out asked known h k =
    ended_so out status (outcome words source) ended quiet_out (outcome_determined words request source calm asked known) h (follows_moved (outcome words) quiet source (outcome_follows words) m ended k)
