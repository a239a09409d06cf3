-- What is noted of a run: the line of its status, and sentences for people behind it.
use Rattle.std.specs.Prelude.{◌≡◌, ◌≢◌, ◌⊎◌, ℕ, false, List, [], ◌++◌}
use Rattle.std.specs.Io.KnownBytes.{Appends}
use Rattle.sk_edge.specs.Transfer.{AppendsProperPrefix}
use Rattle.sk_words.specs.Words.{faults, matches}
use Rattle.sk_status.specs.declared.status.Status.{Status}
use Rattle.sk_status.specs.declared.status.Status.TheVariants.{Done}
use Rattle.sk_status.specs.Notes.{note_line}
use Rattle.sk_status.specs.Written.{Written, IsUntouched}
use Rattle.sk_advice.specs.Sentences.{AreSentences}
use Rattle.sk_advice.specs.Advice.{advice_text, is_not_taken}

-- What may follow the line of a status. Where clap takes the words the sentences are determined, unless memory ran out,
-- and then there are none. Where it does not, only the refusal of the words themselves has some, in clap's words.
pub record IsAdvice (words : List (List ℕ)) (ended : Status) (text : List ℕ) : Type 0 where
  pub are_sentences : AreSentences text
  pub determined : faults words ≡ [] → (text ≡ []) ⊎ (text ≡ advice_text (matches words) ended)
  pub silent : faults words ≢ [] → is_not_taken ended ≡ false → text ≡ []

-- the text was written, or a proper prefix of it where the output failed
abbrev pub IsWritten : Written → List ℕ → Type 0
IsWritten notes text = Appends notes.before notes.after text ⊎ (notes.rose × AppendsProperPrefix notes.before notes.after text)

-- the line of a refusal, and its advice
abbrev pub IsRefusal : List (List ℕ) → Written → Status → Type 0
IsRefusal words notes ended = (advice : List ℕ) × IsAdvice words ended advice × IsWritten notes (note_line ended ++ advice)

-- What is noted: nothing of a run that is done, and else the line of its status with advice behind it.
abbrev pub IsTold : List (List ℕ) → Written → Status → Type 0
IsTold words notes Done = IsUntouched notes
IsTold words notes ended = IsRefusal words notes ended
