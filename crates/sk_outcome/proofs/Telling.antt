-- The tick of a time, as the command tells it.
use Rattle.std.proofs.Common.{◌≡◌, ℕ, List, [], ◌∷◌, ◌++◌, Ok, ap, ◌∙◌}
use Rattle.std.specs.Prelude.{ℤ, decimal}
use Rattle.sk_checks.specs.Checks.{NoneRefuses}
use Rattle.sk_decimal.specs.Fixed.{fixed_text}
use Rattle.sk_clock.specs.Clock.{clock_text}
use Rattle.sk_triples.specs.Kernel.{range_checks}
use Rattle.sk_outcome.specs.Files.{KernelRead}
use Rattle.sk_outcome.specs.Output.{line_of}
use Rattle.sk_outcome.specs.Outcome.{told}
use Rattle.sk_outcome.proofs.Converted.{HasTime}

pub three_fields : (none first second text number time : List ℕ) → none ≡ [] → first ≡ none ++ (text ++ 59 ∷ (number ++ 59 ∷ time)) → second ≡ first ++ 10 ∷ []
    → second ≡ (text ++ 59 ∷ (number ++ 59 ∷ time)) ++ 10 ∷ []
three_fields none first second text number time e p q =
    q ∙ ap (λ (xs : List ℕ). xs ++ 10 ∷ []) (p ∙ ap (λ (xs : List ℕ). xs ++ (text ++ 59 ∷ (number ++ 59 ∷ time))) e)

pub line_told : (kernel : KernelRead) (tick : ℕ) (time : ℤ) (line : List ℕ) → NoneRefuses (range_checks kernel.triples tick) → HasTime kernel tick time
    → line ≡ line_of (clock_text kernel.clock tick ∷ decimal tick ∷ fixed_text 12 time ∷ []) → told kernel tick (Ok line)
line_told kernel tick time line none timed is = (
  timed.triple,
  (none, (timed.number, timed.covers)),
  ap Ok (is ∙ ap (λ (t : ℤ). line_of (clock_text kernel.clock tick ∷ decimal tick ∷ fixed_text 12 t ∷ [])) timed.is_time),
)
