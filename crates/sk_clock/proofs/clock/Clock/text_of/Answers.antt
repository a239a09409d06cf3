use Rattle.std.proofs.Common.{◌≡◌, ℕ, List, [], sym, subst, ◌≤◌, arith}
use Rattle.std.specs.String.{string_bytes}
use Rattle.sk_checks.specs.Checks.{NoneRefuses}
use Rattle.sk_clock.specs.Clock.{clock_text, total}
use Rattle.sk_clock.specs.ClockText.{StandsFor, text_checks}
use Rattle.sk_clock.proofs.ReadBackLemmas.{canonical_reads}
use Rattle.sk_clock.proofs.clock.Clock.text_of.Goals as goal

pub returns-in-Ok-push_text-clause-read : goal.returns-in-Ok-push_text-clause-read
returns-in-Ok-push_text-clause-read c =
    let clock = c.args.self.now in
    let tick = c.args.tick in
    let up : tick ≤ total clock = omega (arith, c.in-Ok-push_text.ensures.answer.0.0) in
    let empty : string_bytes c.in-Ok.text ≡ [] = c.in-Ok.ensures.bytes in
    let bytes : string_bytes c.push_text.new.text ≡ clock_text clock tick = rw empty at c.in-Ok-push_text.ensures.answer.1 in
    subst (λ (text : List ℕ). NoneRefuses (text_checks clock text) × StandsFor clock text tick) (sym bytes) (canonical_reads clock tick c.in-Ok-push_text.ensures.clock up)
