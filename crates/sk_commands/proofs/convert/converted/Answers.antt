use Rattle.std.proofs.Common.{◌≡◌, ℕ, List, [], ◌∷◌, Ok, ap, subst, ◌∙◌}
use Rattle.std.specs.Prelude.{decimal, string_bytes}
use Rattle.sk_decimal.specs.Fixed.{fixed_text}
use Rattle.sk_clock.specs.Clock.{clock_text}
use Rattle.sk_outcome.specs.Files.{KernelRead}
use Rattle.sk_outcome.specs.Output.{line_of}
use Rattle.sk_outcome.specs.Outcome.{converted}
use Rattle.sk_outcome.proofs.Converted.{timed_by, line_converted}
use Rattle.sk_commands.proofs.convert.converted.Goals as goal

pub returns : goal.returns
returns c =
    let inside : KernelRead = record { doc = c.kernel.inside.doc; clock = c.kernel.inside.clock; triples = c.kernel.inside.triples } in
    let time = c.in-Ok.timed.time.units in
    let text = clock_text inside.clock c.args.tick in
    let line : c.in-Ok-line_of.line.items ≡ line_of (text ∷ decimal c.args.tick ∷ fixed_text 12 time ∷ string_bytes c.in-Ok-utc_word.utc ∷ []) = c.in-Ok-line_of.ensures
    ∙ ap (λ (utc : List ℕ). line_of (text ∷ decimal c.args.tick ∷ fixed_text 12 time ∷ utc ∷ [])) c.as_str.ensures.value in
    subst (λ (k : KernelRead). converted c.args.leap.now k c.args.tick (Ok c.in-Ok-line_of.line.items)) c.kernel.view_is
    (line_converted c.args.leap.now inside c.args.tick time (string_bytes c.in-Ok-utc_word.utc) c.in-Ok-line_of.line.items
    c.in-Ok.ensures.timed.0 (timed_by inside c.args.tick c.in-Ok.timed c.kernel.invariant c.in-Ok.ensures.timed.1) c.in-Ok-utc_word.ensures line)
