use Rattle.std.proofs.Common.{ℕ, List, [], ◌∷◌, ap, ◌∙◌}
use Rattle.std.specs.Prelude.{decimal}
use Rattle.sk_decimal.specs.Fixed.{fixed_text}
use Rattle.sk_clock.specs.Clock.{clock_text}
use Rattle.sk_outcome.specs.Output.{line_of}
use Rattle.sk_outcome.proofs.Converted.{four_fields}
use Rattle.sk_commands.proofs.convert.line_of.Goals as goal

pub returns : goal.returns
returns c =
    four_fields c.new-line.result.items c.push_tick.new.out.items c.push.new.self.items c.extend_from_slice.new.self.items c.push-2.new.self.items
    c.as_str.result.now (decimal c.args.tick) (fixed_text 12 c.args.time.units) c.as_bytes.result.now
    c.new-line.ensures.items c.in_ok-push_tick.ensures c.in_ok-push.ensures.items c.in_ok-extend_from_slice.ensures.items c.in_ok-push-2.ensures.items
    ∙ ap (λ (text : List ℕ). line_of (text ∷ decimal c.args.tick ∷ fixed_text 12 c.args.time.units ∷ c.as_bytes.result.now ∷ [])) (c.as_str.ensures.value ∙ c.in-Ok.ensures.answer.1)
    ∙ ap (λ (utc : List ℕ). line_of (clock_text c.args.clock.now c.args.tick ∷ decimal c.args.tick ∷ fixed_text 12 c.args.time.units ∷ utc ∷ [])) c.as_bytes.ensures.value
