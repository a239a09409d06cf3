use Rattle.std.proofs.Common.{List, ℕ, Ok, refl, inl, subst}
use Rattle.sk_checks.specs.Checks.{Judges, FirstRefuses}
use Rattle.sk_clock.specs.ClockText.{StandsFor, text_checks}
use Rattle.sk_clock.specs.declared.fault.ClockFault.TheVariants.{BadText}
use Rattle.sk_obs.specs.declared.fault.ClockWord.TheVariants.{Text}
use Rattle.sk_obs.proofs.Judging.{carried-ok, carried-err}
use Rattle.sk_obs.proofs.Ascii.{SpellsClock-utf8}
use Rattle.sk_obs.proofs.clock_word.string_tick.Goals as goal

pub returns-in_default : goal.returns-in_default
returns-in_default c =
    carried-err Text (text_checks c.args.clock.now c.args.text.now) BadText
    (inl (λ reading spelled. c.in_default.ensures.cases.0 (SpellsClock-utf8 c.args.text.now reading spelled), refl))

pub returns-in-Ok-ticks_of : goal.returns-in-Ok-ticks_of
returns-in-Ok-ticks_of c =
    carried-ok Text (text_checks c.args.clock.now c.args.text.now) (StandsFor c.args.clock.now c.args.text.now) c.in-Ok-ticks_of.tick
    (subst (λ (text : List ℕ). Judges (text_checks c.args.clock.now text) (StandsFor c.args.clock.now text) (Ok c.in-Ok-ticks_of.tick)) c.in-Ok.ensures.cases.0 c.in-Ok-ticks_of.ensures)

pub returns-in-Err : goal.returns-in-Err
returns-in-Err c =
    carried-err Text (text_checks c.args.clock.now c.args.text.now) c.in-Err.fault
    (subst (λ (text : List ℕ). FirstRefuses (text_checks c.args.clock.now text) c.in-Err.fault) c.in-Ok.ensures.cases.0 c.in-Err.ensures)
