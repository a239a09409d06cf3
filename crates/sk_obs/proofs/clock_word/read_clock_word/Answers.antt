use Rattle.sk_obs.specs.declared.fault.ClockWordStop.TheVariants.{Refused}
use Rattle.sk_obs.specs.declared.fault.ClockWordStop.TheVariants as word
use Rattle.sk_obs.specs.Words.{CodeBytes, ClockString, form_checks, IsTickOf}
use Rattle.sk_obs.proofs.CodeWords.{is_code, is_string, of_form}
use Rattle.sk_obs.proofs.Judging.{carried-told}
use Rattle.sk_obs.proofs.clock_word.read_clock_word.Goals as goal

pub returns-in-Some-behind : goal.returns-in-Some-behind
returns-in-Some-behind c =
    of_form c.args.clock.now c.args.text.now (CodeBytes c.in-Some-behind.code.now) c.code_tick.result
    (is_code c.args.text.now c.in-Some-behind.code.now c.in_default.ensures c.in-Some-behind.ensures.0 c.in-Some-behind.ensures.1) c.code_tick.ensures

pub returns : goal.returns
returns c =
    of_form c.args.clock.now c.args.text.now (ClockString c.args.text.now) c.or_refused-2.result
    (is_string c.args.text.now c.in_default.ensures c.in_default-behind.ensures)
    (carried-told word.NoMemory Refused (form_checks c.args.clock.now (ClockString c.args.text.now)) (IsTickOf c.args.clock.now (ClockString c.args.text.now)) c.string_tick.result c.or_refused-2.result c.string_tick.ensures c.or_refused-2.ensures)
