use Rattle.sk_obs.specs.Words.{TdtNumber, UtcCode}
use Rattle.sk_obs.proofs.TimeWords.{is_tdt, is_utc}
use Rattle.sk_outcome.proofs.TimeWords.{of_form, of_number}
use Rattle.sk_commands.proofs.time_word.said_time.Goals as goal

pub returns-in-Some : goal.returns-in-Some
returns-in-Some c =
    of_form c.args.leap.now c.args.word.now (TdtNumber c.in-Some.text.now) c.tdt_time.result
    (is_tdt c.args.word.now c.in-Some.text.now c.in-Some.ensures.0 c.in-Some.ensures.1)
    (of_number c.args.leap.now c.in-Some.text.now c.tdt_time.result c.tdt_time.ensures)

pub returns-in-Some-behind : goal.returns-in-Some-behind
returns-in-Some-behind c =
    of_form c.args.leap.now c.args.word.now (UtcCode c.in-Some-behind.text.now) c.utc_time.result
    (is_utc c.args.word.now c.in-Some-behind.text.now c.in_default.ensures c.in-Some-behind.ensures.0 c.in-Some-behind.ensures.1)
    c.utc_time.ensures
