use Rattle.sk_outcome.proofs.TimeWords.{form_refused, is_taken}
use Rattle.sk_commands.proofs.time_word.time_of_word.Goals as goal

pub returns-in-Err-clause-judged : goal.returns-in-Err-clause-judged
returns-in-Err-clause-judged c = form_refused c.args.leap.now c.args.word.now c.in-Err.stop c.in-Err.ensures

pub returns-in-Some-clause-judged : goal.returns-in-Some-clause-judged
returns-in-Some-clause-judged c =
    let sent = c.in-Ok.ensures.1 in
    let same = c.in-Some.ensures.same sent.0 sent.2 in
    is_taken c.args.leap.now c.args.word.now sent.0 c.in-Some.time.units c.in-Ok.ensures.0 sent.1 same.0 same.1
