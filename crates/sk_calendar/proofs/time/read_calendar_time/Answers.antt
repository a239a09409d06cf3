use Rattle.std.proofs.Common.{sym}
use Rattle.sk_calendar.proofs.Texts.{meant_is, unread}
use Rattle.sk_calendar.proofs.time.read_calendar_time.Goals as goal

pub returns-in-None : goal.returns-in-None
returns-in-None c = unread c.args.text.now c.in-None.ensures.value

pub returns-in-Some : goal.returns-in-Some
returns-in-Some c = meant_is (λ time. time.units) c.args.text.now c.in-Some.parts c.meant.result (sym c.in-Some.ensures.value) c.meant.ensures
