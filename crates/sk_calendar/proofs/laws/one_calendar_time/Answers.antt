use Rattle.sk_calendar.proofs.Texts.{one_time}
use Rattle.sk_calendar.proofs.laws.one_calendar_time.Goals as goal

pub returns : goal.returns
returns c = one_time
