use Rattle.std.proofs.Common.{None}
use Rattle.sk_calendar.proofs.MonthNames.{month_is}
use Rattle.sk_calendar.proofs.months.month_of.Goals as goal

pub returns-in-None-clause-value : goal.returns-in-None-clause-value
returns-in-None-clause-value c = month_is c.args.name.now None c.in-None.ensures
