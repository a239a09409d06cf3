use Rattle.sk_leap.proofs.OneTime.{one_print, one_utc_of}
use Rattle.sk_leap.proofs.laws.one_time.Goals as goal

pub returns-clause-utc : goal.returns-clause-utc
returns-clause-utc c = one_utc_of

pub returns-clause-text : goal.returns-clause-text
returns-clause-text c = one_print
