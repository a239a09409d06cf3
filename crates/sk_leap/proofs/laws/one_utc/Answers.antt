use Rattle.sk_leap.proofs.OneUtc.{one_utc}
use Rattle.sk_leap.proofs.laws.one_utc.Goals as goal

pub returns : goal.returns
returns c = one_utc
