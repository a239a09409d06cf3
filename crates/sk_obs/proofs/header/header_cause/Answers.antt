use Rattle.std.proofs.Common.{inr}
use Rattle.sk_obs.proofs.header.header_cause.Goals as goal

pub returns : goal.returns
returns c = inr (λ h. (let yes = c.in_ok-is_before_header.ensures.1 h in cc), c.in_ok-cause.ensures)
