use Rattle.std.proofs.Common.{inl, inr, refl}
use Rattle.sk_obs.proofs.header.read_header.Goals as goal

pub returns-in-Ok-header_cause : goal.returns-in-Ok-header_cause
returns-in-Ok-header_cause c = inr (λ clock pairs. rw (rw c.if-not-found.false at c.in-Ok.ensures).1
    (inl (c.in-Ok-header_cause.cause, (λ h. (let yes = c.is_header.ensures.1 h in cc), c.in-Ok-header_cause.ensures), refl)))
