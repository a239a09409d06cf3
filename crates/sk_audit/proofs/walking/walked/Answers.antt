use Rattle.std.proofs.Common.{◌≡◌, ℕ, length, subst, ap, arith}
use Rattle.sk_audit.specs.Scene.{terms}
use Rattle.sk_audit.specs.Evaluated.{IsEvaluated}
use Rattle.sk_audit.proofs.Answered.{went}
use Rattle.sk_audit.proofs.Observed.{new_at}
use Rattle.sk_audit.proofs.walking.walked.Goals as goal

pub take-requires-clause-new : goal.take-requires-clause-new
take-requires-clause-new c row here = new_at (terms c.args.scene.now) c.args.scene.now.rows c.args.first_new c.loop-place.place row (omega arith) here c.requires.new

pub returns-clause-some : goal.returns-clause-some
returns-clause-some c =
    let past = c.loop-place-test.false in
    let until = c.loop-place.auto.place-end in
    let within = c.requires.within in
    let count = c.count-place-end.ensures in
    let all : c.loop-place.place ≡ length c.args.scene.now.rows = omega arith in
    subst (λ (n : ℕ). IsEvaluated c.args.scene.now n c.loop-place.walk) all c.loop-place.invariant

pub returns-then-not-went-clause-none : goal.returns-then-not-went-clause-none
returns-then-not-went-clause-none c = c.in_ok-went.ensures.refuted (ap went c.if-not-went.true)
