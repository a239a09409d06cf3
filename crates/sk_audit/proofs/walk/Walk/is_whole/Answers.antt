use Rattle.std.proofs.Common.{sym, ap, ◌∙◌, length, arith}
use Rattle.std.proofs.lemmas.Bool.{eqb-false}
use Rattle.sk_audit.specs.Walking.{WalkView}
use Rattle.sk_audit.proofs.Answered.{untrue}
use Rattle.sk_audit.proofs.Evaluating.{last_rate, more_claims}
use Rattle.sk_audit.proofs.walk.Walk.is_whole.Goals as goal

pub returns-then-not-are_same-clause-no : goal.returns-then-not-are_same-clause-no
returns-then-not-are_same-clause-no c _ =
    last_rate c.args.scene.now c.args.self.now c.requires.evaluated
    (λ e. untrue c.are_same.result c.if-not-are_same.true (c.are_same.ensures.1 (c.rate_so_far.ensures.value ∙ e ∙ sym (ap (λ (v : WalkView). v.rate.units) c.self.view_is))))

pub returns-clause-no : goal.returns-clause-no
returns-clause-no c e =
    more_claims c.args.scene.now c.args.self.now c.requires.evaluated
    (λ same. let number = ap length (ap (λ (v : WalkView). v.closed) c.self.view_is) in
    let count = c.claim_count.ensures in
    let len = c.len.ensures in
    eqb-false c.claim_count.result c.len.result e (omega arith))
