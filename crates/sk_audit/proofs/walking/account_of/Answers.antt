use Rattle.std.proofs.Common.{◌∙◌, length, sym, subst}
use Rattle.sk_audit.specs.Scene.{SceneView, terms}
use Rattle.sk_audit.specs.Walked.{IsWalked}
use Rattle.sk_audit.specs.Walking.{WalkView}
use Rattle.sk_audit.specs.Evaluated.{IsEvaluated}
use Rattle.sk_audit.proofs.Begun.{told_all}
use Rattle.sk_audit.proofs.Evaluating.{so_far_same, told_claims, all_begun}
use Rattle.sk_audit.proofs.walking.account_of.Goals as goal

pub returns-clause-some : goal.returns-clause-some
returns-clause-some c =
    let scene : SceneView = c.args.scene.now in
    let w : WalkView = c.in-Some.walk in
    let evaluated : IsEvaluated scene (length scene.rows) w = rw c.in-Some.is at c.in_ok-walked.ensures.some in
    let whole = c.is_whole.ensures.yes c.if-not-is_whole.false in
    told_all (terms scene) scene.rows w c.in_ok-account.account
    (subst (IsWalked (terms scene) scene.rows (length scene.rows)) (so_far_same (terms scene) w whole.0) evaluated.walked)
    c.in_ok-account.ensures.segments c.in_ok-account.ensures.dropped

pub returns-clause-claimed : goal.returns-clause-claimed
returns-clause-claimed c =
    let scene : SceneView = c.args.scene.now in
    let w : WalkView = c.in-Some.walk in
    let evaluated : IsEvaluated scene (length scene.rows) w = rw c.in-Some.is at c.in_ok-walked.ensures.some in
    let whole = c.is_whole.ensures.yes c.if-not-is_whole.false in
    told_claims w c.in_ok-account.account.segments.items c.in_ok-account.ensures.segments ∙ sym (all_begun scene w evaluated whole.1)

pub returns-then-not-is_whole-clause-none : goal.returns-then-not-is_whole-clause-none
returns-then-not-is_whole-clause-none c = c.is_whole.ensures.no c.if-not-is_whole.true
