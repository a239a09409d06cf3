use Rattle.std.proofs.Common.{◌≡◌, ℕ, ◌+◌, sym, subst, ap, ◌∙◌, ◌∷◌, length, slice_get, Some, None, arith}
use Rattle.std.specs.Prelude.{ℤ}
use Rattle.sk_line.specs.Triple.{Anchor, TripleView}
use Rattle.sk_publishing.specs.Row.{RowView}
use Rattle.sk_audit.specs.Given.{anchor_of}
use Rattle.sk_audit.specs.Walking.{WalkView, begun_at}
use Rattle.sk_audit.specs.Scene.{SceneView, terms}
use Rattle.sk_audit.specs.Evaluated.{IsEvaluated, IsBetween, rate_so_far, line_triple}
use Rattle.sk_audit.proofs.Answered.{untrue}
use Rattle.sk_audit.proofs.Evaluating.{other_rate, none_left, other_claim, begins_next, claim_at, none_at, some_at}
use Rattle.sk_audit.proofs.walk.Walk.begin_claimed.Goals as goal

pub returns-then-not-are_same-clause-refuted : goal.returns-then-not-are_same-clause-refuted
returns-then-not-are_same-clause-refuted c _ =
    other_rate c.args.scene.now c.args.place c.args.obs.now c.args.self.now c.requires.next c.requires.evaluated c.args.due c.requires.due
    (λ e. untrue c.are_same.result c.if-not-are_same.true (c.are_same.ensures.1 (c.rate_so_far.ensures.value ∙ e ∙ sym (ap (λ (v : WalkView). v.rate.units) c.self.view_is))))

pub returns-in_default-clause-refuted : goal.returns-in_default-clause-refuted
returns-in_default-clause-refuted c _ =
    let scene : SceneView = c.args.scene.now in
    let w : WalkView = c.args.self.now in
    let same : rate_so_far (terms scene) w ≡ w.rate.units =
    sym c.rate_so_far.ensures.value ∙ c.are_same.ensures.0 c.if-not-are_same.false ∙ ap (λ (v : WalkView). v.rate.units) c.self.view_is in
    let view : length c.self.inside.closed.items ≡ length w.closed = ap (λ (v : WalkView). length v.closed) c.self.view_is in
    let number : c.len.result ≡ length w.closed = (let l = c.len.ensures in omega arith) in
    let none : slice_get scene.claims (length w.closed) ≡ None =
    ap (slice_get scene.claims) (sym number) ∙ sym c.claim.ensures ∙ c.in_default.is in
    none_left scene c.args.place c.args.obs.now w c.requires.next c.requires.evaluated c.args.due c.requires.due same
    (none_at c.requires.evaluated.left (sym (claim_at scene c.args.place w c.requires.evaluated) ∙ none))

pub returns-then-not-begins_at-clause-refuted : goal.returns-then-not-begins_at-clause-refuted
returns-then-not-begins_at-clause-refuted c _ =
    let scene : SceneView = c.args.scene.now in
    let w : WalkView = c.args.self.now in
    let same : rate_so_far (terms scene) w ≡ w.rate.units =
    sym c.rate_so_far.ensures.value ∙ c.are_same.ensures.0 c.if-not-are_same.false ∙ ap (λ (v : WalkView). v.rate.units) c.self.view_is in
    let view : length c.self.inside.closed.items ≡ length w.closed = ap (λ (v : WalkView). length v.closed) c.self.view_is in
    let number : c.len.result ≡ length w.closed = (let l = c.len.ensures in omega arith) in
    let found : slice_get scene.claims (length w.closed) ≡ Some c.in-Some.claim =
    ap (slice_get scene.claims) (sym number) ∙ sym c.claim.ensures ∙ c.in-Some.is in
    let left = some_at c.requires.evaluated.left c.in-Some.claim (sym (claim_at scene c.args.place w c.requires.evaluated) ∙ found) in
    other_claim scene c.args.place c.args.obs.now w c.requires.next c.requires.evaluated c.args.due c.requires.due same c.in-Some.claim left.0 left.1
    (λ b. untrue c.begins_at.result c.if-not-begins_at.true (c.begins_at.ensures.1 b.0))

pub returns-then-not-is_between-clause-refuted : goal.returns-then-not-is_between-clause-refuted
returns-then-not-is_between-clause-refuted c _ =
    let scene : SceneView = c.args.scene.now in
    let w : WalkView = c.args.self.now in
    let same : rate_so_far (terms scene) w ≡ w.rate.units =
    sym c.rate_so_far.ensures.value ∙ c.are_same.ensures.0 c.if-not-are_same.false ∙ ap (λ (v : WalkView). v.rate.units) c.self.view_is in
    let view : length c.self.inside.closed.items ≡ length w.closed = ap (λ (v : WalkView). length v.closed) c.self.view_is in
    let number : c.len.result ≡ length w.closed = (let l = c.len.ensures in omega arith) in
    let found : slice_get scene.claims (length w.closed) ≡ Some c.in-Some.claim =
    ap (slice_get scene.claims) (sym number) ∙ sym c.claim.ensures ∙ c.in-Some.is in
    let left = some_at c.requires.evaluated.left c.in-Some.claim (sym (claim_at scene c.args.place w c.requires.evaluated) ∙ found) in
    let rate : c.claim-2.inside.rate.units ≡ c.in-Some.claim.rate = ap (λ (v : TripleView). v.rate) c.claim-2.view_is in
    other_claim scene c.args.place c.args.obs.now w c.requires.next c.requires.evaluated c.args.due c.requires.due same c.in-Some.claim left.0 left.1
    (λ b. c.is_between.ensures.no c.if-not-is_between.true
    (subst (λ (x : ℤ). IsBetween (terms scene) x c.args.due.bounds.least c.args.due.bounds.greatest) (sym rate) b.1))

pub returns-in-Ok-clause-on : goal.returns-in-Ok-clause-on
returns-in-Ok-clause-on c _ =
    let scene : SceneView = c.args.scene.now in
    let w : WalkView = c.args.self.now in
    let same : rate_so_far (terms scene) w ≡ w.rate.units =
    sym c.rate_so_far.ensures.value ∙ c.are_same.ensures.0 c.if-not-are_same.false ∙ ap (λ (v : WalkView). v.rate.units) c.self.view_is in
    let view : length c.self.inside.closed.items ≡ length w.closed = ap (λ (v : WalkView). length v.closed) c.self.view_is in
    let number : c.len.result ≡ length w.closed = (let l = c.len.ensures in omega arith) in
    let found : slice_get scene.claims (length w.closed) ≡ Some c.in-Some.claim =
    ap (slice_get scene.claims) (sym number) ∙ sym c.claim.ensures ∙ c.in-Some.is in
    let left = some_at c.requires.evaluated.left c.in-Some.claim (sym (claim_at scene c.args.place w c.requires.evaluated) ∙ found) in
    let rate : c.in-Some.claim.rate ≡ c.claim-2.inside.rate.units = sym (ap (λ (v : TripleView). v.rate) c.claim-2.view_is) in
    let anchor : c.in-Some.claim.anchor ≡ anchor_of c.args.due.anchor = c.begins_at.ensures.0 c.if-not-begins_at.false in
    let claim : c.in-Some.claim ≡ line_triple c.args.due.anchor c.claim-2.inside.rate.units =
    ap (λ (a : Anchor). record { anchor = a; rate = c.in-Some.claim.rate }) anchor ∙ ap (line_triple c.args.due.anchor) rate in
    let new : begun_at w c.args.due.ended (record { anchor = c.args.due.anchor; rate = c.claim-2.inside.rate; bounds = c.args.due.bounds }) c.args.place c.args.obs.now.tick ≡ c.begin.new.self =
    sym (c.in-Ok.ensures.ok ∙ ap (λ (k : ℕ). begun_at w c.args.due.ended (record { anchor = c.args.due.anchor; rate = c.claim-2.inside.rate; bounds = c.args.due.bounds }) c.args.place k)
    (ap (λ (r : RowView). r.tick) c.obs.view_is)) in
    subst (IsEvaluated scene (c.args.place + 1)) new
    (begins_next scene c.args.place c.args.obs.now w c.requires.next c.requires.evaluated c.args.due c.requires.due same c.claim-2.inside.rate left.0
    (left.1 ∙ ap (λ (x : TripleView). x ∷ left.0) claim) (c.is_between.ensures.yes c.if-not-is_between.false))
