use Rattle.std.proofs.Common.{◌≡◌, ◌*◌, ◌^◌, ◌↔◌, arith, subst, sym}
use Rattle.std.proofs.lemmas.Int.{ints}
use mir.Syntax.{w128}
use mir.Val.{to_z, of_z}
use Rattle.std.specs.Prelude.{ℤ, pos, ◌*ℤ◌, ◌≤ℤ◌}
use Rattle.sk_decimal.specs.Quotient.{floor_quotient}
use Rattle.sk_audit.proofs.Quotients.{to_share, passed_on, passed_small}
use Rattle.sk_audit.proofs.bands.greatest_steps.Goals as goal

pub returns : goal.returns
returns c n =
    let rate : to_z w128 (of_z w128 c.args.rate) ≡ c.args.rate = passed_small _ (omega (arith, ints)) (omega (arith, ints)) in
    let share = passed_on c.share.result c.share.type_inv in
    let answer = passed_on c.floor_by.result c.floor_by.type_inv in
    let quotient : to_z w128 (of_z w128 c.floor_by.result) ≡ floor_quotient (c.args.rate *ℤ pos c.args.parts) (c.args.grid * 10 ^ 6) = cc in
    let law = to_share (c.args.rate *ℤ pos c.args.parts) n c.args.grid (omega arith) in
    subst (λ (q : ℤ). (((n *ℤ pos c.args.grid) *ℤ pos (10 ^ 6)) ≤ℤ (c.args.rate *ℤ pos c.args.parts)) ↔ (n ≤ℤ q)) (sym quotient) law
