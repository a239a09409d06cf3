use Rattle.std.proofs.Common.{◌≡◌, subst, ◌∙◌, ℤ, FitsSigned}
use Rattle.std.proofs.lemmas.Int.{to_z-of_z}
use mir.Syntax.{w128}
use mir.Val.{to_z, of_z}
use Rattle.sk_decimal.specs.Fixed.{IsCeiling}
use Rattle.sk_status.proofs.Amounts.{in_nanoseconds}
use Rattle.sk_status.proofs.note.nanoseconds_up.Goals as goal

pub returns : goal.returns
returns c =
    let inner = c.ceil_div.result in
    let outer = c.ceil_div-2.result in
    let held : (z : ℤ) → FitsSigned w128 z → to_z w128 (of_z w128 z) ≡ z = to_z-of_z w128 in
    let first : IsCeiling c.args.num c.args.den inner =
    subst (λ (z : ℤ). IsCeiling c.args.num z inner) (held c.args.den c.ranges.den)
    (subst (λ (z : ℤ). IsCeiling z (to_z w128 (of_z w128 c.args.den)) inner) (held c.args.num c.ranges.num) c.ceil_div.ensures) in
    let second = subst (λ (z : ℤ). IsCeiling z _ outer) (held inner (record { sfits = c.ceil_div.type_inv })) c.ceil_div-2.ensures in
    held outer (record { sfits = c.ceil_div-2.type_inv }) ∙ in_nanoseconds c.args.num c.args.den inner outer c.requires first second
