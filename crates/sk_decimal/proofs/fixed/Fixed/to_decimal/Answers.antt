use Rattle.std.proofs.Common.{rules, ◌≡◌, sym, ap, ◌∙◌, FitsSigned, pos, nat_abs}
use lib.Signed.{lt_z}
use Rattle.sk_decimal.specs.Number.{signed}
use Rattle.std.specs.Int.{w128}
use Rattle.std.proofs.lemmas.Int.{to_z-of_z}
use Rattle.sk_decimal.proofs.Reduced.{signed_whole}
use Rattle.sk_decimal.proofs.fixed.Fixed.to_decimal.Goals as goal

pub returns : goal.returns
returns g c =
    let fits : FitsSigned w128 c.args.self.units = search rules in
    let value : c.unsigned_abs.result ≡ nat_abs c.args.self.units = simp to_z-of_z at c.unsigned_abs.ensures.value in
    let units = simp to_z-of_z at c.decimal_over.ensures.1 in
    (c.decimal_over.ensures.0, sym (ap (signed (lt_z c.args.self.units (pos 0))) value ∙ signed_whole c.args.self.units) ∙ units)
