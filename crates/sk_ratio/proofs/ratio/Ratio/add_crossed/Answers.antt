use Rattle.std.proofs.Common.{rules, FitsSigned, ◌≡◌, ◌*ℤ◌, ◌+ℤ◌}
use Rattle.std.specs.Int.{w128}
use Rattle.std.proofs.lemmas.Int.{to_z-of_z}
use Rattle.sk_ratio.proofs.Positive.{sum_fits}
use Rattle.sk_ratio.proofs.ratio.Ratio.add_crossed.Goals as goal

pub returns-in_default-checked_add : goal.returns-in_default-checked_add
returns-in_default-checked_add c = λ fits.
    let self_num : FitsSigned w128 c.args.self.num = search rules in
    let other_num : FitsSigned w128 c.args.other.num = search rules in
    let self_den : FitsSigned w128 c.args.self.den = search rules in
    let other_den : FitsSigned w128 c.args.other.den = search rules in
    let first_fits : FitsSigned w128 c.in-Some.first = search rules in
    let second_fits : FitsSigned w128 c.in-Some-checked_mul.second = search rules in
    let first : c.in-Some.first ≡ c.args.self.num *ℤ c.args.other.den = simp to_z-of_z at c.in-Some.ensures.1 in
    let second : c.in-Some-checked_mul.second ≡ c.args.other.num *ℤ c.args.self.den = simp to_z-of_z at c.in-Some-checked_mul.ensures.1 in
    let none : ¬ FitsSigned w128 (c.in-Some.first +ℤ c.in-Some-checked_mul.second) = simp to_z-of_z at c.in_default-checked_add.ensures in
    none (sum_fits first second fits.sum)
