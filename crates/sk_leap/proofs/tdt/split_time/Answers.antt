use Rattle.std.proofs.Common.{◌≡◌, ◌+◌, ◌∙◌, sym, ap, pos, SFits, to_z, of_z, w64, rules, arith}
use Rattle.std.specs.Prelude.{ℤ, nat_abs, ◌+ℤ◌, ◌-ℤ◌, ◌*ℤ◌, ◌≤ℤ◌, ◌<ℤ◌}
use Rattle.std.specs.Int.{w128}
use Rattle.std.proofs.lemmas.Int.{ints, to_z-of_z}
use Rattle.sk_decimal.specs.Fixed.{IsFloor}
use Rattle.sk_leap.proofs.Clocks.{second_cast, part_cast, near_second, parts_sum}
use Rattle.sk_leap.proofs.tdt.split_time.Goals as goal

pub returns-clause-sum : goal.returns-clause-sum
returns-clause-sum c =
    let units = c.args.units in
    let s = c.floor_div-seconds.result in
    let from : c.from.result ≡ pos 32184000000000 = omega (arith, ints, c.from.ensures) in
    let atomic : to_z w128 (of_z w128 (to_z w128 (of_z w128 units) -ℤ to_z w128 (of_z w128 c.from.result))) ≡ units -ℤ pos 32184000000000 = omega (arith, ints, from, c.requires.from, c.requires.to) in
    let f : IsFloor (units -ℤ pos 32184000000000) (pos 1000000000000) s = rw atomic at c.floor_div-seconds.ensures.floor in
    let near = near_second units s f c.requires.from c.requires.to in
    let part = part_cast (units -ℤ pos 32184000000000) s (omega (arith, ints, c.requires.from)) (omega (arith, ints, c.requires.to)) near.0 near.1 in
    parts_sum units s f
    ∙ ap (λ (z : ℤ). (z -ℤ pos 43200) *ℤ pos 1000000000000 +ℤ pos (nat_abs ((units -ℤ pos 32184000000000) -ℤ s *ℤ pos 1000000000000) + 32184000000000)) (sym (second_cast s near.0 near.1))
    ∙ ap (λ (z : ℤ). (to_z w64 (of_z w64 (to_z w64 (of_z w64 (to_z w128 (of_z w128 s))) +ℤ pos 43200)) -ℤ pos 43200) *ℤ pos 1000000000000 +ℤ pos (nat_abs z + 32184000000000)) (sym part)
    ∙ ap (λ (z : ℤ). (to_z w64 (of_z w64 (to_z w64 (of_z w64 (to_z w128 (of_z w128 s))) +ℤ pos 43200)) -ℤ pos 43200) *ℤ pos 1000000000000
    +ℤ pos (nat_abs (to_z w128 (of_z w128 (z -ℤ to_z w128 (of_z w128 (to_z w128 (of_z w128 s) *ℤ pos 1000000000000))))) + 32184000000000)) (sym atomic)
