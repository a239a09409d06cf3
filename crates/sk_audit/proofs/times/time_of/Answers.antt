use Rattle.std.proofs.Common.{◌≡◌, ◌*◌, ◌^◌, ◌≤◌, ℕ, rules, subst, sym}
use Rattle.std.specs.Prelude.{ℤ, pos, neg_ℤ, ◌≤ℤ◌}
use Rattle.std.specs.Int.{int_div_euclid}
use mir.Syntax.{w128}
use mir.Val.{SFits}
use Rattle.sk_decimal.proofs.Quotients.{floor_is}
use Rattle.sk_clock.specs.Clock.{ticks_per}
use Rattle.sk_triples.proofs.KernelOf.{positive_count}
use Rattle.sk_triples.proofs.Wide.{passed_on}
use Rattle.sk_audit.proofs.Floors.{floor_from, floor_to, above_least, below_most, million}
use Rattle.sk_audit.proofs.times.time_of.Goals as goal

pub returns-clause-from : goal.returns-clause-from
returns-clause-from c =
    let count : c.ticks_per.result ≡ ticks_per c.args.clock.now = c.ticks_per.ensures.value in
    let some : 1 ≤ c.ticks_per.result = subst (λ (n : ℕ). 1 ≤ n) (sym count) (positive_count c.args.clock.now c.ticks_per.ensures.clock) in
    let value : c.floor_div.result ≡ int_div_euclid c.in-Ok.time.num (pos (10 ^ 6 * c.ticks_per.result)) = search rules in
    let fits : SFits w128 c.in-Ok.time.num = search rules in
    let is = floor_is c.in-Ok.time.num (pos (10 ^ 6 * c.ticks_per.result)) c.floor_div.result (million c.ticks_per.result some).0 value in
    subst (λ (x : ℤ). neg_ℤ (pos (10 ^ 33)) ≤ℤ x) (sym (passed_on c.floor_div.result c.floor_div.type_inv))
    (floor_from c.in-Ok.time.num c.floor_div.result (10 ^ 6 * c.ticks_per.result) (above_least c.in-Ok.time.num fits.sfits) (million c.ticks_per.result some).1 is)

pub returns-clause-to : goal.returns-clause-to
returns-clause-to c =
    let count : c.ticks_per.result ≡ ticks_per c.args.clock.now = c.ticks_per.ensures.value in
    let some : 1 ≤ c.ticks_per.result = subst (λ (n : ℕ). 1 ≤ n) (sym count) (positive_count c.args.clock.now c.ticks_per.ensures.clock) in
    let value : c.floor_div.result ≡ int_div_euclid c.in-Ok.time.num (pos (10 ^ 6 * c.ticks_per.result)) = search rules in
    let fits : SFits w128 c.in-Ok.time.num = search rules in
    let is = floor_is c.in-Ok.time.num (pos (10 ^ 6 * c.ticks_per.result)) c.floor_div.result (million c.ticks_per.result some).0 value in
    subst (λ (x : ℤ). x ≤ℤ pos (10 ^ 33)) (sym (passed_on c.floor_div.result c.floor_div.type_inv))
    (floor_to c.in-Ok.time.num c.floor_div.result (10 ^ 6 * c.ticks_per.result) (below_most c.in-Ok.time.num fits.sfits) (million c.ticks_per.result some).1 is)
