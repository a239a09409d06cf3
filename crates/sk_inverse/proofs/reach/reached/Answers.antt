use Rattle.std.proofs.Common.{◌≡◌, ◌+◌, ◌-◌, ℕ, ap, sym, subst, rules}
use Rattle.std.specs.Prelude.{ℤ, pos, nat_abs, ◌≤ℤ◌, ◌<ℤ◌}
use mir.Syntax.{w128}
use mir.Val.{to_z, of_z}
use Rattle.sk_decimal.specs.Fixed.{IsFloor}
use Rattle.sk_line.specs.Triple.{TripleView}
use Rattle.sk_triples.proofs.Wide.{passed_on}
use Rattle.sk_inverse.specs.Search.{IsReached}
use Rattle.sk_inverse.proofs.Reached.{reached_end, reached_ahead}
use Rattle.sk_inverse.proofs.reach.reached.Goals as goal

pub returns-then-ahead-end : goal.returns-then-ahead-end
returns-then-ahead-end c =
    let passed = passed_on c.floor_div-ahead.result c.floor_div-ahead.type_inv in
    let ticks : c.triple.inside.ticks ≡ c.args.triple.anchor.ticks = ap (λ (t : TripleView). t.anchor.ticks) c.triple.view_is in
    let floor : IsFloor c.args.elapsed c.args.triple.rate c.floor_div-ahead.result = search rules in
    let less : c.floor_div-ahead.result <ℤ pos (c.args.end - c.args.triple.anchor.ticks) = search rules in
    let reached = reached_ahead c.args.triple c.args.elapsed c.floor_div-ahead.result c.args.end c.requires.triple c.requires.elapsed floor less in
    subst (λ (n : ℕ). IsReached c.args.triple c.args.elapsed c.args.end (n + nat_abs (to_z w128 (of_z w128 c.floor_div-ahead.result)))) (sym ticks)
    (subst (λ (z : ℤ). IsReached c.args.triple c.args.elapsed c.args.end (c.args.triple.anchor.ticks + nat_abs z)) (sym passed) reached)

pub returns-else-ahead-end : goal.returns-else-ahead-end
returns-else-ahead-end c =
    let floor : IsFloor c.args.elapsed c.args.triple.rate c.floor_div-ahead.result = search rules in
    let most : pos (c.args.end - c.args.triple.anchor.ticks) ≤ℤ c.floor_div-ahead.result = search rules in
    reached_end c.args.triple c.args.elapsed c.floor_div-ahead.result c.args.end c.requires.triple floor most
