use Rattle.std.proofs.Common.{◌≡◌, ◌-◌, ap, arith, rules}
use Rattle.std.proofs.lemmas.Int.{ints}
use Rattle.std.specs.Prelude.{pos, ◌+ℤ◌, ◌*ℤ◌}
use mir.Syntax.{w128}
use mir.Val.{to_z, of_z}
use Rattle.sk_line.specs.Triple.{TripleView}
use Rattle.sk_triples.proofs.Wide.{passed_on, passed_small}
use Rattle.sk_triples.proofs.line.line_over.Goals as goal

pub returns-clause-value : goal.returns-clause-value
returns-clause-value c =
    let begun = passed_on c.times_count-begun.result c.times_count-begun.type_inv in
    let gained = passed_on c.gain-gained.result c.gain-gained.type_inv in
    let sum : to_z w128 (of_z w128 (c.times_count-begun.result +ℤ c.gain-gained.result)) ≡ c.times_count-begun.result +ℤ c.gain-gained.result =
    passed_small (c.times_count-begun.result +ℤ c.gain-gained.result) (omega (arith, ints)) (omega (arith, ints)) in
    let ticks : c.triple.inside.ticks ≡ c.args.triple.anchor.ticks = ap (λ (t : TripleView). t.anchor.ticks) c.triple.view_is in
    let time : c.triple.inside.time.units ≡ c.args.triple.anchor.time = ap (λ (t : TripleView). t.anchor.time) c.triple.view_is in
    let rate : c.triple.inside.rate.units ≡ c.args.triple.rate = ap (λ (t : TripleView). t.rate) c.triple.view_is in
    let value : c.times_count-begun.result ≡ c.args.triple.anchor.time *ℤ pos c.args.ticks_per = search rules in
    let more : c.gain-gained.result ≡ c.args.triple.rate *ℤ pos (c.args.tick - c.args.triple.anchor.ticks) = search rules in
    cc
