use Rattle.std.proofs.Common.{◌≡◌, ap, arith, rules}
use Rattle.std.proofs.lemmas.Int.{ints}
use Rattle.std.specs.Prelude.{pos, ◌-ℤ◌, ◌*ℤ◌}
use mir.Syntax.{w128}
use mir.Val.{to_z, of_z}
use Rattle.sk_line.specs.Triple.{TripleView}
use Rattle.sk_line.specs.Line.{line_over}
use Rattle.sk_triples.proofs.Wide.{passed_on, passed_small}
use Rattle.sk_triples.proofs.line.fall_over.Goals as goal

pub returns : goal.returns
returns c =
    let line = passed_on c.line_over-line.result c.line_over-line.type_inv in
    let time = passed_on c.times_count-time.result c.times_count-time.type_inv in
    let sum : to_z w128 (of_z w128 (c.line_over-line.result -ℤ c.times_count-time.result)) ≡ c.line_over-line.result -ℤ c.times_count-time.result =
    passed_small (c.line_over-line.result -ℤ c.times_count-time.result) (omega (arith, ints)) (omega (arith, ints)) in
    let ticks : c.after.inside.ticks ≡ c.args.after.anchor.ticks = ap (λ (t : TripleView). t.anchor.ticks) c.after.view_is in
    let at : c.after.inside.time.units ≡ c.args.after.anchor.time = ap (λ (t : TripleView). t.anchor.time) c.after.view_is in
    let value : c.line_over-line.result ≡ line_over c.args.ticks_per c.args.before.anchor c.args.before.rate c.args.after.anchor.ticks = search rules in
    let less : c.times_count-time.result ≡ c.args.after.anchor.time *ℤ pos c.args.ticks_per = search rules in
    cc
