use Rattle.std.proofs.Common.{◌≡◌, ap, ◌∙◌, rules}
use Rattle.std.specs.Prelude.{pos}
use Rattle.std.proofs.lemmas.Int.{to_z_pos}
use mir.Syntax.{w128}
use mir.Val.{to_z}
use Rattle.sk_line.specs.Triple.{TripleView}
use Rattle.sk_publishing.specs.Published.{reduced}
use Rattle.sk_publication.proofs.NewTriples.{triple_pushed}
use Rattle.sk_publication.proofs.numbers.push_triple.Goals as goal

pub returns : goal.returns
returns c =
    let ticks : to_z w128 c.triple.inside.ticks ≡ pos c.triple.inside.ticks = search (rules, to_z_pos) in
    triple_pushed c.args.values.now.items c.push.new.self.items c.push-2.new.self.items c.push-3.new.self.items
    c.in_ok-decimal_of.field-0 c.in_ok-decimal_of-2.field-0 c.in_ok-decimal_of-3.field-0 c.args.triple
    c.in_ok-push.ensures.items c.in_ok-push-2.ensures.items c.in_ok-push-3.ensures.items
    (c.in_ok-decimal_of.ensures ∙ ap (reduced 0) ticks ∙ ap (λ (t : TripleView). reduced 0 (pos t.anchor.ticks)) c.triple.view_is)
    (c.in_ok-decimal_of-2.ensures ∙ ap (λ (t : TripleView). reduced 18 t.anchor.time) c.triple.view_is)
    (c.in_ok-decimal_of-3.ensures ∙ ap (λ (t : TripleView). reduced 18 t.rate) c.triple.view_is)
