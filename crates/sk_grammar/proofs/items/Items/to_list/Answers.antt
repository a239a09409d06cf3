use Rattle.std.proofs.Common.{ℕ, List, [], ap, ◌∙◌, Ok, subst}
use Rattle.std.specs.List.{All}
use Rattle.sk_grammar.specs.Document.{ItemView, IsItem}
use Rattle.sk_grammar.specs.declared.place.Place.TheVariants.{Idle}
use Rattle.sk_grammar.specs.HeldItems.{items_of_lines}
use Rattle.sk_grammar.specs.Lines.{held_lines}
use Rattle.sk_grammar.proofs.HeldItems.{held_read, line_valid, next_left, all_taken}
use Rattle.sk_grammar.proofs.items.Items.to_list.Goals as goal

pub loop-line-init : goal.loop-line-init
loop-line-init c =
    ap (λ (items : List ItemView). items_of_lines items Idle (held_lines c.as_slice-rest.result.now)) (c.from_vec-items.ensures ∙ c.new.ensures.items)
    ∙ ap (λ (text : List ℕ). items_of_lines [] Idle (held_lines text)) c.as_slice-rest.ensures.value
    ∙ held_read c.self.inside.text.items c.self.invariant
    ∙ ap (λ (items : List ItemView). Ok items) c.self.view_is

pub take_line_of_items-requires-clause-valid : goal.take_line_of_items-requires-clause-valid
take_line_of_items-requires-clause-valid c =
    line_valid c.loop-line.rest.now c.in-Some.line.now c.in-Some.behind.now c.loop-line.items c.args.self.now c.loop-line.place c.in-Some.ensures c.loop-line.invariant
    (subst (λ (items : List ItemView). All IsItem items) c.self.view_is c.self.invariant.valid)

pub loop-line-preserved : goal.loop-line-preserved
loop-line-preserved c =
    next_left c.loop-line.rest.now c.in-Some.line.now c.in-Some.behind.now c.loop-line.items c.args.self.now c.take_line_of_items.new.items c.loop-line.place c.in_ok-place.place c.in-Some.ensures c.loop-line.invariant c.in_ok-place.ensures

pub returns : goal.returns
returns c = all_taken c.loop-line.rest.now c.loop-line.items c.args.self.now c.loop-line.place c.in_default.ensures c.loop-line.invariant
