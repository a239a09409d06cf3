use Rattle.std.proofs.Common.{subst, inr}
use Rattle.sk_decimal.specs.Reading.{number_of}
use Rattle.sk_grammar.specs.Reading.{read_from}
use Rattle.sk_grammar.specs.HeldItems.{held_items}
use Rattle.sk_grammar.specs.OneByOne.{EndsAs}
use Rattle.sk_grammar.specs.declared.items_left.LineEnd.{LineEnd}
use Rattle.sk_grammar.specs.declared.items_left.LineEnd.TheVariants.{Item, Open}
use Rattle.sk_grammar.proofs.OneByOne.{all_within, behind_line, first_held, line_valid, no_line}
use Rattle.sk_grammar.proofs.items_left.first_item.Goals as goal

pub loop-line-init : goal.loop-line-init
loop-line-init c = all_within c.args.text.now c.requires

pub read_item_line-requires-clause-valid : goal.read_item_line-requires-clause-valid
read_item_line-requires-clause-valid c =
    line_valid (held_items c.args.text.now) c.loop-line.place c.loop-line.rest.now c.in-Some.line.now c.in-Some.behind.now c.requires.valid c.in-Some.ensures c.loop-line.invariant

pub returns-in-Item : goal.returns-in-Item
returns-in-Item c =
    let ends = subst (λ (e : LineEnd). EndsAs (read_from number_of c.loop-line.place 0 c.in-Some.line.now) e) c.in-Item.is c.in_ok-item.ensures in
    let first = behind_line (held_items c.args.text.now) c.loop-line.place (Item c.in-Item.item) c.loop-line.rest.now c.in-Some.line.now c.in-Some.behind.now c.requires.valid c.in-Some.ensures c.loop-line.invariant ends in
    first_held c.args.text.now c.in-Some.behind.now c.in-Item.item c.requires first.0 first.1

pub loop-line-preserved : goal.loop-line-preserved
loop-line-preserved c =
    let ends = subst (λ (e : LineEnd). EndsAs (read_from number_of c.loop-line.place 0 c.in-Some.line.now) e) c.in-Open.is c.in_ok-item.ensures in
    inr (behind_line (held_items c.args.text.now) c.loop-line.place (Open c.in-Open.open) c.loop-line.rest.now c.in-Some.line.now c.in-Some.behind.now c.requires.valid c.in-Some.ensures c.loop-line.invariant ends)

pub returns : goal.returns
returns c = no_line (held_items c.args.text.now) c.loop-line.place c.loop-line.rest.now c.in_default.ensures c.loop-line.invariant
