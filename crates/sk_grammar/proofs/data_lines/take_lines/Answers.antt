use Rattle.std.proofs.Common.{ℕ, List, Ok, Err, sym, subst}
use Rattle.sk_grammar.specs.declared.state.State.TheVariants.{InData}
use Rattle.sk_grammar.specs.DataLines.{GivesPlace, RefusesDataLines}
use Rattle.sk_grammar.specs.Fold.{take_line}
use Rattle.sk_grammar.proofs.DataLines.{still_reached, data_more, data_stops}
use Rattle.sk_grammar.proofs.data_lines.take_lines.Goals as goal

pub take_tokens-requires-clause-reached : goal.take_tokens-requires-clause-reached
take_tokens-requires-clause-reached c =
    still_reached c.args.piece.now c.loop-line.rest.now c.args.items c.loop-line.items c.args.place c.loop-line.place c.args.count c.loop-line.count c.requires.reached c.loop-line.invariant

pub returns-in-Err-clause-refused : goal.returns-in-Err-clause-refused
returns-in-Err-clause-refused c =
    subst (λ fault. RefusesDataLines fault c.args.piece.now c.args.items c.args.place c.args.count) (sym c.at.ensures)
    (data_stops c.args.piece.now c.loop-line.rest.now c.in-Some.line.now c.in-Some.behind.now c.args.items c.loop-line.items c.take_tokens.new.items c.args.place c.loop-line.place c.args.count c.loop-line.count c.in-Err.stop c.loop-line.invariant c.in-Some.ensures
    (λ head blocks. subst (λ (l : List ℕ). GivesPlace (Err c.in-Err.stop) head blocks c.take_tokens.new.items (take_line (InData head blocks c.loop-line.items c.loop-line.place) l)) c.without_returns-whole.ensures (c.in-Err.ensures head blocks)))

pub loop-line-preserved : goal.loop-line-preserved
loop-line-preserved c =
    data_more c.args.piece.now c.loop-line.rest.now c.in-Some.line.now c.in-Some.behind.now c.args.items c.loop-line.items c.take_tokens.new.items c.args.place c.loop-line.place c.in-Ok.next c.args.count c.loop-line.count c.loop-line.invariant c.in-Some.ensures
    (λ head blocks. subst (λ (l : List ℕ). GivesPlace (Ok c.in-Ok.next) head blocks c.take_tokens.new.items (take_line (InData head blocks c.loop-line.items c.loop-line.place) l)) c.without_returns-whole.ensures (c.in-Ok.ensures head blocks))
