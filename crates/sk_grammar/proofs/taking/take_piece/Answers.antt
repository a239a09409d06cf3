use Rattle.std.proofs.Common.{Err}
use Rattle.sk_grammar.proofs.Feeds.{line_more, line_stops, rest_counted, rest_kept}
use Rattle.sk_grammar.proofs.Texts.{come_further}
use Rattle.sk_grammar.proofs.taking.take_piece.Goals as goal

pub returns-in-Err-clause-piece : goal.returns-in-Err-clause-piece
returns-in-Err-clause-piece c = λ bytes t.
    line_stops c.args.piece.now c.loop-line.rest.now c.in-Some.line.now c.in-Some.behind.now bytes c.args.taking c.loop-line.taking c.in-Err.fault c.loop-line.invariant c.in-Some.ensures c.in-Err.ensures.piece t

pub loop-line-preserved-in-Ok-take_front : goal.loop-line-preserved-in-Ok-take_front
loop-line-preserved-in-Ok-take_front c =
    let line = line_more c.args.piece.now c.loop-line.rest.now c.in-Some.line.now c.in-Some.behind.now c.args.taking c.loop-line.taking c.in-Ok.next c.loop-line.invariant c.in-Some.ensures c.in-Ok.ensures.piece c.in-Ok.ensures.count in
    come_further c.args.piece.now c.in-Some.behind.now c.in-Ok-take_front.next.1.now c.args.taking c.in-Ok.next c.in-Ok-take_front.next.0 line c.in-Ok-take_front.ensures

pub loop-line-preserved : goal.loop-line-preserved
loop-line-preserved c =
    let line = line_more c.args.piece.now c.loop-line.rest.now c.in-Some.line.now c.in-Some.behind.now c.args.taking c.loop-line.taking c.in-Ok.next c.loop-line.invariant c.in-Some.ensures c.in-Ok.ensures.piece c.in-Ok.ensures.count in
    come_further c.args.piece.now c.in-Some.behind.now c.in-Ok-take_data_front.next.1.now c.args.taking c.in-Ok.next c.in-Ok-take_data_front.next.0 line c.in-Ok-take_data_front.ensures.come

pub returns-in-Err-take_data_front-clause-piece : goal.returns-in-Err-take_data_front-clause-piece
returns-in-Err-take_data_front-clause-piece c =
    let line = line_more c.args.piece.now c.loop-line.rest.now c.in-Some.line.now c.in-Some.behind.now c.args.taking c.loop-line.taking c.in-Ok.next c.loop-line.invariant c.in-Some.ensures c.in-Ok.ensures.piece c.in-Ok.ensures.count in
    rest_kept c.args.piece.now c.in-Some.behind.now c.args.taking c.in-Ok.next (Err c.in-Err-take_data_front.fault) line c.in-Err-take_data_front.ensures.refused

pub returns-clause-count : goal.returns-clause-count
returns-clause-count c = rest_counted c.args.piece.now c.loop-line.rest.now c.args.taking c.loop-line.taking c.keep.result c.loop-line.invariant c.in_default.ensures c.keep.ensures.count
