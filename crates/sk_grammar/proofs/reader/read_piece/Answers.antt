use Rattle.std.proofs.Common.{◌+◌, ◌^◌, ◌<◌, ◌++◌, Result, subst, count_by}
use Rattle.sk_grammar.specs.declared.fault.GrammarFault.{GrammarFault}
use Rattle.sk_grammar.specs.declared.taking.Taking.{Taking}
use Rattle.sk_grammar.specs.Lines.{is_line_feed}
use Rattle.sk_grammar.specs.HasRead.{HasRead, IsReader, reader_of, ended_count}
use Rattle.sk_grammar.proofs.Failing.{failed_more, reader_more}
use Rattle.sk_grammar.proofs.reader.read_piece.Goals as goal

pub returns-in-Ok-clause-reader : goal.returns-in-Ok-clause-reader
returns-in-Ok-clause-reader c =
    let r = subst (λ (t : Result Taking GrammarFault). IsReader (reader_of t)) c.in-Ok.is c.requires.reader in
    let room = subst (λ (t : Result Taking GrammarFault). ended_count (reader_of t) + count_by is_line_feed c.args.piece.now + 1 < 2 ^ 32) c.in-Ok.is c.requires.room in
    reader_more c.take_piece.result (r.bytes ++ c.args.piece.now) (c.in-Ok.taking.count + count_by is_line_feed c.args.piece.now)
    (c.take_piece.ensures.piece r.bytes r.read) c.take_piece.ensures.count room

pub returns-in-Err-clause-read : goal.returns-in-Err-clause-read
returns-in-Err-clause-read c = λ bytes h. failed_more c.in-Err.fault bytes c.args.piece.now (subst (λ (t : Result Taking GrammarFault). HasRead (reader_of t) bytes) c.in-Err.is h)
