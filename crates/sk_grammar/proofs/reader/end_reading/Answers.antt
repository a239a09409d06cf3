use Rattle.std.proofs.Common.{Result, subst}
use Rattle.sk_grammar.specs.declared.fault.GrammarFault.{GrammarFault}
use Rattle.sk_grammar.specs.declared.taking.Taking.{Taking}
use Rattle.sk_grammar.specs.HasRead.{HasRead, reader_of}
use Rattle.sk_grammar.proofs.Failing.{failed_answers}
use Rattle.sk_grammar.proofs.reader.end_reading.Goals as goal

pub returns-in-Err-clause-document : goal.returns-in-Err-clause-document
returns-in-Err-clause-document c = λ bytes h. failed_answers c.in-Err.fault bytes (subst (λ (t : Result Taking GrammarFault). HasRead (reader_of t) bytes) c.in-Err.is h)
