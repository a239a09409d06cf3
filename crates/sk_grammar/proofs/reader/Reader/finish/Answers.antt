use Rattle.std.proofs.Common.{sym, subst}
use Rattle.sk_grammar.specs.HasRead.{ReaderView, HasRead}
use Rattle.sk_grammar.proofs.Answered.{ok_spelled, spelled_ok, err_refused, refused_err}
use Rattle.sk_grammar.proofs.reader.Reader.finish.Goals as goal

pub returns-clause-spelled : goal.returns-clause-spelled
returns-clause-spelled c = λ bytes h. ok_spelled bytes c.end_reading.result (c.end_reading.ensures.document bytes (subst (λ (v : ReaderView). HasRead v bytes) (sym c.self.view_is) h))

pub returns-clause-read : goal.returns-clause-read
returns-clause-read c = λ bytes doc h. spelled_ok bytes c.end_reading.result (c.end_reading.ensures.document bytes (subst (λ (v : ReaderView). HasRead v bytes) (sym c.self.view_is) h)) doc

pub returns-clause-fault : goal.returns-clause-fault
returns-clause-fault c = λ bytes h. err_refused bytes c.end_reading.result (c.end_reading.ensures.document bytes (subst (λ (v : ReaderView). HasRead v bytes) (sym c.self.view_is) h))

pub returns-clause-refused : goal.returns-clause-refused
returns-clause-refused c = λ bytes line reason h. refused_err bytes c.end_reading.result (c.end_reading.ensures.document bytes (subst (λ (v : ReaderView). HasRead v bytes) (sym c.self.view_is) h)) line reason
