use Rattle.std.proofs.Common.{false, length, ap, arith, subst}
use Rattle.sk_decimal.specs.Reading.{number_of}
use Rattle.sk_grammar.specs.declared.stop.Stop.{Stop}
use Rattle.sk_grammar.specs.ValueReading.{text_from, text_value}
use Rattle.sk_grammar.proofs.Quotations.{text_stopped, text_long, text_short}
use Rattle.sk_grammar.proofs.tokens.quoted_value.Goals as goal

pub returns-then-as_slice-gt80 : goal.returns-then-as_slice-gt80
returns-then-as_slice-gt80 c =
    text_long (text_from false c.args.bytes.now) c.in-Ok.text c.in-Ok.size c.in-Ok.ensures.answer (omega (arith, ap length c.as_slice.ensures, c.if-as_slice-gt80.true))

pub returns-in-Err : goal.returns-in-Err
returns-in-Err c = text_stopped (text_from false c.args.bytes.now) c.in-Err.stop c.in-Err.ensures.answer

pub returns-else-as_slice-gt80 : goal.returns-else-as_slice-gt80
returns-else-as_slice-gt80 c =
    text_short (text_from false c.args.bytes.now) c.in-Ok.text c.in-Ok.size c.in-Ok.ensures.answer (omega (arith, ap length c.as_slice.ensures, c.if-as_slice-gt80.false))
