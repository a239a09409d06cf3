use Rattle.sk_decimal.specs.Fixed.{fixed_text}
use Rattle.sk_decimal.proofs.Printed.{fixed_text_spells}
use Rattle.sk_decimal.proofs.Exact.{number_is}
use Rattle.sk_decimal.proofs.laws.fixed_text_is_read.Goals as goal

pub returns : goal.returns
returns c = record {
  spells = fixed_text_spells;
  read = λ places units d valid same narrow. number_is (fixed_text places units) d (fixed_text_spells places units d valid same narrow);
}
