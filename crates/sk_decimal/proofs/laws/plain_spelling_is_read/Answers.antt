use Rattle.sk_decimal.specs.Number.{plain_spelling}
use Rattle.sk_decimal.proofs.Printed.{plain_spelling_spells, length-plain_spelling}
use Rattle.sk_decimal.proofs.Exact.{number_is}
use Rattle.sk_decimal.proofs.laws.plain_spelling_is_read.Goals as goal

pub returns : goal.returns
returns c = record {
  spells = plain_spelling_spells;
  read = λ d valid. number_is (plain_spelling d) d (plain_spelling_spells d valid);
  short = length-plain_spelling;
}
