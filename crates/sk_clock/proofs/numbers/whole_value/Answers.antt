use Rattle.sk_clock.proofs.NumberLemmas.{of_value}
use Rattle.sk_clock.proofs.numbers.whole_value.Goals as goal

pub returns-in-Number : goal.returns-in-Number
returns-in-Number c = of_value c.whole_of.result c.args.value.now c.in-Number.number c.args.low c.args.high c.in-Number.is c.whole_of.ensures
