use Rattle.std.proofs.Common.{rules}
use Rattle.sk_fit_examples.proofs.lines.rates_of.Goals as goal

pub run_rates-requires-clause-line : goal.run_rates-requires-clause-line
run_rates-requires-clause-line g c = c.all_can_meet.ensures (search rules)
