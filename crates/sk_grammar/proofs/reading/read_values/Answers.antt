use Rattle.sk_grammar.specs.declared.place.Place.TheVariants.{Valued}
use Rattle.sk_grammar.proofs.Rows.{front_stops}
use Rattle.sk_grammar.proofs.reading.read_values.Goals as goal

pub returns-in-Err-clause-read : goal.returns-in-Err-clause-read
returns-in-Err-clause-read c =
    front_stops c.in-Err.stop c.args.place (Valued c.in-Valued.name c.in-Valued.op c.in-Valued.values) (Valued c.in-Valued.name c.in-Valued.op c.add_values.new.values) c.args.line.now c.in-Valued.is (c.in-Err.ensures.read c.in-Valued.name c.in-Valued.op)
