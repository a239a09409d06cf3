use Rattle.sk_obs.specs.Reading.{IsReading}
use Rattle.sk_obs.proofs.tests.rows.Given as goal

abbrev pub invariant-rows : goal.invariant-rows
invariant-rows l = IsReading l.reader
