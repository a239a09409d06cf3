use Rattle.std.proofs.Common.{◌≤◌}
use Rattle.sk_clock.specs.Clock.{total}
use Rattle.sk_obs.specs.File.{records_of}
use Rattle.sk_obs.specs.Reading.{IsReading, rows_left}
use Rattle.sk_obs.proofs.Files.{HasPassed}
use Rattle.sk_obs.proofs.Progress.{HasRows}
use Rattle.sk_obs.proofs.file.read_observations.Given as goal

abbrev pub invariant-loop-number : goal.invariant-loop-number
invariant-loop-number l = record {
  reading : IsReading l.reader;
  rows : HasRows (total l.clock) l.before l.list;
  few : l.number ≤ 100002;
  passed : HasPassed l.clock l.leap (records_of l.bytes) l.number l.before (rows_left l.reader) l.list;
}
