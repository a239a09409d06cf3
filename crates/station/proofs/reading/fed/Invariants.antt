use Rattle.std.proofs.Common.{◌≡◌, ◌≤◌, List, [], ◌∷◌, ℕ, length, ◌-◌}
use Rattle.std.specs.Io.KnownBytes.{Consumes}
use Rattle.sk_edge.specs.Asked.{Asks}
use Rattle.sk_edge.specs.Causes.{NoneFalls}
use Rattle.sk_edge.specs.Transfer.{SameFiles}
use Rattle.sk_grammar.specs.HasRead.{HasRead, ended_count}
use Rattle.station.proofs.reading.fed.Given as goal

-- the reader has read the front of the file
abbrev pub invariant-loop-count : goal.invariant-loop-count
invariant-loop-count g l =
    let depot = g.D.Depot in
    record {
      same_files : SameFiles (depot.holds l.fn.depot) (depot.holds l.depot);
      chosen : depot.chosen l.depot l.name;
      read : (bytes : List ℕ) × (length bytes ≡ l.taken) × Consumes (depot.holds l.fn.depot l.name) (depot.rest l.depot) bytes × HasRead l.reader bytes;
      given : depot.given l.depot ≡ l.taken;
      within : l.taken ≤ 16777216;
      lines : ended_count l.reader ≤ l.taken;
      asks : Asks (depot.asked l.fn.depot) (depot.asked l.depot) (l.name ∷ []);
      counts : NoneFalls (depot.faults l.fn.depot) (depot.faults l.depot);
    }

abbrev pub decreases-loop-count : goal.decreases-loop-count
decreases-loop-count g l = 16777216 - l.taken
