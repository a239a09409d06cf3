-- What the search for a tick finds.
use Rattle.std.specs.Prelude.{ℕ, ◌-◌, ◌+◌, ◌<◌, ◌≤◌, ℤ, pos, ◌*ℤ◌, ◌≤ℤ◌, ◌<ℤ◌, List, length}
use Rattle.std.specs.List.{AllWithin}
use Rattle.sk_line.specs.Triple.{TripleView}
use Rattle.sk_triples.specs.Kernel.{TriplesView}

abbrev pub kernel_of : List TripleView → ℕ → ℕ → TriplesView
kernel_of triples per_count total = record { triples = triples; per_count = per_count; total = total }

-- so many triples begin at or before the time, and the others after it
pub record HaveBegun (triples : List TripleView) (time : ℤ) (number : ℕ) : Type 0 where
  pub within : number ≤ length triples
  pub begun : AllWithin (λ triple. triple.anchor.time ≤ℤ time) triples 0 number
  pub later : AllWithin (λ triple. time <ℤ triple.anchor.time) triples number (length triples)

-- The greatest tick, from the triple's own to the end, that its line reaches in the elapsed time.
pub record IsReached (triple : TripleView) (elapsed : ℤ) (end tick : ℕ) : Type 0 where
  pub from : triple.anchor.ticks ≤ tick
  pub to : tick ≤ end
  pub reached : (triple.rate *ℤ pos (tick - triple.anchor.ticks)) ≤ℤ elapsed
  pub greatest : tick < end → elapsed <ℤ (triple.rate *ℤ pos (tick + 1 - triple.anchor.ticks))
