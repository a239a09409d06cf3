-- Which triples have numbers that a kernel can hold.
use Rattle.std.specs.Prelude.{◌^◌, ◌<◌, nat_abs}
use Rattle.sk_line.specs.Triple.{TripleView}

-- the ticks, and the time and the rate in 10 ^ -18 s, are no larger than a decimal's coefficient may be
pub record HasNumbers (t : TripleView) : Type 0 where
  pub ticks : t.anchor.ticks < 2 ^ 64
  pub time : nat_abs t.anchor.time < 2 ^ 127
  pub rate : nat_abs t.rate < 2 ^ 127
