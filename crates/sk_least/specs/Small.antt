-- The sizes of observations.
use Rattle.std.specs.Prelude.{◌*◌, ◌^◌, ◌<◌, pos, neg_ℤ, ◌≤ℤ◌}
use Rattle.sk_publishing.specs.Terms.{Sight}

-- a time of at most 9·10^9 s in size, and a tick of a clock
pub record IsSmall (o : Sight) : Type 0 where
  pub from : neg_ℤ (pos (9 * 10 ^ 21)) ≤ℤ o.time
  pub to : o.time ≤ℤ pos (9 * 10 ^ 21)
  pub tick : o.tick < 2 ^ 53
