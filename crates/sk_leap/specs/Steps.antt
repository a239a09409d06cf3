-- The pair that counts on a day, or at a time, as the code goes from pair to pair.
use Rattle.std.specs.Prelude.{ℕ, ◌+◌, ◌<◌, ℤ, pos, ◌+ℤ◌, ◌*ℤ◌, ◌≤ℤ◌, ◌<ℤ◌, int_le, int_lt, ◌≡◌, ◌⊎◌, List, [], ◌∷◌, Option, Some, None, if◌then◌else◌}
use Rattle.sk_leap.specs.declared.pair.LeapPair.{LeapPair}

-- the first second of a pair's date, counted in seconds from 2000-01-01 with the leap values
abbrev pub start_of : LeapPair → ℤ
start_of pair = pair.day *ℤ pos 86400 +ℤ pos pair.value

-- the last of the pairs that has begun by a second, and the pair behind it
abbrev pub pair_at : LeapPair → List LeapPair → ℤ → LeapPair × Option LeapPair
pair_at pair [] second = (pair, None)
pair_at pair (next ∷ later) second = if int_lt second (start_of next) then (pair, Some next) else pair_at next later second

-- a second before a later pair
pub record IsBetween (pair later : LeapPair) (second : ℤ) : Type 0 where
  pub day : pair.day <ℤ later.day
  pub value : later.value ≡ pair.value + 1
  pub before : second <ℤ start_of later

-- the day ends before the next pair's date
abbrev pub EndsBefore : Option LeapPair → ℤ → ℕ → Type 0
EndsBefore None day sod = sod < 86400
EndsBefore (Some next) day sod = ((day <ℤ next.day) × (sod < 86400)) ⊎ ((day +ℤ pos 1 ≡ next.day) × (sod ≡ 86400))

-- day and second of day, where this pair and the next one stand round a second
pub record IsClockOf (pair : LeapPair) (next : Option LeapPair) (second day : ℤ) (sod : ℕ) : Type 0 where
  pub sum : day *ℤ pos 86400 +ℤ pos (sod + pair.value) ≡ second
  pub ends : EndsBefore next day sod
