-- Which rates of a band gain what an observation wants of them, and which keep to the room that it leaves.
use Rattle.std.specs.Prelude.{◌≡◌, ◌⊎◌, ℕ, ℤ, pos, ◌+ℤ◌, ◌-ℤ◌, ◌*ℤ◌, ◌≤ℤ◌}
use Rattle.sk_publishing.specs.Rates.{BandView, InBand, IsLeast, IsGreatest}

-- n steps of this gain are at least what is wanted, or at most the room
abbrev pub Gains : BandView → ℤ → ℕ → ℤ → Type 0
Gains band wanted step n = InBand band n × (wanted ≤ℤ (n *ℤ pos step))

abbrev pub Keeps : BandView → ℤ → ℕ → ℤ → Type 0
Keeps band room step n = InBand band n × ((n *ℤ pos step) ≤ℤ room)

-- the least rate of the band that gains it, or one above the band where there is none
abbrev pub IsLeastGain : BandView → ℤ → ℕ → ℤ → Type 0
IsLeastGain band wanted step n =
    IsLeast (Gains band wanted step) n ⊎ (((m : ℤ) → ¬ Gains band wanted step m) × (n ≡ band.greatest +ℤ pos 1))

-- the greatest rate of the band that keeps to it, or one below the band where there is none
abbrev pub IsGreatestGain : BandView → ℤ → ℕ → ℤ → Type 0
IsGreatestGain band room step n =
    IsGreatest (Keeps band room step) n ⊎ (((m : ℤ) → ¬ Keeps band room step m) × (n ≡ band.least -ℤ pos 1))
