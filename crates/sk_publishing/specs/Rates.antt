-- Which rates are allowed, the bounds that an observation sets to them, and the pair that blocks.
use Rattle.std.specs.Prelude.{◌≡◌, ◌⊎◌, ℕ, ◌+◌, ◌-◌, ◌*◌, ◌^◌, ℤ, pos, ◌+ℤ◌, ◌-ℤ◌, ◌*ℤ◌, ◌≤ℤ◌, ◌<ℤ◌, List, ◌∷◌, ◌++◌}
use Rattle.std.specs.List.{AllByRecursion}
use Rattle.sk_decimal.specs.Quotient.{floor_quotient}
use Rattle.sk_publishing.specs.Terms.{Sight, Gauge, grid}
use Rattle.sk_line.specs.Triple.{Anchor}
use Rattle.sk_publishing.specs.Meets.{IsTooSmall, IsTooLarge, Meets}

pub record IsLeast (P : ℤ → Type 0) (n : ℤ) : Type 0 where
  pub has : P n
  pub least : (m : ℤ) → P m → n ≤ℤ m

pub record IsGreatest (P : ℤ → Type 0) (n : ℤ) : Type 0 where
  pub has : P n
  pub greatest : (m : ℤ) → P m → m ≤ℤ n

-- n steps of the grid as a rate
abbrev pub on_grid : ℕ → ℤ → ℤ
on_grid rate_decimals n = n *ℤ pos (grid rate_decimals)

-- The allowed rates of later segments, in steps of the grid: within the band round the old last rate, and at most 1000 s.
pub record IsAllowed (rate_decimals band : ℕ) (old_rate n : ℤ) : Type 0 where
  pub low : (old_rate *ℤ pos (10 ^ 6 - band)) ≤ℤ (on_grid rate_decimals n *ℤ pos (10 ^ 6))
  pub high : (on_grid rate_decimals n *ℤ pos (10 ^ 6)) ≤ℤ (old_rate *ℤ pos (10 ^ 6 + band))
  pub most : on_grid rate_decimals n ≤ℤ pos (1000 * 10 ^ 18)

-- a band, in steps of the grid, and the steps in it
pub record BandView : Type 0 where
  pub least : ℤ
  pub greatest : ℤ

pub record InBand (band : BandView) (n : ℤ) : Type 0 where
  pub low : band.least ≤ℤ n
  pub high : n ≤ℤ band.greatest

-- the least and the greatest allowed rate
pub record IsBand (allowed : ℤ → Type 0) (band : BandView) : Type 0 where
  pub least : IsLeast allowed band.least
  pub greatest : IsGreatest allowed band.greatest

-- ---- the bounds of one observation

-- an allowed rate that is not too small there
abbrev pub IsFastEnough : (ℤ → Type 0) → Gauge → Anchor → Sight → ℤ → Type 0
IsFastEnough allowed g anchor o n = allowed n × ¬ IsTooSmall g anchor (on_grid g.rate_decimals n) o

-- an allowed rate that is not too large there
abbrev pub IsSlowEnough : (ℤ → Type 0) → Gauge → Anchor → Sight → ℤ → Type 0
IsSlowEnough allowed g anchor o n = allowed n × ¬ IsTooLarge g anchor (on_grid g.rate_decimals n) o

-- the least allowed rate that is not too small there, or one step above all where there is none
abbrev pub IsLeastRate : (ℤ → Type 0) → Gauge → Anchor → Sight → ℤ → Type 0
IsLeastRate allowed g anchor o n =
    IsLeast (IsFastEnough allowed g anchor o) n
    ⊎ (((m : ℤ) → ¬ IsFastEnough allowed g anchor o m) × IsGreatest allowed (n -ℤ pos 1))

-- the greatest allowed rate that is not too large there, or one step below all where there is none
abbrev pub IsGreatestRate : (ℤ → Type 0) → Gauge → Anchor → Sight → ℤ → Type 0
IsGreatestRate allowed g anchor o n =
    IsGreatest (IsSlowEnough allowed g anchor o) n
    ⊎ (((m : ℤ) → ¬ IsSlowEnough allowed g anchor o m) × IsLeast allowed (n +ℤ pos 1))

-- ---- the rates of a run

-- an allowed rate that meets all of these
abbrev pub MeetsAll : (ℤ → Type 0) → Gauge → Anchor → List Sight → ℤ → Type 0
MeetsAll allowed g anchor run n = allowed n × AllByRecursion (Meets g anchor (on_grid g.rate_decimals n)) run

-- The middle of the least and the greatest allowed rate that meets all of these, rounded down to the grid.
pub record IsMiddleRate (allowed : ℤ → Type 0) (g : Gauge) (anchor : Anchor) (run : List Sight) (rate : ℤ) : Type 0 where
  pub least : ℤ
  pub greatest : ℤ
  pub is_least : IsLeast (MeetsAll allowed g anchor run) least
  pub is_greatest : IsGreatest (MeetsAll allowed g anchor run) greatest
  pub middle : rate ≡ on_grid g.rate_decimals (floor_quotient (least +ℤ greatest) 2)

-- ---- the pair that blocks

-- the first of the observations that has the greatest least rate
pub record IsFirstGreatest (allowed : ℤ → Type 0) (g : Gauge) (anchor : Anchor) (run : List Sight) (o : Sight) (bound : ℤ) : Type 0 where
  pub front : List Sight
  pub back : List Sight
  pub joined : run ≡ front ++ o ∷ back
  pub is_bound : IsLeastRate allowed g anchor o bound
  pub before : AllByRecursion (λ x. (n : ℤ) × IsLeastRate allowed g anchor x n × (n <ℤ bound)) front
  pub after : AllByRecursion (λ x. (n : ℤ) × IsLeastRate allowed g anchor x n × (n ≤ℤ bound)) back

-- the first of the observations that has the least greatest rate
pub record IsFirstLeast (allowed : ℤ → Type 0) (g : Gauge) (anchor : Anchor) (run : List Sight) (o : Sight) (bound : ℤ) : Type 0 where
  pub front : List Sight
  pub back : List Sight
  pub joined : run ≡ front ++ o ∷ back
  pub is_bound : IsGreatestRate allowed g anchor o bound
  pub before : AllByRecursion (λ x. (n : ℤ) × IsGreatestRate allowed g anchor x n × (bound <ℤ n)) front
  pub after : AllByRecursion (λ x. (n : ℤ) × IsGreatestRate allowed g anchor x n × (bound ≤ℤ n)) back

-- every allowed rate is too small at the one or too large at the other
abbrev pub Blocks : (ℤ → Type 0) → Gauge → Anchor → Sight → Sight → Type 0
Blocks allowed g anchor low high =
    (n : ℤ) → allowed n → IsTooSmall g anchor (on_grid g.rate_decimals n) low ⊎ IsTooLarge g anchor (on_grid g.rate_decimals n) high
