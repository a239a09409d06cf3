-- Numbers with a fixed count of decimals, and whole quotients as relations.
use Rattle.std.specs.Prelude.{◌≡◌, ℕ, ◌-◌, ◌^◌, ◌≤◌, ℤ, pos, ◌+ℤ◌, ◌-ℤ◌, ◌*ℤ◌, FitsSigned, ◌≤ℤ◌, ◌<ℤ◌, List}
use Rattle.std.specs.Int.{w128}
use Rattle.sk_decimal.specs.Number.{DecimalView, plain_spelling}

-- z is a value of the type i128
abbrev pub FitsWide : ℤ → Type 0
FitsWide z = FitsSigned w128 z

-- the decimal's value in units of 10 ^ -places each, where it has at most that many places
abbrev pub units_of : ℕ → DecimalView → ℤ
units_of places d = d.coefficient *ℤ pos (10 ^ (places - d.scale))

-- so many units are the decimal's value
abbrev pub HasUnits : ℕ → DecimalView → ℤ → Type 0
HasUnits places d units = (d.scale ≤ places) × (units ≡ units_of places d)

-- `-` where negative, the whole part, and where there are places a point and that many digits
abbrev pub fixed_text : ℕ → ℤ → List ℕ
fixed_text places units = plain_spelling (record { coefficient = units; scale = places })

-- q is the greatest whole number that is not above a / b
abbrev pub IsFloor : ℤ → ℤ → ℤ → Type 0
IsFloor a b q = ((q *ℤ b) ≤ℤ a) × (a <ℤ ((q +ℤ pos 1) *ℤ b))

-- q is the least whole number that is not below a / b
abbrev pub IsCeiling : ℤ → ℤ → ℤ → Type 0
IsCeiling a b q = (a ≤ℤ (q *ℤ b)) × (((q -ℤ pos 1) *ℤ b) <ℤ a)
