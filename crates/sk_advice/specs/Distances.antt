-- How far a time lies from a line, in words.
use Rattle.std.specs.Prelude.{ℕ, ℤ, pos, negsuc, nat_abs, List, ◌++◌, codes}
use Rattle.sk_decimal.specs.Fixed.{fixed_text}

-- a distance is above 0, or 0, where the time is not before the line
abbrev pub side : ℤ → List ℕ
side (pos n) = codes " us after "
side (negsuc n) = codes " us before "

-- so many 10 ^ -12 s, in microseconds with six decimals
abbrev pub distance_text : ℤ → List ℕ
distance_text units = fixed_text 6 (pos (nat_abs units)) ++ side units

-- the same in brackets, with the name of the line
abbrev pub away : ℤ → List ℕ → List ℕ
away units name = codes " (" ++ (distance_text units ++ (name ++ codes ")"))
