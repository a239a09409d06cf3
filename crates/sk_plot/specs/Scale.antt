-- Round steps, and the axes that they make.
use Rattle.std.specs.Prelude.{ℕ, zero, suc, ◌+◌, ◌*◌, ◌/◌, min, max, nat_le, ℤ, pos, ◌-ℤ◌, unsigned_abs, if◌then◌else◌}
use Rattle.std.specs.Int.{int_div_euclid, int_rem_euclid}

-- the first of 1, 2 and 5 units that is not below what is wanted, or 5
abbrev pub chosen : ℕ → ℕ → ℕ
chosen unit wanted = if nat_le wanted unit then unit else if nat_le wanted (2 * unit) then 2 * unit else 5 * unit

-- the same of units that grow tenfold, so many times at most
abbrev pub round_from : ℕ → ℕ → ℕ → ℕ
round_from zero unit wanted = unit
round_from (suc more) unit wanted = if nat_le wanted (5 * unit) then chosen unit wanted else round_from more (10 * unit) wanted

-- the least of 1, 2, 5, 10, 20, 50 .. that is not below what is wanted, of at most 10 ^ 18
unfoldable pub round_up : ℕ → ℕ
round_up wanted = round_from 18 1 wanted

-- ---- upwards: five steps above 0 and five below

-- what the axis is to show: the tolerance, and of the worst value as much as four tolerances
abbrev pub wanted_of : ℕ → ℕ → ℕ
wanted_of tolerance worst = max tolerance (min worst (4 * tolerance))

abbrev pub step_of : ℕ → ℕ
step_of wanted = round_up ((wanted + 4) / 5)

-- ---- across: ten steps of days from a multiple of the step

-- 10 ^ -12 s in a millionth of a day
abbrev pub per_micro : ℕ
per_micro = 86400000000

abbrev pub micro : ℤ → ℤ
micro time = int_div_euclid time (pos per_micro)

-- the step of the axis from the first millionth to the last one, nine of which reach past it
abbrev pub step_over : ℤ → ℤ → ℕ
step_over from to = round_up (unsigned_abs (to -ℤ from) / 9 + 1)

abbrev pub floor_step : ℤ → ℕ → ℤ
floor_step from step = from -ℤ int_rem_euclid from (pos step)

-- where the axis begins: the last multiple of the step that is not after the first time, in millionths of a day
abbrev pub day_left : ℤ → ℤ → ℤ
day_left first last = floor_step (micro first) (step_over (micro first) (micro last))
