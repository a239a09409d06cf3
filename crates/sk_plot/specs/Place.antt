-- Where a value is drawn, in hundredths of a unit: upwards from the line of 0, and across from the left edge.
use Rattle.std.specs.Prelude.{ℕ, ℤ, pos, neg_ℤ, ◌+ℤ◌, ◌-ℤ◌, ◌*ℤ◌, int_lt, int_le, Bool, ◌&&◌, if◌then◌else◌}
use Rattle.std.specs.Int.{int_div_euclid, int_min, int_max}

-- a value in a panel whose axis reaches so far from 0: 200 units for the reach
abbrev pub scaled : ℕ → ℤ → ℤ
scaled reach value = int_div_euclid (value *ℤ pos 20000) (pos reach)

-- the band's edges
abbrev pub band_top : ℕ → ℕ → ℤ
band_top reach tolerance = scaled reach (pos tolerance)

abbrev pub band_bottom : ℕ → ℕ → ℤ
band_bottom reach tolerance = scaled reach (neg_ℤ (pos tolerance))

-- the size of the value is at most the tolerance
abbrev pub is_inside : ℕ → ℤ → Bool
is_inside tolerance value = int_le (neg_ℤ (pos tolerance)) value && int_le value (pos tolerance)

-- the value is on the axis
abbrev pub is_on : ℕ → ℤ → Bool
is_on reach value = int_le (neg_ℤ (pos reach)) value && int_le value (pos reach)

-- a value above the tolerance is drawn above the band, and one off the axis at the panel's edge
abbrev pub rise_above : ℕ → ℕ → ℤ → ℤ
rise_above reach tolerance value =
    if int_le value (pos reach) then int_max (scaled reach value) (band_top reach tolerance +ℤ pos 1) else pos 20500

abbrev pub under_band : ℕ → ℕ → ℤ → ℤ
under_band reach tolerance value = int_min (scaled reach value) (band_bottom reach tolerance -ℤ pos 1)

abbrev pub rise_below : ℕ → ℕ → ℤ → ℤ
rise_below reach tolerance value =
    if int_le (neg_ℤ (pos reach)) value then under_band reach tolerance value else neg_ℤ (pos 20500)

-- of a value that is not above the tolerance
abbrev pub rise_up_to : ℕ → ℕ → ℤ → ℤ
rise_up_to reach tolerance value =
    if int_lt value (neg_ℤ (pos tolerance)) then rise_below reach tolerance value else scaled reach value

-- how far above the line of 0 a value is drawn
unfoldable pub rise_of : ℕ → ℕ → ℤ → ℤ
rise_of reach tolerance value =
    if int_lt (pos tolerance) value then rise_above reach tolerance value
    else rise_up_to reach tolerance value

-- the time, or the end that it is beyond
abbrev pub held_of : ℤ → ℤ → ℤ → ℤ
held_of left right time = if int_lt time left then left else if int_lt right time then right else time

-- a part of the axis: 1000 units for the whole
abbrev pub share_of : ℤ → ℤ → ℤ
share_of past wide = int_div_euclid (past *ℤ pos 100000) wide

-- how far to the right of the edge a time is drawn: 1000 units for ten steps
abbrev pub across_of : ℤ → ℤ → ℤ → ℤ
across_of left wide time = share_of (held_of left (left +ℤ wide) time -ℤ left) wide
