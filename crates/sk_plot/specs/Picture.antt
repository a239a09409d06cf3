-- The picture: its text as appended parts.
use Rattle.std.specs.Prelude.{ℕ, zero, suc, ◌+◌, ◌-◌, ◌*◌, ◌%◌, ◌^◌, ◌≤◌, min, max, Bool, not, ◌&&◌, ◌||◌, ◌==◌, nat_lt, ℤ, pos, neg_ℤ, ◌+ℤ◌, ◌-ℤ◌, ◌*ℤ◌, ◌≤ℤ◌, int_le, unsigned_abs, List, [], ◌∷◌, ◌++◌, length, fold, flat_map, count_by, codes, decimal, Option, Some, None, if◌then◌else◌}
use Rattle.std.specs.Int.{int_div_euclid, int_min, int_max}
use Rattle.sk_decimal.specs.Fixed.{fixed_text}
use Rattle.sk_plot.specs.Escape.{escaped}
use Rattle.sk_plot.specs.Scale.{wanted_of, step_of, step_over, micro, per_micro, day_left}
use Rattle.sk_plot.specs.Place.{band_top, band_bottom, is_inside, is_on, rise_of, across_of}
use Rattle.sk_plot.specs.Point.{PointView, PanelView}
use Rattle.sk_plot.specs.declared.place.Sheet.{Sheet}
use Rattle.sk_plot.specs.declared.scale.Days.{Days}
use Rattle.sk_plot.specs.declared.panel.Axes.{Axes}
use Rattle.sk_plot.specs.declared.document.Layout.{Layout}
use Rattle.sk_plot.specs.declared.piece.Piece.{Piece}

-- ---- what the points come to

-- the time of the first one, in the order given
abbrev pub start_of : List PointView → ℤ
start_of [] = pos 0
start_of (p ∷ ps) = p.time

abbrev pub earliest : List PointView → ℤ
earliest points = fold (λ (t : ℤ) (p : PointView). int_min t p.time) (start_of points) points

abbrev pub latest : List PointView → ℤ
latest points = fold (λ (t : ℤ) (p : PointView). int_max t p.time) (start_of points) points

abbrev pub outside_count : ℕ → List PointView → ℕ
outside_count tolerance points = count_by (λ (p : PointView). not (is_inside tolerance p.residual)) points

-- the first of two, where the second one's residual is not greater in size
abbrev pub worse : PointView → PointView → PointView
worse p q = if nat_lt (unsigned_abs p.residual) (unsigned_abs q.residual) then q else p

-- the first one whose residual is the greatest in size
abbrev pub worst_of : List PointView → Option PointView
worst_of [] = None
worst_of (p ∷ ps) = Some (fold worse p ps)

abbrev pub size_of : Option PointView → ℕ
size_of None = 0
size_of (Some p) = unsigned_abs p.residual

-- the size of the worst residual
abbrev pub worst_size : List PointView → ℕ
worst_size points = size_of (worst_of points)

-- ---- the axes

-- an axis of days and one of values
pub record IsSheet (s : Sheet) : Type 0 where
  pub left_from : neg_ℤ (pos (10 ^ 26)) ≤ℤ s.left
  pub left_to : s.left ≤ℤ pos (10 ^ 26)
  pub some : pos 1 ≤ℤ s.wide
  pub few : s.wide ≤ℤ pos (10 ^ 26)
  pub reach : 1 ≤ s.values.reach
  pub high : 300 ≤ s.values.zero
  pub low : s.values.zero ≤ 10 ^ 4

pub record AreDays (d : Days) : Type 0 where
  pub from : neg_ℤ (pos (10 ^ 14)) ≤ℤ d.left
  pub to : d.left ≤ℤ pos (10 ^ 12)
  pub some : 1 ≤ d.step
  pub few : d.step ≤ 10 ^ 13

pub record AreAxes (a : Axes) : Type 0 where
  pub days : AreDays a.days
  pub some : 1 ≤ a.step
  pub few : a.step ≤ 10 ^ 18
  pub high : 300 ≤ a.zero
  pub low : a.zero ≤ 10 ^ 4

abbrev pub is_within : Sheet → ℤ → Bool
is_within s time = int_le s.left time && int_le time (s.left +ℤ s.wide)

-- the axes of a panel: ten steps across, and five above 0 and below
abbrev pub sheet_of : Axes → Sheet
sheet_of a = record {
  left = a.days.left *ℤ pos per_micro;
  wide = pos (10 * a.days.step * per_micro);
  values = record { zero = a.zero; reach = 5 * a.step; tolerance = a.tolerance };
}

-- ---- a mark

unfoldable pub cross_at : Sheet → ℤ → ℤ
cross_at sheet time = pos 12000 +ℤ across_of sheet.left sheet.wide time

unfoldable pub level_at : Sheet → ℤ → ℤ
level_at sheet value = pos (100 * sheet.values.zero) -ℤ rise_of sheet.values.reach sheet.values.tolerance value

abbrev pub class_of : ℕ → ℤ → List ℕ
class_of tolerance value = if is_inside tolerance value then codes "inside\" fill=\"#1d4f91" else codes "outside\" fill=\"#c00020"

abbrev pub placed : List ℕ → ℤ → List ℕ
placed text hundredths = text ++ fixed_text 2 hundredths

abbrev pub named : List ℕ → List ℕ → List ℕ
named text name = text ++ escaped name

abbrev pub valued : List ℕ → ℤ → List ℕ → List ℕ
valued before value after = before ++ (fixed_text 6 value ++ after)

abbrev pub counted : List ℕ → ℕ → List ℕ
counted text number = text ++ decimal number

unfoldable pub circle_text : List ℕ → ℤ → ℤ → List ℕ
circle_text class x y =
    codes "<circle class=\"" ++ (class ++ (placed (codes "\" cx=\"") x ++ (placed (codes "\" cy=\"") y ++ codes "\" r=\"2.5\">")))

unfoldable pub title_text : PointView → List ℕ
title_text p = named (codes "<title>") p.id ++ (named (codes " ") p.clock ++ valued (codes " ") p.residual (codes " us</title></circle>\n"))

-- the value, where it is off the axis
unfoldable pub value_text : ℤ → ℤ → ℤ → List ℕ
value_text x y value = placed (codes "<text class=\"value\" fill=\"#c00020\" x=\"") x
    ++ (placed (codes "\" y=\"") y ++ valued (codes "\" dx=\"6\" dy=\"4\">") value (codes "</text>\n"))

unfoldable pub off_text : ℕ → ℤ → ℤ → ℤ → List ℕ
off_text reach x y value = if is_on reach value then [] else value_text x y value

unfoldable pub mark_text : Sheet → PointView → List ℕ
mark_text sheet p =
    circle_text (class_of sheet.values.tolerance p.residual) (cross_at sheet p.time) (level_at sheet p.residual)
    ++ (title_text p ++ off_text sheet.values.reach (cross_at sheet p.time) (level_at sheet p.residual) p.residual)

abbrev pub marks_text : Sheet → List PointView → List ℕ
marks_text sheet points = flat_map (mark_text sheet) points

-- ---- the ground of a panel

-- a number with six decimals, without these where the step is whole
unfoldable pub label_text : ℕ → ℤ → List ℕ
label_text step value = if step % 1000000 == 0 then fixed_text 0 (int_div_euclid value (pos 1000000)) else fixed_text 6 value

-- line k of a panel, from the lowest one: k - 5 steps
unfoldable pub level_text : ℕ → ℕ → ℕ → List ℕ
level_text foot step k =
    codes "<path class=\"grid\" stroke=\"#c8ccd0\" d=\"M120 " ++ (decimal (foot - 40 * k) ++ (codes "H1120\"/>\n<text x=\"112\" y=\"" ++ (decimal (foot - 40 * k)
    ++ (codes "\" dy=\"4\" text-anchor=\"end\">" ++ (label_text step (pos (k * step) -ℤ pos (5 * step)) ++ codes "</text>\n")))))

-- the lines before line k
abbrev pub levels_text : ℕ → ℕ → ℕ → List ℕ
levels_text foot step zero = []
levels_text foot step (suc k) = levels_text foot step k ++ level_text foot step k

-- the frame of a panel and the lines of its days, 205 units above the line of 0 and below
unfoldable pub frame_text : ℕ → List ℕ
frame_text top = counted (codes "<rect class=\"frame\" fill=\"none\" stroke=\"#8a9096\" x=\"120\" width=\"1000\" height=\"410\" y=\"") top
    ++ (counted (codes "\"/>\n<path class=\"grid\" stroke=\"#e3e6e8\" d=\"M220 ") top
    ++ codes "v410m100-410v410m100-410v410m100-410v410m100-410v410m100-410v410m100-410v410m100-410v410m100-410v410\"/>\n")

unfoldable pub ground_text : Axes → List ℕ
ground_text a = frame_text (a.zero - 205) ++ levels_text (a.zero + 200) a.step 11

-- the number under line k of the days
unfoldable pub day_text : ℕ → Days → ℕ → List ℕ
day_text y days k =
    counted (codes "<text x=\"") (120 + 100 * k) ++ (counted (codes "\" y=\"") y
    ++ (codes "\" text-anchor=\"middle\">" ++ (label_text days.step (days.left +ℤ pos (k * days.step)) ++ codes "</text>\n")))

abbrev pub days_text : ℕ → Days → ℕ → List ℕ
days_text y days zero = []
days_text y days (suc k) = days_text y days k ++ day_text y days k

-- ---- the triples

-- the step of a rate
unfoldable pub step_text : ℤ → ℤ → ℤ → ℕ → ℤ → List ℕ
step_text from level to number drift = placed (codes "<path class=\"rate\" fill=\"none\" stroke=\"#6b2d90\" stroke-width=\"2\" d=\"M") from
    ++ (placed (codes " ") level ++ (placed (codes "H") to
    ++ (counted (codes "\"><title>triple ") number ++ valued (codes ": ") drift (codes "</title></path>\n"))))

unfoldable pub rate_text : Sheet → Piece → List ℕ
rate_text sheet p = step_text (cross_at sheet p.from.units) (level_at sheet p.drift.units) (cross_at sheet p.to.units) p.number p.drift.units

-- the piece holds at some time of the axis
abbrev pub is_met : Sheet → Piece → Bool
is_met s p = int_le p.from.units (s.left +ℤ s.wide) && int_le s.left p.to.units

abbrev pub met_text : Sheet → Piece → List ℕ
met_text sheet p = if is_met sheet p then rate_text sheet p else []

abbrev pub steps_text : Sheet → List Piece → List ℕ
steps_text sheet pieces = flat_map (met_text sheet) pieces

abbrev pub style_of : Piece → List ℕ
style_of p = if p.begins_partition then codes "partition\" stroke-width=\"2.5" else codes "triple\" stroke-dasharray=\"4 3"

-- the line at the beginning of a triple, from the panel's upper edge down, and its number
unfoldable pub beginning_text : List ℕ → ℤ → ℕ → ℕ → List ℕ
beginning_text style x top number = codes "<path stroke=\"#b85c00\" class=\"" ++ (style ++ (placed (codes "\" d=\"M") x
    ++ (counted (codes " ") top ++ (placed (codes "v410\"/>\n<text class=\"number\" fill=\"#b85c00\" text-anchor=\"middle\" x=\"") x
    ++ (counted (codes "\" y=\"") (top - 5) ++ (counted (codes "\">") number ++ codes "</text>\n"))))))

unfoldable pub line_text : Sheet → Piece → List ℕ
line_text sheet p = beginning_text (style_of p) (cross_at sheet p.from.units) (sheet.values.zero - 205) p.number

-- The line is drawn where the axis has its time, and a partition begins or it stands 24 units past the last one drawn,
-- which is from `next` on.
abbrev pub is_drawn : Sheet → ℤ → Piece → Bool
is_drawn sheet next p = is_within sheet p.from.units && (p.begins_partition || int_le next (cross_at sheet p.from.units))

abbrev pub next_after : Sheet → ℤ → Piece → ℤ
next_after sheet next p = if is_drawn sheet next p then cross_at sheet p.from.units +ℤ pos 2400 else next

abbrev pub drawn_text : Sheet → ℤ → Piece → List ℕ
drawn_text sheet next p = if is_drawn sheet next p then line_text sheet p else []

abbrev pub lines_text : Sheet → ℤ → List Piece → List ℕ
lines_text sheet next [] = []
lines_text sheet next (p ∷ ps) = drawn_text sheet next p ++ lines_text sheet (next_after sheet next p) ps

-- what a piece asks of the axis of the rates
abbrev pub drift_size : Sheet → Piece → ℕ
drift_size sheet p = if is_met sheet p then unsigned_abs p.drift.units else 0

abbrev pub worst_drift : Sheet → List Piece → ℕ
worst_drift sheet pieces = fold (λ (m : ℕ) (p : Piece). max m (drift_size sheet p)) 0 pieces

-- axes of which the days alone count
abbrev pub bare_axes : Days → Axes
bare_axes days = record { days = days; zero = 300; step = 1; tolerance = 0 }

-- what the axis of the rates is to show: the greatest difference, of at most 10 ^ 17
abbrev pub shown_drift : Days → List Piece → ℕ
shown_drift days pieces = min (worst_drift (sheet_of (bare_axes days)) pieces) (10 ^ 17)

-- ---- the panel of residuals

-- the worst residual, where there is one
unfoldable pub worst_text : Option PointView → List ℕ
worst_text None = []
worst_text (Some p) = valued (codes ", the worst ") p.residual [] ++ named (codes " of ") p.id

-- how many residuals are outside, how many there are, and the tolerance
unfoldable pub counts_text : Axes → List PointView → List ℕ
counts_text a points = counted (codes " in microseconds: ") (outside_count a.tolerance points)
    ++ (counted (codes " of ") (length points) ++ valued (codes " outside ") (pos a.tolerance) [])

-- the kernel, these counts, and the worst residual
unfoldable pub caption_text : List ℕ → Axes → List PointView → List ℕ
caption_text name a points = counted (codes "<text x=\"120\" y=\"") (a.zero - 228) ++ (named (codes "\">Residuals by ") name
    ++ (counts_text a points ++ (worst_text (worst_of points) ++ codes "</text>\n")))

-- the band of the tolerance: from its upper edge down to its lower one
unfoldable pub band_at : ℤ → ℤ → List ℕ
band_at top height = placed (codes "<rect class=\"band\" fill=\"#e3f1e8\" x=\"120\" width=\"1000\" y=\"") top
    ++ (placed (codes "\" height=\"") height ++ codes "\"/>\n")

unfoldable pub band_text : Axes → List ℕ
band_text a = band_at (pos (100 * a.zero) -ℤ band_top (5 * a.step) a.tolerance) (band_top (5 * a.step) a.tolerance -ℤ band_bottom (5 * a.step) a.tolerance)

unfoldable pub residuals_text : List ℕ → Axes → PanelView → List ℕ
residuals_text name a panel = band_text a ++ (ground_text a ++ (caption_text name a panel.points
    ++ (lines_text (sheet_of a) (pos 0) panel.pieces ++ marks_text (sheet_of a) panel.points)))

-- the axes of residuals about this line of 0
abbrev pub axes_of : Days → ℕ → ℕ → List PointView → Axes
axes_of days level tolerance points =
    record { days = days; zero = level; step = step_of (wanted_of tolerance (worst_size points)); tolerance = tolerance }

unfoldable pub kernel_panel : Days → ℕ → PanelView → List ℕ
kernel_panel days tolerance panel = residuals_text (codes "--kernel") (axes_of days 300 tolerance panel.points) panel

abbrev pub new_panel : Days → ℕ → Option PanelView → List ℕ
new_panel days tolerance None = []
new_panel days tolerance (Some panel) = residuals_text (codes "--new") (axes_of days 760 tolerance panel.points) panel

-- ---- the panel of the rates

unfoldable pub rates_caption : ℕ → List ℕ
rates_caption y = counted (codes "<text x=\"120\" y=\"") y ++ codes "\">Rates of --kernel in parts of 10^9 from that of triple 1, over days of TDT past J2000</text>\n"

unfoldable pub rates_text : Axes → List Piece → List ℕ
rates_text a pieces = ground_text a ++ (rates_caption (a.zero - 228) ++ (lines_text (sheet_of a) (pos 0) pieces ++ steps_text (sheet_of a) pieces))

abbrev pub rate_step : Days → List Piece → ℕ
rate_step days pieces = step_of (wanted_of (shown_drift days pieces) 0)

abbrev pub rate_axes : Days → ℕ → List Piece → Axes
rate_axes days level pieces = record { days = days; zero = level; step = rate_step days pieces; tolerance = 5 * rate_step days pieces }

-- ---- the document

-- how much lower a second panel of residuals moves what stands below it
abbrev pub shift_of : Option PanelView → ℕ
shift_of None = 0
shift_of (Some panel) = 460

unfoldable pub opening : ℕ → List ℕ
opening height = counted (codes "<svg xmlns=\"http://www.w3.org/2000/svg\" version=\"1.1\" width=\"1240\" height=\"") height
    ++ (counted (codes "\" viewBox=\"0 0 1240 ") height
    ++ (counted (codes "\" font-family=\"sans-serif\" font-size=\"12\" fill=\"#333333\">\n<style>@media(prefers-color-scheme:dark){svg{fill:#d8dce0}.page{fill:#15181b}.frame{stroke:#70767c}.band{fill:#1d3226}.grid{stroke:#33383d}.inside{fill:#7fb2ff}.outside,.value{fill:#ff6b7d}.rate{stroke:#c58af0}.triple,.partition{stroke:#f0a050}.number{fill:#f0a050}}</style>\n<rect class=\"page\" fill=\"#ffffff\" width=\"1240\" height=\"") height
    ++ codes "\"/>\n"))

-- from the earliest to the latest day
unfoldable pub span_text : List PointView → List ℕ
span_text [] = []
span_text (p ∷ ps) = valued (codes ", days ") (micro (earliest (p ∷ ps))) [] ++ valued (codes " to ") (micro (latest (p ∷ ps))) []

-- the title, how many observations there are, and their days
unfoldable pub head_text : List ℕ → List PointView → List ℕ
head_text title points = named (codes "<text x=\"120\" y=\"26\" font-size=\"18\">") title
    ++ (counted (codes "</text>\n<text x=\"120\" y=\"46\">") (length points) ++ (codes " observations" ++ (span_text points ++ codes "</text>\n")))

unfoldable pub foot_text : ℕ → List ℕ → List ℕ
foot_text y foot = counted (codes "<text x=\"120\" font-size=\"11\" y=\"") y ++ (named (codes "\">") foot ++ codes "</text>\n</svg>\n")

-- the days of the points
abbrev pub days_of : List PointView → Days
days_of points = record { left = day_left (earliest points) (latest points); step = step_over (micro (earliest points)) (micro (latest points)) }

unfoldable pub rate_panel : Days → ℕ → PanelView → List ℕ
rate_panel days shift panel = rates_text (rate_axes days (760 + shift) panel.pieces) panel.pieces

-- where the panels stand
abbrev pub layout_of : ℕ → PanelView → Option PanelView → Layout
layout_of tolerance panel newer = record { days = days_of panel.points; shift = shift_of newer; tolerance = tolerance }

unfoldable pub panels_text : Layout → PanelView → Option PanelView → List ℕ
panels_text l panel newer =
    kernel_panel l.days l.tolerance panel ++ (new_panel l.days l.tolerance newer
    ++ (rate_panel l.days l.shift panel ++ days_text (985 + l.shift) l.days 11))

abbrev pub picture_of : List ℕ → List ℕ → ℕ → PanelView → Option PanelView → List ℕ
picture_of title foot tolerance panel newer =
    opening (1030 + shift_of newer) ++ (head_text title panel.points
    ++ (panels_text (layout_of tolerance panel newer) panel newer ++ foot_text (1012 + shift_of newer) foot))
