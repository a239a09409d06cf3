-- A publication of three observations, computed from the definitions: 256 ticks a count, 1 ms of tolerance, and
-- rates of nine decimals.
use Rattle.std.proofs.Common.{◌≡◌, List, [], ◌∷◌, None, Some, refl, codes, pos, arith}
use Rattle.std.specs.Fmt.{digits}
use Rattle.sk_publishing.specs.Row.{RowView}
use Rattle.sk_publishing.specs.Terms.{Sight, Gauge, Terms, seam}
use Rattle.sk_publishing.specs.Meets.{IsTooSmall, IsTooLarge}
use Rattle.sk_publishing.specs.Rates.{on_grid}
use Rattle.sk_publishing.specs.Chain.{SegmentView, FixedEnd, BlockedEnd, LastEnd, anchor_due}
use Rattle.sk_publishing.specs.Table.{KernelView, ChainView, row_line, table_lines}

abbrev gauge : Gauge
gauge = record { decimals = 12; per_count = 256; tolerance = pos 1000000000; rate_decimals = 9 }

abbrev terms : Terms
terms = record { gauge = gauge; lengths = 1099511627775 ∷ []; old = record { anchor = record { ticks = 0; time = pos 0 }; rate = pos 1000000000000000000 }; band = 100; hold = None; reject = 0 }

abbrev a : Sight
a = record { place = 0; tick = 256000; time = pos 1000002000000000 }

abbrev b : Sight
b = record { place = 1; tick = 512000; time = pos 2000004000000000 }

abbrev c : Sight
c = record { place = 2; tick = 768000; time = pos 3000010000000000 }

abbrev first : SegmentView
first = record { anchor = record { ticks = 0; time = pos 0 }; rate = pos 1000000000000000000; covered = []; ended = FixedEnd }

abbrev second : SegmentView
second = record { anchor = record { ticks = 1; time = pos 3906250000000000 }; rate = pos 1000002000000000000; covered = a ∷ b ∷ []; ended = BlockedEnd 2 1 }

-- the seam, and the line of the old triple there
seam_is : seam terms ≡ 1
seam_is = refl

first_anchor : anchor_due terms first a ≡ second.anchor
first_anchor = refl

-- the line of the second segment at its last tick, 2000.0039999921875 s, rounded up to the time unit
second_anchor : anchor_due terms second c ≡ record { ticks = 512000; time = pos 2000003999992188000000 }
second_anchor = refl

-- Where a rate begins to be fast enough for each, and the last that is slow enough.
below_a : IsTooSmall gauge second.anchor (on_grid 9 (pos 1000001000)) a
below_a = omega arith

at_a : ¬ IsTooSmall gauge second.anchor (on_grid 9 (pos 1000001001)) a
at_a = λ h. omega (arith, h)

above_b : IsTooLarge gauge second.anchor (on_grid 9 (pos 1000002501)) b
above_b = omega arith

at_b : ¬ IsTooLarge gauge second.anchor (on_grid 9 (pos 1000002500)) b
at_b = λ h. omega (arith, h)

-- c needs a rate that b does not allow
below_c : IsTooSmall gauge second.anchor (on_grid 9 (pos 1000003000)) c
below_c = omega arith

at_c : ¬ IsTooSmall gauge second.anchor (on_grid 9 (pos 1000003001)) c
at_c = λ h. omega (arith, h)

abbrev rows : List RowView
rows =
    record { id = codes "a"; number = 2; tick = 256000; time = pos 1000002000000000 }
    ∷ record { id = codes "b"; number = 3; tick = 512000; time = pos 2000004000000000 }
    ∷ record { id = codes "c"; number = 4; tick = 768000; time = pos 3000010000000000 } ∷ []

abbrev kernel : KernelView
kernel = record {
  decimals = 12;
  per_count = 256;
  clock_text = λ _. codes "1/0:0";
  triples =
      record { anchor = first.anchor; rate = first.rate }
      ∷ record { anchor = second.anchor; rate = second.rate }
      ∷ record { anchor = record { ticks = 512000; time = pos 2000003999992188000000 }; rate = pos 1000006000000000000 } ∷ [];
}

abbrev chain : ChainView
chain = record {
  first_new = 0;
  dropped = [];
  segments =
      first ∷ second
      ∷ record { anchor = record { ticks = 512000; time = pos 2000003999992188000000 }; rate = pos 1000006000000000000; covered = c ∷ []; ended = LastEnd } ∷ [];
}

lines_are : table_lines kernel (Some chain) rows
    ≡ codes "residuals;3"
    ∷ codes "a;1/0:0;1000.002000000000;1000.001999992187;7813;2;new;"
    ∷ codes "b;1/0:0;2000.004000000000;2000.003999992188;7812;3;new;blocked:4:3"
    ∷ codes "c;1/0:0;3000.010000000000;3000.009999992188;7812;3;new;last" ∷ []
unfolding digits
lines_are = refl
