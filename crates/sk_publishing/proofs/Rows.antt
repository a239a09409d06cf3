-- The definitions at worked numbers.
use Rattle.std.proofs.Common.{◌≡◌, ◌*◌, ◌^◌, List, [], ◌∷◌, refl, Some, None}
use Rattle.std.specs.Prelude.{pos, codes}
use Rattle.std.specs.Fmt.{digits}
use Rattle.sk_publishing.specs.Terms.{Sight, Gauge, Terms, seam}
use Rattle.sk_line.specs.Triple.{Anchor}
use Rattle.sk_publishing.specs.Meets.{IsTooSmall, IsTooLarge}
use Rattle.sk_line.specs.Line.{line_over, fall_over}
use Rattle.sk_publishing.specs.Rates.{on_grid}
use Rattle.sk_publishing.specs.Chain.{SegmentView, LastEnd, FixedEnd, BlockedEnd, anchor_due, new_triples}
use Rattle.sk_publishing.specs.Row.{RowView}
use Rattle.sk_publishing.specs.Table.{ChainView, KernelView, table_lines}
use Rattle.sk_publishing.specs.Published.{published_block}
use Rattle.sk_grammar.specs.Canonical.{block_lines}

abbrev gauge : Gauge
gauge = record { decimals = 12; per_count = 256; tolerance = pos 1000000000; rate_decimals = 9 }

abbrev start : Anchor
start = record { ticks = 0; time = pos 0 }

abbrev terms : Terms
terms = record {
  gauge = gauge;
  lengths = 1099511627775 ∷ [];
  old = record { anchor = start; rate = pos 1000000000000000000 };
  band = 1000;
  hold = None;
  reject = 0;
}

abbrev a : Sight
a = record { place = 0; tick = 256000; time = pos 1000002000000000 }

abbrev b : Sight
b = record { place = 1; tick = 512000; time = pos 2000004000000000 }

abbrev c : Sight
c = record { place = 2; tick = 768000; time = pos 3000010000000000 }

abbrev first : SegmentView
first = record { anchor = start; rate = pos 1000000000000000000; covered = []; ended = FixedEnd }

abbrev anchor : Anchor
anchor = record { ticks = 1; time = pos 3906250000000000 }

abbrev second : SegmentView
second = record { anchor = anchor; rate = pos 1000002000000000000; covered = a ∷ b ∷ []; ended = BlockedEnd 2 1 }

seam_is : seam terms ≡ 1
seam_is = refl

-- the first new anchor, and the one after b, rounded up
anchor_is : anchor_due terms first a ≡ anchor
anchor_is = refl

next_anchor_is : anchor_due terms second c ≡ record { ticks = 512000; time = pos 2000003999992188000000 }
next_anchor_is = refl

-- the least rates of a, b and c, and the greatest ones: each is in, and the next step is out
small_a : IsTooSmall gauge anchor (on_grid 9 (pos 1000001000)) a
small_a = record { lt = tt }

not_small_a : ¬ IsTooSmall gauge anchor (on_grid 9 (pos 1000001001)) a
not_small_a h = h.lt

large_a : IsTooLarge gauge anchor (on_grid 9 (pos 1000003001)) a
large_a = record { lt = tt }

not_large_a : ¬ IsTooLarge gauge anchor (on_grid 9 (pos 1000003000)) a
not_large_a h = h.lt

small_b : IsTooSmall gauge anchor (on_grid 9 (pos 1000001500)) b
small_b = record { lt = tt }

not_small_b : ¬ IsTooSmall gauge anchor (on_grid 9 (pos 1000001501)) b
not_small_b h = h.lt

large_b : IsTooLarge gauge anchor (on_grid 9 (pos 1000002501)) b
large_b = record { lt = tt }

not_large_b : ¬ IsTooLarge gauge anchor (on_grid 9 (pos 1000002500)) b
not_large_b h = h.lt

small_c : IsTooSmall gauge anchor (on_grid 9 (pos 1000003000)) c
small_c = record { lt = tt }

not_small_c : ¬ IsTooSmall gauge anchor (on_grid 9 (pos 1000003001)) c
not_small_c h = h.lt

large_c : IsTooLarge gauge anchor (on_grid 9 (pos 1000003667)) c
large_c = record { lt = tt }

not_large_c : ¬ IsTooLarge gauge anchor (on_grid 9 (pos 1000003666)) c
not_large_c h = h.lt

-- the table of a, b and c
abbrev rows : List RowView
rows = record { id = codes "a"; number = 2; tick = 256000; time = pos 1000002000000000 }
    ∷ record { id = codes "b"; number = 3; tick = 512000; time = pos 2000004000000000 }
    ∷ record { id = codes "c"; number = 4; tick = 768000; time = pos 3000010000000000 } ∷ []

abbrev third : SegmentView
third = record { anchor = record { ticks = 512000; time = pos 2000003999992188000000 }; rate = pos 1000006000000000000; covered = c ∷ []; ended = LastEnd }

abbrev chain : ChainView
chain = record { first_new = 0; dropped = []; segments = first ∷ record { anchor = anchor; rate = pos 1000002000000000000; covered = a ∷ b ∷ []; ended = BlockedEnd 2 1 } ∷ third ∷ [] }

abbrev kernel : KernelView
kernel = record {
  decimals = 12;
  per_count = 256;
  clock_text = λ _. codes "-";
  triples = record { anchor = start; rate = pos 1000000000000000000 }
      ∷ record { anchor = anchor; rate = pos 1000002000000000000 } ∷ record { anchor = third.anchor; rate = third.rate } ∷ [];
}

table_is : table_lines kernel (Some chain) rows ≡
    codes "residuals;3"
    ∷ codes "a;-;1000.002000000000;1000.001999992187;7813;2;new;"
    ∷ codes "b;-;2000.004000000000;2000.003999992188;7812;3;new;blocked:4:3"
    ∷ codes "c;-;3000.010000000000;3000.009999992188;7812;3;new;last" ∷ []
unfolding digits
table_is = refl

-- the block of b's and c's triples
block_is : block_lines (published_block None 99 (new_triples chain.segments) (codes "table" ∷ [])) ≡
    codes "\\begindata" ∷ codes "SCLK01_COEFFICIENTS_99 += (" ∷ codes "1 0.00390625 1.000002"
    ∷ codes "512000 2000.003999992188 1.000006" ∷ codes ")" ∷ codes "\\begintext" ∷ codes "table" ∷ []
unfolding digits
block_is = refl

-- by the triple `0 0 1` tick 256128 is 1000.5 s, and tick 1000000 is 3906.25 s
lines : (line_over 256 start (pos (10 ^ 18)) 256128 ≡ pos (10005 * 10 ^ 17 * 256)) × (line_over 256 start (pos (10 ^ 18)) 1000000 ≡ pos (390625 * 10 ^ 16 * 256))
lines = (refl, refl)

-- the join from `0 0 1` to `256 0.9999995 1` falls by 500 ns
fall : fall_over 256 (record { anchor = start; rate = pos (10 ^ 18) }) (record { anchor = record { ticks = 256; time = pos (9999995 * 10 ^ 11) }; rate = pos (10 ^ 18) })
    ≡ pos (500 * 10 ^ 9 * 256)
fall = refl
