-- What the table of a publication tells: the kind of each observation, and the residuals of the new ones.
use Rattle.std.specs.Prelude.{◌≡◌, ◌≤◌, ◌<◌, ℕ, ℤ, pos, neg_ℤ, ◌-ℤ◌, ◌≤ℤ◌, Bool, false, List, count_by, map, not, codes, Option, Some}
use Rattle.std.specs.List.{AllByRecursion}
use Rattle.sk_line.specs.Triple.{TripleView}
use Rattle.sk_line.specs.Line.{covering}
use Rattle.sk_publishing.specs.Row.{RowView}
use Rattle.sk_publishing.specs.Terms.{Sight, Gauge, Terms, sights}
use Rattle.sk_publishing.specs.Meets.{IsWithinTolerance}
use Rattle.sk_publishing.specs.Chain.{SegmentView}
use Rattle.sk_publishing.specs.Kept.{is_new, IsPublication}
use Rattle.sk_publishing.specs.Table.{ChainView, KernelView, kind_text, floored_time}
use Rattle.sk_publishing.specs.Laws.{SightsRise}

-- what the table tells of a publication: how many observations are old, which are dropped, and the segments
abbrev pub told : Terms → List RowView → List Sight → List SegmentView → ChainView
told t observations dropped chain = record {
  first_new = count_by (λ o. not (is_new t o)) (sights observations);
  dropped = map (λ o. o.place) dropped;
  segments = chain;
}

-- An observation is marked `new` where it is kept, `dropped` where it is dropped, and `old` otherwise.
pub record AreMarked (t : Terms) (all kept dropped : List Sight) (chain : ChainView) : Type 0 where
  pub kept_new : AllByRecursion (λ o. kind_text (Some chain) o.place ≡ codes "new") kept
  pub dropped_so : AllByRecursion (λ o. kind_text (Some chain) o.place ≡ codes "dropped") dropped
  pub others_old : AllByRecursion (λ o. is_new t o ≡ false → kind_text (Some chain) o.place ≡ codes "old") all

abbrev pub MarksLaw : Type 0
MarksLaw = (t : Terms) (rows : List RowView) (dropped : List Sight) (chain : List SegmentView) → SightsRise (sights rows)
    → (p : IsPublication t (sights rows) dropped chain) → AreMarked t (sights rows) p.kept dropped (told t rows dropped chain)

-- the residual that the table shows, in time units, is at most the tolerance in size
pub record HasSmallResidual (k : KernelView) (g : Gauge) (o : Sight) : Type 0 where
  pub found : ℕ × TripleView
  pub covers : covering k.triples o.tick ≡ Some found
  pub from : neg_ℤ g.tolerance ≤ℤ (o.time -ℤ floored_time k found.1 o.tick)
  pub to : (o.time -ℤ floored_time k found.1 o.tick) ≤ℤ g.tolerance

abbrev pub ResidualLaw : Type 0
ResidualLaw = (k : KernelView) (g : Gauge) (o : Sight) → k.decimals ≡ g.decimals → k.per_count ≡ g.per_count → 0 < g.per_count
    → IsWithinTolerance g k.triples o → HasSmallResidual k g o
