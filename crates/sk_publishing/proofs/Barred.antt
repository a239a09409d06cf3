-- The observations that exclude every allowed rate where a segment ends within its partition.
use Rattle.std.proofs.Common.{◌≡◌, ◌⊎◌, ℕ, List, [], ◌∷◌, ◌++◌, refl, sym, ap, subst, inl, inr, ◌∙◌, arith}
use Rattle.std.proofs.lemmas.Int.{ints, by_lt_z}
use Rattle.std.specs.Prelude.{ℤ, pos, ◌+ℤ◌, ◌-ℤ◌, ◌*ℤ◌, ◌≤ℤ◌, ◌<ℤ◌, Option, Some, None}
use Rattle.std.specs.List.{AllByRecursion}
use Rattle.sk_publishing.specs.Terms.{Sight, Terms}
use Rattle.sk_publishing.specs.Meets.{line_at, scaled, IsTooSmall, IsTooLarge, Meets}
use Rattle.sk_publishing.specs.Rates.{on_grid, IsFirstGreatest, IsFirstLeast, Blocks}
use Rattle.sk_publishing.specs.Chain.{SegmentView, EachFollowed, FirstAndLater, ForNext, IsInPartition, IsAllowedStep, IsOldRate, IsGridRate, HasRate, IsMaximal, IsFixed, IsBlocked, IsEnded, IsChain, first_or, covered_by}
use Rattle.sk_publishing.specs.Promises.{IsBarred, IsBarredFirst, IsBarredLater, BarredLaw}
use Rattle.sk_publishing.proofs.Bounds.{pair_blocks}
use Rattle.sk_line.proofs.Lists.{all_append}

-- a rate that misses an observation is too small or too large there
missed : (t : Terms) (s : SegmentView) (rate : ℤ) (o : Sight) → ¬ Meets t.gauge s.anchor rate o
    → IsTooSmall t.gauge s.anchor rate o ⊎ IsTooLarge t.gauge s.anchor rate o
missed t s rate o misses =
    by_lt_z (line_at t.gauge s.anchor rate o.tick) (scaled t.gauge (o.time -ℤ t.gauge.tolerance)) inl
    (λ low. by_lt_z (scaled t.gauge (o.time +ℤ t.gauge.tolerance)) (line_at t.gauge s.anchor rate o.tick) inr
    (λ high. absurd (misses (record { low = low; high = high }))))

barred_first : (t : Terms) (s : SegmentView) (next : Option Sight) → HasRate (IsOldRate t) t s → IsMaximal (IsOldRate t) t s next → IsEnded IsFixed t s next → IsBarredFirst t s next
barred_first t s None has maximal ended = tt
barred_first t s (Some o) has maximal ended = λ here. (
  ended.0 here,
  record {
    has_low = (s.covered, [], refl);
    has_high = (s.covered, [], refl);
    excludes = λ rate is. missed t s rate o (λ meets. maximal here rate is
        (all_append (Meets t.gauge s.anchor rate) s.covered (o ∷ []) (subst (λ (z : ℤ). AllByRecursion (Meets t.gauge s.anchor z) s.covered) (has.0 ∙ sym is) has.1) (meets, tt)));
  },
)

barred_later : (t : Terms) (s : SegmentView) (next : Option Sight) → IsMaximal (IsGridRate t) t s next → IsEnded IsBlocked t s next → IsBarredLater t s next
barred_later t s None maximal ended = tt
barred_later t s (Some o) maximal ended = λ here.
    let b : IsBlocked t s o = ended.0 here in
    let blocks : Blocks (IsAllowedStep t) t.gauge s.anchor b.low b.high =
    pair_blocks (IsAllowedStep t) t.gauge s.anchor (s.covered ++ o ∷ []) b.low b.high b.least b.greatest b.is_low b.is_high
    (λ n allowed meets. maximal here (on_grid t.gauge.rate_decimals n) (n, allowed, refl) meets) in (
      b.low,
      b.high,
      b.named,
      record {
        has_low = (b.is_low.front, b.is_low.back, b.is_low.joined);
        has_high = (b.is_high.front, b.is_high.back, b.is_high.joined);
        excludes = λ rate is. subst (λ (z : ℤ). IsTooSmall t.gauge s.anchor z b.low ⊎ IsTooLarge t.gauge s.anchor z b.high) (sym is.2) (blocks is.0 is.1);
      },
    )

each_barred : (t : Terms) (chain : List SegmentView) (next : Option Sight) → EachFollowed (IsMaximal (IsGridRate t) t) chain next → EachFollowed (IsEnded IsBlocked t) chain next → EachFollowed (IsBarredLater t) chain next
each_barred t [] next maximal ended = tt
each_barred t (s ∷ later) next maximal ended =
    (barred_later t s (first_or (covered_by later) next) maximal.0 ended.0, each_barred t later next maximal.1 ended.1)

pub barred_law : BarredLaw
barred_law t kept next [] p = tt
barred_law t kept next (s ∷ later) p =
    (barred_first t s (first_or (covered_by later) next) p.meets.0 p.maximal.0 p.ends.0, each_barred t later next p.maximal.1 p.ends.1)
