-- The new triples of a publication.
use Rattle.std.proofs.Common.{◌≡◌, ℕ, List, [], ◌∷◌, map, drop, refl, sym, ap, ◌∙◌}
use Rattle.std.specs.Prelude.{flat_map}
use Rattle.sk_publishing.specs.Terms.{Sight}
use Rattle.sk_line.specs.Triple.{TripleView}
use Rattle.sk_publishing.specs.Chain.{SegmentView, new_triples}
use Rattle.sk_publishing.specs.Input.{Input}
use Rattle.sk_publishing.proofs.NewKernel.{triple_of}
use Rattle.sk_fit.specs.declared.chain.Chain.{Chain}
use Rattle.sk_fit.specs.declared.chain.Segment.{Segment}
use Rattle.sk_fit.specs.Given.{segment_view, segments_of, new_triples_of}
use Rattle.sk_fit.specs.Causes.{Gives}
use Rattle.sk_fit.proofs.OneAnswer.{one_gives}

one_each : (segments : List SegmentView) → flat_map (λ l. record { anchor = l.anchor; rate = l.rate } ∷ []) segments ≡ map triple_of segments
one_each [] = refl
one_each (s ∷ segments) = ap (λ (z : List TripleView). triple_of s ∷ z) (one_each segments)

each_new : (all : List Sight) (dropped : List ℕ) (segments : List Segment)
    → map (λ s. record { anchor = record { ticks = s.anchor.ticks; time = s.anchor.time.units }; rate = s.rate.units }) segments ≡ map triple_of (map (segment_view all dropped) segments)
each_new all dropped [] = refl
each_new all dropped (s ∷ segments) = ap (λ (z : List TripleView). triple_of (segment_view all dropped s) ∷ z) (each_new all dropped segments)

new_of : (all : List Sight) (dropped : List ℕ) (segments : List Segment)
    → map (λ s. record { anchor = record { ticks = s.anchor.ticks; time = s.anchor.time.units }; rate = s.rate.units }) (drop 1 segments) ≡ new_triples (map (segment_view all dropped) segments)
new_of all dropped [] = refl
new_of all dropped (s ∷ segments) = each_new all dropped segments ∙ sym (one_each (map (segment_view all dropped) segments))

-- those of its segments
pub new_triples_seen : (all : List Sight) (chain : Chain) → new_triples_of chain ≡ new_triples (segments_of all chain)
new_triples_seen all chain = new_of all chain.dropped chain.segments

-- two publications add the same triples
pub one_addition : (x : Input) (a b : Chain) → Gives x a → Gives x b → new_triples_of a ≡ new_triples_of b
one_addition x a b p q = new_triples_seen x.all a ∙ ap new_triples (one_gives x a b p q).2 ∙ sym (new_triples_seen x.all b)
