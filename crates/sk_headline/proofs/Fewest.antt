-- A publication has no fewer lines than its observations need.
use Rattle.std.proofs.Common.{◌≡◌, ℕ, ◌+◌, ◌<◌, ◌≤◌, List, [], ◌∷◌, length, map, None, refl, sym, subst, arith}
use Rattle.std.proofs.lemmas.List.{length-map}
use Rattle.sk_clock.specs.Clock.{lengths, ticks_per, total}
use Rattle.sk_triples.proofs.KernelOf.{positive_count}
use Rattle.sk_publishing.specs.Terms.{Sight, Terms, sights}
use Rattle.sk_publishing.specs.Chain.{SegmentView, new_triples, IsChain}
use Rattle.sk_least.specs.Cover.{IsShortestCover}
use Rattle.sk_least.specs.Lines.{one_if_some, lines_used}
use Rattle.sk_least.specs.Answer.{run_of}
use Rattle.sk_least.proofs.Ahead.{no_fewer_segments}
use Rattle.sk_grammar.specs.Variables.{variables_of, items_of}
use Rattle.sk_outcome.specs.Files.{sc_of}
use Rattle.sk_outcome.specs.Output.{settings_of}
use Rattle.sk_headline.specs.Headline.{terms_for}
use Rattle.sk_headline.specs.Fewest.{NoFewerTriples, NoFewerThanTold}
use Rattle.sk_headline.proofs.Ranges.{clock_ranges, rows_ranges}
use Rattle.sk_headline.proofs.NewTimes.{kept_rise, kept_past_old, kept_past_seam}

at_most_one : (covered : List Sight) → one_if_some covered ≤ 1
at_most_one [] = omega arith
at_most_one (o ∷ os) = omega arith

at_most_all : (segments : List SegmentView) → lines_used segments ≤ length segments
at_most_all [] = omega arith
at_most_all (s ∷ segments) = let one = at_most_one s.covered in let rest = at_most_all segments in omega arith

-- the old last triple, and the new ones
old_and_new : (t : Terms) (kept : List Sight) (chain : List SegmentView) → IsChain t kept None chain → length chain ≡ 1 + length (new_triples chain)
old_and_new t kept [] is = absurd is.runs.begins
old_and_new t kept (s ∷ later) is = let e = each later in omega arith
  where
    each : (later : List SegmentView) → length (new_triples (s ∷ later)) ≡ length later
    each [] = refl
    each (l ∷ later) = let e = each later in omega arith

pub no_fewer_triples : NoFewerTriples
no_fewer_triples options leap_bytes kernel_bytes observation_bytes written p runs shortest =
    let t : Terms = terms_for options p.old p.last in
    let clocked = clock_ranges (variables_of (items_of p.old.doc)) (sc_of options) p.old.clock p.is_old.has_clock in
    let positive : 0 < ticks_per p.old.clock = (let n = positive_count p.old.clock clocked in omega arith) in
    let known = rows_ranges observation_bytes p.old.clock p.leap p.observations p.are_observations in
    let all = p.publication.sorts in
    let used = no_fewer_segments t p.publication.kept None p.chain runs positive
    (kept_rise t (total p.old.clock) p.observations p.publication.kept p.dropped known.0 all)
    (kept_past_old t (sights p.observations) p.publication.kept p.dropped all)
    (kept_past_seam t (sights p.observations) p.publication.kept p.dropped all) p.publication.is_chain shortest in
    let most = at_most_all p.chain in
    let parts = old_and_new t p.publication.kept p.chain p.publication.is_chain in
    omega arith

pub no_fewer_than_told : NoFewerThanTold
no_fewer_than_told options leap_bytes kernel_bytes observation_bytes written p stretches all least =
    let runs : List (List Sight) = map (run_of (sights p.observations)) stretches in
    let few = no_fewer_triples options leap_bytes kernel_bytes observation_bytes written p runs
    (subst (λ (kept : List Sight). IsShortestCover (lengths p.old.clock) (settings_of options).tolerance.units kept runs) (sym all) least.shortest) in
    let same = length-map stretches (run_of (sights p.observations)) in
    omega arith
