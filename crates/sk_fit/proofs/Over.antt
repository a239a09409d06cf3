-- A publication is a chain over its observations.
use Rattle.std.proofs.Common.{◌≡◌, ◌≢◌, ℕ, ◌+◌, ◌<◌, ◌≤◌, List, [], ◌∷◌, ◌++◌, length, map, refl, sym, subst, inl, inr, ◌∙◌, arith, true}
use Rattle.std.proofs.lemmas.Bool.Decides.{eqb_tells}
use Rattle.std.proofs.lemmas.Option.{slice_get_within}
use Rattle.std.specs.Prelude.{Option, Some, None}
use Rattle.std.specs.List.{AllByRecursion}
use Rattle.sk_publishing.specs.Row.{RowView, AreRows}
use Rattle.sk_clock.specs.Clock.{ClockView, total}
use Rattle.sk_publishing.specs.Terms.{Sight, Terms, partition_at, sights, sights_from}
use Rattle.sk_publishing.specs.Chain.{LastEnd, PartitionEnd, FixedEnd, BlockedEnd, SegmentView, last_of, covered_by, first_or, EachFollowed, FirstAndLater, ForNext, BeginsWithOld, LaterCover, IsFixed, IsBlocked, IsEnded}
use Rattle.sk_publishing.specs.Kept.{is_new}
use Rattle.sk_triples.specs.Kernel.{TriplesView}
use Rattle.sk_line.proofs.Lists.{all_front, all_back, all_append}
use Rattle.sk_publishing.proofs.Chains.{starts}
use Rattle.sk_fit.specs.declared.settings.Settings.{Settings}
use Rattle.sk_fit.specs.declared.chain.Chain.{Chain}
use Rattle.sk_fit.specs.declared.chain.Segment.{Segment}
use Rattle.sk_fit.specs.declared.chain.End.{End}
use Rattle.sk_fit.specs.declared.chain.End.TheVariants.{Last, Partition, Fixed, Blocked}
use Rattle.sk_fit.specs.Given.{terms_of, segment_view, end_view, IsPlaced, ArePlaced}
use Rattle.sk_fit.specs.Causes.{Gives, input}
use Rattle.sk_fit.proofs.Kept.{Ordered, Across, ordered_split, kept_all, kept_ordered}
use Rattle.sk_fit.proofs.Observed.{from_place, all_sights}
use Rattle.sk_fit.proofs.OldNumber.{olds_within, olds_before}
use Rattle.sk_fit.specs.Over.{IsEndOver, IsSegmentWithin, FollowOn, IsChainOver}

-- the place is smaller
abbrev Earlier : Sight → Sight → Type 0
Earlier a b = a.place < b.place

sights_ordered : (place : ℕ) (rows : List RowView) → Ordered Earlier (sights_from place rows)
sights_ordered place [] = tt
sights_ordered place (r ∷ rows) = (from_place (place + 1) rows place (omega arith), sights_ordered (place + 1) rows)

-- the last of some observations, which is not before the first
record HasLast (P : Sight → Type 0) (o : Sight) (os : List Sight) : Type 0 where
  pub last : Sight
  pub is : last_of (o ∷ os) ≡ Some last
  pub has : P last
  pub not_before : o.place ≤ last.place

last_found : (P : Sight → Type 0) (o : Sight) (os : List Sight) → AllByRecursion P (o ∷ os) → Ordered Earlier (o ∷ os) → HasLast P o os
last_found P o [] h w = record { last = o; is = refl; has = h.0; not_before = omega arith }
last_found P o (x ∷ os) h w =
    let r = last_found P x os h.1 w.1 in
    record { last = r.last; is = r.is; has = r.has; not_before = (let p : o.place < x.place = w.0.0 in let q = r.not_before in omega arith) }

-- ---- ends

module _ (count : ℕ) where
  unblocked : (e : End) → ((low high : ℕ) → end_view e ≢ BlockedEnd low high) → IsEndOver count e
  unblocked Last h = tt
  unblocked Partition h = tt
  unblocked Fixed h = tt
  unblocked (Blocked low high) h = absurd (h low high refl)

  blocked : (e : End) (low high : ℕ) → end_view e ≡ BlockedEnd low high → low < count → high < count → IsEndOver count e
  blocked Last low high e p q = tt
  blocked Partition low high e p q = tt
  blocked Fixed low high e p q = tt
  blocked (Blocked l h) low high e p q =
      let same : l ≡ low = cc in
      let same' : h ≡ high = cc in
      (omega arith, omega arith)

  last_end : (e : End) → end_view e ≡ LastEnd → IsEndOver count e
  last_end e h = unblocked e (λ low high b. (let c : LastEnd ≡ BlockedEnd low high = sym h ∙ b in cc))

  partition_end : (e : End) → end_view e ≡ PartitionEnd → IsEndOver count e
  partition_end e h = unblocked e (λ low high b. (let c : PartitionEnd ≡ BlockedEnd low high = sym h ∙ b in cc))

  fixed_end : (e : End) → end_view e ≡ FixedEnd → IsEndOver count e
  fixed_end e h = unblocked e (λ low high b. (let c : FixedEnd ≡ BlockedEnd low high = sym h ∙ b in cc))

-- ---- places

-- what is kept stands where new ones do
record IsAmong (first_new count : ℕ) (o : Sight) : Type 0 where
  pub from : first_new ≤ o.place
  pub to : o.place < count

module _ (t : Terms) (k count : ℕ) (within : k ≤ count) (all : List Sight) (dropped : List ℕ) where
  abbrev view : Segment → SegmentView
  view s = segment_view all dropped s

  ends_anyhow : (Within : Terms → SegmentView → Sight → Type 0) (s : Segment) (next : List Sight) → AllByRecursion (IsAmong k count) next
      → ((o : Sight) → IsAmong k count o → Within t (view s) o → IsEndOver count s.ended) → IsEnded Within t (view s) (first_or next None) → IsEndOver count s.ended
  ends_anyhow Within s [] among told h = last_end count s.ended h
  ends_anyhow Within s (o ∷ next) among told h = elim (eqb_tells (partition_at t o.tick) (partition_at t (view s).anchor.ticks)) [
    | inl w ↦ told o among.0 (h.0 w.1)
    | inr w ↦ partition_end count s.ended (h.1 w.1)
  ]

  ends_fixed : (s : Segment) (next : List Sight) → AllByRecursion (IsAmong k count) next → IsEnded IsFixed t (view s) (first_or next None) → IsEndOver count s.ended
  ends_fixed s next among h = ends_anyhow IsFixed s next among (λ o a e. fixed_end count s.ended e) h

  one_of : (run front back : List Sight) (o : Sight) → run ≡ front ++ o ∷ back → AllByRecursion (IsAmong k count) run → IsAmong k count o
  one_of run front back o e h = (all_back (IsAmong k count) front (o ∷ back) (subst (AllByRecursion (IsAmong k count)) e h)).0

  ends_blocked : (s : Segment) (next : List Sight) → AllByRecursion (IsAmong k count) (view s).covered → AllByRecursion (IsAmong k count) next
      → IsEnded IsBlocked t (view s) (first_or next None) → IsEndOver count s.ended
  ends_blocked s next own among h = ends_anyhow IsBlocked s next among told h
    where
      told : (o : Sight) → IsAmong k count o → IsBlocked t (view s) o → IsEndOver count s.ended
      told o a b =
          let run : AllByRecursion (IsAmong k count) ((view s).covered ++ o ∷ []) = all_append (IsAmong k count) (view s).covered (o ∷ []) own (a, tt) in
          let low = one_of ((view s).covered ++ o ∷ []) b.is_low.front b.is_low.back b.low b.is_low.joined run in
          let high = one_of ((view s).covered ++ o ∷ []) b.is_high.front b.is_high.back b.high b.is_high.joined run in
          blocked count s.ended b.low.place b.high.place b.named low.to high.to

  places_within : (c : List Sight) (first past : ℕ) → IsPlaced k c first past → AllByRecursion (IsAmong k count) c → Ordered Earlier c → (first ≤ past) × (past ≤ count)
  places_within [] first past p among order = (let a = p.0 in let b = p.1 in (omega arith, omega arith))
  places_within (o ∷ os) first past p among order =
      let r = last_found (IsAmong k count) o os among order in
      let a : first ≡ o.place = p.0 in
      let b : past ≡ r.last.place + 1 = subst (λ (z : Option Sight). ForNext z (λ l. past ≡ l.place + 1)) r.is p.1 in
      let c = r.has.to in
      let d = r.not_before in
      (omega arith, omega arith)

  -- a segment is past before the first that stands after all that it covers
  past_before : (c : List Sight) (first past : ℕ) (o : Sight) → IsPlaced k c first past → Ordered Earlier c → AllByRecursion (λ x. Earlier x o) c → IsAmong k count o → past ≤ o.place
  past_before [] first past o p order before among = (let a = p.1 in let b = among.from in omega arith)
  past_before (x ∷ xs) first past o p order before among =
      let r = last_found (λ l. Earlier l o) x xs before order in
      let b : past ≡ r.last.place + 1 = subst (λ (z : Option Sight). ForNext z (λ l. past ≡ l.place + 1)) r.is p.1 in
      let c : r.last.place < o.place = r.has in
      omega arith

  -- where a segment that covers some has its first place
  begins_at : (c : List Sight) (o : Sight) (m : List Sight) (first past : ℕ) → c ≡ o ∷ m → IsPlaced k c first past → first ≡ o.place
  begins_at c o m first past e p = (subst (λ (z : List Sight). IsPlaced k z first past) e p).0

  heads_of : (xs ys : List Sight) (o : Sight) (m : List Sight) → xs ≡ o ∷ m → Across Earlier ys xs → AllByRecursion (λ x. Earlier x o) ys
  heads_of xs [] o m e h = tt
  heads_of xs (y ∷ ys) o m e h = ((subst (AllByRecursion (Earlier y)) e h.0).0, heads_of xs ys o m e h.1)

  across_front : (xs ys zs : List Sight) → Across Earlier xs (ys ++ zs) → Across Earlier xs ys
  across_front [] ys zs h = tt
  across_front (x ∷ xs) ys zs h = (all_front (Earlier x) ys zs h.0, across_front xs ys zs h.1)

  follows : (s next : Segment) → IsPlaced k (view s).covered s.first s.past → IsPlaced k (view next).covered next.first next.past → 0 < length (view next).covered
      → Ordered Earlier (view s).covered → AllByRecursion (IsAmong k count) (view next).covered → Across Earlier (view s).covered (view next).covered → s.past ≤ next.first
  follows s next p q some order among across =
      let b = starts (view next).covered some in
      let is_among : IsAmong k count b.0 = (subst (AllByRecursion (IsAmong k count)) b.2 among).0 in
      let l : s.past ≤ b.0.place = past_before (view s).covered s.first s.past b.0 p order (heads_of (view next).covered (view s).covered b.0 b.1 b.2 across) is_among in
      let e : next.first ≡ b.0.place = begins_at (view next).covered b.0 b.1 next.first next.past b.2 q in
      omega arith

  follow_on : (s : Segment) (rest : List Segment) → ArePlaced k all dropped (s ∷ rest) → AllByRecursion (λ l. 0 < length l.covered) (map view rest)
      → AllByRecursion (IsAmong k count) (covered_by (map view rest)) → Ordered Earlier (view s).covered → Across Earlier (view s).covered (covered_by (map view rest))
      → FollowOn rest → FollowOn (s ∷ rest)
  follow_on s [] placed some among order across h = tt
  follow_on s (next ∷ rest) placed some among order across h = (
    follows s next placed.0 placed.1.0 some.0 order (all_front (IsAmong k count) (view next).covered (covered_by (map view rest)) among)
        (across_front (view s).covered (view next).covered (covered_by (map view rest)) across),
    h,
  )

  later_over : (segments : List Segment) → ArePlaced k all dropped segments → AllByRecursion (λ l. 0 < length l.covered) (map view segments)
      → EachFollowed (IsEnded IsBlocked t) (map view segments) None → AllByRecursion (IsAmong k count) (covered_by (map view segments)) → Ordered Earlier (covered_by (map view segments))
      → AllByRecursion (IsSegmentWithin count) segments × FollowOn segments
  later_over [] placed some ends among order = (tt, tt)
  later_over (s ∷ rest) placed some ends among order =
      let own = all_front (IsAmong k count) (view s).covered (covered_by (map view rest)) among in
      let others = all_back (IsAmong k count) (view s).covered (covered_by (map view rest)) among in
      let parts = ordered_split Earlier (view s).covered (covered_by (map view rest)) order in
      let places = places_within (view s).covered s.first s.past placed.0 own parts.0 in
      let r = later_over rest placed.1 some.1 ends.1 others parts.1 in (
        (record { from = places.0; to = places.1; ended = ends_blocked s (covered_by (map view rest)) own others ends.0 }, r.0),
        follow_on s rest placed some.1 others parts.0 parts.2 r.1,
      )

  chain_segments : (segments : List Segment) → ArePlaced k all dropped segments → BeginsWithOld t (map view segments) → LaterCover (map view segments)
      → FirstAndLater (IsEnded IsFixed t) (IsEnded IsBlocked t) (map view segments) None → AllByRecursion (IsAmong k count) (covered_by (map view segments))
      → Ordered Earlier (covered_by (map view segments)) → AllByRecursion (IsSegmentWithin count) segments × FollowOn segments
  chain_segments [] placed begins some ends among order = absurd begins
  chain_segments (s ∷ rest) placed begins some ends among order =
      let own = all_front (IsAmong k count) (view s).covered (covered_by (map view rest)) among in
      let others = all_back (IsAmong k count) (view s).covered (covered_by (map view rest)) among in
      let parts = ordered_split Earlier (view s).covered (covered_by (map view rest)) order in
      let places = places_within (view s).covered s.first s.past placed.0 own parts.0 in
      let r = later_over rest placed.1 some ends.1 others parts.1 in (
        (record { from = places.0; to = places.1; ended = ends_fixed s (covered_by (map view rest)) others ends.0 }, r.0),
        follow_on s rest placed some others parts.0 parts.2 r.1,
      )

-- the places of a publication are in order, and within its observations
pub chain_over : (triples : TriplesView) (clock : ClockView) (rows : List RowView) (settings : Settings) (chain : Chain) → AreRows (total clock) rows
    → Gives (input triples clock rows settings) chain → ArePlaced chain.first_new (sights rows) chain.dropped chain.segments → IsChainOver (length rows) chain
chain_over triples clock rows settings chain are g placed =
    let t : Terms = terms_of settings clock g.old in
    let p = g.publication.is_chain in
    let few : chain.first_new ≤ length rows = (let e = g.first_new in let l = olds_within t (total clock) rows are in omega arith) in
    let among : AllByRecursion (IsAmong chain.first_new (length rows)) g.publication.kept =
    kept_all t (IsAmong chain.first_new (length rows)) (sights rows) g.publication.kept g.dropped g.publication.sorts
    (all_sights (λ o. is_new t o ≡ true → IsAmong chain.first_new (length rows) o) rows (λ n row here new.
    record { from = (let e = g.first_new in let l = olds_before t (total clock) rows n row are here new in omega arith); to = slice_get_within rows n row here })) in
    let order : Ordered Earlier g.publication.kept = kept_ordered Earlier t (sights rows) g.publication.kept g.dropped g.publication.sorts (sights_ordered 0 rows) in
    let made = chain_segments t chain.first_new (length rows) few (sights rows) chain.dropped chain.segments placed p.runs.begins p.runs.later p.ends
    (subst (AllByRecursion (IsAmong chain.first_new (length rows))) (sym p.runs.joined) among) (subst (Ordered Earlier) (sym p.runs.joined) order) in
    record { first_new = few; within = made.0; follow = made.1 }
