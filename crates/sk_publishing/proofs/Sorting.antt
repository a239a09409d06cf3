-- Which observations are kept is determined, and what stops a publication too.
use Rattle.std.proofs.Common.{◌≡◌, ◌<◌, List, [], ◌∷◌, ◌++◌, length, refl, sym, ap, subst, inl, inr, ◌∙◌, append_assoc, append-nil, arith, Bool, true, false}
use Rattle.std.specs.Prelude.{ℤ, Option, Some, None}
use Rattle.std.proofs.lemmas.Int.{ints}
use Rattle.std.specs.List.{AllByRecursion}
use Rattle.std.proofs.lemmas.Bool.Decides.{eqb_tells}
use Rattle.sk_publishing.specs.Terms.{Sight, Terms, partition_at}
use Rattle.sk_line.specs.Triple.{Anchor}
use Rattle.sk_publishing.specs.Meets.{Meets}
use Rattle.sk_publishing.specs.Chain.{SegmentView, first_of, covered_by, first_or, EachFollowed, FirstAndLater, EachJoined, ForNext, IsInPartition, IsOldRate, IsGridRate, HasRate, anchor_due, IsNotLater, IsChain, LaterCover}
use Rattle.sk_publishing.specs.Kept.{is_new, EndsWith, HasNoRate, HasTimeFall, IsDropped, SortsNext, SortsFrom, Sorts, IsPublication, StopsAtNoRate, StopsAtTimeFall}
use Rattle.sk_publishing.specs.Laws.{OnePublication, Stops, OneStop}
use Rattle.sk_line.proofs.Lists.{all_back, Same, First_ends, Second_ends, fronts, heads, tails}
use Rattle.sk_publishing.proofs.Chains.{one_chain, chain_extends}

not_both : (b : Bool) → b ≡ false → b ≡ true → ⊥
not_both b p q = let e : false ≡ true = sym p ∙ q in cc

sorts_next_same : (t : Terms) (kept dropped : List Sight) (o : Sight) (k d k' d' : List Sight)
    → SortsNext t kept dropped o k d → SortsNext t kept dropped o k' d' → (k ≡ k') × (d ≡ d')
sorts_next_same t kept dropped o k d k' d' (inl p) (inl q) = (p.1 ∙ sym q.1, p.2 ∙ sym q.2)
sorts_next_same t kept dropped o k d k' d' (inl p) (inr (inl q)) = absurd (not_both _ p.0 q.0.is_new)
sorts_next_same t kept dropped o k d k' d' (inl p) (inr (inr q)) = absurd (not_both _ p.0 q.0)
sorts_next_same t kept dropped o k d k' d' (inr (inl p)) (inl q) = absurd (not_both _ q.0 p.0.is_new)
sorts_next_same t kept dropped o k d k' d' (inr (inl p)) (inr (inl q)) = (p.1 ∙ sym q.1, p.2 ∙ sym q.2)
sorts_next_same t kept dropped o k d k' d' (inr (inl p)) (inr (inr q)) = absurd (q.1 p.0)
sorts_next_same t kept dropped o k d k' d' (inr (inr p)) (inl q) = absurd (not_both _ q.0 p.0)
sorts_next_same t kept dropped o k d k' d' (inr (inr p)) (inr (inl q)) = absurd (p.1 q.0)
sorts_next_same t kept dropped o k d k' d' (inr (inr p)) (inr (inr q)) = (p.2 ∙ sym q.2, p.3 ∙ sym q.3)

moved : (t : Terms) (rest k d k' d' kept dropped : List Sight) → k ≡ k' → d ≡ d' → SortsFrom t k d rest kept dropped → SortsFrom t k' d' rest kept dropped
moved t rest k d k' d' kept dropped e f s =
    subst (λ (x : List Sight). SortsFrom t x d' rest kept dropped) e (subst (λ (x : List Sight). SortsFrom t k x rest kept dropped) f s)

pub sorts_same : (t : Terms) (rest kept dropped k d k' d' : List Sight)
    → SortsFrom t kept dropped rest k d → SortsFrom t kept dropped rest k' d' → (k ≡ k') × (d ≡ d')
sorts_same t [] kept dropped k d k' d' p q = (p.0 ∙ sym q.0, p.1 ∙ sym q.1)
sorts_same t (o ∷ rest) kept dropped k d k' d' p q =
    let e = sorts_next_same t kept dropped o p.0 p.1 q.0 q.1 p.2 q.2 in
    sorts_same t rest p.0 p.1 k d k' d' p.3 (moved t rest q.0 q.1 p.0 p.1 k' d' (sym e.0) (sym e.1) q.3)

-- the observations one part after another
pub sorts_parts : (t : Terms) (xs ys kept dropped k d : List Sight) → SortsFrom t kept dropped (xs ++ ys) k d
    → (k' : List Sight) × (d' : List Sight) × SortsFrom t kept dropped xs k' d' × SortsFrom t k' d' ys k d
sorts_parts t [] ys kept dropped k d s = (kept, dropped, (refl, refl), s)
sorts_parts t (o ∷ xs) ys kept dropped k d s =
    let r = sorts_parts t xs ys s.0 s.1 k d s.3 in
    (r.0, r.1, (s.0, s.1, s.2, r.2), r.3)

-- what is kept stays kept
pub kept_grows : (t : Terms) (rest kept dropped k d : List Sight) → SortsFrom t kept dropped rest k d
    → (more : List Sight) × (k ≡ kept ++ more)
kept_grows t [] kept dropped k d s = ([], s.0 ∙ sym (append-nil kept))
kept_grows t (o ∷ rest) kept dropped k d s = grown (kept_grows t rest s.0 s.1 k d s.3) s.2
  where
    grown : ((more : List Sight) × (k ≡ s.0 ++ more)) → SortsNext t kept dropped o s.0 s.1 → (more : List Sight) × (k ≡ kept ++ more)
    grown r (inl p) = (r.0, let e = r.1 in let f = p.1 in cc)
    grown r (inr (inl p)) = (r.0, let e = r.1 in let f = p.1 in cc)
    grown r (inr (inr p)) = (o ∷ r.0, r.1 ∙ ap (λ (z : List Sight). z ++ r.0) p.2 ∙ append_assoc kept (o ∷ []) r.0)

pub one_publication : OnePublication
one_publication t all d e a b p q =
    let same = sorts_same t all [] [] p.kept d q.kept e p.sorts q.sorts in
    (same.1, one_chain t p.kept None a b p.is_chain (subst (λ (z : List Sight). IsChain t z None b) (sym same.0) q.is_chain))

-- ---- what stops a publication

-- what both kinds of stop have in common
pub record Bars (t : Terms) (kept : List Sight) (o : Sight) : Type 0 where
  pub chain : List SegmentView
  pub last : SegmentView
  pub so_far : IsChain t kept (Some o) chain
  pub is_last : EndsWith chain last
  pub bars : (s : SegmentView) → s.anchor ≡ anchor_due t last o → (¬ IsInPartition t last o → IsNotLater t last o)
      → IsGridRate t s.rate → Meets t.gauge s.anchor s.rate o → ⊥

pub no_rate_bars : (t : Terms) (kept : List Sight) (o : Sight) → HasNoRate t kept o → Bars t kept o
no_rate_bars t kept o h = record {
  chain = h.chain;
  last = h.last;
  so_far = h.so_far;
  is_last = h.is_last;
  bars = λ s e _ g m. h.none g.0 g.1 (subst (λ (r : ℤ). Meets t.gauge (anchor_due t h.last o) r o) g.2 (subst (λ (x : Anchor). Meets t.gauge x s.rate o) e m));
}

pub time_fall_bars : (t : Terms) (kept : List Sight) (o : Sight) → HasTimeFall t kept o → Bars t kept o
time_fall_bars t kept o h = record {
  chain = h.chain;
  last = h.last;
  so_far = h.so_far;
  is_last = h.is_last;
  bars = λ s e n _ _. (let a = n h.later_partition in let b = h.falls in omega (arith, ints));
}

pub covered-append : (xs ys : List SegmentView) → covered_by (xs ++ ys) ≡ covered_by xs ++ covered_by ys
covered-append [] ys = refl
covered-append (x ∷ xs) ys = ap (λ (z : List Sight). x.covered ++ z) (covered-append xs ys) ∙ sym (append_assoc x.covered (covered_by xs) (covered_by ys))

same_rest : (xs ys zs : List Sight) → xs ++ ys ≡ xs ++ zs → ys ≡ zs
same_rest [] ys zs e = e
same_rest (x ∷ xs) ys zs e = same_rest xs ys zs (tails x x _ _ e)

joined_at : (R : SegmentView → SegmentView → Type 0) (front : List SegmentView) (s c : SegmentView) (back : List SegmentView)
    → EachJoined R ((front ++ s ∷ []) ++ c ∷ back) → R s c
joined_at R [] s c back h = h.0
joined_at R (x ∷ []) s c back h = h.1.0
joined_at R (x ∷ y ∷ front) s c back h = joined_at R (y ∷ front) s c back h.1

followed_at : (P : SegmentView → Option Sight → Type 0) (front : List SegmentView) (c : SegmentView) (back : List SegmentView) (next : Option Sight)
    → EachFollowed P (front ++ c ∷ back) next → P c (first_or (covered_by back) next)
followed_at P [] c back next h = h.0
followed_at P (x ∷ front) c back next h = followed_at P front c back next h.1

cover_at : (front : List SegmentView) (c : SegmentView) (back : List SegmentView)
    → AllByRecursion (λ l. 0 < length l.covered) (front ++ c ∷ back) → 0 < length c.covered
cover_at front c back h = (all_back _ front (c ∷ back) h).0

-- the first of a list that goes on
begins_with : (xs ys zs : List Sight) (o : Sight) → 0 < length xs → xs ++ ys ≡ o ∷ zs → (m : List Sight) × (xs ≡ o ∷ m)
begins_with [] ys zs o h e = absurd (omega arith)
begins_with (x ∷ xs) ys zs o h e = (xs, ap (λ (z : Sight). z ∷ xs) (heads x o _ _ e))

later_cover_at : (front : List SegmentView) (last c : SegmentView) (back : List SegmentView)
    → LaterCover ((front ++ last ∷ []) ++ c ∷ back) → 0 < length c.covered
later_cover_at [] last c back h = h.0
later_cover_at (x ∷ front) last c back h = cover_at (front ++ last ∷ []) c back h

later_fact_at : (P Q : SegmentView → Option Sight → Type 0) (front : List SegmentView) (last c : SegmentView) (back : List SegmentView) (next : Option Sight)
    → FirstAndLater P Q ((front ++ last ∷ []) ++ c ∷ back) next → Q c (first_or (covered_by back) next)
later_fact_at P Q [] last c back next h = h.1.0
later_fact_at P Q (x ∷ front) last c back next h = followed_at Q (front ++ last ∷ []) c back next h.1

bars_parts : (t : Terms) (kept more : List Sight) (o : Sight) (next : Option Sight) (front : List SegmentView) (last : SegmentView) (cs : List SegmentView)
    → covered_by (front ++ last ∷ []) ≡ kept
    → ((s : SegmentView) → s.anchor ≡ anchor_due t last o → (¬ IsInPartition t last o → IsNotLater t last o)
    → IsGridRate t s.rate → Meets t.gauge s.anchor s.rate o → ⊥)
    → IsChain t (kept ++ o ∷ more) next ((front ++ last ∷ []) ++ cs) → ⊥
bars_parts t kept more o next front last [] e bars p =
    let all : covered_by (front ++ last ∷ []) ++ [] ≡ kept ++ o ∷ more =
    sym (covered-append (front ++ last ∷ []) []) ∙ p.runs.joined in
    let rest : [] ≡ o ∷ more = same_rest kept [] (o ∷ more) (ap (λ (z : List Sight). z ++ []) (sym e) ∙ all) in
    absurd (cc)
bars_parts t kept more o next front last (c ∷ back) e bars p =
    let all : covered_by (front ++ last ∷ []) ++ covered_by (c ∷ back) ≡ kept ++ o ∷ more =
    sym (covered-append (front ++ last ∷ []) (c ∷ back)) ∙ p.runs.joined in
    let rest : c.covered ++ covered_by back ≡ o ∷ more =
    same_rest kept (c.covered ++ covered_by back) (o ∷ more) (ap (λ (z : List Sight). z ++ (c.covered ++ covered_by back)) (sym e) ∙ all) in
    let begin = begins_with c.covered (covered_by back) more o (later_cover_at front last c back p.runs.later) rest in
    let first : first_of c.covered ≡ Some o = ap first_of begin.1 in
    let within : IsInPartition t last o → c.anchor ≡ anchor_due t last o =
    subst (λ (f : Option Sight). ForNext f (λ o. IsInPartition t last o → c.anchor ≡ anchor_due t last o)) first
    (joined_at _ front last c back p.anchor_within) in
    let anew : ¬ IsInPartition t last o → (c.anchor ≡ anchor_due t last o) × IsNotLater t last o =
    subst (λ (f : Option Sight). ForNext f (λ o. ¬ IsInPartition t last o → (c.anchor ≡ anchor_due t last o) × IsNotLater t last o)) first
    (joined_at _ front last c back p.anchor_anew) in
    let due : c.anchor ≡ anchor_due t last o =
    elim (eqb_tells (partition_at t o.tick) (partition_at t last.anchor.ticks)) [ inl h ↦ within h.1 | inr h ↦ (anew h.1).0 ] in
    let rate : HasRate (IsGridRate t) t c = later_fact_at (λ s _. HasRate (IsOldRate t) t s) (λ s _. HasRate (IsGridRate t) t s) front last c back None p.meets in
    let met : AllByRecursion (Meets t.gauge c.anchor c.rate) (o ∷ begin.0) = subst (AllByRecursion (Meets t.gauge c.anchor c.rate)) begin.1 rate.1 in
    bars c due (λ h. (anew h).1) rate.0 met.0

-- no chain goes on over an observation that stops it
pub bars_chain : (t : Terms) (kept more : List Sight) (o : Sight) (next : Option Sight) (b : List SegmentView)
    → Bars t kept o → IsChain t (kept ++ o ∷ more) next b → ⊥
bars_chain t kept more o next b h p =
    let ext = chain_extends t h.chain b kept (o ∷ more) (Some o) next refl h.so_far p in
    let e : b ≡ (h.is_last.0 ++ h.last ∷ []) ++ ext.0 = ext.1 ∙ ap (λ (z : List SegmentView). z ++ ext.0) h.is_last.1 in
    bars_parts t kept more o next h.is_last.0 h.last ext.0 (ap covered_by (sym h.is_last.1) ∙ h.so_far.runs.joined) h.bars
    (subst (IsChain t (kept ++ o ∷ more) next) e p)

-- an observation that stops is kept, whatever follows it
pub record BarsAt (t : Terms) (all : List Sight) (o : Sight) : Type 0 where
  pub before : List Sight
  pub after : List Sight
  pub here : all ≡ before ++ o ∷ after
  pub new : is_new t o ≡ true
  pub kept : List Sight
  pub dropped : List Sight
  pub sorts : Sorts t before kept dropped
  pub bars : Bars t kept o
  pub not_dropped : ¬ IsDropped t kept dropped o

last_same : (front front' : List SegmentView) (s s' : SegmentView) → front ++ s ∷ [] ≡ front' ++ s' ∷ [] → s ≡ s'
last_same [] [] s s' e = heads s s' _ _ e
last_same [] (x ∷ []) s s' e = let f = tails s x _ _ e in absurd (cc)
last_same [] (x ∷ y ∷ front') s s' e = let f = tails s x _ _ e in absurd (cc)
last_same (x ∷ []) [] s s' e = let f = tails x s' _ _ e in absurd (cc)
last_same (x ∷ y ∷ front) [] s s' e = let f = tails x s' _ _ e in absurd (cc)
last_same (x ∷ front) (x' ∷ front') s s' e = last_same front front' s s' (tails x x' _ _ e)

abbrev no_rate_at : (t : Terms) (all : List Sight) (o : Sight) → StopsAtNoRate t all o → BarsAt t all o
no_rate_at t all o h = record {
  before = h.before;
  after = h.after;
  here = h.here;
  new = h.is_new;
  kept = h.kept;
  dropped = h.dropped;
  sorts = h.sorts;
  bars = no_rate_bars t h.kept o h.no_rate;
  not_dropped = λ d. (let a = d.room in let b = h.used_up in omega arith);
}

abbrev time_fall_at : (t : Terms) (all : List Sight) (o : Sight) → StopsAtTimeFall t all o → BarsAt t all o
time_fall_at t all o h = record {
  before = h.before;
  after = h.after;
  here = h.here;
  new = h.is_new;
  kept = h.kept;
  dropped = h.dropped;
  sorts = h.sorts;
  bars = time_fall_bars t h.kept o h.falls;
  not_dropped = λ d.
      let same = one_chain t h.kept (Some o) d.no_rate.chain h.falls.chain d.no_rate.so_far h.falls.so_far in
      let last = last_same d.no_rate.is_last.0 h.falls.is_last.0 d.no_rate.last h.falls.last (sym d.no_rate.is_last.1 ∙ same ∙ h.falls.is_last.1) in
      h.falls.later_partition (d.no_rate.same_partition ∙ ap (λ (s : SegmentView). partition_at t s.anchor.ticks) last);
}

stop_at : (t : Terms) (all : List Sight) (o : Sight) → Stops t all o → BarsAt t all o
stop_at t all o (inl h) = no_rate_at t all o h
stop_at t all o (inr h) = time_fall_at t all o h

-- what is kept of more observations goes on over one that stops
keeps_it : (t : Terms) (before : List Sight) (o : Sight) (rest kept dropped k d : List Sight)
    → Sorts t before kept dropped → is_new t o ≡ true → ¬ IsDropped t kept dropped o → Sorts t (before ++ o ∷ rest) k d
    → (more : List Sight) × (k ≡ kept ++ o ∷ more)
keeps_it t before o rest kept dropped k d s new not_dropped all =
    let parts = sorts_parts t before (o ∷ rest) [] [] k d all in
    let same = sorts_same t before [] [] parts.0 parts.1 kept dropped parts.2 s in
    let step = moved t (o ∷ rest) parts.0 parts.1 kept dropped k d same.0 same.1 parts.3 in
    let grown = kept_grows t rest step.0 step.1 k d step.3 in
    one grown step.2
  where
    one : {k1 d1 : List Sight} → ((more : List Sight) × (k ≡ k1 ++ more)) → SortsNext t kept dropped o k1 d1 → (more : List Sight) × (k ≡ kept ++ o ∷ more)
    one g (inl p) = absurd (not_both _ p.0 new)
    one g (inr (inl p)) = absurd (not_dropped p.0)
    one g (inr (inr p)) = (g.0, g.1 ∙ ap (λ (z : List Sight). z ++ g.0) p.2 ∙ append_assoc kept (o ∷ []) g.0)

stops_none : (t : Terms) (all : List Sight) (o : Sight) (dropped : List Sight) (chain : List SegmentView)
    → BarsAt t all o → ¬ IsPublication t all dropped chain
stops_none t all o dropped chain h p =
    let k = keeps_it t h.before o h.after h.kept h.dropped p.kept dropped h.sorts h.new h.not_dropped
    (subst (λ (z : List Sight). Sorts t z p.kept dropped) h.here p.sorts) in
    bars_chain t h.kept k.0 o None chain h.bars (subst (λ (z : List Sight). IsChain t z None chain) k.1 p.is_chain)

-- an observation that stops does not stand before another one
stops_later : (t : Terms) (before m kept dropped k d : List Sight) (o o' : Sight) → Sorts t before kept dropped → is_new t o ≡ true
    → ¬ IsDropped t kept dropped o → Bars t kept o → Sorts t (before ++ o ∷ m) k d → Bars t k o' → ⊥
stops_later t before m kept dropped k d o o' s new not_dropped bars s' bars' =
    let more = keeps_it t before o m kept dropped k d s new not_dropped s' in
    bars_chain t kept more.0 o (Some o') bars'.chain bars (subst (λ (z : List Sight). IsChain t z (Some o') bars'.chain) more.1 bars'.so_far)

same_place : (t : Terms) (all : List Sight) (o o' : Sight) → (h : BarsAt t all o) → (h' : BarsAt t all o') → (h.before ≡ h'.before) × (o ≡ o')
same_place t all o o' h h' = elim (fronts h.before (o ∷ h.after) h'.before (o' ∷ h'.after) (sym h.here ∙ h'.here)) [
  | Same p q ↦ (p, heads o o' _ _ q)
  | First_ends x m p q ↦ absurd (stops_later t h.before m h.kept h.dropped h'.kept h'.dropped o o' h.sorts h.new h.not_dropped h.bars
      (subst (λ (z : List Sight). Sorts t z h'.kept h'.dropped) (p ∙ ap (λ (y : Sight). h.before ++ y ∷ m) (sym (heads o x _ _ q))) h'.sorts) h'.bars)
  | Second_ends x m p q ↦ absurd (stops_later t h'.before m h'.kept h'.dropped h.kept h.dropped o' o h'.sorts h'.new h'.not_dropped h'.bars
      (subst (λ (z : List Sight). Sorts t z h.kept h.dropped) (p ∙ ap (λ (y : Sight). h'.before ++ y ∷ m) (sym (heads o' x _ _ q))) h.sorts) h.bars)
]

stops_apart : (t : Terms) (all : List Sight) (o o' : Sight) → StopsAtNoRate t all o → ¬ StopsAtTimeFall t all o'
stops_apart t all o o' h f =
    let place = same_place t all o o' (no_rate_at t all o h) (time_fall_at t all o' f) in
    let kept : h.kept ≡ f.kept = (sorts_same t f.before [] [] h.kept h.dropped f.kept f.dropped
    (subst (λ (z : List Sight). Sorts t z h.kept h.dropped) place.0 h.sorts) f.sorts).0 in
    let so_far : IsChain t f.kept (Some o') h.no_rate.chain = subst (λ (z : List Sight). IsChain t z (Some o') h.no_rate.chain) kept
    (subst (λ (x : Sight). IsChain t h.kept (Some x) h.no_rate.chain) place.1 h.no_rate.so_far) in
    let same = one_chain t f.kept (Some o') h.no_rate.chain f.falls.chain so_far f.falls.so_far in
    let last = last_same h.no_rate.is_last.0 f.falls.is_last.0 h.no_rate.last f.falls.last (sym h.no_rate.is_last.1 ∙ same ∙ f.falls.is_last.1) in
    f.falls.later_partition (ap (λ (x : Sight). partition_at t x.tick) (sym place.1) ∙ h.no_rate.same_partition
    ∙ ap (λ (s : SegmentView). partition_at t s.anchor.ticks) last)

-- the segment that could not go on to it is one alone
pub stops_last : (t : Terms) (all : List Sight) (o o' : Sight) (h : StopsAtNoRate t all o) (f : StopsAtNoRate t all o') → h.no_rate.last ≡ f.no_rate.last
stops_last t all o o' h f =
    let place = same_place t all o o' (no_rate_at t all o h) (no_rate_at t all o' f) in
    let kept : h.kept ≡ f.kept = (sorts_same t f.before [] [] h.kept h.dropped f.kept f.dropped
    (subst (λ (z : List Sight). Sorts t z h.kept h.dropped) place.0 h.sorts) f.sorts).0 in
    let so_far : IsChain t f.kept (Some o') h.no_rate.chain = subst (λ (z : List Sight). IsChain t z (Some o') h.no_rate.chain) kept
    (subst (λ (x : Sight). IsChain t h.kept (Some x) h.no_rate.chain) place.1 h.no_rate.so_far) in
    let same = one_chain t f.kept (Some o') h.no_rate.chain f.no_rate.chain so_far f.no_rate.so_far in
    last_same h.no_rate.is_last.0 f.no_rate.is_last.0 h.no_rate.last f.no_rate.last (sym h.no_rate.is_last.1 ∙ same ∙ f.no_rate.is_last.1)

pub one_stop : OneStop
one_stop = record {
  none = λ t all o dropped chain h. stops_none t all o dropped chain (stop_at t all o h);
  one = λ t all o o' h h'. (same_place t all o o' (stop_at t all o h) (stop_at t all o' h')).1;
  apart = stops_apart;
}
