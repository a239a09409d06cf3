-- There is at most one chain.
use Rattle.std.proofs.Common.{◌≡◌, ◌<◌, List, [], ◌∷◌, ◌++◌, length, refl, sym, ap, subst, inl, inr, ◌∙◌, append_assoc, append-nil, length-append, arith}
use Rattle.std.specs.Prelude.{ℤ, Option, Some, None}
use Rattle.std.specs.List.{AllByRecursion}
use Rattle.std.proofs.lemmas.Bool.Decides.{eqb_tells}
use Rattle.sk_publishing.specs.Terms.{Sight, Terms, partition_at}
use Rattle.sk_line.specs.Triple.{Anchor}
use Rattle.sk_publishing.specs.Meets.{Meets}
use Rattle.sk_publishing.specs.Rates.{MeetsAll, IsMiddleRate, IsFirstGreatest, IsFirstLeast}
use Rattle.sk_publishing.specs.Chain.{IsAllowedStep, EndView, SegmentView, first_of, covered_by, first_or, EachFollowed, EachJoined, ForNext, IsInPartition, IsOldRate, IsGridRate, HasRate, IsMaximal, anchor_due, IsNotLater, IsFixed, IsBlocked, IsEnded, IsChain}
use Rattle.sk_publishing.specs.Laws.{OneChain}
use Rattle.sk_line.proofs.Lists.{all_front, all_back, all_append, Same, First_ends, Second_ends, fronts, heads}
use Rattle.sk_publishing.proofs.Bounds.{least_unique, greatest_unique, first_greatest_unique, first_least_unique}

-- ---- parts

abbrev made_of : Anchor → ℤ → List Sight → EndView → SegmentView
made_of a r c e = record { anchor = a; rate = r; covered = c; ended = e }

pub segment_is : (a b : SegmentView) → a.anchor ≡ b.anchor → a.rate ≡ b.rate → a.covered ≡ b.covered → a.ended ≡ b.ended → a ≡ b
segment_is a b p q r s =
    let made : made_of a.anchor a.rate a.covered a.ended ≡ made_of b.anchor b.rate b.covered b.ended = cc in made

pub first_or_append : (xs ys : List Sight) (n : Option Sight) → first_or (xs ++ ys) n ≡ first_or xs (first_or ys n)
first_or_append [] ys n = refl
first_or_append (x ∷ xs) ys n = refl

-- a run that is not empty begins with an observation
pub starts : (xs : List Sight) → 0 < length xs → (o : Sight) × (m : List Sight) × (xs ≡ o ∷ m)
starts [] h = absurd (omega arith)
starts (x ∷ xs) h = (x, xs, refl)

module _ (t : Terms) where
  -- a run goes on as long as an allowed rate meets it
  goes_on : (allowed : ℤ → Type 0) (a b : SegmentView) (o : Sight) (m : List Sight) (na : Option Sight)
      → a.anchor ≡ b.anchor → b.covered ≡ a.covered ++ o ∷ m → na ≡ Some o
      → AllByRecursion (IsInPartition t b) b.covered → HasRate allowed t b → IsMaximal allowed t a na → ⊥
  goes_on allowed a b o m na same longer next partition rate maximal =
      let stays : AllByRecursion (IsInPartition t b) (a.covered ++ o ∷ m) = subst (AllByRecursion (IsInPartition t b)) longer partition in
      let here : IsInPartition t a o = (all_back _ a.covered (o ∷ m) stays).0 ∙ ap (λ (x : Anchor). partition_at t x.ticks) (sym same) in
      let meets : AllByRecursion (Meets t.gauge b.anchor b.rate) (a.covered ++ o ∷ m) = subst (AllByRecursion (Meets t.gauge b.anchor b.rate)) longer rate.1 in
      let fewer : AllByRecursion (Meets t.gauge b.anchor b.rate) (a.covered ++ o ∷ []) =
      all_append _ a.covered (o ∷ []) (all_front _ a.covered (o ∷ m) meets) ((all_back _ a.covered (o ∷ m) meets).0, tt) in
      let moved : AllByRecursion (Meets t.gauge a.anchor b.rate) (a.covered ++ o ∷ []) =
      subst (λ (x : Anchor). AllByRecursion (Meets t.gauge x b.rate) (a.covered ++ o ∷ [])) (sym same) fewer in
      let ended : IsMaximal allowed t a (Some o) = subst (IsMaximal allowed t a) next maximal in
      ended here b.rate rate.0 moved

  -- the runs of two segments with one anchor are the same
  runs_same : (allowed : ℤ → Type 0) (a b : SegmentView) (xs ys : List Sight) (n n' : Option Sight)
      → a.anchor ≡ b.anchor → a.covered ++ xs ≡ b.covered ++ ys
      → AllByRecursion (IsInPartition t a) a.covered → AllByRecursion (IsInPartition t b) b.covered
      → HasRate allowed t a → HasRate allowed t b
      → IsMaximal allowed t a (first_or xs n) → IsMaximal allowed t b (first_or ys n')
      → (a.covered ≡ b.covered) × (xs ≡ ys)
  runs_same allowed a b xs ys n n' same joined pa pb ra rb ma mb = elim (fronts a.covered xs b.covered ys joined) [
    | Same p q ↦ (p, q)
    | First_ends o m p q ↦ absurd (goes_on allowed a b o m (first_or xs n) same p (ap (λ (z : List Sight). first_or z n) q) pb rb ma)
    | Second_ends o m p q ↦ absurd (goes_on allowed b a o m (first_or ys n') (sym same) p (ap (λ (z : List Sight). first_or z n') q) pa ra mb)
  ]

  -- a later segment's anchor is the one due
  abbrev Within : SegmentView → SegmentView → Type 0
  Within before s = ForNext (first_of s.covered) (λ o. IsInPartition t before o → s.anchor ≡ anchor_due t before o)

  abbrev Anew : SegmentView → SegmentView → Type 0
  Anew before s = ForNext (first_of s.covered) (λ o. ¬ IsInPartition t before o → (s.anchor ≡ anchor_due t before o) × IsNotLater t before o)

  pub due_of : (before s : SegmentView) (o : Sight) (m : List Sight) → s.covered ≡ o ∷ m
      → Within before s → Anew before s → s.anchor ≡ anchor_due t before o
  due_of before s o m e within anew =
      let first : first_of s.covered ≡ Some o = ap first_of e in
      let w : IsInPartition t before o → s.anchor ≡ anchor_due t before o =
      subst (λ (f : Option Sight). ForNext f (λ o. IsInPartition t before o → s.anchor ≡ anchor_due t before o)) first within in
      let n : ¬ IsInPartition t before o → (s.anchor ≡ anchor_due t before o) × IsNotLater t before o =
      subst (λ (f : Option Sight). ForNext f (λ o. ¬ IsInPartition t before o → (s.anchor ≡ anchor_due t before o) × IsNotLater t before o)) first anew in
      elim (eqb_tells (partition_at t o.tick) (partition_at t before.anchor.ticks)) [ inl h ↦ w h.1 | inr h ↦ (n h.1).0 ]

  -- ---- one segment is determined by its anchor, its run and what follows

  middle_same : (anchor anchor' : Anchor) (run run' : List Sight) (rate rate' : ℤ) → anchor ≡ anchor' → run ≡ run'
      → IsMiddleRate (IsAllowedStep t) t.gauge anchor run rate → IsMiddleRate (IsAllowedStep t) t.gauge anchor' run' rate' → rate ≡ rate'
  middle_same anchor anchor' run run' rate rate' e f p q =
      let q' : IsMiddleRate (IsAllowedStep t) t.gauge anchor run rate' =
      subst (λ (x : Anchor). IsMiddleRate (IsAllowedStep t) t.gauge x run rate') (sym e) (subst (λ (x : List Sight). IsMiddleRate (IsAllowedStep t) t.gauge anchor' x rate') (sym f) q) in
      let low = least_unique (MeetsAll (IsAllowedStep t) t.gauge anchor run) p.least q'.least p.is_least q'.is_least in
      let high = greatest_unique (MeetsAll (IsAllowedStep t) t.gauge anchor run) p.greatest q'.greatest p.is_greatest q'.is_greatest in
      let a = p.middle in let b = q'.middle in
      cc

  blocked_same : (a b : SegmentView) (o : Sight) → a.anchor ≡ b.anchor → a.covered ≡ b.covered
      → IsBlocked t a o → IsBlocked t b o → a.ended ≡ b.ended
  blocked_same a b o e f p q =
      let low' : IsFirstGreatest (IsAllowedStep t) t.gauge a.anchor (a.covered ++ o ∷ []) q.low q.least =
      subst (λ (x : Anchor). IsFirstGreatest (IsAllowedStep t) t.gauge x (a.covered ++ o ∷ []) q.low q.least) (sym e)
      (subst (λ (x : List Sight). IsFirstGreatest (IsAllowedStep t) t.gauge b.anchor (x ++ o ∷ []) q.low q.least) (sym f) q.is_low) in
      let high' : IsFirstLeast (IsAllowedStep t) t.gauge a.anchor (a.covered ++ o ∷ []) q.high q.greatest =
      subst (λ (x : Anchor). IsFirstLeast (IsAllowedStep t) t.gauge x (a.covered ++ o ∷ []) q.high q.greatest) (sym e)
      (subst (λ (x : List Sight). IsFirstLeast (IsAllowedStep t) t.gauge b.anchor (x ++ o ∷ []) q.high q.greatest) (sym f) q.is_high) in
      let low = first_greatest_unique (IsAllowedStep t) t.gauge a.anchor (a.covered ++ o ∷ []) p.low q.low p.least q.least p.is_low low' in
      let high = first_least_unique (IsAllowedStep t) t.gauge a.anchor (a.covered ++ o ∷ []) p.high q.high p.greatest q.greatest p.is_high high' in
      let pn = p.named in let qn = q.named in
      cc

  fixed_same : (a b : SegmentView) (o : Sight) → a.anchor ≡ b.anchor → a.covered ≡ b.covered
      → IsFixed t a o → IsFixed t b o → a.ended ≡ b.ended
  fixed_same a b o e f p q = p ∙ sym q

  Alike : (Terms → SegmentView → Sight → Type 0) → Type 0
  Alike P = (a b : SegmentView) (o : Sight) → a.anchor ≡ b.anchor → a.covered ≡ b.covered → P t a o → P t b o → a.ended ≡ b.ended

  ended_same : (P : Terms → SegmentView → Sight → Type 0)
      → ((a b : SegmentView) (o : Sight) → a.anchor ≡ b.anchor → a.covered ≡ b.covered → P t a o → P t b o → a.ended ≡ b.ended)
      → (a b : SegmentView) → a.anchor ≡ b.anchor → a.covered ≡ b.covered → (next : Option Sight)
      → IsEnded P t a next → IsEnded P t b next → a.ended ≡ b.ended
  ended_same P alike a b e f None p q = p ∙ sym q
  ended_same P alike a b e f (Some o) p q = elim (eqb_tells (partition_at t o.tick) (partition_at t a.anchor.ticks)) [
    | inl h ↦ alike a b o e f (p.0 h.1) (q.0 (h.1 ∙ ap (λ (x : Anchor). partition_at t x.ticks) e))
    | inr h ↦ p.1 h.1 ∙ sym (q.1 (λ k. h.1 (k ∙ ap (λ (x : Anchor). partition_at t x.ticks) (sym e))))
  ]

  -- ---- the later segments of a chain

  pub record Tail (before : SegmentView) (rest : List Sight) (next : Option Sight) (later : List SegmentView) : Type 0 where
    pub joined : covered_by later ≡ rest
    pub cover : AllByRecursion (λ l. 0 < length l.covered) later
    pub partition : AllByRecursion (λ s. AllByRecursion (IsInPartition t s) s.covered) later
    pub rates : EachFollowed (λ s _. HasRate (IsGridRate t) t s) later None
    pub within : EachJoined Within (before ∷ later)
    pub anew : EachJoined Anew (before ∷ later)
    pub middle : EachFollowed (λ s _. IsMiddleRate (IsAllowedStep t) t.gauge s.anchor s.covered s.rate) later None
    pub maximal : EachFollowed (IsMaximal (IsGridRate t) t) later next
    pub ends : EachFollowed (IsEnded IsBlocked t) later next

  tail_of : (before a : SegmentView) (rest : List Sight) (next : Option Sight) (later : List SegmentView)
      → Tail before rest next (a ∷ later) → Tail a (covered_by later) next later
  tail_of before a rest next later h = record {
    joined = refl;
    cover = h.cover.1;
    partition = h.partition.1;
    rates = h.rates.1;
    within = h.within.1;
    anew = h.anew.1;
    middle = h.middle.1;
    maximal = h.maximal.1;
    ends = h.ends.1;
  }

  -- What two chains have in common they have alike: the chain over more observations goes on from that over fewer.
  pub tail_extends : (before : SegmentView) (as' bs' : List SegmentView) (rest more : List Sight) (next next' : Option Sight)
      → first_or more next' ≡ next → Tail before rest next as' → Tail before (rest ++ more) next' bs'
      → (cs : List SegmentView) × (bs' ≡ as' ++ cs)
  tail_extends before [] bs' rest more next next' e ta tb = (bs', refl)
  tail_extends before (a ∷ later) [] rest more next next' e ta tb =
      let s = starts a.covered ta.cover.0 in
      let front : s.0 ∷ (s.1 ++ covered_by later) ≡ rest = sym (ap (λ (z : List Sight). z ++ covered_by later) s.2) ∙ ta.joined in
      let all : s.0 ∷ ((s.1 ++ covered_by later) ++ more) ≡ rest ++ more = ap (λ (z : List Sight). z ++ more) front in
      let none = tb.joined in
      absurd (cc)
  tail_extends before (a ∷ later) (b ∷ later') rest more next next' e ta tb =
      let joined : a.covered ++ (covered_by later ++ more) ≡ b.covered ++ covered_by later' =
      sym (append_assoc a.covered (covered_by later) more) ∙ ap (λ (z : List Sight). z ++ more) ta.joined ∙ sym tb.joined in
      let s = starts a.covered ta.cover.0 in
      let s' = starts b.covered tb.cover.0 in
      let same_first : s.0 ≡ s'.0 = heads s.0 s'.0 _ _ (sym (ap (λ (z : List Sight). z ++ (covered_by later ++ more)) s.2) ∙ joined
      ∙ ap (λ (z : List Sight). z ++ covered_by later') s'.2) in
      let anchor : a.anchor ≡ b.anchor = due_of before a s.0 s.1 s.2 ta.within.0 ta.anew.0 ∙ ap (anchor_due t before) same_first
      ∙ sym (due_of before b s'.0 s'.1 s'.2 tb.within.0 tb.anew.0) in
      let follows : first_or (covered_by later) next ≡ first_or (covered_by later ++ more) next' =
      ap (first_or (covered_by later)) (sym e) ∙ sym (first_or_append (covered_by later) more next') in
      let runs = runs_same (IsGridRate t) a b (covered_by later ++ more) (covered_by later') next' next' anchor joined ta.partition.0 tb.partition.0
      ta.rates.0 tb.rates.0 (subst (IsMaximal (IsGridRate t) t a) follows ta.maximal.0) tb.maximal.0 in
      let rate : a.rate ≡ b.rate = middle_same a.anchor b.anchor a.covered b.covered a.rate b.rate anchor runs.0 ta.middle.0 tb.middle.0 in
      let ended : a.ended ≡ b.ended = ended_same IsBlocked blocked_same a b anchor runs.0 (first_or (covered_by later) next) ta.ends.0
      (subst (IsEnded IsBlocked t b) (sym (follows ∙ ap (λ (z : List Sight). first_or z next') runs.1)) tb.ends.0) in
      let same : a ≡ b = segment_is a b anchor rate runs.0 ended in
      let tb' : Tail a (covered_by later ++ more) next' later' =
      subst (λ (x : SegmentView). Tail x (covered_by later ++ more) next' later') (sym same)
      (subst (λ (z : List Sight). Tail b z next' later') (sym runs.1) (tail_of before b (rest ++ more) next' later' tb)) in
      let rec = tail_extends a later later' (covered_by later) more next next' e (tail_of before a rest next later ta) tb' in
      let r = rec.1 in
      (rec.0, cc)

  -- the same of whole chains
  pub chain_extends : (as' bs' : List SegmentView) (kept more : List Sight) (next next' : Option Sight)
      → first_or more next' ≡ next → IsChain t kept next as' → IsChain t (kept ++ more) next' bs'
      → (cs : List SegmentView) × (bs' ≡ as' ++ cs)
  chain_extends [] bs' kept more next next' e p q = absurd p.runs.begins
  chain_extends (a ∷ later) [] kept more next next' e p q = absurd q.runs.begins
  chain_extends (a ∷ later) (b ∷ later') kept more next next' e p q =
      let joined : a.covered ++ (covered_by later ++ more) ≡ b.covered ++ covered_by later' =
      sym (append_assoc a.covered (covered_by later) more) ∙ ap (λ (z : List Sight). z ++ more) p.runs.joined ∙ sym q.runs.joined in
      let anchor : a.anchor ≡ b.anchor = p.runs.begins.0 ∙ sym q.runs.begins.0 in
      let rate : a.rate ≡ b.rate = p.runs.begins.1 ∙ sym q.runs.begins.1 in
      let follows : first_or (covered_by later) next ≡ first_or (covered_by later ++ more) next' =
      ap (first_or (covered_by later)) (sym e) ∙ sym (first_or_append (covered_by later) more next') in
      let runs = runs_same (IsOldRate t) a b (covered_by later ++ more) (covered_by later') next' next' anchor joined p.partition.0 q.partition.0
      p.meets.0 q.meets.0 (subst (IsMaximal (IsOldRate t) t a) follows p.maximal.0) q.maximal.0 in
      let ended : a.ended ≡ b.ended = ended_same IsFixed fixed_same a b anchor runs.0 (first_or (covered_by later) next) p.ends.0
      (subst (IsEnded IsFixed t b) (sym (follows ∙ ap (λ (z : List Sight). first_or z next') runs.1)) q.ends.0) in
      let same : a ≡ b = segment_is a b anchor rate runs.0 ended in
      let ta : Tail a (covered_by later) next later = record {
        joined = refl;
        cover = p.runs.later;
        partition = p.partition.1;
        rates = p.meets.1;
        within = p.anchor_within;
        anew = p.anchor_anew;
        middle = p.middle.1;
        maximal = p.maximal.1;
        ends = p.ends.1;
      } in
      let tb : Tail b (covered_by later') next' later' = record {
        joined = refl;
        cover = q.runs.later;
        partition = q.partition.1;
        rates = q.meets.1;
        within = q.anchor_within;
        anew = q.anchor_anew;
        middle = q.middle.1;
        maximal = q.maximal.1;
        ends = q.ends.1;
      } in
      let tb' : Tail a (covered_by later ++ more) next' later' =
      subst (λ (x : SegmentView). Tail x (covered_by later ++ more) next' later') (sym same)
      (subst (λ (z : List Sight). Tail b z next' later') (sym runs.1) tb) in
      let rec = tail_extends a later later' (covered_by later) more next next' e ta tb' in
      let r = rec.1 in
      (rec.0, cc)

-- two lists that extend each other are the same
both_extend : (xs ys us vs : List SegmentView) → ys ≡ xs ++ us → xs ≡ ys ++ vs → xs ≡ ys
both_extend xs ys us vs p q = elim us as (λ (us : List SegmentView). ys ≡ xs ++ us → xs ≡ ys) [
  | [] ↦ λ e. sym (e ∙ append-nil xs)
  | u ∷ us' ↦ λ e. absurd (let l = ap length e in let l' = ap length q in let m = length-append xs (u ∷ us') in let m' = length-append ys vs in omega arith)
] p

pub one_chain : OneChain
one_chain t kept next a b p q =
    let ab = chain_extends t a b kept [] next next refl p (subst (λ (z : List Sight). IsChain t z next b) (sym (append-nil kept)) q) in
    let ba = chain_extends t b a kept [] next next refl q (subst (λ (z : List Sight). IsChain t z next a) (sym (append-nil kept)) p) in
    both_extend a b ab.0 ba.0 ab.1 ba.1
