-- What is answered excludes every other answer.
use Rattle.std.proofs.Common.{◌≡◌, ℕ, List, [], ◌∷◌, ◌++◌, length, refl, sym, ap, subst, inl, inr, ◌∙◌, arith, map, length-append}
use Rattle.std.proofs.Math.Dec.{T_prop}
use Rattle.std.proofs.lemmas.Bool.{cases_lt}
use Rattle.std.proofs.lemmas.Option.{same_Some}
use Rattle.std.specs.Prelude.{ℤ, pos, ◌<ℤ◌, slice_get, count_by, not}
use Rattle.sk_publishing.specs.Row.{RowView}
use Rattle.sk_triples.specs.declared.triples.Fall.{Fall}
use Rattle.sk_publishing.specs.Terms.{Sight}
use Rattle.sk_line.specs.Triple.{TripleView}
use Rattle.sk_line.specs.Line.{FallsOver, IsFirstFall, fall_over}
use Rattle.sk_publishing.specs.Chain.{SegmentView}
use Rattle.sk_publishing.specs.Kept.{is_new, IsPublication, StopsAtNoRate, StopsAtTimeFall}
use Rattle.sk_triples.specs.Kernel.{HasFall}
use Rattle.sk_publishing.specs.Input.{Input, HasLast, IsBadHold, IsBandEmpty, Begins, AreTooMany}
use Rattle.sk_line.proofs.Lists.{Same, First_ends, Second_ends, fronts, heads, tails}
use Rattle.sk_publishing.proofs.Sorting.{one_publication, one_stop, stops_last}
use Rattle.sk_fit.specs.declared.fault.Barrier.{Barrier}
use Rattle.sk_fit.specs.Barriers.{IsBarrier}
use Rattle.sk_fit.proofs.Barriers.{one_barrier}
use Rattle.sk_fit.specs.declared.chain.Chain.{Chain}
use Rattle.sk_fit.specs.declared.fault.FitFault.{FitFault}
use Rattle.sk_fit.specs.declared.fault.FitFault.TheVariants.{BadHold, OldFalls, BandEmpty, NoRate, TimeFalls, TooMany, NoMemory}
use Rattle.sk_fit.specs.Given.{segments_of}
use Rattle.sk_fit.specs.Causes.{IsOldFall, IsNumberOf, Gives, Refuses}

pub one_last : (x : Input) (a b : TripleView) → HasLast x a → HasLast x b → a ≡ b
one_last x a b p q = elim (fronts p.0 (a ∷ []) q.0 (b ∷ []) (sym p.1 ∙ q.1)) [
  | Same e f ↦ heads a b [] [] f
  | First_ends o m e f ↦ absurd (empty m b (tails a o [] (m ++ b ∷ []) f))
  | Second_ends o m e f ↦ absurd (empty m a (tails b o [] (m ++ a ∷ []) f))
]
  where
    empty : (m : List TripleView) (c : TripleView) → [] ≡ m ++ c ∷ [] → ⊥
    empty m c e = let l = ap length e in let l' = length-append m (c ∷ []) in omega arith

-- ---- falls of the old kernel

module _ (per_count : ℕ) (ts : List TripleView) where
  first_same : (slip : ℤ) (i j : ℕ) → IsFirstFall per_count ts slip i → IsFirstFall per_count ts slip j → i ≡ j
  first_same slip i j p q = elim (cases_lt i j) [
    | inl h ↦ absurd (q.first i h p.falls)
    | inr h ↦ elim (cases_lt j i) [ inl l ↦ absurd (p.first j l q.falls) | inr l ↦ omega arith ]
  ]

  amount_same : (i : ℕ) (n m : ℤ) → HasFall per_count ts i n → HasFall per_count ts i m → n ≡ m
  amount_same i n m p q =
      let before : p.before ≡ q.before = same_Some p.before q.before (sym p.is_before ∙ q.is_before) in
      let after : p.after ≡ q.after = same_Some p.after q.after (sym p.is_after ∙ q.is_after) in
      p.is_amount ∙ ap (λ (b : TripleView). fall_over per_count b p.after) before ∙ ap (λ (a : TripleView). fall_over per_count q.before a) after ∙ sym q.is_amount

abbrev fall_of : ℕ → ℤ → (den : ℤ) → pos 0 <ℤ den → Fall
fall_of join num den positive = record { join = join; amount = record { num = num; den = den; positive = positive } }

-- that the denominator is above 0 is no further part of it
same_over : (join : ℕ) (num d e : ℤ) (p : pos 0 <ℤ d) (q : pos 0 <ℤ e) → d ≡ e → fall_of join num d p ≡ fall_of join num e q
same_over join num d e p q same =
    subst (λ (x : ℤ). (q : pos 0 <ℤ x) → fall_of join num d p ≡ fall_of join num x q) same (λ q. ap (fall_of join num d) (prop p q)) q
  where
    prop : IsProp (pos 0 <ℤ d)
    prop = hlevel T_prop

one_fall : (x : Input) (per_count : ℕ) (f g : Fall) → IsOldFall x per_count f → IsOldFall x per_count g → f ≡ g
one_fall x per_count f g p q =
    let join : f.join ≡ g.join = first_same per_count x.triples x.slip f.join g.join p.first q.first in
    let num : f.amount.num ≡ g.amount.num = amount_same per_count x.triples g.join f.amount.num g.amount.num
    (subst (λ (i : ℕ). HasFall per_count x.triples i f.amount.num) join p.amount) q.amount in
    let den : f.amount.den ≡ g.amount.den = p.over ∙ sym q.over in
    ap (λ (i : ℕ). fall_of i f.amount.num f.amount.den f.amount.positive) join ∙ ap (λ (n : ℤ). fall_of g.join n f.amount.den f.amount.positive) num
    ∙ same_over g.join g.amount.num f.amount.den g.amount.den f.amount.positive g.amount.positive den

-- ---- causes, by one old last triple

abbrev RefusesAt : Input → List RowView → TripleView → FitFault → Type 0
RefusesAt x rows old BadHold = IsBadHold x old
RefusesAt x rows old (OldFalls fall) = (¬ IsBadHold x old) × IsOldFall x (x.terms old).gauge.per_count fall
RefusesAt x rows old BandEmpty = (¬ IsBadHold x old)
    × ((i : ℕ) → ¬ FallsOver (x.terms old).gauge.per_count x.triples x.slip i) × IsBandEmpty x old
RefusesAt x rows old (NoRate number barrier) = Begins x old × ((o : Sight) × (stop : StopsAtNoRate (x.terms old) x.all o) × IsNumberOf rows o number
    × IsBarrier (x.terms old).gauge rows o stop.no_rate.last barrier)
RefusesAt x rows old (TimeFalls number) = Begins x old × ((o : Sight) × StopsAtTimeFall (x.terms old) x.all o × IsNumberOf rows o number)
RefusesAt x rows old TooMany = Begins x old × ((dropped : List Sight) × (chain : List SegmentView)
    × IsPublication (x.terms old) x.all dropped chain × AreTooMany x chain)
RefusesAt x rows old NoMemory = ⊥

refuses_at : (x : Input) (rows : List RowView) (f : FitFault) → Refuses x rows f → (old : TripleView) × HasLast x old × RefusesAt x rows old f
refuses_at x rows BadHold r = r
refuses_at x rows (OldFalls fall) r = (r.0, r.1, (r.2, r.3))
refuses_at x rows BandEmpty r = (r.0, r.1, (r.2, r.3, r.4))
refuses_at x rows (NoRate number barrier) r = (r.0, r.1.last, (r.1, r.2))
refuses_at x rows (TimeFalls number) r = (r.0, r.1.last, (r.1, r.2))
refuses_at x rows TooMany r = (r.0, r.1.last, (r.1, r.2))
refuses_at x rows NoMemory r = absurd r

module _ (x : Input) (rows : List RowView) (old : TripleView) where
  -- what is asked before the first new triple excludes what is asked later
  hold_alone : (g : FitFault) → IsBadHold x old → RefusesAt x rows old g → BadHold ≡ g
  hold_alone BadHold bad r = refl
  hold_alone (OldFalls fall) bad r = absurd (r.0 bad)
  hold_alone BandEmpty bad r = absurd (r.0 bad)
  hold_alone (NoRate number barrier) bad r = absurd (r.0.hold bad)
  hold_alone (TimeFalls number) bad r = absurd (r.0.hold bad)
  hold_alone TooMany bad r = absurd (r.0.hold bad)
  hold_alone NoMemory bad r = absurd r

  fall_alone : (fall : Fall) (g : FitFault) → ¬ IsBadHold x old → IsOldFall x (x.terms old).gauge.per_count fall → RefusesAt x rows old g → OldFalls fall ≡ g
  fall_alone fall BadHold good f r = absurd (good r)
  fall_alone fall (OldFalls other) good f r = ap OldFalls (one_fall x (x.terms old).gauge.per_count fall other f r.1)
  fall_alone fall BandEmpty good f r = absurd (r.1 fall.join f.first.falls)
  fall_alone fall (NoRate number barrier) good f r = absurd (r.0.falls fall.join f.first.falls)
  fall_alone fall (TimeFalls number) good f r = absurd (r.0.falls fall.join f.first.falls)
  fall_alone fall TooMany good f r = absurd (r.0.falls fall.join f.first.falls)
  fall_alone fall NoMemory good f r = absurd r

  band_alone : (g : FitFault) → RefusesAt x rows old BandEmpty → RefusesAt x rows old g → BandEmpty ≡ g
  band_alone BadHold e r = absurd (e.0 r)
  band_alone (OldFalls fall) e r = absurd (e.1 fall.join r.1.first.falls)
  band_alone BandEmpty e r = refl
  band_alone (NoRate number barrier) e r = absurd (r.0.band e.2)
  band_alone (TimeFalls number) e r = absurd (r.0.band e.2)
  band_alone TooMany e r = absurd (r.0.band e.2)
  band_alone NoMemory e r = absurd r

  one_number : (o o' : Sight) (n m : ℕ) → o ≡ o' → IsNumberOf rows o n → IsNumberOf rows o' m → n ≡ m
  one_number o o' n m e p q =
      let seen : p.0 ≡ q.0 = same_Some p.0 q.0 (sym p.1 ∙ ap (λ (y : Sight). slice_get rows y.place) e ∙ q.1) in
      p.2 ∙ ap (λ (row : RowView). row.number) seen ∙ sym q.2

  rate_alone : (n : ℕ) (b : Barrier) (g : FitFault) → RefusesAt x rows old (NoRate n b) → RefusesAt x rows old g → NoRate n b ≡ g
  rate_alone n b BadHold s r = absurd (s.0.hold r)
  rate_alone n b (OldFalls fall) s r = absurd (s.0.falls fall.join r.1.first.falls)
  rate_alone n b BandEmpty s r = absurd (s.0.band r.2)
  rate_alone n b (NoRate m b') s r =
      let stop : s.1.0 ≡ r.1.0 = one_stop.one (x.terms old) x.all s.1.0 r.1.0 (inl s.1.1) (inl r.1.1) in
      let number : n ≡ m = one_number s.1.0 r.1.0 n m stop s.1.2 r.1.2 in
      let barrier : b ≡ b' = one_barrier (x.terms old).gauge rows s.1.0 r.1.0 s.1.1.no_rate.last r.1.1.no_rate.last b b'
      stop (stops_last (x.terms old) x.all s.1.0 r.1.0 s.1.1 r.1.1) s.1.3 r.1.3 in
      ap (λ (k : ℕ). NoRate k b) number ∙ ap (NoRate m) barrier
  rate_alone n b (TimeFalls m) s r = absurd (one_stop.apart (x.terms old) x.all s.1.0 r.1.0 s.1.1 r.1.1)
  rate_alone n b TooMany s r = absurd (one_stop.none (x.terms old) x.all s.1.0 r.1.0 r.1.1 (inl s.1.1) r.1.2)
  rate_alone n b NoMemory s r = absurd r

  time_alone : (n : ℕ) (g : FitFault) → RefusesAt x rows old (TimeFalls n) → RefusesAt x rows old g → TimeFalls n ≡ g
  time_alone n BadHold s r = absurd (s.0.hold r)
  time_alone n (OldFalls fall) s r = absurd (s.0.falls fall.join r.1.first.falls)
  time_alone n BandEmpty s r = absurd (s.0.band r.2)
  time_alone n (NoRate m b) s r = absurd (one_stop.apart (x.terms old) x.all r.1.0 s.1.0 r.1.1 s.1.1)
  time_alone n (TimeFalls m) s r = ap TimeFalls (one_number s.1.0 r.1.0 n m (one_stop.one (x.terms old) x.all s.1.0 r.1.0 (inr s.1.1) (inr r.1.1)) s.1.2 r.1.2)
  time_alone n TooMany s r = absurd (one_stop.none (x.terms old) x.all s.1.0 r.1.0 r.1.1 (inr s.1.1) r.1.2)
  time_alone n NoMemory s r = absurd r

  many_alone : (g : FitFault) → RefusesAt x rows old TooMany → RefusesAt x rows old g → TooMany ≡ g
  many_alone BadHold s r = absurd (s.0.hold r)
  many_alone (OldFalls fall) s r = absurd (s.0.falls fall.join r.1.first.falls)
  many_alone BandEmpty s r = absurd (s.0.band r.2)
  many_alone (NoRate m b) s r = absurd (one_stop.none (x.terms old) x.all r.1.0 s.1.0 s.1.1 (inl r.1.1) s.1.2)
  many_alone (TimeFalls m) s r = absurd (one_stop.none (x.terms old) x.all r.1.0 s.1.0 s.1.1 (inr r.1.1) s.1.2)
  many_alone TooMany s r = refl
  many_alone NoMemory s r = absurd r

  refusal_at : (f g : FitFault) → RefusesAt x rows old f → RefusesAt x rows old g → f ≡ g
  refusal_at BadHold g p q = hold_alone g p q
  refusal_at (OldFalls fall) g p q = fall_alone fall g p.0 p.1 q
  refusal_at BandEmpty g p q = band_alone g p q
  refusal_at (NoRate n b) g p q = rate_alone n b g p q
  refusal_at (TimeFalls n) g p q = time_alone n g p q
  refusal_at TooMany g p q = many_alone g p q
  refusal_at NoMemory g p q = absurd p

  -- where there is a publication nothing is refused
  unrefused_at : (dropped : List Sight) (chain : List SegmentView) (f : FitFault) → Begins x old → IsPublication (x.terms old) x.all dropped chain → ¬ AreTooMany x chain
      → ¬ RefusesAt x rows old f
  unrefused_at dropped chain BadHold b p few r = b.hold r
  unrefused_at dropped chain (OldFalls fall) b p few r = b.falls fall.join r.1.first.falls
  unrefused_at dropped chain BandEmpty b p few r = b.band r.2
  unrefused_at dropped chain (NoRate n barrier) b p few r = one_stop.none (x.terms old) x.all r.1.0 dropped chain (inl r.1.1) p
  unrefused_at dropped chain (TimeFalls n) b p few r = one_stop.none (x.terms old) x.all r.1.0 dropped chain (inr r.1.1) p
  unrefused_at dropped chain TooMany b p few r =
      few (subst (AreTooMany x) (one_publication (x.terms old) x.all r.1.0 dropped r.1.1 chain r.1.2 p).1 r.1.3)
  unrefused_at dropped chain NoMemory b p few r = r

-- ---- answers

pub one_refusal : (x : Input) (rows : List RowView) (f g : FitFault) → Refuses x rows f → Refuses x rows g → f ≡ g
one_refusal x rows f g p q =
    let p' = refuses_at x rows f p in
    let q' = refuses_at x rows g q in
    refusal_at x rows p'.0 f g p'.2 (subst (λ (old : TripleView). RefusesAt x rows old g) (one_last x q'.0 p'.0 q'.1 p'.1) q'.2)

-- a publication that exists is not refused
pub published_unrefused : (x : Input) (rows : List RowView) (old : TripleView) (dropped : List Sight) (chain : List SegmentView) (fault : FitFault)
    → Begins x old → IsPublication (x.terms old) x.all dropped chain → ¬ AreTooMany x chain → ¬ Refuses x rows fault
published_unrefused x rows old dropped chain fault begins publication few r =
    let r' = refuses_at x rows fault r in
    unrefused_at x rows old dropped chain fault begins publication few
    (subst (λ (last : TripleView). RefusesAt x rows last fault) (one_last x r'.0 old r'.1 begins.last) r'.2)

pub gives_unrefused : (x : Input) (rows : List RowView) (chain : Chain) (fault : FitFault) → Gives x chain → ¬ Refuses x rows fault
gives_unrefused x rows chain fault g = published_unrefused x rows g.old g.dropped (segments_of x.all chain) fault g.begins g.publication g.few

-- two publications of one input are equal
pub one_gives : (x : Input) (a b : Chain) → Gives x a → Gives x b → (a.first_new ≡ b.first_new) × (a.dropped ≡ b.dropped) × (segments_of x.all a ≡ segments_of x.all b)
one_gives x a b p q =
    let old : p.old ≡ q.old = one_last x p.old q.old p.begins.last q.begins.last in
    let same = one_publication (x.terms q.old) x.all p.dropped q.dropped (segments_of x.all a) (segments_of x.all b)
    (subst (λ (y : TripleView). IsPublication (x.terms y) x.all p.dropped (segments_of x.all a)) old p.publication) q.publication in (
      p.first_new ∙ ap (λ (y : TripleView). count_by (λ o. not (is_new (x.terms y) o)) x.all) old ∙ sym q.first_new,
      p.dropped_places ∙ ap (map (λ o. o.place)) same.0 ∙ sym q.dropped_places,
      same.1,
    )
