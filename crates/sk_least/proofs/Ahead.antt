-- The segments of a chain are lines, each from its anchor on and in one partition.
use Rattle.std.proofs.Common.{◌≡◌, ℕ, ◌<◌, ◌≤◌, List, [], ◌∷◌, ◌++◌, length, sym, refl, ap, subst, inl, inr, arith, ◌∙◌, Some, None}
use Rattle.std.proofs.lemmas.Bool.Decides.{eqb_tells}
use Rattle.std.specs.List.{AllByRecursion}
use Rattle.sk_line.specs.Triple.{Anchor}
use Rattle.sk_line.proofs.Lists.{all_front, all_back, all_map, heads}
use Rattle.sk_publishing.specs.Terms.{Sight, Terms, partition_at, seam}
use Rattle.sk_publishing.specs.Chain.{SegmentView, first_of, last_of, covered_by, EachFollowed, EachJoined, ForNext, IsInPartition, IsGridRate, HasRate, anchor_due, left_at, IsNotLater}
use Rattle.sk_publishing.specs.Laws.{SightsRise}
use Rattle.sk_publishing.proofs.Chains.{due_of, starts}
use Rattle.sk_publishing.proofs.NewKernel.{due_within, due_anew}
use Rattle.sk_least.specs.Lines.{IsLineOf, SegmentLaw}
use Rattle.sk_least.proofs.Needed.{no_fewer_lines}

-- ---- ticks that rise

front_rises : (c d : List Sight) → SightsRise (c ++ d) → SightsRise c
front_rises [] d h = tt
front_rises (o ∷ c) d h = (all_front (λ p. o.tick < p.tick) c d h.0, front_rises c d h.1)

back_rises : (c d : List Sight) → SightsRise (c ++ d) → SightsRise d
back_rises [] d h = h
back_rises (o ∷ c) d h = back_rises c d h.1

-- the last tick of a run, or a tick where it is empty, is not above the next one
left_below : (c : List Sight) (n : ℕ) (b : Sight) (d : List Sight) → SightsRise (c ++ b ∷ d) → (c ≡ [] → n ≤ b.tick)
    → elim (last_of c) [ None ↦ n | Some o ↦ o.tick ] ≤ b.tick
left_below [] n b d rise empty = empty refl
left_below (o ∷ []) n b d rise empty = up_to o.tick b.tick rise.0.0
  where
    up_to : (x y : ℕ) → x < y → x ≤ y
    up_to x y h = omega arith
left_below (o ∷ p ∷ c) n b d rise empty = left_below (p ∷ c) n b d rise.1 (λ e. absurd (cc))

from_first : (k : ℕ) (c : List Sight) (o : Sight) (m : List Sight) → c ≡ o ∷ m → SightsRise c → k ≤ o.tick → AllByRecursion (λ x. k ≤ x.tick) c
from_first k [] o m e rise le = tt
from_first k (x ∷ c) o m e rise le =
    let same : x.tick ≡ o.tick = ap (λ (z : Sight). z.tick) (heads x o c m e) in
    (omega arith, all_map (λ y. x.tick < y.tick) (λ y. k ≤ y.tick) (λ y less. omega arith) c rise.0)

-- ---- a chain

module _ (t : Terms) where
  abbrev Ahead : SegmentView → Type 0
  Ahead s = AllByRecursion (λ o. s.anchor.ticks ≤ o.tick) s.covered

  abbrev Within : SegmentView → SegmentView → Type 0
  Within before s = ForNext (first_of s.covered) (λ o. IsInPartition t before o → s.anchor ≡ anchor_due t before o)

  abbrev Anew : SegmentView → SegmentView → Type 0
  Anew before s = ForNext (first_of s.covered) (λ o. ¬ IsInPartition t before o → (s.anchor ≡ anchor_due t before o) × IsNotLater t before o)

  -- the anchor is not behind the first observation
  reached : (before s : SegmentView) (o : Sight) (m : List Sight) → s.covered ≡ o ∷ m → Within before s → Anew before s
      → (IsInPartition t before o → left_at t before ≤ o.tick) → s.anchor.ticks ≤ o.tick
  reached before s o m e within anew left = elim (eqb_tells (partition_at t o.tick) (partition_at t before.anchor.ticks)) [
    | inl p ↦ (let d : s.anchor.ticks ≡ left_at t before = ap (λ (x : Anchor). x.ticks) (due_of t before s o m e within anew ∙ due_within t before o p.1) in let q = left p.1 in omega arith)
    | inr p ↦ (let d : s.anchor.ticks ≡ o.tick = ap (λ (x : Anchor). x.ticks) (due_of t before s o m e within anew ∙ due_anew t before o p.1) in omega arith)
  ]

  ahead_from : (s : SegmentView) (later : List SegmentView) → SightsRise (s.covered ++ covered_by later) → Ahead s
      → (s.covered ≡ [] → AllByRecursion (λ o. IsInPartition t s o → seam t < o.tick) (covered_by later))
      → AllByRecursion (λ l. 0 < length l.covered) later
      → EachJoined Within (s ∷ later) → EachJoined Anew (s ∷ later) → AllByRecursion Ahead (s ∷ later)
  ahead_from s [] rise here empty cover within anew = (here, tt)
  ahead_from s (s2 ∷ later) rise here empty cover within anew =
      let b = starts s2.covered cover.0 in
      let behind : List Sight = b.1 ++ covered_by later in
      let begins : covered_by (s2 ∷ later) ≡ b.0 ∷ behind = ap (λ (z : List Sight). z ++ covered_by later) b.2 in
      let past : IsInPartition t s b.0 → s.covered ≡ [] → seam t ≤ b.0.tick =
      (λ i e. let less = (subst (AllByRecursion (λ o. IsInPartition t s o → seam t < o.tick)) begins (empty e)).0 i in omega arith) in
      let left : IsInPartition t s b.0 → left_at t s ≤ b.0.tick =
      (λ i. left_below s.covered (seam t) b.0 behind (subst (λ (z : List Sight). SightsRise (s.covered ++ z)) begins rise) (past i)) in
      let later_rises = back_rises s.covered (covered_by (s2 ∷ later)) rise in
      let there = from_first s2.anchor.ticks s2.covered b.0 b.1 b.2 (front_rises s2.covered (covered_by later) later_rises) (reached s s2 b.0 b.1 b.2 within.0 anew.0 left) in
      (here, ahead_from s2 later later_rises there (λ e. absurd (let l = ap length e in let k = cover.0 in omega arith)) cover.1 within.1 anew.1)

  lines : (later : List SegmentView) → AllByRecursion Ahead later → EachFollowed (λ s _. HasRate (IsGridRate t) t s) later None
      → AllByRecursion (λ s. AllByRecursion (IsInPartition t s) s.covered) later → AllByRecursion (IsLineOf t.gauge t.lengths) later
  lines [] ahead rates partition = tt
  lines (s ∷ later) ahead rates partition = (
    record { ahead = ahead.0; meets = rates.0.1; partition = (partition_at t s.anchor.ticks, partition.0) },
    lines later ahead.1 rates.1 partition.1,
  )

pub no_fewer_segments : SegmentLaw
no_fewer_segments t kept next [] runs some rise above seams is shortest = absurd is.runs.begins
no_fewer_segments t kept next (s ∷ later) runs some rise above seams is shortest =
    let parts : kept ≡ s.covered ++ covered_by later = sym is.runs.joined in
    let ticks : s.anchor.ticks ≡ t.old.anchor.ticks = ap (λ (a : Anchor). a.ticks) is.runs.begins.0 in
    let from : AllByRecursion (λ o. s.anchor.ticks ≤ o.tick) s.covered =
    all_map (λ o. t.old.anchor.ticks < o.tick) (λ o. s.anchor.ticks ≤ o.tick) (λ o less. omega arith) s.covered
    (all_front (λ o. t.old.anchor.ticks < o.tick) s.covered (covered_by later) (subst (AllByRecursion (λ o. t.old.anchor.ticks < o.tick)) parts above)) in
    let old : Sight → Type 0 = λ o. partition_at t o.tick ≡ partition_at t t.old.anchor.ticks → seam t < o.tick in
    let seamed : AllByRecursion (λ o. IsInPartition t s o → seam t < o.tick) (covered_by later) =
    all_map old (λ o. IsInPartition t s o → seam t < o.tick) (λ o g i. g (i ∙ ap (λ (n : ℕ). partition_at t n) ticks)) (covered_by later)
    (all_back old s.covered (covered_by later) (subst (AllByRecursion old) parts seams)) in
    let ahead = ahead_from t s later (subst SightsRise parts rise) from (λ e. seamed) is.runs.later is.anchor_within is.anchor_anew in
    no_fewer_lines t.gauge t.lengths kept runs (s ∷ later) some shortest is.runs.joined (
      record { ahead = ahead.0; meets = is.meets.0.1; partition = (partition_at t s.anchor.ticks, is.partition.0) },
      lines t later ahead.1 is.meets.1 is.partition.1,
    )
