-- The first join that falls.
use Rattle.std.proofs.Common.{◌≡◌, ℕ, zero, suc, ◌+◌, ◌-◌, ◌<◌, ◌≤◌, List, [], ◌∷◌, length, get_or, Some, refl, sym, subst, inl, inr, arith, ◌∙◌}
use Rattle.std.proofs.lemmas.Int.{ints}
use Rattle.std.proofs.lemmas.Bool.{cases_lt}
use Rattle.std.proofs.lemmas.Option.{same_Some, slice_get_within, slice_get-get_or, slice_get_read}
use Rattle.std.specs.Prelude.{ℤ, pos, ◌*ℤ◌, ◌<ℤ◌, ◌≤ℤ◌, slice_get}
use Rattle.sk_line.specs.Triple.{TripleView}
use Rattle.sk_line.specs.Line.{fall_over, FallsOver, IsFirstFall}
use Rattle.sk_triples.specs.Kernel.{Rise, IsTriple, AreTriples}
use Rattle.sk_triples.proofs.Covering.{all_at}

-- ticks rise at a join
pub join_rises : (ts : List TripleView) (j : ℕ) (d : TripleView) → Rise ts → suc j < length ts → (get_or ts j d).anchor.ticks < (get_or ts (suc j) d).anchor.ticks
join_rises [] j d rise less = absurd (omega arith)
join_rises (a ∷ []) j d rise less = absurd (omega arith)
join_rises (a ∷ b ∷ ts) zero d rise less = rise.0
join_rises (a ∷ b ∷ ts) (suc j) d rise less = join_rises (b ∷ ts) j d rise.2 (omega arith)

-- the triples of a join, as they are read
pub before_join : (total : ℕ) (ts : List TripleView) (j : ℕ) (a b : TripleView) → AreTriples total ts → 1 ≤ j → j < length ts → a ≡ get_or ts (j - 1) a → b ≡ get_or ts j b
    → IsTriple b.anchor.ticks a
before_join total ts j a b are from to at_a at_b =
    let same : j ≡ suc (j - 1) = omega arith in
    let rises : (get_or ts (j - 1) a).anchor.ticks < (get_or ts (suc (j - 1)) a).anchor.ticks = join_rises ts (j - 1) a are.rise (omega arith) in
    let some : slice_get ts j ≡ Some b = slice_get_read ts (length ts) j b refl to at_b in
    let other : get_or ts (suc (j - 1)) a ≡ b = subst (λ (k : ℕ). get_or ts k a ≡ b) same (same_Some (get_or ts j a) b (sym (slice_get-get_or ts j a to) ∙ some)) in
    let below : a.anchor.ticks < b.anchor.ticks =
    subst (λ (x : TripleView). x.anchor.ticks < b.anchor.ticks) (sym at_a) (subst (λ (x : TripleView). (get_or ts (j - 1) a).anchor.ticks < x.anchor.ticks) other rises) in
    let kept : IsTriple total a = subst (IsTriple total) (sym at_a) (all_at (IsTriple total) ts (j - 1) a are.each (omega arith)) in
    record { ticks = omega arith; from = kept.from; to = kept.to; positive = kept.positive; slow = kept.slow }

module _ (per_count : ℕ) (ts : List TripleView) (slip : ℤ) where
  pub none_before : (k : ℕ) → k < 1 → ¬ FallsOver per_count ts slip k
  none_before k less falls = let some = falls.counted in omega arith

  pub none_past : (i : ℕ) → length ts ≤ i → ¬ FallsOver per_count ts slip i
  none_past i past falls = let within = slice_get_within ts i falls.after falls.is_after in omega arith

  pub no_fall : (j : ℕ) (a b : TripleView) → slice_get ts (j - 1) ≡ Some a → slice_get ts j ≡ Some b → fall_over per_count a b ≤ℤ (slip *ℤ pos per_count) → ¬ FallsOver per_count ts slip j
  no_fall j a b before after most falls =
      let first : falls.before ≡ a = same_Some falls.before a (sym falls.is_before ∙ before) in
      let second : falls.after ≡ b = same_Some falls.after b (sym falls.is_after ∙ after) in
      let over : (slip *ℤ pos per_count) <ℤ fall_over per_count a b =
      subst (λ (x : TripleView). (slip *ℤ pos per_count) <ℤ fall_over per_count x b) first (subst (λ (x : TripleView). (slip *ℤ pos per_count) <ℤ fall_over per_count falls.before x) second falls.falls) in
      apart _ _ most over
    where
      apart : (x y : ℤ) → x ≤ℤ y → y <ℤ x → ⊥
      apart x y p q = omega (arith, ints)

  pub one_more : (j : ℕ) → ((k : ℕ) → k < j → ¬ FallsOver per_count ts slip k) → ¬ FallsOver per_count ts slip j → (k : ℕ) → k < j + 1 → ¬ FallsOver per_count ts slip k
  one_more j none not k less falls = elim (cases_lt k j) [
    | inl p ↦ none k p falls
    | inr p ↦ (let same : k ≡ j = omega arith in not (subst (λ (n : ℕ). FallsOver per_count ts slip n) same falls))
  ]

  pub none_at_all : (j : ℕ) → length ts ≤ j → ((k : ℕ) → k < j → ¬ FallsOver per_count ts slip k) → (i : ℕ) → ¬ FallsOver per_count ts slip i
  none_at_all j all none i falls = elim (cases_lt i j) [
    | inl p ↦ none i p falls
    | inr p ↦ none_past i (omega arith) falls
  ]

  pub found : (j : ℕ) (a b : TripleView) → 1 ≤ j → slice_get ts (j - 1) ≡ Some a → slice_get ts j ≡ Some b → (slip *ℤ pos per_count) <ℤ fall_over per_count a b
      → ((k : ℕ) → k < j → ¬ FallsOver per_count ts slip k) → IsFirstFall per_count ts slip j
  found j a b from before after over none =
      record { falls = record { before = a; after = b; counted = from; is_before = before; is_after = after; falls = over }; first = none }
