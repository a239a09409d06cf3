-- Time falls at no join of a published kernel where it did not fall before.
use Rattle.std.proofs.Common.{◌≡◌, ◌⊎◌, ℕ, zero, suc, ◌-◌, ◌<◌, List, [], ◌∷◌, ◌++◌, length, Option, Some, sym, subst, arith, append_assoc, inl, inr}
use Rattle.std.proofs.lemmas.Int.{ints}
use Rattle.std.proofs.lemmas.Option.{none-some, same_Some}
use Rattle.std.specs.Prelude.{ℤ, pos, ◌*ℤ◌, ◌-ℤ◌, ◌≤ℤ◌, ◌<ℤ◌, slice_get}
use Rattle.sk_publishing.specs.Terms.{Sight, Terms}
use Rattle.sk_line.specs.Triple.{TripleView}
use Rattle.sk_line.specs.Line.{line_over, FallsOver}
use Rattle.sk_publishing.specs.Chain.{SegmentView, EachJoined, IsChain, new_triples}
use Rattle.sk_publishing.proofs.NewKernel.{triple_of, no_fall_law}

-- time does not fall from one triple to the next
abbrev Stands : ℕ → TripleView → TripleView → Type 0
Stands per_count before after = line_over per_count before.anchor before.rate after.anchor.ticks ≤ℤ (after.anchor.time *ℤ pos per_count)

abbrev Linked : ℕ → List TripleView → Type 0
Linked per_count [] = Unit {0}
Linked per_count (a ∷ []) = Unit {0}
Linked per_count (a ∷ b ∷ triples) = Stands per_count a b × Linked per_count (b ∷ triples)

no_fall : (line time none : ℤ) → none ≡ pos 0 → line ≤ℤ time → none <ℤ (line -ℤ time) → ⊥
no_fall line time none e h k = omega (arith, ints, e, h, k)

nothing_times : (n : ℕ) → (pos 0 *ℤ pos n) ≡ pos 0
nothing_times n = omega (arith, ints)

module _ (per_count : ℕ) where
  linked_of : (s : SegmentView) (later : List SegmentView) → EachJoined (λ before s. line_over per_count before.anchor before.rate s.anchor.ticks ≤ℤ (s.anchor.time *ℤ pos per_count)) (s ∷ later)
      → Linked per_count (triple_of s ∷ new_triples (s ∷ later))
  linked_of s [] h = tt
  linked_of s (next ∷ later) h = (h.0, linked_of next later h.1)

  stands_at : (x : TripleView) (xs : List TripleView) → Linked per_count (x ∷ xs) → (j : ℕ) (b a : TripleView) → slice_get (x ∷ xs) j ≡ Some b → slice_get (x ∷ xs) (suc j) ≡ Some a → Stands per_count b a
  stands_at x [] l zero b a p q = absurd (none-some a q)
  stands_at x [] l (suc j) b a p q = absurd (none-some a q)
  stands_at x (y ∷ ys) l zero b a p q =
      subst (λ (z : TripleView). Stands per_count z a) (same_Some x b p) (subst (λ (z : TripleView). Stands per_count x z) (same_Some y a q) l.0)
  stands_at x (y ∷ ys) l (suc j) b a p q = stands_at y ys l.1 j b a p q

  -- a join of the old triples, or one where time does not fall
  join_at : (front : List TripleView) (old : TripleView) (new : List TripleView) → Linked per_count (old ∷ new) → (j : ℕ) (b a : TripleView)
      → slice_get (front ++ old ∷ new) j ≡ Some b → slice_get (front ++ old ∷ new) (suc j) ≡ Some a
      → Stands per_count b a ⊎ ((suc j < length (front ++ old ∷ [])) × (slice_get (front ++ old ∷ []) j ≡ Some b) × (slice_get (front ++ old ∷ []) (suc j) ≡ Some a))
  join_at [] old new l j b a p q = inl (stands_at old new l j b a p q)
  join_at (x ∷ []) old new l zero b a p q = inr (omega arith, p, q)
  join_at (x ∷ y ∷ ys) old new l zero b a p q = inr (omega arith, p, q)
  join_at (x ∷ xs) old new l (suc j) b a p q = elim (join_at xs old new l j b a p q) [
    | inl h ↦ inl h
    | inr h ↦ inr (omega (arith, h.0), h.1, h.2)
  ]

-- a join of the new kernel that falls is one of the old kernel
pub falls_stand : (t : Terms) (front : List TripleView) (kept : List Sight) (next : Option Sight) (chain : List SegmentView) → 0 < t.gauge.per_count → IsChain t kept next chain → (i : ℕ)
    → FallsOver t.gauge.per_count ((front ++ t.old ∷ []) ++ new_triples chain) (pos 0) i
    → (i < length (front ++ t.old ∷ [])) × FallsOver t.gauge.per_count (front ++ t.old ∷ []) (pos 0) i
falls_stand t front kept next [] h p i f = absurd p.runs.begins
falls_stand t front kept next (s ∷ later) h p i f =
    let per_count : ℕ = t.gauge.per_count in
    let new : List TripleView = new_triples (s ∷ later) in
    let first : triple_of s ≡ t.old = λ k. record { anchor = p.runs.begins.0 k; rate = p.runs.begins.1 k } in
    let linked : Linked per_count (t.old ∷ new) = subst (λ (x : TripleView). Linked per_count (x ∷ new)) first (linked_of per_count s later (no_fall_law t kept next (s ∷ later) h p)) in
    let joined : (front ++ t.old ∷ []) ++ new ≡ front ++ t.old ∷ new = append_assoc front (t.old ∷ []) new in
    let counted : suc (i - 1) ≡ i = omega (arith, f.counted) in
    let before : slice_get (front ++ t.old ∷ new) (i - 1) ≡ Some f.before = subst (λ (ts : List TripleView). slice_get ts (i - 1) ≡ Some f.before) joined f.is_before in
    let after : slice_get (front ++ t.old ∷ new) (suc (i - 1)) ≡ Some f.after =
    subst (λ (k : ℕ). slice_get (front ++ t.old ∷ new) k ≡ Some f.after) (sym counted) (subst (λ (ts : List TripleView). slice_get ts i ≡ Some f.after) joined f.is_after) in
    elim (join_at per_count front t.old new linked (i - 1) f.before f.after before after) [
      | inl stands ↦ absurd (no_fall _ _ _ (nothing_times per_count) stands f.falls)
      | inr old ↦ (
        omega (arith, counted, old.0),
        record {
          before = f.before;
          after = f.after;
          counted = f.counted;
          is_before = old.1;
          is_after = subst (λ (k : ℕ). slice_get (front ++ t.old ∷ []) k ≡ Some f.after) counted old.2;
          falls = f.falls;
        },
      )
    ]
