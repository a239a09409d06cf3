-- What is kept of a list of observations has what its new ones have, and their order.
use Rattle.std.proofs.Common.{◌≡◌, List, [], ◌∷◌, ◌++◌, true, sym, subst, inl, inr}
use Rattle.std.specs.List.{AllByRecursion}
use Rattle.sk_publishing.specs.Terms.{Sight, Terms}
use Rattle.sk_publishing.specs.Kept.{is_new, SortsNext, SortsFrom, Sorts}
use Rattle.sk_line.proofs.Lists.{all_append, all_map}

module _ (t : Terms) (P : Sight → Type 0) where
  kept_next : (kept dropped : List Sight) (o : Sight) (k d : List Sight) → SortsNext t kept dropped o k d
      → (is_new t o ≡ true → P o) → AllByRecursion P kept → AllByRecursion P k
  kept_next kept dropped o k d (inl s) p h = subst (AllByRecursion P) (sym s.1) h
  kept_next kept dropped o k d (inr (inl s)) p h = subst (AllByRecursion P) (sym s.1) h
  kept_next kept dropped o k d (inr (inr s)) p h = subst (AllByRecursion P) (sym s.2) (all_append P kept (o ∷ []) h (p s.0, tt))

  kept_from : (xs kept dropped k d : List Sight) → SortsFrom t kept dropped xs k d
      → AllByRecursion (λ o. is_new t o ≡ true → P o) xs → AllByRecursion P kept → AllByRecursion P k
  kept_from [] kept dropped k d s p h = subst (AllByRecursion P) (sym s.0) h
  kept_from (o ∷ xs) kept dropped k d s p h = kept_from xs s.0 s.1 k d s.3 p.1 (kept_next kept dropped o s.0 s.1 s.2 p.0 h)

  -- what holds of the new ones holds of what is kept
  pub kept_all : (all kept dropped : List Sight) → Sorts t all kept dropped → AllByRecursion (λ o. is_new t o ≡ true → P o) all → AllByRecursion P kept
  kept_all all kept dropped s p = kept_from all [] [] kept dropped s p tt

-- ---- order

-- a relation from each to all later ones
abbrev pub Ordered : (Sight → Sight → Type 0) → List Sight → Type 0
Ordered R [] = Unit {0}
Ordered R (o ∷ os) = AllByRecursion (R o) os × Ordered R os

module _ (R : Sight → Sight → Type 0) where
  -- from each of these to each of those
  abbrev pub Across : List Sight → List Sight → Type 0
  Across xs ys = AllByRecursion (λ x. AllByRecursion (R x) ys) xs

  ordered_join : (xs : List Sight) (o : Sight) → Ordered R xs → AllByRecursion (λ x. R x o) xs → Ordered R (xs ++ o ∷ [])
  ordered_join [] o h k = (tt, tt)
  ordered_join (x ∷ xs) o h k = (all_append (R x) xs (o ∷ []) h.0 (k.0, tt), ordered_join xs o h.1 k.1)

  pub ordered_split : (xs ys : List Sight) → Ordered R (xs ++ ys) → Ordered R xs × Ordered R ys × Across xs ys
  ordered_split [] ys h = (tt, h, tt)
  ordered_split (x ∷ xs) ys h =
      let r = ordered_split xs ys h.1 in
      ((front xs ys h.0, r.0), r.1, (back xs ys h.0, r.2))
    where
      front : (xs ys : List Sight) → AllByRecursion (R x) (xs ++ ys) → AllByRecursion (R x) xs
      front [] ys h = tt
      front (z ∷ xs) ys h = (h.0, front xs ys h.1)

      back : (xs ys : List Sight) → AllByRecursion (R x) (xs ++ ys) → AllByRecursion (R x) ys
      back [] ys h = h
      back (z ∷ xs) ys h = back xs ys h.1

  order_from : (t : Terms) (xs kept dropped k d : List Sight) → SortsFrom t kept dropped xs k d → Ordered R xs → Ordered R kept → Across kept xs → Ordered R k
  order_from t [] kept dropped k d s h g c = subst (Ordered R) (sym s.0) g
  order_from t (o ∷ xs) kept dropped k d s h g c =
      let cross : Across kept xs = all_map (λ x. AllByRecursion (R x) (o ∷ xs)) (λ x. AllByRecursion (R x) xs) (λ x w. w.1) kept c in
      order_from t xs s.0 s.1 k d s.3 h.1 (order_next s.2) (across_next s.2 cross)
    where
      order_next : SortsNext t kept dropped o s.0 s.1 → Ordered R s.0
      order_next (inl p) = subst (Ordered R) (sym p.1) g
      order_next (inr (inl p)) = subst (Ordered R) (sym p.1) g
      order_next (inr (inr p)) = subst (Ordered R) (sym p.2) (ordered_join kept o g (all_map (λ x. AllByRecursion (R x) (o ∷ xs)) (λ x. R x o) (λ x w. w.0) kept c))

      across_next : SortsNext t kept dropped o s.0 s.1 → Across kept xs → Across s.0 xs
      across_next (inl p) w = subst (λ (z : List Sight). Across z xs) (sym p.1) w
      across_next (inr (inl p)) w = subst (λ (z : List Sight). Across z xs) (sym p.1) w
      across_next (inr (inr p)) w = subst (λ (z : List Sight). Across z xs) (sym p.2) (all_append (λ x. AllByRecursion (R x) xs) kept (o ∷ []) w (h.0, tt))

  pub kept_ordered : (t : Terms) (all kept dropped : List Sight) → Sorts t all kept dropped → Ordered R all → Ordered R kept
  kept_ordered t all kept dropped s h = order_from t all [] [] kept dropped s h tt tt
