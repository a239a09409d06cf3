-- Lists by recursion.
use Rattle.std.proofs.Common.{◌≡◌, List, [], ◌∷◌, ◌++◌, refl, sym}
use Rattle.std.specs.List.{AllByRecursion}

module _ {X : Type 0} where
  pub all_front : (P : X → Type 0) (xs ys : List X) → AllByRecursion P (xs ++ ys) → AllByRecursion P xs
  all_front P [] ys h = tt
  all_front P (x ∷ xs) ys h = (h.0, all_front P xs ys h.1)

  pub all_back : (P : X → Type 0) (xs ys : List X) → AllByRecursion P (xs ++ ys) → AllByRecursion P ys
  all_back P [] ys h = h
  all_back P (x ∷ xs) ys h = all_back P xs ys h.1

  pub all_append : (P : X → Type 0) (xs ys : List X) → AllByRecursion P xs → AllByRecursion P ys → AllByRecursion P (xs ++ ys)
  all_append P [] ys h k = k
  all_append P (x ∷ xs) ys h k = (h.0, all_append P xs ys h.1 k)

  pub all_map : (P Q : X → Type 0) → ((x : X) → P x → Q x) → (xs : List X) → AllByRecursion P xs → AllByRecursion Q xs
  all_map P Q f [] h = tt
  all_map P Q f (x ∷ xs) h = (f x h.0, all_map P Q f xs h.1)

  pub all_both : (P Q : X → Type 0) (xs : List X) → AllByRecursion P xs → AllByRecursion Q xs → AllByRecursion (λ x. P x × Q x) xs
  all_both P Q [] h k = tt
  all_both P Q (x ∷ xs) h k = ((h.0, k.0), all_both P Q xs h.1 k.1)

  -- Two fronts of one list are the same, or one goes on where the other ends.
  pub data Fronts (ps xs qs ys : List X) : Type 0 where
    Same : ps ≡ qs → xs ≡ ys → Fronts ps xs qs ys
    First_ends : (o : X) (m : List X) → qs ≡ ps ++ o ∷ m → xs ≡ o ∷ (m ++ ys) → Fronts ps xs qs ys
    Second_ends : (o : X) (m : List X) → ps ≡ qs ++ o ∷ m → ys ≡ o ∷ (m ++ xs) → Fronts ps xs qs ys

  pub heads : (a b : X) (xs ys : List X) → a ∷ xs ≡ b ∷ ys → a ≡ b
  heads a b xs ys e = cc

  pub tails : (a b : X) (xs ys : List X) → a ∷ xs ≡ b ∷ ys → xs ≡ ys
  tails a b xs ys e = cc

  more : (a b : X) (ps xs qs ys : List X) → a ≡ b → Fronts ps xs qs ys → Fronts (a ∷ ps) xs (b ∷ qs) ys
  more a b ps xs qs ys e (Same p q) = Same (cc) q
  more a b ps xs qs ys e (First_ends o m p q) = First_ends o m (cc) q
  more a b ps xs qs ys e (Second_ends o m p q) = Second_ends o m (cc) q

  pub fronts : (ps xs qs ys : List X) → ps ++ xs ≡ qs ++ ys → Fronts ps xs qs ys
  fronts [] xs [] ys e = Same refl e
  fronts [] xs (b ∷ qs) ys e = First_ends b qs refl e
  fronts (a ∷ ps) xs [] ys e = Second_ends a ps refl (sym e)
  fronts (a ∷ ps) xs (b ∷ qs) ys e =
      more a b ps xs qs ys (heads a b _ _ e) (fronts ps xs qs ys (tails a b _ _ e))
