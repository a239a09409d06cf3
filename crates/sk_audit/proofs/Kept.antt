-- What is kept of a list of observations has what its new ones have.
use Rattle.std.proofs.Common.{◌≡◌, List, [], ◌∷◌, true, sym, subst, inl, inr}
use Rattle.std.specs.List.{AllByRecursion}
use Rattle.sk_publishing.specs.Terms.{Sight, Terms}
use Rattle.sk_publishing.specs.Kept.{is_new, SortsNext, SortsFrom, Sorts}
use Rattle.sk_line.proofs.Lists.{all_append}

module _ (t : Terms) (P : Sight → Type 0) where
  kept_next : (kept dropped : List Sight) (o : Sight) (k d : List Sight) → SortsNext t kept dropped o k d
      → (is_new t o ≡ true → P o) → AllByRecursion P kept → AllByRecursion P k
  kept_next kept dropped o k d (inl s) p h = subst (AllByRecursion P) (sym s.1) h
  kept_next kept dropped o k d (inr (inl s)) p h = subst (AllByRecursion P) (sym s.1) h
  kept_next kept dropped o k d (inr (inr s)) p h = subst (AllByRecursion P) (sym s.2) (all_append P kept (o ∷ []) h (p s.0, tt))

  kept_from : (xs kept dropped k d : List Sight) → SortsFrom t kept dropped xs k d
      → AllByRecursion (λ o. is_new t o ≡ true → P o) xs → AllByRecursion P kept → AllByRecursion P k
  kept_from [] kept dropped k d s p h = subst (AllByRecursion P) (sym s.0) h
  kept_from (o ∷ xs) kept dropped k d s p h = kept_from xs s.0 s.1 k d s.3 p.1 (kept_next kept dropped o s.0 s.1 s.2 p.0 h)

  -- what holds of the new ones holds of what is kept
  pub kept_all : (all kept dropped : List Sight) → Sorts t all kept dropped → AllByRecursion (λ o. is_new t o ≡ true → P o) all → AllByRecursion P kept
  kept_all all kept dropped s p = kept_from all [] [] kept dropped s p tt
