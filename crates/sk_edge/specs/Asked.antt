-- Which files a depot was asked for, in turn.
use Rattle.std.specs.Prelude.{◌≡◌, ◌⊎◌, ℕ, List, [], ◌∷◌, ◌++◌, Option, Some, None, ⊤}

-- The names asked for grow by these, where they are told. What is told may stop to be, and does not begin again.
abbrev pub Asks : Option (List (List ℕ)) → Option (List (List ℕ)) → List (List ℕ) → Type 0
Asks (Some before) (Some after) names = after ≡ before ++ names
Asks None (Some after) names = ⊥
Asks before None names = ⊤

-- a list is another one with some members left out
abbrev pub IsPart : {A : Type 0} → List A → List A → Type 0
IsPart [] ys = ⊤
IsPart (x ∷ xs) [] = ⊥
IsPart (x ∷ xs) (y ∷ ys) = ((x ≡ y) × IsPart xs ys) ⊎ IsPart (x ∷ xs) ys

-- only these names are asked for, in their order, each at most once
abbrev pub AsksAmong : Option (List (List ℕ)) → Option (List (List ℕ)) → List (List ℕ) → Type 0
AsksAmong before after names = (asked : List (List ℕ)) × Asks before after asked × IsPart asked names
