-- What is known of the names of files.
use Rattle.std.proofs.Common.{rules, ◌≡◌, ℕ, zero, suc, ◌<◌, List, [], ◌∷◌, ◌++◌, length, Option, Some, None, arith}
use Rattle.std.specs.Prelude.{All, IfSome, unwrap_or, is_none, false, slice_index_or}
use Rattle.std.specs.Option.{option_to_list}

pub front_known : (P : List ℕ → Type 0) (names others : List (List ℕ)) → All P (names ++ others) → (k : ℕ) (d : List ℕ) → k < length names → P (slice_index_or names k d)
front_known P [] others h k d within = absurd (omega (arith, within))
front_known P (name ∷ names) others h zero d within = h zero d (omega arith)
front_known P (name ∷ names) others h (suc k) d within = front_known P names others (λ k d within. h (suc k) d (omega (arith, within))) k d (omega (arith, within))

pub others_known : (P : List ℕ → Type 0) (names others : List (List ℕ)) → All P (names ++ others) → All P others
others_known P [] others h = h
others_known P (name ∷ names) others h = others_known P names others (λ k d within. h (suc k) d (omega (arith, within)))

pub one_known : (P : List ℕ → Type 0) (named : Option (List ℕ)) → All P (option_to_list named) → IfSome named P
one_known P None h = tt
one_known P (Some name) h = h 0 [] (search rules)

pub named_known : (P : List ℕ → Type 0) (named : Option (List ℕ)) → is_none named ≡ false → IfSome named P → P (unwrap_or named [])
named_known P None given h = cc
named_known P (Some name) given h = h
