-- The names of joined variables.
use Rattle.std.proofs.Common.{◌≡◌, ℕ, List, [], ◌∷◌, map, length, refl, ap, arith}
use Rattle.sk_grammar.specs.declared.value.Value.{Value}
use Rattle.sk_grammar.specs.Variables.{joined}

pub map-joined : (names : List (List ℕ)) (values : List (List Value)) → length names ≡ length values → map (λ v. v.name) (joined names values) ≡ names
map-joined [] values same = refl
map-joined (name ∷ names) [] same = absurd (omega arith)
map-joined (name ∷ names) (vs ∷ values) same = ap (λ ns. name ∷ ns) (map-joined names values (omega arith))

pub map-joined_values : (names : List (List ℕ)) (values : List (List Value)) → length names ≡ length values → map (λ v. v.values) (joined names values) ≡ values
map-joined_values [] [] same = refl
map-joined_values [] (vs ∷ values) same = absurd (omega arith)
map-joined_values (name ∷ names) [] same = absurd (omega arith)
map-joined_values (name ∷ names) (vs ∷ values) same = ap (λ ns. vs ∷ ns) (map-joined_values names values (omega arith))
