-- A record's field at a place.
use Rattle.std.proofs.Common.{◌≡◌, ℕ, zero, suc, List, [], ◌∷◌, Option, Some, None, Bor, refl, ◌∙◌, ap, slice_index_or, unwrap_or, option_map}
use Rattle.csv.specs.Records.{field_at}

field_at-index : (fields : List (List ℕ)) (place : ℕ) → unwrap_or (field_at fields place) [] ≡ slice_index_or fields place []
unfolding field_at
field_at-index [] place = refl
field_at-index (field ∷ fields) zero = refl
field_at-index (field ∷ fields) (suc place) = field_at-index fields place

now-unwrap_or : (found : Option (Bor (List ℕ))) (other : Bor (List ℕ)) → (unwrap_or found other).now ≡ unwrap_or (option_map (λ s. s.now) found) other.now
now-unwrap_or None other = refl
now-unwrap_or (Some field) other = refl

pub found-field : (fields : List (List ℕ)) (place : ℕ) (found : Option (Bor (List ℕ))) (other result : Bor (List ℕ))
    → option_map (λ s. s.now) found ≡ field_at fields place → other.now ≡ [] → result ≡ unwrap_or found other
    → result.now ≡ slice_index_or fields place []
found-field fields place found other result is none value =
    ap (λ (b : Bor (List ℕ)). b.now) value ∙ (now-unwrap_or found other ∙ (rw (is, none) (field_at-index fields place)))
