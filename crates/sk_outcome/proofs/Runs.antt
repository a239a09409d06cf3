-- The texts of runs.
use Rattle.std.proofs.Common.{◌≡◌, ℕ, ◌<◌, List, [], ◌∷◌, ◌++◌, length, get_or, Option, refl, sym, ap, ◌∙◌, append_assoc}
use Rattle.std.proofs.lemmas.Option.{slice_get_read}
use Rattle.std.specs.Prelude.{decimal}
use Rattle.std.specs.Option.{option_map_or}
use Rattle.sk_publishing.specs.Row.{RowView}
use Rattle.sk_outcome.specs.Output.{id_at, number_at}

pub number_told : (rows : List RowView) (place : ℕ) (row : RowView) → place < length rows → row ≡ get_or rows place row → decimal row.number ≡ number_at rows place
number_told rows place row h e = sym (ap (λ (o : Option RowView). option_map_or (λ r. decimal r.number) o []) (slice_get_read rows (length rows) place row refl h e))

pub id_told : (rows : List RowView) (place : ℕ) (row : RowView) → place < length rows → row ≡ get_or rows place row → row.id ≡ id_at rows place
id_told rows place row h e = sym (ap (λ (o : Option RowView). option_map_or (λ r. r.id) o []) (slice_get_read rows (length rows) place row refl h e))

-- three fields and the end of their line
pub fields_ended : (x y z t : List ℕ) → x ++ 59 ∷ (y ++ 59 ∷ (z ++ t)) ≡ (x ++ 59 ∷ (y ++ 59 ∷ z)) ++ t
fields_ended x y z t = ap (λ (xs : List ℕ). x ++ 59 ∷ xs) (sym (append_assoc y (59 ∷ z) t)) ∙ sym (append_assoc x (59 ∷ (y ++ 59 ∷ z)) t)
