-- The observation file of a sample as records of fields.
use Rattle.std.specs.Prelude.{ℕ, zero, suc, ◌*◌, ℤ, List, [], ◌∷◌, ◌++◌, Option, Some, None, codes, decimal}
use Rattle.sk_decimal.specs.Fixed.{fixed_text}
use Rattle.sk_sample.specs.Sample.{observed_time, record_text}

-- the fields of the record of observation k at this time
abbrev pub fields_at : ℕ → ℤ → List (List ℕ)
fields_at k nanoseconds =
    (codes "s" ++ decimal k) ∷ (codes "tick:" ++ decimal (25600 * k)) ∷ (codes "tdt:" ++ fixed_text 9 nanoseconds) ∷ codes "0" ∷ []

-- the fields of as many records behind record k
abbrev pub rows_from : ℕ → ℕ → ℕ → List (List (List ℕ))
rows_from seed k zero = []
rows_from seed k (suc n) = fields_at (suc k) (observed_time seed (suc k)) ∷ rows_from seed (suc k) n

-- and their text
abbrev pub text_from : ℕ → ℕ → ℕ → List ℕ
text_from seed k zero = []
text_from seed k (suc n) = record_text (suc k) (observed_time seed (suc k)) ++ text_from seed (suc k) n

-- the tick of observation k, where there is one
abbrev pub tick_at : ℕ → Option ℕ
tick_at zero = None
tick_at (suc k) = Some (25600 * suc k)
