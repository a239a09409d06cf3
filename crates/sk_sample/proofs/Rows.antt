-- The records of the observation file are these fields.
use Rattle.std.proofs.Common.{◌≡◌, ℕ, zero, suc, ◌+◌, ◌*◌, ◌<◌, ◌≤◌, Bool, true, false, List, [], ◌∷◌, ◌++◌, length, Some, codes, refl, sym, ◌∙◌, ap, subst, arith, append_assoc, append-nil, length-append, add-one}
use Rattle.std.specs.Prelude.{ℤ, decimal}
use Rattle.std.specs.List.{list_any}
use Rattle.csv.specs.Machine.{next_record}
use Rattle.csv.specs.Reading.{default_config, records_from, strip_bom}
use Rattle.csv.specs.Writing.{default_writer, needs_byte, escaped, field_text, fields_text, is_blank, row_text}
use Rattle.csv.specs.declared.parser.State.TheVariants as st
use Rattle.csv.proofs.RoundTrip.{read-write}
use Rattle.sk_decimal.specs.Fixed.{fixed_text}
use Rattle.sk_obs.specs.File.{records_of, header_fields}
use Rattle.sk_sample.specs.Sample.{observed_time, record_text, records, observations_text}
use Rattle.sk_sample.specs.Fields.{fields_at, rows_from, text_from}
use Rattle.sk_sample.proofs.Plain.{IsPlain, both, number, fixed, unquoted}

-- a field of such bytes is written as it is
as_it_is : (field : List ℕ) → IsPlain field → field_text default_writer field ≡ field
as_it_is field h = rw (unquoted field h) refl

text_is : (a b c d : List ℕ) → IsPlain a → IsPlain b → IsPlain c → IsPlain d
    → row_text default_writer (a ∷ b ∷ c ∷ d ∷ []) ≡ a ++ (44 ∷ (b ++ (44 ∷ (c ++ (44 ∷ (d ++ (10 ∷ [])))))))
unfolding fields_text is_blank
text_is a b c d p q r s = rw (as_it_is a p, as_it_is b q, as_it_is c r, as_it_is d s) (simp append_assoc refl)

row_is : (k : ℕ) (z : ℤ) → row_text default_writer (fields_at k z) ≡ record_text k z
row_is k z =
    text_is (codes "s" ++ decimal k) (codes "tick:" ++ decimal (25600 * k)) (codes "tdt:" ++ fixed_text 9 z) (codes "0")
    (both (codes "s") (decimal k) refl (number k)) (both (codes "tick:") (decimal (25600 * k)) refl (number (25600 * k)))
    (both (codes "tdt:") (fixed_text 9 z) refl (fixed z)) refl
    ∙ simp append_assoc refl

read_one : (k : ℕ) (z : ℤ) (tail : List ℕ) → next_record default_config st.StartRecord [] [] (record_text k z ++ tail) ≡ Some (fields_at k z, st.StartRecord, tail)
read_one k z tail =
    subst (λ (text : List ℕ). next_record default_config st.StartRecord [] [] (text ++ tail) ≡ Some (fields_at k z, st.StartRecord, tail)) (row_is k z) (read-write (fields_at k z) tail)

read_all : (seed k n room : ℕ) → n < room → records_from default_config room st.StartRecord (text_from seed k n) ≡ rows_from seed k n
unfolding records_from next_record
read_all seed k n zero h = absurd (omega arith)
read_all seed k zero (suc room) h = refl
read_all seed k (suc n) (suc room) h =
    let fields = fields_at (suc k) (observed_time seed (suc k)) in
    rw (read_one (suc k) (observed_time seed (suc k)) (text_from seed (suc k) n)) (ap (λ (others : List (List (List ℕ))). fields ∷ others) (read_all seed (suc k) n room (omega arith)))

-- the text of the records is that of the first ones and that of those behind them
text_all : (seed k n : ℕ) → records seed k ++ text_from seed k n ≡ records seed (k + n)
text_all seed k zero = append-nil (records seed k) ∙ ap (records seed) {x = k} {y = k + 0} (omega arith)
text_all seed k (suc n) =
    sym (append_assoc (records seed k) (record_text (suc k) (observed_time seed (suc k))) (text_from seed (suc k) n))
    ∙ text_all seed (suc k) n ∙ ap (records seed) {x = suc k + n} {y = k + suc n} (omega arith)

text_is_all : (seed n : ℕ) → records seed n ≡ text_from seed 0 n
text_is_all seed n = ap (records seed) {x = n} {y = 0 + n} (omega arith) ∙ sym (text_all seed 0 n)

long : (seed k n : ℕ) → n ≤ length (text_from seed k n)
long seed k zero = omega arith
long seed k (suc n) =
    omega (arith, length-append (record_text (suc k) (observed_time seed (suc k))) (text_from seed (suc k) n), long seed (suc k) n)

header_read : (tail : List ℕ) → next_record default_config st.StartRecord [] [] (codes "id,clock,time,delay\n" ++ tail) ≡ Some (header_fields, st.StartRecord, tail)
unfolding fields_text is_blank escaped
header_read tail = read-write header_fields tail

no_mark : (tail : List ℕ) → strip_bom (codes "id,clock,time,delay\n" ++ tail) ≡ codes "id,clock,time,delay\n" ++ tail
unfolding strip_bom
no_mark tail = refl

behind_header : (tail : List ℕ) (rows : List (List (List ℕ))) (room : ℕ) → records_from default_config room st.StartRecord tail ≡ rows
    → records_from default_config (suc room) st.StartRecord (codes "id,clock,time,delay\n" ++ tail) ≡ header_fields ∷ rows
unfolding records_from
behind_header tail rows room h = rw (header_read tail) (ap (λ (others : List (List (List ℕ))). header_fields ∷ others) h)

pub rows_of : (seed n : ℕ) → records_of (observations_text seed n) ≡ header_fields ∷ rows_from seed 0 n
rows_of seed n =
    let tail = text_from seed 0 n in
    let whole = codes "id,clock,time,delay\n" ++ tail in
    ap (λ (t : List ℕ). records_of (codes "id,clock,time,delay\n" ++ t)) (text_is_all seed n)
    ∙ rw (no_mark tail, add-one) (behind_header tail (rows_from seed 0 n) (length whole) (read_all seed 0 n (length whole) (omega (arith, long seed 0 n, length-append (codes "id,clock,time,delay\n") tail))))
