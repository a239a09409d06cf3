-- The lines of the table are text lines.
use Rattle.std.proofs.Common.{◌≡◌, ℕ, zero, suc, ◌+◌, ◌-◌, ◌*◌, ◌/◌, ◌%◌, ◌^◌, ◌<◌, ◌≤◌, Bool, true, false, cond, ◌&&◌, not, List, [], ◌∷◌, ◌++◌, length, replicate, codes, Option, None, Some, refl, inl, inr, arith, length-append}
use Rattle.std.specs.Prelude.{ℤ, pos, negsuc, nat_abs, nat_le, ◌==◌, decimal, All, slice_get, slice_index, find}
use Rattle.std.specs.Int.{IsInRange}
use Rattle.std.specs.Fmt.{digits, digits_onto, digit_glyph}
use Rattle.std.specs.List.{list_all, list_any, AllByRecursion, join_with_byte}
use Rattle.std.specs.Option.{option_map, option_map_or}
use Rattle.std.proofs.lemmas.Bool.{and_parts, and_from, cases_Bool}
use Rattle.std.proofs.lemmas.Bool.Decides.{nat_tests}
use Rattle.std.proofs.lemmas.List.{length-replicate}
use Rattle.std.proofs.lemmas.List.Elements.{All-nil, All-cons, All-head, All-tail}
use Rattle.sk_decimal.specs.Number.{minus_of, fraction_digits, padded_decimal}
use Rattle.sk_decimal.specs.Fixed.{fixed_text}
use Rattle.sk_grammar.specs.Document.{IsTextLine}
use Rattle.sk_grammar.specs.Lines.{is_line_feed, is_carriage_return}
use Rattle.sk_grammar.proofs.Lists.{none_if_all}
use Rattle.sk_grammar.proofs.PlainLines.{all_both, all_weaker, no_marker, none_trailing, is_byte_of, white_is_not}
use Rattle.sk_publishing.specs.Row.{RowView}
use Rattle.sk_clock.specs.Clock.{ClockView, IsClock, clock_text, text_in, delimiter_byte, padded_fields, field_values, product}
use Rattle.sk_obs.specs.Observation.{is_id_byte, IsId}
use Rattle.sk_line.specs.Triple.{TripleView}
use Rattle.sk_publishing.specs.Terms.{sights}
use Rattle.sk_line.specs.Line.{covering}
use Rattle.sk_publishing.specs.Chain.{SegmentView, EndView, LastEnd, PartitionEnd, FixedEnd, BlockedEnd}
use Rattle.sk_triples.specs.Kernel.{TriplesView}
use Rattle.sk_publishing.specs.Table.{ChainView, kernel_view, number_at, end_text, end_field, is_left_at, kind_text, time_fields, row_line, row_lines_from}
use Rattle.sk_fit.specs.declared.chain.Chain.{Chain}
use Rattle.sk_fit.specs.Given.{chain_view}
use Rattle.sk_report.specs.Line.{IsLined}
use Rattle.sk_report.specs.Report.{table_of}

-- 32 to 126 without `\`
abbrev is_line_byte : ℕ → Bool
is_line_byte byte = nat_le 32 byte && nat_le byte 126 && not (byte == 92)

-- at most so many bytes, and each of these
pub record IsPlain (most : ℕ) (text : List ℕ) : Type 0 where
  pub short : length text ≤ most
  pub bytes : list_all is_line_byte text ≡ true

none : (most : ℕ) → IsPlain most []
none most = record { short = omega arith; bytes = refl }

wider : (m n : ℕ) (text : List ℕ) → m ≤ n → IsPlain m text → IsPlain n text
wider m n text le h = record { short = omega (arith, h.short); bytes = h.bytes }

both : (m n : ℕ) (a b : List ℕ) → IsPlain m a → IsPlain n b → IsPlain (m + n) (a ++ b)
both m n a b p q = record { short = omega (arith, length-append a b, p.short, q.short); bytes = all_both is_line_byte a b p.bytes q.bytes }

one_more : (m byte : ℕ) (a : List ℕ) → is_line_byte byte ≡ true → IsPlain m a → IsPlain (m + 1) (byte ∷ a)
one_more m byte a h p = record { short = omega (arith, p.short); bytes = and_from _ _ h p.bytes }

-- ---- numbers

digit_byte : (d : ℕ) → d < 10 → is_line_byte (digit_glyph false d) ≡ true
digit_byte d h = grind (arith, nat_tests)

digits_plain : (k n m : ℕ) (acc : List ℕ) → IsPlain m acc → IsPlain (k + m) (digits_onto k 10 false n acc)
digits_plain zero n m acc h = wider m (0 + m) acc (omega arith) h
digits_plain (suc k) n m acc h =
    let next : IsPlain (m + 1) (digit_glyph false (n % 10) ∷ acc) = one_more m (digit_glyph false (n % 10)) acc (digit_byte (n % 10) (omega arith)) h in
    elim (cases_Bool (n / 10 == 0)) [
      | inl last ↦ rw last (wider (m + 1) (suc k + m) (digit_glyph false (n % 10) ∷ acc) (omega arith) next)
      | inr more ↦ rw more (wider (k + (m + 1)) (suc k + m) (digits_onto k 10 false (n / 10) (digit_glyph false (n % 10) ∷ acc)) (omega arith)
          (digits_plain k (n / 10) (m + 1) (digit_glyph false (n % 10) ∷ acc) next))
    ]

pub number : (n : ℕ) → IsPlain 64 (decimal n)
unfolding digits
number n = digits_plain 64 n 0 [] (none 0)

zeros : (k : ℕ) → list_all is_line_byte (replicate k 48) ≡ true
zeros zero = refl
zeros (suc k) = zeros k

padded : (width n : ℕ) → width ≤ 64 → IsPlain 64 (padded_decimal width n)
padded width n h =
    let front = replicate (width - length (decimal n)) 48 in
    record {
      short = omega (arith, length-append front (decimal n), length-replicate {A = ℕ} (width - length (decimal n)) 48, (number n).short);
      bytes = all_both is_line_byte front (decimal n) (zeros (width - length (decimal n))) (number n).bytes;
    }

minus : (z : ℤ) → IsPlain 1 (minus_of z)
minus (pos n) = none 1
minus (negsuc n) = record { short = omega arith; bytes = refl }

fraction : (scale n : ℕ) → scale ≤ 64 → IsPlain 65 (fraction_digits scale n)
fraction scale n h =
    elim (cases_Bool (scale == 0)) [
      | inl whole ↦ rw whole (none 65)
      | inr some ↦ rw some (one_more 64 46 (padded_decimal scale (n % 10 ^ scale)) refl (padded scale (n % 10 ^ scale) h))
    ]

pub fixed : (places : ℕ) (units : ℤ) → places ≤ 64 → IsPlain 130 (fixed_text places units)
fixed places units h =
    let whole = decimal (nat_abs units / 10 ^ places) in
    both 65 65 (minus_of units ++ whole) (fraction_digits places (nat_abs units))
    (both 1 64 (minus_of units) whole (minus units) (number (nat_abs units / 10 ^ places))) (fraction places (nat_abs units) h)

-- ---- parts with a byte between two

parts_joined : (c most : ℕ) → is_line_byte c ≡ true → (parts : List (List ℕ)) → AllByRecursion (IsPlain most) parts → IsPlain ((most + 1) * length parts) (join_with_byte c parts)
parts_joined c most h [] all = none ((most + 1) * 0)
parts_joined c most h (x ∷ []) all = wider most ((most + 1) * 1) x (omega arith) all.0
parts_joined c most h (x ∷ y ∷ rest) all =
    let others = length (y ∷ rest) in
    let behind = one_more ((most + 1) * others) c (join_with_byte c (y ∷ rest)) h (parts_joined c most h (y ∷ rest) all.1) in
    wider (most + ((most + 1) * others + 1)) ((most + 1) * suc others) (x ++ c ∷ join_with_byte c (y ∷ rest)) (omega arith)
    (both most ((most + 1) * others + 1) x (c ∷ join_with_byte c (y ∷ rest)) all.0 behind)

-- ---- clock texts

fields_plain : (moduli offsets : List ℕ) (n : ℕ) → AllByRecursion (IsPlain 64) (padded_fields moduli offsets (field_values moduli offsets n))
fields_plain [] offsets n = tt
fields_plain (modulus ∷ moduli) [] n = tt
fields_plain (modulus ∷ moduli) (offset ∷ offsets) n = (
  padded (length (decimal (modulus + offset - 1))) (offset + n / product moduli) (number (modulus + offset - 1)).short,
  fields_plain moduli offsets (n % product moduli),
)

fields_few : (moduli offsets : List ℕ) (n : ℕ) → length (padded_fields moduli offsets (field_values moduli offsets n)) ≤ length moduli
fields_few [] offsets n = omega arith
fields_few (modulus ∷ moduli) [] n = omega arith
fields_few (modulus ∷ moduli) (offset ∷ offsets) n = omega (arith, fields_few moduli offsets (n % product moduli))

at_plain : (xs : List ℕ) (k : ℕ) → list_all is_line_byte xs ≡ true → k < length xs → is_line_byte (slice_index xs k) ≡ true
at_plain [] k all less = absurd (omega arith)
at_plain (x ∷ xs) zero all less = (and_parts (is_line_byte x) (list_all is_line_byte xs) all).0
at_plain (x ∷ xs) (suc k) all less = at_plain xs k (and_parts (is_line_byte x) (list_all is_line_byte xs) all).1 (omega arith)

mark_plain : (code : ℕ) → IsInRange 1 5 code → is_line_byte (slice_index (codes ".:-, ") (code - 1)) ≡ true
mark_plain code h =
    let less : code - 1 < 5 = omega (arith, h.0, h.1) in
    at_plain (codes ".:-, ") (code - 1) refl less

pub text_plain : (clock : ClockView) (p n : ℕ) → IsClock clock → IsPlain 715 (text_in clock p n)
text_plain clock p n h =
    let parts = padded_fields clock.moduli clock.offsets (field_values clock.moduli clock.offsets n) in
    let few : length parts ≤ 10 = omega (arith, fields_few clock.moduli clock.offsets n, h.moduli.0.1) in
    let fields = join_with_byte (delimiter_byte clock) parts in
    let short = wider (65 * length parts) 650 fields (omega (arith, few)) (parts_joined (delimiter_byte clock) 64 (mark_plain clock.delimiter h.delimiter) parts (fields_plain clock.moduli clock.offsets n)) in
    let slash : IsPlain 1 (codes "/") = record { short = omega arith; bytes = refl } in
    both 65 650 (decimal p ++ codes "/") fields (both 64 1 (decimal p) (codes "/") (number p) slash) short

-- ---- words

id_byte : (x : ℕ) → is_id_byte x ≡ true → is_line_byte x ≡ true
id_byte x h = grind (arith, nat_tests)

pub id_plain : (id : List ℕ) → IsId id → IsPlain 32 id
id_plain id h = record { short = omega (arith, h.long.1); bytes = all_weaker is_id_byte is_line_byte id_byte id h.bytes }

number_plain : (row : Option RowView) → IsPlain 64 (option_map_or (λ r. decimal r.number) row [])
number_plain None = none 64
number_plain (Some row) = number row.number

pub end_plain : (rows : List RowView) (ended : EndView) → IsPlain 137 (end_text rows ended)
end_plain rows LastEnd = record { short = omega arith; bytes = refl }
end_plain rows PartitionEnd = record { short = omega arith; bytes = refl }
end_plain rows FixedEnd = record { short = omega arith; bytes = refl }
end_plain rows (BlockedEnd low high) =
    let word : IsPlain 8 (codes "blocked:") = record { short = omega arith; bytes = refl } in
    let colon : IsPlain 1 (codes ":") = record { short = omega arith; bytes = refl } in
    both 73 64 (codes "blocked:" ++ number_at rows low ++ codes ":") (number_at rows high)
    (both 72 1 (codes "blocked:" ++ number_at rows low) (codes ":") (both 8 64 (codes "blocked:") (number_at rows low) word (number_plain (slice_get rows low))) colon)
    (number_plain (slice_get rows high))

found_plain : (rows : List RowView) (found : Option SegmentView) → IsPlain 137 (option_map_or (λ s. end_text rows s.ended) found [])
found_plain rows None = none 137
found_plain rows (Some s) = end_plain rows s.ended

end_field_plain : (chain : Option ChainView) (rows : List RowView) (place : ℕ) → IsPlain 137 (end_field chain rows place)
end_field_plain None rows place = none 137
end_field_plain (Some chain) rows place = found_plain rows (find (is_left_at place) chain.segments)

pub word_plain : (dropped new : Bool) → IsPlain 137 (cond dropped (codes "dropped") (cond new (codes "new") (codes "old")))
word_plain true new = record { short = omega arith; bytes = refl }
word_plain false true = record { short = omega arith; bytes = refl }
word_plain false false = record { short = omega arith; bytes = refl }

kind_plain : (chain : Option ChainView) (place : ℕ) → IsPlain 137 (kind_text chain place)
kind_plain None place = record { short = omega arith; bytes = refl }
kind_plain (Some chain) place = word_plain (list_any (λ d. d == place) chain.dropped) (nat_le chain.first_new place)

-- ---- lines

times_then : (clock : ClockView) (triples : List TripleView) (row : RowView) (found : Option (ℕ × TripleView)) (words : List (List ℕ))
    → AllByRecursion (IsPlain 137) words → length words ≤ 2
    → AllByRecursion (IsPlain 137) (time_fields (kernel_view 12 clock triples) row found ++ words)
    × (length (time_fields (kernel_view 12 clock triples) row found ++ words) ≤ 5)
times_then clock triples row None words all few = (all, omega arith)
times_then clock triples row (Some found) words all few = (
  (wider 130 137 _ (omega arith) (fixed 12 _ (omega arith)), (wider 130 137 _ (omega arith) (fixed 0 _ (omega arith)), (wider 64 137 _ (omega arith) (number found.0), all))),
  omega arith,
)

row_plain : (clock : ClockView) (triples : List TripleView) (chain : Option ChainView) (rows : List RowView) (place : ℕ) (row : RowView) → IsClock clock → IsId row.id
    → IsPlain 4096 (row_line (kernel_view 12 clock triples) chain rows place row)
row_plain clock triples chain rows place row h id =
    let words = kind_text chain place ∷ end_field chain rows place ∷ [] in
    let behind = times_then clock triples row (covering triples row.tick) words (kind_plain chain place, (end_field_plain chain rows place, tt)) (omega arith) in
    let rest = fixed_text 12 row.time ∷ (time_fields (kernel_view 12 clock triples) row (covering triples row.tick) ++ words) in
    let few : length rest ≤ 6 = omega (arith, behind.1) in
    let last = wider (138 * length rest) 828 (join_with_byte 59 rest) (omega (arith, few))
    (parts_joined 59 137 refl rest (wider 130 137 (fixed_text 12 row.time) (omega arith) (fixed 12 row.time (omega arith)), behind.0)) in
    let text = clock_text clock row.tick in
    let from_text = both 715 829 text (59 ∷ join_with_byte 59 rest) (text_plain clock _ _ h) (one_more 828 59 (join_with_byte 59 rest) refl last) in
    wider 1577 4096 (row.id ++ 59 ∷ (text ++ 59 ∷ join_with_byte 59 rest)) (omega arith)
    (both 32 1545 row.id (59 ∷ (text ++ 59 ∷ join_with_byte 59 rest)) (id_plain row.id id) (one_more 1544 59 (text ++ 59 ∷ join_with_byte 59 rest) refl from_text))

feed_is_not : (x : ℕ) → is_line_byte x ≡ true → is_line_feed x ≡ false
feed_is_not x h = grind (arith, nat_tests)

pub is_one_line : (most : ℕ) (text : List ℕ) → IsPlain most text → list_any is_line_feed text ≡ false
is_one_line most text h = none_if_all is_line_byte is_line_feed feed_is_not text h.bytes

-- a line of plain bytes is no marker, and has no line's end in it
plain_line : (line : List ℕ) → IsPlain 4096 line → IsTextLine line
plain_line line h = record {
  short = h.short;
  no_marker = no_marker (is_byte_of 92) (white_is_not 92 refl) line false refl refl (none_if_all is_line_byte (is_byte_of 92) no_slash line h.bytes);
  one_line = is_one_line 4096 line h;
  no_trailing_return = none_trailing line (none_if_all is_line_byte is_carriage_return no_return line h.bytes);
}
  where
    no_slash : (x : ℕ) → is_line_byte x ≡ true → is_byte_of 92 x ≡ false
    no_slash x p = grind (arith, nat_tests)

    no_return : (x : ℕ) → is_line_byte x ≡ true → is_carriage_return x ≡ false
    no_return x p = grind (arith, nat_tests)

rows_lined : (clock : ClockView) (triples : List TripleView) (chain : Option ChainView) (all : List RowView) (place : ℕ) (rows : List RowView) → All (IsLined clock) rows
    → All IsTextLine (row_lines_from (kernel_view 12 clock triples) chain all place rows)
rows_lined clock triples chain all place [] h = All-nil IsTextLine
rows_lined clock triples chain all place (row ∷ rows) h =
    let known = All-head (IsLined clock) row rows h in
    All-cons IsTextLine (row_line (kernel_view 12 clock triples) chain all place row) (row_lines_from (kernel_view 12 clock triples) chain all (place + 1) rows)
    (plain_line (row_line (kernel_view 12 clock triples) chain all place row) (row_plain clock triples chain all place row known.0 known.1))
    (rows_lined clock triples chain all (place + 1) rows (All-tail (IsLined clock) row rows h))

pub head_plain : (count : ℕ) → IsPlain 74 (codes "residuals;" ++ decimal count)
head_plain count = both 10 64 (codes "residuals;") (decimal count) (record { short = omega arith; bytes = refl }) (number count)

pub text_lines : (clock : ClockView) (triples : TriplesView) (rows : List RowView) (chain : Option Chain) → All (IsLined clock) rows → All IsTextLine (table_of clock triples rows chain)
text_lines clock triples rows chain h =
    let head = codes "residuals;" ++ decimal (length rows) in
    All-cons IsTextLine head (row_lines_from (kernel_view 12 clock triples.triples) (option_map (chain_view (sights rows)) chain) rows 0 rows)
    (plain_line head (wider 74 4096 head (omega arith) (head_plain (length rows))))
    (rows_lined clock triples.triples (option_map (chain_view (sights rows)) chain) rows 0 rows h)
