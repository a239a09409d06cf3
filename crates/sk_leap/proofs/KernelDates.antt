-- The reader of a kernel's dates against what a date is.
use Rattle.std.proofs.Common.{◌≡◌, ℕ, zero, suc, ◌+◌, ◌-◌, ◌*◌, ◌/◌, ◌%◌, ◌^◌, ◌<◌, ◌≤◌, ◌⊎◌, inl, inr, Bool, true, false, cond, ◌||◌, List, [], ◌∷◌, ◌++◌, length, take, drop, replicate, map, get_or, Option, Some, None, option_map, codes, refl, ap, sym, ◌∙◌, subst, arith, lit<, lit≤, ⊎_elim, append_assoc, length-append}
use Rattle.std.specs.Prelude.{ℤ, pos, decimal, slice_get, position, MatchOption, ◌==◌}
use Rattle.std.specs.Option.{option_and_then}
use Rattle.std.specs.Int.{IsInRange}
use Rattle.std.specs.Str.{str_to_ascii_lowercase, bytes_eq}
use Rattle.std.specs.Char.{to_ascii_lowercase, is_ascii_digit}
use Rattle.std.specs.List.{list_all}
use Rattle.std.specs.Str.Parse.{digits_value}
use Rattle.std.proofs.lemmas.Bool.{eq-eqb, eqb-true, or_cases, cases_lt}
use Rattle.std.proofs.lemmas.Fmt.{decimal_digit, decimal_step_wide}
use Rattle.std.proofs.lemmas.Int.{ints}
use Rattle.std.proofs.lemmas.List.{take-append-drop}
use Rattle.std.proofs.lemmas.Option.{none-some, same_Some, slice_get_within, slice_get-get_or}
use Rattle.std.proofs.Math.Seq.{take-append_seam, drop-append_seam}
use Rattle.jiff_core.specs.Calendar.{IsDate}
use Rattle.sk_decimal.specs.Number.{padded_decimal}
use Rattle.sk_leap.specs.Kernel.{month_names, IsLeapDate, day_of}
use Rattle.sk_leap.specs.Reading.{number_of, number_at, behind, marked_number, month_day_of, named_day, kernel_date}
use Rattle.sk_leap.proofs.Padded.{AreDigitsOf, padded_is, padded_from, digits_small, marked_read, marked_spelled, behind_read, behind_spelled, bound, mapped, guarded}
use Rattle.sk_leap.proofs.Texts.{days_small}

-- ---- names of months

-- a month's name has one place
pub month_place : (k : ℕ) (low : List ℕ) → slice_get month_names k ≡ Some low → position (λ name. bytes_eq name low) month_names ≡ Some k
month_place zero low h = subst (λ (l : List ℕ). position (λ name. bytes_eq name l) month_names ≡ Some 0) (same_Some _ _ h) refl
month_place (suc zero) low h = subst (λ (l : List ℕ). position (λ name. bytes_eq name l) month_names ≡ Some 1) (same_Some _ _ h) refl
month_place (suc (suc zero)) low h = subst (λ (l : List ℕ). position (λ name. bytes_eq name l) month_names ≡ Some 2) (same_Some _ _ h) refl
month_place (suc (suc (suc zero))) low h = subst (λ (l : List ℕ). position (λ name. bytes_eq name l) month_names ≡ Some 3) (same_Some _ _ h) refl
month_place (suc (suc (suc (suc zero)))) low h = subst (λ (l : List ℕ). position (λ name. bytes_eq name l) month_names ≡ Some 4) (same_Some _ _ h) refl
month_place (suc (suc (suc (suc (suc zero))))) low h = subst (λ (l : List ℕ). position (λ name. bytes_eq name l) month_names ≡ Some 5) (same_Some _ _ h) refl
month_place (suc (suc (suc (suc (suc (suc zero)))))) low h = subst (λ (l : List ℕ). position (λ name. bytes_eq name l) month_names ≡ Some 6) (same_Some _ _ h) refl
month_place (suc (suc (suc (suc (suc (suc (suc zero))))))) low h = subst (λ (l : List ℕ). position (λ name. bytes_eq name l) month_names ≡ Some 7) (same_Some _ _ h) refl
month_place (suc (suc (suc (suc (suc (suc (suc (suc zero)))))))) low h = subst (λ (l : List ℕ). position (λ name. bytes_eq name l) month_names ≡ Some 8) (same_Some _ _ h) refl
month_place (suc (suc (suc (suc (suc (suc (suc (suc (suc zero))))))))) low h = subst (λ (l : List ℕ). position (λ name. bytes_eq name l) month_names ≡ Some 9) (same_Some _ _ h) refl
month_place (suc (suc (suc (suc (suc (suc (suc (suc (suc (suc zero)))))))))) low h = subst (λ (l : List ℕ). position (λ name. bytes_eq name l) month_names ≡ Some 10) (same_Some _ _ h) refl
month_place (suc (suc (suc (suc (suc (suc (suc (suc (suc (suc (suc zero))))))))))) low h = subst (λ (l : List ℕ). position (λ name. bytes_eq name l) month_names ≡ Some 11) (same_Some _ _ h) refl
month_place (suc (suc (suc (suc (suc (suc (suc (suc (suc (suc (suc (suc k)))))))))))) low h = absurd (none-some low h)

-- and three letters
abbrev AllThree : List (List ℕ) → Type 0
AllThree [] = Unit {0}
AllThree (name ∷ names) = (length name ≡ 3) × AllThree names

three_at : (names : List (List ℕ)) (k : ℕ) (name : List ℕ) → AllThree names → slice_get names k ≡ Some name → length name ≡ 3
three_at [] k name all h = absurd (none-some name h)
three_at (n ∷ names) zero name all h = sym (ap length (same_Some n name h)) ∙ all.0
three_at (n ∷ names) (suc k) name all h = three_at names k name all.1 h

map_length : (f : ℕ → ℕ) (xs : List ℕ) → length (map f xs) ≡ length xs
map_length f [] = refl
map_length f (x ∷ xs) = ap suc (map_length f xs)

name_length : (k : ℕ) (name : List ℕ) → slice_get month_names k ≡ Some (str_to_ascii_lowercase name) → length name ≡ 3
name_length k name h =
    let low : length (str_to_ascii_lowercase name) ≡ 3 = three_at month_names k (str_to_ascii_lowercase name) (refl, (refl, (refl, (refl, (refl, (refl, (refl, (refl, (refl, (refl, (refl, (refl, tt)))))))))))) h in
    omega (arith, low, map_length to_ascii_lowercase name)

-- ---- short numbers

decimal_one : (n : ℕ) → n < 10 → length (decimal n) ≡ 1
decimal_one n h = ap length (decimal_digit n h)

decimal_more : (n : ℕ) → 10 ≤ n → n < 10 ^ 64 → length (decimal n) ≡ length (decimal (n / 10)) + 1
decimal_more n h b = ap length (decimal_step_wide n h b) ∙ length-append (decimal (n / 10)) ((48 + n % 10) ∷ [])

decimal_two : (n : ℕ) → 10 ≤ n → n < 100 → length (decimal n) ≡ 2
decimal_two n from to = omega (arith, decimal_more n from (omega arith), decimal_one (n / 10) (omega arith))

decimal_three : (n : ℕ) → 100 ≤ n → n < 1000 → length (decimal n) ≡ 3
decimal_three n from to = omega (arith, decimal_more n (omega arith) (omega arith), decimal_two (n / 10) (omega arith) (omega arith))

decimal_four : (n : ℕ) → 1000 ≤ n → n < 10000 → length (decimal n) ≡ 4
decimal_four n from to = omega (arith, decimal_more n (omega arith) (omega arith), decimal_three (n / 10) (omega arith) (omega arith))

padded_full : (width n : ℕ) → length (decimal n) ≡ width → padded_decimal width n ≡ decimal n
padded_full width n long = let none : width - length (decimal n) ≡ 0 = omega arith in ap (λ (k : ℕ). replicate k 48 ++ decimal n) none

year_padded : (year : ℕ) → IsInRange 1958 2199 year → padded_decimal 4 year ≡ decimal year
year_padded year h = padded_full 4 year (decimal_four year (omega (arith, h)) (omega (arith, h)))

-- one or two digits are read
one_read : (n : ℕ) (digits : List ℕ) → AreDigitsOf 1 digits n → month_day_of digits ≡ Some n
one_read n digits h =
    ap (λ (k : ℕ). cond ((k == 1) || (k == 2)) (number_of digits) None) h.long
    ∙ ap (λ (b : Bool). cond b (Some (digits_value 10 digits)) None) h.digits ∙ ap Some h.value

two_read : (n : ℕ) (digits : List ℕ) → AreDigitsOf 2 digits n → month_day_of digits ≡ Some n
two_read n digits h =
    ap (λ (k : ℕ). cond ((k == 1) || (k == 2)) (number_of digits) None) h.long
    ∙ ap (λ (b : Bool). cond b (Some (digits_value 10 digits)) None) h.digits ∙ ap Some h.value

decimal_read : (n : ℕ) → n < 10 ^ 2 → month_day_of (decimal n) ≡ Some n
decimal_read n lt =
    ⊎_elim
    (λ (small : n < 10). one_read n (decimal n) (subst (λ (ds : List ℕ). AreDigitsOf 1 ds n) (padded_full 1 n (decimal_one n small)) (padded_is 0 n (lit≤ tt) small)))
    (λ (large : 10 ≤ n). two_read n (decimal n) (subst (λ (ds : List ℕ). AreDigitsOf 2 ds n) (padded_full 2 n (decimal_two n large lt)) (padded_is 1 n (lit≤ tt) lt)))
    (cases_lt n 10)

digits_read : (n : ℕ) (digits : List ℕ) → n < 10 ^ 2 → (digits ≡ decimal n) ⊎ (digits ≡ padded_decimal 2 n) → month_day_of digits ≡ Some n
digits_read n digits lt (inl h) = ap month_day_of h ∙ decimal_read n lt
digits_read n digits lt (inr h) = ap month_day_of h ∙ two_read n (padded_decimal 2 n) (padded_is 1 n (lit≤ tt) lt)

-- and what is read is written so
read_digits : (digits : List ℕ) (n : ℕ) → month_day_of digits ≡ Some n → (digits ≡ decimal n) ⊎ (digits ≡ padded_decimal 2 n)
read_digits digits n h =
    let room = guarded ((length digits == 1) || (length digits == 2)) (number_of digits) n h in
    let all = guarded (list_all is_ascii_digit digits) (Some (digits_value 10 digits)) n room.1 in
    elim (or_cases (length digits == 1) (length digits == 2) room.0) [
      | inl one ↦
          let here : AreDigitsOf 1 digits n = record { long = eqb-true (length digits) 1 one; digits = all.0; value = same_Some _ _ all.1 } in
          let small = digits_small 1 n digits here in
          inl (padded_from 0 n digits (lit≤ tt) small here ∙ padded_full 1 n (decimal_one n small))
      | inr two ↦
          let here : AreDigitsOf 2 digits n = record { long = eqb-true (length digits) 2 two; digits = all.0; value = same_Some _ _ all.1 } in
          inr (padded_from 1 n digits (lit≤ tt) (digits_small 2 n digits here) here)
    ]

-- ---- dates

joined_date : (year name digits : List ℕ) → codes "@" ++ year ++ codes "-" ++ name ++ codes "-" ++ digits ≡ 64 ∷ (year ++ 45 ∷ (name ++ 45 ∷ digits))
joined_date year name digits = simp append_assoc

split_date : (year name digits : List ℕ) → 64 ∷ (year ++ 45 ∷ (name ++ 45 ∷ digits)) ≡ codes "@" ++ year ++ codes "-" ++ name ++ codes "-" ++ digits
split_date year name digits = simp append_assoc

named_read : (year date : ℕ) (name digits : List ℕ) → length name ≡ 3 → month_day_of digits ≡ Some date → named_day year (name ++ 45 ∷ digits) ≡ Some (year, name, date)
named_read year date name digits long read =
    let bytes = name ++ 45 ∷ digits in
    let taken : take 3 bytes ≡ name = ap (λ (k : ℕ). take k bytes) (sym long) ∙ take-append_seam name (45 ∷ digits) in
    let left : drop 3 bytes ≡ 45 ∷ digits = ap (λ (k : ℕ). drop k bytes) (sym long) ∙ drop-append_seam name (45 ∷ digits) in
    ap (λ (xs : List ℕ). option_map (λ (d : ℕ). (year, take 3 bytes, d)) (option_and_then month_day_of (behind 45 xs))) left
    ∙ ap (option_map (λ (d : ℕ). (year, take 3 bytes, d))) read
    ∙ ap (λ (xs : List ℕ). Some (year, xs, date)) taken

-- a date is read
pub date_read : (text : List ℕ) (day : ℤ) (h : IsLeapDate text day) → kernel_date text ≡ Some (h.year, h.name, h.date)
date_read text day h =
    let tail = h.name ++ 45 ∷ h.digits in
    let date : h.date < 10 ^ 2 = days_small h.year h.month h.date h.real in
    let shape : text ≡ 64 ∷ (padded_decimal 4 h.year ++ 45 ∷ tail) =
    h.joined ∙ joined_date (decimal h.year) h.name h.digits ∙ ap (λ (xs : List ℕ). 64 ∷ (xs ++ 45 ∷ tail)) (sym (year_padded h.year h.in_range)) in
    ap kernel_date shape
    ∙ ap (option_and_then (λ (y : ℕ × List ℕ). option_and_then (named_day y.0) (behind 45 y.1))) (marked_read 64 3 h.year (45 ∷ tail) (lit≤ tt) (omega (arith, h.in_range)))
    ∙ named_read h.year h.date h.name h.digits (name_length (h.month - 1) h.name h.is_name) (digits_read h.date h.digits date h.are_digits)

-- what is read is a date
pub read_date : (text : List ℕ) (year : ℕ) (name : List ℕ) (date month : ℕ) (day : ℤ) → kernel_date text ≡ Some (year, name, date) → IsInRange 1958 2199 year
    → slice_get month_names (month - 1) ≡ Some (str_to_ascii_lowercase name) → IsDate (pos year) (pos month) (pos date) → day ≡ day_of year month date → IsLeapDate text day
read_date text year name date month day read range is_name real is_day =
    let front = bound (λ (y : ℕ × List ℕ). option_and_then (named_day y.0) (behind 45 y.1)) (marked_number 64 4 text) (year, name, date) read in
    let named = bound (named_day front.0.0) (behind 45 front.0.1) (year, name, date) front.2 in
    let last = mapped (λ (d : ℕ). (front.0.0, take 3 named.0, d)) (option_and_then month_day_of (behind 45 (drop 3 named.0))) (year, name, date) named.2 in
    let digits = bound month_day_of (behind 45 (drop 3 named.0)) last.0 last.1 in
    let same_year : front.0.0 ≡ year = ap (λ (x : ℕ × List ℕ × ℕ). x.0) last.2 in
    let same_name : take 3 named.0 ≡ name = ap (λ (x : ℕ × List ℕ × ℕ). x.1) last.2 in
    let same_date : last.0 ≡ date = ap (λ (x : ℕ × List ℕ × ℕ). x.2) last.2 in
    let y = marked_spelled 64 3 front.0.0 text front.0.1 (lit≤ tt) front.1 in
    let n = behind_spelled 45 front.0.1 named.0 named.1 in
    let d = behind_spelled 45 (drop 3 named.0) digits.0 digits.1 in
    let whole : named.0 ≡ name ++ 45 ∷ digits.0 = sym (take-append-drop 3 named.0) ∙ ap (λ (xs : List ℕ). xs ++ drop 3 named.0) same_name ∙ ap (λ (xs : List ℕ). name ++ xs) d in
    let written : padded_decimal 4 front.0.0 ≡ decimal year = ap (padded_decimal 4) same_year ∙ year_padded year range in
    record {
      year = year;
      month = month;
      date = date;
      name = name;
      digits = digits.0;
      joined = y.is ∙ ap (λ (xs : List ℕ). 64 ∷ (xs ++ front.0.1)) written ∙ ap (λ (xs : List ℕ). 64 ∷ (decimal year ++ xs)) n
          ∙ ap (λ (xs : List ℕ). 64 ∷ (decimal year ++ 45 ∷ xs)) whole ∙ split_date (decimal year) name digits.0;
      in_range = range;
      is_name = is_name;
      are_digits = read_digits digits.0 date (digits.2 ∙ ap Some same_date);
      real = real;
      is_day = is_day;
    }

-- a month from 1 has one name
pub one_month : (m n : ℕ) (low : List ℕ) → 1 ≤ m → 1 ≤ n → slice_get month_names (m - 1) ≡ Some low → slice_get month_names (n - 1) ≡ Some low → m ≡ n
one_month m n low some_m some_n a b =
    let same : m - 1 ≡ n - 1 = same_Some (m - 1) (n - 1) (sym (month_place (m - 1) low a) ∙ month_place (n - 1) low b) in
    omega (arith, same)

-- no bytes write two dates
pub one_date : (text : List ℕ) (a b : ℤ) → IsLeapDate text a → IsLeapDate text b → a ≡ b
one_date text a b g h =
    let parts = same_Some (g.year, g.name, g.date) (h.year, h.name, h.date) (sym (date_read text a g) ∙ date_read text b h) in
    let year : g.year ≡ h.year = ap (λ (x : ℕ × List ℕ × ℕ). x.0) parts in
    let name : g.name ≡ h.name = ap (λ (x : ℕ × List ℕ × ℕ). x.1) parts in
    let date : g.date ≡ h.date = ap (λ (x : ℕ × List ℕ × ℕ). x.2) parts in
    let month : g.month ≡ h.month = one_month g.month h.month (str_to_ascii_lowercase h.name) (omega (arith, ints, g.real)) (omega (arith, ints, h.real))
    (g.is_name ∙ ap (λ (xs : List ℕ). Some (str_to_ascii_lowercase xs)) name) h.is_name in
    let same : day_of g.year g.month g.date ≡ day_of h.year h.month h.date = cc in
    g.is_day ∙ same ∙ sym h.is_day

-- ---- the day of a date that was read

pub record SameParts (text : List ℕ) (day : ℤ) (h : IsLeapDate text day) (year : ℕ) (name : List ℕ) (date : ℕ) : Type 0 where
  pub year_is : h.year ≡ year
  pub name_is : h.name ≡ name
  pub date_is : h.date ≡ date

pub same_parts : (text : List ℕ) (year : ℕ) (name : List ℕ) (date : ℕ) (day : ℤ) (h : IsLeapDate text day) → kernel_date text ≡ Some (year, name, date) → SameParts text day h year name date
same_parts text year name date day h read =
    let parts = same_Some (h.year, h.name, h.date) (year, name, date) (sym (date_read text day h) ∙ read) in
    record {
      year_is = ap (λ (x : ℕ × List ℕ × ℕ). x.0) parts;
      name_is = ap (λ (x : ℕ × List ℕ × ℕ). x.1) parts;
      date_is = ap (λ (x : ℕ × List ℕ × ℕ). x.2) parts;
    }

abbrev pub IsMonthName : ℕ → List ℕ → Type 0
IsMonthName month name = slice_get month_names (month - 1) ≡ Some (str_to_ascii_lowercase name)

pub leap_day : (o : Option ℤ) (text : List ℕ) (year : ℕ) (name : List ℕ) (date month : ℕ) → kernel_date text ≡ Some (year, name, date) → IsInRange 1958 2199 year
    → 1 ≤ month → IsMonthName month name
    → MatchOption o (¬ IsDate (pos year) (pos month) (pos date)) (λ day. IsDate (pos year) (pos month) (pos date) × (day ≡ day_of year month date))
    → MatchOption o ((day : ℤ) → ¬ IsLeapDate text day) (IsLeapDate text)
leap_day None text year name date month read range from is_name no_date = λ day h.
    let same = same_parts text year name date day h read in
    let named : IsMonthName h.month name = subst (IsMonthName h.month) same.name_is h.is_name in
    let month_is : h.month ≡ month = one_month h.month month (str_to_ascii_lowercase name) (omega (arith, ints, h.real)) from named is_name in
    no_date
    (subst (λ (y : ℕ). IsDate (pos y) (pos month) (pos date)) same.year_is
    (subst (λ (m : ℕ). IsDate (pos h.year) (pos m) (pos date)) month_is
    (subst (λ (d : ℕ). IsDate (pos h.year) (pos h.month) (pos d)) same.date_is h.real)))
leap_day (Some day) text year name date month read range from is_name is_date = read_date text year name date month day read range is_name is_date.0 is_date.1

-- ---- the search for a month

pub month_small : (place : ℕ) (low : List ℕ) → slice_get month_names place ≡ Some low → place < 12
month_small place low h = slice_get_within month_names place low h

get_or-map : (f : List ℕ → List ℕ) (xs : List (List ℕ)) (k : ℕ) → f [] ≡ [] → get_or (map f xs) k [] ≡ f (get_or xs k [])
get_or-map f [] k nil = sym nil
get_or-map f (x ∷ xs) zero nil = refl
get_or-map f (x ∷ xs) (suc k) nil = get_or-map f xs k nil

-- the month at a place, in lower case, is the name there
pub month_at : (place : ℕ) (low element : List ℕ) → element ≡ get_or month_names place [] → slice_get month_names place ≡ Some low → map to_ascii_lowercase element ≡ low
month_at place low element is h =
    let lower : get_or (map (map to_ascii_lowercase) month_names) place [] ≡ map to_ascii_lowercase (get_or month_names place []) = get_or-map (map to_ascii_lowercase) month_names place refl in
    let here : Some (get_or month_names place []) ≡ Some low = sym (slice_get-get_or month_names place [] (month_small place low h)) ∙ h in
    ap (map to_ascii_lowercase) is ∙ sym lower ∙ same_Some _ _ here
