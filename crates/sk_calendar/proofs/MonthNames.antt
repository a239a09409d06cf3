-- The names of months, read and spelled.
use Rattle.std.proofs.Common.{◌≡◌, ◌≢◌, ℕ, zero, suc, ◌+◌, ◌-◌, ◌<◌, ◌≤◌, inl, inr, Bool, not, true, false, cond, List, [], ◌∷◌, ◌++◌, length, take, drop, map, Option, Some, None, option_map, nat_le, nat_lt, refl, ap, sym, ◌∙◌, subst, arith, length-append}
use Rattle.std.specs.Prelude.{slice_get, position, MatchOption}
use Rattle.std.specs.Char.{is_ascii_digit, to_ascii_lowercase}
use Rattle.std.specs.List.{prefix_len, position_or_len}
use Rattle.std.specs.Str.{bytes_eq, str_to_ascii_lowercase}
use Rattle.std.proofs.lemmas.Bool.{le-leb, ltb-true, cases_Bool}
use Rattle.std.proofs.lemmas.Option.{none-some, same_Some}
use Rattle.std.proofs.lemmas.List.{take-append-drop}
use Rattle.std.proofs.Math.Seq.{take-append_seam, drop-append_seam}
use Rattle.std.proofs.lemmas.Slice.Eq.{bytes_eq-Decides}
use Rattle.sk_leap.specs.Kernel.{month_names}
use Rattle.sk_leap.proofs.KernelDates.{month_place}
use Rattle.sk_leap.proofs.Padded.{mapped, guarded}
use Rattle.sk_calendar.specs.Calendar.{IsMonth}
use Rattle.sk_calendar.specs.Reading.{run_at, month_of, month_at}
use Rattle.sk_calendar.proofs.Runs.{Stops, no_run, SpellsFront}

-- ---- each name has three bytes and begins with no digit

abbrev IsName : List ℕ → Type 0
IsName name = (length name ≡ 3) × Stops name

abbrev AreNames : List (List ℕ) → Type 0
AreNames [] = Unit {0}
AreNames (name ∷ names) = IsName name × AreNames names

name_at : (names : List (List ℕ)) (k : ℕ) (name : List ℕ) → AreNames names → slice_get names k ≡ Some name → IsName name
name_at [] k name all h = absurd (none-some name h)
name_at (n ∷ names) zero name all h = subst IsName (same_Some n name h) all.0
name_at (n ∷ names) (suc k) name all h = name_at names k name all.1 h

map_length : (f : ℕ → ℕ) (xs : List ℕ) → length (map f xs) ≡ length xs
map_length f [] = refl
map_length f (x ∷ xs) = ap suc (map_length f xs)

digit_stays : (byte : ℕ) → is_ascii_digit (to_ascii_lowercase byte) ≡ false → is_ascii_digit byte ≡ false
digit_stays byte h = grind (arith, h)

stops_with : (byte : ℕ) (bytes : List ℕ) → is_ascii_digit byte ≡ false → Stops (byte ∷ bytes)
stops_with byte bytes h = ap (λ (b : Bool). cond b (1 + prefix_len is_ascii_digit bytes) 0) h

begins : (byte : ℕ) (bytes : List ℕ) → Stops (byte ∷ bytes) → is_ascii_digit byte ≡ false
begins byte bytes h = elim (cases_Bool (is_ascii_digit byte)) [
  | inl digit ↦ let more = ap (λ (b : Bool). cond b (1 + prefix_len is_ascii_digit bytes) 0) digit in absurd (omega (arith, more, h))
  | inr other ↦ other
]

lower_stops : (text rest : List ℕ) → length text ≡ 3 → Stops (map to_ascii_lowercase text) → Stops (text ++ rest)
lower_stops [] rest long stops = absurd (omega (arith, long))
lower_stops (x ∷ xs) rest long stops = stops_with x (xs ++ rest) (digit_stays x (begins (to_ascii_lowercase x) (map to_ascii_lowercase xs) stops))

pub record IsNameOf (text : List ℕ) : Type 0 where
  pub long : length text ≡ 3
  pub stops : (rest : List ℕ) → Stops (text ++ rest)

pub name_of : (k : ℕ) (text : List ℕ) → slice_get month_names k ≡ Some (str_to_ascii_lowercase text) → IsNameOf text
name_of k text h =
    let one : IsName (str_to_ascii_lowercase text) = name_at month_names k (str_to_ascii_lowercase text)
    ((refl, refl), ((refl, refl), ((refl, refl), ((refl, refl), ((refl, refl), ((refl, refl), ((refl, refl), ((refl, refl), ((refl, refl), ((refl, refl), ((refl, refl), ((refl, refl), tt)))))))))))) h in
    let long : length text ≡ 3 = omega (arith, one.0, map_length to_ascii_lowercase text) in
    record { long = long; stops = λ rest. lower_stops text rest long one.1 }

-- ---- the place of a name

bytes_are : (a b : List ℕ) → bytes_eq a b ≡ true → a ≡ b
bytes_are a b h = (bytes_eq-Decides a b).0 h

unfound : (names : List (List ℕ)) (low : List ℕ) → ((k : ℕ) → slice_get names k ≢ Some low) → position_or_len (λ (name : List ℕ). bytes_eq name low) names ≡ length names
unfound [] low none = refl
unfound (name ∷ names) low none = elim (cases_Bool (bytes_eq name low)) [
  | inl here ↦ absurd (none 0 (ap Some (bytes_are name low here)))
  | inr other ↦
      ap (λ (b : Bool). cond (not b) (1 + position_or_len (λ (n : List ℕ). bytes_eq n low) names) 0) other
      ∙ omega (arith, unfound names low (λ k. none (suc k)))
]

pub no_place : (low : List ℕ) → ((k : ℕ) → slice_get month_names k ≢ Some low) → position (λ (name : List ℕ). bytes_eq name low) month_names ≡ None
no_place low none = ap (λ (n : ℕ). cond (nat_lt n (length month_names)) (Some n) None) (unfound month_names low none)

one_more : (n : ℕ) → 1 + n ≡ suc n
one_more n = omega arith

found_at : (names : List (List ℕ)) (low : List ℕ) → position_or_len (λ (name : List ℕ). bytes_eq name low) names < length names
    → slice_get names (position_or_len (λ (name : List ℕ). bytes_eq name low) names) ≡ Some low
found_at [] low within = absurd (omega arith)
found_at (name ∷ names) low within = elim (cases_Bool (bytes_eq name low)) [
  | inl here ↦ ap (λ (b : Bool). slice_get (name ∷ names) (cond (not b) (1 + position_or_len (λ (n : List ℕ). bytes_eq n low) names) 0)) here ∙ ap Some (bytes_are name low here)
  | inr other ↦
      let place : position_or_len (λ (n : List ℕ). bytes_eq n low) (name ∷ names) ≡ 1 + position_or_len (λ (n : List ℕ). bytes_eq n low) names =
      ap (λ (b : Bool). cond (not b) (1 + position_or_len (λ (n : List ℕ). bytes_eq n low) names) 0) other in
      ap (slice_get (name ∷ names)) place ∙ ap (slice_get (name ∷ names)) (one_more (position_or_len (λ (n : List ℕ). bytes_eq n low) names)) ∙ found_at names low (omega (arith, within, place))
]

-- what the search for a month gives
pub month_is : (name : List ℕ) (o : Option ℕ) → MatchOption o ((k : ℕ) → slice_get month_names k ≢ Some (str_to_ascii_lowercase name)) (λ k. (k ≤ 11) × (slice_get month_names k ≡ Some (str_to_ascii_lowercase name)))
    → option_map (λ (k : ℕ). k + 1) o ≡ month_of name
month_is name None h = sym (ap (option_map (λ (k : ℕ). k + 1)) (no_place (str_to_ascii_lowercase name) h))
month_is name (Some k) h = sym (ap (option_map (λ (k : ℕ). k + 1)) (month_place k (str_to_ascii_lowercase name) h.1))

-- ---- a month in front

pub month_read : (month : ℕ) (text rest : List ℕ) → IsMonth text month → 1 ≤ month → month_at (text ++ rest) ≡ Some (month, rest)
month_read month text rest h from =
    let name = name_of (month - 1) text h in
    let bytes = text ++ rest in
    let room : nat_le 3 (length bytes) ≡ true = le-leb 3 (length bytes) (omega (arith, length-append text rest, name.long)) in
    let taken : take 3 bytes ≡ text = ap (λ (k : ℕ). take k bytes) (sym name.long) ∙ take-append_seam text rest in
    let left : drop 3 bytes ≡ rest = ap (λ (k : ℕ). drop k bytes) (sym name.long) ∙ drop-append_seam text rest in
    let place : month_of text ≡ Some (month - 1 + 1) = ap (option_map (λ (k : ℕ). k + 1)) (month_place (month - 1) (str_to_ascii_lowercase text) h) in
    let back : month - 1 + 1 ≡ month = omega arith in
    ap (λ (b : Bool). cond b (option_map (λ (m : ℕ). (m, drop 3 bytes)) (month_of (take 3 bytes))) None) room
    ∙ ap (λ (xs : List ℕ). option_map (λ (m : ℕ). (m, drop 3 bytes)) (month_of xs)) taken
    ∙ ap (option_map (λ (m : ℕ). (m, drop 3 bytes))) place
    ∙ ap (λ (xs : List ℕ). Some (month - 1 + 1, xs)) left
    ∙ ap (λ (m : ℕ). Some (m, rest)) back

-- no run of digits stands where a month does
pub month_no_run : (month : ℕ) (text rest : List ℕ) → IsMonth text month → run_at (text ++ rest) ≡ None
month_no_run month text rest h = no_run (text ++ rest) ((name_of (month - 1) text h).stops rest)

pub month_spelled : (bytes : List ℕ) (front : ℕ × List ℕ) → month_at bytes ≡ Some front → SpellsFront IsMonth bytes front
month_spelled bytes front h =
    let name = take 3 bytes in
    let low = str_to_ascii_lowercase name in
    let room = guarded (nat_le 3 (length bytes)) (option_map (λ (m : ℕ). (m, drop 3 bytes)) (month_of name)) front h in
    let month = mapped (λ (m : ℕ). (m, drop 3 bytes)) (month_of name) front room.1 in
    let place = mapped (λ (k : ℕ). k + 1) (position (λ (n : List ℕ). bytes_eq n low) month_names) month.0 month.1 in
    let at = position_or_len (λ (n : List ℕ). bytes_eq n low) month_names in
    let within = guarded (nat_lt at (length month_names)) (Some at) place.0 place.1 in
    let same : at ≡ month.0 - 1 = omega (arith, same_Some at place.0 within.1, place.2) in
    let here : slice_get month_names at ≡ Some low = found_at month_names low (ltb-true at (length month_names) within.0) in
    let has : IsMonth name month.0 = ap (slice_get month_names) (sym same) ∙ here in
    subst (SpellsFront IsMonth bytes) month.2 (record { text = name; is = sym (take-append-drop 3 bytes); has = has })
