-- Runs of digits: what is read is spelled, and what is spelled is read.
use Rattle.std.proofs.Common.{◌≡◌, ℕ, zero, suc, ◌+◌, ◌-◌, ◌*◌, ◌^◌, ◌<◌, ◌≤◌, ◌⊎◌, inl, inr, Bool, true, false, cond, ◌&&◌, List, [], ◌∷◌, ◌++◌, length, take, drop, Option, Some, None, option_map, nat_le, nat_lt, refl, ap, sym, ◌∙◌, subst, arith, lit<, lit≤, pow-add}
use Rattle.std.specs.Prelude.{◌==◌}
use Rattle.std.specs.Char.{is_ascii_digit}
use Rattle.std.specs.List.{list_all, prefix_len}
use Rattle.std.specs.Option.{option_and_then}
use Rattle.std.specs.Str.Parse.{digits_value}
use Rattle.std.proofs.lemmas.Bool.{and_parts, and_from, le-leb, leb-true, lt-ltb, ltb-true, eq-eqb, eqb-true}
use Rattle.std.proofs.lemmas.Option.{same_Some}
use Rattle.std.proofs.lemmas.List.{take-append-drop, length-take}
use Rattle.std.proofs.lemmas.List.Folds.{length-prefix_len}
use Rattle.std.proofs.Math.Nat.{pow-le-pow_right, one-le-pow, mul-lt-mul_of_pos_right}
use Rattle.std.proofs.Math.Seq.{take-append_seam, drop-append_seam}
use Rattle.sk_decimal.specs.Reading.{digits_at, behind_digits}
use Rattle.sk_leap.specs.Reading.{number_of, behind}
use Rattle.sk_leap.proofs.DigitsRead.{IsReadTo}
use Rattle.sk_leap.proofs.Padded.{behind_spelled, bound, mapped, guarded}
use Rattle.sk_calendar.specs.Calendar.{IsNumber, IsShortNumber}
use Rattle.sk_calendar.specs.Reading.{run_at, exactly, number_at, briefly, short_at}

-- so far the number fits
pub read_room : (digits : List ℕ) (i number : ℕ) → i < length digits → length digits ≤ 18 → IsReadTo (take i digits) number → number < 10 ^ 17
read_room digits i number in' le h =
    let long : length (take i digits) ≤ 17 = simp length-take (omega arith) in
    let power : 10 ^ length (take i digits) ≤ 10 ^ 17 = pow-le-pow_right (lit< tt) long in
    omega (arith, power, h.small)

-- so many digits of a fraction, in 10 ^ -18
pub scaled_small : (number count power : ℕ) → number < 10 ^ count → count ≤ 18 → power ≡ 10 ^ (18 - count) → number * power < 10 ^ 18
scaled_small number count power small few is =
    let some : 0 < 10 ^ (18 - count) = one-le-pow (18 - count) 10 (lit< tt) in
    let product : number * 10 ^ (18 - count) < 10 ^ count * 10 ^ (18 - count) = mul-lt-mul_of_pos_right small some in
    let places : count + (18 - count) ≡ 18 = omega arith in
    let all : 10 ^ count * 10 ^ (18 - count) ≡ 10 ^ 18 = sym (pow-add 10 count (18 - count)) ∙ ap (λ (n : ℕ). 10 ^ n) places in
    let scaled : number * power ≡ number * 10 ^ (18 - count) = ap (λ (p : ℕ). number * p) is in
    omega (arith, product, all, scaled)

-- one of two branches was taken
pub branches : {A : Type 0} (b : Bool) (x y z : A) → cond b x y ≡ z → ((b ≡ true) × (x ≡ z)) ⊎ ((b ≡ false) × (y ≡ z))
branches true x y z h = inl (refl, h)
branches false x y z h = inr (refl, h)

-- ---- digits, and what stops them

abbrev pub Stops : List ℕ → Type 0
Stops rest = prefix_len is_ascii_digit rest ≡ 0

run_length : (digits rest : List ℕ) → list_all is_ascii_digit digits ≡ true → Stops rest → prefix_len is_ascii_digit (digits ++ rest) ≡ length digits
run_length [] rest all stops = stops
run_length (d ∷ ds) rest all stops =
    let both = and_parts (is_ascii_digit d) (list_all is_ascii_digit ds) all in
    ap (λ (b : Bool). cond b (1 + prefix_len is_ascii_digit (ds ++ rest)) 0) both.0 ∙ omega (arith, run_length ds rest both.1 stops)

run_digits : (digits rest : List ℕ) → list_all is_ascii_digit digits ≡ true → Stops rest → digits_at (digits ++ rest) ≡ digits
run_digits digits rest all stops = ap (λ (k : ℕ). take k (digits ++ rest)) (run_length digits rest all stops) ∙ take-append_seam digits rest

run_rest : (digits rest : List ℕ) → list_all is_ascii_digit digits ≡ true → Stops rest → behind_digits (digits ++ rest) ≡ rest
run_rest digits rest all stops = ap (λ (xs : List ℕ). drop (length xs) (digits ++ rest)) (run_digits digits rest all stops) ∙ drop-append_seam digits rest

digits_split : (bytes : List ℕ) → bytes ≡ digits_at bytes ++ behind_digits bytes
digits_split bytes =
    sym (take-append-drop (prefix_len is_ascii_digit bytes) bytes)
    ∙ ap (λ (k : ℕ). digits_at bytes ++ drop k bytes) (sym (length-prefix_len is_ascii_digit bytes))

-- ---- a run

abbrev run_from : List ℕ → List ℕ → Option (ℕ × ℕ × List ℕ)
run_from digits rest = cond (nat_lt 0 (length digits) && nat_le (length digits) 18) (option_map (λ (n : ℕ). (length digits, n, rest)) (number_of digits)) None

pub run_read : (width number : ℕ) (digits rest : List ℕ) → IsNumber width digits number → 0 < width → width ≤ 18 → Stops rest → run_at (digits ++ rest) ≡ Some (width, number, rest)
run_read width number digits rest h some few stops =
    let room : (nat_lt 0 (length digits) && nat_le (length digits) 18) ≡ true = and_from _ _ (lt-ltb 0 (length digits) (omega (arith, h.long))) (le-leb (length digits) 18 (omega (arith, h.long))) in
    let value : number_of digits ≡ Some number = ap (λ (b : Bool). cond b (Some (digits_value 10 digits)) None) h.digits ∙ ap Some (sym h.value) in
    ap (λ (ds : List ℕ). run_from ds (behind_digits (digits ++ rest))) (run_digits digits rest h.digits stops)
    ∙ ap (λ (rs : List ℕ). run_from digits rs) (run_rest digits rest h.digits stops)
    ∙ ap (λ (b : Bool). cond b (option_map (λ (n : ℕ). (length digits, n, rest)) (number_of digits)) None) room
    ∙ ap (option_map (λ (n : ℕ). (length digits, n, rest))) value
    ∙ ap (λ (w : ℕ). Some (w, number, rest)) h.long

pub record SpellsRun (bytes : List ℕ) (run : ℕ × ℕ × List ℕ) : Type 0 where
  pub digits : List ℕ
  pub is : bytes ≡ digits ++ run.2
  pub number : IsNumber run.0 digits run.1
  pub some : 0 < run.0
  pub few : run.0 ≤ 18

pub run_spelled : (bytes : List ℕ) (run : ℕ × ℕ × List ℕ) → run_at bytes ≡ Some run → SpellsRun bytes run
run_spelled bytes run h =
    let digits = digits_at bytes in
    let rest = behind_digits bytes in
    let room = guarded (nat_lt 0 (length digits) && nat_le (length digits) 18) (option_map (λ (n : ℕ). (length digits, n, rest)) (number_of digits)) run h in
    let both = and_parts (nat_lt 0 (length digits)) (nat_le (length digits) 18) room.0 in
    let number = mapped (λ (n : ℕ). (length digits, n, rest)) (number_of digits) run room.1 in
    let all = guarded (list_all is_ascii_digit digits) (Some (digits_value 10 digits)) number.0 number.1 in
    let is_number : IsNumber (length digits) digits number.0 = record { long = refl; digits = all.0; value = sym (same_Some _ _ all.1) } in
    subst (SpellsRun bytes) number.2 (record { digits = digits; is = digits_split bytes; number = is_number; some = ltb-true 0 (length digits) both.0; few = leb-true (length digits) 18 both.1 })

-- where no digit stands in front there is no run
pub no_run : (bytes : List ℕ) → Stops bytes → run_at bytes ≡ None
no_run bytes stops = ap (λ (k : ℕ). run_from (take k bytes) (drop (length (take k bytes)) bytes)) stops

-- ---- a text in front, and behind a mark

pub record SpellsFront (P : List ℕ → ℕ → Type 0) (bytes : List ℕ) (front : ℕ × List ℕ) : Type 0 where
  pub text : List ℕ
  pub is : bytes ≡ text ++ front.1
  pub has : P text front.0

pub record SpellsMarked (P : List ℕ → ℕ → Type 0) (mark : ℕ) (bytes : List ℕ) (front : ℕ × List ℕ) : Type 0 where
  pub text : List ℕ
  pub is : bytes ≡ mark ∷ (text ++ front.1)
  pub has : P text front.0

pub marked : (P : List ℕ → ℕ → Type 0) (at : List ℕ → Option (ℕ × List ℕ)) → ((bytes : List ℕ) (front : ℕ × List ℕ) → at bytes ≡ Some front → SpellsFront P bytes front)
    → (mark : ℕ) (bytes : List ℕ) (front : ℕ × List ℕ) → option_and_then at (behind mark bytes) ≡ Some front → SpellsMarked P mark bytes front
marked P at spelled mark bytes front h =
    let inner = bound at (behind mark bytes) front h in
    let found = spelled inner.0 front inner.2 in
    record { text = found.text; is = behind_spelled mark bytes inner.0 inner.1 ∙ ap (λ (xs : List ℕ). mark ∷ xs) found.is; has = found.has }

-- ---- numbers

pub number_read : (width number : ℕ) (digits rest : List ℕ) → IsNumber width digits number → 0 < width → width ≤ 18 → Stops rest → number_at width (digits ++ rest) ≡ Some (number, rest)
number_read width number digits rest h some few stops =
    ap (option_and_then (exactly width)) (run_read width number digits rest h some few stops)
    ∙ ap (λ (b : Bool). cond b (Some (number, rest)) None) (eq-eqb width width refl)

pub number_spelled : (width : ℕ) (bytes : List ℕ) (front : ℕ × List ℕ) → number_at width bytes ≡ Some front → SpellsFront (IsNumber width) bytes front
number_spelled width bytes front h =
    let run = bound (exactly width) (run_at bytes) front h in
    let same = guarded (run.0.0 == width) (Some (run.0.1, run.0.2)) front run.2 in
    let spelled = run_spelled bytes run.0 run.1 in
    let wide : IsNumber width spelled.digits run.0.1 = subst (λ (w : ℕ). IsNumber w spelled.digits run.0.1) (eqb-true run.0.0 width same.0) spelled.number in
    subst (SpellsFront (IsNumber width) bytes) (same_Some (run.0.1, run.0.2) front same.1) (record { text = spelled.digits; is = spelled.is; has = wide })

pub short_read : (number : ℕ) (digits rest : List ℕ) → IsShortNumber digits number → Stops rest → short_at (digits ++ rest) ≡ Some (number, rest)
short_read number digits rest (inl h) stops = ap (option_and_then briefly) (run_read 1 number digits rest h (lit< tt) (lit≤ tt) stops)
short_read number digits rest (inr h) stops = ap (option_and_then briefly) (run_read 2 number digits rest h (lit< tt) (lit≤ tt) stops)

-- a run of at most two digits
pub short_run : (width number : ℕ) (digits : List ℕ) → IsNumber width digits number → 0 < width → width ≤ 2 → IsShortNumber digits number
short_run zero number digits h some few = absurd (omega arith)
short_run (suc zero) number digits h some few = inl h
short_run (suc (suc zero)) number digits h some few = inr h
short_run (suc (suc (suc n))) number digits h some few = absurd (omega arith)

pub short_spelled : (bytes : List ℕ) (front : ℕ × List ℕ) → short_at bytes ≡ Some front → SpellsFront IsShortNumber bytes front
short_spelled bytes front h =
    let run = bound briefly (run_at bytes) front h in
    let few = guarded (nat_le run.0.0 2) (Some (run.0.1, run.0.2)) front run.2 in
    let spelled = run_spelled bytes run.0 run.1 in
    let short = short_run run.0.0 run.0.1 spelled.digits spelled.number spelled.some (leb-true run.0.0 2 few.0) in
    subst (SpellsFront IsShortNumber bytes) (same_Some (run.0.1, run.0.2) front few.1) (record { text = spelled.digits; is = spelled.is; has = short })
