-- Numbers that are written with so many digits, and no other bytes write them.
use Rattle.std.proofs.Common.{◌≡◌, ℕ, zero, suc, ◌+◌, ◌-◌, ◌*◌, ◌/◌, ◌%◌, ◌^◌, ◌<◌, ◌≤◌, Bool, true, false, List, [], ◌∷◌, ◌++◌, length, take, drop, cond, Option, Some, None, option_map, nat_le, refl, ap, sym, ◌∙◌, subst, arith, lit<, length-append}
use Rattle.std.specs.Prelude.{decimal}
use Rattle.std.specs.Char.{is_ascii_digit, digit_value}
use Rattle.std.specs.List.{list_all}
use Rattle.std.specs.Str.Parse.{digits_value, digits_value_after}
use Rattle.std.proofs.lemmas.Bool.{and_parts, and_from, le-leb, leb-true, eq-eqb, eqb-true}
use Rattle.std.proofs.lemmas.List.{take-append-drop, length-take}
use Rattle.std.proofs.lemmas.Option.{none-some, same_Some}
use Rattle.std.specs.Option.{option_and_then}
use Rattle.std.specs.Prelude.{◌==◌}
use Rattle.std.proofs.lemmas.Nat.{div-add-mod', mod-mul-add, mul-le}
use Rattle.std.proofs.Math.Nat.{pow-suc, one-le-pow, mod-lt, mod-eq_of_lt, mul-div_cancel, pow-le-pow_right}
use Rattle.std.proofs.Math.Seq.{take-append_seam, drop-append_seam}
use Rattle.sk_decimal.specs.Number.{padded_decimal}
use Rattle.sk_leap.specs.Digits.{last_digits}
use Rattle.sk_leap.proofs.LastDigits.{last_digits_padded}
use Rattle.sk_leap.specs.Reading.{number_of, number_at, behind, marked_number}
use Rattle.sk_leap.proofs.DigitsRead.{digit_is}

pub power_some : (k : ℕ) → 0 < 10 ^ k
power_some k = one-le-pow k 10 (lit< tt)

glyph_digit : (d : ℕ) → d < 10 → is_ascii_digit (48 + d) ≡ true
glyph_digit d lt = and_from _ _ (le-leb 48 (48 + d) (omega arith)) (le-leb (48 + d) 57 (omega arith))

glyph_value : (d : ℕ) → d < 10 → digit_value (48 + d) ≡ d
glyph_value d lt = omega (arith, (digit_is (48 + d) (glyph_digit d lt)).value)

-- ---- what the last digits are

length-last_digits : (k n : ℕ) → length (last_digits k n) ≡ k
length-last_digits zero n = refl
length-last_digits (suc k) n = ap suc (length-last_digits k n)

last_digits_are : (k n : ℕ) → list_all is_ascii_digit (last_digits k n) ≡ true
last_digits_are zero n = refl
last_digits_are (suc k) n = and_from _ _ (glyph_digit (n / 10 ^ k % 10) (omega arith)) (last_digits_are k n)

-- one more digit of a remainder
mod_step : (n p : ℕ) → 0 < p → n % (p * 10) ≡ n / p % 10 * p + n % p
mod_step n p some =
    let q = n / p in
    let t = q / 10 in
    let u = q % 10 in
    let r = n % p in
    let whole : q * p + r ≡ n = div-add-mod' n p in
    let below : r < p = mod-lt n some in
    let digit : u * p ≤ 9 * p = mul-le u p 9 p (omega arith) (omega arith) in
    let tens : q ≡ t * 10 + u = omega arith in
    let product : q * p ≡ (t * 10 + u) * p = ap (λ (x : ℕ). x * p) tens in
    let sum : n ≡ t * (p * 10) + (u * p + r) = omega (arith, whole, product) in
    ap (λ (x : ℕ). x % (p * 10)) sum ∙ mod-mul-add t (p * 10) (u * p + r) (omega (arith, below, digit))

last_digits_value : (k acc n : ℕ) → digits_value_after 10 acc (last_digits k n) ≡ acc * 10 ^ k + n % 10 ^ k
last_digits_value zero acc n = omega arith
last_digits_value (suc k) acc n =
    let d = n / 10 ^ k % 10 in
    let step : n % 10 ^ suc k ≡ d * 10 ^ k + n % 10 ^ k = ap (λ (p : ℕ). n % p) (pow-suc 10 k) ∙ mod_step n (10 ^ k) (power_some k) in
    let power : acc * 10 ^ suc k ≡ acc * (10 ^ k * 10) = ap (λ (p : ℕ). acc * p) (pow-suc 10 k) in
    let here : digits_value_after 10 (acc * 10 + digit_value (48 + d)) (last_digits k n) ≡ digits_value_after 10 (acc * 10 + d) (last_digits k n) =
    ap (λ (x : ℕ). digits_value_after 10 (acc * 10 + x) (last_digits k n)) (glyph_value d (omega arith)) in
    here ∙ last_digits_value k (acc * 10 + d) n ∙ omega (arith, step, power)

cancel : (a b k : ℕ) → a * 10 ^ k ≡ b * 10 ^ k → a ≡ b
cancel a b k h = sym (mul-div_cancel a (power_some k)) ∙ ap (λ (x : ℕ). x / 10 ^ k) h ∙ mul-div_cancel b (power_some k)

-- digits are the last digits of the number that they write
last_digits_back : (k acc : ℕ) (ds : List ℕ) → length ds ≡ k → list_all is_ascii_digit ds ≡ true → ds ≡ last_digits k (digits_value_after 10 acc ds)
last_digits_back zero acc [] long all = refl
last_digits_back zero acc (d ∷ ds) long all = absurd (omega (arith, long))
last_digits_back (suc k) acc [] long all = absurd (omega (arith, long))
last_digits_back (suc k) acc (d ∷ ds) long all =
    let both = and_parts (is_ascii_digit d) (list_all is_ascii_digit ds) all in
    let here = digit_is d both.0 in
    let a = acc * 10 + digit_value d in
    let v = digits_value_after 10 a ds in
    let rest : ds ≡ last_digits k v = last_digits_back k a ds (omega (arith, long)) both.1 in
    let value : v ≡ a * 10 ^ k + v % 10 ^ k = ap (digits_value_after 10 a) rest ∙ last_digits_value k a v in
    let split : v / 10 ^ k * 10 ^ k + v % 10 ^ k ≡ v = div-add-mod' v (10 ^ k) in
    let same : v / 10 ^ k * 10 ^ k ≡ a * 10 ^ k = omega (arith, value, split) in
    let front : v / 10 ^ k ≡ a = cancel (v / 10 ^ k) a k same in
    let head : d ≡ 48 + v / 10 ^ k % 10 = omega (arith, front, here.value, here.low, here.high) in
    ap (λ (x : ℕ). x ∷ ds) head ∙ ap (λ (xs : List ℕ). (48 + v / 10 ^ k % 10) ∷ xs) rest

-- ---- padded numbers

-- the bytes are digits, so many, and write this number
pub record AreDigitsOf (width : ℕ) (bytes : List ℕ) (n : ℕ) : Type 0 where
  pub long : length bytes ≡ width
  pub digits : list_all is_ascii_digit bytes ≡ true
  pub value : digits_value 10 bytes ≡ n

pub padded_is : (k n : ℕ) → k ≤ 11 → n < 10 ^ suc k → AreDigitsOf (suc k) (padded_decimal (suc k) n) n
padded_is k n le lt =
    let narrow : n < 10 ^ 64 = omega (arith, lt, pow-le-pow_right {n = 10} (lit< tt) (up le)) in
    let e : last_digits (suc k) n ≡ padded_decimal (suc k) n = last_digits_padded k n lt narrow in
    let P : List ℕ → Type 0 = λ bytes. AreDigitsOf (suc k) bytes n in
    subst P e (record {
      long = length-last_digits (suc k) n;
      digits = last_digits_are (suc k) n;
      value = last_digits_value (suc k) 0 n ∙ omega (arith, mod-eq_of_lt lt);
    })
  where
    up : k ≤ 11 → suc k ≤ 12
    up p = omega arith

pub padded_from : (k n : ℕ) (bytes : List ℕ) → k ≤ 11 → n < 10 ^ suc k → AreDigitsOf (suc k) bytes n → bytes ≡ padded_decimal (suc k) n
padded_from k n bytes le lt h =
    let narrow : n < 10 ^ 64 = omega (arith, lt, pow-le-pow_right {n = 10} (lit< tt) (up le)) in
    last_digits_back (suc k) 0 bytes h.long h.digits ∙ ap (last_digits (suc k)) h.value ∙ last_digits_padded k n lt narrow
  where
    up : k ≤ 11 → suc k ≤ 12
    up p = omega arith

-- ---- numbers in front

-- digits that stand in front are read
pub front_read : (width n : ℕ) (front rest : List ℕ) → AreDigitsOf width front n → number_at width (front ++ rest) ≡ Some (n, rest)
front_read width n front rest h =
    let room : nat_le width (length (front ++ rest)) ≡ true = le-leb width (length (front ++ rest)) (omega (arith, length-append front rest, h.long)) in
    let taken : take width (front ++ rest) ≡ front = ap (λ (k : ℕ). take k (front ++ rest)) (sym h.long) ∙ take-append_seam front rest in
    let left : drop width (front ++ rest) ≡ rest = ap (λ (k : ℕ). drop k (front ++ rest)) (sym h.long) ∙ drop-append_seam front rest in
    let number : number_of (take width (front ++ rest)) ≡ Some n = ap number_of taken ∙ ap (λ (b : Bool). cond b (Some (digits_value 10 front)) None) h.digits ∙ ap Some h.value in
    ap (λ (b : Bool). cond b (option_map (λ (m : ℕ). (m, drop width (front ++ rest))) (number_of (take width (front ++ rest)))) None) room
    ∙ ap (option_map (λ (m : ℕ). (m, drop width (front ++ rest)))) number
    ∙ ap (λ (xs : List ℕ). Some (n, xs)) left

pub padded_read : (k n : ℕ) (rest : List ℕ) → k ≤ 11 → n < 10 ^ suc k → number_at (suc k) (padded_decimal (suc k) n ++ rest) ≡ Some (n, rest)
padded_read k n rest le lt = front_read (suc k) n (padded_decimal (suc k) n) rest (padded_is k n le lt)

pub digits_small : (width n : ℕ) (front : List ℕ) → AreDigitsOf width front n → n < 10 ^ width
digits_small width n front h =
    let e : front ≡ last_digits width n = last_digits_back width 0 front h.long h.digits ∙ ap (last_digits width) h.value in
    let value : digits_value 10 front ≡ 0 * 10 ^ width + n % 10 ^ width = ap (digits_value 10) e ∙ last_digits_value width 0 n in
    omega (arith, value, h.value, mod-lt n (power_some width))

-- ---- the steps of an option, backwards

pub bound : {A B : Type 0} (f : A → Option B) (o : Option A) (y : B) → option_and_then f o ≡ Some y → (x : A) × (o ≡ Some x) × (f x ≡ Some y)
bound f None y h = absurd (none-some y h)
bound f (Some x) y h = (x, refl, h)

pub mapped : {A B : Type 0} (f : A → B) (o : Option A) (y : B) → option_map f o ≡ Some y → (x : A) × (o ≡ Some x) × (f x ≡ y)
mapped f None y h = absurd (none-some y h)
mapped f (Some x) y h = (x, refl, same_Some (f x) y h)

pub guarded : {A : Type 0} (b : Bool) (o : Option A) (y : A) → cond b o None ≡ Some y → (b ≡ true) × (o ≡ Some y)
guarded false o y h = absurd (none-some y h)
guarded true o y h = (refl, h)

-- what was read is spelled
pub record SpellsFront (width n : ℕ) (bytes rest : List ℕ) : Type 0 where
  pub small : n < 10 ^ width
  pub is : bytes ≡ padded_decimal width n ++ rest

take_length : (width : ℕ) (bytes : List ℕ) → width ≤ length bytes → length (take width bytes) ≡ width
take_length width bytes le = simp length-take (omega arith)

pub front_spelled : (k n : ℕ) (bytes rest : List ℕ) → k ≤ 11 → number_at (suc k) bytes ≡ Some (n, rest) → SpellsFront (suc k) n bytes rest
front_spelled k n bytes rest le h =
    let width = suc k in
    let room = guarded (nat_le width (length bytes)) _ (n, rest) h in
    let number = mapped (λ (m : ℕ). (m, drop width bytes)) (number_of (take width bytes)) (n, rest) room.1 in
    let read = guarded (list_all is_ascii_digit (take width bytes)) (Some (digits_value 10 (take width bytes))) number.0 number.1 in
    let same : number.0 ≡ n = ap (λ (p : ℕ × List ℕ). p.0) number.2 in
    let behind : drop width bytes ≡ rest = ap (λ (p : ℕ × List ℕ). p.1) number.2 in
    let value : digits_value 10 (take width bytes) ≡ n = same_Some _ _ read.1 ∙ same in
    let here : AreDigitsOf width (take width bytes) n = record { long = take_length width bytes (leb-true width (length bytes) room.0); digits = read.0; value = value } in
    let small = digits_small width n (take width bytes) here in
    record {
      small = small;
      is = sym (take-append-drop width bytes) ∙ ap (λ (xs : List ℕ). xs ++ drop width bytes) (padded_from k n (take width bytes) le small here) ∙ ap (λ (xs : List ℕ). padded_decimal width n ++ xs) behind;
    }

-- ---- behind a mark

pub behind_read : (mark : ℕ) (bytes : List ℕ) → behind mark (mark ∷ bytes) ≡ Some bytes
behind_read mark bytes = ap (λ (b : Bool). cond b (Some bytes) None) (eq-eqb mark mark refl)

pub behind_spelled : (mark : ℕ) (bytes rest : List ℕ) → behind mark bytes ≡ Some rest → bytes ≡ mark ∷ rest
behind_spelled mark [] rest h = absurd (none-some rest h)
behind_spelled mark (byte ∷ bytes) rest h =
    let parts = guarded (byte == mark) (Some bytes) rest h in
    ap (λ (b : ℕ). b ∷ bytes) (eqb-true byte mark parts.0) ∙ ap (λ (xs : List ℕ). mark ∷ xs) (same_Some bytes rest parts.1)

pub marked_read : (mark k n : ℕ) (rest : List ℕ) → k ≤ 11 → n < 10 ^ suc k → marked_number mark (suc k) (mark ∷ (padded_decimal (suc k) n ++ rest)) ≡ Some (n, rest)
marked_read mark k n rest le lt =
    ap (option_and_then (number_at (suc k))) (behind_read mark (padded_decimal (suc k) n ++ rest)) ∙ padded_read k n rest le lt

pub record SpellsMarked (mark width n : ℕ) (bytes rest : List ℕ) : Type 0 where
  pub small : n < 10 ^ width
  pub is : bytes ≡ mark ∷ (padded_decimal width n ++ rest)

pub marked_spelled : (mark k n : ℕ) (bytes rest : List ℕ) → k ≤ 11 → marked_number mark (suc k) bytes ≡ Some (n, rest) → SpellsMarked mark (suc k) n bytes rest
marked_spelled mark k n bytes rest le h =
    let inner = bound (number_at (suc k)) (behind mark bytes) (n, rest) h in
    let front = front_spelled k n inner.0 rest le inner.2 in
    record { small = front.small; is = behind_spelled mark bytes inner.0 inner.1 ∙ ap (λ (xs : List ℕ). mark ∷ xs) front.is }
