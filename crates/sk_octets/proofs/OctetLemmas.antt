-- Laws of octets and their numbers.
use Rattle.std.proofs.Common.{◌≡◌, ℕ, ◌+◌, ◌-◌, ◌*◌, ◌/◌, ◌%◌, ◌^◌, ◌<◌, ◌≤◌, zero, suc, true, List, [], ◌∷◌, ◌++◌, length, get_or, set, take, drop, refl, ap, sym, ◌∙◌, subst, arith, add-one, drop-cons, length-drop, nat_lt, inl, inr}
use Rattle.std.specs.List.{list_all}
use Rattle.std.proofs.lemmas.Bool.{and_parts, and_from, ltb-true, lt-ltb, cases_lt}
use Rattle.std.proofs.lemmas.List.{drop-set}
use Rattle.std.proofs.lemmas.Nat.{mul-le}
use Rattle.std.proofs.Math.ListN.{drop_of_length-le}
use Rattle.std.proofs.Math.Seq.{drop-append_seam, take-append_seam}
use Rattle.std.proofs.Math.Nat.{pow-suc, one-le-pow}
use Rattle.sk_octets.specs.Octets.{octets_value, AreOctets, SpellsNumber}

pub octet_power : (k : ℕ) → 0 < 256 ^ k
octet_power k = one-le-pow k 256 (omega arith)

-- numbers below 256 are octets
pub AreOctets-from : (xs : List ℕ) → ((k : ℕ) → get_or xs k 0 < 256) → AreOctets xs
AreOctets-from [] h = refl
AreOctets-from (x ∷ xs) h = and_from _ _ (lt-ltb x 256 (h 0)) (AreOctets-from xs (λ k. h (suc k)))

pub octets_value-below : (xs : List ℕ) → AreOctets xs → octets_value xs < 256 ^ length xs
octets_value-below [] all = omega arith
octets_value-below (x ∷ xs) all =
    let parts = and_parts _ _ all in
    let small : x < 256 = ltb-true x 256 parts.0 in
    omega (arith, octets_value-below xs parts.1, pow-suc 256 (length xs), mul-le (suc x) (256 ^ length xs) 256 (256 ^ length xs) small (omega arith))

-- ---- one spelling

one_head : (x y p a b : ℕ) → a < p → b < p → x * p + a ≡ y * p + b → x ≡ y
one_head x y p a b below below' e =
    elim (cases_lt x y) [
      | inl less ↦ absurd (apart x y a b below less e)
      | inr le ↦ elim (cases_lt y x) [ inl less ↦ absurd (apart y x b a below' less (sym e)) | inr le' ↦ omega arith ]
    ]
  where
    apart : (x y a b : ℕ) → a < p → x < y → x * p + a ≡ y * p + b → ⊥
    apart x y a b below less e = omega (arith, e, mul-le (suc x) p y p less (omega arith))

pub one_octets : (xs ys : List ℕ) → AreOctets xs → AreOctets ys → length xs ≡ length ys → octets_value xs ≡ octets_value ys → xs ≡ ys
one_octets [] [] all all' long value = refl
one_octets [] (y ∷ ys) all all' long value = absurd (omega (arith, long))
one_octets (x ∷ xs) [] all all' long value = absurd (omega (arith, long))
one_octets (x ∷ xs) (y ∷ ys) all all' long value =
    let here : (nat_lt x 256 ≡ true) × (list_all (λ octet. nat_lt octet 256) xs ≡ true) = and_parts _ _ all in
    let there : (nat_lt y 256 ≡ true) × (list_all (λ octet. nat_lt octet 256) ys ≡ true) = and_parts _ _ all' in
    let same : length xs ≡ length ys = omega (arith, long) in
    let p : 256 ^ length xs ≡ 256 ^ length ys = ap (λ (n : ℕ). 256 ^ n) same in
    let value' : x * 256 ^ length ys + octets_value xs ≡ y * 256 ^ length ys + octets_value ys = ap (λ (q : ℕ). x * q + octets_value xs) (sym p) ∙ value in
    let below : octets_value xs < 256 ^ length ys = omega (arith, octets_value-below xs here.1, p) in
    let head : x ≡ y = one_head x y (256 ^ length ys) (octets_value xs) (octets_value ys) below (octets_value-below ys there.1) value' in
    let rest : octets_value xs ≡ octets_value ys = tail x y (256 ^ length ys) (octets_value xs) (octets_value ys) head value' in
    ap (λ (h : ℕ). h ∷ xs) head ∙ ap (λ (t : List ℕ). y ∷ t) (one_octets xs ys here.1 there.1 same rest)
  where
    tail : (x y p a b : ℕ) → x ≡ y → x * p + a ≡ y * p + b → a ≡ b
    tail x y p a b h e = omega (arith, e, ap (λ (n : ℕ). n * p) h)

pub SpellsNumber-one : (count n : ℕ) (a b : List ℕ) → SpellsNumber count a n → SpellsNumber count b n → a ≡ b
SpellsNumber-one count n a b s t = one_octets a b s.are_octets t.are_octets (s.long ∙ sym t.long) (s.value ∙ sym t.value)

pub SpellsNumber-below : (count n : ℕ) (octets : List ℕ) → SpellsNumber count octets n → n < 256 ^ count
SpellsNumber-below count n octets s = omega (arith, octets_value-below octets s.are_octets, s.value, ap (λ (k : ℕ). 256 ^ k) s.long)

-- octets spell one number
pub number_same : (count m n : ℕ) (a b : List ℕ) → SpellsNumber count a m → SpellsNumber count b n → a ≡ b → m ≡ n
number_same count m n a b s t e = sym s.value ∙ ap octets_value e ∙ t.value

-- ---- fields that stand behind each other

pub same_front : (a b c d : List ℕ) → length a ≡ length c → a ++ b ≡ c ++ d → a ≡ c
same_front a b c d long e = sym (take-append_seam a b) ∙ ap (λ (l : List ℕ). take (length a) l) e ∙ ap (λ (n : ℕ). take n (c ++ d)) long ∙ take-append_seam c d

pub same_back : (a b c d : List ℕ) → length a ≡ length c → a ++ b ≡ c ++ d → b ≡ d
same_back a b c d long e = sym (drop-append_seam a b) ∙ ap (λ (l : List ℕ). drop (length a) l) e ∙ ap (λ (n : ℕ). drop n (c ++ d)) long ∙ drop-append_seam c d

-- ---- steps of the loops

-- one more octet is read
pub one_read : (octets : List ℕ) (i number x : ℕ) → i < length octets → x ≡ get_or octets i 0 → number * 256 ^ (length octets - i) + octets_value (drop i octets) ≡ octets_value octets
    → (number * 256 + x) * 256 ^ (length octets - (i + 1)) + octets_value (drop (i + 1) octets) ≡ octets_value octets
one_read octets i number x lt is e =
    let k = length octets - suc i in
    let next : suc i ≡ i + 1 = omega arith in
    let more : length octets - i ≡ suc k = omega arith in
    let long : length (drop (suc i) octets) ≡ k = omega (arith, length-drop (suc i) octets) in
    let power : 256 ^ (length octets - i) ≡ 256 ^ k * 256 = ap (λ (n : ℕ). 256 ^ n) more ∙ pow-suc 256 k in
    let split : octets_value (drop i octets) ≡ x * 256 ^ k + octets_value (drop (suc i) octets) =
    ap octets_value (drop-cons octets i 0 lt) ∙ ap (λ (y : ℕ). y * 256 ^ length (drop (suc i) octets) + octets_value (drop (suc i) octets)) (sym is) ∙ ap (λ (n : ℕ). x * 256 ^ n + octets_value (drop (suc i) octets)) long in
    subst (λ (n : ℕ). (number * 256 + x) * 256 ^ (length octets - n) + octets_value (drop n octets) ≡ octets_value octets) next
    (gathered (256 ^ k) (256 ^ (length octets - i)) (octets_value (drop (suc i) octets)) (octets_value (drop i octets)) (octets_value octets) power split e)
  where
    gathered : (p q v w total : ℕ) → q ≡ p * 256 → w ≡ x * p + v → number * q + w ≡ total → (number * 256 + x) * p + v ≡ total
    gathered p q v w total power split e = omega (arith, e, split, ap (λ (n : ℕ). number * n) power)

-- no octet is left
pub all_read : (octets : List ℕ) (i number : ℕ) → length octets ≤ i → i ≤ length octets → number * 256 ^ (length octets - i) + octets_value (drop i octets) ≡ octets_value octets → octets_value octets ≡ number
all_read octets i number le ge e =
    let none : length octets - i ≡ 0 = omega arith in
    omega (arith, e, ap (λ (n : ℕ). number * 256 ^ n) none, ap octets_value (drop_of_length-le octets le))

pub one_below : (number x i : ℕ) → number < 256 ^ i → x < 256 → number * 256 + x < 256 ^ (i + 1)
one_below number x i below small = rw (add-one, pow-suc) (omega arith)

-- one more octet is written
pub one_written : (buf : List ℕ) (place rest number : ℕ) → 0 < place → place ≤ length buf → octets_value (drop place buf) + rest * 256 ^ (length buf - place) ≡ number
    → octets_value (drop (place - 1) (set buf (place - 1) (rest % 256))) + rest / 256 * 256 ^ (length buf - (place - 1)) ≡ number
one_written buf place rest number some le e =
    let k = length buf - place in
    let lt : place - 1 < length buf = omega arith in
    let back : place - 1 + 1 ≡ place = omega arith in
    let more : length buf - (place - 1) ≡ suc k = omega arith in
    let long : length (drop place buf) ≡ k = omega (arith, length-drop place buf) in
    let power : 256 ^ (length buf - (place - 1)) ≡ 256 ^ k * 256 = ap (λ (n : ℕ). 256 ^ n) more ∙ pow-suc 256 k in
    let split : octets_value (drop (place - 1) (set buf (place - 1) (rest % 256))) ≡ rest % 256 * 256 ^ k + octets_value (drop place buf) =
    ap octets_value (drop-set buf (place - 1) (rest % 256) lt ∙ ap (λ (n : ℕ). (rest % 256) ∷ drop n buf) back) ∙ ap (λ (n : ℕ). rest % 256 * 256 ^ n + octets_value (drop place buf)) long in
    gathered (rest / 256) (rest % 256) (256 ^ k) (256 ^ (length buf - (place - 1))) (octets_value (drop place buf)) _ power split (omega arith) e
  where
    gathered : (high low p q v w : ℕ) → q ≡ p * 256 → w ≡ low * p + v → rest ≡ high * 256 + low → v + rest * p ≡ number → w + high * q ≡ number
    gathered high low p q v w power split parts e = omega (arith, e, split, ap (λ (n : ℕ). high * n) power, ap (λ (n : ℕ). n * p) parts)

-- no octet is due
pub all_written : (buf : List ℕ) (place rest number : ℕ) → place ≤ 0 → rest < 256 ^ place → AreOctets (drop place buf) → octets_value (drop place buf) + rest * 256 ^ (length buf - place) ≡ number → SpellsNumber (length buf) buf number
all_written buf zero rest number le below all e =
    let none : rest ≡ 0 = omega arith in
    record { long = refl; are_octets = all; value = omega (arith, e, ap (λ (n : ℕ). n * 256 ^ (length buf - 0)) none) }
all_written buf (suc place) rest number le below all e = absurd (omega arith)

pub octets_written : (buf : List ℕ) (place rest : ℕ) → 0 < place → place ≤ length buf → AreOctets (drop place buf) → AreOctets (drop (place - 1) (set buf (place - 1) (rest % 256)))
octets_written buf place rest some le all =
    let lt : place - 1 < length buf = omega arith in
    let back : place - 1 + 1 ≡ place = omega arith in
    let whole : drop (place - 1) (set buf (place - 1) (rest % 256)) ≡ (rest % 256) ∷ drop place buf = drop-set buf (place - 1) (rest % 256) lt ∙ ap (λ (n : ℕ). (rest % 256) ∷ drop n buf) back in
    subst AreOctets (sym whole) (and_from _ _ (lt-ltb (rest % 256) 256 (omega arith)) all)

pub less_left : (rest place : ℕ) → 0 < place → rest < 256 ^ place → rest / 256 < 256 ^ (place - 1)
less_left rest zero some below = absurd (omega arith)
less_left rest (suc k) some below =
    let back : suc k - 1 ≡ k = omega arith in
    omega (arith, below, pow-suc 256 k, ap (λ (n : ℕ). 256 ^ n) back)
