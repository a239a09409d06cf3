-- Fields, their units and their texts.
use Rattle.std.specs.Int.{IsInRange}
use Rattle.std.proofs.lemmas.List.{map-append, length-map, get_or-map, drop-drop, drop_more, take_more}
use Rattle.std.proofs.lemmas.List.Elements.{All-drop, All-map}
use Rattle.std.proofs.lemmas.Bool.{cases_lt}
use Rattle.std.proofs.Math.Nat.{mul-pos, mul_assoc, le-mul_of_pos_right, mul-le-mul_right}
use Rattle.std.proofs.Common.{◌≡◌, ℕ, zero, suc, ◌+◌, ◌-◌, ◌*◌, ◌/◌, ◌%◌, ◌^◌, ◌<◌, ◌≤◌, List, [], ◌∷◌, ◌++◌, append_assoc, append-nil, All, take, drop, get_or, subst, length, decimal, refl, ap, sym, ◌∙◌, min, inl, inr, arith}
use Rattle.std.specs.List.{join_with_byte}
use Rattle.sk_decimal.specs.Number.{padded_decimal}
use Rattle.sk_clock.specs.declared.field.Field.{Field}
use Rattle.sk_clock.specs.Clock.{product, AreModuli, padded_fields, field_values}
use Rattle.sk_clock.specs.Kept.{moduli_of, offsets_of, AreUnits, all_text}

-- the texts of the fields are those that are joined
pub all_text-joined : (delimiter : ℕ) (fields : List Field) (n : ℕ) → AreUnits fields
    → all_text delimiter fields n ≡ join_with_byte delimiter (padded_fields (moduli_of fields) (offsets_of fields) (field_values (moduli_of fields) (offsets_of fields) n))
all_text-joined delimiter [] n units = refl
all_text-joined delimiter (field ∷ []) n units =
    append-nil _ ∙ ap (λ (u : ℕ). padded_decimal (length (decimal (field.modulus + field.offset - 1))) (field.offset + n / u)) units.0
all_text-joined delimiter (field ∷ next ∷ fields) n units =
    let unit = product (moduli_of (next ∷ fields)) in
    let shown : ℕ → List ℕ = λ u. padded_decimal (length (decimal (field.modulus + field.offset - 1))) (field.offset + n / u) in
    ap (λ (u : ℕ). shown u ++ (delimiter ∷ all_text delimiter (next ∷ fields) (n % u))) units.0
    ∙ ap (λ (xs : List ℕ). shown unit ++ (delimiter ∷ xs)) (all_text-joined delimiter (next ∷ fields) (n % unit) units.1)

-- the unit of each field is the product of the later moduli, of which these stand behind the fields
abbrev pub HaveUnits : List ℕ → List Field → Type 0
HaveUnits behind [] = Unit {0}
HaveUnits behind (field ∷ fields) = (field.unit ≡ product (moduli_of fields ++ behind)) × HaveUnits behind fields

pub HaveUnits-push : (behind : List ℕ) (fields : List Field) (field : Field) → HaveUnits (field.modulus ∷ behind) fields → field.unit ≡ product behind → HaveUnits behind (fields ++ field ∷ [])
HaveUnits-push behind [] field have unit = (unit, tt)
HaveUnits-push behind (f ∷ fields) field have unit =
    let moved : moduli_of (fields ++ field ∷ []) ++ behind ≡ moduli_of fields ++ (field.modulus ∷ behind) = ap (λ (xs : List ℕ). xs ++ behind) (map-append (λ (x : Field). x.modulus) fields (field ∷ [])) ∙ append_assoc (moduli_of fields) (field.modulus ∷ []) behind in
    (have.0 ∙ ap product (sym moved), HaveUnits-push behind fields field have.1 unit)

pub HaveUnits-all : (fields : List Field) → HaveUnits [] fields → AreUnits fields
HaveUnits-all [] have = tt
HaveUnits-all (field ∷ fields) have = (have.0 ∙ ap product (append-nil (moduli_of fields)), HaveUnits-all fields have.1)

pub product-some : (ns : List ℕ) → All (IsInRange 1 (2 ^ 53 - 1)) ns → 0 < product ns
product-some [] all = omega arith
product-some (n ∷ ns) all =
    let rest = product-some ns (λ k d h. all (suc k) d (omega arith)) in
    let here = all 0 0 (omega arith) in
    mul-pos here.0 rest

pub product-drop-le : (ns : List ℕ) (i : ℕ) → All (IsInRange 1 (2 ^ 53 - 1)) ns → product (drop i ns) ≤ product ns
product-drop-le [] zero all = omega arith
product-drop-le [] (suc i) all = omega arith
product-drop-le (n ∷ ns) zero all = omega arith
product-drop-le (n ∷ ns) (suc i) all =
    let rest = product-drop-le ns i (λ k d h. all (suc k) d (omega arith)) in
    let here = all 0 0 (omega arith) in
    omega (arith, le-mul_of_pos_right (product ns) here.0)

pub AllInRange-drop : (low high i : ℕ) (ns : List ℕ) → All (IsInRange low high) ns → All (IsInRange low high) (drop i ns)
AllInRange-drop low high i ns all = All-drop (IsInRange low high) i ns all

-- one more factor of a product that is capped
pub capped-step : (v m rest cap : ℕ) → 0 < m → 0 < rest → min (min (v * m) cap * rest) cap ≡ min (v * (m * rest)) cap
capped-step v m rest cap m_some rest_some = elim (cases_lt (v * m) cap) [
  | inl below ↦ ap (λ (n : ℕ). min n cap) (ap (λ (n : ℕ). n * rest) (let e : min (v * m) cap ≡ v * m = omega arith in e) ∙ mul_assoc v m rest)
  | inr above ↦
      let capped : min (v * m) cap ≡ cap = omega arith in
      let low = le-mul_of_pos_right cap rest_some in
      let high = mul-le-mul_right rest above in
      let same = mul_assoc v m rest in
      let left = ap (λ (n : ℕ). min (n * rest) cap) capped in
      omega (arith, left, low, high, same)
]

-- the capped product of the moduli behind a field is their product
pub unit_of_later : (moduli : List ℕ) (i n : ℕ) → AreModuli moduli → n ≡ min (product (drop (i + 1) moduli)) (2 ^ 32 + 1)
    → ((1 ≤ n) × (n ≤ 2 ^ 32)) × (n ≡ product (drop (i + 1) moduli))
unit_of_later moduli i n are is =
    let later = AllInRange-drop 1 (2 ^ 53 - 1) 1 moduli are.1 in
    let small = product-drop-le (drop 1 moduli) i later in
    let some = product-some (drop (i + 1) moduli) (AllInRange-drop 1 (2 ^ 53 - 1) (i + 1) moduli are.1) in
    let order : 1 + i ≡ i + 1 = omega arith in
    let same : product (drop i (drop 1 moduli)) ≡ product (drop (i + 1) moduli) = ap product (drop-drop i 1 moduli ∙ ap (λ (k : ℕ). drop k moduli) order) in
    let few = are.2 in
    ((omega arith, omega arith), omega arith)

-- one more field
pub push_step : (moduli offsets : List ℕ) (fields new : List Field) (field : Field) (i : ℕ) → i < length moduli → i < length offsets
    → new ≡ fields ++ field ∷ [] → field.modulus ≡ get_or moduli i 0 → field.offset ≡ get_or offsets i 0 → field.unit ≡ product (drop (i + 1) moduli)
    → moduli_of fields ≡ take i moduli → offsets_of fields ≡ take i offsets → HaveUnits (drop i moduli) fields
    → (moduli_of new ≡ take (i + 1) moduli) × (offsets_of new ≡ take (i + 1) offsets) × HaveUnits (drop (i + 1) moduli) new
push_step moduli offsets fields new field i in_moduli in_offsets pushed modulus offset unit moduli_are offsets_are have =
    let front = drop_more moduli i 0 in_moduli ∙ ap (λ (m : ℕ). m ∷ drop (i + 1) moduli) (sym modulus) in
    let held = subst (λ (xs : List ℕ). HaveUnits xs fields) front have in (
      ap moduli_of pushed ∙ (map-append (λ (x : Field). x.modulus) fields (field ∷ []) ∙ (ap (λ (xs : List ℕ). xs ++ field.modulus ∷ []) moduli_are ∙ (ap (λ (m : ℕ). take i moduli ++ m ∷ []) modulus ∙ sym (take_more moduli i 0 in_moduli)))),
      ap offsets_of pushed ∙ (map-append (λ (x : Field). x.offset) fields (field ∷ []) ∙ (ap (λ (xs : List ℕ). xs ++ field.offset ∷ []) offsets_are ∙ (ap (λ (m : ℕ). take i offsets ++ m ∷ []) offset ∙ sym (take_more offsets i 0 in_offsets)))),
      subst (λ (xs : List Field). HaveUnits (drop (i + 1) moduli) xs) (sym pushed) (HaveUnits-push (drop (i + 1) moduli) fields field held unit),
    )

-- fields that count from 0
pub zero_fields : (fields : List Field) → All (λ offset. offset ≡ 0) (offsets_of fields) → All (λ (field : Field). field.offset ≡ 0) fields
zero_fields fields all k d h = sym (get_or-map (λ (field : Field). field.offset) fields k d 0 h) ∙ all k 0 (omega (arith, length-map fields (λ (field : Field). field.offset)))

pub zero_offsets : (fields : List Field) → All (λ (field : Field). field.offset ≡ 0) fields → All (λ offset. offset ≡ 0) (offsets_of fields)
zero_offsets fields all = All-map (λ (offset : ℕ). offset ≡ 0) (λ (field : Field). field.offset) fields all
