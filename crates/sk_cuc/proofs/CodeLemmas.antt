-- Codes and their bytes determine each other.
use Rattle.std.proofs.Common.{◌≡◌, ◌≢◌, ◌⊎◌, ℕ, ◌+◌, ◌-◌, ◌<◌, ◌≤◌, Bool, true, false, cond, List, [], ◌∷◌, ◌++◌, length, take, drop, refl, ap, sym, ◌∙◌, subst, arith, inl, inr, Option, Some, None, Result, Ok, Err, IsSome, is_some, length-append, length-drop}
use Rattle.std.specs.Prelude.{◌↔◌, ◌==◌, slice_get, slice_index, IsSomeAnd, IfSome}
use Rattle.std.specs.Option.{option_to_list}
use Rattle.std.proofs.Math.Seq.{take-append_seam}
use Rattle.std.proofs.lemmas.Slice.{take-put_mid, drop-put_mid, drop-append-drop}
use borrow.Rule.Slice.PartMut.{put_mid}
use Rattle.std.proofs.lemmas.Bool.{eq-eqb, ne_eqb, false≢true, cases_Bool, eqb-true}
use Rattle.sk_checks.specs.Checks.{Judges, NoneRefuses, FirstRefuses}
use Rattle.sk_checks.proofs.ChecksLemmas.{FirstRefuses-some}
use Rattle.sk_octets.specs.Octets.{bits, SpellsNumber}
use Rattle.sk_octets.proofs.OctetLemmas.{SpellsNumber-one, number_same, same_front, same_back}
use Rattle.sk_cuc.specs.declared.fault.CucFault.{CucFault}
use Rattle.sk_cuc.specs.Code.{CucView, SpellsCuc, SpellsField, IsCuc, IsExtended, HasTaiEpoch, HasAgencyEpoch, HasOtherLength, basic, fraction, basic_octets, fraction_octets, first_of, second_of, cuc_checks}

-- ---- T-fields

pub one_field : (basic fraction coarse fine : ℕ) (a b : List ℕ) → SpellsField basic fraction a coarse fine → SpellsField basic fraction b coarse fine → a ≡ b
one_field basic fraction coarse fine a b s t =
    s.joined ∙ ap (λ (l : List ℕ). l ++ s.low) (SpellsNumber-one basic coarse s.high t.high s.is_high t.is_high)
    ∙ ap (λ (l : List ℕ). t.high ++ l) (SpellsNumber-one fraction fine s.low t.low s.is_low t.is_low) ∙ sym t.joined

pub field_numbers : (basic fraction c f c' f' : ℕ) (bytes : List ℕ) → SpellsField basic fraction bytes c f → SpellsField basic fraction bytes c' f' → (c ≡ c') × (f ≡ f')
field_numbers basic fraction c f c' f' bytes s t =
    let e : s.high ++ s.low ≡ t.high ++ t.low = sym s.joined ∙ t.joined in
    let long : length s.high ≡ length t.high = s.is_high.long ∙ sym t.is_high.long in (
      number_same basic c c' s.high t.high s.is_high t.is_high (same_front s.high s.low t.high t.low long e),
      number_same fraction f f' s.low t.low s.is_low t.is_low (same_back s.high s.low t.high t.low long e),
    )

length-field : (basic fraction coarse fine : ℕ) (bytes : List ℕ) → SpellsField basic fraction bytes coarse fine → length bytes ≡ basic + fraction
length-field basic fraction coarse fine bytes s = omega (arith, ap length s.joined, length-append s.high s.low, s.is_high.long, s.is_low.long)

-- ---- P-fields

second_same : (x y : ℕ) (p q : Option ℕ) (u v : List ℕ) → (IsSome p ↔ IsExtended x) → (IsSome q ↔ IsExtended y) → x ≡ y
    → x ∷ (option_to_list p ++ u) ≡ y ∷ (option_to_list q ++ v) → (p ≡ q) × (u ≡ v)
second_same x y None None u v f g e h = (refl, cc)
second_same x y None (Some o) u v f g e h = absurd (false≢true (f.1 (subst IsExtended (sym e) (g.0 refl))))
second_same x y (Some o) None u v f g e h = absurd (false≢true (g.1 (subst IsExtended e (f.0 refl))))
second_same x y (Some o) (Some o') u v f g e h = (ap (λ (n : ℕ). Some n) (cc), cc)

pub same_code : (a b : CucView) → a.first ≡ b.first → a.second ≡ b.second → a.coarse ≡ b.coarse → a.fine ≡ b.fine → a ≡ b
same_code a b f s c e = λ i. record { first = f i; second = s i; coarse = c i; fine = e i }

-- the bytes of a code are its only ones
pub one_bytes : (a b : List ℕ) (code : CucView) → SpellsCuc a code → SpellsCuc b code → a ≡ b
one_bytes a b code s t =
    s.joined ∙ ap (λ (l : List ℕ). code.first ∷ option_to_list code.second ++ l) (one_field (basic code) (fraction code) code.coarse code.fine s.field t.field s.is_field t.is_field) ∙ sym t.joined

-- and bytes are one code at most
pub one_code : (bytes : List ℕ) (a b : CucView) → SpellsCuc bytes a → SpellsCuc bytes b → a ≡ b
one_code bytes a b s t =
    let e : a.first ∷ (option_to_list a.second ++ s.field) ≡ b.first ∷ (option_to_list b.second ++ t.field) = sym s.joined ∙ t.joined in
    let first : a.first ≡ b.first = cc in
    let same = second_same a.first b.first a.second b.second s.field t.field s.is_code.second_follows t.is_code.second_follows first e in
    let wide : basic b ≡ basic a = ap (λ (x : ℕ). basic_octets x b.second) (sym first) ∙ ap (λ (o : Option ℕ). basic_octets a.first o) (sym same.0) in
    let deep : fraction b ≡ fraction a = ap (λ (x : ℕ). fraction_octets x b.second) (sym first) ∙ ap (λ (o : Option ℕ). fraction_octets a.first o) (sym same.0) in
    let field : SpellsField (basic a) (fraction a) s.field b.coarse b.fine =
    subst (λ (l : List ℕ). SpellsField (basic a) (fraction a) l b.coarse b.fine) (sym same.1)
    (subst (λ (n : ℕ). SpellsField n (fraction a) t.field b.coarse b.fine) wide (subst (λ (n : ℕ). SpellsField (basic b) n t.field b.coarse b.fine) deep t.is_field)) in
    let numbers = field_numbers (basic a) (fraction a) a.coarse a.fine b.coarse b.fine s.field s.is_field field in
    same_code a b first same.0 numbers.0 numbers.1

-- ---- what is not refused

second_read : (first : ℕ) (second : Option ℕ) (field : List ℕ) → (IsSome second ↔ IsExtended first) → second_of (first ∷ option_to_list second ++ field) ≡ second
second_read first None field follows = ap (λ (b : Bool). cond b (slice_get (first ∷ field) 1) None) (ne_eqb (bits 0 0 first) 1 (λ e. false≢true (follows.1 e)))
second_read first (Some o) field follows = ap (λ (b : Bool). cond b (slice_get (first ∷ o ∷ field) 1) None) (eq-eqb (bits 0 0 first) 1 (follows.0 refl))

last_passes : (second : Option ℕ) → IfSome second (λ octet. octet < 128) → IsSomeAnd second (λ octet. 128 ≤ octet) → ⊥
last_passes None h k = k
last_passes (Some o) h k = omega (arith, h, k)

taken_length : (code : CucView) (field bytes : List ℕ) → bytes ≡ code.first ∷ option_to_list code.second ++ field → IsCuc code → SpellsField (basic code) (fraction code) field code.coarse code.fine
    → first_of bytes ≡ code.first → second_of bytes ≡ code.second → HasOtherLength bytes → ⊥
taken_length code field bytes joined valid spelled first second other = elim other [
  | inl cut ↦ false≢true (ap is_some (sym cut.1 ∙ second) ∙ valid.second_follows.1 (subst IsExtended first cut.0))
  | inr long ↦ long (length_is first second)
]
  where
    length_is : first_of bytes ≡ code.first → second_of bytes ≡ code.second
        → length bytes ≡ 1 + length (option_to_list (second_of bytes)) + basic_octets (first_of bytes) (second_of bytes) + fraction_octets (first_of bytes) (second_of bytes)
    length_is first second =
        let head : length bytes ≡ 1 + length (option_to_list code.second) + length field = omega (arith, ap length joined, length-append (option_to_list code.second) field) in
        let whole : length bytes ≡ 1 + length (option_to_list code.second) + basic code + fraction code = omega (arith, head, length-field (basic code) (fraction code) code.coarse code.fine field spelled) in
        whole ∙ ap (λ (o : Option ℕ). 1 + length (option_to_list o) + basic_octets code.first o + fraction_octets code.first o) (sym second)
        ∙ ap (λ (x : ℕ). 1 + length (option_to_list (second_of bytes)) + basic_octets x (second_of bytes) + fraction_octets x (second_of bytes)) (sym first)

pub taken : (bytes : List ℕ) (code : CucView) → SpellsCuc bytes code → NoneRefuses (cuc_checks bytes)
taken bytes code s =
    let first : first_of bytes ≡ code.first = ap first_of s.joined in
    let second : second_of bytes ≡ code.second = ap second_of s.joined ∙ second_read code.first code.second s.field s.is_code.second_follows in
    let wide : fraction_octets (first_of bytes) (second_of bytes) ≡ fraction code = ap (λ (x : ℕ). fraction_octets x (second_of bytes)) first ∙ ap (λ (o : Option ℕ). fraction_octets code.first o) second in (
      (λ e. nothing (sym s.joined ∙ e)),
      (
        (λ no. no (subst (λ (x : ℕ). HasTaiEpoch x ⊎ HasAgencyEpoch x) (sym first) s.is_code.epoch)),
        (
          (λ late. last_passes code.second s.is_code.second_is_last (subst (λ (o : Option ℕ). IsSomeAnd o (λ octet. 128 ≤ octet)) second late)),
          (
            (λ over. omega (arith, over, wide, s.is_code.narrow)),
            (
              taken_length code s.field bytes s.joined s.is_code s.is_field first second,
              tt,
            ),
          ),
        ),
      ),
    )
  where
    nothing : {x : ℕ} {xs : List ℕ} → x ∷ xs ≡ [] → ⊥
    nothing e = cc

-- what answers the checks answers the code
pub judged_read : (bytes : List ℕ) (r : Result CucView CucFault) → Judges (cuc_checks bytes) (SpellsCuc bytes) r → (code : CucView) → SpellsCuc bytes code → r ≡ Ok code
judged_read bytes (Ok value) h code s = ap (λ (x : CucView). Ok x) (one_code bytes value code h.1 s)
judged_read bytes (Err fault) h code s = absurd (FirstRefuses-some (cuc_checks bytes) fault h (taken bytes code s))

-- ---- the parts of what is read

split_at_second : (x : ℕ) (xs : List ℕ) (b : Bool) → x ∷ xs ≡ x ∷ option_to_list (cond b (slice_get (x ∷ xs) 1) None) ++ drop (1 + length (option_to_list (cond b (slice_get (x ∷ xs) 1) None))) (x ∷ xs)
split_at_second x xs false = refl
split_at_second x [] true = refl
split_at_second x (y ∷ ys) true = refl

-- the P-field, and what stands behind it
pub joined_head : (bytes : List ℕ) → 0 < length bytes → bytes ≡ first_of bytes ∷ option_to_list (second_of bytes) ++ drop (1 + length (option_to_list (second_of bytes))) bytes
joined_head [] some = absurd (omega (arith, some))
joined_head (x ∷ xs) some = split_at_second x xs (bits 0 0 x == 1)

pub head_le : (bytes : List ℕ) → 0 < length bytes → 1 + length (option_to_list (second_of bytes)) ≤ length bytes
head_le bytes some = omega (arith, ap length (joined_head bytes some), length-append (option_to_list (second_of bytes)) (drop (1 + length (option_to_list (second_of bytes))) bytes))

-- a second octet is there exactly where it is due and not cut off
some_extended : (bytes : List ℕ) (b : Bool) → (bits 0 0 (first_of bytes) == 1) ≡ b → IsSome (cond b (slice_get bytes 1) None) → IsExtended (first_of bytes)
some_extended bytes true e h = eqb-true (bits 0 0 (first_of bytes)) 1 e
some_extended bytes false e h = absurd (false≢true h)

some_or_none : (o : Option ℕ) → IsSome o ⊎ (o ≡ None)
some_or_none None = inr refl
some_or_none (Some x) = inl refl

pub follows : (bytes : List ℕ) (first : ℕ) (second : Option ℕ) → first ≡ first_of bytes → second ≡ second_of bytes → ¬ (IsExtended first × (second ≡ None)) → IsSome second ↔ IsExtended first
follows bytes first second is_first is_second whole = (
  (λ there. subst IsExtended (sym is_first) (some_extended bytes (bits 0 0 (first_of bytes) == 1) refl (subst (λ (o : Option ℕ). IsSome o) is_second there))),
  (λ due. elim (some_or_none second) [ inl there ↦ there | inr none ↦ absurd (whole (due, none)) ]),
)

-- ---- what is written

pub field_along : (b n c f b' n' c' f' : ℕ) (bytes : List ℕ) → b ≡ b' → n ≡ n' → c ≡ c' → f ≡ f' → SpellsField b n bytes c f → SpellsField b' n' bytes c' f'
field_along b n c f b' n' c' f' bytes p q r s field =
    subst (λ (x : ℕ). SpellsField x n' bytes c' f') p (subst (λ (x : ℕ). SpellsField b x bytes c' f') q (subst (λ (x : ℕ). SpellsField b n bytes x f') r (subst (λ (x : ℕ). SpellsField b n bytes c x) s field)))

pub front_along : (x x' : ℕ) (o o' : Option ℕ) (n : ℕ) (buf front : List ℕ) → x ≡ x' → o ≡ o' → n ≡ 1 + length (option_to_list o')
    → front ≡ x ∷ option_to_list o ++ drop (1 + length (option_to_list o)) buf → front ≡ x' ∷ option_to_list o' ++ drop n buf
front_along x x' o o' n buf front p q r e =
    e ∙ ap (λ (y : ℕ). y ∷ option_to_list o ++ drop (1 + length (option_to_list o)) buf) p
    ∙ ap (λ (y : Option ℕ). x' ∷ option_to_list y ++ drop (1 + length (option_to_list y)) buf) q ∙ ap (λ (m : ℕ). x' ∷ option_to_list o' ++ drop m buf) (sym r)

-- a P-field at the front, and the T-field written behind it
pub code_written : (code : CucView) (buf front field : List ℕ) (head end : ℕ) → head ≡ 1 + length (option_to_list code.second) → end ≡ head + basic code + fraction code → end ≤ length buf
    → front ≡ code.first ∷ option_to_list code.second ++ drop head buf → IsCuc code → SpellsField (basic code) (fraction code) field code.coarse code.fine
    → SpellsCuc (take end (put_mid head (end - head) front field)) code × (drop end (put_mid head (end - head) front field) ≡ drop end buf)
code_written code buf front field head end is_head is_end room is_front valid spelled =
    let octets : List ℕ = code.first ∷ option_to_list code.second in
    let size : length octets ≡ head = omega (arith, is_head) in
    let long : length front ≡ length buf = omega (arith, ap length is_front, length-append octets (drop head buf), length-drop head buf, size, is_end) in
    let width = length-field (basic code) (fraction code) code.coarse code.fine field spelled in
    let kept : take head front ≡ octets = ap (take head) is_front ∙ ap (λ (n : ℕ). take n (octets ++ drop head buf)) (sym size) ∙ take-append_seam octets (drop head buf) in (
      record {
        field = field;
        joined = take-put_mid head (end - head) front field end (omega (arith, width, is_end)) (omega (arith, long, is_end)) ∙ ap (λ (l : List ℕ). l ++ field) kept;
        is_field = spelled;
        is_code = valid;
      },
      drop-put_mid head (end - head) front field end (omega (arith, is_end)) (omega (arith, long, is_end)) (omega (arith, width, is_end))
          ∙ ap (drop end) is_front ∙ drop-append-drop head buf octets end (omega (arith, is_end)) size,
    )
