-- Codes and their bytes determine each other.
use Rattle.std.proofs.Common.{◌≡◌, ◌≢◌, ◌⊎◌, ℕ, ◌+◌, ◌-◌, ◌*◌, ◌^◌, ◌<◌, ◌≤◌, zero, suc, List, [], ◌∷◌, ◌++◌, length, take, drop, refl, ap, sym, ◌∙◌, subst, arith, inl, inr, Result, Ok, Err, length-append, length-drop, length-set, set, append_assoc}
use Rattle.std.proofs.lemmas.List.{length-take, take-append-drop, drop-set-lt}
use Rattle.std.specs.Prelude.{slice_index}
use Rattle.std.proofs.Math.Seq.{drop-append_seam}
use Rattle.std.proofs.lemmas.Slice.{take-put_mid, drop-put_mid}
use borrow.Rule.Slice.PartMut.{put_mid}
use Rattle.sk_checks.specs.Checks.{Judges, NoneRefuses, FirstRefuses}
use Rattle.sk_checks.proofs.ChecksLemmas.{FirstRefuses-some}
use Rattle.sk_octets.specs.Octets.{bits, octets_value, SpellsNumber}
use Rattle.sk_octets.proofs.OctetLemmas.{SpellsNumber-one, number_same, same_front, same_back}
use Rattle.sk_cds.specs.declared.fault.CdsFault.{CdsFault}
use Rattle.sk_cds.specs.Limit.{sub_limit}
use Rattle.sk_cds.specs.Code.{CdsView, SpellsCds, SpellsField, IsCds, IsPField, day_octets_of, sub_octets_of, field_checks, cds_checks}

-- ---- T-fields

pub one_field : (d s day ms sub : ℕ) (a b : List ℕ) → SpellsField d s a day ms sub → SpellsField d s b day ms sub → a ≡ b
one_field d s day ms sub a b p q =
    p.joined ∙ ap (λ (l : List ℕ). l ++ p.middle ++ p.last) (SpellsNumber-one d day p.first q.first p.is_day q.is_day)
    ∙ ap (λ (l : List ℕ). q.first ++ l ++ p.last) (SpellsNumber-one 4 ms p.middle q.middle p.is_ms q.is_ms)
    ∙ ap (λ (l : List ℕ). q.first ++ q.middle ++ l) (SpellsNumber-one s sub p.last q.last p.is_sub q.is_sub) ∙ sym q.joined

pub record SameParts (d m s d' m' s' : ℕ) : Type 0 where
  pub day : d ≡ d'
  pub ms : m ≡ m'
  pub sub : s ≡ s'

pub field_numbers : (d s day ms sub day' ms' sub' : ℕ) (bytes : List ℕ) → SpellsField d s bytes day ms sub → SpellsField d s bytes day' ms' sub' → SameParts day ms sub day' ms' sub'
field_numbers d s day ms sub day' ms' sub' bytes p q =
    let e : (p.first ++ p.middle) ++ p.last ≡ (q.first ++ q.middle) ++ q.last = sym p.joined ∙ q.joined in
    let first_long : length p.first ≡ length q.first = p.is_day.long ∙ sym q.is_day.long in
    let middle_long : length p.middle ≡ length q.middle = p.is_ms.long ∙ sym q.is_ms.long in
    let front_long : length (p.first ++ p.middle) ≡ length (q.first ++ q.middle) = omega (arith, length-append p.first p.middle, length-append q.first q.middle, first_long, middle_long) in
    let front = same_front (p.first ++ p.middle) p.last (q.first ++ q.middle) q.last front_long e in
    record {
      day = number_same d day day' p.first q.first p.is_day q.is_day (same_front p.first p.middle q.first q.middle first_long front);
      ms = number_same 4 ms ms' p.middle q.middle p.is_ms q.is_ms (same_back p.first p.middle q.first q.middle first_long front);
      sub = number_same s sub sub' p.last q.last p.is_sub q.is_sub (same_back (p.first ++ p.middle) p.last (q.first ++ q.middle) q.last front_long e);
    }

pub length-field : (d s day ms sub : ℕ) (bytes : List ℕ) → SpellsField d s bytes day ms sub → length bytes ≡ d + 4 + s
length-field d s day ms sub bytes p =
    omega (arith, ap length p.joined, length-append (p.first ++ p.middle) p.last, length-append p.first p.middle, p.is_day.long, p.is_ms.long, p.is_sub.long)

-- what stands behind the day and the millisecond
behind_field : (d s day ms sub : ℕ) (bytes : List ℕ) (p : SpellsField d s bytes day ms sub) → drop (d + 4) bytes ≡ p.last
behind_field d s day ms sub bytes p =
    let long : length (p.first ++ p.middle) ≡ d + 4 = omega (arith, length-append p.first p.middle, p.is_day.long, p.is_ms.long) in
    ap (drop (d + 4)) p.joined ∙ ap (λ (n : ℕ). drop n ((p.first ++ p.middle) ++ p.last)) (sym long) ∙ drop-append_seam (p.first ++ p.middle) p.last

-- a T-field is not refused
pub field_passes : (d s day ms sub : ℕ) (bytes : List ℕ) → SpellsField d s bytes day ms sub → NoneRefuses (field_checks d s bytes)
field_passes d s day ms sub bytes p = (
  (λ no. no (length-field d s day ms sub bytes p)),
  (
    (λ over. omega (arith, over, p.in_millisecond, p.is_sub.value, ap octets_value (behind_field d s day ms sub bytes p))),
    tt,
  ),
)

-- the parts of what is read
pub field_read : (bytes first rest middle last : List ℕ) (d s day ms sub : ℕ) → length bytes ≡ d + 4 + s → first ≡ take d bytes → rest ≡ drop d bytes → middle ≡ take 4 rest → last ≡ drop 4 rest
    → SpellsNumber (length first) first day → SpellsNumber (length middle) middle ms → SpellsNumber (length last) last sub → sub < sub_limit s → SpellsField d s bytes day ms sub
field_read bytes first rest middle last d s day ms sub long is_first is_rest is_middle is_last p q r below =
    let first_long : length first ≡ d = omega (arith, ap length is_first, length-take d bytes, long) in
    let rest_long : length rest ≡ 4 + s = omega (arith, ap length is_rest, length-drop d bytes, long) in
    let middle_long : length middle ≡ 4 = omega (arith, ap length is_middle, length-take 4 rest, rest_long) in
    let last_long : length last ≡ s = omega (arith, ap length is_last, length-drop 4 rest, rest_long) in
    record {
      first = first;
      middle = middle;
      last = last;
      joined = sym (append_assoc first middle last ∙ ap (λ (l : List ℕ). first ++ (l ++ last)) is_middle ∙ ap (λ (l : List ℕ). first ++ (take 4 rest ++ l)) is_last
          ∙ ap (λ (l : List ℕ). first ++ l) (take-append-drop 4 rest ∙ is_rest) ∙ ap (λ (l : List ℕ). l ++ drop d bytes) is_first ∙ take-append-drop d bytes);
      is_day = subst (λ (n : ℕ). SpellsNumber n first day) first_long p;
      is_ms = subst (λ (n : ℕ). SpellsNumber n middle ms) middle_long q;
      is_sub = subst (λ (n : ℕ). SpellsNumber n last sub) last_long r;
      in_millisecond = below;
    }

-- ---- P-fields

pub one_octet : (x y d s : ℕ) → IsPField x d s → IsPField y d s → x ≡ y
one_octet x y d s p q = omega (arith, p.is_octet, p.no_extension, p.is_cds, p.ccsds_epoch, p.days, p.subs, q.is_octet, q.no_extension, q.is_cds, q.ccsds_epoch, q.days, q.subs)

pub same_code : (a b : CdsView) → a.day_octets ≡ b.day_octets → a.sub_octets ≡ b.sub_octets → a.day ≡ b.day → a.ms ≡ b.ms → a.sub ≡ b.sub → a ≡ b
same_code a b d s day ms sub = λ i. record { day_octets = d i; sub_octets = s i; day = day i; ms = ms i; sub = sub i }

-- the bytes of a code are its only ones
pub one_bytes : (a b : List ℕ) (code : CdsView) → SpellsCds a code → SpellsCds b code → a ≡ b
one_bytes a b code s t =
    s.joined ∙ ap (λ (x : ℕ). x ∷ s.field) (one_octet s.octet t.octet code.day_octets code.sub_octets s.is_octet t.is_octet)
    ∙ ap (λ (l : List ℕ). t.octet ∷ l) (one_field code.day_octets code.sub_octets code.day code.ms code.sub s.field t.field s.is_field t.is_field) ∙ sym t.joined

-- and bytes are one code at most
pub one_code : (bytes : List ℕ) (a b : CdsView) → SpellsCds bytes a → SpellsCds bytes b → a ≡ b
one_code bytes a b s t =
    let e : s.octet ∷ s.field ≡ t.octet ∷ t.field = sym s.joined ∙ t.joined in
    let octet : s.octet ≡ t.octet = cc in
    let same : s.field ≡ t.field = cc in
    let days : a.day_octets ≡ b.day_octets = s.is_octet.days ∙ ap day_octets_of octet ∙ sym t.is_octet.days in
    let subs : a.sub_octets ≡ b.sub_octets = s.is_octet.subs ∙ ap sub_octets_of octet ∙ sym t.is_octet.subs in
    let field : SpellsField a.day_octets a.sub_octets s.field b.day b.ms b.sub =
    subst (λ (l : List ℕ). SpellsField a.day_octets a.sub_octets l b.day b.ms b.sub) (sym same)
    (subst (λ (n : ℕ). SpellsField n a.sub_octets t.field b.day b.ms b.sub) (sym days) (subst (λ (n : ℕ). SpellsField b.day_octets n t.field b.day b.ms b.sub) (sym subs) t.is_field)) in
    let numbers = field_numbers a.day_octets a.sub_octets a.day a.ms a.sub b.day b.ms b.sub s.field s.is_field field in
    same_code a b days subs numbers.day numbers.ms numbers.sub

-- ---- what is not refused

pub taken : (bytes : List ℕ) (code : CdsView) → SpellsCds bytes code → NoneRefuses (cds_checks bytes)
taken bytes code s = subst (λ (l : List ℕ). NoneRefuses (cds_checks l)) (sym s.joined) (
  (λ e. nothing e),
  (
    (λ no. no s.is_octet.is_cds),
    (
      (λ e. omega (arith, e, s.is_octet.no_extension)),
      (
        (λ e. omega (arith, e, s.is_octet.ccsds_epoch)),
        (
          s.is_octet.not_reserved,
          field_taken s.octet s.field s.is_octet s.is_field,
        ),
      ),
    ),
  ),
)
  where
    nothing : {x : ℕ} {xs : List ℕ} → x ∷ xs ≡ [] → ⊥
    nothing e = cc

    field_taken : (octet : ℕ) (field : List ℕ) → IsPField octet code.day_octets code.sub_octets → SpellsField code.day_octets code.sub_octets field code.day code.ms code.sub
        → NoneRefuses (field_checks (day_octets_of octet) (sub_octets_of octet) field)
    field_taken octet field p f =
        subst (λ (n : ℕ). NoneRefuses (field_checks n (sub_octets_of octet) field)) p.days
        (subst (λ (n : ℕ). NoneRefuses (field_checks code.day_octets n field)) p.subs (field_passes code.day_octets code.sub_octets code.day code.ms code.sub field f))

-- what answers the checks answers the code
pub judged_read : (bytes : List ℕ) (r : Result CdsView CdsFault) → Judges (cds_checks bytes) (SpellsCds bytes) r → (code : CdsView) → SpellsCds bytes code → r ≡ Ok code
judged_read bytes (Ok value) h code s = ap (λ (x : CdsView). Ok x) (one_code bytes value code h.1 s)
judged_read bytes (Err fault) h code s = absurd (FirstRefuses-some (cds_checks bytes) fault h (taken bytes code s))

-- ---- what is written

pub field_along : (d s day ms sub d' s' day' ms' sub' : ℕ) (bytes : List ℕ) → d ≡ d' → s ≡ s' → day ≡ day' → ms ≡ ms' → sub ≡ sub' → SpellsField d s bytes day ms sub → SpellsField d' s' bytes day' ms' sub'
field_along d s day ms sub d' s' day' ms' sub' bytes p q a b c field =
    subst (λ (x : ℕ). SpellsField x s' bytes day' ms' sub') p (subst (λ (x : ℕ). SpellsField d x bytes day' ms' sub') q
    (subst (λ (x : ℕ). SpellsField d s bytes x ms' sub') a (subst (λ (x : ℕ). SpellsField d s bytes day x sub') b (subst (λ (x : ℕ). SpellsField d s bytes day ms x) c field))))

first_written : (buf : List ℕ) (octet : ℕ) → 0 < length buf → take 1 (set buf 0 octet) ≡ octet ∷ []
first_written [] octet some = absurd (omega (arith, some))
first_written (x ∷ xs) octet some = refl

-- a P-field at the front, and the T-field written behind it
pub code_written : (code : CdsView) (buf field : List ℕ) (octet end : ℕ) → end ≡ 1 + code.day_octets + 4 + code.sub_octets → end ≤ length buf
    → IsPField octet code.day_octets code.sub_octets → SpellsField code.day_octets code.sub_octets field code.day code.ms code.sub
    → SpellsCds (take end (put_mid 1 (end - 1) (set buf 0 octet) field)) code × (drop end (put_mid 1 (end - 1) (set buf 0 octet) field) ≡ drop end buf)
code_written code buf field octet end is_end room head spelled =
    let long : length (set buf 0 octet) ≡ length buf = length-set buf 0 octet in
    let width = length-field code.day_octets code.sub_octets code.day code.ms code.sub field spelled in
    let some : 0 < end = omega arith in (
      record {
        octet = octet;
        field = field;
        joined = take-put_mid 1 (end - 1) (set buf 0 octet) field end (omega (arith, width, is_end)) (omega (arith, long, is_end)) ∙ ap (λ (l : List ℕ). l ++ field) (first_written buf octet (omega arith));
        is_octet = head;
        is_field = spelled;
      },
      drop-put_mid 1 (end - 1) (set buf 0 octet) field end (omega arith) (omega (arith, long, is_end)) (omega (arith, width, is_end)) ∙ drop-set-lt end buf 0 octet some,
    )
