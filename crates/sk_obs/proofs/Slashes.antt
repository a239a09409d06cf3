-- The first slash of a word, and the partition before it.
use Rattle.std.proofs.Common.{◌≡◌, ℕ, ◌+◌, ◌<◌, ◌≤◌, Bool, true, false, List, [], ◌∷◌, length, take, drop, Option, Some, None, MatchOption, Result, Ok, Err, position, cond, refl, sym, ap, ◌∙◌, subst, inl, arith}
use Rattle.std.proofs.lemmas.List.Folds.{list_any_at, list_any_none}
use Rattle.std.proofs.lemmas.List.Sums.{passes_at_first, fails_before_first}
use Rattle.std.proofs.lemmas.Bool.{ltb-true, ltb-false}
use Rattle.std.specs.List.{position_or_len, list_any}
use Rattle.std.specs.Prelude.{nat_lt}
use Rattle.sk_checks.specs.Checks.{Judges, ◌⇒◌}
use Rattle.sk_clock.specs.ClockText.{SpellsDigits}
use Rattle.sk_clock.specs.declared.fault.ClockFault.TheVariants.{BadText}
use Rattle.sk_obs.specs.declared.fault.ClockWord.{ClockWord}
use Rattle.sk_obs.specs.declared.fault.ClockWord.TheVariants.{Text}
use Rattle.sk_obs.specs.Words.{is_slash, partition_part, hex_part, IsNamed}

chosen : (b : Bool) (n i : ℕ) → ◌≡◌ {A = Option ℕ} (cond b (Some n) None) (Some i) → (b ≡ true) × (n ≡ i)
chosen true n i e = (refl, cc)
chosen false n i e = cc

left_out : (b : Bool) (n : ℕ) → ◌≡◌ {A = Option ℕ} (cond b (Some n) None) None → b ≡ false
left_out true n e = cc
left_out false n e = refl

slash_found : (word : List ℕ) (place : ℕ) → position is_slash word ≡ Some place
    → (list_any is_slash word ≡ true) × (position_or_len is_slash word ≡ place)
slash_found word place e =
    let c = chosen (nat_lt (position_or_len is_slash word) (length word)) _ _ e in
    let within : position_or_len is_slash word < length word = ltb-true _ _ c.0 in
    (list_any_at is_slash word (position_or_len is_slash word) 0 within (passes_at_first is_slash word 0 within), c.1)

slash_missing : (word : List ℕ) → position is_slash word ≡ None → list_any is_slash word ≡ false
slash_missing word e =
    let past : length word ≤ position_or_len is_slash word = ltb-false _ _ (left_out _ _ e) in
    list_any_none is_slash word (λ k d less. fails_before_first is_slash word k d (omega arith))

pub before_found : (word : List ℕ) (place : ℕ) → position is_slash word ≡ Some place → Some (take place word) ≡ partition_part word
before_found word place e = let f = slash_found word place e in rw (f.0, f.1) refl

pub before_missing : (word : List ℕ) → position is_slash word ≡ None → ◌≡◌ {A = Option (List ℕ)} None (partition_part word)
before_missing word e = rw (slash_missing word e) refl

pub behind_found : (word : List ℕ) (place : ℕ) → position is_slash word ≡ Some place → drop (place + 1) word ≡ hex_part word
behind_found word place e = let f = slash_found word place e in rw (f.0, f.1) refl

pub behind_missing : (word : List ℕ) → position is_slash word ≡ None → word ≡ hex_part word
behind_missing word e = rw (slash_missing word e) refl

-- ---- the partition that is named

-- `IsNamed`, by what stands before the slash
abbrev IsNamedBy : Option (List ℕ) → Option ℕ → Type 0
IsNamedBy part named = MatchOption part (named ≡ None) (λ digits. (p : ℕ) × SpellsDigits 4 digits p × (named ≡ Some p))

abbrev NamesBy : Option (List ℕ) → Result (Option ℕ) ClockWord → Type 0
NamesBy part result = Judges (((named : Option ℕ) → ¬ IsNamedBy part named) ⇒ Text BadText ∷ []) (IsNamedBy part) result

abbrev pub Names : List ℕ → Result (Option ℕ) ClockWord → Type 0
Names word result = Judges (((named : Option ℕ) → ¬ IsNamed word named) ⇒ Text BadText ∷ []) (IsNamed word) result

pub names_none : (word : List ℕ) → partition_part word ≡ None → Names word (Ok None)
names_none word e = subst (λ (part : Option (List ℕ)). NamesBy part (Ok None)) (sym e) ((λ none. none None refl, tt), refl)

pub names_some : (word digits : List ℕ) (p : ℕ) → partition_part word ≡ Some digits → SpellsDigits 4 digits p → Names word (Ok (Some p))
names_some word digits p e h =
    subst (λ (part : Option (List ℕ)). NamesBy part (Ok (Some p))) (sym e) ((λ none. none (Some p) (p, h, refl), tt), (p, h, refl))

pub names_bad : (word digits : List ℕ) → partition_part word ≡ Some digits → ((n : ℕ) → ¬ SpellsDigits 4 digits n) → Names word (Err (Text BadText))
names_bad word digits e none =
    subst (λ (part : Option (List ℕ)). NamesBy part (Err (Text BadText))) (sym e) (inl (λ named h. none h.0 h.1, refl))

same_digits : (a b : Option ℕ) (digits : List ℕ) → ((p : ℕ) × SpellsDigits 4 digits p × (a ≡ Some p)) → ((p : ℕ) × SpellsDigits 4 digits p × (b ≡ Some p)) → a ≡ b
same_digits a b digits h k = h.2 ∙ (ap Some (h.1.2 ∙ sym k.1.2) ∙ sym k.2)

same_named : (part : Option (List ℕ)) (a b : Option ℕ) → IsNamedBy part a → IsNamedBy part b → a ≡ b
same_named None a b h k = h ∙ sym k
same_named (Some digits) a b h k = same_digits a b digits h k

-- a word names one partition at most
pub IsNamed-one : (word : List ℕ) (a b : Option ℕ) → IsNamed word a → IsNamed word b → a ≡ b
IsNamed-one word a b h k = same_named (partition_part word) a b h k
