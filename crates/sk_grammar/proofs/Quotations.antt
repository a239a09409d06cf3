-- Reading a text byte by byte.
use Rattle.std.proofs.Common.{◌≡◌, ℕ, ◌+◌, ◌<◌, List, [], ◌∷◌, ◌++◌, length, drop, get_or, Bool, true, false, cond, refl, ap, sym, ◌∙◌, append_assoc, arith, subst, Some, None, Ok, Err, Result, codes, ◌≤◌, length-append, drop-cons, add-one}
use Rattle.std.specs.List.{flat_map}
use Rattle.std.specs.Prelude.{◌==◌, nat_lt, Option, option_map, if◌then◌else◌}
use Rattle.std.proofs.lemmas.Grind.{flat_map-append}
use Rattle.std.proofs.lemmas.Bool.{lt-ltb, le-ltb}
use Rattle.sk_decimal.specs.Reading.{number_of}
use Rattle.sk_grammar.specs.declared.value.Value.TheVariants.{Text}
use Rattle.sk_grammar.specs.declared.value.Value.{Value}
use Rattle.sk_grammar.specs.declared.stop.Stop.{Stop}
use Rattle.sk_grammar.specs.declared.stop.Stop.TheVariants.{Refused, OutOfMemory}
use Rattle.sk_grammar.specs.Stopping.{Gives}
use Rattle.sk_grammar.specs.declared.fault.Reason.{Reason}
use Rattle.sk_grammar.specs.declared.fault.Reason.TheVariants.{TextOpen, TextTooLong}
use Rattle.sk_grammar.specs.Document.{doubled, quoted}
use Rattle.sk_grammar.specs.ValueReading.{text_from, ended_text, text_value}

-- so many bytes have been read as this front of the text; the flag is set behind a quote that may end it
pub record IsReadAs (bytes front : List ℕ) (flag : Bool) (at : ℕ) : Type 0 where
  pub text : option_map (λ t. front ++ t) (text_from flag (drop at bytes)) ≡ text_from false bytes
  pub size : length (flat_map doubled front) + (if flag then 1 else 0) ≡ at

unread : (o : Option (List ℕ)) → option_map (λ t. [] ++ t) o ≡ o
unread None = refl
unread (Some t) = refl

pub none_read : (bytes : List ℕ) → IsReadAs bytes [] false 0
none_read bytes = record { text = unread (text_from false bytes); size = refl }

one_more : (front : List ℕ) (byte : ℕ) (o : Option (List ℕ)) → option_map (λ t. front ++ t) (option_map (λ t. byte ∷ t) o) ≡ option_map (λ t. (front ++ byte ∷ []) ++ t) o
one_more front byte None = refl
one_more front byte (Some t) = ap Some (sym (append_assoc front (byte ∷ []) t))

-- the first byte of what is left
here : (bytes : List ℕ) (at : ℕ) → at < length bytes → drop at bytes ≡ get_or bytes at 0 ∷ drop (at + 1) bytes
here bytes at below = rw (add-one, drop-cons bytes at 0) refl

-- a byte of the text
pub plain_read : (bytes front : List ℕ) (at byte : ℕ) → at < length bytes → byte ≡ get_or bytes at 0 → (byte == 39) ≡ false → (byte == 10) ≡ false → IsReadAs bytes front false at → IsReadAs bytes (front ++ byte ∷ []) false (at + 1)
plain_read bytes front at byte below is other one r = record {
  text =
      let stepped : text_from false (byte ∷ drop (at + 1) bytes) ≡ option_map (λ t. byte ∷ t) (text_from false (drop (at + 1) bytes)) = rw (other, one) refl in
      sym (one_more front byte (text_from false (drop (at + 1) bytes)))
      ∙ ap (option_map (λ t. front ++ t)) (sym stepped ∙ ap (text_from false) (ap (λ (b : ℕ). b ∷ drop (at + 1) bytes) is ∙ sym (here bytes at below)))
      ∙ r.text;
  size = let once : doubled byte ≡ byte ∷ [] = rw other refl in simp (flat_map-append, length-append, once) (omega (arith, r.size));
}

-- the first of two quotes, or the one that ends the text
pub quote_read : (bytes front : List ℕ) (at byte : ℕ) → at < length bytes → byte ≡ get_or bytes at 0 → (byte == 39) ≡ true → IsReadAs bytes front false at → IsReadAs bytes front true (at + 1)
quote_read bytes front at byte below is quote r = record {
  text =
      let stepped : text_from false (byte ∷ drop (at + 1) bytes) ≡ text_from true (drop (at + 1) bytes) = rw quote refl in
      ap (option_map (λ t. front ++ t)) (sym stepped ∙ ap (text_from false) (ap (λ (b : ℕ). b ∷ drop (at + 1) bytes) is ∙ sym (here bytes at below)))
      ∙ r.text;
  size = omega (arith, r.size);
}

-- the second of two quotes
pub doubled_read : (bytes front : List ℕ) (at byte : ℕ) → at < length bytes → byte ≡ get_or bytes at 0 → (byte == 39) ≡ true → IsReadAs bytes front true at → IsReadAs bytes (front ++ byte ∷ []) false (at + 1)
doubled_read bytes front at byte below is quote r = record {
  text =
      let stepped : text_from true (byte ∷ drop (at + 1) bytes) ≡ option_map (λ t. byte ∷ t) (text_from false (drop (at + 1) bytes)) = rw quote refl in
      sym (one_more front byte (text_from false (drop (at + 1) bytes)))
      ∙ ap (option_map (λ t. front ++ t)) (sym stepped ∙ ap (text_from true) (ap (λ (b : ℕ). b ∷ drop (at + 1) bytes) is ∙ sym (here bytes at below)))
      ∙ r.text;
  size = let twice : doubled byte ≡ byte ∷ byte ∷ [] = rw quote refl in simp (flat_map-append, length-append, twice) (omega (arith, r.size));
}

pub read_on : (bytes front front' : List ℕ) (flag flag' : Bool) (at : ℕ) → front' ≡ front → flag' ≡ flag → IsReadAs bytes front flag at → IsReadAs bytes front' flag' at
read_on bytes front front' flag flag' at e f r =
    subst (λ (b : Bool). IsReadAs bytes front' b at) (sym f) (subst (λ (x : List ℕ). IsReadAs bytes x flag at) (sym e) r)

-- ---- the value that the text is

pub text_refused : (o : Option (List ℕ)) (reason : Reason) → ended_text o ≡ Err reason → text_value number_of o ≡ Err reason
text_refused None reason h = let same : TextOpen ≡ reason = cc h in ap Err same
text_refused (Some t) reason h = absurd (cc h)

abbrev ended : List ℕ × ℕ → Result (List ℕ × ℕ) Reason
ended a = Ok a

abbrev Agree : List ℕ × ℕ → List ℕ × ℕ → Type 0
Agree a b = ended a ≡ ended b

answers : (a b : List ℕ × ℕ) → Agree a b → a ≡ b
answers a b h = cc h

pub text_long : (o : Option (List ℕ)) (text : List ℕ) (size : ℕ) → ended_text o ≡ Ok (text, size) → 80 < length text → text_value number_of o ≡ Err TextTooLong
text_long None text size h long = absurd (cc h)
text_long (Some t) text size h long =
    let same : t ≡ text = ap (λ (p : List ℕ × ℕ). p.0) (answers (t, length (flat_map doubled t) + 1) (text, size) h) in
    let test : nat_lt 80 (length t) ≡ true = lt-ltb 80 (length t) (omega (arith, ap length same)) in
    rw test refl

pub text_short : (o : Option (List ℕ)) (text : List ℕ) (size : ℕ) → ended_text o ≡ Ok (text, size) → length text ≤ 80 → text_value number_of o ≡ Ok (Text text, size + 1)
text_short None text size h short = absurd (cc h)
text_short (Some t) text size h short =
    let same : t ≡ text = ap (λ (p : List ℕ × ℕ). p.0) (answers (t, length (flat_map doubled t) + 1) (text, size) h) in
    let sizes : length (flat_map doubled t) + 1 ≡ size = ap (λ (p : List ℕ × ℕ). p.1) (answers (t, length (flat_map doubled t) + 1) (text, size) h) in
    let test : nat_lt 80 (length t) ≡ false = le-ltb 80 (length t) (omega (arith, ap length same)) in
    let quotes : length (quoted t) ≡ size + 1 = omega (arith, sizes, length-append (flat_map doubled t) (codes "'")) in
    rw test (let value : Text t ≡ Text text = ap Text same in cc (value, quotes))

pub text_stopped : (o : Option (List ℕ)) (stop : Stop) → Gives (Err stop) (ended_text o) → Gives {A = Value × ℕ} (Err stop) (text_value number_of o)
text_stopped o (Refused reason) h = text_refused o reason h
text_stopped o OutOfMemory h = tt
