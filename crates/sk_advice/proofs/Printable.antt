-- Sentences are lines of printable ASCII.
use Rattle.std.proofs.Common.{◌≡◌, ℕ, ◌/◌, ◌%◌, ◌<◌, Bool, true, false, ◌&&◌, List, [], ◌∷◌, ◌++◌, refl, ap, ◌∙◌, arith, subst, sym, append_assoc, append-nil}
use Rattle.std.specs.Prelude.{if◌then◌else◌}
use Rattle.std.specs.List.{flat_map, list_all}
use Rattle.std.proofs.lemmas.Bool.{and_from, agree_below_at}
use Rattle.std.proofs.lemmas.Nat.{mod_below}
use Rattle.std.proofs.lemmas.List.Concat.{flat_map-append}
use Rattle.std.proofs.lemmas.List.Folds.{list_all-append}
use Rattle.sk_advice.specs.Sentences.{is_printable, hex_digit, shown, set_in, sentence, sentences, AreSentences}

digit_printable : (digit : ℕ) → digit < 16 → is_printable (hex_digit digit) ≡ true
digit_printable digit h = agree_below_at (λ d. is_printable (hex_digit d)) (λ d. true) 16 digit refl h

escaped_printable : (byte : ℕ) → list_all is_printable (92 ∷ 120 ∷ hex_digit ((byte / 16) % 16) ∷ hex_digit (byte % 16) ∷ []) ≡ true
escaped_printable byte =
    let high = digit_printable ((byte / 16) % 16) (mod_below (byte / 16) 16 (omega arith)) in
    let low = digit_printable (byte % 16) (mod_below byte 16 (omega arith)) in
    and_from (is_printable (hex_digit ((byte / 16) % 16))) (is_printable (hex_digit (byte % 16)) && true) high (and_from (is_printable (hex_digit (byte % 16))) true low refl)

byte_printable : (byte : ℕ) (b : Bool) → is_printable byte ≡ b
    → list_all is_printable (if b then byte ∷ [] else 92 ∷ 120 ∷ hex_digit ((byte / 16) % 16) ∷ hex_digit (byte % 16) ∷ []) ≡ true
byte_printable byte true e = and_from (is_printable byte) true e refl
byte_printable byte false e = escaped_printable byte

shown_printable : (line : List ℕ) → list_all is_printable (flat_map shown line) ≡ true
shown_printable [] = refl
shown_printable (byte ∷ rest) =
    list_all-append is_printable (shown byte) (flat_map shown rest)
    ∙ and_from (list_all is_printable (shown byte)) (list_all is_printable (flat_map shown rest)) (byte_printable byte (is_printable byte) refl) (shown_printable rest)

pub sentences_are : (texts : List (List ℕ)) → AreSentences (sentences texts)
sentences_are [] = record { lines = []; are_lines = refl; are_printable = refl }
sentences_are ([] ∷ texts) = sentences_are texts
sentences_are ((byte ∷ rest) ∷ texts) =
    let behind : AreSentences (sentences texts) = sentences_are texts in
    let line : List ℕ = flat_map shown (byte ∷ rest) in
    record {
      lines = line ∷ behind.lines;
      are_lines = ap (λ (l : List ℕ). set_in line ++ l) behind.are_lines;
      are_printable = and_from (list_all is_printable line) (list_all (λ l. list_all is_printable l) behind.lines) (shown_printable (byte ∷ rest)) behind.are_printable;
    }

-- texts that were appended line by line
pub said_lines : (none one two : List ℕ) (a b : List (List ℕ)) → none ≡ [] → one ≡ none ++ sentences a → two ≡ one ++ sentences b → AreSentences two
said_lines none one two a b g h k =
    let begun : one ≡ sentences a = h ∙ ap (λ (l : List ℕ). l ++ sentences a) g in
    let all : two ≡ sentences (a ++ b) = k ∙ ap (λ (l : List ℕ). l ++ sentences b) begun ∙ sym (flat_map-append sentence a b) in
    subst AreSentences (sym all) (sentences_are (a ++ b))

-- one sentence more
pub one_more : (old text new line : List ℕ) (texts : List (List ℕ)) → text ≡ old ++ sentences texts → new ≡ text ++ sentence line → new ≡ old ++ sentences (texts ++ line ∷ [])
one_more old text new line texts h k =
    k ∙ ap (λ (l : List ℕ). l ++ sentence line) h ∙ append_assoc old (sentences texts) (sentence line)
    ∙ ap (λ (l : List ℕ). old ++ l) (sym (flat_map-append sentence texts (line ∷ []) ∙ ap (λ (l : List ℕ). sentences texts ++ l) (append-nil (sentence line))))
