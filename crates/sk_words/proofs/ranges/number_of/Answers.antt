use Rattle.std.proofs.Common.{rules, ◌≡◌, ◌≤◌, ◌&&◌, ℕ, List, true, false, Bool, length, leb, refl, sym, ap, ◌∙◌, arith, Ok, Result, Some, None, cond}
use Rattle.std.specs.Char.{is_ascii_digit}
use Rattle.std.specs.List.{list_all}
use Rattle.std.specs.Result.{result_ok}
use Rattle.std.specs.Str.Parse.{digits_value, ParsesUnsigned}
use Rattle.std.proofs.lemmas.Str.Parse.{IsNumeralModel, numerals_by_value, parse_gives, digits_value_short}
use Rattle.std.proofs.lemmas.Bool.{false≢true}
use Rattle.sk_words.specs.Request.{is_number}
use Rattle.sk_words.proofs.ranges.number_of.Goals as goal

own : IsNumeralModel (λ ds. list_all is_ascii_digit ds ≡ true) (digits_value 10)
own = numerals_by_value _ (search rules)

parts : (a b d : Bool) → (a && (b && d)) ≡ true → (a ≡ true) × (b ≡ true) × (d ≡ true)
parts true true true h = (refl, refl, refl)
parts true true false h = absurd (false≢true h)
parts true false d h = absurd (false≢true h)
parts false b d h = absurd (false≢true h)

-- what a number's text gives
given : {E : Type 0} (text : List ℕ) (r : Result ℕ E) → ParsesUnsigned 64 10 text r → is_number text ≡ true → r ≡ Ok (digits_value 10 text)
given text r h is =
    let p = parts (leb 1 (length text)) (leb (length text) 16) (list_all is_ascii_digit text) is in
    let some : 1 ≤ length text = search rules in
    let short : length text ≤ 16 = search rules in
    parse_gives own 64 text r h p.2 some (omega (arith, digits_value_short own text 16 p.2 short))

pub returns-then-is_number : goal.returns-then-is_number
returns-then-is_number c =
    let is : is_number c.args.text.now ≡ true = cc in
    let e = given c.args.text.now c.parse.result c.parse.ensures.value.0 is in
    c.ok.ensures.value ∙ ap result_ok e ∙ ap (λ b. cond b (Some (digits_value 10 c.args.text.now)) None) (sym is)
