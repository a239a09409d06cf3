-- The number of the spacecraft is given where the command needs it, and is in its range.
use Rattle.std.proofs.Common.{rules, ◌≡◌, ℕ, ◌≤◌, Bool, true, false, ◌&&◌, cond, leb, List, [], ◌∷◌, find, refl, sym, ap, ◌∙◌, Option, Some, None}
use Rattle.std.specs.Prelude.{not, is_none, option_and_then}
use Rattle.std.specs.Option.{option_map, option_map_or}
use Rattle.std.specs.Str.Parse.{digits_value}
use Rattle.std.proofs.lemmas.Bool.{false≢true}
use Rattle.clap.specs.Words.{Row}
use Rattle.sk_words.specs.declared.tables.Command.{Command}
use Rattle.sk_words.specs.declared.tables.Command.TheVariants.{Publish, Residuals, Normal, Convert, Sample, Invert, Audit, Excerpt, Least, Plot}
use Rattle.sk_words.specs.declared.tables.OptionName.{OptionName}
use Rattle.sk_words.specs.declared.tables.OptionName.TheVariants as opt
use Rattle.sk_words.specs.declared.fault.WordsFault.TheVariants.{UnknownCommand, NeedOption, OutOfRange}
use Rattle.sk_words.specs.Request.{is_number, is_in_range, is_out_of_range, number_of, options_of, options_fault, first_missing, first_out_of_range, needs, all_options, used, number_or}
use Rattle.sk_words.specs.Asked.{AsksFor, NeedsNumber}

-- the test is false of each
abbrev pub Fails : {A : Type 0} → (A → Bool) → List A → Type 0
Fails p [] = Unit {0}
Fails p (x ∷ xs) = (p x ≡ false) × Fails p xs

past : {A : Type 0} (b : Bool) (x : A) (rest : Option A) → cond b (Some x) rest ≡ None → (b ≡ false) × (rest ≡ None)
past true x rest h = cc
past false x rest h = (refl, h)

pub none_found : {A : Type 0} (p : A → Bool) (xs : List A) → find p xs ≡ None → Fails p xs
none_found p [] h = tt
none_found p (x ∷ xs) h = let k = past (p x) x (find p xs) h in (k.0, none_found p xs k.1)

pub no_fault : (m o : Option OptionName) → option_map_or (λ name. Some (NeedOption name)) m (option_map (λ name. OutOfRange name) o) ≡ None → (m ≡ None) × (o ≡ None)
no_fault (Some name) o h = cc
no_fault None (Some name) h = cc
no_fault None None h = (refl, refl)

three : (a b d : Bool) → (a && (b && d)) ≡ true → (a ≡ true) × (b ≡ true) × (d ≡ true)
three true true true h = (refl, refl, refl)
three true true false h = absurd (false≢true h)
three true false d h = absurd (false≢true h)
three false b d h = absurd (false≢true h)

pub inside : (b : Bool) → not b ≡ false → b ≡ true
inside true h = refl
inside false h = sym h

-- the number of an option that is given and in the range of a spacecraft's number
number_part : (o : Option (List ℕ)) → is_none o ≡ false → option_map_or (λ text. not (is_in_range opt.Sc text)) o false ≡ false
    → (n : ℕ) × (option_and_then number_of o ≡ Some n) × (1 ≤ n) × (n ≤ 999999999) × (n ≡ option_map_or (λ text. digits_value 10 text) o 0)
number_part None h k = absurd (false≢true (sym h))
number_part (Some text) h k =
    let p = three (is_number text) (leb 1 (digits_value 10 text)) (leb (digits_value 10 text) 999999999) (inside (is_in_range opt.Sc text) k) in
    let low : 1 ≤ digits_value 10 text = search rules in
    let high : digits_value 10 text ≤ 999999999 = search rules in
    (digits_value 10 text, ap (λ b. cond b (Some (digits_value 10 text)) None) p.0, low, high, refl)

pub asked_fault : (rows : List Row) (command : Command) → AsksFor rows command → options_fault command (options_of rows) ≡ None
asked_fault rows command h =
    sym (ap (λ (o : Option Command). option_map_or (λ command. options_fault command (options_of rows)) o (Some UnknownCommand)) h.is_command) ∙ h.none

module _ (rows : List Row) (command : Command) (h : AsksFor rows command) where
  passes : (first_missing command (options_of rows) ≡ None) × (first_out_of_range (options_of rows) ≡ None)
  passes = no_fault (first_missing command (options_of rows)) (first_out_of_range (options_of rows)) (asked_fault rows command h)

  given : Fails (λ name. is_none (options_of rows name)) (needs command)
  given = none_found (λ name. is_none (options_of rows name)) (needs command) passes.0

  within : is_out_of_range (options_of rows) opt.Sc ≡ false
  within = (none_found (is_out_of_range (options_of rows)) all_options passes.1).1.1.1.0

pub sc_given : (rows : List Row) (command : Command) → AsksFor rows command → NeedsNumber command
    → (n : ℕ) × (option_and_then number_of (options_of rows opt.Sc) ≡ Some n) × (1 ≤ n) × (n ≤ 999999999) × (n ≡ number_or 0 opt.Sc (used command (options_of rows)))
sc_given rows Publish h needed = number_part (options_of rows opt.Sc) (given rows Publish h).1.1.0 (within rows Publish h)
sc_given rows Residuals h needed = number_part (options_of rows opt.Sc) (given rows Residuals h).1.1.0 (within rows Residuals h)
sc_given rows Normal h needed = absurd (false≢true needed)
sc_given rows Convert h needed = number_part (options_of rows opt.Sc) (given rows Convert h).1.0 (within rows Convert h)
sc_given rows Sample h needed = absurd (false≢true needed)
sc_given rows Invert h needed = number_part (options_of rows opt.Sc) (given rows Invert h).1.0 (within rows Invert h)
sc_given rows Audit h needed = number_part (options_of rows opt.Sc) (given rows Audit h).1.1.0 (within rows Audit h)
sc_given rows Excerpt h needed = number_part (options_of rows opt.Sc) (given rows Excerpt h).1.0 (within rows Excerpt h)
sc_given rows Least h needed = number_part (options_of rows opt.Sc) (given rows Least h).1.1.0 (within rows Least h)
sc_given rows Plot h needed = number_part (options_of rows opt.Sc) (given rows Plot h).1.1.0 (within rows Plot h)
