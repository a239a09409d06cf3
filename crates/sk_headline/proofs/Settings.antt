-- The numbers of a request are in the ranges of their options.
use Rattle.std.proofs.Common.{rules, ◌≡◌, ℕ, ◌^◌, ◌<◌, ◌≤◌, Bool, true, false, cond, ◌&&◌, leb, List, Option, Some, None, Ok, refl, sym, subst, arith}
use Rattle.std.proofs.lemmas.Bool.{false≢true}
use Rattle.std.proofs.lemmas.Int.{ints}
use Rattle.std.specs.Prelude.{IfSome, codes, ◌++◌}
use Rattle.std.specs.Option.{option_map, option_map_or}
use Rattle.std.specs.List.{list_any}
use Rattle.std.specs.Str.{bytes_eq}
use Rattle.std.specs.Str.Parse.{digits_value}
use Rattle.sk_grammar.specs.Document.{IsDate}
use Rattle.sk_fit.specs.Given.{AreSettings}
use Rattle.sk_words.specs.Words.{matches}
use Rattle.sk_words.specs.declared.tables.OptionName.{OptionName}
use Rattle.sk_words.specs.declared.tables.OptionName.TheVariants as opt
use Rattle.sk_words.specs.Request.{Options, options_of, used, uses, name_of, is_in_range, is_number, is_number_in}
use Rattle.sk_words.specs.Asked.{Request, WordsAsk, AsksFor}
use Rattle.sk_words.proofs.Within.{given_within}
use Rattle.sk_outcome.specs.Files.{sc_of}
use Rattle.sk_outcome.specs.Output.{settings_of, dated}
use Rattle.sk_outcome.proofs.Additions.{id_date}

-- each text is in the range of its option
abbrev pub AreWithin : Options → Type 0
AreWithin options = (name : OptionName) → IfSome (options name) (λ text. is_in_range name text ≡ true)

each_text : (o : Option (List ℕ)) (P : List ℕ → Type 0) → ((text : List ℕ) → o ≡ Some text → P text) → IfSome o P
each_text None P h = tt
each_text (Some text) P h = h text refl

picked : (b : Bool) (o : Option (List ℕ)) (P : List ℕ → Type 0) → IfSome o P → IfSome (cond b o None) P
picked true o P h = h
picked false o P h = tt

pub are_within : (words : List (List ℕ)) (request : Request) → WordsAsk words (Ok request) → AreWithin request.options
are_within words request h = subst AreWithin (sym h.3) within
  where
    asks : AsksFor (matches words) request.command
    asks = record { none = h.1; is_command = h.2 }

    within : AreWithin (used request.command (options_of (matches words)))
    within name =
        let P : List ℕ → Type 0 = λ text. is_in_range name text ≡ true in
        picked (list_any (λ u. bytes_eq (name_of u) (name_of name)) (uses request.command)) (options_of (matches words) name) P
        (each_text (options_of (matches words) name) P (given_within (matches words) request.command asks name))

-- ---- numbers

three : (a b d : Bool) → (a && (b && d)) ≡ true → (a ≡ true) × (b ≡ true) × (d ≡ true)
three true true true h = (refl, refl, refl)
three true true false h = absurd (false≢true h)
three true false d h = absurd (false≢true h)
three false b d h = absurd (false≢true h)

number_within : (low high : ℕ) (text : List ℕ) → is_number_in low high text ≡ true → (low ≤ digits_value 10 text) × (digits_value 10 text ≤ high)
number_within low high text h =
    let p = three (is_number text) (leb low (digits_value 10 text)) (leb (digits_value 10 text) high) h in
    let from : low ≤ digits_value 10 text = search rules in
    let to : digits_value 10 text ≤ high = search rules in
    (from, to)

-- the number of an option, or a default that is in the range too
number_ranges : (default low high : ℕ) (o : Option (List ℕ)) → low ≤ default → default ≤ high → IfSome o (λ text. is_number_in low high text ≡ true)
    → (low ≤ option_map_or (λ text. digits_value 10 text) o default) × (option_map_or (λ text. digits_value 10 text) o default ≤ high)
number_ranges default low high None p q h = (p, q)
number_ranges default low high (Some text) p q h = number_within low high text h

most : (default low high : ℕ) (o : Option (List ℕ)) → default ≤ high → IfSome o (λ text. is_number_in low high text ≡ true) → option_map_or (λ text. digits_value 10 text) o default ≤ high
most default low high None q h = q
most default low high (Some text) q h = (number_within low high text h).1

hold_ranges : (o : Option (List ℕ)) → IfSome o (λ text. is_number_in 0 9007199254740991 text ≡ true)
    → IfSome (option_map (λ _. option_map_or (λ text. digits_value 10 text) o 0) o) (λ hold. hold < 2 ^ 53)
hold_ranges None h = tt
hold_ranges (Some text) h = omega (arith, (number_within 0 9007199254740991 text h).1)

pub sc_range : (options : Options) → AreWithin options → sc_of options ≤ 999999999
sc_range options h = most 0 1 999999999 (options opt.Sc) (omega arith) (h opt.Sc)

pub settings_ranges : (options : Options) → AreWithin options → AreSettings (settings_of options)
settings_ranges options h =
    let tolerance = number_ranges 1000000 1 60000000000 (options opt.TolNs) (omega arith) (omega arith) (h opt.TolNs) in
    let rate_decimals = number_ranges 12 1 15 (options opt.RateDecimals) (omega arith) (omega arith) (h opt.RateDecimals) in
    let band = number_ranges 1000 1 100000 (options opt.BandPpm) (omega arith) (omega arith) (h opt.BandPpm) in
    let slip = number_ranges 1000000 0 60000000000 (options opt.SlipNs) (omega arith) (omega arith) (h opt.SlipNs) in
    record {
      tolerance_from = omega (arith, ints, tolerance.0);
      tolerance_to = omega (arith, ints, tolerance.1);
      rate_decimals_from = rate_decimals.0;
      rate_decimals_to = rate_decimals.1;
      band_from = band.0;
      band_to = band.1;
      slip_from = omega (arith, ints);
      slip_to = omega (arith, ints, slip.1);
      hold = hold_ranges (options opt.Hold) (h opt.Hold);
      reject = most 0 0 100000 (options opt.Reject) (omega arith) (h opt.Reject);
    }

-- ---- the kernel ID

date_of : (o : Option (List ℕ)) → IfSome o (λ text. is_in_range opt.Id text ≡ true) → IfSome (option_map (λ text. codes "@" ++ text) o) IsDate
date_of None h = tt
date_of (Some text) h = id_date text h

pub dated_range : (options : Options) → AreWithin options → IfSome (dated options) IsDate
dated_range options h = date_of (options opt.Id) (h opt.Id)
