-- A text that the words give is in the range of its option.
use Rattle.std.proofs.Common.{◌≡◌, ℕ, Bool, true, false, List, sym, ap, ◌∙◌, Option, Some, None}
use Rattle.std.specs.Prelude.{not, IfSome}
use Rattle.std.specs.Option.{option_map, option_map_or}
use Rattle.clap.specs.Words.{Row}
use Rattle.sk_words.specs.declared.tables.Command.{Command}
use Rattle.sk_words.specs.declared.tables.OptionName.{OptionName}
use Rattle.sk_words.specs.declared.tables.OptionName.TheVariants as opt
use Rattle.sk_words.specs.Request.{is_in_range, is_out_of_range, options_of, first_missing, first_out_of_range, all_options}
use Rattle.sk_words.specs.Asked.{AsksFor}
use Rattle.sk_words.proofs.Numbers.{Fails, none_found, no_fault, inside, asked_fault}

each_option : (p : OptionName → Bool) → Fails p all_options → (name : OptionName) → p name ≡ false
each_option p h opt.Leap = h.0
each_option p h opt.Kernel = h.1.0
each_option p h opt.Obs = h.1.1.0
each_option p h opt.Sc = h.1.1.1.0
each_option p h opt.TolNs = h.1.1.1.1.0
each_option p h opt.RateDecimals = h.1.1.1.1.1.0
each_option p h opt.BandPpm = h.1.1.1.1.1.1.0
each_option p h opt.SlipNs = h.1.1.1.1.1.1.1.0
each_option p h opt.Hold = h.1.1.1.1.1.1.1.1.0
each_option p h opt.Id = h.1.1.1.1.1.1.1.1.1.0
each_option p h opt.Clock = h.1.1.1.1.1.1.1.1.1.1.0
each_option p h opt.Seed = h.1.1.1.1.1.1.1.1.1.1.1.0
each_option p h opt.Count = h.1.1.1.1.1.1.1.1.1.1.1.1.0
each_option p h opt.Reject = h.1.1.1.1.1.1.1.1.1.1.1.1.1.0
each_option p h opt.Time = h.1.1.1.1.1.1.1.1.1.1.1.1.1.1.0
each_option p h opt.New = h.1.1.1.1.1.1.1.1.1.1.1.1.1.1.1.0
each_option p h opt.Over = h.1.1.1.1.1.1.1.1.1.1.1.1.1.1.1.1.0
each_option p h opt.From = h.1.1.1.1.1.1.1.1.1.1.1.1.1.1.1.1.1.0
each_option p h opt.To = h.1.1.1.1.1.1.1.1.1.1.1.1.1.1.1.1.1.1.0

pub given_within : (rows : List Row) (command : Command) → AsksFor rows command → (name : OptionName) (text : List ℕ) → options_of rows name ≡ Some text → is_in_range name text ≡ true
given_within rows command h name text e =
    let none = no_fault (first_missing command (options_of rows)) (first_out_of_range (options_of rows)) (asked_fault rows command h) in
    let fails = none_found (is_out_of_range (options_of rows)) all_options none.1 in
    inside (is_in_range name text) (sym (ap (λ (o : Option (List ℕ)). option_map_or (λ t. not (is_in_range name t)) o false) e) ∙ each_option (is_out_of_range (options_of rows)) fails name)

pub text_within : {X : Type 0} (rows : List Row) (command : Command) → AsksFor rows command → (name : OptionName) (o : Option X) (now : X → List ℕ) → option_map now o ≡ options_of rows name
    → IfSome o (λ x. is_in_range name (now x) ≡ true)
text_within rows command h name None now e = tt
text_within rows command h name (Some x) now e = given_within rows command h name (now x) (sym e)
