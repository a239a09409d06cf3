-- The options that a command needs are given.
use Rattle.std.proofs.Common.{◌≡◌, List, ℕ, Option, None, Ok, false, sym, subst}
use Rattle.std.specs.Prelude.{is_none}
use Rattle.sk_words.specs.declared.tables.Command.{Command}
use Rattle.sk_words.specs.declared.tables.Command.TheVariants.{Publish, Residuals, Normal, Convert, Sample, Invert, Audit, Excerpt, Least, Plot}
use Rattle.sk_words.specs.declared.tables.OptionName.TheVariants as opt
use Rattle.sk_words.specs.Words.{matches}
use Rattle.sk_words.specs.Request.{Options, options_of, options_fault, first_missing, first_out_of_range, needs, used}
use Rattle.sk_words.specs.Asked.{Request, WordsAsk, AsksFor}
use Rattle.sk_words.proofs.Numbers.{none_found, no_fault, asked_fault}

abbrev IsGiven : Option (List ℕ) → Type 0
IsGiven text = is_none text ≡ false

-- the files that a command needs are named
abbrev pub AreNamed : Command → Options → Type 0
AreNamed Publish options = IsGiven (options opt.Kernel) × IsGiven (options opt.Obs)
AreNamed Residuals options = IsGiven (options opt.Kernel) × IsGiven (options opt.Obs)
AreNamed Normal options = IsGiven (options opt.Kernel)
AreNamed Convert options = IsGiven (options opt.Kernel)
AreNamed Sample options = Unit {0}
AreNamed Invert options = IsGiven (options opt.Kernel)
AreNamed Audit options = IsGiven (options opt.Kernel) × IsGiven (options opt.Obs) × IsGiven (options opt.New)
AreNamed Excerpt options = IsGiven (options opt.Kernel)
AreNamed Least options = IsGiven (options opt.Kernel) × IsGiven (options opt.Obs)
AreNamed Plot options = IsGiven (options opt.Kernel) × IsGiven (options opt.Obs)

named : (command : Command) (options : Options) → options_fault command options ≡ None → AreNamed command (used command options)
named Publish options h =
    let given = none_found (λ name. is_none (options name)) (needs Publish) (no_fault (first_missing Publish options) (first_out_of_range options) h).0 in
    (given.0, given.1.0)
named Residuals options h =
    let given = none_found (λ name. is_none (options name)) (needs Residuals) (no_fault (first_missing Residuals options) (first_out_of_range options) h).0 in
    (given.0, given.1.0)
named Normal options h = (none_found (λ name. is_none (options name)) (needs Normal) (no_fault (first_missing Normal options) (first_out_of_range options) h).0).0
named Convert options h = (none_found (λ name. is_none (options name)) (needs Convert) (no_fault (first_missing Convert options) (first_out_of_range options) h).0).0
named Sample options h = tt
named Invert options h = (none_found (λ name. is_none (options name)) (needs Invert) (no_fault (first_missing Invert options) (first_out_of_range options) h).0).0
named Audit options h =
    let given = none_found (λ name. is_none (options name)) (needs Audit) (no_fault (first_missing Audit options) (first_out_of_range options) h).0 in
    (given.0, given.1.0, given.1.1.1.0)
named Excerpt options h = (none_found (λ name. is_none (options name)) (needs Excerpt) (no_fault (first_missing Excerpt options) (first_out_of_range options) h).0).0
named Least options h =
    let given = none_found (λ name. is_none (options name)) (needs Least) (no_fault (first_missing Least options) (first_out_of_range options) h).0 in
    (given.0, given.1.0)
named Plot options h =
    let given = none_found (λ name. is_none (options name)) (needs Plot) (no_fault (first_missing Plot options) (first_out_of_range options) h).0 in
    (given.0, given.1.0)

pub are_named : (words : List (List ℕ)) (request : Request) → WordsAsk words (Ok request) → AreNamed request.command request.options
are_named words request h =
    let asked : AsksFor (matches words) request.command = record { none = h.1; is_command = h.2 } in
    subst (λ (options : Options). AreNamed request.command options) (sym h.3)
    (named request.command (options_of (matches words)) (asked_fault (matches words) request.command asked))
