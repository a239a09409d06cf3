use Rattle.std.proofs.Common.{◌≡◌, Option, Some, None}
use Rattle.std.specs.Option.{option_map, option_map_or}
use Rattle.sk_words.specs.declared.tables.Command.{Command}
use Rattle.sk_words.specs.declared.tables.OptionName.{OptionName}
use Rattle.sk_words.specs.declared.fault.WordsFault.TheVariants.{NotTaken, NeedOption, OutOfRange}
use Rattle.sk_words.specs.Request.{Options, options_fault, options_of, first_missing, first_out_of_range}
use Rattle.sk_words.specs.Asked.{rows_in}
use Rattle.sk_words.proofs.request.requested.Goals as goal

never : (m o : Option OptionName) → option_map_or (λ name. Some (NeedOption name)) m (option_map (λ name. OutOfRange name) o) ≡ Some NotTaken → ⊥
never (Some name) o h = cc
never None (Some name) h = cc
never None None h = cc

never_not_taken : (command : Command) (options : Options) → options_fault command options ≡ Some NotTaken → ⊥
never_not_taken command options h = never (first_missing command options) (first_out_of_range options) h

pub returns-in-Some-options_fault-clause-not_taken : goal.returns-in-Some-options_fault-clause-not_taken
returns-in-Some-options_fault-clause-not_taken c = λ e.
    let same : c.in-Some-options_fault.fault ≡ NotTaken = cc in
    let is : options_fault c.in-Some.command (options_of (rows_in c.in-Ok.matches)) ≡ Some NotTaken = cc in
    absurd (never_not_taken c.in-Some.command (options_of (rows_in c.in-Ok.matches)) is)
