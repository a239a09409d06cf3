-- Which files a run asks for.
use Rattle.std.specs.Prelude.{◌⊎◌, ℕ, List, [], ◌∷◌, ◌++◌, Option, Ok}
use Rattle.std.specs.Option.{option_to_list}
use Rattle.sk_edge.specs.Asked.{Asks, AsksAmong}
use Rattle.sk_words.specs.declared.tables.Command.{Command}
use Rattle.sk_words.specs.declared.tables.Command.TheVariants.{Publish, Residuals, Normal, Convert, Sample, Invert, Audit, Excerpt, Least, Plot}
use Rattle.sk_words.specs.declared.tables.OptionName.TheVariants as opt
use Rattle.sk_words.specs.Asked.{Request}
use Rattle.sk_words.specs.Request.{Options, text_or, files_of}
use Rattle.sk_outcome.specs.Joined.{named_over}
use Rattle.sk_outcome.specs.Outcome.{requested}

-- the leap second kernel, where one is named, and the clock kernel
abbrev pub opened_names : Options → List (List ℕ)
opened_names options = option_to_list (options opt.Leap) ++ (text_or opt.Kernel options ∷ [])

-- and then the observations
abbrev pub inputs_names : Options → List (List ℕ)
inputs_names options = opened_names options ++ (text_or opt.Obs options ∷ [])

-- and then the kernel that is to be judged by them
abbrev pub audit_names : Options → List (List ℕ)
audit_names options = inputs_names options ++ (text_or opt.New options ∷ [])

-- the inputs, and then the second kernel, where one is named
abbrev pub plot_names : Options → List (List ℕ)
plot_names options = inputs_names options ++ option_to_list (options opt.New)

-- the clock kernel, and those of `--over`
abbrev pub joined_names : Options → List (List ℕ)
joined_names options = text_or opt.Kernel options ∷ named_over options

-- the files that a command reads, in the order in which it reads them
abbrev pub names_read : Command → Options → List (List ℕ)
names_read Publish options = inputs_names options
names_read Residuals options = inputs_names options
names_read Normal options = text_or opt.Kernel options ∷ []
names_read Convert options = opened_names options
names_read Sample options = []
names_read Invert options = opened_names options
names_read Audit options = audit_names options
names_read Excerpt options = joined_names options
names_read Least options = inputs_names options
names_read Plot options = plot_names options

-- no file is asked for but those of the command that the words ask for, each at most once, in the order of the options
abbrev pub AsksBy : Option (List (List ℕ)) → Option (List (List ℕ)) → List (List ℕ) → Type 0
AsksBy before after words = Asks before after [] ⊎ ((request : Request) × requested words (Ok request) × AsksAmong before after (files_of request.options))
