-- Several kernels, joined to one document.
use Rattle.std.specs.Prelude.{ℕ, ◌+◌, List, [], ◌∷◌}
use Rattle.std.specs.Option.{option_map_or}
use Rattle.sk_grammar.specs.Document.{DocView}
use Rattle.sk_excerpt.specs.Excerpt.{joined}
use Rattle.sk_status.specs.declared.status.DocumentKind.TheVariants.{Over}
use Rattle.sk_words.specs.declared.tables.OptionName.TheVariants as opt
use Rattle.sk_words.specs.Request.{Options, over_names}
use Rattle.sk_outcome.specs.Stage.{Stage, ◌>>=◌, gives}
use Rattle.sk_outcome.specs.Seen.{Source}
use Rattle.sk_outcome.specs.Files.{document, kernel_document}

-- the documents of these files, which have this place among those of `--over` and the next ones
abbrev pub over_documents : Source → ℕ → List (List ℕ) → Stage (List DocView)
over_documents source place [] = gives []
over_documents source place (name ∷ names) = do
  doc ← document source (Over place) name
  docs ← over_documents source (place + 1) names
  gives (doc ∷ docs)

-- a document with those of the files of `--over` behind it
abbrev pub joined_behind : Source → DocView → List (List ℕ) → Stage DocView
joined_behind source first names = do
  docs ← over_documents source 1 names
  gives (joined (first ∷ docs))

-- the files of `--over`, in order
abbrev pub named_over : Options → List (List ℕ)
named_over options = option_map_or over_names (options opt.Over) []

-- the clock kernel with those of `--over` behind it
abbrev pub joined_kernel : Source → Options → Stage DocView
joined_kernel source options = do
  first ← kernel_document source options
  joined_behind source first (named_over options)
