-- What follows the observations in a publication.
use Rattle.std.specs.Prelude.{ℕ, List}
use Rattle.sk_grammar.specs.Canonical.{canonical_text}
use Rattle.sk_publishing.specs.Row.{RowView}
use Rattle.sk_fit.specs.declared.chain.Chain.{Chain}
use Rattle.sk_words.specs.Request.{Options}
use Rattle.sk_outcome.specs.Stage.{Stage, ◌>>=◌, gives}
use Rattle.sk_outcome.specs.Files.{KernelRead}
use Rattle.sk_outcome.specs.Output.{new_kernel, published_doc}
use Rattle.sk_outcome.specs.Outcome.{all_covered, chain_of}

-- each observation has a time by the new kernel, and then the kernel's text is written
abbrev pub after_chain : Options → KernelRead → List RowView → Chain → Stage (List ℕ)
after_chain options kernel rows chain = do
  covers ← all_covered (new_kernel kernel chain) rows
  gives (canonical_text (published_doc options kernel rows chain))

-- the chain of the observations, and what follows it
abbrev pub after_rows : Options → KernelRead → List RowView → Stage (List ℕ)
after_rows options kernel rows = do
  chain ← chain_of options kernel rows
  after_chain options kernel rows chain
