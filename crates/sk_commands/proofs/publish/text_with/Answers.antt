use Rattle.std.proofs.Common.{◌++◌, ℕ, List, Option, None, Some, Bor, codes}
use Rattle.std.specs.Prelude.{IsTrue, IfSome}
use Rattle.sk_grammar.specs.Document.{IsDate}
use Rattle.sk_words.specs.declared.tables.OptionName.TheVariants as opt
use Rattle.sk_words.specs.Request.{is_in_range}
use Rattle.sk_outcome.proofs.Additions.{id_date}
use Rattle.sk_commands.proofs.publish.text_with.Goals as goal

given : (id : Option (Bor (List ℕ))) → IfSome id (λ text. IsTrue (is_in_range opt.Id text.now)) → IfSome id (λ text. IsDate (codes "@" ++ text.now))
given None h = tt
given (Some text) h = id_date text.now h

pub published_doc-requires-clause-id : goal.published_doc-requires-clause-id
published_doc-requires-clause-id c = given c.text-id.result c.text-id.ensures.range
