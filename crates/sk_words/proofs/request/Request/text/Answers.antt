use Rattle.sk_words.specs.Asked.{rows_in}
use Rattle.sk_words.proofs.Within.{text_within}
use Rattle.sk_words.proofs.request.Request.text.Goals as goal

pub returns-then-uses_option-clause-range : goal.returns-then-uses_option-clause-range
returns-then-uses_option-clause-range c =
    text_within (rows_in c.self.inside.matches) c.self.inside.command c.self.invariant c.args.name c.text_of.result (λ s. s.now) c.text_of.ensures
