use Rattle.std.proofs.Common.{ℕ, List, ◌++◌, ap, ◌∙◌, append_assoc}
use Rattle.std.specs.Prelude.{codes}
use Rattle.sk_words.specs.declared.tables.OptionName.TheVariants.{Sc}
use Rattle.sk_advice.specs.Subjects.{text_of}
use Rattle.sk_advice.proofs.naming.push_spacecraft.Goals as goal

pub returns : goal.returns
returns c =
    c.in_ok-push_text-2.ensures
    ∙ ap (λ (l : List ℕ). c.push_text.new.line.items ++ l) c.text_or_empty.ensures
    ∙ ap (λ (l : List ℕ). l ++ text_of c.args.given.now Sc) c.in_ok-push_text.ensures
    ∙ append_assoc c.args.line.now.items (codes ", spacecraft ") (text_of c.args.given.now Sc)
