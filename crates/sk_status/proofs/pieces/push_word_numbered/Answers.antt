use Rattle.std.proofs.Common.{◌≡◌, [], ◌∷◌, ◌++◌}
use Rattle.std.specs.Prelude.{codes, decimal}
use Rattle.sk_status.proofs.Behind.{both}
use Rattle.sk_status.proofs.pieces.push_word_numbered.Goals as goal

pub returns-clause-words : goal.returns-clause-words
returns-clause-words c = both c.args.line.now c.push_word.new.line c.push_numbered.new.line (c.args.a.now ∷ []) (c.args.b.now ∷ decimal c.args.number ∷ []) c.push_word.ensures.words c.push_numbered.ensures.words
