use Rattle.std.proofs.Common.{◌≡◌, [], ◌∷◌, ◌++◌}
use Rattle.std.specs.Prelude.{codes, decimal}
use Rattle.sk_status.proofs.Behind.{both}
use Rattle.sk_status.proofs.pieces.push_numbered_word.Goals as goal

pub returns-clause-words : goal.returns-clause-words
returns-clause-words c = both c.args.line.now c.push_numbered.new.line c.push_word.new.line (c.args.a.now ∷ decimal c.args.number ∷ []) (c.args.b.now ∷ []) c.push_numbered.ensures.words c.push_word.ensures.words
