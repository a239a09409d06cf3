use Rattle.std.proofs.Common.{◌≡◌, [], ◌∷◌, ◌++◌}
use Rattle.std.specs.Prelude.{codes, decimal}
use Rattle.sk_status.specs.Notes.{clock_word_words}
use Rattle.sk_status.proofs.Behind.{both}
use Rattle.sk_status.proofs.words.push_clock_refused.Goals as goal

pub returns-clause-words : goal.returns-clause-words
returns-clause-words c = both c.args.line.now c.push_numbered_word.new.line c.push_clock_word.new.line (codes "Record" ∷ decimal c.args.number ∷ codes "ClockRefused" ∷ []) (clock_word_words c.args.fault) c.push_numbered_word.ensures.words c.push_clock_word.ensures.words
