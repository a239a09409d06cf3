use Rattle.std.proofs.Common.{◌≡◌, [], ◌∷◌, ◌++◌}
use Rattle.std.specs.Prelude.{decimal}
use Rattle.sk_status.specs.Notes.{text_words}
use Rattle.sk_status.proofs.Behind.{both}
use Rattle.sk_status.proofs.note.push_over.Goals as goal

pub returns-clause-words : goal.returns-clause-words
returns-clause-words c = both c.args.line.now c.push_number.new.line c.push_text_stop.new.line (decimal c.args.place ∷ []) (text_words c.args.stop) c.push_number.ensures.words c.push_text_stop.ensures.words
