use Rattle.sk_grammar.proofs.CanonicalLines.{canonical_spelled}
use Rattle.sk_grammar.proofs.laws.canonical_text_spells.Goals as goal

pub returns : goal.returns
returns c = canonical_spelled
