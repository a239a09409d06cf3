use Rattle.std.proofs.Common.{sym, ◌∙◌}
use Rattle.sk_octets.proofs.OctetLemmas.{SpellsNumber-one, SpellsNumber-below}
use Rattle.sk_octets.proofs.number.one_spelling.Goals as goal

pub returns : goal.returns
returns c = record {
  octets = SpellsNumber-one;
  number = λ count m n octets s t. sym s.value ∙ t.value;
  below = SpellsNumber-below;
}
