use Rattle.sk_cds.proofs.CodeLemmas.{one_field, field_numbers, field_passes}
use Rattle.sk_cds.proofs.laws.fields_are_their_bytes.Goals as goal

pub returns : goal.returns
returns c = record {
  bytes = one_field;
  numbers = λ width depth d m s e n t bytes p q. let same = field_numbers width depth d m s e n t bytes p q in (same.day, same.ms, same.sub);
  taken = field_passes;
}
