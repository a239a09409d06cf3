use Rattle.sk_cuc.proofs.CodeLemmas.{one_field, field_numbers}
use Rattle.sk_cuc.proofs.laws.fields_are_their_bytes.Goals as goal

pub returns : goal.returns
returns c = record { bytes = one_field; numbers = field_numbers }
