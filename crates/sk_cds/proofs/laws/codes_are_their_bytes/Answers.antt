use Rattle.sk_cds.proofs.CodeLemmas.{one_bytes, one_code, taken}
use Rattle.sk_cds.proofs.laws.codes_are_their_bytes.Goals as goal

pub returns : goal.returns
returns c = record { bytes = one_bytes; code = one_code; taken = taken }
