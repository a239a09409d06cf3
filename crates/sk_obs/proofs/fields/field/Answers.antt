use Rattle.std.proofs.Common.{refl}
use Rattle.csv.specs.Records.{fields_of}
use Rattle.sk_obs.proofs.FieldLemmas.{found-field}
use Rattle.sk_obs.proofs.fields.field.Goals as goal

pub returns : goal.returns
returns c = found-field (fields_of c.args.row.now) c.args.place c.get.result _ c.unwrap_or.result c.get.ensures.value refl c.unwrap_or.ensures
