use Rattle.std.proofs.Common.{rules}
use Rattle.sk_checks.specs.Checks.{Judges}
use Rattle.sk_cds.specs.Code.{SpellsCds, cds_checks}
use Rattle.sk_cds.proofs.CodeLemmas.{judged_read}
use Rattle.sk_cds.proofs.any.AnyCds.read.Goals as goal

pub returns-clause-read : goal.returns-clause-read
returns-clause-read c =
    let judged : Judges (cds_checks c.args.bytes.now) (SpellsCds c.args.bytes.now) c.read_field.result = search rules in
    judged_read c.args.bytes.now c.read_field.result judged
