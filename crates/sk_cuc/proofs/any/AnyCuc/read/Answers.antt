use Rattle.std.proofs.Common.{rules}
use Rattle.sk_checks.specs.Checks.{Judges}
use Rattle.sk_cuc.specs.Code.{SpellsCuc, cuc_checks}
use Rattle.sk_cuc.proofs.CodeLemmas.{judged_read}
use Rattle.sk_cuc.proofs.any.AnyCuc.read.Goals as goal

pub returns-clause-read : goal.returns-clause-read
returns-clause-read c =
    let judged : Judges (cuc_checks c.args.bytes.now) (SpellsCuc c.args.bytes.now) c.read_field.result = search rules in
    judged_read c.args.bytes.now c.read_field.result judged
