use Rattle.std.proofs.Common.{arith}
use Rattle.sk_cds.proofs.CodeLemmas.{field_read, field_passes}
use Rattle.sk_cds.proofs.parts.parts.Goals as goal

pub returns-clause-judged : goal.returns-clause-judged
returns-clause-judged c =
    let bytes = c.args.bytes.now in
    let field = field_read bytes c.split_at.result.0.now c.split_at.result.1.now c.split_at-2.result.0.now c.split_at-2.result.1.now c.args.day_octets c.args.sub_octets
    c.short_number.result c.short_number-2.result c.short_number-sub.result c.if-bytes-day_octets.false c.split_at.ensures.front c.split_at.ensures.back c.split_at-2.ensures.front c.split_at-2.ensures.back
    c.short_number.ensures.spelled c.short_number-2.ensures.spelled c.short_number-sub.ensures.spelled (omega (arith, c.if-sub-limit_of.false, c.limit_of.ensures)) in
    (field_passes c.args.day_octets c.args.sub_octets c.short_number.result c.short_number-2.result c.short_number-sub.result bytes field, field)
