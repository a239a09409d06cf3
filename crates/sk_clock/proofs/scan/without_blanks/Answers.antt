use Rattle.std.proofs.Common.{arith}
use Rattle.std.proofs.lemmas.List.Sums.{prefix_len-le-length}
use Rattle.sk_clock.specs.Scan.{is_blank}
use Rattle.sk_clock.proofs.scan.without_blanks.Goals as goal

pub split_at-requires : goal.split_at-requires
split_at-requires c = omega (arith, c.blank_count-count.ensures, prefix_len-le-length is_blank c.args.bytes.now)
