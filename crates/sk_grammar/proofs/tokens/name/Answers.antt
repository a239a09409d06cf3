use Rattle.std.proofs.Common.{arith}
use Rattle.std.proofs.lemmas.List.Sums.{prefix_len-le-length}
use Rattle.sk_grammar.specs.Document.{is_name_byte}
use Rattle.sk_grammar.proofs.tokens.name.Goals as goal

pub split_at-requires : goal.split_at-requires
split_at-requires c = omega (arith, c.name_count-count.ensures, prefix_len-le-length is_name_byte c.args.bytes.now)
