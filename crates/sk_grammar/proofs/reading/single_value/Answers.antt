use Rattle.sk_grammar.proofs.HeldValues.{is_held}
use Rattle.sk_grammar.proofs.reading.single_value.Goals as goal

pub closed_by-requires : goal.closed_by-requires
closed_by-requires c = is_held c.args.bytes.now c.in-Ok.value c.in-Ok.ensures
