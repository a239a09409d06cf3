use Rattle.sk_grammar.proofs.HeldValues.{is_held}
use Rattle.sk_grammar.proofs.reading.add_value.Goals as goal

pub add-requires : goal.add-requires
add-requires c = is_held c.args.bytes.now c.in-Ok.value c.in-Ok.ensures
