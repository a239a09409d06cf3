use Rattle.sk_decimal.proofs.Values.{ten_pos}
use Rattle.sk_decimal.proofs.printing.print.Goals as goal

pub divided-whole-requires : goal.divided-whole-requires
divided-whole-requires c = rw c.pow.ensures (ten_pos c.args.places)
