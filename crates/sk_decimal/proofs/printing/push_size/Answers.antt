use Rattle.sk_decimal.proofs.Values.{ten_pos}
use Rattle.sk_decimal.proofs.printing.push_size.Goals as goal

pub nonzero_div-size : goal.nonzero_div-size
nonzero_div-size c = rw c.power_of_ten-scale.ensures (ten_pos c.args.places)

pub nonzero_rem-size : goal.nonzero_rem-size
nonzero_rem-size c = rw c.power_of_ten-scale.ensures (ten_pos c.args.places)
