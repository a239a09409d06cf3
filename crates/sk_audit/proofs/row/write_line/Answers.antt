use Rattle.std.proofs.Common.{◌+◌, rules, decimal}
use Rattle.std.specs.Prelude.{◌-ℤ◌}
use Rattle.sk_decimal.specs.Fixed.{fixed_text}
use Rattle.sk_audit.proofs.Joined.{three_parts}
use Rattle.sk_audit.proofs.row.write_line.Goals as goal

pub returns : goal.returns
returns c =
    let row = c.args.observation.now in
    three_parts c.clear.new.self.items c.print_reading.new.out.items c.print_times.new.out.items c.print_marks.new.out.items
    row.id c.args.text.now (fixed_text 12 row.time) (fixed_text 12 c.args.timed.time.units) (fixed_text 0 (row.time -ℤ c.args.timed.time.units)) (decimal (c.args.timed.place + 1)) c.args.kind.now c.args.ended.now
    (search rules) (search rules) (search rules) (search rules)
