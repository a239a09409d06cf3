use Rattle.std.proofs.Common.{◌≡◌, ◌+◌, ℕ, Some, List, arith, subst, sym, inl, inr, rules}
use Rattle.csv.specs.Records.{fields_of}
use Rattle.sk_clock.specs.Clock.{total}
use Rattle.sk_publishing.specs.Row.{RowView}
use Rattle.sk_obs.specs.File.{records_of, clock_of}
use Rattle.sk_obs.specs.Reading.{rows_left}
use Rattle.sk_obs.proofs.Files.{HasPassed, all_passed, own_refused, order_refused, passed_one}
use Rattle.sk_obs.proofs.Laws.{IsClockWord-within}
use Rattle.sk_obs.proofs.Progress.{HasRows, IsAbove, one_more}
use Rattle.sk_obs.proofs.file.read_observations.Goals as goal

pub returns-then-not-found-clause-answer : goal.returns-then-not-found-clause-answer
returns-then-not-found-clause-answer c =
    all_passed c.args.clock.now c.args.leap.now (records_of c.args.bytes.now) c.loop-number.number c.loop-number.before (rows_left c.loop-number.reader) c.loop-number.list
    c.loop-number.invariant.passed (rw c.if-not-found.true at c.in-Ok-next_row.ensures)

pub returns-in-Err-read_record-clause-answer : goal.returns-in-Err-read_record-clause-answer
returns-in-Err-read_record-clause-answer c = elim c.in-Err-read_record.ensures.answer [
  | inl memory ↦ inl memory
  | inr refused ↦ inr (own_refused c.args.clock.now c.args.leap.now (records_of c.args.bytes.now) c.loop-number.number c.loop-number.before (rows_left c.loop-number.reader) (rows_left c.next_row.new.reader) (fields_of c.next_row.new.row) c.loop-number.list c.in-Err-read_record.fault
      c.loop-number.invariant.passed (rw c.if-not-found.false at c.in-Ok-next_row.ensures).1 refused)
]

pub returns-then-not-follows-clause-answer : goal.returns-then-not-follows-clause-answer
returns-then-not-follows-clause-answer c =
    let o = c.in-Ok-read_record.observation in
    let same : c.observation.inside.tick ≡ o.tick = search rules in
    let low : ¬ IsAbove c.loop-number.before c.observation.inside.tick = λ high. let yes = c.follows.ensures.1 high in cc in
    inr (order_refused c.args.clock.now c.args.leap.now (records_of c.args.bytes.now) c.loop-number.number c.loop-number.before (rows_left c.loop-number.reader) (rows_left c.next_row.new.reader) (fields_of c.next_row.new.row) c.loop-number.list o.tick
    c.loop-number.invariant.passed (rw c.if-not-found.false at c.in-Ok-next_row.ensures).1 c.in-Ok-read_record.ensures.answer.0 c.in-Ok-read_record.ensures.answer.1.tick
    (subst (λ (tick : ℕ). ¬ IsAbove c.loop-number.before tick) same low))

pub loop-number-preserved : goal.loop-number-preserved
loop-number-preserved c =
    let o = c.in-Ok-read_record.observation in
    let is = c.in-Ok-read_record.ensures.answer in
    let same : c.observation.inside.tick ≡ o.tick = search rules in
    let high : IsAbove c.loop-number.before o.tick = subst (λ (tick : ℕ). IsAbove c.loop-number.before tick) same (c.follows.ensures.0 c.if-not-follows.false) in
    let next = rw c.if-not-found.false at c.in-Ok-next_row.ensures in
    let within = IsClockWord-within c.args.clock.now (clock_of (fields_of c.next_row.new.row)) o.tick is.1.tick in
    let rows = one_more (total c.args.clock.now) c.loop-number.before c.loop-number.list o c.loop-number.invariant.rows high within c.in-Ok-read_record.ensures.time in
    let passed = passed_one c.args.clock.now c.args.leap.now (records_of c.args.bytes.now) c.loop-number.number c.loop-number.before (rows_left c.loop-number.reader) (rows_left c.next_row.new.reader) (fields_of c.next_row.new.row) c.loop-number.list o
    c.loop-number.invariant.passed next.1 is.0 is.1 high in
    record {
      reading = next.0;
      rows = subst (λ (tick : ℕ). HasRows (total c.args.clock.now) (Some tick) c.push.new.self) (sym same)
          (subst (λ (list : List RowView). HasRows (total c.args.clock.now) (Some o.tick) list) (sym c.in-Ok-push.ensures.ok) rows);
      few = omega (arith, c.loop-number.invariant.few, is.0.1);
      passed = subst (λ (tick : ℕ). HasPassed c.args.clock.now c.args.leap.now (records_of c.args.bytes.now) (c.loop-number.number + 1) (Some tick) (rows_left c.next_row.new.reader) c.push.new.self) (sym same)
          (subst (λ (list : List RowView). HasPassed c.args.clock.now c.args.leap.now (records_of c.args.bytes.now) (c.loop-number.number + 1) (Some o.tick) (rows_left c.next_row.new.reader) list) (sym c.in-Ok-push.ensures.ok) passed);
    }
