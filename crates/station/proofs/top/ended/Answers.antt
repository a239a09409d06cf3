use Rattle.std.proofs.Common.{ℕ, List, map, refl, subst, Vec, Global}
use Rattle.std.specs.Prelude.{string_bytes}
use Rattle.sk_status.specs.Written.{Written, written_by}
use Rattle.sk_outcome.specs.Seen.{seen_by}
use Rattle.sk_outcome.specs.Stage.{Stage, gives}
use Rattle.sk_outcome.specs.Ending.{Ends}
use Rattle.sk_outcome.specs.Outcome.{outcome}
use Rattle.station.proofs.Endings.{ends_refused, ends_text, no_memory_carried}
use Rattle.station.proofs.top.ended.Goals as goal

pub returns-in-Err-clause-ends : goal.returns-in-Err-clause-ends
returns-in-Err-clause-ends g c =
    ends_refused (λ (v : Vec ℕ Global). v.items) (map string_bytes c.args.words.now)
    (seen_by g.D.Depot.holds g.D.Depot.given g.D.Depot.faults c.args.depot.now c.whole_text.new.depot)
    (written_by g.S.Sink.written g.S.Sink.faults c.args.out.now c.args.out.now)
    c.in-Err.status c.in-Err.ensures.stage refl

pub returns-in-Err-clause-apart : goal.returns-in-Err-clause-apart
returns-in-Err-clause-apart g c =
    no_memory_carried (λ (v : Vec ℕ Global). v.items) (map string_bytes c.args.words.now)
    (seen_by g.D.Depot.holds g.D.Depot.given g.D.Depot.faults c.args.depot.now c.whole_text.new.depot)
    c.in-Err.status c.in-Err.ensures.stage

pub returns-in-Ok-clause-ends : goal.returns-in-Ok-clause-ends
returns-in-Ok-clause-ends g c =
    let out : Written = written_by g.S.Sink.written g.S.Sink.faults c.args.out.now c.write_text.new.out in
    let stage : Stage (List ℕ) = outcome (map string_bytes c.args.words.now) (seen_by g.D.Depot.holds g.D.Depot.given g.D.Depot.faults c.args.depot.now c.whole_text.new.depot) in
    ends_text stage c.in-Ok.text.items out c.write_text.result c.in-Ok.ensures.stage
    (subst (λ (text : List ℕ). Ends (gives text) out c.write_text.result) c.as_slice.ensures.value c.write_text.ensures.ends)
