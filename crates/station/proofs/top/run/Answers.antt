use Rattle.std.proofs.Common.{map, refl}
use Rattle.std.specs.Prelude.{string_bytes}
use Rattle.sk_status.specs.Written.{Written, written_by}
use Rattle.sk_outcome.specs.Seen.{Source, seen_by}
use Rattle.sk_headline.proofs.Complete.{completed}
use Rattle.sk_headline.proofs.Published.{headline}
use Rattle.sk_headline.proofs.Exactly.{exactly}
use Rattle.sk_headline.proofs.Accepted.{audit_done, audit_ends}
use Rattle.station.proofs.top.run.Goals as goal

pub returns-clause-complete : goal.returns-clause-complete
returns-clause-complete g c = λ request ended asked calm quiet known comes.
    let depot = g.D.Depot in
    let sink = g.S.Sink in
    let source : Source = seen_by depot.holds depot.given depot.faults c.args.depot.now c.ended-status.new.depot in
    let silent : Source = record { holds = source.holds; given = source.given; rose = λ name. ⊥ } in
    let out : Written = written_by sink.written sink.faults c.args.out.now c.ended-status.new.out in
    completed (map string_bytes c.args.words.now) request source silent out c.ended-status.result ended
    (record { holds = λ name. refl; rose = λ name r. absurd r; given = refl })
    calm quiet asked known c.ended-status.ensures.ends comes

pub returns-clause-headline : goal.returns-clause-headline
returns-clause-headline g c = λ request leap_bytes kernel_bytes observation_bytes asked command done held.
    let depot = g.D.Depot in
    let sink = g.S.Sink in
    let source : Source = seen_by depot.holds depot.given depot.faults c.args.depot.now c.ended-status.new.depot in
    let out : Written = written_by sink.written sink.faults c.args.out.now c.ended-status.new.out in
    headline (map string_bytes c.args.words.now) request source out c.ended-status.result leap_bytes kernel_bytes observation_bytes c.ended-status.ensures.ends asked command done held

pub returns-clause-exactly : goal.returns-clause-exactly
returns-clause-exactly g c = λ request leap_bytes kernel_bytes observation_bytes bytes asked command calm quiet held published.
    let depot = g.D.Depot in
    let sink = g.S.Sink in
    let source : Source = seen_by depot.holds depot.given depot.faults c.args.depot.now c.ended-status.new.depot in
    let out : Written = written_by sink.written sink.faults c.args.out.now c.ended-status.new.out in
    exactly (map string_bytes c.args.words.now) request source out leap_bytes kernel_bytes observation_bytes bytes asked command calm quiet held published
    c.ended-status.result c.ended-status.ensures.ends

pub returns-clause-accepted : goal.returns-clause-accepted
returns-clause-accepted g c = λ request leap_bytes kernel_bytes observation_bytes bytes asked command done held.
    let depot = g.D.Depot in
    let sink = g.S.Sink in
    let source : Source = seen_by depot.holds depot.given depot.faults c.args.depot.now c.ended-status.new.depot in
    let out : Written = written_by sink.written sink.faults c.args.out.now c.ended-status.new.out in
    audit_done (map string_bytes c.args.words.now) request source asked command leap_bytes kernel_bytes observation_bytes bytes held out c.ended-status.result c.ended-status.ensures.ends done

pub returns-clause-accepts : goal.returns-clause-accepts
returns-clause-accepts g c = λ request leap_bytes kernel_bytes observation_bytes bytes asked command calm quiet held published.
    let depot = g.D.Depot in
    let sink = g.S.Sink in
    let source : Source = seen_by depot.holds depot.given depot.faults c.args.depot.now c.ended-status.new.depot in
    let out : Written = written_by sink.written sink.faults c.args.out.now c.ended-status.new.out in
    audit_ends (map string_bytes c.args.words.now) request source asked command leap_bytes kernel_bytes observation_bytes bytes held out calm quiet published
    c.ended-status.result c.ended-status.ensures.ends
