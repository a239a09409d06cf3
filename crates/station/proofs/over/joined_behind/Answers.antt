use Rattle.std.proofs.Common.{◌≡◌, ℕ, ◌+◌, ◌++◌, List, [], ◌∷◌, map, take, refl, ◌∙◌, ap, arith, Err, Bor}
use Rattle.sk_grammar.specs.Document.{DocView}
use Rattle.sk_excerpt.specs.Excerpt.{joined}
use Rattle.sk_excerpt.proofs.Law.{join_law}
use Rattle.sk_status.specs.declared.status.Status.{Status}
use Rattle.sk_outcome.specs.Seen.{Stays}
use Rattle.sk_edge.proofs.Asking.{Asks-none}
use Rattle.station.proofs.AskedFiles.{asks_more, part_take}
use Rattle.station.proofs.Joined.{one_more, one_ended, joined_none}
use Rattle.sk_outcome.proofs.Moves.{handed_on}
use Rattle.station.proofs.over.joined_behind.Goals as goal

pub loop-index-init : goal.loop-index-init
loop-index-init g c = record {
  same_files = λ name. refl;
  asks = Asks-none (g.D.Depot.asked c.args.depot.now);
  counts = λ name. omega arith;
  read = ([], refl, joined_none c.args.first);
}

pub returns-in_err-later-clause-stage : goal.returns-in_err-later-clause-stage
returns-in_err-later-clause-stage g c =
    let depot = g.D.Depot in
    let status : Status = c.in_err-later.field-0.0 in
    let is : c.document.result ≡ Err status = c.in_err-later.was in
    let read = c.loop-index.invariant.read in
    let stays : Stays depot.holds depot.faults c.args.depot.now c.loop-index.depot = (c.loop-index.invariant.same_files, c.loop-index.invariant.counts) in
    one_ended depot.holds depot.given depot.faults c.args.names.now c.args.depot.now c.loop-index.depot c.document.new.depot c.loop-index.index _ read.0 c.args.first
    status c.document.result c.from_residual.result c.loop-index-test.true stays read.1 is (handed_on c.from_residual.result status c.from_residual.ensures.1) c.document.ensures.stage

pub loop-index-preserved : goal.loop-index-preserved
loop-index-preserved g c =
    let depot = g.D.Depot in
    let read = c.loop-index.invariant.read in
    let later : DocView = c.in_ok-later.later in
    let stays : Stays depot.holds depot.faults c.args.depot.now c.loop-index.depot = (c.loop-index.invariant.same_files, c.loop-index.invariant.counts) in
    record {
      asks = asks_more _ _ _ c.args.names.now c.loop-index.index _ c.loop-index-test.true c.loop-index.invariant.asks c.document.ensures.asks;
      same_files = λ name. c.document.ensures.stays.0 name ∙ c.loop-index.invariant.same_files name;
      counts = λ name. omega (arith, c.loop-index.invariant.counts name, c.document.ensures.stays.1 name);
      read = (
        read.0 ++ later ∷ [],
        one_more depot.holds depot.given depot.faults c.args.names.now c.args.depot.now c.loop-index.depot c.document.new.depot c.loop-index.index _ read.0 later
            c.loop-index-test.true stays read.1 c.in_ok-later.ensures.stage,
        c.in-Ok.ensures ∙ ap (λ (doc : DocView). joined (doc ∷ later ∷ [])) read.2 ∙ join_law c.args.first later read.0,
      );
    }

pub returns-in_err-later-clause-asks : goal.returns-in_err-later-clause-asks
returns-in_err-later-clause-asks g c =
    let names : List (List ℕ) = map (λ (n : Bor (List ℕ)). n.now) c.args.names.now in (
      take (c.loop-index.index + 1) names,
      asks_more _ _ _ c.args.names.now c.loop-index.index _ c.loop-index-test.true c.loop-index.invariant.asks c.document.ensures.asks,
      part_take (c.loop-index.index + 1) names,
    )

pub returns-in_default-clause-asks : goal.returns-in_default-clause-asks
returns-in_default-clause-asks g c =
    let names : List (List ℕ) = map (λ (n : Bor (List ℕ)). n.now) c.args.names.now in (
      take (c.loop-index.index + 1) names,
      asks_more _ _ _ c.args.names.now c.loop-index.index _ c.loop-index-test.true c.loop-index.invariant.asks c.document.ensures.asks,
      part_take (c.loop-index.index + 1) names,
    )

pub returns-clause-asks : goal.returns-clause-asks
returns-clause-asks g c =
    let names : List (List ℕ) = map (λ (n : Bor (List ℕ)). n.now) c.args.names.now in
    (take c.loop-index.index names, c.loop-index.invariant.asks, part_take c.loop-index.index names)
