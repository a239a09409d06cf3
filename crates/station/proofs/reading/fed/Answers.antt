use Rattle.std.proofs.Common.{rules, arith, ◌≡◌, ◌≤◌, length, List, ℕ, ◌++◌, take, length-append, length-take}
use Rattle.std.proofs.KnownBytes.{Consumes-trans}
use Rattle.std.proofs.lemmas.List.Sums.{count_by-le-length}
use Rattle.sk_edge.proofs.Asking.{Asks-kept}
use Rattle.sk_grammar.specs.Lines.{is_line_feed}
use Rattle.station.proofs.reading.fed.Goals as goal

pub loop-count-preserved : goal.loop-count-preserved
loop-count-preserved g c =
    let before = c.loop-count.invariant.read in
    let count : ℕ = c.in-Ok-read_piece.count in
    let front : List ℕ = take count c.read_piece.new.buf in
    let room : count ≤ length c.read_piece.new.buf = search rules in
    let long : length front ≡ count = omega (arith, room, length-take count c.read_piece.new.buf) in
    record {
      same_files = search rules;
      chosen = search rules;
      read = (
        before.0 ++ front,
        omega (arith, long, before.1, length-append before.0 front),
        Consumes-trans _ _ _ before.0 front before.2 c.in-Ok-read_piece.ensures.bytes,
        c.feed.ensures.read before.0 before.3,
      );
      given = search rules;
      within = search rules;
      lines = omega (arith, long, c.loop-count.invariant.lines, c.feed.ensures.count, count_by-le-length is_line_feed front);
      asks = Asks-kept _ _ _ _ c.loop-count.invariant.asks c.in-Ok-read_piece.ensures.asks;
      counts = search rules;
    }
