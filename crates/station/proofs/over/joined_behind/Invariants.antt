use Rattle.std.proofs.Common.{◌≡◌, ◌∷◌, List, ℕ, map, take, Ok}
use Rattle.sk_edge.specs.Asked.{Asks}
use Rattle.sk_edge.specs.Causes.{NoneFalls}
use Rattle.sk_edge.specs.Transfer.{SameFiles}
use Rattle.sk_grammar.specs.Document.{DocView}
use Rattle.sk_excerpt.specs.Excerpt.{joined}
use Rattle.sk_outcome.specs.Seen.{seen_by}
use Rattle.sk_outcome.specs.Joined.{over_documents}
use Rattle.station.proofs.over.joined_behind.Given as goal

-- the files before this one are read, and joined
abbrev pub invariant-loop-index : goal.invariant-loop-index
invariant-loop-index g l =
    let depot = g.D.Depot in
    record {
      same_files : SameFiles (depot.holds l.fn.depot) (depot.holds l.depot);
      asks : Asks (depot.asked l.fn.depot) (depot.asked l.depot) (take l.index (map (λ n. n.now) l.names));
      counts : NoneFalls (depot.faults l.fn.depot) (depot.faults l.depot);
      read : (docs : List DocView)
          × over_documents (seen_by depot.holds depot.given depot.faults l.fn.depot l.depot) 1 (take l.index (map (λ n. n.now) l.names)) (Ok docs)
          × (l.doc ≡ joined (l.fn.first ∷ docs));
    }
