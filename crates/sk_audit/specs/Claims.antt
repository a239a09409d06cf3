-- The triples of what is told.
use Rattle.sk_line.specs.Triple.{TripleView}
use Rattle.sk_audit.specs.declared.told.Told.{Told}
use Rattle.sk_audit.specs.Given.{anchor_of}

-- the triple that a segment begins
abbrev pub triple_of : Told → TripleView
triple_of s = record { anchor = anchor_of s.anchor; rate = s.rate.units }
