-- Names that are kept as long as there is memory for them.
use Rattle.std.specs.Prelude.{ℕ, List, map, Option, Some, None, if◌then◌else◌, string_bytes}
use Rattle.sk_edge.specs.declared.names.Names.{Names}

-- the names, where all of them are kept
abbrev pub told : Names → Option (List (List ℕ))
told n = if n.are_whole then Some (map string_bytes n.names.items) else None
