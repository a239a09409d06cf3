use Rattle.sk_leap.proofs.Turns.{entry_begins, none_begins}
use Rattle.sk_leap.proofs.Pairs.{ReadsTo}
use Rattle.sk_leap.proofs.entries.are_entries.Goals as goal
