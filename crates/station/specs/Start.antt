-- What a run begins with: the words behind the program's name, or the status of a run that has none.
use Rattle.std.specs.Prelude.{◌≡◌, drop, Result, Ok, Err, String, Vec}
use Rattle.std.specs.IoError.{error_kind}
use Rattle.std.specs.Vec.Iter.{into_iter_items}
use Rattle.std.specs.declared.alloc.Global.{Global}
use Rattle.std.specs.declared.io.Error.{Error}
use Rattle.std.specs.declared.io.ErrorKind.{ErrorKind}
use Rattle.std.specs.declared.io.ErrorKind.TheVariants.{OutOfMemory}
use Rattle.std.specs.declared.vec.IntoIter.{IntoIter}
use Rattle.sk_status.specs.declared.status.Status.{Status}
use Rattle.sk_status.specs.declared.status.Status.TheVariants.{WordsRefused, NoMemory}
use Rattle.sk_words.specs.declared.fault.WordsFault.TheVariants.{NotTaken}

-- why there are no words: memory ran out, or one of them is not UTF-8
abbrev pub wordless : ErrorKind → Status
wordless OutOfMemory = NoMemory
wordless _ = WordsRefused NotTaken

-- The words of the process without the first, or the status of a run that has none. Memory may run out.
abbrev pub GivesWords : Result (IntoIter (String Global) Global) Error → Result (Vec (String Global) Global) Status → Type 0
GivesWords (Ok args) (Ok words) = words.items ≡ drop 1 (into_iter_items args)
GivesWords (Ok args) (Err status) = status ≡ NoMemory
GivesWords (Err error) (Ok words) = ⊥
GivesWords (Err error) (Err status) = status ≡ wordless (error_kind error)
