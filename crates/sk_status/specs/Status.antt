-- The numbers of the ends of a run.
use Rattle.std.specs.Prelude.{ℕ}
use Rattle.sk_status.specs.declared.status.Status.{Status}
use Rattle.sk_status.specs.declared.status.Status.TheVariants.{Done, WordsRefused, LeapRefused, KernelRefused, ObservationRefused, NotPublished, ReadFault, WriteFault, NoMemory, TimeRefused, AuditNo, NewRefused, ExcerptRefused, OverRefused}

abbrev pub code_of : Status → ℕ
code_of Done = 0
code_of (WordsRefused _) = 2
code_of (LeapRefused _) = 3
code_of (KernelRefused _) = 4
code_of (ObservationRefused _) = 5
code_of (NotPublished _) = 6
code_of (ReadFault _) = 7
code_of WriteFault = 8
code_of NoMemory = 9
code_of (TimeRefused _) = 10
code_of (AuditNo _) = 11
code_of (NewRefused _) = 12
code_of (ExcerptRefused _) = 13
code_of (OverRefused _ _) = 14
