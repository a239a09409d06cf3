-- The sentences of a first record that is not the header.
use Rattle.std.specs.Prelude.{ℕ, List, codes}
use Rattle.sk_obs.specs.declared.fault.HeaderCause.{HeaderCause}
use Rattle.sk_obs.specs.declared.fault.HeaderCause.TheVariants as header

abbrev pub cause_of_header : HeaderCause → List ℕ
cause_of_header header.Empty = codes "the file holds no record, and so no header."
cause_of_header header.LineBefore = codes "a line stands before the header id,clock,time,delay."
cause_of_header header.ZeroByte = codes "the first field holds a zero byte, as text in UTF-16 does."
cause_of_header header.Comment = codes "the first record begins with #, and such a file has no comments."
cause_of_header header.OtherSeparator = codes "the first record has a semicolon or a tab, and no comma."
cause_of_header header.NoHeader = codes "there is no header: the third field of the first record has a colon, as a time has."
cause_of_header header.Blanks = codes "there is white space beside the header's names."
cause_of_header header.Capitals = codes "the header's names have capital letters."
cause_of_header header.OtherOrder = codes "the header's columns stand in another order."
cause_of_header header.TooFew = codes "the first record has fewer than four fields."
cause_of_header header.TooMany = codes "the first record has more than four fields."
cause_of_header header.OtherNames = codes "the first record has other names than id,clock,time,delay."

abbrev pub cure_of_header : HeaderCause → List ℕ
cure_of_header header.Empty = codes "Did the step before write anything? The first line is id,clock,time,delay."
cure_of_header header.LineBefore = codes "Remove that line: the header comes first."
cure_of_header header.ZeroByte = codes "Save the file as UTF-8."
cure_of_header header.Comment = codes "Remove each line that begins with #. The first line is id,clock,time,delay."
cure_of_header header.OtherSeparator = codes "Write commas in place of semicolons or tabs, in every record: id,clock,time,delay."
cure_of_header header.NoHeader = codes "Write a first line before it: id,clock,time,delay."
cure_of_header header.Blanks = codes "Remove it: id,clock,time,delay. No field of a record has a blank beside it, too."
cure_of_header header.Capitals = codes "Write it in small letters, with no blank: id,clock,time,delay."
cure_of_header header.OtherOrder = codes "Put the fields of every record in this order: id,clock,time,delay."
cure_of_header header.TooFew = codes "The header has four names: id,clock,time,delay. Is a column or a comma missing?"
cure_of_header header.TooMany = codes "The header has four names alone: id,clock,time,delay. Leave the other columns out, in every record."
cure_of_header header.OtherNames = codes "Write the header just so: id,clock,time,delay."
