use Rattle.csv.specs.Records.{fields_of}
use Rattle.sk_obs.proofs.Records.{read_next}
use Rattle.sk_obs.proofs.reading.next_row.Goals as goal

pub returns : goal.returns
returns c =
    read_next c.args.reader.now c.read_byte_record.new.self c.in-Ok.found (fields_of c.read_byte_record.new.row) c.requires
    (c.in-Ok.ensures.reads c.requires.untrimmed c.requires.ready) (c.in-Ok.ensures.ready c.requires.untrimmed) c.in-Ok.ensures.flexible
