use Rattle.sk_obs.specs.Words.{TdtNumber, UtcCode, CucHex, CdsHex, time_checks}
use Rattle.sk_obs.proofs.TimeWords.{is_tdt, is_utc, is_cuc, is_cds, of_word, counted_answer, unless}
use Rattle.sk_obs.proofs.time_word.read_time_word.Goals as goal

pub returns-in-Some : goal.returns-in-Some
returns-in-Some c =
    of_word c.args.leap.now c.args.number c.args.word.now (TdtNumber c.in-Some.text.now) c.tdt_time.result
    (is_tdt c.args.word.now c.in-Some.text.now c.in-Some.ensures.0 c.in-Some.ensures.1)
    (unless (time_checks c.args.leap.now c.args.number (TdtNumber c.in-Some.text.now)) _ c.tdt_time.result c.tdt_time.ensures)

pub returns-in-Some-behind : goal.returns-in-Some-behind
returns-in-Some-behind c =
    of_word c.args.leap.now c.args.number c.args.word.now (UtcCode c.in-Some-behind.text.now) c.counted.result
    (is_utc c.args.word.now c.in-Some-behind.text.now c.in_default.ensures c.in-Some-behind.ensures.0 c.in-Some-behind.ensures.1)
    (counted_answer c.args.leap.now c.args.number (UtcCode c.in-Some-behind.text.now) c.utc_time.result c.counted.result
    (unless (time_checks c.args.leap.now c.args.number (UtcCode c.in-Some-behind.text.now)) _ c.utc_time.result c.utc_time.ensures) c.counted.ensures)

pub returns-in-Some-behind-2 : goal.returns-in-Some-behind-2
returns-in-Some-behind-2 c =
    of_word c.args.leap.now c.args.number c.args.word.now (CucHex c.in-Some-behind-2.text.now) c.counted-in-Some-behind-2.result
    (is_cuc c.args.word.now c.in-Some-behind-2.text.now c.in_default.ensures c.in_default-behind.ensures c.in-Some-behind-2.ensures.0 c.in-Some-behind-2.ensures.1)
    (counted_answer c.args.leap.now c.args.number (CucHex c.in-Some-behind-2.text.now) c.cuc_time.result c.counted-in-Some-behind-2.result c.cuc_time.ensures c.counted-in-Some-behind-2.ensures)

pub returns-in-Some-behind-3 : goal.returns-in-Some-behind-3
returns-in-Some-behind-3 c =
    of_word c.args.leap.now c.args.number c.args.word.now (CdsHex c.in-Some-behind-3.text.now) c.counted-in-Some-behind-3.result
    (is_cds c.args.word.now c.in-Some-behind-3.text.now c.in_default.ensures c.in_default-behind.ensures c.in_default-behind-2.ensures c.in-Some-behind-3.ensures.0 c.in-Some-behind-3.ensures.1)
    (counted_answer c.args.leap.now c.args.number (CdsHex c.in-Some-behind-3.text.now) c.cds_time.result c.counted-in-Some-behind-3.result c.cds_time.ensures c.counted-in-Some-behind-3.ensures)
