use Rattle.std.proofs.Common.{List, ℕ, subst, sym, inr}
use Rattle.sk_obs.specs.Words.{IsHexOf}
use Rattle.sk_obs.proofs.TimeWords.{cds_ok, cds_err}
use Rattle.sk_obs.proofs.time_word.cds_time.Goals as goal

pub returns-in-Ok-to_tdt : goal.returns-in-Ok-to_tdt
returns-in-Ok-to_tdt c =
    let hex = subst (λ (octets : List ℕ). IsHexOf c.args.text.now octets) (sym c.as_slice.ensures.value) c.in-Ok.ensures.1 in
    cds_ok c.args.leap.now c.args.number c.args.text.now c.as_slice.result.now c.in-Ok-read.code c.utc_of.result c.in-Ok-to_tdt.time.units hex
    c.in-Ok-read.ensures.judged.0 c.in-Ok-read.ensures.judged.1 c.utc_of.ensures c.in-Ok-to_tdt.ensures.0 c.in-Ok-to_tdt.ensures.1

pub returns : goal.returns
returns c =
    let hex = subst (λ (octets : List ℕ). IsHexOf c.args.text.now octets) (sym c.as_slice.ensures.value) c.in-Ok.ensures.1 in
    inr (cds_err c.args.leap.now c.args.number c.args.text.now c.as_slice.result.now c.in-Ok-read.code c.utc_of.result c.in-Err-to_tdt.fault hex
    c.in-Ok-read.ensures.judged.0 c.in-Ok-read.ensures.judged.1 c.utc_of.ensures c.in-Err-to_tdt.ensures)
