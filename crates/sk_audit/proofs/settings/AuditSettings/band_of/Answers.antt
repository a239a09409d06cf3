use Rattle.std.proofs.Common.{arith, refl}
use Rattle.std.proofs.lemmas.Int.{ints}
use Rattle.sk_audit.proofs.Quotients.{band_between}
use Rattle.sk_audit.proofs.settings.AuditSettings.band_of.Goals as goal

pub returns-then-band-clause-some : goal.returns-then-band-clause-some
returns-then-band-clause-some c = band_between c.args.self.now.rate_decimals c.args.self.now.band c.args.old_rate.units
    c.steps_around-band.result.least c.steps_around-band.result.greatest _ refl refl c.steps_around-band.ensures (omega (arith, ints))

pub returns-else-band-clause-none : goal.returns-else-band-clause-none
returns-else-band-clause-none c n a = let w = (c.steps_around-band.ensures n).0 a in let p = w.0 in let q = w.1 in omega (arith, ints)
