-- What stops a publication is a cause to refuse it; and a clock is small.
use Rattle.std.proofs.Common.{◌≡◌, ◌⊎◌, List, refl, inl, inr}
use Rattle.sk_publishing.specs.Row.{RowView}
use Rattle.sk_clock.specs.Clock.{ClockView}
use Rattle.sk_line.specs.Triple.{TripleView}
use Rattle.sk_triples.specs.Kernel.{TriplesView}
use Rattle.sk_publishing.specs.Input.{Begins}
use Rattle.sk_fit.specs.declared.settings.Settings.{Settings}
use Rattle.sk_fit.specs.declared.fault.FitFault.{FitFault}
use Rattle.sk_fit.specs.declared.fault.FitFault.TheVariants.{BadHold, OldFalls, BandEmpty, NoRate, TimeFalls, TooMany, NoMemory}
use Rattle.sk_fit.specs.Given.{terms_of}
use Rattle.sk_fit.specs.Causes.{Refuses, input}
use Rattle.sk_fit.specs.Fitted.{StopsAt}

pub stopped : (triples : TriplesView) (clock : ClockView) (rows : List RowView) (settings : Settings) (old : TripleView) (fault : FitFault)
    → Begins (input triples clock rows settings) old → StopsAt (terms_of settings clock old) rows fault
    → (fault ≡ NoMemory) ⊎ Refuses (input triples clock rows settings) rows fault
stopped triples clock rows settings old (NoRate number barrier) begins h = inr (old, begins, h)
stopped triples clock rows settings old (TimeFalls number) begins h = inr (old, begins, h)
stopped triples clock rows settings old NoMemory begins h = inl refl
stopped triples clock rows settings old BadHold begins h = absurd h
stopped triples clock rows settings old (OldFalls fall) begins h = absurd h
stopped triples clock rows settings old BandEmpty begins h = absurd h
stopped triples clock rows settings old TooMany begins h = absurd h
