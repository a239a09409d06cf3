-- The times that time words say.
use Rattle.std.proofs.Common.{◌≡◌, ℕ, ◌<◌, ◌≤◌, ℤ, List, [], Option, Some, None, Ok, refl, sym, ap, subst, arith, option_map}
use Rattle.std.specs.Option.{SomeIff}
use Rattle.sk_checks.specs.Checks.{Judges}
use Rattle.sk_decimal.specs.Number.{DecimalView, SpellsDecimal}
use Rattle.sk_decimal.specs.Fixed.{FitsWide, units_of}
use Rattle.sk_decimal.specs.declared.fixed.Fixed.{Fixed}
use Rattle.sk_decimal.proofs.Exact.{one_decimal}
use Rattle.sk_obs.specs.Words.{time_checks, TdtNumber, IsSent, IsCounted, IsShortNumber}

-- the units, as a counted time
counted : (units : ℤ) (p : Type 0) (found : Option (Fixed 12)) → p → SomeIff found (p × FitsWide units) (record { units = units }) → IsCounted units (option_map (λ time. time.units) found)
counted units p None h is = λ fits. is (h, fits)
counted units p (Some time) h is = sym (ap (λ (t : Fixed 12). t.units) is.1)

pub tdt_sent : (n : ℕ) (text : List ℕ) (d : DecimalView) (found : Option (Fixed 12)) → SpellsDecimal text d → d.scale ≤ 12
    → SomeIff found ((d.scale ≤ 12) × FitsWide (units_of 12 d)) (record { units = units_of 12 d })
    → Judges (time_checks [] n (TdtNumber text)) (λ sent. IsSent [] (TdtNumber text) (option_map (λ time. time.units) sent)) (Ok found)
tdt_sent n text d found spelled short is =
    ((λ none. none d (spelled, short), tt), (units_of 12 d, (d, (spelled, short), (short, refl)), counted (units_of 12 d) (d.scale ≤ 12) found short is))

-- a number of more decimals is no short one
pub long_number : (text : List ℕ) (d : DecimalView) → SpellsDecimal text d → 12 < d.scale → (number : DecimalView) → ¬ IsShortNumber text number
long_number text d spelled long number short =
    absurd (let same : number ≡ d = one_decimal text number d short.0 spelled in
    let less : d.scale ≤ 12 = subst (λ (e : DecimalView). e.scale ≤ 12) same short.1 in omega arith)
