use Rattle.std.proofs.Common.{subst, sym, List, ℕ, inr}
use Rattle.sk_checks.specs.Checks.{FirstRefuses}
use Rattle.sk_obs.specs.File.{name_causes, HoldsByte, BeginsWith}
use Rattle.sk_obs.proofs.header.own_cause.Goals as goal

pub returns : goal.returns
returns c =
    let named = subst (λ (names : List (List ℕ)). FirstRefuses (name_causes names) c.in_ok-cause.cause) c.in_ok-trim.ensures.fields c.in_ok-cause.ensures in
    inr (
      λ h. (let yes = c.holds.ensures.1 (subst (λ (f : List ℕ). HoldsByte f 0) (sym c.field.ensures) h) in cc),
      inr (
        λ h. (let yes = c.begins_with.ensures.1 (subst (λ (f : List ℕ). BeginsWith f 35) (sym c.field-2.ensures) h) in cc),
        inr (
          λ h. (let yes = c.has_other_separator.ensures.1 h in cc),
          inr (λ h. (let yes = c.holds-2.ensures.1 (subst (λ (f : List ℕ). HoldsByte f 58) (sym c.field-3.ensures) h) in cc), named),
        ),
      ),
    )
