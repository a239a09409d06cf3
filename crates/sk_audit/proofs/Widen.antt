-- The running interval with one more observation.
use Rattle.std.proofs.Common.{◌≡◌, ℕ, ◌*◌, ◌^◌, ◌<◌, List, [], ◌∷◌, ◌++◌, length, sym, subst, ◌∙◌, arith, Bool, false, IsTrue}
use Rattle.std.proofs.lemmas.Int.{ints, by_lt_z}
use Rattle.std.specs.Prelude.{ℤ, pos, ◌≤ℤ◌, ◌<ℤ◌, ◌↔◌}
use Rattle.sk_publishing.specs.Row.{RowView}
use Rattle.sk_publishing.specs.Terms.{Sight, Terms}
use Rattle.sk_publishing.specs.Meets.{Meets}
use Rattle.sk_publishing.specs.Rates.{on_grid, IsLeastRate, IsGreatestRate, IsFirstGreatest, IsFirstLeast}
use Rattle.sk_publishing.specs.Chain.{IsAllowedStep}
use Rattle.sk_publishing.specs.Built.{middle_rate}
use Rattle.sk_line.proofs.Lists.{all_back}
use Rattle.sk_publishing.proofs.Fitting.{middle_meets}
use Rattle.sk_publishing.proofs.Interval.{greatest_stays, greatest_moves, least_stays, least_moves, least_allowed, greatest_allowed}
use Rattle.sk_audit.specs.declared.interval.Running.{Running}
use Rattle.sk_audit.specs.Given.{CanMeet, sight_at}
use Rattle.sk_audit.specs.Walking.{WalkView, IsWalk, open_of}
use Rattle.sk_audit.specs.Pairs.{IsRunning}
use Rattle.sk_audit.specs.Scene.{SceneView, terms, all_of, IsScene, IsNext, IsBuiltTo}
use Rattle.sk_audit.proofs.Moves.{after_anchor, some_front}
use Rattle.sk_audit.proofs.Ranges.{in_band}
use Rattle.sk_audit.proofs.Answered.{untrue}
use Rattle.sk_audit.proofs.Quotients.{slow_band}

-- the observation is after the open segment's anchor, so its line can be compared with it
pub after_open : (scene : SceneView) (n : ℕ) (row : RowView) (f : WalkView) → IsBuiltTo scene n f → IsNext scene n row → f.anchor.ticks < row.tick
after_open scene n row f built next = after_anchor (terms scene) (all_of scene) n f built.2.covered (sight_at n row) next.at next.rises built.2.is_open

pub can_meet_open : (scene : SceneView) (n : ℕ) (row : RowView) (f : WalkView) → IsBuiltTo scene n f → IsNext scene n row → CanMeet scene.clock f.anchor row
can_meet_open scene n row f built next =
    let after = after_open scene n row f built next in
    record {
      not_before = omega arith;
      not_past = next.not_past;
      from = built.2.is_open.line.from;
      to = built.2.is_open.line.to;
    }

module _ (t : Terms) (all : List Sight) (n : ℕ) (f : WalkView) (o : Sight) (kept dropped : List Sight) (h : IsWalk t all n f kept dropped)
    (some : 0 < length f.closed) (here : o.place ≡ n) where
  abbrev Low : ℕ → ℤ → Type 0
  Low place least = (first : Sight) × (place ≡ first.place)
      × IsFirstGreatest (IsAllowedStep t) t.gauge (open_of f h.covered).anchor (h.covered ++ o ∷ []) first least

  abbrev High : ℕ → ℤ → Type 0
  High place greatest = (second : Sight) × (place ≡ second.place)
      × IsFirstLeast (IsAllowedStep t) t.gauge (open_of f h.covered).anchor (h.covered ++ o ∷ []) second greatest

  widen_low : (bound : ℤ) (place : ℕ) (least : ℤ) → IsLeastRate (IsAllowedStep t) t.gauge (open_of f h.covered).anchor o bound
      → (f.least <ℤ bound → (place ≡ n) × (least ≡ bound)) → (bound ≤ℤ f.least → (place ≡ f.least_place) × (least ≡ f.least)) → Low place least
  widen_low bound place least r moves stays =
      let i = h.built.interval (some_front f.closed h.front h.tells some) in
      by_lt_z f.least bound
      (λ lt. (let m = moves lt in (
        o,
        m.0 ∙ sym here,
        subst (IsFirstGreatest (IsAllowedStep t) t.gauge (open_of f h.covered).anchor (h.covered ++ o ∷ []) o) (sym m.1)
            (greatest_moves (IsAllowedStep t) t.gauge (open_of f h.covered).anchor h.covered h.low o f.least bound i.is_low r lt),
      )))
      (λ le. (let m = stays le in (
        h.low,
        m.0 ∙ h.low_place,
        subst (IsFirstGreatest (IsAllowedStep t) t.gauge (open_of f h.covered).anchor (h.covered ++ o ∷ []) h.low) (sym m.1)
            (greatest_stays (IsAllowedStep t) t.gauge (open_of f h.covered).anchor h.covered h.low o f.least bound i.is_low r le),
      )))

  widen_high : (bound : ℤ) (place : ℕ) (greatest : ℤ) → IsGreatestRate (IsAllowedStep t) t.gauge (open_of f h.covered).anchor o bound
      → (bound <ℤ f.greatest → (place ≡ n) × (greatest ≡ bound)) → (f.greatest ≤ℤ bound → (place ≡ f.greatest_place) × (greatest ≡ f.greatest)) → High place greatest
  widen_high bound place greatest r moves stays =
      let i = h.built.interval (some_front f.closed h.front h.tells some) in
      by_lt_z bound f.greatest
      (λ lt. (let m = moves lt in (
        o,
        m.0 ∙ sym here,
        subst (IsFirstLeast (IsAllowedStep t) t.gauge (open_of f h.covered).anchor (h.covered ++ o ∷ []) o) (sym m.1)
            (least_moves (IsAllowedStep t) t.gauge (open_of f h.covered).anchor h.covered h.high o f.greatest bound i.is_high r lt),
      )))
      (λ le. (let m = stays le in (
        h.high,
        m.0 ∙ h.high_place,
        subst (IsFirstLeast (IsAllowedStep t) t.gauge (open_of f h.covered).anchor (h.covered ++ o ∷ []) h.high) (sym m.1)
            (least_stays (IsAllowedStep t) t.gauge (open_of f h.covered).anchor h.covered h.high o f.greatest bound i.is_high r le),
      )))

  pub widened_by : (bl bg : ℤ) (r : Running) → IsLeastRate (IsAllowedStep t) t.gauge (open_of f h.covered).anchor o bl → IsGreatestRate (IsAllowedStep t) t.gauge (open_of f h.covered).anchor o bg
      → (f.least <ℤ bl → (r.least_place ≡ n) × (r.bounds.least ≡ bl)) → (bl ≤ℤ f.least → (r.least_place ≡ f.least_place) × (r.bounds.least ≡ f.least))
      → (bg <ℤ f.greatest → (r.greatest_place ≡ n) × (r.bounds.greatest ≡ bg)) → (f.greatest ≤ℤ bg → (r.greatest_place ≡ f.greatest_place) × (r.bounds.greatest ≡ f.greatest))
      → IsRunning t f h.covered o r
  widened_by bl bg r p q a b c d =
      let low = widen_low bl r.least_place r.bounds.least p a b in
      let high = widen_high bg r.greatest_place r.bounds.greatest q c d in
      record { first = low.0; second = high.0; low_place = low.1; high_place = high.1; is_low = low.2; is_high = high.2 }

-- an interval that is not empty is filled
pub between : {b : Bool} {least greatest : ℤ} → (IsTrue b ↔ (greatest <ℤ least)) → b ≡ false → least ≤ℤ greatest
between {b} {least} {greatest} is e = by_lt_z greatest least (λ less. absurd (untrue b e (is.1 less))) (λ le. le)

-- where it is filled its ends are allowed rates, and the middle one meets the next observation too
pub record Filled (t : Terms) (f : WalkView) (o : Sight) (r : Running) : Type 0 where
  pub least : IsAllowedStep t r.bounds.least
  pub greatest : IsAllowedStep t r.bounds.greatest
  pub met : Meets t.gauge (open_of f []).anchor (middle_rate t r.bounds.least r.bounds.greatest) o

pub filled_run : (t : Terms) (f : WalkView) (covered : List Sight) (o : Sight) (r : Running) → IsRunning t f covered o r → r.bounds.least ≤ℤ r.bounds.greatest → Filled t f o r
filled_run t f covered o r run h = record {
  least = least_allowed (IsAllowedStep t) t.gauge (open_of f covered).anchor run.first run.second r.bounds.least r.bounds.greatest run.is_low.is_bound run.is_high.is_bound h;
  greatest = greatest_allowed (IsAllowedStep t) t.gauge (open_of f covered).anchor run.first run.second r.bounds.least r.bounds.greatest run.is_low.is_bound run.is_high.is_bound h;
  met = (all_back _ covered (o ∷ []) (middle_meets t (open_of f covered).anchor (covered ++ o ∷ []) run.first run.second r.bounds.least r.bounds.greatest run.is_low run.is_high h).1).0;
}

-- the sizes of allowed rates
pub record Ends (rate_decimals : ℕ) (least greatest : ℤ) : Type 0 where
  pub positive : pos 1 ≤ℤ least
  pub small : greatest ≤ℤ pos (10 ^ 18)
  pub slow : on_grid rate_decimals greatest ≤ℤ pos (1000 * 10 ^ 18)

pub allowed_ends : (scene : SceneView) (least greatest : ℤ) → IsScene scene → IsAllowedStep (terms scene) least → IsAllowedStep (terms scene) greatest
    → Ends scene.settings.rate_decimals least greatest
allowed_ends scene least greatest given a b =
    let low = (in_band (terms scene) _ given.allowed least a).low in
    let high = (in_band (terms scene) _ given.allowed greatest b).high in
    let p = given.usable.positive in
    record {
      positive = omega (arith, ints);
      small = slow_band scene.settings.rate_decimals greatest given.ranges.rate_decimals_to (let s = given.usable.slow in omega (arith, ints));
      slow = b.most;
    }
