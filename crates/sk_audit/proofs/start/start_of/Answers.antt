use Rattle.std.proofs.Common.{◌≡◌, ◌≢◌, ◌⊎◌, ℕ, ◌+◌, ◌-◌, ◌^◌, ◌<◌, List, length, get_or, subst, ap, ◌∙◌, inl, inr}
use Rattle.std.specs.Prelude.{ℤ, pos, ◌*ℤ◌, unwrap_or, max}
use Rattle.std.specs.List.{AllByRecursion}
use Rattle.sk_clock.specs.Clock.{total, partition_at, ticks_per}
use Rattle.sk_line.specs.Triple.{TripleView}
use Rattle.sk_line.specs.Line.{FallsOver}
use Rattle.sk_publishing.specs.Terms.{Terms}
use Rattle.sk_publishing.specs.Rates.{IsAllowed, IsBand}
use Rattle.sk_triples.specs.Kernel.{IsTriple}
use Rattle.sk_audit.specs.Given.{terms_of, band_view}
use Rattle.sk_audit.proofs.Answered.{untrue}
use Rattle.sk_audit.proofs.Banding.{usable}
use Rattle.sk_audit.proofs.SmallClock.{small_clock}
use Rattle.sk_audit.proofs.Beginning.{last_place, last_triple, bad_hold, good_hold, same_falls}
use Rattle.sk_audit.proofs.start.start_of.Goals as goal

pub returns-then-is_bad_hold-clause-none : goal.returns-then-is_bad_hold-clause-none
returns-then-is_bad_hold-clause-none c rows =
    let ts : List TripleView = c.args.triples.now.triples in
    let old : TripleView = c.index-list-list.result in
    let place : old ≡ get_or ts (length ts - 1) old =
    c.index-list-list.is ∙ ap (λ (xs : List TripleView). get_or xs (length xs - 1) old) c.list-list.ensures.value in
    let front = last_place ts old c.list-list.ensures.kept.triples.some place in
    let ticks : c.old.inside.ticks ≡ old.anchor.ticks = ap (λ (v : TripleView). v.anchor.ticks) c.old.view_is in
    let hold : c.unwrap_or-hold.result ≡ unwrap_or c.args.settings.now.hold old.anchor.ticks =
    c.unwrap_or-hold.ensures ∙ ap (λ (k : ℕ). unwrap_or c.args.settings.now.hold k) ticks in
    let bad : (c.unwrap_or-hold.result < old.anchor.ticks) ⊎ (total c.args.clock.now < c.unwrap_or-hold.result)
    ⊎ (partition_at c.args.clock.now c.unwrap_or-hold.result ≢ partition_at c.args.clock.now old.anchor.ticks) =
    subst (λ (k : ℕ). (c.unwrap_or-hold.result < k) ⊎ (total c.args.clock.now < c.unwrap_or-hold.result)
    ⊎ (partition_at c.args.clock.now c.unwrap_or-hold.result ≢ partition_at c.args.clock.now k)) ticks
    (c.is_bad_hold.ensures.bad.0 c.if-is_bad_hold.true) in
    (old, front, inl (bad_hold c.args.triples.now c.args.clock.now rows c.args.settings.now old c.unwrap_or-hold.result hold bad))

pub returns-in-Some-clause-none : goal.returns-in-Some-clause-none
returns-in-Some-clause-none c rows =
    let ts : List TripleView = c.args.triples.now.triples in
    let old : TripleView = c.index-list-list.result in
    let place : old ≡ get_or ts (length ts - 1) old =
    c.index-list-list.is ∙ ap (λ (xs : List TripleView). get_or xs (length xs - 1) old) c.list-list.ensures.value in
    let front = last_place ts old c.list-list.ensures.kept.triples.some place in
    (old, front, inr (inl (c.in-Some._fall.join, subst (λ (n : ℕ). FallsOver n ts (c.args.settings.now.slip.units *ℤ pos (10 ^ 9)) c.in-Some._fall.join) c.requires.triples.0 c.in-Some.ensures.0.falls)))

pub returns-in_default-band_of-clause-none : goal.returns-in_default-band_of-clause-none
returns-in_default-band_of-clause-none c rows =
    let ts : List TripleView = c.args.triples.now.triples in
    let old : TripleView = c.index-list-list.result in
    let place : old ≡ get_or ts (length ts - 1) old =
    c.index-list-list.is ∙ ap (λ (xs : List TripleView). get_or xs (length xs - 1) old) c.list-list.ensures.value in
    let front = last_place ts old c.list-list.ensures.kept.triples.some place in
    let rate : c.old.inside.rate.units ≡ old.rate = ap (λ (v : TripleView). v.rate) c.old.view_is in
    (old, front, inr (inr (subst (λ (r : ℤ). (n : ℤ) → ¬ IsAllowed c.args.settings.now.rate_decimals c.args.settings.now.band r n) rate c.in_default-band_of.ensures.none)))

pub returns-clause-some : goal.returns-clause-some
returns-clause-some c =
    let ts : List TripleView = c.args.triples.now.triples in
    let old : TripleView = c.index-list-list.result in
    let t : Terms = terms_of c.args.settings.now c.args.clock.now old in
    let place : old ≡ get_or ts (length ts - 1) old =
    c.index-list-list.is ∙ ap (λ (xs : List TripleView). get_or xs (length xs - 1) old) c.list-list.ensures.value in
    let front = last_place ts old c.list-list.ensures.kept.triples.some place in
    let ticks : c.old.inside.ticks ≡ old.anchor.ticks = ap (λ (v : TripleView). v.anchor.ticks) c.old.view_is in
    let rate : c.old.inside.rate.units ≡ old.rate = ap (λ (v : TripleView). v.rate) c.old.view_is in
    let hold : c.unwrap_or-hold.result ≡ unwrap_or c.args.settings.now.hold old.anchor.ticks =
    c.unwrap_or-hold.ensures ∙ ap (λ (k : ℕ). unwrap_or c.args.settings.now.hold k) ticks in
    let good : ¬ ((c.unwrap_or-hold.result < old.anchor.ticks) ⊎ (total c.args.clock.now < c.unwrap_or-hold.result)
    ⊎ (partition_at c.args.clock.now c.unwrap_or-hold.result ≢ partition_at c.args.clock.now old.anchor.ticks)) =
    subst (λ (k : ℕ). ¬ ((c.unwrap_or-hold.result < k) ⊎ (total c.args.clock.now < c.unwrap_or-hold.result)
    ⊎ (partition_at c.args.clock.now c.unwrap_or-hold.result ≢ partition_at c.args.clock.now k))) ticks
    (λ bad. untrue c.is_bad_hold.result c.if-is_bad_hold.false (c.is_bad_hold.ensures.bad.1 bad)) in
    let falls = same_falls c.args.triples.now.per_count (ticks_per c.args.clock.now) ts (c.args.settings.now.slip.units *ℤ pos (10 ^ 9)) c.requires.triples.0 c.in_default.ensures in
    let allowed : IsBand (IsAllowed c.args.settings.now.rate_decimals c.args.settings.now.band old.rate) (band_view c.in-Some-band_of.band) =
    subst (λ (r : ℤ). IsBand (IsAllowed c.args.settings.now.rate_decimals c.args.settings.now.band r) (band_view c.in-Some-band_of.band)) rate c.in-Some-band_of.ensures.some in
    let triple : IsTriple (total c.args.clock.now) old = last_triple (total c.args.clock.now) ts old front.0 front.1
    (subst (λ (k : ℕ). AllByRecursion (IsTriple k) ts) c.requires.triples.1 c.list-list.ensures.kept.triples.each) in
    record {
      small = small_clock c.args.clock.now c.is_bad_hold.ensures.clock;
      triple = triple;
      begins = λ rows. record {
        last = front;
        hold = good_hold c.args.triples.now c.args.clock.now rows c.args.settings.now old c.unwrap_or-hold.result hold good;
        falls = falls;
        band = λ empty. empty c.in-Some-band_of.band.least allowed.least.has;
      };
      allowed = allowed;
      usable = usable t (band_view c.in-Some-band_of.band) triple.positive c.requires.settings.band_to c.requires.settings.rate_decimals_to allowed;
      seam = c.max-seam.ensures ∙ ap (λ (k : ℕ). max k (c.old.inside.ticks + 1)) hold ∙ ap (λ (k : ℕ). max (unwrap_or c.args.settings.now.hold old.anchor.ticks) (k + 1)) ticks;
    }
