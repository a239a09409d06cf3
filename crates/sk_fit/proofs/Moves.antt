-- What is built stays a publication of what came: the open segment goes on, ends, or the observation is dropped.
use Rattle.std.proofs.Common.{◌≡◌, ℕ, ◌+◌, ◌<◌, ◌≤◌, true, List, [], ◌∷◌, ◌++◌, length, refl, sym, ap, subst, ◌∙◌, length-append, arith, map}
use Rattle.std.specs.Prelude.{ℤ, ◌≤ℤ◌, Some}
use Rattle.std.specs.List.{AllByRecursion}
use Rattle.sk_decimal.specs.declared.fixed.Fixed.{Fixed}
use Rattle.sk_fit.specs.declared.settings.Line.{Line}
use Rattle.sk_fit.specs.declared.open_segment.Running.{Running}
use Rattle.sk_fit.specs.declared.ending.Beginning.{Beginning}
use Rattle.sk_fit.specs.declared.chain.End.{End}
use Rattle.sk_publishing.specs.Terms.{Sight, Terms, in_seconds, partition_at}
use Rattle.sk_line.specs.Triple.{Anchor}
use Rattle.sk_publishing.specs.Meets.{Meets}
use Rattle.sk_publishing.specs.Rates.{IsLeastRate, IsGreatestRate}
use Rattle.sk_publishing.specs.Chain.{SegmentView, IsAllowedStep, left_at, IsInPartition, anchor_due, IsNotLater, IsChain}
use Rattle.sk_publishing.specs.Kept.{is_new, HasNoRate, SortsNext}
use Rattle.sk_publishing.specs.Built.{Built, longer, beginning, middle_rate}
use Rattle.sk_line.proofs.Lists.{all_append, all_map, all_both, all_back}
use Rattle.sk_publishing.proofs.Steps.{ended_as}
use Rattle.sk_publishing.proofs.Fitting.{is_kept, is_dropped, first_goes_on, later_goes_on, begins}
use Rattle.sk_fit.specs.Given.{segment_view, end_view, anchor_of, IsRate}
use Rattle.sk_fit.specs.State.{HoldsLine, FittingView, gone_on, bounded, begun_at, dropped_at, front_of, open_of, HasPlaces, IsOpen, IsFitting, IsAt, Rises, HoldsDue, old_number}
use Rattle.sk_fit.specs.Pairs.{IsRunning}
use Rattle.sk_fit.specs.Context.{IsBeginning}
use Rattle.std.proofs.lemmas.List.{length-map}
use Rattle.sk_fit.proofs.States.{open_on, open_begun, front_begun, open_dropped, front_dropped, places_on, places_begun, places_dropped}
use Rattle.sk_fit.proofs.Placing.{last_more, placed_on, placed_begun, placed_dropped}

-- where closed segments are views of some, there are some
pub some_front : (all : List Sight) (f : FittingView) → 0 < length f.closed → 0 < length (front_of all f)
some_front all f k = let e = length-map f.closed (segment_view all f.dropped) in omega arith

-- The next segment begins with o at this anchor: it is the one due, in the partition of o and past the anchor before it.
pub record IsLeft (t : Terms) (all : List Sight) (f : FittingView) (o : Sight) (anchor : Line) : Type 0 where
  pub due : anchor_of anchor ≡ anchor_due t (open_of all f) o
  pub not_later : ¬ IsInPartition t (open_of all f) o → IsNotLater t (open_of all f) o
  pub here : partition_at t o.tick ≡ partition_at t anchor.ticks
  pub past : f.open_one.anchor.ticks < anchor.ticks
  pub before : partition_at t anchor.ticks ≡ partition_at t f.open_one.anchor.ticks → anchor.ticks < o.tick
  pub reached : anchor.ticks ≤ o.tick
  pub whole : (units : ℤ) × (anchor.time.units ≡ in_seconds t.gauge units)
  pub line : HoldsLine t.gauge.per_count anchor

-- what holds of all holds of one
pub at_place : (all : List Sight) (n : ℕ) (o : Sight) (P : Sight → Type 0) → IsAt all n o → AllByRecursion P all → P o
at_place all n o P a h = (all_back P a.before (o ∷ a.after) (subst (AllByRecursion P) a.here h)).0

left_longer : (t : Terms) (s : SegmentView) (o : Sight) (rate : ℤ) → left_at t (longer s o rate) ≡ o.tick
left_longer t s o rate = rw (last_more s.covered o, left_at) refl

module _ (t : Terms) (all : List Sight) (n : ℕ) (f : FittingView) (o : Sight) (dropped : List Sight) (at : IsAt all n o) (rises : Rises all n o)
    (h : IsOpen t all n f) (p : HasPlaces all n f dropped) where
  -- the observation is after the anchor
  pub after_anchor : f.open_one.anchor.ticks < o.tick
  after_anchor = (at_place all n o _ at h.ahead (let e = at.place in omega arith)).0

  pub after_left : IsInPartition t (open_of all f) o → f.leave_tick < o.tick
  after_left here = (at_place all n o _ at h.ahead (let e = at.place in omega arith)).1 here

  pub open_stays : (rate : Fixed 18) → IsInPartition t (open_of all f) o → IsRate rate.units → HoldsDue t (longer (open_of all f) o rate.units) o.tick
      → IsOpen t all (n + 1) (gone_on f n o.tick rate)
  open_stays rate here good due =
      let e = open_on all n f dropped o rate p at in
      let after = after_anchor in
      let passed = after_left here in
      record {
        left = sym (ap (left_at t) e ∙ left_longer t (open_of all f) o rate.units);
        covered_to = subst (λ (s : SegmentView). AllByRecursion (λ x. x.tick ≤ o.tick) s.covered) (sym e)
            (all_append _ (open_of all f).covered (o ∷ []) (all_map _ _ (λ x l. omega arith) (open_of all f).covered h.covered_to) (omega arith, tt));
        from_anchor = omega arith;
        first_from_anchor = λ _. after;
        whole = h.whole;
        ahead = all_map _ _ (λ x w l. ((w.0 (omega arith)).0, (λ _. w.1 (omega arith)))) all
            (all_both (λ x. n ≤ x.place → (f.open_one.anchor.ticks < x.tick) × (IsInPartition t (open_of all f) x → f.leave_tick < x.tick)) (λ x. n < x.place → o.tick < x.tick) all h.ahead rises);
        line = h.line;
        rate = good;
        due_from = subst (λ (s : SegmentView). HoldsDue t s o.tick) (sym e) due;
      }

  pub open_begins : (ended : End) (b : Beginning) → IsLeft t all f o b.anchor → IsRate b.rate.units
      → HoldsDue t (beginning (anchor_of b.anchor) o b.rate.units) o.tick → IsOpen t all (n + 1) (begun_at f ended b n o.tick)
  open_begins ended b left good due =
      let e = open_begun all n f dropped o ended b p at in
      record {
        left = sym (ap (left_at t) e);
        covered_to = subst (λ (s : SegmentView). AllByRecursion (λ x. x.tick ≤ o.tick) s.covered) (sym e) (omega arith, tt);
        from_anchor = left.reached;
        first_from_anchor = λ none. absurd (let l = ap length none in let k = length-append f.closed (record f.open_one { ended = ended } ∷ []) in omega arith);
        whole = λ _. left.whole;
        ahead = all_map _ _ (λ x w l. (let q : o.tick < x.tick = w (omega arith) in let r = left.reached in ((omega arith), (λ _. q)))) all rises;
        line = left.line;
        rate = good;
        due_from = subst (λ (s : SegmentView). HoldsDue t s o.tick) (sym e) due;
      }

  pub open_waits : IsOpen t all (n + 1) (dropped_at f n)
  open_waits =
      let e = open_dropped all n f dropped p in
      record {
        left = h.left ∙ ap (left_at t) (sym e);
        covered_to = subst (λ (s : SegmentView). AllByRecursion (λ x. x.tick ≤ f.leave_tick) s.covered) (sym e) h.covered_to;
        from_anchor = h.from_anchor;
        first_from_anchor = h.first_from_anchor;
        whole = h.whole;
        ahead = all_map _ _ (λ x w l. w (omega arith)) all h.ahead;
        line = h.line;
        rate = h.rate;
        due_from = subst (λ (s : SegmentView). HoldsDue t s f.leave_tick) (sym e) h.due_from;
      }

-- ---- one observation more

module _ (t : Terms) (all : List Sight) (n : ℕ) (f : FittingView) (o : Sight) (kept dropped : List Sight) (at : IsAt all n o) (rises : Rises all n o)
    (new : is_new t o ≡ true) (h : IsFitting t all n f kept dropped) where
  pub moves_on_first : f.closed ≡ [] → IsInPartition t (open_of all f) o
      → Meets t.gauge (open_of all f).anchor f.open_one.rate.units o → HoldsDue t (longer (open_of all f) o f.open_one.rate.units) o.tick
      → SortsNext t kept dropped o (kept ++ o ∷ []) dropped × IsFitting t all (n + 1) (gone_on f n o.tick f.open_one.rate) (kept ++ o ∷ []) dropped
  moves_on_first none here meets due =
      let e = open_on all n f dropped o f.open_one.rate h.places at in
      let front : front_of all f ≡ [] = ap (map (segment_view all f.dropped)) none in
      let built : Built t (kept ++ o ∷ []) (front_of all f) (longer (open_of all f) o f.open_one.rate.units) h.low h.high f.least f.greatest =
      subst (λ (z : List SegmentView). Built t (kept ++ o ∷ []) z (longer (open_of all f) o f.open_one.rate.units) h.low h.high f.least f.greatest) (sym front)
      (first_goes_on t kept (open_of all f) o h.low h.high f.least f.greatest here meets
      (subst (λ (z : List SegmentView). Built t kept z (open_of all f) h.low h.high f.least f.greatest) front h.built)) in (
        is_kept t kept dropped o (front_of all f ++ longer (open_of all f) o f.open_one.rate.units ∷ []) new built.chain,
        record {
          low = h.low;
          high = h.high;
          low_place = h.low_place;
          high_place = h.high_place;
          built = subst (λ (s : SegmentView). Built t (kept ++ o ∷ []) (front_of all f) s h.low h.high f.least f.greatest) (sym e) built;
          room = h.room;
          places = places_on all n f dropped o.tick f.open_one.rate h.places;
          placed = placed_on (old_number t all) all n f dropped h.places h.placed o f.open_one.rate at;
          is_open = open_stays t all n f o dropped at rises h.is_open h.places f.open_one.rate here h.is_open.rate due;
        },
      )

  pub moves_on_later : (r : Running) (rate : Fixed 18) → 0 < length f.closed → IsInPartition t (open_of all f) o → IsRunning t all f o r
      → r.bounds.least ≤ℤ r.bounds.greatest → rate.units ≡ middle_rate t r.bounds.least r.bounds.greatest → IsRate rate.units
      → HoldsDue t (longer (open_of all f) o rate.units) o.tick
      → SortsNext t kept dropped o (kept ++ o ∷ []) dropped × IsFitting t all (n + 1) (gone_on (bounded f r) n o.tick rate) (kept ++ o ∷ []) dropped
  moves_on_later r rate some here run filled middle good due =
      let least : ℤ = r.bounds.least in
      let greatest : ℤ = r.bounds.greatest in
      let e = open_on all n f dropped o rate h.places at in
      let some' : 0 < length (front_of all f) = some_front all f some in
      let built : Built t (kept ++ o ∷ []) (front_of all f) (longer (open_of all f) o rate.units) run.first run.second least greatest =
      subst (λ (x : ℤ). Built t (kept ++ o ∷ []) (front_of all f) (longer (open_of all f) o x) run.first run.second least greatest) (sym middle)
      (later_goes_on t kept (front_of all f) (open_of all f) o h.low h.high run.first run.second f.least f.greatest least greatest some' here run.is_low run.is_high filled h.built) in (
        is_kept t kept dropped o (front_of all f ++ longer (open_of all f) o rate.units ∷ []) new built.chain,
        record {
          low = run.first;
          high = run.second;
          low_place = run.low_place;
          high_place = run.high_place;
          built = subst (λ (s : SegmentView). Built t (kept ++ o ∷ []) (front_of all f) s run.first run.second least greatest) (sym e) built;
          room = h.room;
          places = again (places_on all n f dropped o.tick rate h.places);
          placed = placed_on (old_number t all) all n f dropped h.places h.placed o rate at;
          is_open = again' (open_stays t all n f o dropped at rises h.is_open h.places rate here good due);
        },
      )
    where
      again : HasPlaces all (n + 1) (gone_on f n o.tick rate) dropped → HasPlaces all (n + 1) (gone_on (bounded f r) n o.tick rate) dropped
      again w = record { places = w.places; dropped_before = w.dropped_before; closed_before = w.closed_before; ordered = w.ordered; open_before = w.open_before; gap = w.gap }

      again' : IsOpen t all (n + 1) (gone_on f n o.tick rate) → IsOpen t all (n + 1) (gone_on (bounded f r) n o.tick rate)
      again' w = record {
        left = w.left;
        covered_to = w.covered_to;
        from_anchor = w.from_anchor;
        first_from_anchor = w.first_from_anchor;
        whole = w.whole;
        ahead = w.ahead;
        line = w.line;
        rate = w.rate;
        due_from = w.due_from;
      }

  pub moves_off : (ended : End) (b : Beginning) → IsBeginning t o b → IsLeft t all f o b.anchor
      → IsChain t kept (Some o) (front_of all f ++ ended_as t (open_of all f) (end_view ended) ∷ [])
      → HoldsDue t (beginning (anchor_of b.anchor) o b.rate.units) o.tick
      → SortsNext t kept dropped o (kept ++ o ∷ []) dropped × IsFitting t all (n + 1) (begun_at f ended b n o.tick) (kept ++ o ∷ []) dropped
  moves_off ended b begun left so_far holds =
      let least : ℤ = b.bounds.least in
      let greatest : ℤ = b.bounds.greatest in
      let due : Anchor = anchor_due t (open_of all f) o in
      let f' : FittingView = begun_at f ended b n o.tick in
      let built : Built t (kept ++ o ∷ []) (front_of all f ++ ended_as t (open_of all f) (end_view ended) ∷ []) (beginning due o (middle_rate t least greatest)) o o least greatest =
      begins t kept (front_of all f) (ended_as t (open_of all f) (end_view ended)) o least greatest left.not_later
      (subst (λ (a : Anchor). partition_at t o.tick ≡ partition_at t a.ticks) left.due left.here)
      (subst (λ (a : Anchor). (open_of all f).anchor.ticks < a.ticks) left.due left.past)
      (subst (λ (a : Anchor). partition_at t a.ticks ≡ partition_at t (open_of all f).anchor.ticks → a.ticks < o.tick) left.due left.before)
      (subst (λ (a : Anchor). IsLeastRate (IsAllowedStep t) t.gauge a o least) left.due begun.is_least)
      (subst (λ (a : Anchor). IsGreatestRate (IsAllowedStep t) t.gauge a o greatest) left.due begun.is_greatest)
      begun.filled so_far in
      let same : open_of all f' ≡ beginning due o (middle_rate t least greatest) =
      open_begun all n f dropped o ended b h.places at ∙ ap (λ (r : ℤ). beginning (anchor_of b.anchor) o r) begun.middle
      ∙ ap (λ (a : Anchor). beginning a o (middle_rate t least greatest)) left.due in
      let built' : Built t (kept ++ o ∷ []) (front_of all f') (open_of all f') o o least greatest =
      subst (λ (s : SegmentView). Built t (kept ++ o ∷ []) (front_of all f') s o o least greatest) (sym same)
      (subst (λ (z : List SegmentView). Built t (kept ++ o ∷ []) z (beginning due o (middle_rate t least greatest)) o o least greatest) (sym (front_begun t all n f o ended b)) built) in (
        is_kept t kept dropped o (front_of all f' ++ open_of all f' ∷ []) new built'.chain,
        record {
          low = o;
          high = o;
          low_place = sym at.place;
          high_place = sym at.place;
          built = built';
          room = h.room;
          places = places_begun all n f dropped o.tick ended b h.places;
          placed = placed_begun (old_number t all) all n f dropped h.places h.placed o ended b at;
          is_open = open_begins t all n f o dropped at rises h.is_open h.places ended b left begun.good holds;
        },
      )

  pub waits : length dropped < t.reject → HasNoRate t kept o
      → SortsNext t kept dropped o kept (dropped ++ o ∷ []) × IsFitting t all (n + 1) (dropped_at f n) kept (dropped ++ o ∷ [])
  waits room none =
      let front = front_dropped all n f dropped h.places in
      let open' = open_dropped all n f dropped h.places in (
        is_dropped t kept dropped o new room none,
        record {
          low = h.low;
          high = h.high;
          low_place = h.low_place;
          high_place = h.high_place;
          built = subst (λ (s : SegmentView). Built t kept (front_of all (dropped_at f n)) s h.low h.high f.least f.greatest) (sym open')
              (subst (λ (z : List SegmentView). Built t kept z (open_of all f) h.low h.high f.least f.greatest) (sym front) h.built);
          room = (let l = length-append dropped (o ∷ []) in omega arith);
          places = places_dropped all n f dropped o at.place h.places;
          placed = placed_dropped (old_number t all) all n f dropped h.places h.placed;
          is_open = open_waits t all n f o dropped at rises h.is_open h.places;
        },
      )
