-- What is built stays a publication of what came: the open segment goes on, ends, or the observation is dropped.
use Rattle.std.proofs.Common.{◌≡◌, ℕ, ◌+◌, ◌<◌, ◌≤◌, true, List, [], ◌∷◌, ◌++◌, length, refl, sym, ap, subst, ◌∙◌, length-append, arith, map}
use Rattle.std.proofs.lemmas.List.{length-map, map-append}
use Rattle.std.specs.Prelude.{ℤ, ◌≤ℤ◌, Option, Some}
use Rattle.std.specs.List.{AllByRecursion}
use Rattle.std.specs.Option.{option_map}
use Rattle.sk_decimal.specs.declared.fixed.Fixed.{Fixed}
use Rattle.sk_publishing.specs.Terms.{Sight, Terms, in_seconds, partition_at}
use Rattle.sk_line.specs.Triple.{Anchor}
use Rattle.sk_publishing.specs.Meets.{Meets}
use Rattle.sk_publishing.specs.Rates.{IsLeastRate, IsGreatestRate}
use Rattle.sk_publishing.specs.Chain.{SegmentView, IsAllowedStep, left_at, IsInPartition, anchor_due, IsNotLater, IsChain, last_of}
use Rattle.sk_publishing.specs.Kept.{is_new, HasNoRate, SortsNext}
use Rattle.sk_publishing.specs.Built.{Built, longer, beginning, middle_rate}
use Rattle.sk_line.proofs.Lists.{all_append, all_map, all_both, all_back}
use Rattle.sk_publishing.proofs.Steps.{ended_as}
use Rattle.sk_publishing.proofs.Fitting.{is_kept, is_dropped, first_goes_on, later_goes_on, begins}
use Rattle.sk_audit.specs.declared.line.Line.{Line}
use Rattle.sk_audit.specs.declared.told.Told.{Told}
use Rattle.sk_audit.specs.declared.told.End.{End}
use Rattle.sk_audit.specs.declared.interval.Running.{Running}
use Rattle.sk_audit.specs.declared.ending.Beginning.{Beginning}
use Rattle.sk_audit.specs.Given.{end_view, anchor_of, HoldsLine, IsRate}
use Rattle.sk_audit.specs.Walking.{WalkView, ToldView, Tell, told, told_of, last_place, closed_as, gone_on, bounded, begun_at, dropped_at, open_of, IsOpen, IsWalk, IsAt, Rises, HoldsDue}
use Rattle.sk_audit.specs.Pairs.{IsRunning}
use Rattle.sk_audit.specs.Scene.{IsBeginning}

-- ---- what is told

-- as many are told as there are
pub tell_number : (list : List Told) (chain : List SegmentView) → Tell list chain → length list ≡ length chain
tell_number list chain e = sym (length-map list told_of) ∙ ap length e ∙ length-map chain told

pub some_front : (list : List Told) (chain : List SegmentView) → Tell list chain → 0 < length list → 0 < length chain
some_front list chain e some = let n = tell_number list chain e in omega arith

pub none_front : (list : List Told) (chain : List SegmentView) → Tell list chain → list ≡ [] → chain ≡ []
none_front list [] e none = refl
none_front list (s ∷ chain) e none = absurd (let n = tell_number list (s ∷ chain) e in let m = ap length none in omega arith)

-- one more
pub tell_more : (list : List Told) (chain : List SegmentView) (x : Told) (s : SegmentView) → Tell list chain → told_of x ≡ told s → Tell (list ++ x ∷ []) (chain ++ s ∷ [])
tell_more list chain x s e one =
    map-append told_of list (x ∷ []) ∙ ap (λ (z : List ToldView). z ++ told_of x ∷ []) e ∙ ap (λ (v : ToldView). map told chain ++ v ∷ []) one
    ∙ sym (map-append told chain (s ∷ []))

-- the open segment, ended
pub tells_closed : (t : Terms) (w : WalkView) (covered : List Sight) (ended : End) → w.last ≡ last_place covered
    → told_of (closed_as w ended) ≡ told (ended_as t (open_of w covered) (end_view ended))
tells_closed t w covered ended e =
    ap (λ (p : Option ℕ). record { anchor = anchor_of w.anchor; rate = w.rate.units; place = p; ended = end_view ended }) e

-- the last of these and one more
pub last_more : (c : List Sight) (o : Sight) → last_of (c ++ o ∷ []) ≡ Some o
last_more [] o = refl
last_more (x ∷ []) o = refl
last_more (x ∷ y ∷ c) o = last_more (y ∷ c) o

pub last_place_more : (c : List Sight) (o : Sight) → Some o.place ≡ last_place (c ++ o ∷ [])
last_place_more c o = sym (ap (option_map (λ (x : Sight). x.place)) (last_more c o))

-- ---- places

-- The next segment begins with o at this anchor: it is the one due, in the partition of o and past the anchor before it.
pub record IsLeft (t : Terms) (w : WalkView) (covered : List Sight) (o : Sight) (anchor : Line) : Type 0 where
  pub due : anchor_of anchor ≡ anchor_due t (open_of w covered) o
  pub not_later : ¬ IsInPartition t (open_of w covered) o → IsNotLater t (open_of w covered) o
  pub here : partition_at t o.tick ≡ partition_at t anchor.ticks
  pub past : w.anchor.ticks < anchor.ticks
  pub before : partition_at t anchor.ticks ≡ partition_at t w.anchor.ticks → anchor.ticks < o.tick
  pub reached : anchor.ticks ≤ o.tick
  pub whole : (units : ℤ) × (anchor.time.units ≡ in_seconds t.gauge units)
  pub line : HoldsLine t.gauge.per_count anchor

-- what holds of all holds of one
pub at_place : (all : List Sight) (n : ℕ) (o : Sight) (P : Sight → Type 0) → IsAt all n o → AllByRecursion P all → P o
at_place all n o P a h = (all_back P a.before (o ∷ a.after) (subst (AllByRecursion P) a.here h)).0

left_longer : (t : Terms) (s : SegmentView) (o : Sight) (rate : ℤ) → left_at t (longer s o rate) ≡ o.tick
left_longer t s o rate = rw (last_more s.covered o, left_at) refl

module _ (t : Terms) (all : List Sight) (n : ℕ) (w : WalkView) (covered : List Sight) (o : Sight) (at : IsAt all n o) (rises : Rises all n o)
    (h : IsOpen t all n w covered) where
  -- the observation is after the anchor
  pub after_anchor : w.anchor.ticks < o.tick
  after_anchor = (at_place all n o _ at h.ahead (let e = at.place in omega arith)).0

  pub after_left : IsInPartition t (open_of w covered) o → w.leave_tick < o.tick
  after_left here = (at_place all n o _ at h.ahead (let e = at.place in omega arith)).1 here

  pub open_stays : (rate : Fixed 18) → IsInPartition t (open_of w covered) o → IsRate rate.units → HoldsDue t (longer (open_of w covered) o rate.units) o.tick
      → IsOpen t all (n + 1) (gone_on w n o.tick rate) (covered ++ o ∷ [])
  open_stays rate here good due =
      let after = after_anchor in
      let passed = after_left here in
      record {
        left = sym (left_longer t (open_of w covered) o rate.units);
        covered_to = all_append _ covered (o ∷ []) (all_map _ _ (λ x l. omega arith) covered h.covered_to) (omega arith, tt);
        from_anchor = omega arith;
        first_from_anchor = λ _. after;
        whole = h.whole;
        ahead = all_map _ _ (λ x w' l. ((w'.0 (omega arith)).0, (λ _. w'.1 (omega arith)))) all
            (all_both (λ x. n ≤ x.place → (w.anchor.ticks < x.tick) × (IsInPartition t (open_of w covered) x → w.leave_tick < x.tick)) (λ x. n < x.place → o.tick < x.tick) all h.ahead rises);
        line = h.line;
        rate = good;
        due_from = due;
      }

  pub open_begins : (ended : End) (b : Beginning) → IsLeft t w covered o b.anchor → IsRate b.rate.units
      → HoldsDue t (beginning (anchor_of b.anchor) o b.rate.units) o.tick → IsOpen t all (n + 1) (begun_at w ended b n o.tick) (o ∷ [])
  open_begins ended b left good due = record {
    left = refl;
    covered_to = (omega arith, tt);
    from_anchor = left.reached;
    first_from_anchor = λ none. absurd (let l = ap length none in let k = length-append w.closed (closed_as w ended ∷ []) in omega arith);
    whole = λ _. left.whole;
    ahead = all_map _ _ (λ x w' l. (let q : o.tick < x.tick = w' (omega arith) in let r = left.reached in ((omega arith), (λ _. q)))) all rises;
    line = left.line;
    rate = good;
    due_from = due;
  }

  pub open_waits : IsOpen t all (n + 1) (dropped_at w n) covered
  open_waits = record {
    left = h.left;
    covered_to = h.covered_to;
    from_anchor = h.from_anchor;
    first_from_anchor = h.first_from_anchor;
    whole = h.whole;
    ahead = all_map _ _ (λ x w' l. w' (omega arith)) all h.ahead;
    line = h.line;
    rate = h.rate;
    due_from = h.due_from;
  }

-- ---- one observation more

module _ (t : Terms) (all : List Sight) (n : ℕ) (w : WalkView) (o : Sight) (kept dropped : List Sight) (at : IsAt all n o) (rises : Rises all n o)
    (new : is_new t o ≡ true) (h : IsWalk t all n w kept dropped) where
  pub moves_on_first : w.closed ≡ [] → IsInPartition t (open_of w h.covered) o
      → Meets t.gauge (open_of w h.covered).anchor w.rate.units o → HoldsDue t (longer (open_of w h.covered) o w.rate.units) o.tick
      → SortsNext t kept dropped o (kept ++ o ∷ []) dropped × IsWalk t all (n + 1) (gone_on w n o.tick w.rate) (kept ++ o ∷ []) dropped
  moves_on_first none here meets due =
      let front : h.front ≡ [] = none_front w.closed h.front h.tells none in
      let built : Built t (kept ++ o ∷ []) h.front (longer (open_of w h.covered) o w.rate.units) h.low h.high w.least w.greatest =
      subst (λ (z : List SegmentView). Built t (kept ++ o ∷ []) z (longer (open_of w h.covered) o w.rate.units) h.low h.high w.least w.greatest) (sym front)
      (first_goes_on t kept (open_of w h.covered) o h.low h.high w.least w.greatest here meets
      (subst (λ (z : List SegmentView). Built t kept z (open_of w h.covered) h.low h.high w.least w.greatest) front h.built)) in (
        is_kept t kept dropped o (h.front ++ longer (open_of w h.covered) o w.rate.units ∷ []) new built.chain,
        record {
          front = h.front;
          covered = h.covered ++ o ∷ [];
          low = h.low;
          high = h.high;
          low_place = h.low_place;
          high_place = h.high_place;
          tells = h.tells;
          last = ap (λ (p : ℕ). Some p) (sym at.place) ∙ last_place_more h.covered o;
          built = built;
          room = h.room;
          places = h.places;
          is_open = open_stays t all n w h.covered o at rises h.is_open w.rate here h.is_open.rate due;
        },
      )

  pub moves_on_later : (r : Running) (rate : Fixed 18) → 0 < length w.closed → IsInPartition t (open_of w h.covered) o → IsRunning t w h.covered o r
      → r.bounds.least ≤ℤ r.bounds.greatest → rate.units ≡ middle_rate t r.bounds.least r.bounds.greatest → IsRate rate.units
      → HoldsDue t (longer (open_of w h.covered) o rate.units) o.tick
      → SortsNext t kept dropped o (kept ++ o ∷ []) dropped × IsWalk t all (n + 1) (gone_on (bounded w r) n o.tick rate) (kept ++ o ∷ []) dropped
  moves_on_later r rate some here run filled middle good due =
      let least : ℤ = r.bounds.least in
      let greatest : ℤ = r.bounds.greatest in
      let some' : 0 < length h.front = some_front w.closed h.front h.tells some in
      let built : Built t (kept ++ o ∷ []) h.front (longer (open_of w h.covered) o rate.units) run.first run.second least greatest =
      subst (λ (x : ℤ). Built t (kept ++ o ∷ []) h.front (longer (open_of w h.covered) o x) run.first run.second least greatest) (sym middle)
      (later_goes_on t kept h.front (open_of w h.covered) o h.low h.high run.first run.second w.least w.greatest least greatest some' here run.is_low run.is_high filled h.built) in (
        is_kept t kept dropped o (h.front ++ longer (open_of w h.covered) o rate.units ∷ []) new built.chain,
        record {
          front = h.front;
          covered = h.covered ++ o ∷ [];
          low = run.first;
          high = run.second;
          low_place = run.low_place;
          high_place = run.high_place;
          tells = h.tells;
          last = ap (λ (p : ℕ). Some p) (sym at.place) ∙ last_place_more h.covered o;
          built = built;
          room = h.room;
          places = h.places;
          is_open = again (open_stays t all n w h.covered o at rises h.is_open rate here good due);
        },
      )
    where
      again : IsOpen t all (n + 1) (gone_on w n o.tick rate) (h.covered ++ o ∷ []) → IsOpen t all (n + 1) (gone_on (bounded w r) n o.tick rate) (h.covered ++ o ∷ [])
      again w' = record {
        left = w'.left;
        covered_to = w'.covered_to;
        from_anchor = w'.from_anchor;
        first_from_anchor = w'.first_from_anchor;
        whole = w'.whole;
        ahead = w'.ahead;
        line = w'.line;
        rate = w'.rate;
        due_from = w'.due_from;
      }

  pub moves_off : (ended : End) (b : Beginning) → IsBeginning t o b → IsLeft t w h.covered o b.anchor
      → IsChain t kept (Some o) (h.front ++ ended_as t (open_of w h.covered) (end_view ended) ∷ [])
      → HoldsDue t (beginning (anchor_of b.anchor) o b.rate.units) o.tick
      → SortsNext t kept dropped o (kept ++ o ∷ []) dropped × IsWalk t all (n + 1) (begun_at w ended b n o.tick) (kept ++ o ∷ []) dropped
  moves_off ended b begun left so_far holds =
      let least : ℤ = b.bounds.least in
      let greatest : ℤ = b.bounds.greatest in
      let due : Anchor = anchor_due t (open_of w h.covered) o in
      let last : SegmentView = ended_as t (open_of w h.covered) (end_view ended) in
      let built : Built t (kept ++ o ∷ []) (h.front ++ last ∷ []) (beginning due o (middle_rate t least greatest)) o o least greatest =
      begins t kept h.front last o least greatest left.not_later
      (subst (λ (a : Anchor). partition_at t o.tick ≡ partition_at t a.ticks) left.due left.here)
      (subst (λ (a : Anchor). (open_of w h.covered).anchor.ticks < a.ticks) left.due left.past)
      (subst (λ (a : Anchor). partition_at t a.ticks ≡ partition_at t (open_of w h.covered).anchor.ticks → a.ticks < o.tick) left.due left.before)
      (subst (λ (a : Anchor). IsLeastRate (IsAllowedStep t) t.gauge a o least) left.due begun.is_least)
      (subst (λ (a : Anchor). IsGreatestRate (IsAllowedStep t) t.gauge a o greatest) left.due begun.is_greatest)
      begun.filled so_far in
      let same : beginning (anchor_of b.anchor) o b.rate.units ≡ beginning due o (middle_rate t least greatest) =
      ap (λ (r : ℤ). beginning (anchor_of b.anchor) o r) begun.middle
      ∙ ap (λ (a : Anchor). beginning a o (middle_rate t least greatest)) left.due in
      let built' : Built t (kept ++ o ∷ []) (h.front ++ last ∷ []) (beginning (anchor_of b.anchor) o b.rate.units) o o least greatest =
      subst (λ (s : SegmentView). Built t (kept ++ o ∷ []) (h.front ++ last ∷ []) s o o least greatest) (sym same) built in (
        is_kept t kept dropped o ((h.front ++ last ∷ []) ++ beginning (anchor_of b.anchor) o b.rate.units ∷ []) new built'.chain,
        record {
          front = h.front ++ last ∷ [];
          covered = o ∷ [];
          low = o;
          high = o;
          low_place = sym at.place;
          high_place = sym at.place;
          tells = tell_more w.closed h.front (closed_as w ended) last h.tells (tells_closed t w h.covered ended h.last);
          last = ap (λ (p : ℕ). Some p) (sym at.place);
          built = built';
          room = h.room;
          places = h.places;
          is_open = open_begins t all n w h.covered o at rises h.is_open ended b left begun.good holds;
        },
      )

  pub waits : length dropped < t.reject → HasNoRate t kept o
      → SortsNext t kept dropped o kept (dropped ++ o ∷ []) × IsWalk t all (n + 1) (dropped_at w n) kept (dropped ++ o ∷ [])
  waits room none = (
    is_dropped t kept dropped o new room none,
    record {
      front = h.front;
      covered = h.covered;
      low = h.low;
      high = h.high;
      low_place = h.low_place;
      high_place = h.high_place;
      tells = h.tells;
      last = h.last;
      built = h.built;
      room = (let l = length-append dropped (o ∷ []) in omega arith);
      places = ap (λ (z : List ℕ). z ++ n ∷ []) h.places ∙ ap (λ (m : ℕ). map (λ o. o.place) dropped ++ m ∷ []) (sym at.place) ∙ sym (map-append (λ (x : Sight). x.place) dropped (o ∷ []));
      is_open = open_waits t all n w h.covered o at rises h.is_open;
    },
  )
