-- Claims are evaluated over one observation more, or are those of no publication.
use Rattle.std.proofs.Common.{◌≡◌, ℕ, ◌+◌, ◌-◌, ◌^◌, ◌<◌, List, [], ◌∷◌, ◌++◌, length, refl, sym, ap, subst, ◌∙◌, append_assoc, append-nil, length-append, arith, suc, map, drop, slice_get}
use Rattle.std.proofs.lemmas.Int.{ints, by_lt_z}
use Rattle.std.proofs.lemmas.List.{take_all}
use Rattle.std.specs.Prelude.{ℤ, pos, ◌+ℤ◌, ◌*ℤ◌, ◌≤ℤ◌, ◌<ℤ◌, Some, None}
use Rattle.std.specs.Int.{int_max}
use Rattle.std.specs.List.{AllByRecursion}
use Rattle.sk_decimal.specs.declared.fixed.Fixed.{Fixed}
use Rattle.sk_decimal.proofs.Signed.{mul-le_right}
use Rattle.sk_line.specs.Triple.{Anchor, TripleView}
use Rattle.sk_line.proofs.Lists.{all_append, all_back}
use Rattle.sk_line.proofs.Products.{power_positive}
use Rattle.sk_publishing.specs.Row.{RowView}
use Rattle.sk_publishing.specs.Terms.{Sight, Terms, sights_from, grid}
use Rattle.sk_publishing.specs.Meets.{Meets, line_at, scaled}
use Rattle.sk_publishing.specs.Rates.{on_grid, IsLeastRate, IsGreatestRate}
use Rattle.sk_publishing.specs.Chain.{SegmentView, IsAllowedStep, IsNotLater, rounded_up, time_anew, new_triples}
use Rattle.sk_publishing.specs.Kept.{IsPublication, Sorts}
use Rattle.sk_publishing.specs.Built.{longer, middle_rate}
use Rattle.sk_publishing.proofs.Bounds.{meets_from, meets_to, meets_within}
use Rattle.sk_publishing.proofs.Fitting.{between, middle_meets}
use Rattle.sk_publishing.proofs.Interval.{least_allowed, greatest_allowed, none_meets, one_greatest, one_least}
use Rattle.sk_publishing.proofs.Sorting.{one_publication, one_stop}
use Rattle.sk_audit.specs.declared.line.Line.{Line}
use Rattle.sk_audit.specs.declared.line.Bounds.{Bounds}
use Rattle.sk_audit.specs.declared.told.Told.{Told}
use Rattle.sk_audit.specs.declared.told.End.{End}
use Rattle.sk_audit.specs.declared.told.End.TheVariants.{Last, Partition}
use Rattle.sk_audit.specs.declared.interval.Running.{Running}
use Rattle.sk_audit.specs.declared.ending.Beginning.{Beginning}
use Rattle.sk_audit.specs.declared.ending.Due.{Due}
use Rattle.sk_audit.specs.Claims.{triple_of}
use Rattle.sk_audit.specs.Given.{IsRate, anchor_of, sight_at}
use Rattle.sk_audit.specs.Walking.{WalkView, open_of, open_at, gone_on, bounded, begun_at, dropped_at, closed_as}
use Rattle.sk_audit.specs.Walked.{IsWalked, IsStopped}
use Rattle.sk_audit.specs.Pairs.{IsRunning}
use Rattle.sk_audit.specs.Scene.{SceneView, IsScene, terms, all_of, IsBuiltTo, Grows, IsHere, RunsOver, IsStop, CanEndAs, IsBeginning, NoneMeets}
use Rattle.sk_audit.specs.Evaluated.{rate_of, rate_so_far, so_far, IsBetween, line_triple, late, begun, IsEvaluated, IsRefuted, IsNextAt, IsDue, beginning_of}
use Rattle.sk_audit.proofs.Moves.{moves_on_first, moves_on_later, some_front}
use Rattle.sk_audit.proofs.Ranges.{due_near}
use Rattle.sk_audit.proofs.Widen.{filled_run, allowed_ends}
use Rattle.sk_audit.proofs.Leaving.{made, leaves_here, leaves_apart, anew_is_met}
use Rattle.sk_audit.proofs.Looping.{goes_on, stops}
use Rattle.sk_audit.proofs.Passing.{Passes, refuted_by, cancel, late_same, late_more, late_number, new_of}

-- ---- the rate so far

pub rate_first : (closed : List Told) (old middle : ℤ) → closed ≡ [] → rate_of closed old middle ≡ old
rate_first [] old middle e = refl
rate_first (s ∷ closed) old middle e = absurd (let l = ap length e in omega arith)

pub rate_later : (closed : List Told) (old middle : ℤ) → 0 < length closed → rate_of closed old middle ≡ middle
rate_later [] old middle some = absurd (omega arith)
rate_later (s ∷ closed) old middle some = refl

abbrev pub rated : WalkView → ℤ → WalkView
rated w rate = record w { rate = record { units = rate } }

pub so_far_first : (t : Terms) (w : WalkView) → w.closed ≡ [] → so_far t w ≡ w
so_far_first t w e = ap (rated w) (rate_first w.closed w.rate.units (middle_rate t w.least w.greatest) e)

pub so_far_same : (t : Terms) (w : WalkView) → rate_so_far t w ≡ w.rate.units → so_far t w ≡ w
so_far_same t w e = ap (rated w) e

-- an allowed rate is one
pub allowed_rate : (scene : SceneView) (s : ℤ) → IsScene scene → IsAllowedStep (terms scene) s → IsRate (on_grid scene.settings.rate_decimals s)
allowed_rate scene s given a =
    let ends = allowed_ends scene s s given a a in
    record { positive = above s (grid scene.settings.rate_decimals) ends.positive (power_positive (18 - scene.settings.rate_decimals)); slow = ends.slow }
  where
    above : (s : ℤ) (g : ℕ) → pos 1 ≤ℤ s → 0 < g → pos 0 <ℤ (s *ℤ pos g)
    above s g h k = let p = mul-le_right (pos 1) s g h in omega (arith, ints)

-- ---- one observation more

module _ (scene : SceneView) (n : ℕ) (row : RowView) (w : WalkView) (due : IsNextAt scene n row) (h : IsEvaluated scene n w) where
  abbrev t : Terms
  t = terms scene

  abbrev f : WalkView
  f = so_far t w

  abbrev o : Sight
  o = sight_at n row

  pub built : IsBuiltTo scene n f
  built = (h.walked.kept, h.walked.dropped, h.walked.walk)

  walked_on : (v : WalkView) → Grows scene n row f v → IsWalked t scene.rows (n + 1) v
  walked_on v grows = goes_on t scene.rows n row f v due.at grows h.walked

  pub stopped : IsStop scene n row f → IsRefuted scene
  stopped stop dropped chain p e =
      let s : IsStopped t scene.rows = stops t scene.rows n row f due.at due.next.new h.walked stop in
      one_stop.none t (all_of scene) s.0 dropped chain s.1 p

  -- ---- the first segment covers it

  pub covers_first : w.closed ≡ [] → IsHere scene row w → Meets t.gauge (anchor_of w.anchor) w.rate.units o → IsEvaluated scene (n + 1) (gone_on w n row.tick w.rate)
  covers_first none here met = record {
    walked = subst (IsWalked t scene.rows (n + 1)) same (walked_on (gone_on f n row.tick f.rate) grows);
    held = λ some. absurd (let l = ap length none in omega arith);
    good = h.good;
    left = h.left;
    claimed = h.claimed;
  }
    where
      same : gone_on f n row.tick f.rate ≡ so_far t (gone_on w n row.tick w.rate)
      same = refl

      rate : rate_so_far t w ≡ w.rate.units
      rate = rate_first w.closed w.rate.units (middle_rate t w.least w.greatest) none

      met' : Meets t.gauge (anchor_of w.anchor) (rate_so_far t w) o
      met' = subst (λ (r : ℤ). Meets t.gauge (anchor_of w.anchor) r o) (sym rate) met

      grows : Grows scene n row f (gone_on f n row.tick f.rate)
      grows kept dropped k =
          let m = moves_on_first t (all_of scene) n f o kept dropped due.next.at due.next.rises due.next.new k none here met'
          (due_near scene n row due.next (longer (open_of f []) o f.rate.units) (record { low = met'.low; high = met'.high })) in
          (kept ++ o ∷ [], dropped, m.0, m.1)

  -- ---- a later segment covers it

  module _ (some : 0 < length w.closed) (r : Running) (runs : RunsOver scene n row f r) where
    run : IsRunning t f h.walked.walk.covered o r
    run = runs h.walked.kept h.walked.dropped h.walked.walk

    -- the claimed rate is of the interval with the observation where it meets that
    pub held_over : Meets t.gauge (anchor_of w.anchor) w.rate.units o → IsBetween t w.rate.units r.bounds.least r.bounds.greatest
    held_over met =
        let held = h.held some in
        let i = h.walked.walk.built.interval (some_front w.closed h.walked.walk.front h.walked.walk.tells some) in
        let a : Anchor = anchor_of w.anchor in
        let c : List Sight = h.walked.walk.covered in
        let allowed : IsAllowedStep t held.step = between t w.least w.greatest held.step
        (least_allowed (IsAllowedStep t) t.gauge a h.walked.walk.low h.walked.walk.high w.least w.greatest i.is_low.is_bound i.is_high.is_bound i.filled)
        (greatest_allowed (IsAllowedStep t) t.gauge a h.walked.walk.low h.walked.walk.high w.least w.greatest i.is_low.is_bound i.is_high.is_bound i.filled) held.from held.to in
        let all : AllByRecursion (Meets t.gauge a (on_grid t.gauge.rate_decimals held.step)) (c ++ o ∷ []) =
        all_append _ c (o ∷ [])
        (meets_within (IsAllowedStep t) t.gauge a c h.walked.walk.low h.walked.walk.high w.least w.greatest held.step i.is_low i.is_high allowed held.from held.to)
        (subst (λ (x : ℤ). Meets t.gauge a x o) held.is met, tt) in
        record {
          step = held.step;
          is = held.is;
          from = meets_from (IsAllowedStep t) t.gauge a (c ++ o ∷ []) run.first r.bounds.least held.step run.is_low allowed all;
          to = meets_to (IsAllowedStep t) t.gauge a (c ++ o ∷ []) run.second r.bounds.greatest held.step run.is_high allowed all;
        }

    abbrev middle : ℤ
    middle = middle_rate t r.bounds.least r.bounds.greatest

    abbrev gone : WalkView
    gone = gone_on (bounded w r) n row.tick w.rate

    walked_over : IsHere scene row w → r.bounds.least ≤ℤ r.bounds.greatest → IsWalked t scene.rows (n + 1) (so_far t gone)
    walked_over here filled = subst (IsWalked t scene.rows (n + 1)) same (walked_on (rated gone middle) grows)
      where
        same : rated gone middle ≡ so_far t gone
        same = ap (rated gone) (sym (rate_later w.closed w.rate.units middle some))

        good : IsRate middle
        good =
            let full = filled_run t f h.walked.walk.covered o r run filled in
            let m = middle_meets t (anchor_of w.anchor) (h.walked.walk.covered ++ o ∷ []) run.first run.second r.bounds.least r.bounds.greatest run.is_low run.is_high filled in
            subst IsRate (sym m.0.2) (allowed_rate scene m.0.0 due.next.given m.0.1)

        grows : Grows scene n row f (rated gone middle)
        grows kept dropped k =
            let full = filled_run t f h.walked.walk.covered o r run filled in
            let m = moves_on_later t (all_of scene) n f o kept dropped due.next.at due.next.rises due.next.new k r (record { units = middle }) some here (runs kept dropped k) filled refl good
            (due_near scene n row due.next (longer (open_of f []) o middle) (record { low = full.met.low; high = full.met.high })) in
            (kept ++ o ∷ [], dropped, m.0, m.1)

    pub covers_later : IsHere scene row w → Meets t.gauge (anchor_of w.anchor) w.rate.units o → IsEvaluated scene (n + 1) gone
    covers_later here met =
        let held = held_over met in
        record {
          walked = walked_over here (let p = held.from in let q = held.to in omega (arith, ints));
          held = λ _. held;
          good = h.good;
          left = h.left;
          claimed = h.claimed;
        }

    -- a segment that could have gone on over what its claimed line misses is no publication's
    pub could_go_on : IsHere scene row w → ¬ Meets t.gauge (anchor_of w.anchor) w.rate.units o → r.bounds.least ≤ℤ r.bounds.greatest → IsRefuted scene
    could_go_on here misses filled = refuted_by scene (n + 1) (so_far t gone) (walked_over here filled) none
      where
        none : Passes scene (so_far t gone) → ⊥
        none p =
            let same : line_triple w.anchor p.rate ≡ line_triple w.anchor w.rate.units =
            late_same w.closed (line_triple w.anchor p.rate) (line_triple w.anchor w.rate.units) p.more h.left some (sym p.claimed ∙ h.claimed) in
            let rate : p.rate ≡ w.rate.units = ap (λ (x : TripleView). x.rate) same in
            let held = p.between some in
            let full = filled_run t f h.walked.walk.covered o r run filled in
            let a : Anchor = anchor_of w.anchor in
            let allowed : IsAllowedStep t held.step = between t r.bounds.least r.bounds.greatest held.step full.least full.greatest held.from held.to in
            let all = meets_within (IsAllowedStep t) t.gauge a (h.walked.walk.covered ++ o ∷ []) run.first run.second r.bounds.least r.bounds.greatest held.step run.is_low run.is_high allowed held.from held.to in
            misses (subst (λ (x : ℤ). Meets t.gauge a x o) (sym held.is ∙ rate) (all_back _ h.walked.walk.covered (o ∷ []) all).0)

  -- ---- it is dropped

  pub waits : Grows scene n row f (dropped_at f n) → IsEvaluated scene (n + 1) (dropped_at w n)
  waits grows = record {
    walked = walked_on (dropped_at f n) grows;
    held = h.held;
    good = h.good;
    left = h.left;
    claimed = h.claimed;
  }

  -- ---- the next segment begins with it

  module _ (d : Due) (is_due : IsDue scene n row w d) where
    abbrev begins : Beginning
    begins = beginning_of d (middle_rate t d.bounds.least d.bounds.greatest)

    abbrev next : WalkView
    next = begun_at f d.ended begins n row.tick

    -- with the claimed rate
    abbrev taken : Fixed 18 → WalkView
    taken rate = begun_at w d.ended (record { anchor = d.anchor; rate = rate; bounds = d.bounds }) n row.tick

    walked_off : IsWalked t scene.rows (n + 1) next
    walked_off = walked_on next is_due.grows

    -- the claims with the rate so far, and the next one
    passed : (p : Passes scene next) → scene.claims ≡ late w.closed (line_triple w.anchor (rate_so_far t w)) ++ (line_triple d.anchor p.rate ∷ p.more)
    passed p = p.claimed ∙ ap (λ (z : List TripleView). z ++ p.more) (late_more w.closed (closed_as f d.ended) (line_triple d.anchor p.rate))
        ∙ append_assoc (late w.closed (line_triple w.anchor (rate_so_far t w))) (line_triple d.anchor p.rate ∷ []) p.more

    pub other_rate : ¬ (rate_so_far t w ≡ w.rate.units) → IsRefuted scene
    other_rate other = refuted_by scene (n + 1) next walked_off (λ p. by p w.closed refl)
      where
        by : Passes scene next → (closed : List Told) → w.closed ≡ closed → ⊥
        by p [] e = other (rate_first w.closed w.rate.units (middle_rate t w.least w.greatest) e)
        by p (s ∷ closed) e =
            let some : 0 < length w.closed = (let l = ap length e in omega arith) in
            other (ap (λ (x : TripleView). x.rate) (late_same w.closed (line_triple w.anchor (rate_so_far t w)) (line_triple w.anchor w.rate.units)
            (line_triple d.anchor p.rate ∷ p.more) h.left some (sym (passed p) ∙ h.claimed)))

    module _ (same : rate_so_far t w ≡ w.rate.units) where
      left_is : (p : Passes scene next) → h.left ≡ line_triple d.anchor p.rate ∷ p.more
      left_is p = cancel (begun w) h.left (line_triple d.anchor p.rate ∷ p.more)
          (sym h.claimed ∙ passed p ∙ ap (λ (x : ℤ). late w.closed (line_triple w.anchor x) ++ (line_triple d.anchor p.rate ∷ p.more)) same)

      later : 0 < length next.closed
      later = let l = length-append w.closed (closed_as f d.ended ∷ []) in omega arith

      -- no claim is left
      pub none_left : h.left ≡ [] → IsRefuted scene
      none_left none = refuted_by scene (n + 1) next walked_off (λ p. let e = sym none ∙ left_is p in let l = ap length e in omega arith)

      -- the next claim is another one
      pub other_claim : (c : TripleView) (more : List TripleView) → h.left ≡ c ∷ more
          → ¬ ((c.anchor ≡ anchor_of d.anchor) × IsBetween t c.rate d.bounds.least d.bounds.greatest) → IsRefuted scene
      other_claim c more is other = refuted_by scene (n + 1) next walked_off none
        where
          none : Passes scene next → ⊥
          none p =
              let e : c ≡ line_triple d.anchor p.rate = first c (line_triple d.anchor p.rate) more p.more (sym is ∙ left_is p) in
              other (
                ap (λ (x : TripleView). x.anchor) e,
                subst (λ (x : ℤ). IsBetween t x d.bounds.least d.bounds.greatest) (sym (ap (λ (x : TripleView). x.rate) e)) (p.between later),
              )
            where
              first : (a b : TripleView) (xs ys : List TripleView) → a ∷ xs ≡ b ∷ ys → a ≡ b
              first a b xs ys e = cc

      pub begins_next : (rate : Fixed 18) (more : List TripleView) → h.left ≡ line_triple d.anchor rate.units ∷ more → IsBetween t rate.units d.bounds.least d.bounds.greatest
          → IsEvaluated scene (n + 1) (begun_at w d.ended (record { anchor = d.anchor; rate = rate; bounds = d.bounds }) n row.tick)
      begins_next rate more is held = record {
        walked = subst (IsWalked t scene.rows (n + 1)) same_walk walked_off;
        held = λ _. held;
        good = subst IsRate (sym held.is) (allowed_rate scene held.step due.next.given allowed);
        left = more;
        claimed = h.claimed ∙ ap (λ (z : List TripleView). begun w ++ z) is ∙ sym (append_assoc (begun w) (line_triple d.anchor rate.units ∷ []) more)
            ∙ ap (λ (z : List TripleView). z ++ more) (sym (late_more w.closed (closed_as w d.ended) (line_triple d.anchor rate.units)));
      }
        where
          some : 0 < length (taken rate).closed
          some = let l = length-append w.closed (closed_as w d.ended ∷ []) in omega arith

          same_walk : next ≡ so_far t (taken rate)
          same_walk = ap (λ (x : ℤ). begun_at (rated w x) d.ended begins n row.tick) same
              ∙ ap (λ (x : ℤ). rated (taken rate) x) (sym (rate_later (taken rate).closed rate.units (middle_rate t d.bounds.least d.bounds.greatest) some))

          allowed : IsAllowedStep t held.step
          allowed = between t d.bounds.least d.bounds.greatest held.step
              (least_allowed (IsAllowedStep t) t.gauge (anchor_of d.anchor) (sight_at 0 row) (sight_at 0 row) d.bounds.least d.bounds.greatest is_due.begins.is_least is_due.begins.is_greatest is_due.begins.filled)
              (greatest_allowed (IsAllowedStep t) t.gauge (anchor_of d.anchor) (sight_at 0 row) (sight_at 0 row) d.bounds.least d.bounds.greatest is_due.begins.is_least is_due.begins.is_greatest is_due.begins.filled) held.from held.to

  -- ---- what is due

  abbrev made_begin : Line → Bounds → Beginning
  made_begin anchor bounds = record { anchor = anchor; rate = record { units = middle_rate t bounds.least bounds.greatest }; bounds = bounds }

  begin_is : (anchor : Line) (bounds : Bounds) → IsLeastRate (IsAllowedStep t) t.gauge (anchor_of anchor) (sight_at 0 row) bounds.least
      → IsGreatestRate (IsAllowedStep t) t.gauge (anchor_of anchor) (sight_at 0 row) bounds.greatest → bounds.least ≤ℤ bounds.greatest
      → IsBeginning t (sight_at 0 row) (made_begin anchor bounds)
  begin_is anchor bounds l g filled =
      let m = middle_meets t (anchor_of anchor) (sight_at 0 row ∷ []) (sight_at 0 row) (sight_at 0 row) bounds.least bounds.greatest
      (one_greatest (IsAllowedStep t) t.gauge (anchor_of anchor) (sight_at 0 row) bounds.least l)
      (one_least (IsAllowedStep t) t.gauge (anchor_of anchor) (sight_at 0 row) bounds.greatest g) filled in
      record {
        is_least = l;
        is_greatest = g;
        filled = filled;
        middle = refl;
        good = subst IsRate (sym m.0.2) (allowed_rate scene m.0.0 due.next.given m.0.1);
      }

  pub none_met : (anchor : Line) (bounds : Bounds) → IsLeastRate (IsAllowedStep t) t.gauge (anchor_of anchor) (sight_at 0 row) bounds.least
      → IsGreatestRate (IsAllowedStep t) t.gauge (anchor_of anchor) (sight_at 0 row) bounds.greatest → bounds.greatest <ℤ bounds.least → NoneMeets t anchor (sight_at 0 row)
  none_met anchor bounds l g empty m allowed met =
      none_meets (IsAllowedStep t) t.gauge (anchor_of anchor) (sight_at 0 row ∷ []) (sight_at 0 row) (sight_at 0 row) bounds.least bounds.greatest
      (one_greatest (IsAllowedStep t) t.gauge (anchor_of anchor) (sight_at 0 row) bounds.least l)
      (one_least (IsAllowedStep t) t.gauge (anchor_of anchor) (sight_at 0 row) bounds.greatest g) empty m allowed (met, tt)

  -- in the partition, where the line is left
  pub due_left : (ended : End) (anchor : Line) (bounds : Bounds) → IsHere scene row w → CanEndAs scene n row f ended
      → anchor_of anchor ≡ made f.leave_tick (rounded_up t (open_of f []) f.leave_tick)
      → IsLeastRate (IsAllowedStep t) t.gauge (anchor_of anchor) (sight_at 0 row) bounds.least
      → IsGreatestRate (IsAllowedStep t) t.gauge (anchor_of anchor) (sight_at 0 row) bounds.greatest → bounds.least ≤ℤ bounds.greatest
      → IsDue scene n row w (record { ended = ended; anchor = anchor; bounds = bounds })
  due_left ended anchor bounds here ends e l g filled =
      let b = begin_is anchor bounds l g filled in
      record { begins = b; grows = leaves_here scene n row f due.next built here ended (made_begin anchor bounds) ends e b }

  -- in another partition, at the observation
  pub due_anew : (anchor : Line) (bounds : Bounds) → ¬ IsHere scene row w → IsNotLater t (open_of f []) o
      → anchor_of anchor ≡ made row.tick (time_anew t (open_of f []) o)
      → IsLeastRate (IsAllowedStep t) t.gauge (anchor_of anchor) (sight_at 0 row) bounds.least
      → IsGreatestRate (IsAllowedStep t) t.gauge (anchor_of anchor) (sight_at 0 row) bounds.greatest
      → IsDue scene n row w (record { ended = Partition; anchor = anchor; bounds = bounds })
  due_anew anchor bounds away not_later e l g =
      let filled : bounds.least ≤ℤ bounds.greatest = by_lt_z bounds.greatest bounds.least (λ empty. absurd (anew_is_met scene n row f due.next anchor not_later e (none_met anchor bounds l g empty))) (λ le. le) in
      let b = begin_is anchor bounds l g filled in
      record { begins = b; grows = leaves_apart scene n row f due.next away not_later (made_begin anchor bounds) e b }

-- ---- all observations

slice_past : (xs ys : List TripleView) → slice_get (xs ++ ys) (length xs) ≡ slice_get ys 0
slice_past [] ys = refl
slice_past (x ∷ xs) ys = slice_past xs ys

-- the next claim is the first one that is left
pub claim_at : (scene : SceneView) (n : ℕ) (w : WalkView) (h : IsEvaluated scene n w) → slice_get scene.claims (length w.closed) ≡ slice_get h.left 0
claim_at scene n w h =
    ap (λ (z : List TripleView). slice_get z (length w.closed)) h.claimed
    ∙ ap (λ (k : ℕ). slice_get (begun w ++ h.left) k) (sym (late_number w.closed (line_triple w.anchor w.rate.units))) ∙ slice_past (begun w) h.left

pub none_at : (left : List TripleView) → slice_get left 0 ≡ None → left ≡ []
none_at [] e = refl
none_at (x ∷ left) e = absurd (some_none x e)
  where
    some_none : (x : TripleView) → Some x ≡ None → ⊥
    some_none x e = cc

pub some_at : (left : List TripleView) (c : TripleView) → slice_get left 0 ≡ Some c → (more : List TripleView) × (left ≡ c ∷ more)
some_at [] c e = absurd (none_some c e)
  where
    none_some : (c : TripleView) → None ≡ Some c → ⊥
    none_some c e = cc
some_at (x ∷ left) c e = (left, ap (λ (y : TripleView). y ∷ left) (same x c e))
  where
    same : (x c : TripleView) → Some x ≡ Some c → x ≡ c
    same x c e = cc

length-sights : (place : ℕ) (xs : List RowView) → length (sights_from place xs) ≡ length xs
length-sights place [] = refl
length-sights place (row ∷ xs) = ap suc (length-sights (place + 1) xs)

module _ (scene : SceneView) (w : WalkView) (h : IsEvaluated scene (length scene.rows) w) where
  abbrev u : Terms
  u = terms scene

  abbrev g : WalkView
  g = so_far u w

  whole : IsPublication u (all_of scene) h.walked.dropped (h.walked.walk.front ++ open_of g h.walked.walk.covered ∷ [])
  whole = record {
    kept = h.walked.kept;
    sorts = subst (λ (z : List Sight). Sorts u z h.walked.kept h.walked.dropped) (take_all (length scene.rows) (all_of scene) (let k = length-sights 0 scene.rows in omega arith)) h.walked.sorts;
    is_chain = h.walked.walk.built.chain;
  }

  -- the claims of a publication of all
  all_claims : (dropped : List Sight) (chain : List SegmentView) → IsPublication u (all_of scene) dropped chain → new_triples chain ≡ scene.claims
      → scene.claims ≡ late w.closed (line_triple w.anchor (rate_so_far u w)) ++ []
  all_claims dropped chain p e =
      let same = one_publication u (all_of scene) dropped h.walked.dropped chain (h.walked.walk.front ++ open_of g h.walked.walk.covered ∷ []) p whole in
      sym e ∙ ap new_triples same.1 ∙ new_of w.closed h.walked.walk.front (open_of g h.walked.walk.covered) [] h.walked.walk.tells

  pub last_rate : ¬ (rate_so_far u w ≡ w.rate.units) → IsRefuted scene
  last_rate other dropped chain p e = by w.closed refl
    where
      by : (closed : List Told) → w.closed ≡ closed → ⊥
      by [] is = other (rate_first w.closed w.rate.units (middle_rate u w.least w.greatest) is)
      by (s ∷ closed) is =
          let some : 0 < length w.closed = (let l = ap length is in omega arith) in
          other (ap (λ (x : TripleView). x.rate) (late_same w.closed (line_triple w.anchor (rate_so_far u w)) (line_triple w.anchor w.rate.units)
          [] h.left some (sym (all_claims dropped chain p e) ∙ h.claimed)))

  pub more_claims : ¬ (length scene.claims ≡ length w.closed) → IsRefuted scene
  more_claims other dropped chain p e =
      other (ap length (all_claims dropped chain p e ∙ append-nil (late w.closed (line_triple w.anchor (rate_so_far u w))))
      ∙ late_number w.closed (line_triple w.anchor (rate_so_far u w)))

  -- no claim is left
  pub all_begun : length scene.claims ≡ length w.closed → scene.claims ≡ begun w
  all_begun e = by h.left h.claimed
    where
      by : (left : List TripleView) → scene.claims ≡ begun w ++ left → scene.claims ≡ begun w
      by [] c = c ∙ append-nil (begun w)
      by (x ∷ left) c = absurd (let l = ap length c in let k = length-append (begun w) (x ∷ left) in let m = late_number w.closed (line_triple w.anchor w.rate.units) in omega arith)

-- the triples of all that is told
pub told_claims : (w : WalkView) (list : List Told) → list ≡ w.closed ++ closed_as w Last ∷ [] → map triple_of (drop 1 list) ≡ begun w
told_claims w list e = ap (λ (z : List Told). map triple_of (drop 1 z)) e ∙ by w.closed
  where
    added : (xs : List Told) → map triple_of (xs ++ closed_as w Last ∷ []) ≡ map triple_of xs ++ line_triple w.anchor w.rate.units ∷ []
    added [] = refl
    added (y ∷ xs) = ap (λ (z : List TripleView). triple_of y ∷ z) (added xs)

    by : (closed : List Told) → map triple_of (drop 1 (closed ++ closed_as w Last ∷ [])) ≡ late closed (line_triple w.anchor w.rate.units)
    by [] = refl
    by (s ∷ closed) = added closed

-- the ends of the running interval are allowed rates
pub interval_ends : (scene : SceneView) (w : WalkView) (n : ℕ) (h : IsEvaluated scene n w) → 0 < length w.closed
    → IsAllowedStep (terms scene) w.least × IsAllowedStep (terms scene) w.greatest
interval_ends scene w n h some =
    let t : Terms = terms scene in
    let i = h.walked.walk.built.interval (some_front w.closed h.walked.walk.front h.walked.walk.tells some) in (
      least_allowed (IsAllowedStep t) t.gauge (anchor_of w.anchor) h.walked.walk.low h.walked.walk.high w.least w.greatest i.is_low.is_bound i.is_high.is_bound i.filled,
      greatest_allowed (IsAllowedStep t) t.gauge (anchor_of w.anchor) h.walked.walk.low h.walked.walk.high w.least w.greatest i.is_low.is_bound i.is_high.is_bound i.filled,
    )

-- the line, with the rate so far, is not too late for an observation
pub not_late : (t : Terms) (o : Sight) (anchor anchor' : Line) (rate rate' : ℤ) → anchor ≡ anchor' → rate ≡ rate'
    → line_at t.gauge (anchor_of anchor) rate o.tick ≤ℤ scaled t.gauge (o.time +ℤ t.gauge.tolerance) → IsNotLater t (open_at anchor' rate' []) o
not_late t o anchor anchor' rate rate' e r h =
    subst (λ (a : Line). IsNotLater t (open_at a rate' []) o) e (subst (λ (x : ℤ). IsNotLater t (open_at anchor x []) o) r h)

-- the anchor at an observation of a later partition, with the rate so far
pub anew_at : (scene : SceneView) (row : RowView) (w : WalkView) (anchor line own : Line) (rate : ℤ) (tick : ℕ) → own ≡ w.anchor
    → rate ≡ rate_so_far (terms scene) w → tick ≡ row.tick
    → anchor_of line ≡ made tick (rounded_up (terms scene) (open_at own rate []) tick)
    → anchor_of anchor ≡ made row.tick (int_max (row.time *ℤ pos (10 ^ 6)) line.time.units)
    → anchor_of anchor ≡ made row.tick (time_anew (terms scene) (open_of (so_far (terms scene) w) []) (sight_at 0 row))
anew_at scene row w anchor line own rate tick same is there at e =
    e ∙ ap (λ (x : ℤ). made row.tick (int_max (row.time *ℤ pos (10 ^ 6)) x))
    (ap (λ (a : Anchor). a.time) at ∙ ap (λ (k : ℕ). rounded_up (terms scene) (open_at own rate []) k) there
    ∙ ap (λ (a : Line). rounded_up (terms scene) (open_at a rate []) row.tick) same
    ∙ ap (λ (r : ℤ). rounded_up (terms scene) (open_at w.anchor r []) row.tick) is)

-- the anchor that the line leaves, with the rate so far
pub anchor_left : (scene : SceneView) (w : WalkView) (anchor : Line) (v : WalkView) (rate : ℤ) → v ≡ w → rate ≡ rate_so_far (terms scene) w
    → anchor_of anchor ≡ made v.leave_tick (rounded_up (terms scene) (open_at v.anchor rate []) v.leave_tick)
    → anchor_of anchor ≡ made w.leave_tick (rounded_up (terms scene) (open_of (so_far (terms scene) w) []) w.leave_tick)
anchor_left scene w anchor v rate same is e =
    e ∙ ap (λ (x : WalkView). made x.leave_tick (rounded_up (terms scene) (open_at x.anchor rate []) x.leave_tick)) same
    ∙ ap (λ (r : ℤ). made w.leave_tick (rounded_up (terms scene) (open_at w.anchor r []) w.leave_tick)) is
