-- How a chain grows by one observation: its last segment goes on, or ends, and then a further one begins.
use Rattle.std.proofs.Common.{◌≡◌, ◌⊎◌, ◌<◌, List, [], ◌∷◌, ◌++◌, length, refl, sym, ap, subst, inl, inr, ◌∙◌, append_assoc, append-nil, length-append, arith}
use Rattle.std.proofs.lemmas.List.{get_or_append_left}
use Rattle.std.specs.Prelude.{ℤ, Option, Some, None}
use Rattle.std.specs.List.{Any}
use Rattle.sk_publishing.specs.Terms.{Sight, Terms, partition_at}
use Rattle.sk_line.specs.Triple.{Anchor}
use Rattle.sk_publishing.specs.Meets.{Meets}
use Rattle.sk_publishing.specs.Rates.{IsMiddleRate}
use Rattle.sk_publishing.specs.Chain.{EndView, LastEnd, IsAllowedStep, SegmentView, first_of, covered_by, first_or, EachFollowed, FirstAndLater, EachJoined, ForNext, IsInPartition, IsOldRate, IsGridRate, HasRate, IsMaximal, anchor_due, IsNotLater, IsFixed, IsBlocked, IsEnded, IsChain, BeginsWithOld, LaterCover}
use Rattle.sk_line.proofs.Lists.{all_front, all_back, all_append}
use Rattle.sk_publishing.proofs.Chains.{first_or_append}
use Rattle.sk_publishing.proofs.Sorting.{covered-append}

-- the fact of the last segment: that of a first one where it stands alone
abbrev pub At : (SegmentView → Option Sight → Type 0) → (SegmentView → Option Sight → Type 0) → List SegmentView → SegmentView → Option Sight → Type 0
At P Q [] x n = P x n
At P Q (y ∷ ys) x n = Q x n

covered_one : (x : SegmentView) → covered_by (x ∷ []) ≡ x.covered
covered_one x = append-nil x.covered

-- what follows a run, where the last segment stands behind
follows : (ys : List SegmentView) (x : SegmentView) (n : Option Sight) → first_or (covered_by (ys ++ x ∷ [])) n ≡ first_or (covered_by ys) (first_or x.covered n)
follows ys x n = ap (λ (z : List Sight). first_or z n) (covered-append ys (x ∷ []) ∙ ap (λ (z : List Sight). covered_by ys ++ z) (covered_one x))
    ∙ first_or_append (covered_by ys) x.covered n

pub followed_split : (P : SegmentView → Option Sight → Type 0) (ys : List SegmentView) (x : SegmentView) (n : Option Sight)
    → EachFollowed P (ys ++ x ∷ []) n → EachFollowed P ys (first_or x.covered n) × P x n
followed_split P [] x n h = (tt, h.0)
followed_split P (y ∷ ys) x n h =
    let r = followed_split P ys x n h.1 in
    ((subst (P y) (follows ys x n) h.0, r.0), r.1)

pub followed_join : (P : SegmentView → Option Sight → Type 0) (ys : List SegmentView) (x : SegmentView) (n : Option Sight)
    → EachFollowed P ys (first_or x.covered n) → P x n → EachFollowed P (ys ++ x ∷ []) n
followed_join P [] x n h k = (k, tt)
followed_join P (y ∷ ys) x n h k = (subst (P y) (sym (follows ys x n)) h.0, followed_join P ys x n h.1 k)

pub split : (P Q : SegmentView → Option Sight → Type 0) (ys : List SegmentView) (x : SegmentView) (n : Option Sight)
    → FirstAndLater P Q (ys ++ x ∷ []) n → FirstAndLater P Q ys (first_or x.covered n) × At P Q ys x n
split P Q [] x n h = (tt, h.0)
split P Q (y ∷ ys) x n h =
    let r = followed_split Q ys x n h.1 in
    ((subst (P y) (follows ys x n) h.0, r.0), r.1)

pub join : (P Q : SegmentView → Option Sight → Type 0) (ys : List SegmentView) (x : SegmentView) (n : Option Sight)
    → FirstAndLater P Q ys (first_or x.covered n) → At P Q ys x n → FirstAndLater P Q (ys ++ x ∷ []) n
join P Q [] x n h k = (k, tt)
join P Q (y ∷ ys) x n h k = (subst (P y) (sym (follows ys x n)) h.0, followed_join Q ys x n h.1 k)

-- joins of neighbours, where the last one is changed and where one is added
pub joined_change : (R : SegmentView → SegmentView → Type 0) (ys : List SegmentView) (x x' : SegmentView)
    → ((b : SegmentView) → R b x → R b x') → EachJoined R (ys ++ x ∷ []) → EachJoined R (ys ++ x' ∷ [])
joined_change R [] x x' f h = tt
joined_change R (y ∷ []) x x' f h = (f y h.0, tt)
joined_change R (y ∷ z ∷ ys) x x' f h = (h.0, joined_change R (z ∷ ys) x x' f h.1)

pub joined_add : (R : SegmentView → SegmentView → Type 0) (ys : List SegmentView) (x s : SegmentView)
    → EachJoined R (ys ++ x ∷ []) → R x s → EachJoined R ((ys ++ x ∷ []) ++ s ∷ [])
joined_add R [] x s h r = (r, tt)
joined_add R (y ∷ []) x s h r = (h.0, (r, tt))
joined_add R (y ∷ z ∷ ys) x s h r = (h.0, joined_add R (z ∷ ys) x s h.1 r)

begins_change : (t : Terms) (ys : List SegmentView) (x x' : SegmentView) → x.anchor ≡ x'.anchor → (x.rate ≡ x'.rate) ⊎ (0 < length ys)
    → BeginsWithOld t (ys ++ x ∷ []) → BeginsWithOld t (ys ++ x' ∷ [])
begins_change t [] x x' e (inl f) h = (sym e ∙ h.0, sym f ∙ h.1)
begins_change t [] x x' e (inr f) h = absurd (omega arith)
begins_change t (y ∷ ys) x x' e f h = h

begins_add : (t : Terms) (ys : List SegmentView) (x s : SegmentView) → BeginsWithOld t (ys ++ x ∷ []) → BeginsWithOld t ((ys ++ x ∷ []) ++ s ∷ [])
begins_add t [] x s h = h
begins_add t (y ∷ ys) x s h = h

cover_change : (ys : List SegmentView) (x x' : SegmentView) → ((0 < length ys → 0 < length x'.covered)) → LaterCover (ys ++ x ∷ []) → LaterCover (ys ++ x' ∷ [])
cover_change [] x x' f h = tt
cover_change (y ∷ ys) x x' f h = all_append _ ys (x' ∷ []) (all_front _ ys (x ∷ []) h) (f (omega arith), tt)

cover_add : (ys : List SegmentView) (x s : SegmentView) → 0 < length s.covered → LaterCover (ys ++ x ∷ []) → LaterCover ((ys ++ x ∷ []) ++ s ∷ [])
cover_add [] x s f h = (f, tt)
cover_add (y ∷ ys) x s f h = all_append _ (ys ++ x ∷ []) (s ∷ []) h (f, tt)

front_same : (P Q : SegmentView → Option Sight → Type 0) (front : List SegmentView) (c : List Sight) (n n' : Option Sight)
    → (0 < length front → 0 < length c) → FirstAndLater P Q front (first_or c n) → FirstAndLater P Q front (first_or c n')
front_same P Q [] c n n' f h = tt
front_same P Q (y ∷ ys) [] n n' f h = absurd (let e : 0 < length {A = Sight} [] = f (omega arith) in omega arith)
front_same P Q (y ∷ ys) (o ∷ c) n n' f h = h

module _ (t : Terms) where
  abbrev Rated : SegmentView → Option Sight → Type 0
  Rated s _ = HasRate (IsOldRate t) t s

  abbrev RatedLater : SegmentView → Option Sight → Type 0
  RatedLater s _ = HasRate (IsGridRate t) t s

  abbrev Any' : SegmentView → Option Sight → Type 0
  Any' _ _ = Unit {0}

  abbrev Middle : SegmentView → Option Sight → Type 0
  Middle s _ = IsMiddleRate (IsAllowedStep t) t.gauge s.anchor s.covered s.rate

  -- the last segment with another end
  abbrev pub ended_as : SegmentView → EndView → SegmentView
  ended_as s e = record { anchor = s.anchor; rate = s.rate; covered = s.covered; ended = e }

  rated_at : (front : List SegmentView) (last : SegmentView) (e : EndView) → At Rated RatedLater front last None → At Rated RatedLater front (ended_as last e) None
  rated_at [] last e h = h
  rated_at (y ∷ ys) last e h = h

  middle_at : (front : List SegmentView) (last : SegmentView) (e : EndView) → At Any' Middle front last None → At Any' Middle front (ended_as last e) None
  middle_at [] last e h = h
  middle_at (y ∷ ys) last e h = h

  maximal_at : (front : List SegmentView) (last : SegmentView) (e : EndView) (n : Option Sight)
      → At (IsMaximal (IsOldRate t) t) (IsMaximal (IsGridRate t) t) front last n → At (IsMaximal (IsOldRate t) t) (IsMaximal (IsGridRate t) t) front (ended_as last e) n
  maximal_at [] last e n h = h
  maximal_at (y ∷ ys) last e n h = h

  -- A chain of all so far, whose last segment cannot go on over o, is a chain so far at o, once that segment is ended rightly.
  pub end_at : (kept : List Sight) (front : List SegmentView) (last : SegmentView) (o : Sight) (e : EndView)
      → (0 < length front → 0 < length last.covered)
      → At (IsMaximal (IsOldRate t) t) (IsMaximal (IsGridRate t) t) front last (Some o)
      → At (IsEnded IsFixed t) (IsEnded IsBlocked t) front (ended_as last e) (Some o)
      → IsChain t kept None (front ++ last ∷ []) → IsChain t kept (Some o) (front ++ ended_as last e ∷ [])
  end_at kept front last o e some maximal ended p =
      let rates = split Rated RatedLater front last None p.meets in
      let middle = split Any' Middle front last None p.middle in
      let max = split (IsMaximal (IsOldRate t) t) (IsMaximal (IsGridRate t) t) front last None p.maximal in
      let ends = split (IsEnded IsFixed t) (IsEnded IsBlocked t) front last None p.ends in
      record {
        runs = record {
          begins = begins_change t front last (ended_as last e) refl (inl refl) p.runs.begins;
          joined = covered-append front (ended_as last e ∷ []) ∙ sym (covered-append front (last ∷ [])) ∙ p.runs.joined;
          later = cover_change front last (ended_as last e) some p.runs.later;
        };
        partition = all_append _ front (ended_as last e ∷ []) (all_front _ front (last ∷ []) p.partition) ((all_back _ front (last ∷ []) p.partition).0, tt);
        meets = join Rated RatedLater front (ended_as last e) None rates.0 (rated_at front last e rates.1);
        anchor_within = joined_change _ front last (ended_as last e) (λ b h. h) p.anchor_within;
        anchor_anew = joined_change _ front last (ended_as last e) (λ b h. h) p.anchor_anew;
        past_anchor = joined_change _ front last (ended_as last e) (λ b h. h) p.past_anchor;
        middle = join Any' Middle front (ended_as last e) None middle.0 (middle_at front last e middle.1);
        maximal = join (IsMaximal (IsOldRate t) t) (IsMaximal (IsGridRate t) t) front (ended_as last e) (Some o)
            (front_same (IsMaximal (IsOldRate t) t) (IsMaximal (IsGridRate t) t) front last.covered None (Some o) some max.0) (maximal_at front last e (Some o) maximal);
        ends = join (IsEnded IsFixed t) (IsEnded IsBlocked t) front (ended_as last e) (Some o) (front_same (IsEnded IsFixed t) (IsEnded IsBlocked t) front last.covered None (Some o) some ends.0) ended;
      }

  at_later : (P Q : SegmentView → Option Sight → Type 0) (front : List SegmentView) (last s : SegmentView) (n : Option Sight)
      → Q s n → At P Q (front ++ last ∷ []) s n
  at_later P Q [] last s n h = h
  at_later P Q (y ∷ ys) last s n h = h

  add : (P Q : SegmentView → Option Sight → Type 0) (front : List SegmentView) (last s : SegmentView) (n : Option Sight)
      → FirstAndLater P Q (front ++ last ∷ []) (first_or s.covered n) → Q s n → FirstAndLater P Q ((front ++ last ∷ []) ++ s ∷ []) n
  add P Q front last s n h k = join P Q (front ++ last ∷ []) s n h (at_later P Q front last s n k)

  -- where what follows does not matter
  unfollowed : (P Q : SegmentView → Type 0) (ys : List SegmentView) (n n' : Option Sight)
      → FirstAndLater (λ s _. P s) (λ s _. Q s) ys n → FirstAndLater (λ s _. P s) (λ s _. Q s) ys n'
  unfollowed P Q [] n n' h = tt
  unfollowed P Q (y ∷ ys) n n' h = (h.0, later ys n n' h.1)
    where
      later : (ys : List SegmentView) (n n' : Option Sight) → EachFollowed (λ s _. Q s) ys n → EachFollowed (λ s _. Q s) ys n'
      later [] n n' h = tt
      later (y ∷ ys) n n' h = (h.0, later ys n n' h.1)

  -- A chain so far at o, and a further segment that begins with o from the anchor due, are a chain of all up to o.
  pub begin_at : (kept : List Sight) (front : List SegmentView) (last : SegmentView) (o : Sight) (rate : ℤ) (anchor : Anchor)
      → anchor ≡ anchor_due t last o
      → (¬ IsInPartition t last o → IsNotLater t last o)
      → partition_at t o.tick ≡ partition_at t anchor.ticks
      → last.anchor.ticks < anchor.ticks
      → (partition_at t anchor.ticks ≡ partition_at t last.anchor.ticks → anchor.ticks < o.tick)
      → IsGridRate t rate → Meets t.gauge anchor rate o
      → IsMiddleRate (IsAllowedStep t) t.gauge anchor (o ∷ []) rate
      → IsChain t kept (Some o) (front ++ last ∷ [])
      → IsChain t (kept ++ o ∷ []) None ((front ++ last ∷ []) ++ record { anchor = anchor; rate = rate; covered = o ∷ []; ended = LastEnd } ∷ [])
  begin_at kept front last o rate anchor due later here rises past allowed meets middle p =
      let s : SegmentView = record { anchor = anchor; rate = rate; covered = o ∷ []; ended = LastEnd } in
      record {
        runs = record {
          begins = begins_add t front last s p.runs.begins;
          joined = covered-append (front ++ last ∷ []) (s ∷ []) ∙ ap (λ (z : List Sight). z ++ o ∷ []) p.runs.joined;
          later = cover_add front last s (omega arith) p.runs.later;
        };
        partition = all_append _ (front ++ last ∷ []) (s ∷ []) p.partition ((here, tt), tt);
        meets = add Rated RatedLater front last s None (unfollowed (HasRate (IsOldRate t) t) (HasRate (IsGridRate t) t) (front ++ last ∷ []) None (Some o) p.meets) (allowed, (meets, tt));
        anchor_within = joined_add _ front last s p.anchor_within (λ _. due);
        anchor_anew = joined_add _ front last s p.anchor_anew (λ h. (due, later h));
        past_anchor = joined_add _ front last s p.past_anchor (rises, λ e. (0, o, omega arith, refl, past e));
        middle = add Any' Middle front last s None (unfollowed (λ _. Unit {0}) (λ s. IsMiddleRate (IsAllowedStep t) t.gauge s.anchor s.covered s.rate) (front ++ last ∷ []) None (Some o) p.middle) middle;
        maximal = add (IsMaximal (IsOldRate t) t) (IsMaximal (IsGridRate t) t) front last s None p.maximal tt;
        ends = add (IsEnded IsFixed t) (IsEnded IsBlocked t) front last s None p.ends refl;
      }

  -- A chain of all so far goes on over o in the last segment, with another rate.
  pub go_on : (kept : List Sight) (front : List SegmentView) (last : SegmentView) (o : Sight) (rate : ℤ)
      → (0 < length front → 0 < length last.covered)
      → IsInPartition t last o
      → (last.rate ≡ rate) ⊎ (0 < length front)
      → At Rated RatedLater front (record { anchor = last.anchor; rate = rate; covered = last.covered ++ o ∷ []; ended = LastEnd }) None
      → At Any' Middle front (record { anchor = last.anchor; rate = rate; covered = last.covered ++ o ∷ []; ended = LastEnd }) None
      → IsChain t kept None (front ++ last ∷ [])
      → IsChain t (kept ++ o ∷ []) None (front ++ record { anchor = last.anchor; rate = rate; covered = last.covered ++ o ∷ []; ended = LastEnd } ∷ [])
  go_on kept front last o rate some here keeps rated middle p =
      let s : SegmentView = record { anchor = last.anchor; rate = rate; covered = last.covered ++ o ∷ []; ended = LastEnd } in
      let rates = split Rated RatedLater front last None p.meets in
      let mid = split Any' Middle front last None p.middle in
      let max = split (IsMaximal (IsOldRate t) t) (IsMaximal (IsGridRate t) t) front last None p.maximal in
      let ends = split (IsEnded IsFixed t) (IsEnded IsBlocked t) front last None p.ends in
      let own = all_back _ front (last ∷ []) p.partition in
      record {
        runs = record {
          begins = begins_change t front last s refl keeps p.runs.begins;
          joined = covered-append front (s ∷ []) ∙ ap (λ (z : List Sight). covered_by front ++ z) (append-nil (last.covered ++ o ∷ []))
              ∙ sym (append_assoc (covered_by front) last.covered (o ∷ []))
              ∙ ap (λ (z : List Sight). z ++ o ∷ []) (ap (λ (z : List Sight). covered_by front ++ z) (sym (append-nil last.covered))
              ∙ sym (covered-append front (last ∷ [])) ∙ p.runs.joined);
          later = cover_change front last s (λ _. longer last.covered o) p.runs.later;
        };
        partition = all_append _ front (s ∷ []) (all_front _ front (last ∷ []) p.partition) (all_append _ last.covered (o ∷ []) own.0 (here, tt), tt);
        meets = join Rated RatedLater front s None (unfollowed (HasRate (IsOldRate t) t) (HasRate (IsGridRate t) t) front (first_or last.covered None) (first_or s.covered None) rates.0) rated;
        anchor_within = same_joins (λ b a f. ForNext f (λ o. IsInPartition t b o → a ≡ anchor_due t b o)) front some p.anchor_within;
        anchor_anew = same_joins (λ b a f. ForNext f (λ o. ¬ IsInPartition t b o → (a ≡ anchor_due t b o) × IsNotLater t b o)) front some p.anchor_anew;
        past_anchor = joined_change _ front last s (λ b h. (h.0, λ e. any_longer s.anchor last.covered o (h.1 e))) p.past_anchor;
        middle = join Any' Middle front s None (unfollowed (λ _. Unit {0}) (λ s. IsMiddleRate (IsAllowedStep t) t.gauge s.anchor s.covered s.rate) front (first_or last.covered None) (first_or s.covered None) mid.0) middle;
        maximal = join (IsMaximal (IsOldRate t) t) (IsMaximal (IsGridRate t) t) front s None
            (same_first (IsMaximal (IsOldRate t) t) (IsMaximal (IsGridRate t) t) front last.covered o some max.0) (no_next front s);
        ends = join (IsEnded IsFixed t) (IsEnded IsBlocked t) front s None
            (same_first (IsEnded IsFixed t) (IsEnded IsBlocked t) front last.covered o some ends.0) (last_end front s refl);
      }
    where
      longer : (c : List Sight) (o : Sight) → 0 < length (c ++ o ∷ [])
      longer [] o = omega arith
      longer (x ∷ c) o = omega arith

      any_longer : (a : Anchor) (c : List Sight) (o : Sight) → Any (λ x. a.ticks < x.tick) c → Any (λ x. a.ticks < x.tick) (c ++ o ∷ [])
      any_longer a c o h = (h.0, h.1, (let l = length-append c (o ∷ []) in let k = h.2 in omega arith), get_or_append_left c (o ∷ []) h.1 h.0 h.2 ∙ h.3, h.4)

      no_next : (front : List SegmentView) (s : SegmentView) → At (IsMaximal (IsOldRate t) t) (IsMaximal (IsGridRate t) t) front s None
      no_next [] s = tt
      no_next (y ∷ ys) s = tt

      last_end : (front : List SegmentView) (s : SegmentView) → s.ended ≡ LastEnd → At (IsEnded IsFixed t) (IsEnded IsBlocked t) front s None
      last_end [] s e = e
      last_end (y ∷ ys) s e = e

      same_first : (P Q : SegmentView → Option Sight → Type 0) (front : List SegmentView) (c : List Sight) (o : Sight)
          → (0 < length front → 0 < length c) → FirstAndLater P Q front (first_or c None) → FirstAndLater P Q front (first_or (c ++ o ∷ []) None)
      same_first P Q [] c o f h = tt
      same_first P Q (y ∷ ys) [] o f h = absurd (let e : 0 < length {A = Sight} [] = f (omega arith) in omega arith)
      same_first P Q (y ∷ ys) (x ∷ c) o f h = h

      first_of_more : (c : List Sight) (o : Sight) → 0 < length c → first_of (c ++ o ∷ []) ≡ first_of c
      first_of_more [] o h = absurd (omega arith)
      first_of_more (x ∷ c) o h = refl

      same_joins : (R : SegmentView → Anchor → Option Sight → Type 0) (front : List SegmentView) → (0 < length front → 0 < length last.covered)
          → EachJoined (λ b s. R b s.anchor (first_of s.covered)) (front ++ last ∷ [])
          → EachJoined (λ b s. R b s.anchor (first_of s.covered)) (front ++ record { anchor = last.anchor; rate = rate; covered = last.covered ++ o ∷ []; ended = LastEnd } ∷ [])
      same_joins R [] f h = tt
      same_joins R (y ∷ ys) f h = joined_change (λ b s. R b s.anchor (first_of s.covered)) (y ∷ ys) last _
          (λ b r. subst (R b last.anchor) (sym (first_of_more last.covered o (f (omega arith)))) r) h
