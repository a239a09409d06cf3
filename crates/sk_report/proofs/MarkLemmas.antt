-- Marks, one after the other.
use Rattle.std.proofs.Common.{◌≡◌, ◌≢◌, ℕ, zero, suc, ◌+◌, ◌<◌, ◌≤◌, Bool, true, false, cond, ◌||◌, eqb, List, [], ◌∷◌, ◌++◌, length, take, get_or, set, map, Option, None, Some, IfSome, MatchOption, refl, sym, ap, subst, arith, ◌∙◌}
use Rattle.std.proofs.lemmas.Bool.{eqb-true, eqb-false}
use Rattle.std.proofs.lemmas.List.{take_more, get_or-set_same, get_or-set_other, length-set}
use Rattle.std.proofs.lemmas.List.Folds.{list_any-append}
use Rattle.std.proofs.Math.Bool.{or-false, or-true}
use Rattle.std.specs.Prelude.{find, is_none, nat_le, if◌then◌else◌, codes}
use Rattle.std.specs.List.{list_any, AllByRecursion}
use Rattle.std.specs.Option.{option_map, option_map_or}
use Rattle.sk_publishing.specs.Row.{RowView}
use Rattle.sk_publishing.specs.Terms.{sights}
use Rattle.sk_publishing.specs.Chain.{SegmentView}
use Rattle.sk_publishing.specs.Table.{is_left_at, end_text}
use Rattle.sk_fit.specs.declared.chain.Chain.{Chain}
use Rattle.sk_fit.specs.declared.chain.Segment.{Segment}
use Rattle.sk_fit.specs.declared.chain.End.{End}
use Rattle.sk_fit.specs.Given.{chain_view, segment_view}
use Rattle.sk_fit.specs.Over.{IsEndOver, IsSegmentWithin, IsChainOver}
use Rattle.sk_report.specs.declared.marks.Marks.{Marks}
use Rattle.sk_report.specs.Marks.{AreOver, Tells, end_words}
use Rattle.sk_report.specs.Ends.{IsMarked, AreEnds, leaves, marked_end}
use Rattle.sk_report.proofs.Lasts.{leaves_none, leaves_at}

-- ---- dropped places

any_push : (p : ℕ → Bool) (xs : List ℕ) (x : ℕ) → list_any p (xs ++ x ∷ []) ≡ (list_any p xs || p x)
any_push p xs x = list_any-append p xs (x ∷ []) ∙ ap (λ (b : Bool). list_any p xs || b) (or-false (p x))

marked_at : (marked : List Bool) (xs : List ℕ) (d place : ℕ) → place < length marked → get_or marked place false ≡ list_any (λ x. eqb x place) xs
    → (b : Bool) → eqb d place ≡ b → get_or (set marked d true) place false ≡ (list_any (λ x. eqb x place) xs || eqb d place)
marked_at marked xs d place less so_far true e =
    let same : d ≡ place = eqb-true d place e in
    ap (λ (k : ℕ). get_or (set marked k true) place false) same ∙ get_or-set_same marked place true false less
    ∙ sym (ap (λ (b : Bool). list_any (λ x. eqb x place) xs || b) e ∙ or-true (list_any (λ x. eqb x place) xs))
marked_at marked xs d place less so_far false e =
    get_or-set_other marked d place true false (λ same. eqb-false d place e (sym same)) ∙ so_far
    ∙ sym (ap (λ (b : Bool). list_any (λ x. eqb x place) xs || b) e ∙ or-false (list_any (λ x. eqb x place) xs))

pub mark_more : (marked marked' : List Bool) (listed : List ℕ) (i d : ℕ) → i < length listed → d ≡ get_or listed i d → marked' ≡ set marked d true
    → IsMarked (take i listed) marked → IsMarked (take (i + 1) listed) marked'
mark_more marked marked' listed i d less at is so_far place within =
    let long : length marked' ≡ length marked = ap length is ∙ length-set marked d true in
    let more : take (i + 1) listed ≡ take i listed ++ d ∷ [] = take_more listed i d less ∙ ap (λ (x : ℕ). take i listed ++ x ∷ []) (sym at) in
    ap (λ (bs : List Bool). get_or bs place false) is
    ∙ marked_at marked (take i listed) d place (omega arith) (so_far place (omega arith)) (eqb d place) refl
    ∙ sym (ap (λ (xs : List ℕ). list_any (λ x. eqb x place) xs) more ∙ any_push (λ x. eqb x place) (take i listed) d)

-- ---- ends

abbrev then_find : Option Segment → Bool → Segment → Option Segment
then_find None b s = cond b (Some s) None
then_find (Some t) b s = Some t

find_step : (b : Bool) (a s : Segment) (before after : Option Segment) (c : Bool) → after ≡ then_find before c s → cond b (Some a) after ≡ then_find (cond b (Some a) before) c s
find_step true a s before after c e = refl
find_step false a s before after c e = e

find_push : (f : Segment → Bool) (xs : List Segment) (s : Segment) → find f (xs ++ s ∷ []) ≡ then_find (find f xs) (f s) s
find_push f [] s = refl
find_push f (a ∷ xs) s = find_step (f a) a s (find f xs) (find f (xs ++ s ∷ [])) (f s) (find_push f xs s)

then_false : (o : Option Segment) (s : Segment) → then_find o false s ≡ o
then_false None s = refl
then_false (Some t) s = refl

abbrev ended_of : Option Segment → Option End
ended_of o = option_map (λ s. s.ended) o

set_here : (ends : List (Option End)) (q : ℕ) (s : Segment) (o : Option Segment) → q < length ends → get_or ends q None ≡ ended_of o
    → get_or (marked_end ends (Some q) s.ended) q None ≡ ended_of (then_find o true s)
set_here ends q s None less e =
    ap (λ (x : Option End). get_or (cond (is_none x) (set ends q (Some s.ended)) ends) q None) e ∙ get_or-set_same ends q (Some s.ended) None less
set_here ends q s (Some t) less e =
    ap (λ (x : Option End). get_or (cond (is_none x) (set ends q (Some s.ended)) ends) q None) e ∙ e

set_elsewhere : (b : Bool) (ends : List (Option End)) (q place : ℕ) (x : Option End) → place ≢ q → get_or (cond b (set ends q x) ends) place None ≡ get_or ends place None
set_elsewhere true ends q place x other = get_or-set_other ends q place x None other
set_elsewhere false ends q place x other = refl

-- the last place that is not marked from first to before past
abbrev pub LeftAt : List Bool → ℕ → ℕ → Option ℕ → Type 0
LeftAt dropped first past left = MatchOption left
    ((k : ℕ) → first ≤ k → k < past → get_or dropped k false ≡ true)
    (λ place. (first ≤ place) × (place < past) × (get_or dropped place false ≡ false) × ((k : ℕ) → place < k → k < past → get_or dropped k false ≡ true))

module _ (rows : List RowView) (listed : List ℕ) (dropped : List Bool) (long : length rows ≡ length dropped) (marked : IsMarked listed dropped) where
  listed_at : (k : ℕ) (b : Bool) → k < length dropped → get_or dropped k false ≡ b → list_any (λ d. eqb d k) listed ≡ b
  listed_at k b less e = sym (marked k less) ∙ e

  end_at_place : (s : Segment) (ends : List (Option End)) (left : Option ℕ) (before : List Segment) (place : ℕ) → IsSegmentWithin (length dropped) s → length ends ≡ length dropped
      → LeftAt dropped s.first s.past left → place < length rows → get_or ends place None ≡ ended_of (find (leaves rows listed place) before)
      → get_or (marked_end ends left s.ended) place None ≡ ended_of (then_find (find (leaves rows listed place) before) (leaves rows listed place s) s)
  end_at_place s ends None before place within many left less so_far =
      let to : s.past ≤ length dropped = within.to in
      let no_end : leaves rows listed place s ≡ false = leaves_none rows listed s place (λ k from past. listed_at k true (omega arith) (left k from past)) in
      so_far ∙ sym (ap (λ (b : Bool). ended_of (then_find (find (leaves rows listed place) before) b s)) no_end ∙ ap (λ (o : Option Segment). ended_of o) (then_false (find (leaves rows listed place) before) s))
  end_at_place s ends (Some q) before place within many left less so_far = by (eqb q place) refl
    where
      from : s.first ≤ q
      from = left.0

      past : q < s.past
      past = left.1

      to : s.past ≤ length dropped
      to = within.to

      stands : leaves rows listed place s ≡ eqb q place
      stands = leaves_at rows listed s q place (omega (arith, to)) from past (listed_at q false (omega (arith, to, past)) left.2) (λ k behind under. listed_at k true (omega (arith, to)) (left.3 k behind under))

      by : (b : Bool) → eqb q place ≡ b → get_or (marked_end ends (Some q) s.ended) place None ≡ ended_of (then_find (find (leaves rows listed place) before) (leaves rows listed place s) s)
      by true e =
          let same : q ≡ place = eqb-true q place e in
          let here : get_or ends q None ≡ ended_of (find (leaves rows listed place) before) = ap (λ (k : ℕ). get_or ends k None) same ∙ so_far in
          ap (λ (k : ℕ). get_or (marked_end ends (Some q) s.ended) k None) (sym same) ∙ set_here ends q s (find (leaves rows listed place) before) (omega arith) here
          ∙ sym (ap (λ (b : Bool). ended_of (then_find (find (leaves rows listed place) before) b s)) (stands ∙ e))
      by false e =
          set_elsewhere (is_none (get_or ends q None)) ends q place (Some s.ended) (λ same. eqb-false q place e (sym same)) ∙ so_far
          ∙ sym (ap (λ (b : Bool). ended_of (then_find (find (leaves rows listed place) before) b s)) (stands ∙ e) ∙ ap (λ (o : Option Segment). ended_of o) (then_false (find (leaves rows listed place) before) s))

  pub ends_more : (segments : List Segment) (i : ℕ) (d s : Segment) (ends ends' : List (Option End)) (left : Option ℕ) → i < length segments → s ≡ get_or segments i d
      → IsSegmentWithin (length dropped) s → length ends ≡ length dropped → LeftAt dropped s.first s.past left → ends' ≡ marked_end ends left s.ended
      → AreEnds rows listed (take i segments) ends → AreEnds rows listed (take (i + 1) segments) ends'
  ends_more segments i d s ends ends' left less at within many left_at is so_far place under =
      let more : take (i + 1) segments ≡ take i segments ++ s ∷ [] = take_more segments i d less ∙ ap (λ (t : Segment). take i segments ++ t ∷ []) (sym at) in
      ap (λ (es : List (Option End)). get_or es place None) is
      ∙ end_at_place s ends left (take i segments) place within many left_at under (so_far place under)
      ∙ sym (ap (λ (ss : List Segment). ended_of (find (leaves rows listed place) ss)) more ∙ ap (λ (o : Option Segment). ended_of o) (find_push (leaves rows listed place) (take i segments) s))

pub all_at : {X : Type 0} (P : X → Type 0) (xs : List X) (k : ℕ) (d : X) → AllByRecursion P xs → k < length xs → P (get_or xs k d)
all_at P [] k d all less = absurd (omega arith)
all_at P (x ∷ xs) zero d all less = all.0
all_at P (x ∷ xs) (suc k) d all less = all_at P xs k d all.1 (omega arith)

pub length-marked_end : (ends : List (Option End)) (left : Option ℕ) (ended : End) → length (marked_end ends left ended) ≡ length ends
length-marked_end ends None ended = refl
length-marked_end ends (Some q) ended = by (is_none (get_or ends q None))
  where
    by : (b : Bool) → length (cond b (set ends q (Some ended)) ends) ≡ length ends
    by true = length-set ends q (Some ended)
    by false = refl

-- ---- the marks of a chain

found_all : (P : Segment → Type 0) (f : Segment → Bool) (xs : List Segment) → AllByRecursion P xs → IfSome (find f xs) P
found_all P f [] all = tt
found_all P f (x ∷ xs) all = by (f x) (found_all P f xs all.1)
  where
    by : (b : Bool) → IfSome (find f xs) P → IfSome (cond b (Some x) (find f xs)) P
    by true rest = all.0
    by false rest = rest

ended_within : (count : ℕ) (o : Option Segment) → IfSome o (IsSegmentWithin count) → IfSome (ended_of o) (IsEndOver count)
ended_within count None within = tt
ended_within count (Some s) within = within.ended

find_map : {X Y : Type 0} (g : X → Y) (p : Y → Bool) (xs : List X) → find p (map g xs) ≡ option_map g (find (λ x. p (g x)) xs)
find_map g p [] = refl
find_map g p (x ∷ xs) = by (p (g x)) (find_map g p xs)
  where
    by : (b : Bool) → find p (map g xs) ≡ option_map g (find (λ y. p (g y)) xs) → cond b (Some (g x)) (find p (map g xs)) ≡ option_map g (cond b (Some x) (find (λ y. p (g y)) xs))
    by true rest = refl
    by false rest = rest

words_of : (rows : List RowView) (listed : List ℕ) (o : Option Segment)
    → end_words rows (ended_of o) ≡ option_map_or (λ s. end_text rows s.ended) (option_map (segment_view (sights rows) listed) o) []
words_of rows listed None = refl
words_of rows listed (Some s) = refl

module _ (rows : List RowView) (chain : Chain) (m : Marks) (first : m.first_new ≡ chain.first_new) (dropped : length m.dropped.items ≡ length rows) (ends : length m.ends.items ≡ length rows)
    (marked : IsMarked chain.dropped m.dropped.items) (ended : AreEnds rows chain.dropped chain.segments m.ends.items) where
  pub are_over : IsChainOver (length rows) chain → AreOver (length rows) m
  are_over over = λ place less. subst (λ (o : Option End). IfSome o (IsEndOver (length rows))) (sym (ended place less))
      (ended_within (length rows) (find (leaves rows chain.dropped place) chain.segments) (found_all (IsSegmentWithin (length rows)) (leaves rows chain.dropped place) chain.segments over.within))

  pub they_tell : (place : ℕ) → place < length rows → Tells rows (Some (chain_view (sights rows) chain)) m place
  they_tell place less = record {
    kind = ap (λ (b : Bool). if b then codes "dropped" else if nat_le m.first_new place then codes "new" else codes "old") (marked place (omega arith))
        ∙ ap (λ (n : ℕ). if list_any (λ d. eqb d place) chain.dropped then codes "dropped" else if nat_le n place then codes "new" else codes "old") first;
    ended = ap (λ (o : Option End). end_words rows o) (ended place less) ∙ words_of rows chain.dropped (find (leaves rows chain.dropped place) chain.segments)
        ∙ sym (ap (λ (o : Option SegmentView). option_map_or (λ s. end_text rows s.ended) o []) (find_map (segment_view (sights rows) chain.dropped) (is_left_at place) chain.segments));
  }
