-- Marks, one after the other, and what they tell.
use Rattle.std.proofs.Common.{◌≡◌, ◌≢◌, ℕ, ◌+◌, ◌<◌, Bool, true, false, cond, ◌||◌, eqb, List, [], ◌∷◌, ◌++◌, length, take, get_or, set, map, Option, None, Some, refl, sym, ap, arith, ◌∙◌}
use Rattle.std.proofs.lemmas.Bool.{eqb-true, eqb-false}
use Rattle.std.proofs.lemmas.List.{take_more, get_or-set_same, get_or-set_other, length-set}
use Rattle.std.proofs.lemmas.List.Folds.{list_any-append}
use Rattle.std.proofs.Math.Bool.{or-false, or-true}
use Rattle.std.specs.Prelude.{find, is_none, nat_le, if◌then◌else◌, codes}
use Rattle.std.specs.List.{list_any}
use Rattle.std.specs.Option.{option_map, option_map_or}
use Rattle.sk_publishing.specs.Row.{RowView}
use Rattle.sk_publishing.specs.Terms.{Sight}
use Rattle.sk_publishing.specs.Chain.{SegmentView, EndView, last_of}
use Rattle.sk_publishing.specs.Table.{is_left_at, end_text}
use Rattle.sk_audit.specs.declared.told.Told.{Told}
use Rattle.sk_audit.specs.declared.told.End.{End}
use Rattle.sk_audit.specs.declared.marks.Marks.{Marks}
use Rattle.sk_audit.specs.Given.{end_view}
use Rattle.sk_audit.specs.Walking.{ToldView, Tell, told, told_of}
use Rattle.sk_audit.specs.Marks.{IsMarked, AreEnds, Tells, end_words, leaves, marked_end}

-- ---- dropped places

any_push : (p : ℕ → Bool) (xs : List ℕ) (x : ℕ) → list_any p (xs ++ x ∷ []) ≡ (list_any p xs || p x)
any_push p xs x = list_any-append p xs (x ∷ []) ∙ ap (λ (b : Bool). list_any p xs || b) (or-false (p x))

marked_at : (marked : List Bool) (xs : List ℕ) (d place : ℕ) → place < length marked → get_or marked place false ≡ list_any (λ x. eqb x place) xs
    → (b : Bool) → eqb d place ≡ b → get_or (set marked d true) place false ≡ (list_any (λ x. eqb x place) xs || eqb d place)
marked_at marked xs d place less so_far true e =
    let same : d ≡ place = eqb-true d place e in
    ap (λ (k : ℕ). get_or (set marked k true) place false) same ∙ get_or-set_same marked place true false less
    ∙ sym (ap (λ (b : Bool). list_any (λ x. eqb x place) xs || b) e ∙ or-true (list_any (λ x. eqb x place) xs))
marked_at marked xs d place less so_far false e =
    get_or-set_other marked d place true false (λ same. eqb-false d place e (sym same)) ∙ so_far
    ∙ sym (ap (λ (b : Bool). list_any (λ x. eqb x place) xs || b) e ∙ or-false (list_any (λ x. eqb x place) xs))

pub mark_more : (marked marked' : List Bool) (listed : List ℕ) (i d : ℕ) → i < length listed → d ≡ get_or listed i d → marked' ≡ set marked d true
    → IsMarked (take i listed) marked → IsMarked (take (i + 1) listed) marked'
mark_more marked marked' listed i d less at is so_far place within =
    let long : length marked' ≡ length marked = ap length is ∙ length-set marked d true in
    let more : take (i + 1) listed ≡ take i listed ++ d ∷ [] = take_more listed i d less ∙ ap (λ (x : ℕ). take i listed ++ x ∷ []) (sym at) in
    ap (λ (bs : List Bool). get_or bs place false) is
    ∙ marked_at marked (take i listed) d place (omega arith) (so_far place (omega arith)) (eqb d place) refl
    ∙ sym (ap (λ (xs : List ℕ). list_any (λ x. eqb x place) xs) more ∙ any_push (λ x. eqb x place) (take i listed) d)

-- ---- ends

abbrev then_find : Option Told → Bool → Told → Option Told
then_find None b s = cond b (Some s) None
then_find (Some t) b s = Some t

find_step : (b : Bool) (a s : Told) (before after : Option Told) (c : Bool) → after ≡ then_find before c s → cond b (Some a) after ≡ then_find (cond b (Some a) before) c s
find_step true a s before after c e = refl
find_step false a s before after c e = e

find_push : (f : Told → Bool) (xs : List Told) (s : Told) → find f (xs ++ s ∷ []) ≡ then_find (find f xs) (f s) s
find_push f [] s = refl
find_push f (a ∷ xs) s = find_step (f a) a s (find f xs) (find f (xs ++ s ∷ [])) (f s) (find_push f xs s)

then_false : (o : Option Told) (s : Told) → then_find o false s ≡ o
then_false None s = refl
then_false (Some t) s = refl

abbrev ended_of : Option Told → Option End
ended_of o = option_map (λ s. s.ended) o

set_here : (ends : List (Option End)) (q : ℕ) (s : Told) (o : Option Told) → q < length ends → get_or ends q None ≡ ended_of o
    → get_or (marked_end ends (Some q) s.ended) q None ≡ ended_of (then_find o true s)
set_here ends q s None less e =
    ap (λ (x : Option End). get_or (cond (is_none x) (set ends q (Some s.ended)) ends) q None) e ∙ get_or-set_same ends q (Some s.ended) None less
set_here ends q s (Some t) less e =
    ap (λ (x : Option End). get_or (cond (is_none x) (set ends q (Some s.ended)) ends) q None) e ∙ e

set_elsewhere : (b : Bool) (ends : List (Option End)) (q place : ℕ) (x : Option End) → place ≢ q → get_or (cond b (set ends q x) ends) place None ≡ get_or ends place None
set_elsewhere true ends q place x other = get_or-set_other ends q place x None other
set_elsewhere false ends q place x other = refl

abbrev left_here : ℕ → Option ℕ → Bool
left_here place left = option_map_or (λ p. eqb p place) left false

end_at_place : (s : Told) (ends : List (Option End)) (left : Option ℕ) (before : Option Told) (place : ℕ) → place < length ends → get_or ends place None ≡ ended_of before
    → get_or (marked_end ends left s.ended) place None ≡ ended_of (then_find before (left_here place left) s)
end_at_place s ends None before place less so_far = so_far ∙ sym (ap (λ (o : Option Told). ended_of o) (then_false before s))
end_at_place s ends (Some q) before place less so_far = by (eqb q place) refl
  where
    by : (b : Bool) → eqb q place ≡ b → get_or (marked_end ends (Some q) s.ended) place None ≡ ended_of (then_find before (eqb q place) s)
    by true e =
        let same : q ≡ place = eqb-true q place e in
        let here : get_or ends q None ≡ ended_of before = ap (λ (k : ℕ). get_or ends k None) same ∙ so_far in
        ap (λ (k : ℕ). get_or (marked_end ends (Some q) s.ended) k None) (sym same) ∙ set_here ends q s before (omega arith) here
        ∙ sym (ap (λ (b : Bool). ended_of (then_find before b s)) e)
    by false e =
        set_elsewhere (is_none (get_or ends q None)) ends q place (Some s.ended) (λ same. eqb-false q place e (sym same)) ∙ so_far
        ∙ sym (ap (λ (b : Bool). ended_of (then_find before b s)) e ∙ ap (λ (o : Option Told). ended_of o) (then_false before s))

pub ends_more : (count : ℕ) (segments : List Told) (i : ℕ) (d s : Told) (ends ends' : List (Option End)) → i < length segments → s ≡ get_or segments i d
    → length ends ≡ count → ends' ≡ marked_end ends s.place s.ended → AreEnds count (take i segments) ends → AreEnds count (take (i + 1) segments) ends'
ends_more count segments i d s ends ends' less at many is so_far place under =
    let more : take (i + 1) segments ≡ take i segments ++ s ∷ [] = take_more segments i d less ∙ ap (λ (t : Told). take i segments ++ t ∷ []) (sym at) in
    ap (λ (es : List (Option End)). get_or es place None) is
    ∙ end_at_place s ends s.place (find (leaves place) (take i segments)) place (omega arith) (so_far place under)
    ∙ sym (ap (λ (ss : List Told). ended_of (find (leaves place) ss)) more ∙ ap (λ (o : Option Told). ended_of o) (find_push (leaves place) (take i segments) s))

pub length-marked_end : (ends : List (Option End)) (left : Option ℕ) (ended : End) → length (marked_end ends left ended) ≡ length ends
length-marked_end ends None ended = refl
length-marked_end ends (Some q) ended = by (is_none (get_or ends q None))
  where
    by : (b : Bool) → length (cond b (set ends q (Some ended)) ends) ≡ length ends
    by true = length-set ends q (Some ended)
    by false = refl

-- ---- what the marks tell of a chain

abbrev view_leaves : ℕ → ToldView → Bool
view_leaves place v = option_map_or (λ p. eqb p place) v.place false

leaves_same : (place : ℕ) (s : SegmentView) → view_leaves place (told s) ≡ is_left_at place s
leaves_same place s = mapped (last_of s.covered)
  where
    mapped : (o : Option Sight) → option_map_or (λ p. eqb p place) (option_map (λ x. x.place) o) false ≡ option_map_or (λ x. eqb x.place place) o false
    mapped None = refl
    mapped (Some x) = refl

abbrev words_of_end : List RowView → Option EndView → List ℕ
words_of_end rows ended = option_map_or (λ e. end_text rows e) ended []

abbrev view_end : ℕ → List ToldView → Option EndView
view_end place views = option_map (λ v. v.ended) (find (view_leaves place) views)

told_end : (place : ℕ) (list : List Told) → option_map end_view (ended_of (find (leaves place) list)) ≡ view_end place (map told_of list)
told_end place [] = refl
told_end place (s ∷ list) = by (leaves place s) (told_end place list)
  where
    by : (b : Bool) → option_map end_view (ended_of (find (leaves place) list)) ≡ view_end place (map told_of list)
        → option_map end_view (ended_of (cond b (Some s) (find (leaves place) list))) ≡ option_map (λ v. v.ended) (cond b (Some (told_of s)) (find (view_leaves place) (map told_of list)))
    by true rest = refl
    by false rest = rest

chain_end : (place : ℕ) (chain : List SegmentView) → view_end place (map told chain) ≡ option_map (λ s. s.ended) (find (is_left_at place) chain)
chain_end place [] = refl
chain_end place (s ∷ chain) =
    ap (λ (b : Bool). option_map (λ v. v.ended) (cond b (Some (told s)) (find (view_leaves place) (map told chain)))) (leaves_same place s)
    ∙ by (is_left_at place s) (chain_end place chain)
  where
    by : (b : Bool) → view_end place (map told chain) ≡ option_map (λ s. s.ended) (find (is_left_at place) chain)
        → option_map (λ v. v.ended) (cond b (Some (told s)) (find (view_leaves place) (map told chain))) ≡ option_map (λ s. s.ended) (cond b (Some s) (find (is_left_at place) chain))
    by true rest = refl
    by false rest = rest

words_told : (rows : List RowView) (o : Option End) → end_words rows o ≡ words_of_end rows (option_map end_view o)
words_told rows None = refl
words_told rows (Some e) = refl

words_chain : (rows : List RowView) (o : Option SegmentView) → words_of_end rows (option_map (λ s. s.ended) o) ≡ option_map_or (λ s. end_text rows s.ended) o []
words_chain rows None = refl
words_chain rows (Some s) = refl

pub they_tell : (rows : List RowView) (first_new : ℕ) (list : List Told) (places : List ℕ) (chain : List SegmentView) (dropped : List ℕ) (m : Marks)
    → Tell list chain → places ≡ dropped → m.first_new ≡ first_new → length m.dropped.items ≡ length rows → IsMarked places m.dropped.items
    → AreEnds (length rows) list m.ends.items → (place : ℕ) → place < length rows
    → Tells rows (record { first_new = first_new; dropped = dropped; segments = chain }) m place
they_tell rows first_new list places chain dropped m tells same first many marked ended place less = record {
  kind = ap (λ (b : Bool). if b then codes "dropped" else if nat_le m.first_new place then codes "new" else codes "old") (marked place (omega arith))
      ∙ ap (λ (xs : List ℕ). if list_any (λ d. eqb d place) xs then codes "dropped" else if nat_le m.first_new place then codes "new" else codes "old") same
      ∙ ap (λ (n : ℕ). if list_any (λ d. eqb d place) dropped then codes "dropped" else if nat_le n place then codes "new" else codes "old") first;
  ended = ap (λ (o : Option End). end_words rows o) (ended place less) ∙ words_told rows (ended_of (find (leaves place) list))
      ∙ ap (words_of_end rows) (told_end place list ∙ ap (view_end place) tells ∙ chain_end place chain)
      ∙ words_chain rows (find (is_left_at place) chain);
}
