-- Data lines, taken in turn.
use Rattle.std.proofs.Common.{◌≡◌, ℕ, ◌+◌, List, [], ◌∷◌, ◌++◌, false, refl, ap, sym, ◌∙◌, append_assoc, subst, arith, count_by, Ok, Err}
use Rattle.std.specs.List.{list_any}
use Rattle.sk_grammar.specs.declared.fault.GrammarFault.{GrammarFault}
use Rattle.sk_grammar.specs.declared.place.Place.{Place}
use Rattle.sk_grammar.specs.declared.state.State.{State}
use Rattle.sk_grammar.specs.declared.state.State.TheVariants.{InData}
use Rattle.sk_grammar.specs.declared.stop.Stop.{Stop}
use Rattle.sk_grammar.specs.declared.stop.Stop.TheVariants.{Refused, OutOfMemory}
use Rattle.sk_grammar.specs.declared.taking.Taking.{Taking}
use Rattle.sk_grammar.specs.DataLines.{data_taken, AreReached, AreReachedAt, GivesPlace, TakesDataLines, RefusesDataLines}
use Rattle.sk_grammar.specs.Document.{BlockView, ItemView}
use Rattle.sk_grammar.specs.Fold.{take_line}
use Rattle.sk_grammar.specs.HasTaken.{HasTaken}
use Rattle.sk_grammar.specs.Lines.{is_line_feed, is_carriage_return, without_trailing}
use Rattle.sk_grammar.specs.Stopping.{fault_at}
use Rattle.sk_grammar.specs.Taken.{taken_of, IsSplitAtFeed, HasComeTo, HasOrRefused, TakesPiece}
use Rattle.sk_grammar.specs.Valid.{IsReached}
use Rattle.sk_grammar.proofs.Bytewise.{feed_taken, feed_refused, others_taken, refused_piece}
use Rattle.sk_grammar.proofs.Feeds.{feeds_in, rejoined}
use Rattle.sk_grammar.proofs.Lists.{append-[]}
use Rattle.sk_grammar.proofs.Validity.{taken_reached}

-- ---- the front of a piece

pub no_data_yet : (piece : List ℕ) (items : List ItemView) (place : Place) (count : ℕ) → TakesDataLines piece piece items items place place count count
no_data_yet piece items place count = record {
  front = [];
  joined = refl;
  counted = refl;
  taken = λ head blocks bytes t. subst (HasTaken (data_taken head blocks items place count)) (sym (append-[] bytes)) t;
}

-- lines behind reached items leave reached items
pub still_reached : (piece rest : List ℕ) (items more : List ItemView) (place next : Place) (count ended : ℕ) → AreReachedAt items place count → TakesDataLines piece rest items more place next count ended → AreReached more next
still_reached piece rest items more place next count ended reached h =
    let head = reached.0 in
    let blocks = reached.1 in
    let bytes = reached.2.0 in
    (head, blocks, taken_reached (data_taken head blocks more next ended) (bytes ++ h.front, h.taken head blocks bytes reached.2.1))

-- ---- one more line

-- a line behind the front, and its line feed
line_before : (line bytes : List ℕ) (head : List (List ℕ)) (blocks : List BlockView) (items : List ItemView) (place : Place) (count : ℕ) → list_any is_line_feed line ≡ false → HasTaken (data_taken head blocks items place count) bytes → HasTaken (record { state = InData head blocks items place; count = count; line = line }) (bytes ++ line)
line_before line bytes head blocks items place count one t = others_taken line (data_taken head blocks items place count) bytes one t

pub data_more : (piece rest line behind : List ℕ) (items so more : List ItemView) (place at next : Place) (count ended : ℕ) → TakesDataLines piece rest items so place at count ended → IsSplitAtFeed rest line behind → ((head : List (List ℕ)) (blocks : List BlockView) → GivesPlace (Ok next) head blocks more (take_line (InData head blocks so at) (without_trailing is_carriage_return line))) → TakesDataLines piece behind items more place next count (ended + 1)
data_more piece rest line behind items so more place at next count ended h s gives = record {
  front = h.front ++ (line ++ 10 ∷ []);
  joined =
      let regrouped : line ++ 10 ∷ behind ≡ (line ++ 10 ∷ []) ++ behind = sym (append_assoc line (10 ∷ []) behind) in
      h.joined ∙ ap (λ (b : List ℕ). h.front ++ b) (s.joined ∙ regrouped) ∙ sym (append_assoc h.front (line ++ 10 ∷ []) behind);
  counted = omega (arith, h.counted, ap (count_by is_line_feed) s.joined, feeds_in line behind s.one_line);
  taken = λ head blocks bytes t.
      let held = line_before line (bytes ++ h.front) head blocks so at ended s.one_line (h.taken head blocks bytes t) in
      let fed = feed_taken (record { state = InData head blocks so at; count = ended; line = line }) ((bytes ++ h.front) ++ line) (InData head blocks more next) (gives head blocks) held in
      subst (HasTaken (data_taken head blocks more next (ended + 1))) (append_assoc (bytes ++ h.front) line (10 ∷ []) ∙ rejoined bytes h.front line) fed;
}

pub data_stops : (piece rest line behind : List ℕ) (items so more : List ItemView) (place at : Place) (count ended : ℕ) (stop : Stop) → TakesDataLines piece rest items so place at count ended → IsSplitAtFeed rest line behind → ((head : List (List ℕ)) (blocks : List BlockView) → GivesPlace (Err stop) head blocks more (take_line (InData head blocks so at) (without_trailing is_carriage_return line))) → RefusesDataLines (fault_at (ended + 1) stop) piece items place count
data_stops piece rest line behind items so more place at count ended OutOfMemory h s gives = λ head blocks bytes t. tt
data_stops piece rest line behind items so more place at count ended (Refused reason) h s gives = λ head blocks bytes t.
    let front = bytes ++ h.front in
    let held = line_before line front head blocks so at ended s.one_line (h.taken head blocks bytes t) in
    let refused = feed_refused (record { state = InData head blocks so at; count = ended; line = line }) (front ++ line) reason (gives head blocks) held in
    let whole : ((front ++ line) ++ 10 ∷ []) ++ behind ≡ bytes ++ piece =
    append_assoc (front ++ line) (10 ∷ []) behind
    ∙ append_assoc front line (10 ∷ behind)
    ∙ append_assoc bytes h.front (line ++ 10 ∷ behind)
    ∙ ap (λ (b : List ℕ). bytes ++ b) (sym (h.joined ∙ ap (λ (b : List ℕ). h.front ++ b) s.joined)) in
    subst (HasOrRefused (Err (fault_at (ended + 1) (Refused reason)))) whole (refused_piece (fault_at (ended + 1) (Refused reason)) ((front ++ line) ++ 10 ∷ []) behind refused)

-- ---- the lines, as what was taken

pub reached_data : (from : Taking) (head : List (List ℕ)) (blocks : List BlockView) (items : List ItemView) (place : Place) → from.state ≡ InData head blocks items place → from.line.items ≡ [] → IsReached (taken_of from) → AreReachedAt items place from.count
reached_data from head blocks items place is none reached =
    let t = reached.1 in
    (head, blocks, (reached.0, record { state_is = t.state_is ∙ ap (λ (s : State). Ok s) is; count_is = t.count_is; line_is = sym none ∙ t.line_is }))

pub come_by_data : (piece rest : List ℕ) (from : Taking) (head : List (List ℕ)) (blocks : List BlockView) (items more : List ItemView) (place next : Place) (ended : ℕ) (to : Taking) → from.state ≡ InData head blocks items place → from.line.items ≡ [] → TakesDataLines piece rest items more place next from.count ended → to.state ≡ InData head blocks more next → to.count ≡ ended → to.line.items ≡ [] → HasComeTo piece rest from to
come_by_data piece rest from head blocks items more place next ended to is none h to_is counts empty = record {
  front = h.front;
  joined = h.joined;
  taken = λ bytes t.
      let end = h.taken head blocks bytes (record { state_is = t.state_is ∙ ap (λ (s : State). Ok s) is; count_is = t.count_is; line_is = sym none ∙ t.line_is }) in
      record { state_is = end.state_is ∙ ap (λ (s : State). Ok s) (sym to_is); count_is = counts ∙ end.count_is; line_is = empty ∙ end.line_is };
  count = omega (arith, h.counted, counts);
}

pub refused_by_data : (piece : List ℕ) (from : Taking) (head : List (List ℕ)) (blocks : List BlockView) (items : List ItemView) (place : Place) (fault : GrammarFault) → from.state ≡ InData head blocks items place → from.line.items ≡ [] → RefusesDataLines fault piece items place from.count → TakesPiece (Err fault) from piece
refused_by_data piece from head blocks items place fault is none h = λ bytes t.
    h head blocks bytes (record { state_is = t.state_is ∙ ap (λ (s : State). Ok s) is; count_is = t.count_is; line_is = sym none ∙ t.line_is })
