-- What each step of an audit finds, as facts of what is audited.
use Rattle.std.proofs.Common.{◌≡◌, ◌≢◌, ℕ, ◌<◌, ◌≤◌, List, [], ◌∷◌, ◌++◌, length, map, Bool, refl, sym, ap, subst, ◌∙◌, arith, Option, None, Some, cond, inl, inr}
use Rattle.std.proofs.lemmas.Option.{slice_get_within, get_or_from_slice_get}
use Rattle.std.proofs.lemmas.Bool.Decides.{leb_tells}
use Rattle.std.proofs.lemmas.List.Elements.{All-from_recursion, All-head, All-tail}
use Rattle.std.specs.Prelude.{slice_get, unwrap_or, count_by, not}
use Rattle.std.specs.List.{All}
use Rattle.sk_line.specs.Triple.{TripleView, coefficients_name}
use Rattle.sk_line.specs.Line.{covering, covering_from}
use Rattle.sk_clock.specs.Clock.{ClockView, total}
use Rattle.sk_grammar.specs.declared.value.Value.{Value}
use Rattle.sk_grammar.specs.declared.value.Op.TheVariants.{Append}
use Rattle.sk_grammar.specs.Document.{ItemView, BlockView, DocView, IsItem, IsValue}
use Rattle.sk_publishing.specs.Row.{RowView, AreRows}
use Rattle.sk_publishing.specs.Terms.{Sight, sights, seam}
use Rattle.sk_publishing.specs.Kept.{is_new, IsPublication}
use Rattle.sk_publishing.specs.Input.{Input, HasLast, Begins}
use Rattle.sk_publishing.specs.Chain.{new_triples}
use Rattle.sk_publishing.specs.Table.{ChainView, kernel_view, table_lines}
use Rattle.sk_publishing.specs.Published.{id_items, coefficient_items}
use Rattle.sk_triples.specs.Kernel.{TriplesView, AreKept, AreOf}
use Rattle.sk_audit.specs.declared.settings.AuditSettings.{AuditSettings}
use Rattle.sk_audit.specs.declared.walking.Account.{Account}
use Rattle.sk_audit.specs.declared.marks.Marks.{Marks}
use Rattle.sk_audit.specs.declared.table.Table.{Table}
use Rattle.sk_audit.specs.Audit.{Audit, HasItems, HasChain, IsFirstDifference, table_of, input_of, audit_of}
use Rattle.sk_audit.specs.Claimed.{IsNewKernel}
use Rattle.sk_audit.specs.Given.{AreSettings, IsSmallClock, terms_of, sight_at}
use Rattle.sk_audit.specs.Items.{AreItems}
use Rattle.sk_audit.specs.Marks.{IsMarked, AreEnds, Tells}
use Rattle.sk_audit.specs.Tables.{lines_of}
use Rattle.sk_audit.specs.Walked.{AreOldTicks, IsNewTick}
use Rattle.sk_audit.specs.Evaluated.{IsRefuted}
use Rattle.sk_audit.specs.Read.{AreOfNone, AreReadAs}
use Rattle.sk_audit.specs.Scene.{SceneView}
use Rattle.sk_publication.specs.Publication.{HasNumbers}
use Rattle.sk_publication.proofs.NewTriples.{new_numbers}
use Rattle.sk_audit.proofs.NewTriples.{new_kernel}
use Rattle.sk_audit.proofs.Deciding.{IsEarly, one_last}
use Rattle.sk_audit.proofs.Lining.{table_same}
use Rattle.sk_audit.proofs.Marking.{they_tell}
use Rattle.sk_audit.proofs.News.{olds_of, news_of}
use Rattle.sk_audit.proofs.Observed.{all_sights, count_news}

-- ---- observations before the first triple

pub first_early : (x : Input) (rows : List RowView) (row : RowView) → x.all ≡ sights rows → slice_get rows 0 ≡ Some row → covering x.triples row.tick ≡ None → IsEarly x
first_early x [] row all here none = absurd (absent here)
  where
    absent : None ≡ Some row → ⊥
    absent e = cc
first_early x (r ∷ rows) row all here none =
    (sight_at 0 r, 0, ap (λ (os : List Sight). slice_get os 0) all, subst (λ (y : RowView). covering x.triples y.tick ≡ None) (sym (is here)) none)
  where
    is : Some r ≡ Some row → r ≡ row
    is e = cc

pub none_early : (x : Input) (rows : List RowView) → x.all ≡ sights rows → All (λ row. covering x.triples row.tick ≢ None) rows → ¬ IsEarly x
none_early x rows all covered (o, n, at, none) =
    let P : Sight → Type 0 = λ s. covering x.triples s.tick ≢ None in
    let each : All P (sights rows) = All-from_recursion P (sights rows) (all_sights P rows (λ k row here.
    subst (λ (r : RowView). covering x.triples r.tick ≢ None) (get_or_from_slice_get rows k row row here) (covered k row (slice_get_within rows k row here)))) in
    let there : slice_get (sights rows) n ≡ Some o = ap (λ (os : List Sight). slice_get os n) (sym all) ∙ at in
    subst P (get_or_from_slice_get (sights rows) n o o there) (each n o (slice_get_within (sights rows) n o there)) none

-- ---- items

values_of : (sc : ℕ) (values : List Value) → All IsItem (coefficient_items sc values) → All IsValue values
values_of sc [] items = λ k d less. absurd (omega arith)
values_of sc (v ∷ values) items = (All-head IsItem (record { name = coefficients_name sc; op = Append; values = v ∷ values }) [] items).values

back_items : (xs ys : List ItemView) → All IsItem (xs ++ ys) → All IsItem ys
back_items [] ys h = h
back_items (x ∷ xs) ys h = back_items xs ys (All-tail IsItem x (xs ++ ys) h)

pub values_in_items : (sc : ℕ) (items : List ItemView) (values : List Value) → AreItems sc items values → All IsItem items → All IsValue values
values_in_items sc items values are valid =
    values_of sc values (back_items (id_items are.date) (coefficient_items sc values) (subst (All IsItem) are.are valid))

-- the items of a block are those that an audit asks for
pub has_items : (a : Audit) (block : BlockView) (items : List ItemView) (values : List Value) → items ≡ block.items → AreItems a.sc items values → HasItems a block values
has_items a block items values same are = record { date = are.date; items = sym same ∙ are.are; numbers = are.threes.0; triples = are.threes.1 }

pub are_items : (a : Audit) (block : BlockView) (items : List ItemView) (values : List Value) → items ≡ block.items → HasItems a block values → AreItems a.sc items values
are_items a block items values same has = record { date = has.date; are = same ∙ has.items; threes = (has.numbers, has.triples) }

-- ---- triples after others

pub covered_front : (xs ys : List TripleView) (tick : ℕ) → covering (xs ++ ys) tick ≡ None → covering xs tick ≡ None
covered_front [] ys tick none = refl
covered_front (t ∷ xs) ys tick none = elim (leb_tells t.anchor.ticks tick) [
  | inl begun ↦ absurd (some (unwrap_or (covering_from 2 (xs ++ ys) tick) (1, t)) (sym (ap (choice (xs ++ ys)) begun.0) ∙ none))
  | inr before ↦ ap (choice xs) before.0
]
  where
    choice : List TripleView → Bool → Option (ℕ × TripleView)
    choice ts b = cond b (Some (unwrap_or (covering_from 2 ts tick) (1, t))) None

    some : (x : ℕ × TripleView) → Some x ≡ None → ⊥
    some x e = cc

-- ---- the publication, and its table

module _ (a : Audit) (settings : AuditSettings) (triples : TriplesView) (old : TripleView) (values : List Value) (account : Account) (kernel : TriplesView) (n : ℕ) (left : ℕ)
    (is_input : a.input ≡ input_of triples a.clock a.rows settings) (begins : Begins a.input old) (given : AreRows (total a.clock) a.rows) (is_left : left ≡ seam (terms_of settings a.clock old))
    (olds : AreOldTicks a.clock old.anchor.ticks left a.rows n) (new : IsNewTick a.clock old.anchor.ticks left a.rows n) (within : n ≤ length a.rows)
    (k : IsNewKernel a.input old values account kernel) where
  abbrev pub chain_of : ChainView
  chain_of = record { first_new = n; dropped = map (λ o. o.place) k.dropped; segments = k.chain }

  pub has_chain : HasChain a values chain_of
  has_chain = record {
    last = old;
    is_last = begins.last;
    dropped = k.dropped;
    publication = k.publication;
    dropped_places = refl;
    first_new = subst (λ (x : Input). n ≡ count_by (λ o. not (is_new (x.terms old) o)) x.all) (sym is_input)
        (count_news (terms_of settings a.clock old) (total a.clock) a.rows n given
        (olds_of settings a.clock old left a.rows n is_left olds) (news_of settings a.clock old left a.rows n is_left new) within);
    values_are = k.claimed;
    few = k.few;
  }

  module _ (t : Table) (clock : t.clock.now ≡ a.clock) (rows : t.observations.now ≡ a.rows) (is_kernel : t.triples.now.triples ≡ kernel.triples)
      (m : Marks) (are_marks : t.marks.now ≡ m) (first : m.first_new ≡ n) (dropped : IsMarked account.dropped.items m.dropped.items)
      (many : length m.dropped.items ≡ length a.rows) (ended : AreEnds (length a.rows) account.segments.items m.ends.items) where
    tells : (place : ℕ) → place < length a.rows → Tells a.rows chain_of t.marks.now place
    tells place less = subst (λ (x : Marks). Tells a.rows chain_of x place) (sym are_marks)
        (they_tell a.rows n account.segments.items account.dropped.items k.chain (map (λ o. o.place) k.dropped) m k.tells k.places first many dropped ended place less)

    is_table : lines_of t ≡ table_of a chain_of
    is_table =
        table_same t chain_of (subst (λ (rs : List RowView). (place : ℕ) → place < length rs → Tells rs chain_of t.marks.now place) (sym rows) tells)
        ∙ ap (λ (c : ClockView). table_lines (kernel_view 12 c t.triples.now.triples) (Some chain_of) t.observations.now) clock
        ∙ ap (λ (ts : List TripleView). table_lines (kernel_view 12 a.clock ts) (Some chain_of) t.observations.now) (is_kernel ∙ k.triples)
        ∙ ap (λ (rs : List RowView). table_lines (kernel_view 12 a.clock (a.input.triples ++ new_triples k.chain)) (Some chain_of) rs) rows

    pub text_same : (text : List (List ℕ)) → text ≡ lines_of t → text ≡ table_of a chain_of
    text_same text same = same ∙ is_table

    pub text_differs : (text : List (List ℕ)) (line : ℕ) → IsFirstDifference text (lines_of t) line → IsFirstDifference text (table_of a chain_of) line
    text_differs text line differs = subst (λ (ls : List (List ℕ)). IsFirstDifference text ls line) is_table differs

-- ---- claims that no publication has

module _ (old_doc new_doc : DocView) (clock : ClockView) (triples : TriplesView) (sc : ℕ) (rows : List RowView) (settings : AuditSettings) (old : TripleView) (values : List Value)
    (given : AreSettings settings) (small : IsSmallClock clock) (kept : AreKept triples) (of_clock : AreOf clock triples) (are : AreRows (total clock) rows)
    (is_last : HasLast (input_of triples clock rows settings) old) where
  abbrev audited : Audit
  audited = audit_of old_doc new_doc clock triples sc rows settings

  published : (chain : ChainView) (h : HasChain audited values chain) → IsPublication (terms_of settings clock old) (sights rows) h.dropped chain.segments
  published chain h =
      let last : h.last ≡ old = one_last audited.input h.last old h.is_last is_last in
      subst (λ (l : TripleView). IsPublication (terms_of settings clock l) (sights rows) h.dropped chain.segments) last h.publication

  numbers : (chain : ChainView) (h : HasChain audited values chain) → All HasNumbers (new_triples chain.segments)
  numbers chain h = new_numbers triples.total triples.triples (new_triples chain.segments) kept.total
      (new_kernel triples clock rows settings is_last.0 old h.dropped chain.segments given small kept of_clock are is_last.1 (published chain h) h.few)

  pub none_claimed : AreOfNone values → (chain : ChainView) → ¬ HasChain audited values chain
  none_claimed none chain h = none (new_triples chain.segments) (numbers chain h) h.values_are

  pub refuted_claims : (scene : SceneView) (claims : List TripleView) → scene.clock ≡ clock → scene.settings ≡ settings → scene.rows ≡ rows → scene.start.old ≡ old → scene.claims ≡ claims
      → AreReadAs values claims → IsRefuted scene → (chain : ChainView) → ¬ HasChain audited values chain
  refuted_claims scene claims p q r s u reads refuted chain h =
      refuted h.dropped chain.segments
      (subst (λ (c : ClockView). IsPublication (terms_of scene.settings c scene.start.old) (sights scene.rows) h.dropped chain.segments) (sym p)
      (subst (λ (x : AuditSettings). IsPublication (terms_of x clock scene.start.old) (sights scene.rows) h.dropped chain.segments) (sym q)
      (subst (λ (xs : List RowView). IsPublication (terms_of settings clock scene.start.old) (sights xs) h.dropped chain.segments) (sym r)
      (subst (λ (l : TripleView). IsPublication (terms_of settings clock l) (sights rows) h.dropped chain.segments) (sym s) (published chain h)))))
      (reads (new_triples chain.segments) (numbers chain h) h.values_are ∙ sym u)
