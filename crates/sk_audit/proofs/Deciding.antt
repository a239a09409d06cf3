-- The first fault that holds, and that none does.
use Rattle.std.proofs.Common.{◌≡◌, ◌≢◌, ℕ, ◌-◌, List, [], ◌∷◌, ◌++◌, length, length-append, map, refl, sym, ap, subst, inl, inr, ◌∙◌, arith, Option, None, Some, append-nil}
use Rattle.std.specs.Prelude.{slice_get, flat_map, count_by, not}
use Rattle.sk_line.specs.Triple.{TripleView}
use Rattle.sk_line.specs.Line.{FallsOver, covering}
use Rattle.sk_line.proofs.Lists.{Same, First_ends, Second_ends, fronts, heads, tails}
use Rattle.sk_grammar.specs.declared.value.Value.{Value}
use Rattle.sk_grammar.specs.declared.value.Op.{Op}
use Rattle.sk_grammar.specs.declared.value.Op.TheVariants.{Set, Append}
use Rattle.sk_grammar.specs.Document.{ItemView, BlockView, DocView}
use Rattle.sk_checks.specs.Checks.{FirstRefuses, NoneRefuses}
use Rattle.sk_publishing.specs.Terms.{Sight}
use Rattle.sk_publishing.specs.Input.{Input, HasLast, IsBadHold, IsBandEmpty, Begins, AreTooMany}
use Rattle.sk_publishing.specs.Chain.{SegmentView, new_triples}
use Rattle.sk_publishing.specs.Kept.{is_new, IsPublication}
use Rattle.sk_publishing.specs.Laws.{Stops}
use Rattle.sk_publishing.specs.Table.{ChainView}
use Rattle.sk_publishing.specs.Published.{triple_values, id_items, coefficient_items}
use Rattle.sk_publishing.proofs.Sorting.{one_publication, one_stop}
use Rattle.sk_audit.specs.declared.verdict.AuditFault.TheVariants.{Settings, Standing, Items, Chain, Table}
use Rattle.sk_audit.specs.Audit.{Audit, HasBadSettings, Stands, HasItems, HasChain, HasPublication, IsFirstDifference, IsAccepted, audit_checks, table_of}
use Rattle.sk_audit.specs.Claimed.{NoneClaims}
use Rattle.sk_audit.specs.Walked.{HasBadTerms}

pub one_last : (x : Input) (a b : TripleView) → HasLast x a → HasLast x b → a ≡ b
one_last x a b p q = elim (fronts p.0 (a ∷ []) q.0 (b ∷ []) (sym p.1 ∙ q.1)) [
  | Same e f ↦ heads a b [] [] f
  | First_ends o m e f ↦ absurd (empty m b (tails a o [] (m ++ b ∷ []) f))
  | Second_ends o m e f ↦ absurd (empty m a (tails b o [] (m ++ a ∷ []) f))
]
  where
    empty : (m : List TripleView) (c : TripleView) → [] ≡ m ++ c ∷ [] → ⊥
    empty m c e = let l = ap length e in let l' = length-append m (c ∷ []) in omega arith

-- an observation is before the first triple
abbrev pub IsEarly : Input → Type 0
IsEarly x = (o : Sight) × (n : ℕ) × (slice_get x.all n ≡ Some o) × (covering x.triples o.tick ≡ None)

module _ (a : Audit) where
  -- ---- settings

  pub bad_terms : HasBadTerms a.input → HasBadSettings a
  bad_terms h = (h.0, h.1, elim h.2 [ inl hold ↦ inl hold | inr rest ↦ inr (elim rest [ inl falls ↦ inl falls | inr band ↦ inr (inl band) ]) ])

  pub early : (last : TripleView) → HasLast a.input last → IsEarly a.input → HasBadSettings a
  early last is h = (last, is, inr (inr (inr h)))

  pub good_settings : (old : TripleView) → Begins a.input old → ¬ IsEarly a.input → ¬ HasBadSettings a
  good_settings old b none bad =
      let same : bad.0 ≡ old = one_last a.input bad.0 old bad.1 b.last in
      elim bad.2 [
        | inl hold ↦ b.hold (subst (IsBadHold a.input) same hold)
        | inr rest ↦ elim rest [
          | inl falls ↦ b.falls falls.0 (subst (λ (l : TripleView). FallsOver (a.input.terms l).gauge.per_count a.input.triples a.input.slip falls.0) same falls.1)
          | inr more ↦ elim more [
            | inl band ↦ b.band (subst (IsBandEmpty a.input) same band)
            | inr h ↦ none h
          ]
        ]
      ]

  -- ---- one block, and what it claims

  block_of : (block block' : BlockView) → Stands a block → Stands a block' → block' ≡ block
  block_of block block' p q = last_same (ap (λ (d : DocView). d.blocks) (sym q ∙ p))
    where
      last_same : a.old.blocks ++ block' ∷ [] ≡ a.old.blocks ++ block ∷ [] → block' ≡ block
      last_same e = by a.old.blocks e
        where
          by : (xs : List BlockView) → xs ++ block' ∷ [] ≡ xs ++ block ∷ [] → block' ≡ block
          by [] e = cc
          by (x ∷ xs) e = by xs (rest e)
            where
              rest : x ∷ (xs ++ block' ∷ []) ≡ x ∷ (xs ++ block ∷ []) → xs ++ block' ∷ [] ≡ xs ++ block ∷ []
              rest e = cc

module _ (a : Audit) where
  pub refuses_settings : HasBadSettings a → FirstRefuses (audit_checks a) Settings
  refuses_settings bad = inl (bad, refl)

  module _ (good : ¬ HasBadSettings a) where
    pub refuses_standing : ((block : BlockView) → ¬ Stands a block) → FirstRefuses (audit_checks a) Standing
    refuses_standing none = inr (good, inl (none, refl))

    module _ (block : BlockView) (stands : Stands a block) where
      some_block : ¬ ((block : BlockView) → ¬ Stands a block)
      some_block none = none block stands

      pub refuses_items : ((values : List Value) → ¬ HasItems a block values) → FirstRefuses (audit_checks a) Items
      refuses_items none = inr (good, inr (some_block, inl ((block, stands, none), refl)))

      module _ (values : List Value) (items : HasItems a block values) where
        some_items : ¬ ((block : BlockView) × Stands a block × ((values : List Value) → ¬ HasItems a block values))
        some_items bad = bad.2 values (subst (λ (b : BlockView). HasItems a b values) (sym (block_of a block bad.0 stands bad.1)) items)

        pub refuses_chain : ((chain : ChainView) → ¬ HasChain a values chain) → FirstRefuses (audit_checks a) Chain
        refuses_chain none = inr (good, inr (some_block, inr (some_items, inl ((block, values, stands, items, none), refl))))

-- ---- the values are determined by the items

abbrev appended_values : Op → List Value → List Value
appended_values Set values = []
appended_values Append values = values

abbrev values_in : List ItemView → List Value
values_in [] = []
values_in (item ∷ items) = appended_values item.op item.values ++ values_in items

values_of : (sc : ℕ) (values : List Value) → values_in (coefficient_items sc values) ≡ values
values_of sc [] = refl
values_of sc (v ∷ values) = append-nil (v ∷ values)

values_behind : (sc : ℕ) (date : Option (List ℕ)) (values : List Value) → values_in (id_items date ++ coefficient_items sc values) ≡ values
values_behind sc None values = values_of sc values
values_behind sc (Some date) values = values_of sc values

pub one_values : (a : Audit) (block : BlockView) (v v' : List Value) → HasItems a block v → HasItems a block v' → v ≡ v'
one_values a block v v' p q = sym (values_behind a.sc p.date v) ∙ ap values_in (sym p.items ∙ q.items) ∙ values_behind a.sc q.date v'

-- ---- the publication is determined

abbrev made : ℕ → List ℕ → List SegmentView → ChainView
made first_new dropped segments = record { first_new = first_new; dropped = dropped; segments = segments }

pub one_chain_view : (a : Audit) (v v' : List Value) (c c' : ChainView) → HasChain a v c → HasChain a v' c' → c ≡ c'
one_chain_view a v v' c c' p q =
    let last : q.last ≡ p.last = one_last a.input q.last p.last q.is_last p.is_last in
    let q' : IsPublication (a.input.terms p.last) a.input.all q.dropped c'.segments = subst (λ (l : TripleView). IsPublication (a.input.terms l) a.input.all q.dropped c'.segments) last q.publication in
    let one = one_publication (a.input.terms p.last) a.input.all p.dropped q.dropped c.segments c'.segments p.publication q' in
    let first : c.first_new ≡ c'.first_new = p.first_new ∙ sym (ap (λ (l : TripleView). count_by (λ o. not (is_new (a.input.terms l) o)) a.input.all) last) ∙ sym q.first_new in
    let dropped : c.dropped ≡ c'.dropped = p.dropped_places ∙ ap (map (λ (o : Sight). o.place)) one.0 ∙ sym q.dropped_places in
    ap (λ (n : ℕ). made n c.dropped c.segments) first ∙ ap (λ (ds : List ℕ). made c'.first_new ds c.segments) dropped ∙ ap (made c'.first_new c'.dropped) one.1

module _ (a : Audit) (good : ¬ HasBadSettings a) (block : BlockView) (stands : Stands a block) (values : List Value) (items : HasItems a block values)
    (chain : ChainView) (has : HasChain a values chain) where
  some_chain : ¬ ((block : BlockView) × (values : List Value) × Stands a block × HasItems a block values × ((chain : ChainView) → ¬ HasChain a values chain))
  some_chain bad =
      let same : bad.0 ≡ block = block_of a block bad.0 stands bad.2 in
      let items' : HasItems a block bad.1 = subst (λ (b : BlockView). HasItems a b bad.1) same bad.3 in
      bad.4 chain (subst (λ (v : List Value). HasChain a v chain) (one_values a block values bad.1 items items') has)

  published : HasPublication a block chain
  published = record { values = values; stands = stands; items = items; publication = has }

  pub refuses_table : (line : ℕ) → IsFirstDifference block.text (table_of a chain) line → FirstRefuses (audit_checks a) (Table line)
  refuses_table line differs =
      inr (good, inr (some_block a good block stands, inr (some_items a good block stands values items, inr (some_chain, inl (line, (block, chain, published, differs), refl)))))

  pub accepts : block.text ≡ table_of a chain → NoneRefuses (audit_checks a) × IsAccepted a
  accepts same = ((good, (some_block a good block stands, (some_items a good block stands values items, (some_chain, (passes, tt))))), (block, chain, published, same))
    where
      passes : (line : ℕ) → ¬ ((block : BlockView) × (chain : ChainView) × HasPublication a block chain × IsFirstDifference block.text (table_of a chain) line)
      passes line bad =
          let block' : bad.0 ≡ block = block_of a block bad.0 stands bad.2.stands in
          let chain' : bad.1 ≡ chain = one_chain_view a bad.2.values values bad.1 chain bad.2.publication has in
          let text : bad.0.text ≡ table_of a bad.1 = ap (λ (b : BlockView). b.text) block' ∙ same ∙ ap (table_of a) (sym chain') in
          bad.3.differs (ap (λ (xs : List (List ℕ)). slice_get xs (line - 1)) text)

-- ---- where the walk and the claims leave no publication

-- what stops every publication leaves none
pub stopped : (a : Audit) (old : TripleView) (values : List Value) → HasLast a.input old → (o : Sight) → Stops (a.input.terms old) a.input.all o
    → (chain : ChainView) → ¬ HasChain a values chain
stopped a old values is o stops chain h =
    let last : h.last ≡ old = one_last a.input h.last old h.is_last is in
    one_stop.none (a.input.terms old) a.input.all o h.dropped chain.segments stops (subst (λ (l : TripleView). IsPublication (a.input.terms l) a.input.all h.dropped chain.segments) last h.publication)

-- other segments are those of no publication
pub one_segments : (a : Audit) (old : TripleView) (values : List Value) (dropped : List Sight) (segments : List SegmentView) → HasLast a.input old
    → IsPublication (a.input.terms old) a.input.all dropped segments → (chain : ChainView) → HasChain a values chain → chain.segments ≡ segments
one_segments a old values dropped segments is p chain h =
    let last : h.last ≡ old = one_last a.input h.last old h.is_last is in
    (one_publication (a.input.terms old) a.input.all h.dropped dropped chain.segments segments
    (subst (λ (l : TripleView). IsPublication (a.input.terms l) a.input.all h.dropped chain.segments) last h.publication) p).1

pub too_many : (a : Audit) (old : TripleView) (values : List Value) (dropped : List Sight) (segments : List SegmentView) → HasLast a.input old
    → IsPublication (a.input.terms old) a.input.all dropped segments → AreTooMany a.input segments → (chain : ChainView) → ¬ HasChain a values chain
too_many a old values dropped segments is p many chain h =
    h.few (subst (λ (ss : List SegmentView). AreTooMany a.input ss) (sym (one_segments a old values dropped segments is p chain h)) many)

pub not_claimed : (a : Audit) (old : TripleView) (values : List Value) (dropped : List Sight) (segments : List SegmentView) → HasLast a.input old
    → IsPublication (a.input.terms old) a.input.all dropped segments → values ≢ flat_map triple_values (new_triples segments) → (chain : ChainView) → ¬ HasChain a values chain
not_claimed a old values dropped segments is p other chain h =
    other (h.values_are ∙ ap (λ (ss : List SegmentView). flat_map triple_values (new_triples ss)) (one_segments a old values dropped segments is p chain h))

-- ---- the same of an input alone

pub none_many : (x : Input) (old : TripleView) (values : List Value) (dropped : List Sight) (segments : List SegmentView) → HasLast x old
    → IsPublication (x.terms old) x.all dropped segments → AreTooMany x segments → NoneClaims x values
none_many x old values dropped segments is p many a same chain h =
    too_many a old values dropped segments (subst (λ (y : Input). HasLast y old) (sym same) is)
    (subst (λ (y : Input). IsPublication (y.terms old) y.all dropped segments) (sym same) p)
    (subst (λ (y : Input). AreTooMany y segments) (sym same) many) chain h

pub none_other : (x : Input) (old : TripleView) (values : List Value) (dropped : List Sight) (segments : List SegmentView) → HasLast x old
    → IsPublication (x.terms old) x.all dropped segments → values ≢ flat_map triple_values (new_triples segments) → NoneClaims x values
none_other x old values dropped segments is p other a same chain h =
    not_claimed a old values dropped segments (subst (λ (y : Input). HasLast y old) (sym same) is)
    (subst (λ (y : Input). IsPublication (y.terms old) y.all dropped segments) (sym same) p) other chain h
