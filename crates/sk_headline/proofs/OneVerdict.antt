-- A candidate has one verdict.
use Rattle.std.proofs.Common.{◌≡◌, ℕ, List, [], ◌∷◌, ◌++◌, length, map, drop, Ok, Err, refl, sym, ap, subst, ◌∙◌, inl, inr, arith}
use Rattle.std.proofs.lemmas.Bool.{cases_lt}
use Rattle.std.specs.Prelude.{count_by, not}
use Rattle.sk_checks.proofs.ChecksLemmas.{AreSingle, plain-single, carried-single, FirstRefuses-some, FirstRefuses-one}
use Rattle.sk_grammar.specs.declared.value.Value.{Value}
use Rattle.sk_grammar.specs.Document.{BlockView, DocView}
use Rattle.sk_grammar.proofs.Lists.{drop-length-append}
use Rattle.sk_line.specs.Triple.{TripleView}
use Rattle.sk_line.proofs.Lists.{heads}
use Rattle.sk_publishing.specs.Terms.{Sight}
use Rattle.sk_publishing.specs.Kept.{is_new, IsPublication}
use Rattle.sk_publishing.specs.Table.{ChainView}
use Rattle.sk_publishing.proofs.Sorting.{one_publication}
use Rattle.sk_fit.proofs.OneAnswer.{one_last}
use Rattle.sk_audit.specs.declared.verdict.AuditFault.TheVariants.{Table}
use Rattle.sk_audit.specs.Audit.{Audit, Stands, HasChain, HasPublication, IsFirstDifference, table_of, audit_checks}
use Rattle.sk_outcome.specs.Outcome.{VerdictOf}
use Rattle.sk_headline.proofs.Determined.{IsOne}

first_one : (xs ys : List (List ℕ)) (n m : ℕ) → IsFirstDifference xs ys n → IsFirstDifference xs ys m → n ≡ m
first_one xs ys n m p q = elim (cases_lt n m) [
  | inl less ↦ absurd (p.differs (q.same_before n p.counted less))
  | inr not_less ↦ elim (cases_lt m n) [
    | inl more ↦ absurd (q.differs (p.same_before m q.counted more))
    | inr not_more ↦ omega (arith, not_less, not_more)
  ]
]

module _ (a : Audit) where
  -- what stands behind the old document
  pub block_one : (b c : BlockView) → Stands a b → Stands a c → b ≡ c
  block_one b c h k =
      let joined : a.old.blocks ++ b ∷ [] ≡ a.old.blocks ++ c ∷ [] = ap (λ (d : DocView). d.blocks) (sym h ∙ k) in
      let behind : b ∷ [] ≡ c ∷ [] =
      sym (drop-length-append a.old.blocks (b ∷ [])) ∙ ap (drop (length a.old.blocks)) joined ∙ drop-length-append a.old.blocks (c ∷ []) in
      heads b c [] [] behind

  -- the publication
  pub chain_one : (v w : List Value) (c d : ChainView) → HasChain a v c → HasChain a w d → c ≡ d
  chain_one v w c d p q =
      let last : p.last ≡ q.last = one_last a.input p.last q.last p.is_last q.is_last in
      let moved : IsPublication (a.input.terms q.last) a.input.all p.dropped c.segments =
      subst (λ (t : TripleView). IsPublication (a.input.terms t) a.input.all p.dropped c.segments) last p.publication in
      let same = one_publication (a.input.terms q.last) a.input.all p.dropped q.dropped c.segments d.segments moved q.publication in
      let new : c.first_new ≡ d.first_new =
      p.first_new ∙ ap (λ (t : TripleView). count_by (λ o. not (is_new (a.input.terms t) o)) a.input.all) last ∙ sym q.first_new in
      let dropped : c.dropped ≡ d.dropped = p.dropped_places ∙ ap (map (λ (o : Sight). o.place)) same.0 ∙ sym q.dropped_places in
      λ i. record { first_new = new i; dropped = dropped i; segments = same.1 i }

  abbrev Differs : ℕ → Type 0
  Differs line = (block : BlockView) × (chain : ChainView) × HasPublication a block chain × IsFirstDifference block.text (table_of a chain) line

  line_one : (n m : ℕ) → Differs n → Differs m → n ≡ m
  line_one n m h k =
      let block : h.0 ≡ k.0 = block_one h.0 k.0 h.2.stands k.2.stands in
      let chain : h.1 ≡ k.1 = chain_one h.2.values k.2.values h.1 k.1 h.2.publication k.2.publication in
      first_one k.0.text (table_of a k.1) n m
      (subst (λ (b : BlockView). IsFirstDifference b.text (table_of a k.1) n) block (subst (λ (c : ChainView). IsFirstDifference h.0.text (table_of a c) n) chain h.3)) k.3

  checks_single : AreSingle (audit_checks a)
  checks_single = (plain-single _ _, (plain-single _ _, (plain-single _ _, (plain-single _ _, (carried-single Differs Table line_one, tt)))))

  pub verdict_one : IsOne (VerdictOf a)
  verdict_one (Ok x) (Ok y) h k = refl
  verdict_one (Ok x) (Err f) h k = absurd (FirstRefuses-some (audit_checks a) f k h.0)
  verdict_one (Err f) (Ok y) h k = absurd (FirstRefuses-some (audit_checks a) f h k.0)
  verdict_one (Err f) (Err g) h k = ap Err (FirstRefuses-one (audit_checks a) f g checks_single h k)
