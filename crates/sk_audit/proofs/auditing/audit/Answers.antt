use Rattle.std.proofs.Common.{◌≡◌, ◌≢◌, ℕ, List, get_or, refl, sym, ap, subst, ◌∙◌, Option, None}
use Rattle.std.specs.Prelude.{IfNone, IfSome, All}
use Rattle.sk_line.specs.Triple.{TripleView}
use Rattle.sk_line.specs.Line.{covering}
use Rattle.sk_grammar.specs.declared.value.Value.{Value}
use Rattle.sk_grammar.specs.Document.{BlockView, IsItem}
use Rattle.sk_triples.specs.Kernel.{TriplesView, AreOf}
use Rattle.sk_publishing.specs.Row.{RowView}
use Rattle.sk_publishing.specs.Chain.{new_triples}
use Rattle.sk_publishing.specs.Input.{Begins}
use Rattle.sk_audit.specs.declared.walking.Account.{Account}
use Rattle.sk_audit.specs.Audit.{Audit, HasBadSettings, HasItems, audit_of, input_of, table_of, IsFirstDifference}
use Rattle.sk_audit.specs.Claimed.{IsNewKernel, NoneClaims}
use Rattle.sk_audit.specs.Read.{AreReadAs}
use Rattle.sk_audit.specs.Scene.{SceneView, claiming}
use Rattle.sk_audit.proofs.Answered.{on_none, on_some}
use Rattle.sk_audit.proofs.Begun.{HasBegun, news, evaluates}
use Rattle.sk_audit.proofs.Deciding.{bad_terms, early, good_settings, refuses_settings, refuses_standing, refuses_items, refuses_chain, refuses_table, accepts}
use Rattle.sk_audit.proofs.Judging.{first_early, none_early, values_in_items, has_items, are_items, covered_front, chain_of, has_chain, text_same, text_differs, none_claimed, refuted_claims}
use Rattle.sk_audit.proofs.auditing.audit.Goals as goal

pub returns-in_default : goal.returns-in_default
returns-in_default c =
    let a : Audit = audit_of c.args.old.now c.args.new.now c.args.clock.now c.args.triples.now c.args.sc c.args.observations.now c.args.settings.now in
    refuses_settings a (bad_terms a (c.in_default.ensures.none c.args.observations.now))

pub returns-then-has_early : goal.returns-then-has_early
returns-then-has_early c =
    let a : Audit = audit_of c.args.old.now c.args.new.now c.args.clock.now c.args.triples.now c.args.sc c.args.observations.now c.args.settings.now in
    let rows : List RowView = c.args.observations.now in
    let found = c.if-has_early.ensures.yes refl in
    let begins : Begins a.input c.in-Some.start.old = c.in-Some.ensures.some.begins rows in
    refuses_settings a (early a c.in-Some.start.old begins.last (first_early a.input rows found.0 refl found.1 found.2))

pub returns-in_default-added_block : goal.returns-in_default-added_block
returns-in_default-added_block c =
    let a : Audit = audit_of c.args.old.now c.args.new.now c.args.clock.now c.args.triples.now c.args.sc c.args.observations.now c.args.settings.now in
    let rows : List RowView = c.args.observations.now in
    let begins : Begins a.input c.in-Some.start.old = c.in-Some.ensures.some.begins rows in
    let good : ¬ HasBadSettings a = good_settings a c.in-Some.start.old begins (none_early a.input rows refl (c.if-has_early.ensures.no refl)) in
    refuses_standing a good c.in_default-added_block.ensures.none

pub returns-in_default-claimed : goal.returns-in_default-claimed
returns-in_default-claimed c =
    let a : Audit = audit_of c.args.old.now c.args.new.now c.args.clock.now c.args.triples.now c.args.sc c.args.observations.now c.args.settings.now in
    let rows : List RowView = c.args.observations.now in
    let old : TripleView = c.in-Some.start.old in
    let begins : Begins a.input old = c.in-Some.ensures.some.begins rows in
    let good : ¬ HasBadSettings a = good_settings a old begins (none_early a.input rows refl (c.if-has_early.ensures.no refl)) in
    let block : BlockView = c.in-Some-added_block.block.now in
    let stands = c.in-Some-added_block.ensures.some in
    let same : c.as_slice.result.now ≡ block.items = c.as_slice.ensures ∙ c.in_ok-items.ensures ∙ ap (λ (b : BlockView). b.items) c.block.view_is in
    refuses_items a good block stands (λ values has. c.in_default-claimed.ensures.none values (are_items a block c.as_slice.result.now values same has))

pub account_of-requires-clause-new : goal.account_of-requires-clause-new
account_of-requires-clause-new c =
    let n = c.first_new_of-first_new.result in
    let s1 : c.claiming.result ≡ _ = c.claiming.ensures ∙ ap (λ (s : SceneView). claiming s c.as_slice-2.result.now) c.new-scene.ensures in
    let h : HasBegun c.args.triples.now c.claiming.result n = subst (λ (s : SceneView). HasBegun c.args.triples.now s n) (sym s1) (record {
      start = c.in-Some.ensures.some;
      given = c.requires.rows;
      olds = c.first_new_of-first_new.ensures.olds;
      new = c.first_new_of-first_new.ensures.new;
      within = c.first_new_of-first_new.ensures.within;
    }) in
    news c.args.triples.now c.claiming.result n h

pub account_of-requires-clause-begun : goal.account_of-requires-clause-begun
account_of-requires-clause-begun c =
    let n = c.first_new_of-first_new.result in
    let s1 : c.claiming.result ≡ _ = c.claiming.ensures ∙ ap (λ (s : SceneView). claiming s c.as_slice-2.result.now) c.new-scene.ensures in
    let h : HasBegun c.args.triples.now c.claiming.result n = subst (λ (s : SceneView). HasBegun c.args.triples.now s n) (sym s1) (record {
      start = c.in-Some.ensures.some;
      given = c.requires.rows;
      olds = c.first_new_of-first_new.ensures.olds;
      new = c.first_new_of-first_new.ensures.new;
      within = c.first_new_of-first_new.ensures.within;
    }) in
    evaluates c.args.triples.now c.claiming.result n h

pub triples_claimed-requires : goal.triples_claimed-requires
triples_claimed-requires c =
    values_in_items c.args.sc c.as_slice.result.now c.in-Some-claimed.values.now c.in-Some-claimed.ensures.some
    (subst (All IsItem) (sym (c.as_slice.ensures ∙ c.in_ok-items.ensures)) c.block.invariant.items)

pub returns-in_default-2 : goal.returns-in_default-2
returns-in_default-2 c =
    let a : Audit = audit_of c.args.old.now c.args.new.now c.args.clock.now c.args.triples.now c.args.sc c.args.observations.now c.args.settings.now in
    let rows : List RowView = c.args.observations.now in
    let old : TripleView = c.in-Some.start.old in
    let begins : Begins a.input old = c.in-Some.ensures.some.begins rows in
    let good : ¬ HasBadSettings a = good_settings a old begins (none_early a.input rows refl (c.if-has_early.ensures.no refl)) in
    let block : BlockView = c.in-Some-added_block.block.now in
    let stands = c.in-Some-added_block.ensures.some in
    let same : c.as_slice.result.now ≡ block.items = c.as_slice.ensures ∙ c.in_ok-items.ensures ∙ ap (λ (b : BlockView). b.items) c.block.view_is in
    let values : List Value = c.in-Some-claimed.values.now in
    let items : HasItems a block values = has_items a block c.as_slice.result.now values same c.in-Some-claimed.ensures.some in
    refuses_chain a good block stands values items (none_claimed c.args.old.now c.args.new.now c.args.clock.now c.args.triples.now c.args.sc rows c.args.settings.now old values c.requires.settings c.in-Some.ensures.some.small c.start_of.ensures.kept c.requires.triples c.requires.rows begins.last (on_none _ c.in_default-2.is c.in_ok-claims.ensures.none))

pub returns-in_default-3 : goal.returns-in_default-3
returns-in_default-3 c =
    let a : Audit = audit_of c.args.old.now c.args.new.now c.args.clock.now c.args.triples.now c.args.sc c.args.observations.now c.args.settings.now in
    let rows : List RowView = c.args.observations.now in
    let old : TripleView = c.in-Some.start.old in
    let begins : Begins a.input old = c.in-Some.ensures.some.begins rows in
    let good : ¬ HasBadSettings a = good_settings a old begins (none_early a.input rows refl (c.if-has_early.ensures.no refl)) in
    let block : BlockView = c.in-Some-added_block.block.now in
    let stands = c.in-Some-added_block.ensures.some in
    let same : c.as_slice.result.now ≡ block.items = c.as_slice.ensures ∙ c.in_ok-items.ensures ∙ ap (λ (b : BlockView). b.items) c.block.view_is in
    let values : List Value = c.in-Some-claimed.values.now in
    let items : HasItems a block values = has_items a block c.as_slice.result.now values same c.in-Some-claimed.ensures.some in
    let claims = c.as_slice-2.result.now in
    let scene : SceneView = c.claiming.result in
    let s1 = c.claiming.ensures ∙ ap (λ (s : SceneView). claiming s claims) c.new-scene.ensures in
    refuses_chain a good block stands values items (refuted_claims c.args.old.now c.args.new.now c.args.clock.now c.args.triples.now c.args.sc rows c.args.settings.now old values c.requires.settings c.in-Some.ensures.some.small c.start_of.ensures.kept c.requires.triples c.requires.rows begins.last scene claims
    (ap (λ (s : SceneView). s.clock) s1) (ap (λ (s : SceneView). s.settings) s1) (ap (λ (s : SceneView). s.rows) s1) (ap (λ (s : SceneView). s.start.old) s1) (ap (λ (s : SceneView). s.claims) s1)
    (subst (AreReadAs values) (sym c.as_slice-2.ensures.value) (on_some _ _ c.in-Some-2.claims c.in-Some-2.is c.in_ok-claims.ensures.some))
    (on_none _ c.in_default-3.is c.in_ok-account.ensures.none))

pub new_kernel-requires-clause-begins : goal.new_kernel-requires-clause-begins
new_kernel-requires-clause-begins c =
    let rows : List RowView = c.args.observations.now in
    subst (λ (s : SceneView). Begins (input_of c.args.triples.now s.clock s.rows s.settings) s.start.old) (sym c.new-scene.ensures) (c.in-Some.ensures.some.begins rows)

pub new_kernel-requires-clause-values : goal.new_kernel-requires-clause-values
new_kernel-requires-clause-values c =
    let block : BlockView = c.in-Some-added_block.block.now in
    let same : c.as_slice.result.now ≡ block.items = c.as_slice.ensures ∙ c.in_ok-items.ensures ∙ ap (λ (b : BlockView). b.items) c.block.view_is in
    values_in_items c.args.sc c.as_slice.result.now c.in-Some-claimed.values.now c.in-Some-claimed.ensures.some
    (subst (All IsItem) (sym (c.as_slice.ensures ∙ c.in_ok-items.ensures)) c.block.invariant.items)

pub returns-in_default-4 : goal.returns-in_default-4
returns-in_default-4 c =
    let a : Audit = audit_of c.args.old.now c.args.new.now c.args.clock.now c.args.triples.now c.args.sc c.args.observations.now c.args.settings.now in
    let rows : List RowView = c.args.observations.now in
    let old : TripleView = c.in-Some.start.old in
    let begins : Begins a.input old = c.in-Some.ensures.some.begins rows in
    let good : ¬ HasBadSettings a = good_settings a old begins (none_early a.input rows refl (c.if-has_early.ensures.no refl)) in
    let block : BlockView = c.in-Some-added_block.block.now in
    let stands = c.in-Some-added_block.ensures.some in
    let same : c.as_slice.result.now ≡ block.items = c.as_slice.ensures ∙ c.in_ok-items.ensures ∙ ap (λ (b : BlockView). b.items) c.block.view_is in
    let values : List Value = c.in-Some-claimed.values.now in
    let items : HasItems a block values = has_items a block c.as_slice.result.now values same c.in-Some-claimed.ensures.some in
    let none : NoneClaims a.input values = subst (λ (s : SceneView). NoneClaims (input_of c.args.triples.now s.clock s.rows s.settings) values) c.new-scene.ensures
    (subst (λ (o : Option TriplesView). IfNone o (NoneClaims (input_of c.args.triples.now c.new-scene.result.clock c.new-scene.result.rows c.new-scene.result.settings) values)) c.in_default-4.is c.in_ok-kernel.ensures.none) in
    refuses_chain a good block stands values items (λ chain. none a refl chain)

pub first_difference-requires-clause-covered : goal.first_difference-requires-clause-covered
first_difference-requires-clause-covered c =
    let a : Audit = audit_of c.args.old.now c.args.new.now c.args.clock.now c.args.triples.now c.args.sc c.args.observations.now c.args.settings.now in
    let rows : List RowView = c.args.observations.now in
    let old : TripleView = c.in-Some.start.old in
    let values : List Value = c.in-Some-claimed.values.now in
    let kernel : TriplesView = c.in-Some-4.kernel in
    let account : Account = c.in-Some-3.account in
    let made = subst (λ (o : Option TriplesView). IfSome o (λ k. IsNewKernel (input_of c.args.triples.now c.new-scene.result.clock c.new-scene.result.rows c.new-scene.result.settings) c.new-scene.result.start.old values account k
    × AreOf c.new-scene.result.clock k)) c.in-Some-4.is c.in_ok-kernel.ensures.some in
    let k : IsNewKernel a.input old values account kernel = subst (λ (s : SceneView). IsNewKernel (input_of c.args.triples.now s.clock s.rows s.settings) s.start.old values account kernel) c.new-scene.ensures made.0 in
    let covered : All (λ (row : RowView). covering kernel.triples row.tick ≢ None) rows = λ i d less none. c.if-has_early.ensures.no refl i d less
    (covered_front a.input.triples (new_triples k.chain) (get_or rows i d).tick (subst (λ (ts : List TripleView). covering ts (get_or rows i d).tick ≡ None) k.triples none)) in
    subst (λ (ts : List TripleView). All (λ (row : RowView). covering ts row.tick ≢ None) c.new-table.result.observations.now)
    (sym (ap (λ (t : TriplesView). t.triples) c.new-table.ensures.triples))
    (subst (All (λ (row : RowView). covering kernel.triples row.tick ≢ None)) (sym c.new-table.ensures.observations) covered)

pub returns-in-None : goal.returns-in-None
returns-in-None c =
    let a : Audit = audit_of c.args.old.now c.args.new.now c.args.clock.now c.args.triples.now c.args.sc c.args.observations.now c.args.settings.now in
    let rows : List RowView = c.args.observations.now in
    let old : TripleView = c.in-Some.start.old in
    let begins : Begins a.input old = c.in-Some.ensures.some.begins rows in
    let good : ¬ HasBadSettings a = good_settings a old begins (none_early a.input rows refl (c.if-has_early.ensures.no refl)) in
    let block : BlockView = c.in-Some-added_block.block.now in
    let stands = c.in-Some-added_block.ensures.some in
    let same : c.as_slice.result.now ≡ block.items = c.as_slice.ensures ∙ c.in_ok-items.ensures ∙ ap (λ (b : BlockView). b.items) c.block.view_is in
    let values : List Value = c.in-Some-claimed.values.now in
    let items : HasItems a block values = has_items a block c.as_slice.result.now values same c.in-Some-claimed.ensures.some in
    let kernel : TriplesView = c.in-Some-4.kernel in
    let account : Account = c.in-Some-3.account in
    let made = subst (λ (o : Option TriplesView). IfSome o (λ k. IsNewKernel (input_of c.args.triples.now c.new-scene.result.clock c.new-scene.result.rows c.new-scene.result.settings) c.new-scene.result.start.old values account k
    × AreOf c.new-scene.result.clock k)) c.in-Some-4.is c.in_ok-kernel.ensures.some in
    let k : IsNewKernel a.input old values account kernel = subst (λ (s : SceneView). IsNewKernel (input_of c.args.triples.now s.clock s.rows s.settings) s.start.old values account kernel) c.new-scene.ensures made.0 in
    let n = c.first_new_of-first_new.result in
    let news = c.first_new_of-first_new.ensures in
    let start = c.in-Some.ensures.some in
    let has = has_chain a c.args.settings.now c.args.triples.now old values account kernel n c.in-Some.start.seam refl begins c.requires.rows start.seam news.olds news.new news.within k in
    let marks = c.in_ok-marks.ensures in
    let text : block.text ≡ c.block.inside.text = sym (ap (λ (b : BlockView). b.text) c.block.view_is) in
    accepts a good block stands values items _ has (text ∙ text_same a c.args.settings.now c.args.triples.now old values account kernel n c.in-Some.start.seam refl begins c.requires.rows start.seam news.olds news.new news.within k
    c.new-table.result c.new-table.ensures.clock c.new-table.ensures.observations (ap (λ (t : TriplesView). t.triples) c.new-table.ensures.triples) c.in_ok-marks.marks c.new-table.ensures.marks marks.first marks.dropped marks.many marks.ends c.block.inside.text
    (on_none _ c.in-None.is c.in_ok-first_difference.ensures.same))

pub returns : goal.returns
returns c =
    let a : Audit = audit_of c.args.old.now c.args.new.now c.args.clock.now c.args.triples.now c.args.sc c.args.observations.now c.args.settings.now in
    let rows : List RowView = c.args.observations.now in
    let old : TripleView = c.in-Some.start.old in
    let begins : Begins a.input old = c.in-Some.ensures.some.begins rows in
    let good : ¬ HasBadSettings a = good_settings a old begins (none_early a.input rows refl (c.if-has_early.ensures.no refl)) in
    let block : BlockView = c.in-Some-added_block.block.now in
    let stands = c.in-Some-added_block.ensures.some in
    let same : c.as_slice.result.now ≡ block.items = c.as_slice.ensures ∙ c.in_ok-items.ensures ∙ ap (λ (b : BlockView). b.items) c.block.view_is in
    let values : List Value = c.in-Some-claimed.values.now in
    let items : HasItems a block values = has_items a block c.as_slice.result.now values same c.in-Some-claimed.ensures.some in
    let kernel : TriplesView = c.in-Some-4.kernel in
    let account : Account = c.in-Some-3.account in
    let made = subst (λ (o : Option TriplesView). IfSome o (λ k. IsNewKernel (input_of c.args.triples.now c.new-scene.result.clock c.new-scene.result.rows c.new-scene.result.settings) c.new-scene.result.start.old values account k
    × AreOf c.new-scene.result.clock k)) c.in-Some-4.is c.in_ok-kernel.ensures.some in
    let k : IsNewKernel a.input old values account kernel = subst (λ (s : SceneView). IsNewKernel (input_of c.args.triples.now s.clock s.rows s.settings) s.start.old values account kernel) c.new-scene.ensures made.0 in
    let n = c.first_new_of-first_new.result in
    let news = c.first_new_of-first_new.ensures in
    let start = c.in-Some.ensures.some in
    let has = has_chain a c.args.settings.now c.args.triples.now old values account kernel n c.in-Some.start.seam refl begins c.requires.rows start.seam news.olds news.new news.within k in
    let marks = c.in_ok-marks.ensures in
    let text : block.text ≡ c.block.inside.text = sym (ap (λ (b : BlockView). b.text) c.block.view_is) in
    let line = c.in-Some-5.line in
    let differs = text_differs a c.args.settings.now c.args.triples.now old values account kernel n c.in-Some.start.seam refl begins c.requires.rows start.seam news.olds news.new news.within k
    c.new-table.result c.new-table.ensures.clock c.new-table.ensures.observations (ap (λ (t : TriplesView). t.triples) c.new-table.ensures.triples) c.in_ok-marks.marks c.new-table.ensures.marks marks.first marks.dropped marks.many marks.ends c.block.inside.text line
    (on_some _ _ line c.in-Some-5.is c.in_ok-first_difference.ensures.differs) in
    refuses_table a good block stands values items _ has line (subst (λ (ls : List (List ℕ)). IsFirstDifference ls (table_of a (chain_of a c.args.settings.now c.args.triples.now old values account kernel n c.in-Some.start.seam refl begins c.requires.rows start.seam news.olds news.new news.within k)) line) (sym text) differs)
