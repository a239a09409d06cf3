use Rattle.std.proofs.Common.{◌≡◌, ◌++◌, List, map, drop, length, flat_map, All, refl, sym, ap, ◌∙◌, subst, arith}
use Rattle.std.proofs.lemmas.List.{length-map}
use Rattle.sk_line.specs.Triple.{TripleView}
use Rattle.sk_triples.specs.Kernel.{AreTriples, TriplesView}
use Rattle.sk_publishing.specs.Chain.{new_triples}
use Rattle.sk_publishing.specs.Published.{triple_values}
use Rattle.sk_publication.specs.Publication.{HasNumbers}
use Rattle.sk_publication.proofs.NewTriples.{new_numbers}
use Rattle.sk_audit.specs.declared.told.Told.{Told}
use Rattle.sk_audit.specs.Audit.{input_of}
use Rattle.sk_audit.specs.Claims.{triple_of}
use Rattle.sk_audit.proofs.Numbers.{no_true}
use Rattle.sk_audit.proofs.Deciding.{none_many, none_other}
use Rattle.sk_audit.proofs.NewTriples.{told_triples, new_kernel}
use Rattle.sk_audit.proofs.scene.Scene.new_kernel.Goals as goal

pub returns-then-later-list-clause-none : goal.returns-then-later-list-clause-none
returns-then-later-list-clause-none c =
    let a = c.requires.account in
    let list : List Told = c.args.account.now.segments.items in
    let later : c.split_at.result.1.now ≡ drop 1 list = c.split_at.ensures.back ∙ ap (drop 1) c.as_slice.ensures.value in
    let new : map triple_of c.split_at.result.1.now ≡ new_triples a.chain = ap (map triple_of) later ∙ told_triples list a.chain a.tells in
    let long = ap length new in
    let as_long = length-map c.split_at.result.1.now triple_of in
    let old_long = ap length c.list.ensures.value in
    none_many (input_of c.args.triples.now c.args.self.now.clock c.args.self.now.rows c.args.self.now.settings) c.args.self.now.start.old c.args.values.now a.dropped a.chain
    c.requires.begins.last a.publication (let many = c.if-later-list.true in omega arith)

pub are_claimed-requires-clause-numbers : goal.are_claimed-requires-clause-numbers
are_claimed-requires-clause-numbers c =
    let a = c.requires.account in
    let s = c.args.self.now in
    let triples : TriplesView = c.args.triples.now in
    let list : List Told = c.args.account.now.segments.items in
    let later : c.split_at.result.1.now ≡ drop 1 list = c.split_at.ensures.back ∙ ap (drop 1) c.as_slice.ensures.value in
    let new : map triple_of c.split_at.result.1.now ≡ new_triples a.chain = ap (map triple_of) later ∙ told_triples list a.chain a.tells in
    let long = ap length new in
    let as_long = length-map c.split_at.result.1.now triple_of in
    let old_long = ap length c.list.ensures.value in
    let added : c.as_slice-2.result.now ≡ new_triples a.chain = c.as_slice-2.ensures.value ∙ c.in_ok-added.ensures ∙ new in
    subst (All HasNumbers) (sym added) (new_numbers triples.total triples.triples (new_triples a.chain) c.list.ensures.kept.total
    (new_kernel triples s.clock s.rows s.settings c.requires.begins.last.0 s.start.old a.dropped a.chain c.requires.scene.ranges c.requires.scene.clocked
    c.list.ensures.kept c.requires.triples c.requires.scene.observed c.requires.begins.last.1 a.publication
    (λ many. let few = c.if-later-list.false in omega arith)))

pub returns-then-not-are_claimed-clause-none : goal.returns-then-not-are_claimed-clause-none
returns-then-not-are_claimed-clause-none c =
    let a = c.requires.account in
    let list : List Told = c.args.account.now.segments.items in
    let later : c.split_at.result.1.now ≡ drop 1 list = c.split_at.ensures.back ∙ ap (drop 1) c.as_slice.ensures.value in
    let new : map triple_of c.split_at.result.1.now ≡ new_triples a.chain = ap (map triple_of) later ∙ told_triples list a.chain a.tells in
    let added : c.as_slice-2.result.now ≡ new_triples a.chain = c.as_slice-2.ensures.value ∙ c.in_ok-added.ensures ∙ new in
    none_other (input_of c.args.triples.now c.args.self.now.clock c.args.self.now.rows c.args.self.now.settings) c.args.self.now.start.old c.args.values.now a.dropped a.chain
    c.requires.begins.last a.publication (λ claimed. no_true (c.if-not-are_claimed.ensures.1 (claimed ∙ ap (flat_map triple_values) (sym added))))

pub extended-requires : goal.extended-requires
extended-requires c =
    let a = c.requires.account in
    let s = c.args.self.now in
    let triples : TriplesView = c.args.triples.now in
    let list : List Told = c.args.account.now.segments.items in
    let later : c.split_at.result.1.now ≡ drop 1 list = c.split_at.ensures.back ∙ ap (drop 1) c.as_slice.ensures.value in
    let new : map triple_of c.split_at.result.1.now ≡ new_triples a.chain = ap (map triple_of) later ∙ told_triples list a.chain a.tells in
    let long = ap length new in
    let as_long = length-map c.split_at.result.1.now triple_of in
    let old_long = ap length c.list.ensures.value in
    let added : c.as_slice-3.result.now ≡ new_triples a.chain = c.as_slice-3.ensures.value ∙ c.in_ok-added.ensures ∙ new in
    subst (λ (ts : List TripleView). AreTriples triples.total (triples.triples ++ ts)) (sym added)
    (new_kernel triples s.clock s.rows s.settings c.requires.begins.last.0 s.start.old a.dropped a.chain c.requires.scene.ranges c.requires.scene.clocked
    c.list.ensures.kept c.requires.triples c.requires.scene.observed c.requires.begins.last.1 a.publication
    (λ many. let few = c.if-later-list.false in omega arith))

pub returns-clause-some : goal.returns-clause-some
returns-clause-some c =
    let a = c.requires.account in
    let list : List Told = c.args.account.now.segments.items in
    let later : c.split_at.result.1.now ≡ drop 1 list = c.split_at.ensures.back ∙ ap (drop 1) c.as_slice.ensures.value in
    let new : map triple_of c.split_at.result.1.now ≡ new_triples a.chain = ap (map triple_of) later ∙ told_triples list a.chain a.tells in
    let long = ap length new in
    let as_long = length-map c.split_at.result.1.now triple_of in
    let old_long = ap length c.list.ensures.value in
    let few = c.if-later-list.false in
    let claimed : c.as_slice-2.result.now ≡ new_triples a.chain = c.as_slice-2.ensures.value ∙ c.in_ok-added.ensures ∙ new in
    let added : c.as_slice-3.result.now ≡ new_triples a.chain = c.as_slice-3.ensures.value ∙ c.in_ok-added.ensures ∙ new in
    let is = c.in_ok-kernel.ensures in (
      record {
        dropped = a.dropped;
        chain = a.chain;
        publication = a.publication;
        tells = a.tells;
        places = a.places;
        few = λ many. (omega arith);
        claimed = c.if-not-are_claimed.ensures.0 refl ∙ ap (flat_map triple_values) claimed;
        triples = ap (λ (k : TriplesView). k.triples) is ∙ ap (λ (ts : List TripleView). c.args.triples.now.triples ++ ts) added;
      },
      (ap (λ (k : TriplesView). k.per_count) is ∙ c.requires.triples.0, ap (λ (k : TriplesView). k.total) is ∙ c.requires.triples.1),
    )
