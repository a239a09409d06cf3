use Rattle.std.proofs.Common.{◌≡◌, List, length, refl, sym, ap, subst, arith, ◌∙◌}
use Rattle.sk_clock.specs.Clock.{lengths}
use Rattle.std.specs.Prelude.{pos}
use Rattle.sk_publishing.specs.Terms.{Sight}
use Rattle.sk_least.specs.declared.stretch.Stretch.{Stretch}
use Rattle.sk_least.specs.Answer.{AreLeast}
use Rattle.sk_least.specs.Search.{SearchView, AreLongestFrom}
use Rattle.sk_least.proofs.Chained.{chain_more, are_least}
use Rattle.sk_least.proofs.search.Search.runs.Goals as goal

pub loop-first-init : goal.loop-first-init
loop-first-init c = record { within = omega arith; chained = subst (λ (xs : List Stretch). AreLongestFrom c.args.self.now 0 xs 0) (sym c.new-stretches.ensures.items) refl }

pub longest-requires : goal.longest-requires
longest-requires c = (let e = ap (λ (xs : List Sight). length xs) (c.as_slice-points.ensures.value ∙ ap (λ (v : SearchView). v.all) c.self.view_is) in omega arith)

pub loop-first-preserved : goal.loop-first-preserved
loop-first-preserved c = record {
  within = c.in_ok-stretch.ensures.within;
  chained = subst (λ (xs : List Stretch). AreLongestFrom c.args.self.now 0 xs c.in_ok-stretch.stretch.past) (sym c.in_ok-push.ensures.items)
      (chain_more c.args.self.now 0 c.loop-first.stretches.items c.loop-first.first c.in_ok-stretch.stretch c.loop-first.invariant.chained c.in_ok-stretch.ensures);
}

pub loop-first-smaller : goal.loop-first-smaller
loop-first-smaller c = (let a = c.in_ok-stretch.ensures.some in let b = c.in_ok-stretch.ensures.within in omega arith)

pub returns : goal.returns
returns c =
    let e = ap (λ (xs : List Sight). length xs) (c.as_slice-points.ensures.value ∙ ap (λ (v : SearchView). v.all) c.self.view_is) in
    let at_end : c.loop-first.first ≡ length c.args.self.now.all = (let a = c.loop-first.invariant.within in omega arith) in
    subst (AreLeast (lengths c.args.self.now.clock) (pos c.args.self.now.tolerance) c.args.self.now.all) (sym c.from_vec.ensures)
    (are_least c.args.self.now c.loop-first.stretches.items (subst (AreLongestFrom c.args.self.now 0 c.loop-first.stretches.items) at_end c.loop-first.invariant.chained))
