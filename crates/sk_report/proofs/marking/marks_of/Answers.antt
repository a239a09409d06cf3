use Rattle.std.proofs.Common.{◌≡◌, ℕ, Bool, List, length, refl, subst, sym, ap, ◌∙◌, rules}
use Rattle.sk_fit.specs.declared.chain.Segment.{Segment}
use Rattle.sk_report.specs.Ends.{IsMarked, AreEnds}
use Rattle.sk_report.proofs.MarkLemmas.{are_over, they_tell}
use Rattle.sk_report.proofs.marking.marks_of.Goals as goal

pub returns-clause-over : goal.returns-clause-over
returns-clause-over c =
    let rows = c.args.observations.now in
    let chain = c.args.chain.now in
    let many : length c.mark_dropped.new.marked.items ≡ length rows = search rules in
    let marked : IsMarked chain.dropped c.mark_dropped.new.marked.items = subst (λ (xs : List ℕ). IsMarked xs c.mark_dropped.new.marked.items) c.as_slice.ensures c.mark_dropped.ensures.marked in
    let slice : c.as_slice-2.result.now ≡ c.mark_dropped.new.marked.items = c.as_slice-2.ensures.value in
    let long : length rows ≡ length c.as_slice-2.result.now = sym (ap (λ (xs : List Bool). length xs) slice ∙ many) in
    let ends : length c.mark_ends.new.ends.items ≡ length rows = c.mark_ends.ensures.many ∙ sym long in
    let ended : AreEnds rows chain.dropped c.as_slice-3.result.now c.mark_ends.new.ends.items = c.mark_ends.ensures.marked rows chain.dropped long (subst (IsMarked chain.dropped) (sym slice) marked) in
    are_over rows chain (record { first_new = chain.first_new; dropped = c.mark_dropped.new.marked; ends = c.mark_ends.new.ends }) refl many ends marked
    (subst (λ (ss : List Segment). AreEnds rows chain.dropped ss c.mark_ends.new.ends.items) c.as_slice-3.ensures ended) c.requires

pub returns-clause-tells : goal.returns-clause-tells
returns-clause-tells c =
    let rows = c.args.observations.now in
    let chain = c.args.chain.now in
    let many : length c.mark_dropped.new.marked.items ≡ length rows = search rules in
    let marked : IsMarked chain.dropped c.mark_dropped.new.marked.items = subst (λ (xs : List ℕ). IsMarked xs c.mark_dropped.new.marked.items) c.as_slice.ensures c.mark_dropped.ensures.marked in
    let slice : c.as_slice-2.result.now ≡ c.mark_dropped.new.marked.items = c.as_slice-2.ensures.value in
    let long : length rows ≡ length c.as_slice-2.result.now = sym (ap (λ (xs : List Bool). length xs) slice ∙ many) in
    let ends : length c.mark_ends.new.ends.items ≡ length rows = c.mark_ends.ensures.many ∙ sym long in
    let ended : AreEnds rows chain.dropped c.as_slice-3.result.now c.mark_ends.new.ends.items = c.mark_ends.ensures.marked rows chain.dropped long (subst (IsMarked chain.dropped) (sym slice) marked) in
    they_tell rows chain (record { first_new = chain.first_new; dropped = c.mark_dropped.new.marked; ends = c.mark_ends.new.ends }) refl many ends marked
    (subst (λ (ss : List Segment). AreEnds rows chain.dropped ss c.mark_ends.new.ends.items) c.as_slice-3.ensures ended)
