use Rattle.std.proofs.Common.{◌≡◌, ◌^◌, ℕ, List, ap, sym, subst, arith, ◌∙◌}
use Rattle.std.proofs.lemmas.Int.{ints}
use Rattle.std.specs.Prelude.{ℤ, pos, ◌*ℤ◌}
use mir.Syntax.{w128}
use mir.Val.{to_z, of_z}
use Rattle.sk_checks.specs.Checks.{Judges}
use Rattle.sk_line.specs.Triple.{TripleView}
use Rattle.sk_triples.specs.Kernel.{TriplesView}
use Rattle.sk_triples.proofs.Wide.{passed_small}
use Rattle.sk_inverse.specs.Inverse.{IsTickOf, inverse_checks}
use Rattle.sk_inverse.specs.Search.{kernel_of}
use Rattle.sk_inverse.proofs.tick.tick_at.Goals as goal

pub returns : goal.returns
returns c =
    let k = c.args.triples.now in
    let time = c.args.time.units *ℤ pos (10 ^ 6) in
    let count : c.ticks_per.result ≡ k.per_count = c.ticks_per.ensures.value ∙ sym c.requires.triples.0 in
    let total : c.total.result ≡ k.total = c.total.ensures.value ∙ sym c.requires.triples.1 in
    let same : kernel_of c.list.result.now c.ticks_per.result c.total.result ≡ k =
    ap (λ (ts : List TripleView). kernel_of ts c.ticks_per.result c.total.result) c.list.ensures.value
    ∙ ap (λ (n : ℕ). kernel_of k.triples n c.total.result) count
    ∙ ap (λ (n : ℕ). kernel_of k.triples k.per_count n) total in
    let units : to_z w128 (of_z w128 c.args.time.units) ≡ c.args.time.units = passed_small c.args.time.units (omega (arith, ints)) (omega (arith, ints)) in
    let product : to_z w128 (of_z w128 time) ≡ time = passed_small time (omega (arith, ints)) (omega (arith, ints)) in
    let passed : to_z w128 (of_z w128 (to_z w128 (of_z w128 c.args.time.units) *ℤ pos (10 ^ 6))) ≡ time =
    ap (λ (x : ℤ). to_z w128 (of_z w128 (x *ℤ pos (10 ^ 6)))) units ∙ product in
    subst (λ (t : TriplesView). Judges (inverse_checks t time) (IsTickOf t time) c.tick_by.result) same
    (subst (λ (x : ℤ). Judges (inverse_checks (kernel_of c.list.result.now c.ticks_per.result c.total.result) x) (IsTickOf (kernel_of c.list.result.now c.ticks_per.result c.total.result) x) c.tick_by.result)
    passed c.tick_by.ensures)
