use Rattle.std.proofs.Common.{◌≡◌, ℕ, List, None, subst, sym, refl, inl, inr}
use Rattle.std.proofs.lemmas.Bool.{false≢true}
use Rattle.sk_grammar.specs.Variables.{values_at}
use Rattle.sk_clock.specs.Kernel.{IsWhole}
use Rattle.sk_clock.proofs.kernel.kind_of.Goals as goal

pub returns-then-lacks : goal.returns-then-lacks
returns-then-lacks c =
    let type_1 = subst (λ (name : List ℕ). IsWhole c.args.pool.now name 1) c.name_of-name.ensures (c.if-not-is_whole.ensures.0 refl) in
    let absent = subst (λ (name : List ℕ). values_at name c.args.pool.now ≡ None) c.time_system-name.ensures (c.if-lacks.ensures.0 refl) in
    inr (λ not. not type_1, inl (inl absent, refl))

pub returns-then-is_whole : goal.returns-then-is_whole
returns-then-is_whole c =
    let type_1 = subst (λ (name : List ℕ). IsWhole c.args.pool.now name 1) c.name_of-name.ensures (c.if-not-is_whole.ensures.0 refl) in
    let one = subst (λ (name : List ℕ). IsWhole c.args.pool.now name 1) c.time_system-name.ensures (c.if-is_whole.ensures.0 refl) in
    inr (λ not. not type_1, inl (inr one, refl))

pub returns-then-not-is_whole-2 : goal.returns-then-not-is_whole-2
returns-then-not-is_whole-2 c =
    let type_1 = subst (λ (name : List ℕ). IsWhole c.args.pool.now name 1) c.name_of-name.ensures (c.if-not-is_whole.ensures.0 refl) in
    let other = sym c.time_system-name.ensures in
    inr (
      λ not. not type_1,
      inr (
        λ barycentric. elim barycentric [
          | inl absent ↦ false≢true (c.if-lacks.ensures.1 (subst (λ (name : List ℕ). values_at name c.args.pool.now ≡ None) other absent))
          | inr one ↦ false≢true (c.if-is_whole.ensures.1 (subst (λ (name : List ℕ). IsWhole c.args.pool.now name 1) other one))
        ],
        inl (λ two. false≢true (c.if-not-is_whole-2.ensures.1 (subst (λ (name : List ℕ). IsWhole c.args.pool.now name 2) other two)), refl),
      ),
    )
