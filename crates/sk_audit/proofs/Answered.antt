-- Answers of one kind are none of another.
use Rattle.std.proofs.Common.{◌≡◌, ◌≢◌, ℕ, Bool, true, false, List, [], ◌∷◌, Option, None, Some, subst}
use Rattle.std.specs.Prelude.{Result, Ok, IsTrue, IfNone, IfSome}
use Rattle.std.specs.declared.alloc.AllocError.{AllocError}

abbrev pub went : Bool → Result Bool AllocError
went b = Ok b

pub not_went : (b : Bool) → b ≡ false → went b ≢ went true
not_went b e h = cc

pub untrue : (b : Bool) → b ≡ false → ¬ IsTrue b
untrue b e h = cc

-- ---- lines

pub no_line : (line : List ℕ) (more : List (List ℕ)) → [] ≡ line ∷ more → ⊥
no_line line more e = cc

pub same_front : (a b : List ℕ) (xs ys : List (List ℕ)) → a ∷ xs ≡ b ∷ ys → a ≡ b
same_front a b xs ys e = cc

-- ---- what holds where there is none, or one

pub on_none : {T P : Type 0} → (o : Option T) → o ≡ None → IfNone o P → P
on_none {T} {P} o e h = subst (λ (x : Option T). IfNone x P) e h

pub on_some : {T : Type 0} (P : T → Type 0) (o : Option T) (t : T) → o ≡ Some t → IfSome o P → P t
on_some {T} P o t e h = subst (λ (x : Option T). IfSome x P) e h
