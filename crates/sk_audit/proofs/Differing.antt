-- The first line that differs.
use Rattle.std.proofs.Common.{◌≡◌, ◌≢◌, ℕ, zero, suc, ◌+◌, ◌-◌, ◌<◌, List, [], ◌∷◌, ◌++◌, length, refl, sym, ap, subst, ◌∙◌, arith, None, Some}
use Rattle.std.specs.Prelude.{slice_get}
use Rattle.sk_audit.specs.Audit.{IsFirstDifference}

-- behind the same lines
at_length : (done xs : List (List ℕ)) → slice_get (done ++ xs) (length done) ≡ slice_get xs 0
at_length [] xs = refl
at_length (d ∷ done) xs = at_length done xs

before_same : (done xs ys : List (List ℕ)) (k : ℕ) → k < length done → slice_get (done ++ xs) k ≡ slice_get (done ++ ys) k
before_same [] xs ys k h = absurd (omega arith)
before_same (d ∷ done) xs ys zero h = refl
before_same (d ∷ done) xs ys (suc k) h = before_same done xs ys k (omega arith)

pub first_differs : (done xs ys : List (List ℕ)) (n : ℕ) → n ≡ length done + 1 → slice_get xs 0 ≢ slice_get ys 0 → IsFirstDifference (done ++ xs) (done ++ ys) n
first_differs done xs ys n e differs = record {
  counted = omega arith;
  differs = λ same. differs (sym (at_length done xs) ∙ subst (λ (m : ℕ). slice_get (done ++ xs) m ≡ slice_get (done ++ ys) m) (let m : n - 1 ≡ length done = omega arith in m) same ∙ at_length done ys);
  same_before = λ k some less. before_same done xs ys (k - 1) (omega arith);
}

-- another line, or none, where this one is wanted
pub other_line : (xs : List (List ℕ)) (line : List ℕ) (ys : List (List ℕ)) → ((more : List (List ℕ)) → xs ≢ line ∷ more) → slice_get xs 0 ≢ slice_get (line ∷ ys) 0
other_line [] line ys other e = absurd (none e)
  where
    none : None ≡ Some line → ⊥
    none e = cc
other_line (x ∷ xs) line ys other e = other xs (ap (λ (l : List ℕ). l ∷ xs) (same e))
  where
    same : Some x ≡ Some line → x ≡ line
    same e = cc

-- a line where none is wanted
pub line_more : (xs : List (List ℕ)) → xs ≢ [] → slice_get xs 0 ≢ slice_get {X = List ℕ} [] 0
line_more [] some e = some refl
line_more (x ∷ xs) some e = absurd (none e)
  where
    none : Some x ≡ None → ⊥
    none e = cc
