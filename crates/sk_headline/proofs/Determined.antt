-- Stages with one answer at most make a run with one answer at most.
use Rattle.std.proofs.Common.{◌≡◌, ℕ, ◌+◌, List, [], ◌∷◌, ◌++◌, Option, Some, refl, sym, ap, subst, inl, inr, ◌∙◌, Ok, Err, Result}
use Rattle.std.specs.List.{AllZip}
use Rattle.sk_checks.specs.Checks.{Check, Judges, each_after}
use Rattle.sk_checks.proofs.ChecksLemmas.{AreSingle, FirstRefuses-some, FirstRefuses-one}
use Rattle.sk_status.specs.declared.status.Status.{Status}
use Rattle.sk_outcome.specs.Stage.{Stage, ◌>>=◌, IsDetermined, gives}
use Rattle.sk_outcome.specs.Files.{judged}

ok_same : {A : Type 0} (a b : A) (r q : Result A Status) → r ≡ Ok a → q ≡ Ok b → r ≡ q → a ≡ b
ok_same a b r q d e h = cc

err_same : {A : Type 0} (a b : Status) (r q : Result A Status) → r ≡ Err a → q ≡ Err b → r ≡ q → a ≡ b
err_same a b r q d e h = cc

-- the next stage begins with what the first one answered
pub then_determined_of : {A B : Type 0} (first : Stage A) (next : A → Stage B) → IsDetermined first → ((a : A) → first (Ok a) → IsDetermined (next a))
    → IsDetermined (first >>= next)
then_determined_of {A} {B} first next f n (Ok x) (Ok y) p q =
    let e : p.0 ≡ q.0 = ok_same p.0 q.0 (Ok p.0) (Ok q.0) refl refl (f (Ok p.0) (Ok q.0) p.1 q.1) in
    n q.0 q.1 (Ok x) (Ok y) (subst (λ (a : A). next a (Ok x)) e p.2) q.2
then_determined_of {A} {B} first next f n (Ok x) (Err s) p (inl q) = let e = f (Ok p.0) (Err s) p.1 q in cc
then_determined_of {A} {B} first next f n (Ok x) (Err s) p (inr q) =
    let e : p.0 ≡ q.0 = ok_same p.0 q.0 (Ok p.0) (Ok q.0) refl refl (f (Ok p.0) (Ok q.0) p.1 q.1) in
    n q.0 q.1 (Ok x) (Err s) (subst (λ (a : A). next a (Ok x)) e p.2) q.2
then_determined_of {A} {B} first next f n (Err s) (Ok y) (inl p) q = let e = f (Err s) (Ok q.0) p q.1 in cc
then_determined_of {A} {B} first next f n (Err s) (Ok y) (inr p) q =
    let e : p.0 ≡ q.0 = ok_same p.0 q.0 (Ok p.0) (Ok q.0) refl refl (f (Ok p.0) (Ok q.0) p.1 q.1) in
    n q.0 q.1 (Err s) (Ok y) (subst (λ (a : A). next a (Err s)) e p.2) q.2
then_determined_of {A} {B} first next f n (Err s) (Err u) (inl p) (inl q) = ap Err (err_same s u (Err s) (Err u) refl refl (f (Err s) (Err u) p q))
then_determined_of {A} {B} first next f n (Err s) (Err u) (inl p) (inr q) = let e = f (Err s) (Ok q.0) p q.1 in cc
then_determined_of {A} {B} first next f n (Err s) (Err u) (inr p) (inl q) = let e = f (Ok p.0) (Err u) p.1 q in cc
then_determined_of {A} {B} first next f n (Err s) (Err u) (inr p) (inr q) =
    let e : p.0 ≡ q.0 = ok_same p.0 q.0 (Ok p.0) (Ok q.0) refl refl (f (Ok p.0) (Ok q.0) p.1 q.1) in
    n q.0 q.1 (Err s) (Err u) (subst (λ (a : A). next a (Err s)) e p.2) q.2

pub then_determined : {A B : Type 0} (first : Stage A) (next : A → Stage B) → IsDetermined first → ((a : A) → IsDetermined (next a))
    → IsDetermined (first >>= next)
then_determined first next f n = then_determined_of first next f (λ a is. n a)

pub gives_determined : {A : Type 0} (value : A) → IsDetermined (gives value)
gives_determined value a b p q = p ∙ sym q

-- a call has one answer at most
abbrev pub IsOne : {A F : Type 0} → (Result A F → Type 0) → Type 0
IsOne {A} {F} Answers = (a b : Result A F) → Answers a → Answers b → a ≡ b

pub judged_determined : {A F : Type 0} (Answers : Result A F → Type 0) (status_of : F → Status) → IsOne Answers → IsDetermined (judged Answers status_of)
judged_determined {A} {F} Answers status_of one (Ok x) (Ok y) p q = let e : ◌≡◌ {A = Result A F} (Ok x) (Ok y) = one (Ok x) (Ok y) p q in let same : x ≡ y = cc in ap Ok same
judged_determined {A} {F} Answers status_of one (Ok x) (Err s) p q = let e : ◌≡◌ {A = Result A F} (Ok x) (Err q.0) = one (Ok x) (Err q.0) p q.1 in cc
judged_determined {A} {F} Answers status_of one (Err s) (Ok y) p q = let e : ◌≡◌ {A = Result A F} (Err p.0) (Ok y) = one (Err p.0) (Ok y) p.1 q in cc
judged_determined {A} {F} Answers status_of one (Err s) (Err u) p q =
    let e : ◌≡◌ {A = Result A F} (Err p.0) (Err q.0) = one (Err p.0) (Err q.0) p.1 q.1 in
    let same : p.0 ≡ q.0 = cc in
    ap Err (p.2 ∙ ap status_of same ∙ sym q.2)

-- ---- checks

pub single_append : {F : Type 0} (a b : List (Check F)) → AreSingle a → AreSingle b → AreSingle (a ++ b)
single_append [] b h k = k
single_append (check ∷ a) b h k = (h.0, single_append a b h.1 k)

pub single_each : {X F : Type 0} (before : Option X) (n : ℕ) (checks : Option X → ℕ → X → List (Check F)) (xs : List X)
    → ((before : Option X) (n : ℕ) (x : X) → AreSingle (checks before n x)) → AreSingle (each_after before n checks xs)
single_each before n checks [] single = tt
single_each before n checks (x ∷ xs) single =
    single_append (checks before n x) (each_after (Some x) (n + 1) checks xs) (single before n x) (single_each (Some x) (n + 1) checks xs single)

-- where each check has one fault, and the value is the only one
pub judges_one : {A F : Type 0} (checks : List (Check F)) (P : A → Type 0) → AreSingle checks → ((x y : A) → P x → P y → x ≡ y) → IsOne (Judges checks P)
judges_one checks P single one (Ok x) (Ok y) h k = ap Ok (one x y h.1 k.1)
judges_one checks P single one (Ok x) (Err f) h k = absurd (FirstRefuses-some checks f k h.0)
judges_one checks P single one (Err f) (Ok y) h k = absurd (FirstRefuses-some checks f h k.0)
judges_one checks P single one (Err f) (Err g) h k = ap Err (FirstRefuses-one checks f g single h k)

-- as many members, each the only one at its place
pub zip_one : {X Y : Type 0} (R : X → Y → Type 0) → ((x : X) (a b : Y) → R x a → R x b → a ≡ b) → (xs : List X) (as' bs : List Y) → AllZip R xs as' → AllZip R xs bs → as' ≡ bs
zip_one R one [] [] [] h k = refl
zip_one R one [] [] (b ∷ bs) h k = absurd k
zip_one R one [] (a ∷ as') bs h k = absurd h
zip_one R one (x ∷ xs) [] bs h k = absurd h
zip_one R one (x ∷ xs) (a ∷ as') [] h k = absurd k
zip_one R one (x ∷ xs) (a ∷ as') (b ∷ bs) h k = λ i. one x a b h.0 k.0 i ∷ zip_one R one xs as' bs h.1 k.1 i
