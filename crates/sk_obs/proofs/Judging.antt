-- Checks that carry the refusals of an inner call.
use Rattle.std.proofs.Common.{◌≡◌, List, [], ◌∷◌, Result, Ok, Err, MatchResult, refl, inl, inr}
use Rattle.sk_checks.specs.Checks.{Check, carried, Passes, NoneRefuses, FirstRefuses, Judges, JudgesUnless}
use Rattle.sk_checks.proofs.ChecksLemmas.{FirstRefuses-some}

-- where none of the checks refuses, the check that carries them passes
pub carried-passes : {F G : Type 0} (checks : List (Check G)) (own : G → F) → NoneRefuses checks → Passes (carried (FirstRefuses checks) own)
carried-passes checks own none fault h = FirstRefuses-some checks fault h none

pub carried-ok : {T F G : Type 0} (own : G → F) (checks : List (Check G)) (P : T → Type 0) (value : T)
    → Judges checks P (Ok value) → Judges (carried (FirstRefuses checks) own ∷ []) P (Ok value)
carried-ok own checks P value h = ((carried-passes checks own h.0, tt), h.1)

pub carried-err : {F G : Type 0} (own : G → F) (checks : List (Check G)) (fault : G)
    → FirstRefuses checks fault → FirstRefuses (carried (FirstRefuses checks) own ∷ []) (own fault)
carried-err own checks fault h = inl (fault, h, refl)

-- a call whose refusals are carried once more
pub carried-told : {T F G : Type 0} (memory : F) (own : G → F) (checks : List (Check G)) (P : T → Type 0) (inner : Result T G) (result : Result T F)
    → Judges checks P inner → MatchResult inner (λ value. result ≡ Ok value) (λ fault. result ≡ Err (own fault))
    → JudgesUnless memory (carried (FirstRefuses checks) own ∷ []) P result
carried-told memory own checks P (Ok value) result h is = rw is (carried-ok own checks P value h)
carried-told memory own checks P (Err fault) result h is = rw is (inr (carried-err own checks fault h))
