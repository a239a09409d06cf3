-- An observation is dropped where one more may be.
use Rattle.std.proofs.Common.{◌≡◌, ℕ, ◌<◌, ◌≤◌, true, List, [], ◌∷◌, ◌++◌, length, ap, ◌∙◌, arith, Bool, false, IsTrue, inl, inr}
use Rattle.std.proofs.lemmas.List.{length-map}
use Rattle.std.proofs.lemmas.Bool.Decides.{leb_tells}
use Rattle.std.specs.Prelude.{◌↔◌}
use Rattle.sk_publishing.specs.Terms.{Sight, Terms}
use Rattle.sk_publishing.specs.Kept.{is_new, HasNoRate}
use Rattle.sk_audit.specs.Walking.{WalkView, dropped_at, IsWalk, IsAt, Rises, Moves}
use Rattle.sk_audit.proofs.Answered.{untrue}
use Rattle.sk_audit.proofs.Moves.{waits}

-- where not so many are dropped as may be, one more may be
pub one_more : {b : Bool} {most number : ℕ} → (IsTrue b ↔ (most ≤ number)) → b ≡ false → number < most
one_more {b} {most} {number} is e = elim (leb_tells most number) [ inl w ↦ absurd (untrue b e (is.1 w.1)) | inr w ↦ w.1 ]

module _ (t : Terms) (all : List Sight) (n : ℕ) (w : WalkView) where
  -- as many are dropped as places are kept of them
  dropped_number : (kept dropped : List Sight) → IsWalk t all n w kept dropped → length w.dropped ≡ length dropped
  dropped_number kept dropped h = ap length h.places ∙ length-map dropped (λ (o : Sight). o.place)

  pub room_gone : (kept dropped : List Sight) → IsWalk t all n w kept dropped → t.reject ≤ length w.dropped → length dropped ≡ t.reject
  room_gone kept dropped h full = let e = dropped_number kept dropped h in let r = h.room in omega arith

  pub drops : (o : Sight) → IsAt all n o → Rises all n o → is_new t o ≡ true → length w.dropped < t.reject
      → ((kept dropped : List Sight) → IsWalk t all n w kept dropped → HasNoRate t kept o) → Moves t all n o w (dropped_at w n)
  drops o at rises new room none kept dropped h =
      let e = dropped_number kept dropped h in
      let m = waits t all n w o kept dropped at rises new h (omega arith) (none kept dropped h) in
      (kept, dropped ++ o ∷ [], m.0, m.1)
