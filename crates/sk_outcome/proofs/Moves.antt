-- What a stage answers over part of a run it answers over the whole: files hold what they held, and a count that rose has risen.
use Rattle.std.proofs.Common.{◌≡◌, ℕ, ◌<◌, ◌≤◌, List, length, refl, sym, ap, subst, inl, inr, arith, Ok, Err, Result, Option}
use Rattle.std.specs.Prelude.{IfSome}
use Rattle.std.specs.Result.{IsErrAnd}
use Rattle.sk_edge.specs.Causes.{Rose}
use Rattle.sk_status.specs.declared.status.Status.{Status}
use Rattle.sk_status.specs.declared.status.Status.TheVariants.{NoMemory}
use Rattle.sk_status.specs.declared.status.FileKind.{FileKind}
use Rattle.sk_outcome.specs.Stage.{Stage, ◌>>=◌, MayAnswer}
use Rattle.sk_outcome.specs.Seen.{Source, Stays, seen_by}
use Rattle.sk_outcome.specs.Files.{reads, file_limit}

-- ---- one stage after another

-- what a run may answer behind a stage that answered a value
pub may_then : {A B X : Type 0} (view : X → B) (first : Stage A) (next : A → Stage B) (a : A) (r : Result X Status) → first (Ok a)
    → MayAnswer view (next a) r → MayAnswer view (first >>= next) r
may_then view first next a (Ok x) h k = (a, h, k)
may_then view first next a (Err NoMemory) h k = tt
may_then view first next a (Err _) h k = inr (a, h, k)

-- a stage that ends the run ends what begins with it
pub may_end : {A B X Y : Type 0} (view : X → A) (view' : Y → B) (first : Stage A) (next : A → Stage B) (status : Status)
    → MayAnswer view first (Err status) → MayAnswer view' (first >>= next) (Err status)
may_end view view' first next NoMemory h = tt
may_end view view' first next _ h = inl h

-- the same of two results that are this status
pub may_end_as : {A B X Y : Type 0} (view : X → A) (view' : Y → B) (first : Stage A) (next : A → Stage B) (q : Result X Status) (r : Result Y Status) (status : Status)
    → q ≡ Err status → r ≡ Err status → MayAnswer view first q → MayAnswer view' (first >>= next) r
may_end_as {A} {B} {X} {Y} view view' first next q r status e f h =
    subst (λ (s : Result Y Status). MayAnswer view' (first >>= next) s) (sym f)
    (may_end view view' first next status (subst (λ (s : Result X Status). MayAnswer view first s) e h))

-- a status ends a run, however its values are seen
pub may_see : {A X Y : Type 0} (view : X → A) (view' : Y → A) (stage : Stage A) (status : Status)
    → MayAnswer view stage (Err status) → MayAnswer view' stage (Err status)
may_see view view' stage NoMemory h = tt
may_see view view' stage _ h = h

-- the same of two results that are this status
pub may_see_as : {A X Y : Type 0} (view : X → A) (view' : Y → A) (stage : Stage A) (q : Result X Status) (r : Result Y Status) (status : Status)
    → q ≡ Err status → r ≡ Err status → MayAnswer view stage q → MayAnswer view' stage r
may_see_as {A} {X} {Y} view view' stage q r status e f h =
    subst (λ (s : Result Y Status). MayAnswer view' stage s) (sym f)
    (may_see view view' stage status (subst (λ (s : Result X Status). MayAnswer view stage s) e h))

-- what `?` hands on
pub handed_on : {X : Type 0} (r : Result X Status) (status : Status) → IsErrAnd r (λ (s : Status). s ≡ status) → r ≡ Err status
handed_on (Ok x) status h = absurd h
handed_on (Err s) status h = ap Err h

-- ---- one source after another

-- files that hold the same
abbrev pub Keeps : Source → Source → Type 0
Keeps s u = (name : List ℕ) → u.holds name ≡ s.holds name

-- one source, and another that holds the same files, and whose counts rose where those of the first did
pub record Moves (s u : Source) : Type 0 where
  pub holds : Keeps s u
  pub rose : (name : List ℕ) → s.rose name → u.rose name
  pub given : s.given ≡ u.given

-- A stage over sources: its values stand over each source that holds the same files, and its refusals over each that it
-- moves to.
pub record Follows {A : Type 0} (stage : Source → Stage A) : Type 1 where
  pub kept : (s u : Source) → Keeps s u → (a : A) → stage s (Ok a) → stage u (Ok a)
  pub ended : (s u : Source) → Moves s u → (status : Status) → stage s (Err status) → stage u (Err status)

pub follows_moved : {A : Type 0} (stage : Source → Stage A) (s u : Source) → Follows stage → Moves s u → (r : Result A Status) → stage s r → stage u r
follows_moved stage s u f m (Ok a) h = f.kept s u m.holds a h
follows_moved stage s u f m (Err status) h = f.ended s u m status h

reads_kept : (kind : FileKind) (name : List ℕ) (s u : Source) → Keeps s u → (bytes : List ℕ) → reads s kind name (Ok bytes) → reads u kind name (Ok bytes)
reads_kept kind name s u k bytes h = (h.0, subst (λ (o : Option (List ℕ)). IfSome o (λ file. bytes ≡ file)) (sym (k name)) h.1)

reads_ended : (kind : FileKind) (name : List ℕ) (s u : Source) → Moves s u → (status : Status) → reads s kind name (Err status) → reads u kind name (Err status)
reads_ended kind name s u m status (inl h) = inl (h.0, m.rose name h.1)
reads_ended kind name s u m status (inr h) =
    inr (h.0, subst (λ (n : ℕ). file_limit < n) m.given h.1, subst (λ (o : Option (List ℕ)). IfSome o (λ file. file_limit < length file)) (sym (m.holds name)) h.2)

pub reads_follow : (kind : FileKind) (name : List ℕ) → Follows (λ s. reads s kind name)
reads_follow kind name = record { kept = reads_kept kind name; ended = reads_ended kind name }

then_kept : {A B : Type 0} (first : Source → Stage A) (next : Source → A → Stage B) → Follows first → ((a : A) → Follows (λ s. next s a))
    → (s u : Source) → Keeps s u → (b : B) → (first s >>= next s) (Ok b) → (first u >>= next u) (Ok b)
then_kept first next f g s u k b h = (h.0, f.kept s u k h.0 h.1, (g h.0).kept s u k b h.2)

then_ended : {A B : Type 0} (first : Source → Stage A) (next : Source → A → Stage B) → Follows first → ((a : A) → Follows (λ s. next s a))
    → (s u : Source) → Moves s u → (status : Status) → (first s >>= next s) (Err status) → (first u >>= next u) (Err status)
then_ended first next f g s u m status (inl h) = inl (f.ended s u m status h)
then_ended first next f g s u m status (inr h) = inr (h.0, f.kept s u m.holds h.0 h.1, (g h.0).ended s u m status h.2)

-- one stage after another follows, where both do
pub then_follows : {A B : Type 0} (first : Source → Stage A) (next : Source → A → Stage B) → Follows first → ((a : A) → Follows (λ s. next s a)) → Follows (λ s. first s >>= next s)
then_follows first next f g = record { kept = then_kept first next f g; ended = then_ended first next f g }

-- a stage that reads nothing
pub no_reading : {A : Type 0} (stage : Stage A) → Follows (λ s. stage)
no_reading stage = record { kept = λ s u k a h. h; ended = λ s u m status h. h }

-- ---- one call on a depot after another

rose_later : (a b c : ℕ) → a ≤ b → Rose b c → Rose a c
rose_later a b c h r = omega arith

module _ {D : Type 0} (holds : D → List ℕ → Option (List ℕ)) (given : D → ℕ) (faults : D → List ℕ → ℕ) where
  abbrev seen : D → D → Source
  seen a b = seen_by holds given faults a b

  pub moves : (a b c : D) → Stays holds faults a b → Moves (seen b c) (seen a c)
  moves a b c h = record {
    holds = λ name. sym (h.0 name);
    rose = λ name r. rose_later (faults a name) (faults b name) (faults c name) (h.1 name) r;
    given = refl;
  }

  -- a call that answered a value, and what follows it
  pub reads_then : {A B X : Type 0} (view : X → B) (first : Source → Stage A) (next : Source → A → Stage B) (a b c : D) (value : A) (r : Result X Status)
      → Follows first → ((a : A) → Follows (λ s. next s a)) → Stays holds faults a b
      → first (seen a b) (Ok value) → MayAnswer view (next (seen b c) value) r → MayAnswer view (first (seen a c) >>= next (seen a c)) r
  reads_then view first next a b c value (Ok x) f g h p q =
      (value, f.kept (seen a b) (seen a c) (λ name. refl) value p, (g value).kept (seen b c) (seen a c) (λ name. sym (h.0 name)) (view x) q)
  reads_then view first next a b c value (Err NoMemory) f g h p q = tt
  reads_then view first next a b c value (Err status) f g h p q =
      inr (value, f.kept (seen a b) (seen a c) (λ name. refl) value p, (g value).ended (seen b c) (seen a c) (moves a b c h) status q)
