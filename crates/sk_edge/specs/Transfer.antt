-- What reads and writes move.
use Rattle.std.specs.Prelude.{◌≡◌, ℕ, ◌+◌, ◌-◌, ◌^◌, ◌<◌, ◌≤◌, min, List, length, take, Result, Ok, Err, Option}
use Rattle.std.specs.Io.KnownBytes.{Appends, Consumes}

-- the number of bytes given so far, after a read
abbrev pub given_after : {E : Type 0} → ℕ → Result ℕ E → ℕ
given_after given (Ok count) = min (given + count) (2 ^ 64 - 1)
given_after given (Err fault) = given

-- files hold what they held
abbrev pub SameFiles : (List ℕ → Option (List ℕ)) → (List ℕ → Option (List ℕ)) → Type 0
SameFiles before now = (name : List ℕ) → now name ≡ before name

-- known bytes grow by a proper prefix of these
abbrev pub AppendsProperPrefix : Option (List ℕ) → Option (List ℕ) → List ℕ → Type 0
AppendsProperPrefix old new bytes = (count : ℕ) × (count < length bytes) × Appends old new (take count bytes)

-- A read moved so many bytes that they are more than the limit leaves behind those taken before.
pub record ReadsPast (taken limit : ℕ) (rest rest' : Option (List ℕ)) (given given' : ℕ) (buf : List ℕ) : Type 0 where
  pub count : ℕ
  pub within : count ≤ length buf
  pub past : limit < taken + count
  pub bytes : Consumes rest rest' (take count buf)
  pub counted : given' ≡ min (given + count) (2 ^ 64 - 1)
