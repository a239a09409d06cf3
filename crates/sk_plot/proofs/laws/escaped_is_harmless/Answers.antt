use Rattle.std.proofs.Common.{◌≡◌, ℕ, Bool, true, false, List, [], ◌∷◌, ◌++◌, arith}
use Rattle.std.specs.Prelude.{IsTrue, ◌&&◌}
use Rattle.std.specs.List.{list_all}
use Rattle.std.proofs.lemmas.Grind.{common_steps}
use Rattle.sk_plot.specs.Escape.{escape, escaped, is_harmless}
use Rattle.sk_plot.proofs.laws.escaped_is_harmless.Goals as goal

both : (xs ys : List ℕ) → IsTrue (list_all is_harmless xs) → IsTrue (list_all is_harmless ys) → IsTrue (list_all is_harmless (xs ++ ys))
both [] ys h k = k
both (x ∷ xs) ys h k = grind (arith, common_steps, both xs ys)

one : (byte : ℕ) → IsTrue (list_all is_harmless (escape byte))
one byte = grind (arith, common_steps)

all : (bytes : List ℕ) → IsTrue (list_all is_harmless (escaped bytes))
all [] = search arith
all (byte ∷ bytes) = both (escape byte) (escaped bytes) (one byte) (all bytes)

pub returns : goal.returns
returns c = all
