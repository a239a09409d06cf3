-- Appends one after the other.
use Rattle.std.specs.Prelude.{ℤ}
use Rattle.sk_plot.specs.Picture.{label_text}
use Rattle.std.proofs.Common.{◌≡◌, ℕ, List, ◌++◌, ap, ◌∙◌, append_assoc}

pub two : (a b c x y : List ℕ) → b ≡ a ++ x → c ≡ b ++ y → c ≡ a ++ (x ++ y)
two a b c x y e f = f ∙ ap (λ (t : List ℕ). t ++ y) e ∙ append_assoc a x y

pub three : (a b c d x y z : List ℕ) → b ≡ a ++ x → c ≡ b ++ y → d ≡ c ++ z → d ≡ a ++ (x ++ (y ++ z))
three a b c d x y z e f g = two a b d x (y ++ z) e (two b c d y z f g)

pub four : (a b c d f x y z w : List ℕ) → b ≡ a ++ x → c ≡ b ++ y → d ≡ c ++ z → f ≡ d ++ w → f ≡ a ++ (x ++ (y ++ (z ++ w)))
four a b c d f x y z w p q r s = two a b f x (y ++ (z ++ w)) p (three b c d f y z w q r s)

pub five : (a b c d f g x y z w v : List ℕ) → b ≡ a ++ x → c ≡ b ++ y → d ≡ c ++ z → f ≡ d ++ w → g ≡ f ++ v
    → g ≡ a ++ (x ++ (y ++ (z ++ (w ++ v))))
five a b c d f g x y z w v p q r s t = two a b g x (y ++ (z ++ (w ++ v))) p (four b c d f g y z w v q r s t)

pub six : (a b c d f g h x y z w v u : List ℕ) → b ≡ a ++ x → c ≡ b ++ y → d ≡ c ++ z → f ≡ d ++ w → g ≡ f ++ v → h ≡ g ++ u
    → h ≡ a ++ (x ++ (y ++ (z ++ (w ++ (v ++ u)))))
six a b c d f g h x y z w v u p q r s t i = two a b h x (y ++ (z ++ (w ++ (v ++ u)))) p (five b c d f g h y z w v u q r s t i)

pub seven : (a b c d f g h j x y z w v u s : List ℕ) → b ≡ a ++ x → c ≡ b ++ y → d ≡ c ++ z → f ≡ d ++ w → g ≡ f ++ v → h ≡ g ++ u → j ≡ h ++ s
    → j ≡ a ++ (x ++ (y ++ (z ++ (w ++ (v ++ (u ++ s))))))
seven a b c d f g h j x y z w v u s p q r k t i l = two a b j x (y ++ (z ++ (w ++ (v ++ (u ++ s))))) p (six b c d f g h j y z w v u s q r k t i l)

pub eight : (a b c d f g h j m x y z w v u s e : List ℕ) → b ≡ a ++ x → c ≡ b ++ y → d ≡ c ++ z → f ≡ d ++ w → g ≡ f ++ v → h ≡ g ++ u → j ≡ h ++ s → m ≡ j ++ e
    → m ≡ a ++ (x ++ (y ++ (z ++ (w ++ (v ++ (u ++ (s ++ e)))))))
eight a b c d f g h j m x y z w v u s e p q r k t i l o = two a b m x (y ++ (z ++ (w ++ (v ++ (u ++ (s ++ e)))))) p (seven b c d f g h j m y z w v u s e q r k t i l o)

pub label_at : (old new : List ℕ) (step : ℕ) (v z : ℤ) → v ≡ z → new ≡ old ++ label_text step v → new ≡ old ++ label_text step z
label_at old new step v z e f = f ∙ ap (λ (x : ℤ). old ++ label_text step x) e

-- the same of an equal value
pub moved : {A : Type 0} (f : A → List ℕ) (old new : List ℕ) (x y : A) → x ≡ y → new ≡ old ++ f x → new ≡ old ++ f y
moved f old new x y e h = h ∙ ap (λ a. old ++ f a) e
