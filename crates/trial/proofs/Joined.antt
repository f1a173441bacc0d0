-- Pieces added to a text one after the other.
use Rattle.std.proofs.Common.{◌≡◌, ◌∙◌, ℕ, List, ◌++◌, ap, OnOk, append_assoc}
use Rattle.std.specs.declared.result.Result.{Result}
use Rattle.std.specs.declared.result.Result.TheVariants.{Ok, Err}

pub three_joined : {T E : Type 0} (r : Result T E) (t x y z a b n : List ℕ) → a ≡ t ++ x → b ≡ a ++ y → OnOk r (n ≡ b ++ z) → OnOk r (n ≡ t ++ (x ++ y ++ z))
three_joined (Ok u) t x y z a b n e f g = g ∙ ap (λ l. l ++ z) (f ∙ ap (λ l. l ++ y) e ∙ append_assoc t x y) ∙ append_assoc t (x ++ y) z
three_joined (Err u) t x y z a b n e f g = tt
