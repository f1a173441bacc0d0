-- Corners that are not the same.
use Rattle.std.specs.Prelude.{◌≡◌, List, [], ◌∷◌}
use Rattle.ground_model.specs.declared.corner.Corner.{Corner}

-- the corner is none of these
abbrev pub IsNoneOf : Corner → List Corner → Type 0
IsNoneOf c [] = Unit {0}
IsNoneOf c (x ∷ xs) = (c ≡ x → ⊥) × IsNoneOf c xs

-- no two of the corners are the same
abbrev pub Distinct : List Corner → Type 0
Distinct [] = Unit {0}
Distinct (c ∷ cs) = IsNoneOf c cs × Distinct cs
