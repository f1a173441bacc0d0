-- The sides of a triangle, counted from any.
use Rattle.std.proofs.Common.{◌≡◌, refl, sym, subst}
use Rattle.mesh.specs.Net.{Side, first, second, third, after}

-- each edge is one of the three, counted from any
pub data Around (k x : Side) : Type 0 where
  itself : x ≡ k → Around k x
  one_on : x ≡ after k → Around k x
  two_on : x ≡ after (after k) → Around k x

pub around : (k x : Side) → Around k x
around first first = itself refl
around first second = one_on refl
around first third = two_on refl
around second first = two_on refl
around second second = itself refl
around second third = one_on refl
around third first = one_on refl
around third second = two_on refl
around third third = itself refl

abbrev is_first : Side → Type 0
is_first first = Unit {0}
is_first second = ⊥
is_first third = ⊥

abbrev is_third : Side → Type 0
is_third first = ⊥
is_third second = ⊥
is_third third = Unit {0}

-- the three are three
pub first_second : first ≡ second → ⊥
first_second e = subst is_first e tt

pub first_third : first ≡ third → ⊥
first_third e = subst is_first e tt

pub second_third : second ≡ third → ⊥
second_third e = subst is_third (sym e) tt
