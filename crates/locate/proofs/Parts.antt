-- Where a place lies by a triangle, by the signs at its three edges.
use Rattle.std.specs.Prelude.{ℤ, pos, ◌<ℤ◌, ◌≤ℤ◌}
use Rattle.std.proofs.Common.{◌≡◌, Bool, true, false, refl, sym, arith}
use Rattle.std.proofs.lemmas.Int.{ints}
use Rattle.ground_model.specs.declared.corner.Corner.TheVariants.{At}
use Rattle.ground_model.specs.Corner.{corner_at as place_of, corner_side}
use Rattle.ground_model.specs.Place.{Coords, IsPlace}
use Rattle.ground_model.proofs.Circle.{side-turned}
use Rattle.predicates.specs.Sign.{order}
use Rattle.std.specs.Ordering.{is_lt, is_eq}
use Rattle.predicates.specs.declared.sign.Sign.{Sign}
use Rattle.predicates.specs.declared.sign.Sign.TheVariants.{Negative, Zero, Positive}
use Rattle.predicates.proofs.FarOrientations.{valid-of}
use Rattle.predicates.proofs.PointsApart.{place-corner, at-corner}
use Rattle.predicates.proofs.Signs.{positive-along}
use Rattle.tri_pages.specs.declared.tri_slot.TriSlot.{TriSlot}
use Rattle.mesh.specs.Acrosses.{apex}
use Rattle.mesh.specs.Net.{Side, first, second, third, after, corner_at}
use Rattle.mesh.specs.Sheets.{IsTurned}
use Rattle.locate.specs.Parts.{IsSigned, sign_at, HasNoRight, IsRightAt, IsBeyond}
use Rattle.locate.specs.declared.part.Sides.{Sides}
use Rattle.mesh.specs.Insides.{IsInTriangle, IsOnEdge}
use Rattle.mesh.proofs.TurnedSlots.{by_side}

-- ---- signs
pub signed_zero : (s : ℤ) (x : Sign) → IsSigned s x → x ≡ Zero → s ≡ pos 0
signed_zero s Zero h e = h
signed_zero s Negative h e = cc
signed_zero s Positive h e = cc

pub signed_right : (s : ℤ) (x : Sign) → IsSigned s x → x ≡ Negative → s <ℤ pos 0
signed_right s Negative h e = h
signed_right s Zero h e = cc
signed_right s Positive h e = cc

pub signed_left : (s : ℤ) (x : Sign) → IsSigned s x → (x ≡ Negative → ⊥) → (x ≡ Zero → ⊥) → pos 0 <ℤ s
signed_left s Positive h f g = h
signed_left s Negative h f g = absurd (f refl)
signed_left s Zero h f g = absurd (g refl)

pub signed_within : (s : ℤ) (x : Sign) → IsSigned s x → (x ≡ Negative → ⊥) → pos 0 ≤ℤ s
signed_within s Positive h f = omega (arith, ints, h)
signed_within s Negative h f = absurd (f refl)
signed_within s Zero h f = omega (arith, ints, h)

-- ---- a place on two edges is their corner
-- a triangle is counterclockwise from each of its edges
pub left_from : (t : TriSlot) (k : Side) → IsTurned t → pos 0 <ℤ corner_side (corner_at t k) (corner_at t (after k)) (apex t k)
left_from t first turned = turned.left
left_from t second turned = positive-along (corner_side (corner_at t second) (corner_at t third) (corner_at t first)) (corner_side (corner_at t first) (corner_at t second) (corner_at t third)) (sym (side-turned (place_of (corner_at t first)) (place_of (corner_at t second)) (place_of (corner_at t third)))) turned.left
left_from t third turned = positive-along (corner_side (corner_at t third) (corner_at t first) (corner_at t second)) (corner_side (corner_at t first) (corner_at t second) (corner_at t third)) (side-turned (place_of (corner_at t third)) (place_of (corner_at t first)) (place_of (corner_at t second))) turned.left

pub corner_is : (t : TriSlot) (k : Side) (p : Coords) → IsTurned t → IsPlace p → corner_side (corner_at t k) (corner_at t (after k)) (At p) ≡ pos 0 → corner_side (apex t k) (corner_at t k) (At p) ≡ pos 0 → corner_at t k ≡ At p
corner_is t k p turned place ab ca =
    sym (place-corner (corner_at t k) p (valid-of (corner_at t k) (turned.known k)) place (at-corner (place_of (corner_at t k)) (place_of (corner_at t (after k))) (place_of (apex t k)) p (left_from t k turned) ab ca))

pub zero_by : (b : Bool) (x : Sign) → b ≡ is_eq (order x) → b ≡ true → x ≡ Zero
zero_by b Zero e h = refl
zero_by b Negative e h = cc
zero_by b Positive e h = cc

pub nonzero_by : (b : Bool) (x : Sign) → b ≡ is_eq (order x) → b ≡ false → x ≡ Zero → ⊥
nonzero_by b Zero e h f = cc
nonzero_by b Negative e h f = cc
nonzero_by b Positive e h f = cc

pub negative_by : (b : Bool) (x : Sign) → b ≡ is_lt (order x) → b ≡ true → x ≡ Negative
negative_by b Negative e h = refl
negative_by b Zero e h = cc
negative_by b Positive e h = cc

pub nonnegative_by : (b : Bool) (x : Sign) → b ≡ is_lt (order x) → b ≡ false → x ≡ Negative → ⊥
nonnegative_by b Negative e h f = cc
nonnegative_by b Zero e h f = cc
nonnegative_by b Positive e h f = cc

-- ---- by the signs at the three edges
abbrev pub AreSigned : TriSlot → Coords → Sides → Type 0
AreSigned t p s = (k : Side) → IsSigned (corner_side (corner_at t k) (corner_at t (after k)) (At p)) (sign_at s k)

module _ (t : TriSlot) (p : Coords) (s : Sides) (signed : AreSigned t p s) where
  flat_at : (k : Side) → sign_at s k ≡ Zero → corner_side (corner_at t k) (corner_at t (after k)) (At p) ≡ pos 0
  flat_at k e = signed_zero (corner_side (corner_at t k) (corner_at t (after k)) (At p)) (sign_at s k) (signed k) e

  left_at : HasNoRight s → (k : Side) → (sign_at s k ≡ Zero → ⊥) → pos 0 <ℤ corner_side (corner_at t k) (corner_at t (after k)) (At p)
  left_at within k off = signed_left (corner_side (corner_at t k) (corner_at t (after k)) (At p)) (sign_at s k) (signed k) (within k) off

  pub right_at : (k : Side) → IsRightAt s k → IsBeyond t k p
  right_at k e = signed_right (corner_side (corner_at t k) (corner_at t (after k)) (At p)) (sign_at s k) (signed k) e

  pub corner_by : (k : Side) → IsTurned t → IsPlace p → sign_at s k ≡ Zero → sign_at s (after (after k)) ≡ Zero → corner_at t k ≡ At p
  corner_by first turned place ab ca = corner_is t first p turned place (flat_at first ab) (flat_at third ca)
  corner_by second turned place ab ca = corner_is t second p turned place (flat_at second ab) (flat_at first ca)
  corner_by third turned place ab ca = corner_is t third p turned place (flat_at third ab) (flat_at second ca)

  pub on_edge_by : (k : Side) → HasNoRight s → sign_at s k ≡ Zero → (sign_at s (after k) ≡ Zero → ⊥) → (sign_at s (after (after k)) ≡ Zero → ⊥) → IsOnEdge t k p
  on_edge_by first within ab bc ca = record { flat = flat_at first ab; bc = left_at within second bc; ca = left_at within third ca }
  on_edge_by second within ab bc ca = record { flat = flat_at second ab; bc = left_at within third bc; ca = left_at within first ca }
  on_edge_by third within ab bc ca = record { flat = flat_at third ab; bc = left_at within first bc; ca = left_at within second ca }

  pub inside_by : HasNoRight s → (sign_at s first ≡ Zero → ⊥) → (sign_at s second ≡ Zero → ⊥) → (sign_at s third ≡ Zero → ⊥) → IsInTriangle t p
  inside_by within ab bc ca = by_side (λ k. pos 0 <ℤ corner_side (corner_at t k) (corner_at t (after k)) (At p)) (left_at within first ab) (left_at within second bc) (left_at within third ca)

pub signed_by : (t : TriSlot) (p : Coords) (s : Sides)
    → IsSigned (corner_side (corner_at t first) (corner_at t second) (At p)) s.ab → IsSigned (corner_side (corner_at t second) (corner_at t third) (At p)) s.bc → IsSigned (corner_side (corner_at t third) (corner_at t first) (At p)) s.ca → AreSigned t p s
signed_by t p s ab bc ca = by_side (λ k. IsSigned (corner_side (corner_at t k) (corner_at t (after k)) (At p)) (sign_at s k)) ab bc ca

pub none_right : (s : Sides) → (s.ab ≡ Negative → ⊥) → (s.bc ≡ Negative → ⊥) → (s.ca ≡ Negative → ⊥) → HasNoRight s
none_right s ab bc ca = by_side (λ k. IsRightAt s k → ⊥) ab bc ca
