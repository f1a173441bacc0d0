-- The edges and corners of faces, by other names.
use Rattle.std.proofs.Common.{◌≡◌, ◌<◌, ℕ, Some, List, sym, ap, ◌∙◌, subst, arith}
use Rattle.std.specs.Option.{option_map}
use Rattle.ground_model.specs.declared.corner.Corner.{Corner}
use Rattle.ground_model.specs.declared.corner.Corner.TheVariants.{At}
use Rattle.ground_model.specs.Place.{Coords}
use Rattle.tri_pages.specs.declared.tri_slot.TriSlot.{TriSlot}
use Rattle.tri_pages.specs.Slots.{State, triangle_at}
use Rattle.mesh.specs.Faces.{Face, face, face_at}
use Rattle.mesh.specs.Net.{Side, after, corner_at, slots_of, outside, rim}
use Rattle.mesh.specs.Sheets.{IsSheetMesh, HasCorner}
use Rattle.mesh.proofs.Contents.{HasEdge, tail_of}
use Rattle.mesh.proofs.Filled.{faced}
use Rattle.mesh.proofs.SheetLaw.{standing, far_at}
use Rattle.mesh.proofs.Sides.{around, itself, one_on, two_on}
use Rattle.mesh.proofs.TurnedSlots.{by_side}

-- the sides from k on
pub round : (k : Side) (P : Side → Type 0) → P k → P (after k) → P (after (after k)) → (x : Side) → P x
round k P a b c x = elim (around k x) as (λ _. P x) [ itself e ↦ subst P (sym e) a | one_on e ↦ subst P (sym e) b | two_on e ↦ subst P (sym e) c ]

pub never_less : 0 < 0 → ⊥
never_less h = omega (arith, h)

pub uncounted : (n : ℕ) → n ≡ 0 → 0 < n → ⊥
uncounted n e h = omega (arith, e, h)

pub renamed : (slots : List State) (a b a' b' : Corner) (n : ℕ) → HasEdge slots a b n → a ≡ a' → b ≡ b' → HasEdge slots a' b' n
renamed slots a b a' b' n x e f = record { slot = x.slot; tri = x.tri; side = x.side; there = x.there; tail = x.tail ∙ e; head = x.head ∙ f; count = x.count }

pub renamed_corner : (slots : List State) (a a' : Corner) → HasCorner slots a → a ≡ a' → HasCorner slots a'
renamed_corner slots a a' x e = record { slot = x.slot; tri = x.tri; side = x.side; there = x.there; is = x.is ∙ e }

-- a slot with a place is not the rim
pub not_rim : (slots : List State) (s : ℕ) (f : Face) (k : Side) (p : Coords) → face_at (slots_of slots) s ≡ Some f → tail_of f k ≡ At p → s ≡ outside → ⊥
not_rim slots s f k p is at out =
    let w = faced (slots_of slots s) f is in
    let same : rim ≡ w.tri = rim_is slots s w.tri out w.is in
    by_side (λ j. corner_at rim j ≡ At p → ⊥) (far_at 0 p) (far_at 2 p) (far_at 1 p) k (ap (λ y. corner_at y k) same ∙ ap (λ g. tail_of g k) w.same ∙ at)
  where
    rim_is : (slots : List State) (s : ℕ) (t : TriSlot) → s ≡ outside → slots_of slots s ≡ Some t → rim ≡ t
    rim_is slots s t out is = let e : Some rim ≡ Some t = sym (ap (slots_of slots) out) ∙ is in cc

pub old_face : (slots : List State) (m : IsSheetMesh slots) (s : ℕ) (t : TriSlot) → triangle_at slots s ≡ Some t → face_at (slots_of slots) s ≡ Some (face t)
old_face slots m s t there = ap (option_map face) (standing slots m.mesh s t there)

pub other_place : (p q : Coords) → (q ≡ p → ⊥) → At q ≡ At p → ⊥
other_place p q ne e = ne cc
