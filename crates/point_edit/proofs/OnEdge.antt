-- A place on an edge lies between two points.
use Rattle.std.proofs.Common.{◌≡◌, ◌⊎◌, List, [], ◌∷◌, Bool, true, false, refl, sym, ap, subst, ◌∙◌, inl, inr, arith, Some}
use Rattle.std.specs.Prelude.{ℕ, ℤ, pos, neg_ℤ, ◌+ℤ◌, ◌-ℤ◌, ◌*ℤ◌, ◌<ℤ◌, ◌≤ℤ◌, not, ◌&&◌, ◌||◌}
use Rattle.std.proofs.lemmas.Int.{ints}
use Rattle.ground_model.specs.declared.corner.Corner.{Corner}
use Rattle.ground_model.specs.declared.corner.Corner.TheVariants.{At}
use Rattle.ground_model.specs.Corner.{corner_at as place_of}
use Rattle.ground_model.specs.Place.{Coords, IsPlace, is_before}
use Rattle.std.specs.Ordering.{is_eq}
use Rattle.ground_model.specs.Side.{side, orientation, is_on_segment}
use Rattle.ground_model.proofs.Along.{Mean, mean_by}
use Rattle.ground_model.proofs.Circle.{env, sideE}
use Rattle.ground_model.proofs.Ring.{var, ◌⊕◌, ◌⊖◌, ◌⊗◌, ring}
use Rattle.ground_model.proofs.Segments.{on_of_mean}
use Rattle.predicates.proofs.FarOrientations.{Flat, Three, Ends, AtEnd, flat}
use Rattle.predicates.proofs.FlatSides.{flat_ab, flat_bc, flat_ca, side-back}
use Rattle.cdt_law.proofs.LongerPieces.{Inside, one-before}
use Rattle.cdt_law.proofs.PiecesWithout.{on-in-order}
use Rattle.cdt_law.proofs.PointCounts.{Between, inside-between, inside-between-back}
use Rattle.tri_pages.specs.Slots.{State, triangle_at}
use Rattle.tri_pages.specs.declared.tri_slot.TriSlot.{TriSlot}
use Rattle.mesh.specs.Acrosses.{apex}
use Rattle.mesh.specs.Insides.{IsOnEdge}
use Rattle.mesh.specs.Net.{Side, after, corner_at}
use Rattle.mesh.specs.Sheets.{IsSheetMesh}
use Rattle.mesh.proofs.InSheets.{left_at, on_edge_no_corner}
use Rattle.mesh.proofs.SheetLaw.{standing}

-- ---- by sides
east : (a b c p : Coords) → (side b c p +ℤ side c a p) *ℤ p.e ≡ side b c p *ℤ a.e +ℤ side c a p *ℤ b.e +ℤ side a b p *ℤ (c.e -ℤ p.e)
unfolding side
east a b c p = ring (env (a ∷ b ∷ c ∷ p ∷ [])) ((sideE 1 2 3 ⊕ sideE 2 0 3) ⊗ var 6) (sideE 1 2 3 ⊗ var 0 ⊕ sideE 2 0 3 ⊗ var 2 ⊕ sideE 0 1 3 ⊗ (var 4 ⊖ var 6)) refl

north : (a b c p : Coords) → (side b c p +ℤ side c a p) *ℤ p.n ≡ side b c p *ℤ a.n +ℤ side c a p *ℤ b.n +ℤ side a b p *ℤ (c.n -ℤ p.n)
unfolding side
north a b c p = ring (env (a ∷ b ∷ c ∷ p ∷ [])) ((sideE 1 2 3 ⊕ sideE 2 0 3) ⊗ var 7) (sideE 1 2 3 ⊗ var 1 ⊕ sideE 2 0 3 ⊗ var 3 ⊕ sideE 0 1 3 ⊗ (var 5 ⊖ var 7)) refl

dropped : (x s y : ℤ) → s ≡ pos 0 → x +ℤ s *ℤ y ≡ x
dropped x s y e = (λ i. x +ℤ e i *ℤ y) ∙ none x y
  where
    none : (x y : ℤ) → x +ℤ pos 0 *ℤ y ≡ x
    none x y = omega (arith, ints)

at-least : (x : ℤ) → pos 0 <ℤ x → pos 0 ≤ℤ x
at-least x h = omega (arith, ints, h)

both-more : (x y : ℤ) → pos 0 <ℤ x → pos 0 <ℤ y → pos 0 <ℤ (x +ℤ y)
both-more x y h k = omega (arith, ints, h, k)

zero-not-more : (x : ℤ) → x ≡ pos 0 → pos 0 <ℤ x → ⊥
zero-not-more x e h = omega (arith, ints, e, h)

mean-on : (a b c p : Coords) → side a b p ≡ pos 0 → pos 0 <ℤ side b c p → pos 0 <ℤ side c a p → Mean a b p
mean-on a b c p flat bc ca = mean_by a b p (side b c p) (side c a p) (at-least (side b c p) bc) (at-least (side c a p) ca) (both-more (side b c p) (side c a p) bc ca)
    (east a b c p ∙ dropped (side b c p *ℤ a.e +ℤ side c a p *ℤ b.e) (side a b p) (c.e -ℤ p.e) flat)
    (north a b c p ∙ dropped (side b c p *ℤ a.n +ℤ side c a p *ℤ b.n) (side a b p) (c.n -ℤ p.n) flat)

-- what is on a segment, and none of its ends, lies between them, from either end
on-between : (a b p : Coords) → side a b p ≡ pos 0 → side b a p ≡ pos 0 → is_on_segment a b p ≡ true → (p ≡ a → ⊥) → (p ≡ b → ⊥) → Between a b p × Between b a p
on-between a b p flat flat_back on not_a not_b = by (one-before a p (λ e. not_a (sym e))) (one-before p b not_b)
  where
    never : (eq pa bp pb ap : Bool) → (eq && (not pa && not bp || not pb && not ap)) ≡ true → (pa ≡ true) ⊎ (bp ≡ true) → (pb ≡ true) ⊎ (ap ≡ true) → ⊥
    never false pa bp pb ap e f g = cc
    never true true bp true ap e f g = cc
    never true true bp false true e f g = cc
    never true true bp false false e f (inl g) = cc
    never true true bp false false e f (inr g) = cc
    never true false true true ap e f g = cc
    never true false true false true e f g = cc
    never true false true false false e f (inl g) = cc
    never true false true false false e f (inr g) = cc
    never true false false pb ap e (inl f) g = cc
    never true false false pb ap e (inr f) g = cc

    by : (is_before a p ≡ true) ⊎ (is_before p a ≡ true) → (is_before p b ≡ true) ⊎ (is_before b p ≡ true) → Between a b p × Between b a p
    by (inl ap_) (inl pb) =
        let x : Inside a b p = record { on = on; after = ap_; before = pb } in
        (inside-between a b p x, inside-between-back b a p x)
    by (inr pa) (inr bp) =
        let x : Inside b a p = record { on = on-in-order b p a flat_back bp pa; after = bp; before = pa } in
        (inside-between-back a b p x, inside-between b a p x)
    by (inl ap_) (inr bp) = absurd (never (is_eq (orientation a b p)) (is_before p a) (is_before b p) (is_before p b) (is_before a p) on (inr bp) (inr ap_))
    by (inr pa) (inl pb) = absurd (never (is_eq (orientation a b p)) (is_before p a) (is_before b p) (is_before p b) (is_before a p) on (inl pa) (inl pb))

pub between-on : (a b c p : Coords) → side a b p ≡ pos 0 → pos 0 <ℤ side b c p → pos 0 <ℤ side c a p → Between a b p × Between b a p
between-on a b c p flat bc ca = on-between a b p flat (side-back a b p ∙ negated (side a b p) flat) (on_of_mean a b p (mean-on a b c p flat bc ca))
    (λ e. zero-not-more (side c a p) (flat_bc c a p (sym e)) ca) (λ e. zero-not-more (side b c p) (flat_ca b c p e) bc)
  where
    negated : (x : ℤ) → x ≡ pos 0 → neg_ℤ x ≡ pos 0
    negated x e = omega (arith, ints, e)

-- ---- on an edge of a mesh
pub record Ended (a b : Corner) (p : Coords) : Type 0 where
  pub first : Coords
  pub last : Coords
  pub a_is : a ≡ At first
  pub b_is : b ≡ At last
  pub between : Between first last p × Between last first p

pub ended : (slots : List State) → IsSheetMesh slots → (s : ℕ) (t : TriSlot) (k : Side) (p : Coords) → triangle_at slots s ≡ Some t → IsPlace p → IsOnEdge t k p → Ended (corner_at t k) (corner_at t (after k)) p
ended slots m s t k p there place on = by (flat (corner_at t k) (corner_at t (after k)) (At p) ((m.turned s t there).known k) ((m.turned s t there).known (after k)) place on.flat)
  where
    a : Corner
    a = corner_at t k

    b : Corner
    b = corner_at t (after k)

    c : Coords
    c = place_of (apex t k)

    by : Flat (corner_at t k) (corner_at t (after k)) (At p) → Ended (corner_at t k) (corner_at t (after k)) p
    by (Three x y z f g h) = record {
      first = x;
      last = y;
      a_is = f;
      b_is = g;
      between = between-on x y c p (ap (λ d. side (place_of d) y p) (sym f) ∙ ap (λ d. side (place_of (corner_at t k)) (place_of d) p) (sym g) ∙ on.flat)
          (subst (λ d. pos 0 <ℤ side (place_of d) c p) g on.bc) (subst (λ d. pos 0 <ℤ side c (place_of d) p) f on.ca);
    }
    by (Ends e) = absurd (zero-not-more _ (flat_ab (place_of (corner_at t k)) (place_of (corner_at t (after k))) c (ap place_of e)) (left_at slots m s t k there))
    by (AtEnd (inl e) f) = absurd (on_edge_no_corner slots m s t k p there place on s t k (standing slots m.mesh s t there) (sym e))
    by (AtEnd (inr e) f) = absurd (on_edge_no_corner slots m s t k p there place on s t (after k) (standing slots m.mesh s t there) (sym e))
