-- No point with facets all round it is farthest to the left of an edge.
use Rattle.std.proofs.Common.{◌≡◌, refl, sym, arith, List, [], ◌∷◌, Bool, true}
use Rattle.std.specs.Prelude.{ℤ, pos, ◌+ℤ◌, ◌-ℤ◌, ◌*ℤ◌, ◌<ℤ◌, ◌≤ℤ◌, int_lt, ◌&&◌}
use Rattle.std.specs.List.{list_any}
use Rattle.std.proofs.lemmas.Int.{ints, by_lt_z}
use Rattle.std.proofs.lemmas.Bool.{and_parts, and_from, both_ways as clash}
use Rattle.ground_model.specs.Place.{Coords}
use Rattle.ground_model.specs.Side.{side, is_left}
use Rattle.ground_model.proofs.Ring.{◌⊖◌, ◌⊗◌, ◌⊕◌, ring}
use Rattle.ground_model.proofs.Circle.{env, sideE}
use Rattle.ground_model.proofs.Elements.{In}
use Rattle.predicates.proofs.NoFourInPlane.{is_left-from}
use Rattle.predicates.proofs.FlatSides.{flat_bc}
use Rattle.predicates.proofs.Signs.{mul-negative, mul-nonpos, weaken-neg}
use Rattle.cdt_law.proofs.Hull.{not_left}
use Rattle.cdt_law.proofs.NearestPoint.{Last, last}

-- places a, b, c, u, v, w have numbers 0 to 5
pub turns : (a b c u v w : Coords) → side c u w *ℤ (side a b v -ℤ side a b c) ≡ side c v w *ℤ (side a b u -ℤ side a b c) +ℤ side c u v *ℤ (side a b w -ℤ side a b c)
unfolding side
turns a b c u v w = ring (env (a ∷ b ∷ c ∷ u ∷ v ∷ w ∷ []))
    (sideE 2 3 5 ⊗ (sideE 0 1 4 ⊖ sideE 0 1 2)) (sideE 2 4 5 ⊗ (sideE 0 1 3 ⊖ sideE 0 1 2) ⊕ sideE 2 3 4 ⊗ (sideE 0 1 5 ⊖ sideE 0 1 2)) refl

pub left-is : (a b p : Coords) → is_left a b p ≡ true → pos 0 <ℤ side a b p
left-is a b p e = by_lt_z (pos 0) (side a b p) (λ lt. lt) (λ le. absurd (clash (is_left a b p) (not_left a b p le) e))

-- the places to the right of c, as seen along ab, in their order round c
module _ (a b c : Coords) where
  is_lower_than_c : Coords → Bool
  is_lower_than_c v = int_lt (side a b v) (side a b c)

  lower-of : (v : Coords) → is_lower_than_c v ≡ true → (side a b v -ℤ side a b c) <ℤ pos 0
  unfolding is_lower_than_c
  lower-of v e = less (side a b v) (side a b c) e
    where
      less : (x y : ℤ) → int_lt x y ≡ true → (x -ℤ y) <ℤ pos 0
      less x y e = omega (arith, ints, sym e)

  before : Coords → Coords → Bool
  before u v = is_lower_than_c u && is_lower_than_c v && is_left c u v

  record Before (u v : Coords) : Type 0 where
    first : is_lower_than_c u ≡ true
    second : is_lower_than_c v ≡ true
    left : is_left c u v ≡ true

  before-of : (u v : Coords) → before u v ≡ true → Before u v
  unfolding before
  before-of u v e =
      let outer = and_parts (is_lower_than_c u && is_lower_than_c v) (is_left c u v) e in
      let inner = and_parts (is_lower_than_c u) (is_lower_than_c v) outer.0 in
      record { first = inner.0; second = inner.1; left = outer.1 }

  before-from : (u v : Coords) → is_lower_than_c u ≡ true → is_lower_than_c v ≡ true → is_left c u v ≡ true → before u v ≡ true
  unfolding before
  before-from u v e f g = and_from (is_lower_than_c u && is_lower_than_c v) (is_left c u v) (and_from (is_lower_than_c u) (is_lower_than_c v) e f) g

  not-itself : (x : Coords) → before x x ≡ true → ⊥
  not-itself x e = flat (side c x x) (left-is c x x (before-of x x e).left) (side-twice x)
    where
      flat : (s : ℤ) → pos 0 <ℤ s → s ≡ pos 0 → ⊥
      flat s h e = omega (arith, ints, h, e)

      side-twice : (x : Coords) → side c x x ≡ pos 0
      side-twice x = flat_bc c x x refl

  further : (u v w : Coords) → before u v ≡ true → before v w ≡ true → before u w ≡ true
  further u v w e f = before-from u w uv.first vw.second (is_left-from c u w (by_lt_z (pos 0) (side c u w) (λ lt. lt) (λ le. absurd (never le))))
    where
      uv : Before u v
      uv = before-of u v e

      vw : Before v w
      vw = before-of v w f

      none : (x y z : ℤ) → x ≡ y +ℤ z → pos 0 ≤ℤ x → y <ℤ pos 0 → z <ℤ pos 0 → ⊥
      none x y z e h k l = omega (arith, ints, e, h, k, l)

      never : side c u w ≤ℤ pos 0 → ⊥
      never le = none (side c u w *ℤ (side a b v -ℤ side a b c)) (side c v w *ℤ (side a b u -ℤ side a b c)) (side c u v *ℤ (side a b w -ℤ side a b c)) (turns a b c u v w)
          (mul-nonpos (side c u w) (side a b v -ℤ side a b c) le (weaken-neg (side a b v -ℤ side a b c) (lower-of v uv.second)))
          (mul-negative (side c v w) (side a b u -ℤ side a b c) (left-is c v w vw.left) (lower-of u uv.first))
          (mul-negative (side c u v) (side a b w -ℤ side a b c) (left-is c u v uv.left) (lower-of w vw.second))

  -- each of some places has one of them to its left, as seen from c: so not all of them are to the right of c
  pub no-half-plane : (places : List Coords) (test : Coords → Bool) → ((v : Coords) → In v places → test v ≡ true → side a b v <ℤ side a b c)
      → ((v : Coords) → In v places → test v ≡ true → (w : Coords) × (In w places × ((test w ≡ true) × (is_left c v w ≡ true)))) → list_any test places ≡ true → ⊥
  unfolding is_lower_than_c
  no-half-plane places test lower next some = by (next l.item l.of l.passes)
    where
      l : Last test before places
      l = last test before not-itself further places some

      less : (x y : ℤ) → x <ℤ y → int_lt x y ≡ true
      less x y h = let e : true ≡ int_lt x y = omega (arith, ints, h) in sym e

      is_low : (v : Coords) → In v places → test v ≡ true → is_lower_than_c v ≡ true
      is_low v i e = less (side a b v) (side a b c) (lower v i e)

      by : (w : Coords) × (In w places × ((test w ≡ true) × (is_left c l.item w ≡ true))) → ⊥
      by (w, (i, (e, left))) = l.none w i e (before-from l.item w (is_low l.item l.of l.passes) (is_low w i e) left)
