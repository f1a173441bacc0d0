-- Where an edge crosses a way: a triangle that has places near by has that edge.
use Rattle.std.proofs.Common.{◌≡◌, ℕ, ◌+◌, ◌<◌, Some, List, [], ◌∷◌, refl, sym, ap, subst, ◌∙◌, arith}
use Rattle.std.specs.Prelude.{ℤ, pos, ◌+ℤ◌, ◌-ℤ◌, ◌*ℤ◌, ◌<ℤ◌, ◌≤ℤ◌, unsigned_abs, slice_get}
use Rattle.std.proofs.lemmas.Int.{ints}
use Rattle.ground_model.specs.declared.corner.Corner.{Corner}
use Rattle.ground_model.specs.declared.corner.Corner.TheVariants.{At}
use Rattle.ground_model.specs.Corner.{corner_at as place_of, corner_side}
use Rattle.ground_model.specs.Place.{Coords}
use Rattle.ground_model.specs.Side.{side}
use Rattle.ground_model.proofs.Circle.{env, sideE}
use Rattle.ground_model.proofs.Ring.{num, ◌⊕◌, ◌⊖◌, ◌⊗◌, ring}
use Rattle.ground_model.proofs.ZOrder.{mul-positive}
use Rattle.predicates.specs.Net.{Net, Triangle}
use Rattle.predicates.specs.Weighted.{Weighted, weighted_side, once, joined, repeated}
use Rattle.predicates.proofs.FarTriangle.{closed-packs}
use Rattle.predicates.proofs.FlatSides.{flat_bc, flat_ca}
use Rattle.predicates.proofs.NearCorners.{InNet}
use Rattle.predicates.proofs.Nudged.{Shared, many-left, many-within, many-some}
use Rattle.predicates.proofs.Owners.{IsTurn, Still, Once, Twice, turn-inside}
use Rattle.predicates.proofs.Signs.{level-up, mul-negative, positive-along}
use Rattle.predicates.proofs.Tiling.{closed}
use Rattle.predicates.proofs.WeightedSides.{weighted_side-once, weighted_side-joined, weighted_side-repeated}
use Rattle.tri_pages.specs.Slots.{State, triangle_at}
use Rattle.tri_pages.specs.declared.tri_slot.TriSlot.{TriSlot}
use Rattle.mesh.specs.Acrosses.{apex}
use Rattle.mesh.specs.Net.{Side, after, corner_at}
use Rattle.mesh.specs.Sheets.{IsSheetMesh, HasSide, net_in}
use Rattle.mesh.proofs.InSheets.{in_net, left_at}
use Rattle.mesh.proofs.NetOfMesh.{sheet_in}
use Rattle.line_edit.proofs.Ways.{zero_times}

-- ---- the place where the edge from c to d crosses the way, as a sum of its ends
abbrev pub cut : Coords → Coords → Coords → Coords → Weighted
cut p q c d = joined (repeated (side p q d) (once c)) (repeated (pos 0 -ℤ side p q c) (once d))

-- how far it lies to the left of ab
abbrev pub beside : Coords → Coords → Coords → Coords → Coords → Coords → ℤ
beside p q c d a b = side c d b *ℤ side p q a -ℤ side c d a *ℤ side p q b

-- p, q, c, d, a, b have numbers 0 to 5
exchange : (p q c d a b : Coords) → side p q d *ℤ side a b c +ℤ (pos 0 -ℤ side p q c) *ℤ side a b d ≡ beside p q c d a b
unfolding side
exchange p q c d a b = ring (env (p ∷ q ∷ c ∷ d ∷ a ∷ b ∷ [])) (sideE 0 1 3 ⊗ sideE 4 5 2 ⊕ (num (pos 0) ⊖ sideE 0 1 2) ⊗ sideE 4 5 3) (sideE 2 3 5 ⊗ sideE 0 1 4 ⊖ sideE 2 3 4 ⊗ sideE 0 1 5) refl

pub cut_side : (p q c d a b : Coords) → weighted_side a b (cut p q c d) ≡ beside p q c d a b
cut_side p q c d a b =
    weighted_side-joined a b (repeated (side p q d) (once c)) (repeated (pos 0 -ℤ side p q c) (once d))
    ∙ (λ i. weighted_side-repeated a b (side p q d) (once c) i +ℤ weighted_side-repeated a b (pos 0 -ℤ side p q c) (once d) i)
    ∙ (λ i. side p q d *ℤ weighted_side-once a b c i +ℤ (pos 0 -ℤ side p q c) *ℤ weighted_side-once a b d i)
    ∙ exchange p q c d a b

-- z lies to the left of ab, or on its line while y lies to the left
pub data Lies (a b : Coords) (z y : Weighted) : Type 0 where
  Strictly : pos 0 <ℤ weighted_side a b z → Lies a b z y
  Towards : pos 0 ≤ℤ weighted_side a b z → pos 0 <ℤ weighted_side a b y → Lies a b z y

lies_left : (a b : Coords) (z y : Weighted) (k : ℕ) → unsigned_abs (weighted_side a b y) < k → Lies a b z y → pos 0 <ℤ weighted_side a b (joined (repeated (pos k) z) y)
lies_left a b z y k less (Strictly h) = many-left a b k z y less h
lies_left a b z y k less (Towards h l) = many-within a b k z y h l

-- so many times the one as outweigh the sides of the other
abbrev enough : Coords → Coords → Coords → Coords → Coords → Coords → Weighted → ℕ
enough c d e a b f y =
    1 + unsigned_abs (weighted_side c d y) + unsigned_abs (weighted_side d e y) + unsigned_abs (weighted_side e c y) + unsigned_abs (weighted_side a b y) + unsigned_abs (weighted_side b f y) + unsigned_abs (weighted_side f a y)

heavy : (s t : ℤ) → pos 0 <ℤ s → t <ℤ pos 0 → pos 0 <ℤ (s *ℤ pos 1 +ℤ (pos 0 -ℤ t) *ℤ pos 1)
heavy s t h k = omega (arith, ints, h, k)

no_more : (s t : ℤ) → s ≡ pos 0 → t ≡ pos 0 → s -ℤ t ≡ pos 0
no_more s t e f = omega (arith, ints, e, f)

first_more : (s t : ℤ) → pos 0 <ℤ s → t ≡ pos 0 → pos 0 <ℤ (s -ℤ t)
first_more s t h e = omega (arith, ints, h, e)

last_less : (s t : ℤ) → s ≡ pos 0 → t <ℤ pos 0 → pos 0 <ℤ (s -ℤ t)
last_less s t e h = omega (arith, ints, e, h)

module _ (p q c d e : Coords) (right : side p q c <ℤ pos 0) (left : pos 0 <ℤ side p q d) (turned : pos 0 <ℤ side c d e) (y : Weighted) (some : pos 0 ≤ℤ y.weight) (near : pos 0 <ℤ weighted_side c d y) where
  own_cd : Lies c d (cut p q c d) y
  own_cd = Towards (level-up (weighted_side c d (cut p q c d)) (cut_side p q c d c d ∙ no_more (side c d d *ℤ side p q c) (side c d c *ℤ side p q d) (zero_times (side c d d) (side p q c) (flat_bc c d d refl)) (zero_times (side c d c) (side p q d) (flat_ca c d c refl)))) near

  own_de : Lies d e (cut p q c d) y
  own_de = Strictly (positive-along (weighted_side d e (cut p q c d)) (beside p q c d d e) (cut_side p q c d d e)
      (first_more (side c d e *ℤ side p q d) (side c d d *ℤ side p q e) (mul-positive (side c d e) (side p q d) turned left) (zero_times (side c d d) (side p q e) (flat_bc c d d refl))))

  own_ec : Lies e c (cut p q c d) y
  own_ec = Strictly (positive-along (weighted_side e c (cut p q c d)) (beside p q c d e c) (cut_side p q c d e c)
      (last_less (side c d c *ℤ side p q e) (side c d e *ℤ side p q c) (zero_times (side c d c) (side p q e) (flat_ca c d c refl)) (mul-negative (side c d e) (side p q c) turned right)))

  -- a place near by lies strictly inside both triangles
  pub near_cut : (a b f : Coords) → Lies a b (cut p q c d) y → Lies b f (cut p q c d) y → Lies f a (cut p q c d) y → Shared a b f c d e
  near_cut a b f ab bf fa = record {
    point = joined (repeated (pos (enough c d e a b f y)) (cut p q c d)) y;
    some = many-some (enough c d e a b f y) (side p q d *ℤ pos 1 +ℤ (pos 0 -ℤ side p q c) *ℤ pos 1) y.weight (omega arith) (heavy (side p q d) (side p q c) left right) some;
    first = record {
      ab = lies_left a b (cut p q c d) y (enough c d e a b f y) (omega arith) ab;
      bc = lies_left b f (cut p q c d) y (enough c d e a b f y) (omega arith) bf;
      ca = lies_left f a (cut p q c d) y (enough c d e a b f y) (omega arith) fa;
    };
    second = record {
      ab = lies_left c d (cut p q c d) y (enough c d e a b f y) (omega arith) own_cd;
      bc = lies_left d e (cut p q c d) y (enough c d e a b f y) (omega arith) own_de;
      ca = lies_left e c (cut p q c d) y (enough c d e a b f y) (omega arith) own_ec;
    };
  }

-- ---- the edge from x to y is one of the triangle's
pub data IsAmong (a b f x y : Corner) : Type 0 where
  Leading : x ≡ a → y ≡ b → IsAmong a b f x y
  Middle : x ≡ b → y ≡ f → IsAmong a b f x y
  Closing : x ≡ f → y ≡ a → IsAmong a b f x y

turn_edges : (t : Triangle) (x y z a b f : Corner) → IsTurn t x y z → IsTurn t a b f → IsAmong a b f x y
turn_edges t x y z a b f Still Still = Leading refl refl
turn_edges t x y z a b f Still Once = Closing refl refl
turn_edges t x y z a b f Still Twice = Middle refl refl
turn_edges t x y z a b f Once Still = Middle refl refl
turn_edges t x y z a b f Once Once = Leading refl refl
turn_edges t x y z a b f Once Twice = Closing refl refl
turn_edges t x y z a b f Twice Still = Closing refl refl
turn_edges t x y z a b f Twice Once = Middle refl refl
turn_edges t x y z a b f Twice Twice = Leading refl refl

among : (net : Net) (x y z a b f : Corner) (s : InNet net x y z) (t : InNet net a b f) → t.index ≡ s.index → IsAmong a b f x y
among net x y z a b f s t same =
    let both : Some t.triangle ≡ Some s.triangle = sym t.at ∙ ap (slice_get net.triangles) same ∙ s.at in
    let one : t.triangle ≡ s.triangle = cc in
    turn_edges s.triangle x y z a b f s.turn (subst (λ (w : Triangle). IsTurn w a b f) one t.turn)

-- ---- a triangle that has places near where an edge crosses the way has the edge
module _ (slots : List State) (m : IsSheetMesh slots) (p q c d : Coords) (g : HasSide slots (At c) (At d)) (right : side p q c <ℤ pos 0) (left : pos 0 <ℤ side p q d) (y : Weighted) (some : pos 0 ≤ℤ y.weight) (near : pos 0 <ℤ weighted_side c d y) where
  abbrev third : Corner
  third = apex g.tri g.side

  own : InNet (net_in slots) (At c) (At d) third
  own = subst (λ z. z) (λ i. InNet (net_in slots) (g.tail i) (g.head i) third) (in_net slots m g.slot g.tri g.side g.there)

  own_turned : pos 0 <ℤ side c d (place_of third)
  own_turned = subst (λ z. z) (λ i. pos 0 <ℤ corner_side (g.tail i) (g.head i) third) (left_at slots m g.slot g.tri g.side g.there)

  pub one_edge : (n : ℕ) (u : TriSlot) (j : Side) → triangle_at slots n ≡ Some u
      → Lies (place_of (corner_at u j)) (place_of (corner_at u (after j))) (cut p q c d) y → Lies (place_of (corner_at u (after j))) (place_of (apex u j)) (cut p q c d) y → Lies (place_of (apex u j)) (place_of (corner_at u j)) (cut p q c d) y
      → IsAmong (corner_at u j) (corner_at u (after j)) (apex u j) (At c) (At d)
  one_edge n u j there ab bf fa =
      let t = in_net slots m n u j there in
      let x = near_cut p q c d (place_of third) right left own_turned y some near (place_of (corner_at u j)) (place_of (corner_at u (after j))) (place_of (apex u j)) ab bf fa in
      among (net_in slots) (At c) (At d) third (corner_at u j) (corner_at u (after j)) (apex u j) own t
      (closed-packs (net_in slots) (closed (net_in slots) (sheet_in slots m)) x.point x.some t.index own.index t.triangle own.triangle t.at own.at
      (turn-inside t.triangle (corner_at u j) (corner_at u (after j)) (apex u j) x.point t.turn x.first) (turn-inside own.triangle (At c) (At d) third x.point own.turn x.second))
