-- Where a sheet is locally Delaunay, each point below a triangle's plane and beyond its edge is walled from that edge.
use Rattle.std.proofs.Common.{◌≡◌, ℕ, ◌<◌, refl, sym, arith, true}
use Rattle.std.specs.Prelude.{ℤ, pos, ◌<ℤ◌, ◌≤ℤ◌, Some, slice_get}
use Rattle.std.proofs.lemmas.Int.{ints}
use Rattle.ground_model.specs.declared.corner.Corner.{Corner}
use Rattle.ground_model.specs.declared.corner.Corner.TheVariants.{At, Far}
use Rattle.ground_model.specs.Place.{Coords, IsPlace}
use Rattle.ground_model.specs.Side.{side}
use Rattle.ground_model.specs.Corner.{corner_at, corner_side}
use Rattle.ground_model.proofs.Circle.{side-turned}
use Rattle.predicates.specs.Net.{Net, Triangle, count_of, covers, has_corner}
use Rattle.predicates.specs.Sheet.{IsSheet}
use Rattle.predicates.proofs.Valid.{IsValid}
use Rattle.predicates.proofs.FarTriangle.{AreValid}
use Rattle.predicates.proofs.Owners.{IsTurn, Still, Once, Twice, Owner}
use Rattle.cdt_law.proofs.Walls.{Walls}
use Rattle.predicates.proofs.Heights.{lift, deep}
use Rattle.predicates.proofs.HigherPlanes.{depth-turned}
use Rattle.predicates.proofs.Signs.{level-down, level-up}
use Rattle.predicates.proofs.FlatSides.{flat_bc, flat_ca, positive-back}

-- ---- a sheet and a place of it
pub record Around : Type 0 where
  pub net : Net
  pub sheet : IsSheet net
  pub local : (a b : Corner) (o : Owner net.triangles a b) (q : Owner net.triangles b a) → count_of net a b ≡ 0 → deep a b o.third q.third ≤ℤ pos 0
  pub p : Coords
  pub p_place : IsPlace p
  pub clear : (k : ℕ) (t : Triangle) → slice_get net.triangles k ≡ Some t → covers t p ≡ true → has_corner t (At p) ≡ true

-- a piece that walls p from both ends of an edge
pub record Walled (g : Around) (a b : Corner) : Type 0 where
  pub u : Coords
  pub v : Coords
  pub piece : 0 < g.net.count u v
  pub at_a : Walls u v (corner_at a) g.p
  pub at_b : Walls u v (corner_at b) g.p

-- ---- turns
pub turn-depth : (t : Triangle) (a b c p : Corner) → IsTurn t a b c → deep a b c p ≡ deep t.a t.b t.c p
turn-depth t a b c p Still = refl
turn-depth t a b c p Once = sym (depth-turned (lift t.a) (lift t.b) (lift t.c) (lift p))
turn-depth t a b c p Twice = depth-turned (lift t.c) (lift t.a) (lift t.b) (lift p)

pub turn-of-side : (t : Triangle) (a b c : Corner) → IsTurn t a b c → corner_side a b c ≡ corner_side t.a t.b t.c
turn-of-side t a b c Still = refl
turn-of-side t a b c Once = sym (side-turned (corner_at t.a) (corner_at t.b) (corner_at t.c))
turn-of-side t a b c Twice = side-turned (corner_at t.c) (corner_at t.a) (corner_at t.b)

pub record AllValid (a b c : Corner) : Type 0 where
  pub a_in : IsValid a
  pub b_in : IsValid b
  pub c_in : IsValid c

pub turn-valid : (t : Triangle) (a b c : Corner) → IsTurn t a b c → AreValid t → AllValid a b c
turn-valid t a b c Still v = record { a_in = v.a; b_in = v.b; c_in = v.c }
turn-valid t a b c Once v = record { a_in = v.b; b_in = v.c; c_in = v.a }
turn-valid t a b c Twice v = record { a_in = v.c; b_in = v.a; c_in = v.b }

-- ---- a counted edge walls its own outside
wall_of_itself : (p a b : Coords) → side a b p <ℤ pos 0 → Walls b a a p × Walls b a b p
wall_of_itself p a b h = (
  record { left = positive-back a b p h; across = level-down (side b a a) (flat_bc b a a refl); first = below (side p a b) (side a b p) (side-turned p a b) h; second = level-up (side p a a) (flat_bc p a a refl) },
  record { left = positive-back a b p h; across = level-down (side b a b) (flat_ca b a b refl); first = level-down (side p b b) (flat_bc p b b refl); second = over (side p b a) (side b a p) (side-turned p b a) (positive-back a b p h) },
)
  where
    below : (s t : ℤ) → s ≡ t → t <ℤ pos 0 → s ≤ℤ pos 0
    below s t e h = omega (arith, ints, e, h)

    over : (s t : ℤ) → s ≡ t → pos 0 <ℤ t → pos 0 ≤ℤ s
    over s t e h = omega (arith, ints, e, h)

pub counted-wall : (g : Around) (a b : Corner) → 0 < count_of g.net a b → side (corner_at a) (corner_at b) g.p <ℤ pos 0 → Walled g a b
counted-wall g (At a) (At b) h beyond =
    let both = wall_of_itself g.p a b beyond in
    record { u = b; v = a; piece = along (g.net.count b a) (g.net.count a b) (g.sheet.even b a) h; at_a = both.0; at_b = both.1 }
  where
    along : (m n : ℕ) → m ≡ n → 0 < n → 0 < m
    along m n e h = omega (arith, e, h)
counted-wall g (At a) (Far k) h beyond = absurd (omega (arith, h))
counted-wall g (Far j) x h beyond = absurd (omega (arith, h))
