-- A good triangle: it has no point but its corners, no piece across its edges, and a wall before each point inside its circle.
use Rattle.std.proofs.Common.{◌≡◌, ℕ, ◌<◌, ◌⊎◌, inl, inr, refl, sym, ap, ◌∙◌, arith, List, [], ◌∷◌, true}
use Rattle.std.specs.Prelude.{pos, ◌<ℤ◌, ◌≤ℤ◌}
use Rattle.std.specs.List.{All}
use Rattle.std.proofs.lemmas.Int.{by_lt_z}
use Rattle.ground_model.specs.declared.corner.Corner.{Corner}
use Rattle.ground_model.specs.declared.corner.Corner.TheVariants.{At}
use Rattle.ground_model.specs.Place.{Coords, IsPlace}
use Rattle.ground_model.specs.Side.{side}
use Rattle.ground_model.specs.Line.{is_point}
use Rattle.ground_model.specs.Lifted.{Lifted}
use Rattle.ground_model.specs.Corner.{corner_at, corner_side}
use Rattle.ground_model.proofs.Ring.{var, num, ◌⊕◌, ◌⊖◌, ◌⊗◌, ring}
use Rattle.ground_model.proofs.Circle.{sideE, side-turned}
use Rattle.predicates.specs.Weighted.{Weighted}
use Rattle.predicates.specs.Depth.{depth}
use Rattle.predicates.proofs.Heights.{lift, deep}
use Rattle.predicates.proofs.Nudged.{Inside}
use Rattle.predicates.proofs.CrossedEdges.{Crosses}
use Rattle.cdt_law.proofs.Walls.{Walls}
use Rattle.predicates.proofs.HigherPlanes.{depth-turned}
use Rattle.predicates.proofs.OneEdgeBeyond.{beyond_ab-bc, beyond_ab-ca}
use Rattle.predicates.proofs.Valid.{IsValid, Place}
use Rattle.predicates.proofs.FarTriangle.{listed-place}
use Rattle.predicates.proofs.PlanesBelow.{leans, lean_e, lean_n}
use Rattle.cdt_law.proofs.Walk.{AllValid}
use Rattle.cdt_law.proofs.CleanTriangle.{OnlyCorner, clean}
use Rattle.cdt_law.proofs.Cone.{parted}
use Rattle.predicates.proofs.Signs.{negative-neg, never-flat, never-level, positive-along, positive-neg}
use Rattle.predicates.proofs.FlatSides.{flat_ab, flat_bc, flat_ca, side-back}

-- points, and how often each two are the ends of a piece
pub record Site : Type 0 where
  pub points : List Coords
  pub count : Coords → Coords → ℕ

-- the points are places, and the ends of pieces are points
pub record IsSite (s : Site) : Type 0 where
  pub places : All IsPlace s.points
  pub even : (p q : Coords) → s.count p q ≡ s.count q p
  pub ends : (p q : Coords) → 0 < s.count p q → is_point s.points p ≡ true

-- a piece that walls p from both ends of an edge
pub record WallAt (s : Site) (a b : Corner) (p : Coords) : Type 0 where
  pub u : Coords
  pub v : Coords
  pub piece : 0 < s.count u v
  pub at_a : Walls u v (corner_at a) p
  pub at_b : Walls u v (corner_at b) p

-- each point below the plane of a, b, c and beyond the edge xy is walled from it
abbrev pub IsGuarded : Site → Corner → Corner → Corner → Corner → Corner → Type 0
IsGuarded s a b c x y = (p : Coords) → is_point s.points p ≡ true → pos 0 <ℤ deep a b c (At p) → side (corner_at x) (corner_at y) p <ℤ pos 0 → WallAt s x y p

-- no piece crosses the edge
abbrev pub IsFree : Site → Corner → Corner → Type 0
IsFree s x y = (u v : Coords) → 0 < s.count u v → Crosses (corner_at x) (corner_at y) u v → ⊥

pub record IsGood (s : Site) (a b c : Corner) : Type 0 where
  pub all_in : AllValid a b c
  pub turned : pos 0 <ℤ corner_side a b c
  pub clear : (p : Coords) → is_point s.points p ≡ true → pos 0 ≤ℤ side (corner_at a) (corner_at b) p → pos 0 ≤ℤ side (corner_at b) (corner_at c) p → pos 0 ≤ℤ side (corner_at c) (corner_at a) p
      → (At p ≡ a) ⊎ ((At p ≡ b) ⊎ (At p ≡ c))
  pub free_ab : IsFree s a b
  pub free_bc : IsFree s b c
  pub free_ca : IsFree s c a
  pub wall_ab : IsGuarded s a b c a b
  pub wall_bc : IsGuarded s a b c b c
  pub wall_ca : IsGuarded s a b c c a

rotated : {P Q R : Type 0} → P ⊎ (Q ⊎ R) → Q ⊎ (R ⊎ P)
rotated (inl p) = inr (inr p)
rotated (inr (inl q)) = inl q
rotated (inr (inr r)) = inr (inl r)

pub good-turned : (s : Site) (a b c : Corner) → IsGood s a b c → IsGood s b c a
good-turned s a b c g = record {
  all_in = record { a_in = g.all_in.b_in; b_in = g.all_in.c_in; c_in = g.all_in.a_in };
  turned = positive-along (corner_side b c a) (corner_side a b c) (sym (side-turned (corner_at a) (corner_at b) (corner_at c))) g.turned;
  clear = λ p at bc ca ab. rotated (g.clear p at ab bc ca);
  free_ab = g.free_bc;
  free_bc = g.free_ca;
  free_ca = g.free_ab;
  wall_ab = λ p at h. g.wall_bc p at (back p h);
  wall_bc = λ p at h. g.wall_ca p at (back p h);
  wall_ca = λ p at h. g.wall_ab p at (back p h);
}
  where
    back : (p : Coords) → pos 0 <ℤ deep b c a (At p) → pos 0 <ℤ deep a b c (At p)
    back p h = positive-along (deep a b c (At p)) (deep b c a (At p)) (depth-turned (lift a) (lift b) (lift c) (lift (At p))) h

pub inside-turned : (a b c : Coords) (x : Weighted) → Inside a b c x → Inside b c a x
inside-turned a b c x h = record { ab = h.bc; bc = h.ca; ca = h.ab }

-- ---- a corner is not below its own plane
depth-corner : (a b c : Lifted) → depth a b c a ≡ pos 0
unfolding depth side
depth-corner a b c =
    ring (a.at.e ∷ a.at.n ∷ b.at.e ∷ b.at.n ∷ c.at.e ∷ c.at.n ∷ a.height ∷ b.height ∷ c.height ∷ [])
    (var 6 ⊗ sideE 1 2 0 ⊕ var 7 ⊗ sideE 2 0 0 ⊕ var 8 ⊗ sideE 0 1 0 ⊖ var 6 ⊗ sideE 0 1 2) (num (pos 0)) refl

deep-corner : (a b c z : Corner) → pos 0 <ℤ deep a b c z → (z ≡ a) ⊎ ((z ≡ b) ⊎ (z ≡ c)) → ⊥
deep-corner a b c z h (inl e) = never-level (deep a b c z) h (ap (deep a b c) e ∙ depth-corner (lift a) (lift b) (lift c))
deep-corner a b c z h (inr (inl e)) = never-level (deep a b c z) h (ap (deep a b c) e ∙ depth-turned (lift a) (lift b) (lift c) (lift b) ∙ depth-corner (lift b) (lift c) (lift a))
deep-corner a b c z h (inr (inr e)) = never-level (deep a b c z) h (ap (deep a b c) e ∙ depth-turned (lift a) (lift b) (lift c) (lift c) ∙ depth-turned (lift b) (lift c) (lift a) (lift c) ∙ depth-corner (lift c) (lift a) (lift b))

-- ---- of two good triangles over one point, no corner of the second that is a point lies below the plane of the first
no_deep-ab : (s : Site) → IsSite s → (a b c : Corner) (z : Coords) (q r : Corner) → IsGood s a b c → IsGood s (At z) q r
    → (x : Weighted) → Inside (corner_at a) (corner_at b) (corner_at c) x → Inside z (corner_at q) (corner_at r) x
    → is_point s.points z ≡ true → pos 0 <ℤ deep a b c (At z) → side (corner_at a) (corner_at b) z <ℤ pos 0 → ⊥
no_deep-ab s site a b c z q r first second x in1 in2 at_z deep_z beyond =
    clean z (corner_at q) (corner_at r) w.u w.v x second.turned in2 (only w.u (site.ends w.u w.v w.piece)) (only w.v (site.ends w.v w.u back)) (second.free_ab w.u w.v w.piece) no_ca
    (parted (corner_at a) (corner_at b) (corner_at c) z w.u w.v x first.turned in1 beyond left_bc left_ca w.at_a w.at_b)
  where
    w : WallAt s a b z
    w = first.wall_ab z at_z deep_z beyond

    back : 0 < s.count w.v w.u
    back = swap (s.count w.v w.u) (s.count w.u w.v) (site.even w.v w.u) w.piece
      where
        swap : (m n : ℕ) → m ≡ n → 0 < n → 0 < m
        swap m n e h = omega (arith, e, h)

    not_a : At z ≡ a → ⊥
    not_a e = never-flat (side (corner_at a) (corner_at b) z) beyond (flat_ca (corner_at a) (corner_at b) z (ap corner_at e))

    not_b : At z ≡ b → ⊥
    not_b e = never-flat (side (corner_at a) (corner_at b) z) beyond (flat_bc (corner_at a) (corner_at b) z (sym (ap corner_at e)))

    not_ab : a ≡ b → ⊥
    not_ab e = never-level (corner_side a b c) first.turned (flat_ab (corner_at a) (corner_at b) (corner_at c) (ap corner_at e))

    z_in : IsValid (At z)
    z_in = Place z (listed-place s.points site.places z at_z)

    left_bc : pos 0 <ℤ side (corner_at b) (corner_at c) z
    left_bc = beyond_ab-bc (lift a) (lift b) (lift c) (lift (At z)) first.turned deep_z beyond (record {
      k = lean_e b;
      l = lean_n b;
      x_above = leans b a first.all_in.b_in first.all_in.a_in not_ab;
      y_above = leans b c first.all_in.b_in first.all_in.c_in (λ e. never-level (corner_side a b c) first.turned (flat_bc (corner_at a) (corner_at b) (corner_at c) (sym (ap corner_at e))));
      z_above = leans b (At z) first.all_in.b_in z_in not_b;
    })

    left_ca : pos 0 <ℤ side (corner_at c) (corner_at a) z
    left_ca = beyond_ab-ca (lift a) (lift b) (lift c) (lift (At z)) first.turned deep_z beyond (record {
      k = lean_e a;
      l = lean_n a;
      x_above = leans a b first.all_in.a_in first.all_in.b_in (λ e. not_ab (sym e));
      y_above = leans a c first.all_in.a_in first.all_in.c_in (λ e. never-level (corner_side a b c) first.turned (flat_ca (corner_at a) (corner_at b) (corner_at c) (ap corner_at e)));
      z_above = leans a (At z) first.all_in.a_in z_in not_a;
    })

    only : (u : Coords) → is_point s.points u ≡ true → OnlyCorner z (corner_at q) (corner_at r) u
    only u at = record { corner = λ pq qr rp. by (second.clear u at pq qr rp) }
      where
        by : (At u ≡ At z) ⊎ ((At u ≡ q) ⊎ (At u ≡ r)) → (u ≡ z) ⊎ ((u ≡ corner_at q) ⊎ (u ≡ corner_at r))
        by (inl e) = inl (ap corner_at e)
        by (inr (inl e)) = inr (inl (ap corner_at e))
        by (inr (inr e)) = inr (inr (ap corner_at e))

    no_ca : Crosses z (corner_at r) w.u w.v → ⊥
    no_ca k = second.free_ca w.v w.u back (record {
      v_left = positive-neg (side z (corner_at r) w.u) (side (corner_at r) z w.u) (side-back z (corner_at r) w.u) k.u_right;
      u_right = negative-neg (side z (corner_at r) w.v) (side (corner_at r) z w.v) (side-back z (corner_at r) w.v) k.v_left;
      a_left = positive-neg (side w.u w.v (corner_at r)) (side w.v w.u (corner_at r)) (side-back w.u w.v (corner_at r)) k.b_right;
      b_right = negative-neg (side w.u w.v z) (side w.v w.u z) (side-back w.u w.v z) k.a_left;
    })

pub no_deep : (s : Site) → IsSite s → (a b c : Corner) (z : Coords) (q r : Corner) → IsGood s a b c → IsGood s (At z) q r
    → (x : Weighted) → Inside (corner_at a) (corner_at b) (corner_at c) x → Inside z (corner_at q) (corner_at r) x
    → is_point s.points z ≡ true → pos 0 <ℤ deep a b c (At z) → ⊥
no_deep s site a b c z q r first second x in1 in2 at_z deep_z =
    by_lt_z (side (corner_at a) (corner_at b) z) (pos 0)
    (λ lt. no_deep-ab s site a b c z q r first second x in1 in2 at_z deep_z lt)
    (λ ge_ab. by_lt_z (side (corner_at b) (corner_at c) z) (pos 0)
    (λ lt. no_deep-ab s site b c a z q r (good-turned s a b c first) second x (inside-turned (corner_at a) (corner_at b) (corner_at c) x in1) in2 at_z deep_b lt)
    (λ ge_bc. by_lt_z (side (corner_at c) (corner_at a) z) (pos 0)
    (λ lt. no_deep-ab s site c a b z q r (good-turned s b c a (good-turned s a b c first)) second x (inside-turned (corner_at b) (corner_at c) (corner_at a) x (inside-turned (corner_at a) (corner_at b) (corner_at c) x in1)) in2 at_z deep_c lt)
    (λ ge_ca. deep-corner a b c (At z) deep_z (first.clear z at_z ge_ab ge_bc ge_ca))))
  where
    deep_b : pos 0 <ℤ deep b c a (At z)
    deep_b = positive-along (deep b c a (At z)) (deep a b c (At z)) (sym (depth-turned (lift a) (lift b) (lift c) (lift (At z)))) deep_z

    deep_c : pos 0 <ℤ deep c a b (At z)
    deep_c = positive-along (deep c a b (At z)) (deep b c a (At z)) (sym (depth-turned (lift b) (lift c) (lift a) (lift (At z)))) deep_b
