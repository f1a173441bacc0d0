-- From a point on a way into the triangle that it goes through.
use Rattle.std.proofs.Common.{◌≡◌, ◌<◌, ℕ, Some, List, refl, sym, ap, subst, ◌∙◌, inl, inr, arith}
use Rattle.std.specs.Prelude.{ℤ, pos, neg_ℤ, true, ◌<ℤ◌, ◌≤ℤ◌}
use Rattle.std.proofs.lemmas.Int.{ints, by_lt_z}
use Rattle.ground_model.specs.declared.corner.Corner.{Corner}
use Rattle.ground_model.specs.declared.corner.Corner.TheVariants.{At, Far}
use Rattle.ground_model.specs.Corner.{corner_at as place_of, corner_side}
use Rattle.ground_model.specs.Line.{is_point}
use Rattle.ground_model.specs.Place.{Coords, IsPlace}
use Rattle.ground_model.specs.Side.{side}
use Rattle.ground_model.proofs.Circle.{side-turned}
use Rattle.predicates.proofs.FlatSides.{side-back}
use Rattle.predicates.specs.Far.{IsKnown}
use Rattle.predicates.proofs.FarOrientations.{toward-flat}
use Rattle.predicates.proofs.Signs.{weaken, never-level, never-flat}
use Rattle.crossing_law.specs.Runs.{along}
use Rattle.tri_pages.specs.Slots.{State, triangle_at}
use Rattle.tri_pages.specs.declared.tri_slot.TriSlot.{TriSlot}
use Rattle.mesh.specs.Acrosses.{apex}
use Rattle.mesh.specs.Net.{Side, after, corner_at, side as side_of}
use Rattle.mesh.specs.Sheets.{IsSheetMesh, HasCorner, net_in}
use Rattle.mesh.proofs.InSheets.{left_at, only_corner}
use Rattle.mesh.proofs.NamedEdges.{same_in}
use Rattle.mesh.proofs.NetOfMesh.{net_law}
use Rattle.mesh.proofs.Slots.{is_some}
use Rattle.locate.specs.Facets.{IsCornerOf}
use Rattle.line_edit.specs.Ways.{IsPast, IsNextOn, IsOver}
use Rattle.line_edit.proofs.Ways.{c_right, c_left, c_on, in_va, in_bv, on_va, a_ahead, in_ab}

module _ (slots : List State) (m : IsSheetMesh slots) (p q v : Coords) (on_v : side p q v ≡ pos 0) (goal : IsPast p q v q) (place_v : IsPlace v) (place_q : IsPlace q)
    (s : ℕ) (t : TriSlot) (k : Side) (there : triangle_at slots s ≡ Some t) (is : corner_at t k ≡ At v) (other_leg : corner_side (At v) (apex t k) (At q) <ℤ pos 0) where
  abbrev a : Corner
  a = corner_at t (after k)

  abbrev b : Corner
  b = apex t k

  turned : pos 0 <ℤ side v (place_of a) (place_of b)
  turned = subst (λ (c : Corner). pos 0 <ℤ corner_side c a b) is (left_at slots m s t k there)

  b_left : pos 0 <ℤ corner_side (At p) (At q) b
  b_left = c_left p q v (place_of a) (place_of b) q turned on_v goal.line goal.farther (place_of b) other_leg

  never_less : (x : ℤ) → x <ℤ x → ⊥
  never_less x h = omega (arith, ints, h)

  module _ (x : Coords) (point : is_point (net_in slots).points x ≡ true) (past : IsPast p q v x) where
    stands : HasCorner slots (At x)
    stands = (net_law slots m).points x point

    place_x : IsPlace x
    place_x = subst IsKnown stands.is ((m.turned stands.slot stands.tri stands.there).known stands.side)

    not_v : At x ≡ corner_at t k → ⊥
    not_v e = never_less (along p q x) (subst (λ (c : Corner). along p q (place_of c) <ℤ along p q x) (sym (e ∙ is)) past.farther)

    not_b : At x ≡ b → ⊥
    not_b e = never-level (corner_side (At p) (At q) b) b_left (ap (λ c. corner_side (At p) (At q) c) (sym e) ∙ past.line)

    bv : pos 0 <ℤ corner_side b (corner_at t k) (At x)
    bv = subst (λ (c : Corner). pos 0 <ℤ corner_side b c (At x)) (sym is) (in_bv p q v (place_of a) (place_of b) x turned on_v past.line past.farther b_left)

    -- it lies in the triangle only as the corner a
    second_only : pos 0 ≤ℤ side v (place_of a) x → pos 0 ≤ℤ side (place_of a) (place_of b) x → At x ≡ a
    second_only va ab = elim (only_corner slots m s t k x there place_x stands (subst (λ (c : Corner). pos 0 ≤ℤ corner_side c a (At x)) (sym is) va) ab (weaken (corner_side b (corner_at t k) (At x)) bv)) as (λ _. At x ≡ a) [
      | inl e ↦ absurd (not_v e)
      | inr f ↦ elim f as (λ _. At x ≡ a) [ inl e ↦ e | inr e ↦ absurd (not_b e) ]
    ]

  -- ---- the way goes through the triangle
  pub through : pos 0 <ℤ corner_side (At v) a (At q) → (i : ℕ) → i < 3 → side_of i ≡ after k → IsOver slots p q v s i
  through left i small e = record {
    live = is_some (triangle_at slots s) t there;
    edge = small;
    on = on_v;
    right = λ w here. subst (λ z. z) (λ h. corner_side (At p) (At q) (corner_at (same_in t w (sym there ∙ here) h) (sym e h)) <ℤ pos 0) a_right;
    left = λ w here. subst (λ z. z) (λ h. pos 0 <ℤ corner_side (At p) (At q) (corner_at (same_in t w (sym there ∙ here) h) (after (sym e h)))) b_left;
    behind = λ w here. subst (λ z. z) (λ h. pos 0 <ℤ corner_side (corner_at (same_in t w (sym there ∙ here) h) (sym e h)) (corner_at (same_in t w (sym there ∙ here) h) (after (sym e h))) (At v)) ab_v;
    beyond = λ w x here point past. subst (λ z. z) (λ h. corner_side (corner_at (same_in t w (sym there ∙ here) h) (sym e h)) (corner_at (same_in t w (sym there ∙ here) h) (after (sym e h))) (At x) <ℤ pos 0) (out x point past);
  }
    where
      a_right : corner_side (At p) (At q) a <ℤ pos 0
      a_right = c_right p q v (place_of a) (place_of b) q turned on_v goal.line goal.farther (place_of a) left

      ab_v : pos 0 <ℤ side (place_of a) (place_of b) v
      ab_v = subst (λ z. pos 0 <ℤ z) (side-turned v (place_of a) (place_of b)) turned

      out : (x : Coords) → is_point (net_in slots).points x ≡ true → IsPast p q v x → side (place_of a) (place_of b) x <ℤ pos 0
      out x point past = by_lt_z (side (place_of a) (place_of b) x) (pos 0) (λ lt. lt) (λ ge.
          let same = second_only x point past (weaken (side v (place_of a) x) (in_va p q v (place_of a) (place_of b) x turned on_v past.line past.farther a_right)) ge in
          absurd (never-flat (corner_side (At p) (At q) a) a_right (ap (λ c. corner_side (At p) (At q) c) (sym same) ∙ past.line)))

  -- ---- the way goes along its first leg
  module _ (flat : corner_side (At v) a (At q) ≡ pos 0) where
    apart : v ≡ q → ⊥
    apart e = never_less (along p q v) (subst (λ (z : Coords). along p q v <ℤ along p q z) (sym e) goal.farther)

    pub record IsReached : Type 0 where
      pub x : Coords
      pub is_x : a ≡ At x

    turn_back : (c : Coords) → side v c q ≡ pos 0 → side q v c ≡ pos 0
    turn_back c e = side-turned q v c ∙ e

    flat_vq : (c : Coords) → side v c q ≡ pos 0 → side v q c ≡ pos 0
    flat_vq c e = opposite (side v q c) (side v c q) (side-turned v q c ∙ side-turned q c v ∙ swap c) e
      where
        swap : (c : Coords) → side c v q ≡ neg_ℤ (side v c q)
        swap c = side-back v c q

        opposite : (x y : ℤ) → x ≡ neg_ℤ y → y ≡ pos 0 → x ≡ pos 0
        opposite x y e f = omega (arith, ints, e, f)

    reach : (c : Corner) → IsKnown c → corner_side (At v) c (At q) ≡ pos 0 → a ≡ c → IsReached
    reach (At x) known e same = record { x = x; is_x = same }
    reach (Far i) known e same = absurd (apart (toward-flat v q i place_v place_q known (flat_vq (place_of (Far i)) e)))

    pub reached : IsReached
    reached = reach a ((m.turned s t there).known (after k)) flat refl

    a_on : corner_side (At p) (At q) a ≡ pos 0
    a_on = c_on p q v (place_of a) (place_of b) q turned on_v goal.line goal.farther (place_of a) flat

    ahead : along p q v <ℤ along p q (place_of a)
    ahead = a_ahead p q v (place_of a) (place_of b) q turned on_v goal.line goal.farther b_left a_on

    nearest : (y : Coords) → is_point (net_in slots).points y ≡ true → IsPast p q v y → along p q reached.x ≤ℤ along p q y
    nearest y point past = by_lt_z (along p q y) (along p q reached.x)
        (λ lt.
        let less = subst (λ (c : Corner). along p q y <ℤ along p q (place_of c)) (sym reached.is_x) lt in
        let same = second_only y point past (on_va p q v (place_of a) (place_of b) y turned on_v past.line past.farther b_left a_on)
        (weaken (side (place_of a) (place_of b) y) (in_ab p q v (place_of a) (place_of b) y turned on_v past.line past.farther b_left a_on less)) in
        absurd (never_less (along p q y) (subst (λ (c : Corner). along p q y <ℤ along p q (place_of c)) (sym same) less)))
        (λ le. le)

    pub next_on : IsNextOn (net_in slots) p q v reached.x
    next_on = record {
      point = (net_law slots m).corners reached.x (record { slot = s; tri = t; side = after k; there = there; is = reached.is_x });
      past = record { line = ap (λ c. corner_side (At p) (At q) c) (sym reached.is_x) ∙ a_on; farther = subst (λ (c : Corner). along p q v <ℤ along p q (place_of c)) reached.is_x ahead };
      first = nearest;
    }

    pub corner_is : (i : ℕ) → i < 3 → side_of i ≡ after k → IsCornerOf slots s i reached.x
    corner_is i small e = record {
      live = is_some (triangle_at slots s) t there;
      corner = small;
      at = λ w here. (λ h. corner_at (same_in w t (sym here ∙ there) h) (e h)) ∙ reached.is_x;
    }

-- ---- q lies to the right of the leg from v to b where it lies to the left of bv
pub leg_right : (v q : Coords) (b : Corner) → pos 0 <ℤ corner_side b (At v) (At q) → corner_side (At v) b (At q) <ℤ pos 0
leg_right v q b h = below (side (place_of b) v q) (side v (place_of b) q) (side-back (place_of b) v q) h
  where
    below : (x y : ℤ) → y ≡ neg_ℤ x → pos 0 <ℤ x → y <ℤ pos 0
    below x y e h = omega (arith, ints, e, h)

pub leg_never : (v q : Coords) (b : Corner) → corner_side b (At v) (At q) ≤ℤ pos 0 → corner_side (At v) b (At q) <ℤ pos 0 → ⊥
leg_never v q b h l = clash (side (place_of b) v q) (side v (place_of b) q) (side-back (place_of b) v q) h l
  where
    clash : (x y : ℤ) → y ≡ neg_ℤ x → x ≤ℤ pos 0 → y <ℤ pos 0 → ⊥
    clash x y e h l = omega (arith, ints, e, h, l)

pub leg_flat : (x : ℤ) → x ≤ℤ pos 0 → (x ≡ pos 0 → ⊥) → pos 0 ≤ℤ x → ⊥
leg_flat x le ne ge = ne (level x le ge)
  where
    level : (x : ℤ) → x ≤ℤ pos 0 → pos 0 ≤ℤ x → x ≡ pos 0
    level x h k = omega (arith, ints, h, k)
