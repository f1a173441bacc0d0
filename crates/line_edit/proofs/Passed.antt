-- Of a mesh: where a march goes on it has passed no edge that crosses its way.
use Rattle.std.proofs.Common.{◌≡◌, ℕ, Some, List, sym, ap, subst, ◌∙◌, inl, inr, arith}
use Rattle.std.specs.Prelude.{ℤ, pos, neg_ℤ, ◌<ℤ◌, ◌≤ℤ◌}
use Rattle.std.proofs.lemmas.Int.{ints, by_lt_z}
use Rattle.ground_model.specs.declared.corner.Corner.{Corner}
use Rattle.ground_model.specs.declared.corner.Corner.TheVariants.{At}
use Rattle.ground_model.specs.Corner.{corner_at as place_of, corner_side}
use Rattle.ground_model.specs.Place.{Coords}
use Rattle.ground_model.specs.Side.{side}
use Rattle.predicates.specs.Weighted.{weighted_side, once}
use Rattle.predicates.proofs.FlatSides.{side-back}
use Rattle.predicates.proofs.Signs.{weaken, weaken-neg, level-up, level-down, never-high, never-low, positive-along}
use Rattle.predicates.proofs.WeightedSides.{weighted_side-once}
use Rattle.crossing_law.specs.Runs.{along}
use Rattle.tri_pages.specs.Slots.{State, triangle_at}
use Rattle.tri_pages.specs.declared.tri_slot.TriSlot.{TriSlot}
use Rattle.mesh.specs.Acrosses.{apex, IsAcross}
use Rattle.mesh.specs.Net.{Side, after, corner_at, side as side_of}
use Rattle.mesh.specs.Sheets.{IsSheetMesh}
use Rattle.mesh.proofs.Corners.{thrice}
use Rattle.mesh.proofs.InSheets.{left_at}
use Rattle.mesh.proofs.NamedEdges.{same_in}
use Rattle.locate.specs.Facets.{IsCornerOf}
use Rattle.line_edit.specs.Crossings.{IsCrossing, IsNoLater}
use Rattle.line_edit.specs.Ways.{ComesBefore, IsPast, IsOver}
use Rattle.line_edit.proofs.Cuts.{cut, beside, Lies, IsAmong, Leading, Middle, Closing, one_edge}
use Rattle.line_edit.proofs.Passes.{beyond_edge, edge_before, first_lies, left_rf, left_fl, right_fl, right_rf, on_rf, on_fl, start_bv, start_va, start_ab, nearby, nearby_some, nearby_behind, leg_va, leg_ab}
use Rattle.line_edit.proofs.Ways.{along_of, left_before, right_before, on_within_r, on_within_l, c_right, c_left, c_on}

one_some : pos 0 ≤ℤ pos 1
one_some = omega (arith, ints)

-- ---- which of the triangle's edges it is
pick_middle : (a b f x y : Corner) → IsAmong a b f x y → (x ≡ a → ⊥) → (x ≡ f → ⊥) → (b ≡ x) × (f ≡ y)
pick_middle a b f x y (Leading e h) n k = absurd (n e)
pick_middle a b f x y (Middle e h) n k = (sym e, sym h)
pick_middle a b f x y (Closing e h) n k = absurd (k e)

pick_closing : (a b f x y : Corner) → IsAmong a b f x y → (x ≡ a → ⊥) → (y ≡ f → ⊥) → (f ≡ x) × (a ≡ y)
pick_closing a b f x y (Leading e h) n k = absurd (n e)
pick_closing a b f x y (Middle e h) n k = absurd (k h)
pick_closing a b f x y (Closing e h) n k = (sym e, sym h)

pick_none : (a b f x y : Corner) → IsAmong a b f x y → (x ≡ a → ⊥) → (x ≡ b → ⊥) → (x ≡ f → ⊥) → ⊥
pick_none a b f x y (Leading e h) n k l = n e
pick_none a b f x y (Middle e h) n k l = k e
pick_none a b f x y (Closing e h) n k l = l e

pick_neither : (a b f x y : Corner) → IsAmong a b f x y → (x ≡ a → ⊥) → (y ≡ f → ⊥) → (x ≡ f → ⊥) → ⊥
pick_neither a b f x y (Leading e h) n k l = n e
pick_neither a b f x y (Middle e h) n k l = k h
pick_neither a b f x y (Closing e h) n k l = l e

module _ (slots : List State) (m : IsSheetMesh slots) (p q v c d : Coords) (g : IsCrossing slots p q v c d) where
  -- its ends lie strictly beside the way
  starts_not : (x : Corner) → pos 0 ≤ℤ corner_side (At p) (At q) x → At c ≡ x → ⊥
  starts_not x h e = never-high (side p q c) (subst (λ (y : Corner). pos 0 ≤ℤ corner_side (At p) (At q) y) (sym e) h) g.right

  ends_not : (x : Corner) → corner_side (At p) (At q) x ≤ℤ pos 0 → At d ≡ x → ⊥
  ends_not x h e = never-low (side p q d) g.left (subst (λ (y : Corner). corner_side (At p) (At q) y ≤ℤ pos 0) (sym e) h)

  near : pos 0 <ℤ weighted_side c d (once v)
  near = positive-along (weighted_side c d (once v)) (side c d v) (weighted_side-once c d v) g.behind

  -- ---- over an edge, after which it crosses
  module _ (s k : ℕ) (o : IsOver slots p q v s k) (t : TriSlot) (there : triangle_at slots s ≡ Some t) (n : ℕ) (u : TriSlot) (j : Side) (over : IsAcross slots t (side_of k) n u j)
      (before : ComesBefore p q (place_of (corner_at t (side_of k))) (place_of (corner_at t (after (side_of k)))) c d) where
    abbrev l : Corner
    l = corner_at u j

    abbrev r : Corner
    r = corner_at u (after j)

    abbrev f : Corner
    f = apex u j

    l_left : pos 0 <ℤ corner_side (At p) (At q) l
    l_left = subst (λ (z : Corner). pos 0 <ℤ corner_side (At p) (At q) z) (sym over.starts) (o.left t there)

    r_right : corner_side (At p) (At q) r <ℤ pos 0
    r_right = subst (λ (z : Corner). corner_side (At p) (At q) z <ℤ pos 0) (sym over.ends) (o.right t there)

    turned : pos 0 <ℤ corner_side l r f
    turned = left_at slots m n u j over.there

    v_before : side (place_of l) (place_of r) v <ℤ pos 0
    v_before = reverse (side (place_of r) (place_of l) v) (side (place_of l) (place_of r) v) (side-back (place_of r) (place_of l) v) (subst (λ z. z) (λ i. pos 0 <ℤ corner_side (sym over.ends i) (sym over.starts i) (At v)) (o.behind t there))
      where
        reverse : (s t : ℤ) → t ≡ neg_ℤ s → pos 0 <ℤ s → t <ℤ pos 0
        reverse s t e h = omega (arith, ints, e, h)

    after_it : pos 0 <ℤ beside p q c d (place_of l) (place_of r)
    after_it = beyond_edge p q c d g.right g.left (place_of l) (place_of r) (subst (λ z. z) (λ i. ComesBefore p q (place_of (sym over.ends i)) (place_of (sym over.starts i)) c d) before)

    found : Lies (place_of r) (place_of f) (cut p q c d) (once v) → Lies (place_of f) (place_of l) (cut p q c d) (once v) → IsAmong l r f (At c) (At d)
    found rf fl = one_edge slots m p q c d g.edge g.right g.left (once v) one_some near n u j over.there (first_lies p q c d g.right g.left (place_of l) (place_of r) (place_of f) v l_left r_right after_it) rf fl

    not_l : At c ≡ l → ⊥
    not_l = starts_not l (weaken (corner_side (At p) (At q) l) l_left)

    in_u : (w : TriSlot) → triangle_at slots n ≡ Some w → u ≡ w
    in_u w here = same_in u w (sym over.there ∙ here)

    left_next : pos 0 <ℤ corner_side (At p) (At q) f → IsNoLater p q r f c d
    left_next f_left = by_lt_z (pos 0) (beside p q c d (place_of f) (place_of r)) (λ lt. inr (edge_before p q c d g.right g.left (place_of f) (place_of r) lt)) (λ le.
        inl (pick_middle l r f (At c) (At d)
        (found (left_rf p q c d g.right g.left (place_of l) (place_of r) (place_of f) v l_left r_right after_it f_left le
        (left_before p q (place_of l) (place_of r) l_left r_right (place_of f) turned v o.on f_left (weaken-neg (side (place_of l) (place_of r) v) v_before)))
        (left_fl p q c d g.right g.left (place_of l) (place_of r) (place_of f) v l_left r_right after_it f_left le))
        not_l (starts_not f (weaken (corner_side (At p) (At q) f) f_left))))

    pub passed_left : pos 0 <ℤ corner_side (At p) (At q) f → (i : ℕ) → side_of i ≡ after j → (w : TriSlot) → triangle_at slots n ≡ Some w → IsNoLater p q (corner_at w (side_of i)) (corner_at w (after (side_of i))) c d
    passed_left f_left i e w here = subst (λ z. z) (λ h. IsNoLater p q (corner_at (in_u w here h) (sym e h)) (corner_at (in_u w here h) (after (sym e h))) c d) (left_next f_left)

    right_next : corner_side (At p) (At q) f <ℤ pos 0 → IsNoLater p q f l c d
    right_next f_right = by_lt_z (pos 0) (beside p q c d (place_of l) (place_of f)) (λ lt. inr (edge_before p q c d g.right g.left (place_of l) (place_of f) lt)) (λ le.
        inl (pick_closing l r f (At c) (At d)
        (found (right_rf p q c d g.right g.left (place_of l) (place_of r) (place_of f) v l_left r_right after_it f_right le)
        (right_fl p q c d g.right g.left (place_of l) (place_of r) (place_of f) v l_left r_right after_it f_right le
        (right_before p q (place_of l) (place_of r) l_left r_right (place_of f) turned v o.on f_right (weaken-neg (side (place_of l) (place_of r) v) v_before))))
        not_l (ends_not f (weaken-neg (corner_side (At p) (At q) f) f_right))))

    pub passed_right : corner_side (At p) (At q) f <ℤ pos 0 → (i : ℕ) → side_of i ≡ after (after j) → (w : TriSlot) → triangle_at slots n ≡ Some w → IsNoLater p q (corner_at w (side_of i)) (corner_at w (after (side_of i))) c d
    passed_right f_right i e w here = subst (λ z. z) (λ h. IsNoLater p q (corner_at (in_u w here h) (sym e h)) (corner_at (in_u w here h) (after (sym e h))) c d)
        (subst (λ (z : Corner). IsNoLater p q f z c d) (sym (thrice u j)) (right_next f_right))

    module _ (f_on : corner_side (At p) (At q) f ≡ pos 0) where
      farther : along p q v <ℤ along p q (place_of f)
      farther = along_of p q (place_of l) (place_of r) l_left r_right v (place_of f) o.on f_on (less (side (place_of l) (place_of r) v) (side (place_of l) (place_of r) (place_of f)) v_before turned)
        where
          less : (a b : ℤ) → a <ℤ pos 0 → pos 0 <ℤ b → a <ℤ b
          less a b h k = omega (arith, ints, h, k)

      reach_next : pos 0 <ℤ side c d (place_of f)
      reach_next = by_lt_z (pos 0) (side c d (place_of f)) (λ lt. lt) (λ le.
          absurd (pick_neither l r f (At c) (At d)
          (found (on_rf p q c d g.right g.left (place_of l) (place_of r) (place_of f) v l_left r_right after_it f_on le (on_within_r p q (place_of l) (place_of r) l_left r_right (place_of f) turned v o.on f_on farther))
          (on_fl p q c d g.right g.left (place_of l) (place_of r) (place_of f) v l_left r_right after_it f_on le (on_within_l p q (place_of l) (place_of r) l_left r_right (place_of f) turned v o.on f_on farther)))
          not_l (ends_not f (level-down (corner_side (At p) (At q) f) f_on)) (starts_not f (level-up (corner_side (At p) (At q) f) f_on))))

      pub passed_on : (i : ℕ) → side_of i ≡ after (after j) → (x : Coords) → IsCornerOf slots n i x → pos 0 <ℤ side c d x
      passed_on i e x at = subst (λ (z : Corner). pos 0 <ℤ corner_side (At c) (At d) z) (ap (λ h. corner_at u h) (sym e) ∙ at.at u over.there) reach_next

  -- ---- in the triangle at v that the way goes through
  module _ (on_v : side p q v ≡ pos 0) (goal : IsPast p q v q) (s : ℕ) (t : TriSlot) (k : Side) (there : triangle_at slots s ≡ Some t) (is : corner_at t k ≡ At v) (other_leg : corner_side (At v) (apex t k) (At q) <ℤ pos 0) where
    abbrev a : Corner
    a = corner_at t (after k)

    abbrev b : Corner
    b = apex t k

    v_turned : pos 0 <ℤ side v (place_of a) (place_of b)
    v_turned = subst (λ (z : Corner). pos 0 <ℤ corner_side z a b) is (left_at slots m s t k there)

    b_left : pos 0 <ℤ corner_side (At p) (At q) b
    b_left = c_left p q v (place_of a) (place_of b) q v_turned on_v goal.line goal.farther (place_of b) other_leg

    not_v : At c ≡ corner_at t k → ⊥
    not_v = starts_not (corner_at t k) (subst (λ (z : Corner). pos 0 ≤ℤ corner_side (At p) (At q) z) (sym is) (level-up (side p q v) on_v))

    not_b : At c ≡ b → ⊥
    not_b = starts_not b (weaken (corner_side (At p) (At q) b) b_left)

    in_t : (w : TriSlot) → triangle_at slots s ≡ Some w → t ≡ w
    in_t w here = same_in t w (sym there ∙ here)

    a_next : pos 0 <ℤ corner_side (At v) a (At q) → IsNoLater p q a b c d
    a_next left = by_lt_z (pos 0) (beside p q c d (place_of b) (place_of a)) (λ lt. inr (edge_before p q c d g.right g.left (place_of b) (place_of a) lt)) (λ le.
        inl (pick_middle (corner_at t k) a b (At c) (At d)
        (one_edge slots m p q c d g.edge g.right g.left (once v) one_some near s t k there
        (subst (λ (z : Corner). Lies (place_of z) (place_of a) (cut p q c d) (once v)) (sym is) (start_va p q c d g.right g.left v (place_of a) (place_of b) v_turned on_v g.behind b_left (once v) (c_right p q v (place_of a) (place_of b) q v_turned on_v goal.line goal.farther (place_of a) left)))
        (start_ab p q c d g.right g.left v (place_of a) (place_of b) v_turned on_v g.behind b_left le)
        (subst (λ (z : Corner). Lies (place_of b) (place_of z) (cut p q c d) (once v)) (sym is) (start_bv p q c d g.right g.left v (place_of a) (place_of b) v_turned on_v g.behind b_left (once v))))
        not_v not_b))

    pub passed_through : pos 0 <ℤ corner_side (At v) a (At q) → (i : ℕ) → side_of i ≡ after k → (w : TriSlot) → triangle_at slots s ≡ Some w → IsNoLater p q (corner_at w (side_of i)) (corner_at w (after (side_of i))) c d
    passed_through left i e w here = subst (λ z. z) (λ h. IsNoLater p q (corner_at (in_t w here h) (sym e h)) (corner_at (in_t w here h) (after (sym e h))) c d) (a_next left)

    module _ (flat : corner_side (At v) a (At q) ≡ pos 0) where
      a_on : corner_side (At p) (At q) a ≡ pos 0
      a_on = c_on p q v (place_of a) (place_of b) q v_turned on_v goal.line goal.farther (place_of a) flat

      leg_next : pos 0 <ℤ side c d (place_of a)
      leg_next = by_lt_z (pos 0) (side c d (place_of a)) (λ lt. lt) (λ le.
          let y = nearby p q c d g.right g.left v (place_of a) (place_of b) v_turned on_v g.behind b_left in
          absurd (pick_none (corner_at t k) a b (At c) (At d)
          (one_edge slots m p q c d g.edge g.right g.left y (nearby_some p q c d g.right g.left v (place_of a) (place_of b) v_turned on_v g.behind b_left) (nearby_behind p q c d g.right g.left v (place_of a) (place_of b) v_turned on_v g.behind b_left) s t k there
          (subst (λ (z : Corner). Lies (place_of z) (place_of a) (cut p q c d) y) (sym is) (leg_va p q c d g.right g.left v (place_of a) (place_of b) v_turned on_v g.behind b_left a_on le))
          (leg_ab p q c d g.right g.left v (place_of a) (place_of b) v_turned on_v g.behind b_left a_on le)
          (subst (λ (z : Corner). Lies (place_of b) (place_of z) (cut p q c d) y) (sym is) (start_bv p q c d g.right g.left v (place_of a) (place_of b) v_turned on_v g.behind b_left y)))
          not_v (starts_not a (level-up (corner_side (At p) (At q) a) a_on)) not_b))

      pub passed_leg : (i : ℕ) → side_of i ≡ after k → (x : Coords) → IsCornerOf slots s i x → pos 0 <ℤ side c d x
      passed_leg i e x at = subst (λ (z : Corner). pos 0 <ℤ corner_side (At c) (At d) z) (ap (λ h. corner_at t h) (sym e) ∙ at.at t there) leg_next
