-- Over an edge that crosses a way, to the next point on it or the next edge that crosses it.
use Rattle.std.proofs.Common.{◌≡◌, ◌<◌, ℕ, Some, List, refl, sym, ap, subst, ◌∙◌, inl, inr, arith}
use Rattle.std.specs.Prelude.{ℤ, pos, neg_ℤ, true, ◌<ℤ◌, ◌≤ℤ◌}
use Rattle.std.proofs.lemmas.Int.{ints, by_lt_z}
use Rattle.ground_model.specs.declared.corner.Corner.{Corner}
use Rattle.ground_model.specs.declared.corner.Corner.TheVariants.{At, Far}
use Rattle.ground_model.specs.Corner.{corner_at as place_of, corner_side}
use Rattle.ground_model.specs.Line.{is_point}
use Rattle.ground_model.specs.Place.{Coords, IsPlace}
use Rattle.ground_model.specs.Side.{side}
use Rattle.predicates.specs.Far.{IsKnown}
use Rattle.predicates.proofs.FarOrientations.{toward-flat}
use Rattle.predicates.proofs.FlatSides.{flat_ab, side-back}
use Rattle.predicates.proofs.Signs.{weaken, weaken-neg, never-level, never-flat}
use Rattle.crossing_law.specs.Runs.{along}
use Rattle.tri_pages.specs.Slots.{State, triangle_at}
use Rattle.tri_pages.specs.declared.tri_slot.TriSlot.{TriSlot}
use Rattle.mesh.specs.Acrosses.{apex, IsAcross}
use Rattle.mesh.specs.Net.{Side, after, corner_at, next_at, outside, side as side_of}
use Rattle.mesh.specs.Sheets.{IsSheetMesh, HasCorner, net_in}
use Rattle.mesh.proofs.Corners.{thrice}
use Rattle.mesh.proofs.InSheets.{left_at, only_corner}
use Rattle.mesh.proofs.NamedEdges.{same_in}
use Rattle.mesh.proofs.NetOfMesh.{net_law}
use Rattle.mesh.proofs.Slots.{is_some, live_real}
use Rattle.locate.specs.Facets.{IsCornerOf}
use Rattle.locate.proofs.Walks.{next_live}
use Rattle.line_edit.specs.Ways.{ComesBefore, IsPast, IsNextOn, IsOver}
use Rattle.line_edit.proofs.Later.{left_later, right_later}
use Rattle.line_edit.proofs.Ways.{along_of, left_before, left_within, right_before, right_within, on_within_r, on_within_l}

-- the edge is none of the far triangle's, since q lies beyond it
pub not_outside : (slots : List State) → IsSheetMesh slots → (p q v : Coords) → IsPlace q → (s k : ℕ) → IsOver slots p q v s k → (t : TriSlot) → triangle_at slots s ≡ Some t → is_point (net_in slots).points q ≡ true → IsPast p q v q
    → next_at t (side_of k) ≡ outside → ⊥
not_outside slots m p q v place_q s k o t there point past e =
    live_real slots (next_at t (side_of k)) m.mesh.few (next_live slots m s q (next_at t (side_of k)) place_q (record { tri = t; side = side_of k; there = there; beyond = o.beyond t q there point past; next_is = refl })) e

module _ (slots : List State) (m : IsSheetMesh slots) (p q v : Coords) (place_p : IsPlace p) (place_q : IsPlace q) (s k : ℕ) (o : IsOver slots p q v s k)
    (t : TriSlot) (there : triangle_at slots s ≡ Some t) (n : ℕ) (u : TriSlot) (j : Side) (over : IsAcross slots t (side_of k) n u j) where
  -- the edge from the triangle beyond: l, on the left, and r, on the right; d is the apex
  abbrev l : Corner
  l = corner_at u j

  abbrev r : Corner
  r = corner_at u (after j)

  abbrev d : Corner
  d = apex u j

  l_left : pos 0 <ℤ corner_side (At p) (At q) l
  l_left = subst (λ c. pos 0 <ℤ corner_side (At p) (At q) c) (sym over.starts) (o.left t there)

  r_right : corner_side (At p) (At q) r <ℤ pos 0
  r_right = subst (λ c. corner_side (At p) (At q) c <ℤ pos 0) (sym over.ends) (o.right t there)

  turned : pos 0 <ℤ corner_side l r d
  turned = left_at slots m n u j over.there

  v_behind : pos 0 <ℤ corner_side r l (At v)
  v_behind = subst (λ z. z) (λ i. pos 0 <ℤ corner_side (sym over.ends i) (sym over.starts i) (At v)) (o.behind t there)

  opposite : (x : Coords) → side (place_of l) (place_of r) x ≡ neg_ℤ (side (place_of r) (place_of l) x)
  opposite x = side-back (place_of r) (place_of l) x

  before : (s t : ℤ) → t ≡ neg_ℤ s → pos 0 <ℤ s → t <ℤ pos 0
  before s t e h = omega (arith, ints, e, h)

  after_it : (s t : ℤ) → t ≡ neg_ℤ s → s <ℤ pos 0 → pos 0 <ℤ t
  after_it s t e h = omega (arith, ints, e, h)

  v_before : side (place_of l) (place_of r) v <ℤ pos 0
  v_before = before (side (place_of r) (place_of l) v) (side (place_of l) (place_of r) v) (opposite v) v_behind

  module _ (x : Coords) (point : is_point (net_in slots).points x ≡ true) (past : IsPast p q v x) where
    stands : HasCorner slots (At x)
    stands = (net_law slots m).points x point

    place_x : IsPlace x
    place_x = subst IsKnown stands.is ((m.turned stands.slot stands.tri stands.there).known stands.side)

    x_beyond : pos 0 <ℤ side (place_of l) (place_of r) x
    x_beyond = after_it (side (place_of r) (place_of l) x) (side (place_of l) (place_of r) x) (opposite x) (subst (λ z. z) (λ i. corner_side (sym over.ends i) (sym over.starts i) (At x) <ℤ pos 0) (o.beyond t x there point past))

    not_l : At x ≡ l → ⊥
    not_l e = never-level (corner_side (At p) (At q) l) l_left (ap (λ c. corner_side (At p) (At q) c) (sym e) ∙ past.line)

    not_r : At x ≡ r → ⊥
    not_r e = never-flat (corner_side (At p) (At q) r) r_right (ap (λ c. corner_side (At p) (At q) c) (sym e) ∙ past.line)

    -- it lies in the triangle beyond only as its apex
    apex_only : pos 0 ≤ℤ side (place_of r) (place_of d) x → pos 0 ≤ℤ side (place_of d) (place_of l) x → At x ≡ d
    apex_only rd dl = elim (only_corner slots m n u j x over.there place_x stands (weaken (side (place_of l) (place_of r) x) x_beyond) rd dl) as (λ _. At x ≡ d) [
      | inl e ↦ absurd (not_l e)
      | inr f ↦ elim f as (λ _. At x ≡ d) [ inl e ↦ absurd (not_r e) | inr e ↦ e ]
    ]

  -- ---- d on the way
  module _ (d_on : corner_side (At p) (At q) d ≡ pos 0) where
    apart : p ≡ q → ⊥
    apart e = never-level (corner_side (At p) (At q) l) l_left (flat_ab p q (place_of l) e)

    pub record IsReached : Type 0 where
      pub x : Coords
      pub is : d ≡ At x

    reach : (c : Corner) → IsKnown c → corner_side (At p) (At q) c ≡ pos 0 → d ≡ c → IsReached
    reach (At x) known flat e = record { x = x; is = e }
    reach (Far i) known flat e = absurd (apart (toward-flat p q i place_p place_q known flat))

    pub reached : IsReached
    reached = reach d ((m.turned n u over.there).known (after (after j))) d_on refl

    on_line : side p q reached.x ≡ pos 0
    on_line = ap (λ c. corner_side (At p) (At q) c) (sym reached.is) ∙ d_on

    farther : along p q v <ℤ along p q reached.x
    farther =
        along_of p q (place_of l) (place_of r) l_left r_right v reached.x o.on on_line
        (less (side (place_of l) (place_of r) v) (side (place_of l) (place_of r) reached.x) v_before (subst (λ c. pos 0 <ℤ corner_side l r c) reached.is turned))
      where
        less : (a b : ℤ) → a <ℤ pos 0 → pos 0 <ℤ b → a <ℤ b
        less a b h k = omega (arith, ints, h, k)

    never_less : (a : ℤ) → a <ℤ a → ⊥
    never_less a h = omega (arith, ints, h)

    nearest : (y : Coords) → is_point (net_in slots).points y ≡ true → IsPast p q v y → along p q reached.x ≤ℤ along p q y
    nearest y point past = by_lt_z (along p q y) (along p q reached.x)
        (λ lt.
        let less = subst (λ (c : Corner). along p q y <ℤ along p q (place_of c)) (sym reached.is) lt in
        let same = apex_only y point past
        (weaken (side (place_of r) (place_of d) y) (on_within_r p q (place_of l) (place_of r) l_left r_right (place_of d) turned y past.line d_on less))
        (weaken (side (place_of d) (place_of l) y) (on_within_l p q (place_of l) (place_of r) l_left r_right (place_of d) turned y past.line d_on less)) in
        absurd (never_less (along p q y) (subst (λ (c : Corner). along p q y <ℤ along p q (place_of c)) (sym same) less)))
        (λ le. le)

    pub next_on : IsNextOn (net_in slots) p q v reached.x
    next_on = record {
      point = (net_law slots m).corners reached.x (record { slot = n; tri = u; side = after (after j); there = over.there; is = reached.is });
      past = record { line = on_line; farther = farther };
      first = nearest;
    }

    pub corner_is : (i : ℕ) → i < 3 → side_of i ≡ after (after j) → IsCornerOf slots n i reached.x
    corner_is i small e = record {
      live = is_some (triangle_at slots n) u over.there;
      corner = small;
      at = λ w here. (λ h. corner_at (same_in w u (sym here ∙ over.there) h) (e h)) ∙ reached.is;
    }

  -- ---- d to the left
  in_u : (w : TriSlot) → triangle_at slots n ≡ Some w → u ≡ w
  in_u w here = same_in u w (sym over.there ∙ here)

  pub over_left : pos 0 <ℤ corner_side (At p) (At q) d → (i : ℕ) → i < 3 → side_of i ≡ after j → IsOver slots p q v n i
  over_left d_left i small e = record {
    live = is_some (triangle_at slots n) u over.there;
    edge = small;
    on = o.on;
    right = λ w here. subst (λ z. z) (λ h. corner_side (At p) (At q) (corner_at (in_u w here h) (sym e h)) <ℤ pos 0) r_right;
    left = λ w here. subst (λ z. z) (λ h. pos 0 <ℤ corner_side (At p) (At q) (corner_at (in_u w here h) (after (sym e h)))) d_left;
    behind = λ w here. subst (λ z. z) (λ h. pos 0 <ℤ corner_side (corner_at (in_u w here h) (sym e h)) (corner_at (in_u w here h) (after (sym e h))) (At v))
        (left_before p q (place_of l) (place_of r) l_left r_right (place_of d) turned v o.on d_left (weaken-neg (side (place_of l) (place_of r) v) v_before));
    beyond = λ w x here point past. subst (λ z. z) (λ h. corner_side (corner_at (in_u w here h) (sym e h)) (corner_at (in_u w here h) (after (sym e h))) (At x) <ℤ pos 0) (out x point past);
  }
    where
      out : (x : Coords) → is_point (net_in slots).points x ≡ true → IsPast p q v x → side (place_of r) (place_of d) x <ℤ pos 0
      out x point past = by_lt_z (side (place_of r) (place_of d) x) (pos 0) (λ lt. lt) (λ ge.
          let same = apex_only x point past ge (weaken (side (place_of d) (place_of l) x) (left_within p q (place_of l) (place_of r) l_left r_right (place_of d) turned x past.line d_left (x_beyond x point past) ge)) in
          absurd (never-level (corner_side (At p) (At q) d) d_left (ap (λ c. corner_side (At p) (At q) c) (sym same) ∙ past.line)))

  -- ---- d to the right
  pub over_right : corner_side (At p) (At q) d <ℤ pos 0 → (i : ℕ) → i < 3 → side_of i ≡ after (after j) → IsOver slots p q v n i
  over_right d_right i small e = record {
    live = is_some (triangle_at slots n) u over.there;
    edge = small;
    on = o.on;
    right = λ w here. subst (λ z. z) (λ h. corner_side (At p) (At q) (corner_at (in_u w here h) (sym e h)) <ℤ pos 0) d_right;
    left = λ w here. subst (λ z. z) (λ h. pos 0 <ℤ corner_side (At p) (At q) (corner_at (in_u w here h) (after (sym e h)))) (subst (λ c. pos 0 <ℤ corner_side (At p) (At q) c) (sym (thrice u j)) l_left);
    behind = λ w here. subst (λ z. z) (λ h. pos 0 <ℤ corner_side (corner_at (in_u w here h) (sym e h)) (corner_at (in_u w here h) (after (sym e h))) (At v))
        (subst (λ c. pos 0 <ℤ corner_side d c (At v)) (sym (thrice u j)) (right_before p q (place_of l) (place_of r) l_left r_right (place_of d) turned v o.on d_right (weaken-neg (side (place_of l) (place_of r) v) v_before)));
    beyond = λ w x here point past. subst (λ z. z) (λ h. corner_side (corner_at (in_u w here h) (sym e h)) (corner_at (in_u w here h) (after (sym e h))) (At x) <ℤ pos 0)
        (subst (λ c. corner_side d c (At x) <ℤ pos 0) (sym (thrice u j)) (out x point past));
  }
    where
      out : (x : Coords) → is_point (net_in slots).points x ≡ true → IsPast p q v x → side (place_of d) (place_of l) x <ℤ pos 0
      out x point past = by_lt_z (side (place_of d) (place_of l) x) (pos 0) (λ lt. lt) (λ ge.
          let same = apex_only x point past (weaken (side (place_of r) (place_of d) x) (right_within p q (place_of l) (place_of r) l_left r_right (place_of d) turned x past.line d_right (x_beyond x point past) ge)) ge in
          absurd (never-flat (corner_side (At p) (At q) d) d_right (ap (λ c. corner_side (At p) (At q) c) (sym same) ∙ past.line)))

  -- ---- the next edge is crossed later
  module _ (t' u' : TriSlot) (there_t : triangle_at slots s ≡ Some t') (there_u : triangle_at slots n ≡ Some u') (i : ℕ) where
    same_t : t ≡ t'
    same_t = same_in t t' (sym there ∙ there_t)

    from_r : r ≡ corner_at t' (side_of k)
    from_r = over.ends ∙ ap (λ (w : TriSlot). corner_at w (side_of k)) same_t

    from_l : l ≡ corner_at t' (after (side_of k))
    from_l = over.starts ∙ ap (λ (w : TriSlot). corner_at w (after (side_of k))) same_t

    pub left_is_later : pos 0 <ℤ corner_side (At p) (At q) d → side_of i ≡ after j
        → ComesBefore p q (place_of (corner_at t' (side_of k))) (place_of (corner_at t' (after (side_of k)))) (place_of (corner_at u' (side_of i))) (place_of (corner_at u' (after (side_of i))))
    left_is_later d_left e =
        subst (λ z. z) (λ h. ComesBefore p q (place_of (from_r h)) (place_of (from_l h)) (place_of (corner_at (in_u u' there_u h) (sym e h))) (place_of (corner_at (in_u u' there_u h) (after (sym e h)))))
        (left_later p q (place_of l) (place_of r) (place_of d) l_left r_right turned)

    pub right_is_later : corner_side (At p) (At q) d <ℤ pos 0 → side_of i ≡ after (after j)
        → ComesBefore p q (place_of (corner_at t' (side_of k))) (place_of (corner_at t' (after (side_of k)))) (place_of (corner_at u' (side_of i))) (place_of (corner_at u' (after (side_of i))))
    right_is_later d_right e =
        subst (λ z. z) (λ h. ComesBefore p q (place_of (from_r h)) (place_of (from_l h)) (place_of (corner_at (in_u u' there_u h) (sym e h))) (place_of (corner_at (in_u u' there_u h) (after (sym e h)))))
        (subst (λ (c : Corner). ComesBefore p q (place_of r) (place_of l) (place_of d) (place_of c)) (sym (thrice u j)) (right_later p q (place_of l) (place_of r) (place_of d) l_left r_right turned))

-- neither collinear nor to the left
pub not_flat_right : (x : ℤ) → x ≤ℤ pos 0 → (x ≡ pos 0 → ⊥) → x <ℤ pos 0
not_flat_right x le ne = by_lt_z x (pos 0) (λ lt. lt) (λ ge. absurd (ne (level x le ge)))
  where
    level : (x : ℤ) → x ≤ℤ pos 0 → pos 0 ≤ℤ x → x ≡ pos 0
    level x h k = omega (arith, ints, h, k)
