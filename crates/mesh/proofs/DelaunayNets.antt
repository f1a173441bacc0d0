-- A mesh without illegal edges is a locally Delaunay net, and the other way round.
use Rattle.std.proofs.Common.{◌≡◌, ℕ, suc, zero, true, Some, None, List, [], ◌∷◌, refl, sym, ap, ◌∙◌, inl, inr, subst}
use Rattle.std.specs.List.{slice_get}
use Rattle.std.proofs.lemmas.Option.{none-some}
use Rattle.ground_model.specs.declared.corner.Corner.{Corner}
use Rattle.ground_model.specs.declared.corner.Corner.TheVariants.{At, Far}
use Rattle.ground_model.specs.Corner.{is_corner_inside}
use Rattle.predicates.specs.Far.{is_far}
use Rattle.predicates.specs.Net.{Triangle, has, count_of}
use Rattle.predicates.specs.Sheet.{IsLocallyDelaunay}
use Rattle.predicates.proofs.HasTriangles.{has-owner}
use Rattle.predicates.proofs.Owners.{IsTurn, Still, Once, Twice}
use Rattle.cdt_law.proofs.FirstSheet.{first_law}
use Rattle.tri_pages.specs.declared.tri_slot.TriSlot.{TriSlot}
use Rattle.tri_pages.specs.Slots.{State, triangle_at, holding}
use Rattle.mesh.specs.Acrosses.{apex}
use Rattle.mesh.specs.FarTriangle.{far_alone}
use Rattle.mesh.specs.Net.{Side, first, second, third, after, corner_at, count_at}
use Rattle.mesh.specs.Sheets.{IsSheetMesh, triangle_of, triangles_of, net_in}
use Rattle.mesh.specs.StepLaws.{DelaunayLaw}
use Rattle.mesh.specs.Suspects.{AreOver, AreLegal}
use Rattle.mesh.proofs.FallingVolume.{has_at, free_at}
use Rattle.mesh.proofs.NetOfMesh.{net_law}

-- the slot of a triangle of the list
pub record InSlot (states : List State) (t : Triangle) : Type 0 where
  pub slot : ℕ
  pub tri : TriSlot
  pub there : triangle_at states slot ≡ Some tri
  pub is : triangle_of tri ≡ t

abbrev next_slot : (o : State) (states : List State) (t : Triangle) → InSlot states t → InSlot (o ∷ states) t
next_slot o states t x = record { slot = suc x.slot; tri = x.tri; there = x.there; is = x.is }

pub in_slot : (states : List State) (j : ℕ) (t : Triangle) → slice_get (triangles_of states) j ≡ Some t → InSlot states t
in_slot [] j t e = absurd (none-some t e)
in_slot (None ∷ states) j t e = next_slot None states t (in_slot states j t e)
in_slot (Some None ∷ states) j t e = next_slot (Some None) states t (in_slot states j t e)
in_slot (Some (Some u) ∷ states) zero t e = record { slot = zero; tri = u; there = refl; is = same_of (triangle_of u) t e }
  where
    same_of : (x y : Triangle) → Some x ≡ Some y → x ≡ y
    same_of x y e = cc
in_slot (Some (Some u) ∷ states) (suc j) t e = next_slot (holding u) states t (in_slot states j t e)

-- the side from which its corners come in this turn
record AtSide (tri : TriSlot) (a b c : Corner) : Type 0 where
  side : Side
  tail : corner_at tri side ≡ a
  head : corner_at tri (after side) ≡ b
  third_is : apex tri side ≡ c

at_side : (tri : TriSlot) (t : Triangle) (a b c : Corner) → triangle_of tri ≡ t → IsTurn t a b c → AtSide tri a b c
at_side tri t a b c e Still = record { side = first; tail = ap (λ (y : Triangle). y.a) e; head = ap (λ (y : Triangle). y.b) e; third_is = ap (λ (y : Triangle). y.c) e }
at_side tri t a b c e Once = record { side = second; tail = ap (λ (y : Triangle). y.b) e; head = ap (λ (y : Triangle). y.c) e; third_is = ap (λ (y : Triangle). y.a) e }
at_side tri t a b c e Twice = record { side = third; tail = ap (λ (y : Triangle). y.c) e; head = ap (λ (y : Triangle). y.a) e; third_is = ap (λ (y : Triangle). y.b) e }

module _ (slots : List State) (m : IsSheetMesh slots) where
  -- a triangle of the net stands in a slot
  record Stands (a b c : Corner) : Type 0 where
    slot : ℕ
    tri : TriSlot
    there : triangle_at slots slot ≡ Some tri
    at : AtSide tri a b c

  stands : (a b c : Corner) → has (net_in slots) a b c ≡ true → Stands a b c
  stands a b c h =
      let o = has-owner (net_in slots) a b c h in
      let x = in_slot slots o.owner.index o.owner.triangle o.owner.at in
      record { slot = x.slot; tri = x.tri; there = x.there; at = at_side x.tri o.owner.triangle a b c x.is (subst (λ (z : Corner). IsTurn o.owner.triangle a b z) o.third o.owner.turn) }

  -- an edge that has no count in the net has none
  uncounted_in : (s : ℕ) (t : TriSlot) (k : Side) (a b : Corner) → triangle_at slots s ≡ Some t → corner_at t k ≡ a → corner_at t (after k) ≡ b → count_of (net_in slots) a b ≡ 0 → count_at t k ≡ 0
  uncounted_in s t k (At p) (At q) there e f zero_is = (net_law slots m).counts p q (record { slot = s; tri = t; side = k; there = there; tail = e; head = f }) ∙ zero_is
  uncounted_in s t k (At p) (Far j) there e f zero_is = (m.turned s t there).uncounted k (inr (ap is_far f))
  uncounted_in s t k (Far j) b there e f zero_is = (m.turned s t there).uncounted k (inl (ap is_far e))

  pub legal_delaunay : AreLegal slots → IsLocallyDelaunay (net_in slots)
  legal_delaunay legal = λ a b c d left right free.
      let t = stands a b c left in
      let u = stands b a d right in
      let x : AreOver slots t.slot t.at.side u.slot = record {
        tri = t.tri;
        beyond = u.tri;
        back = u.at.side;
        here = t.there;
        there = u.there;
        starts = u.at.tail ∙ sym t.at.head;
        ends = u.at.head ∙ sym t.at.tail;
        free = uncounted_in t.slot t.tri t.at.side a b t.there t.at.tail t.at.head free;
      } in
      (λ i. is_corner_inside (sym t.at.tail i) (sym t.at.head i) (sym t.at.third_is i) (sym u.at.third_is i)) ∙ legal t.slot t.at.side u.slot x

  pub delaunay_legal : IsLocallyDelaunay (net_in slots) → AreLegal slots
  delaunay_legal local = λ s k n x. local (corner_at x.tri k) (corner_at x.tri (after k)) (apex x.tri k) (apex x.beyond x.back) (has_at slots m s x.tri k x.here)
      ((λ i. has (net_in slots) (sym x.starts i) (sym x.ends i) (apex x.beyond x.back)) ∙ has_at slots m n x.beyond x.back x.there)
      (free_at slots m s x.tri k x.here x.free)

-- the far triangle alone has no illegal edge
pub far_delaunay : IsLocallyDelaunay (net_in far_alone)
far_delaunay = first_law.1

pub delaunay_law : DelaunayLaw
delaunay_law slots m = (legal_delaunay slots m, delaunay_legal slots m)
