-- The first piece that a march crosses.
use Rattle.std.proofs.Common.{◌≡◌, ◌⊎◌, ◌<◌, ℕ, Option, Some, None, List, refl, sym, ap, subst, ◌∙◌, inl, inr, arith}
use Rattle.std.specs.Prelude.{ℤ, pos, true, neg_ℤ, ◌<ℤ◌, IfSome, IfNone}
use Rattle.std.proofs.lemmas.Int.{ints}
use Rattle.ground_model.specs.declared.corner.Corner.{Corner}
use Rattle.ground_model.specs.declared.corner.Corner.TheVariants.{At, Far}
use Rattle.ground_model.specs.Corner.{corner_at as place_of, corner_side}
use Rattle.ground_model.specs.Line.{is_point}
use Rattle.ground_model.specs.Place.{Coords}
use Rattle.ground_model.specs.Side.{side}
use Rattle.predicates.specs.Far.{is_far}
use Rattle.predicates.proofs.FlatSides.{flat_ca, side-back}
use Rattle.crossing_law.specs.Runs.{along}
use Rattle.tri_pages.specs.Slots.{State, triangle_at}
use Rattle.tri_pages.specs.declared.tri_slot.TriSlot.{TriSlot}
use Rattle.mesh.specs.Net.{Side, after, corner_at, count_at, side as side_of}
use Rattle.mesh.specs.Sheets.{IsSheetMesh, net_in}
use Rattle.mesh.proofs.NamedEdges.{same_in}
use Rattle.mesh.proofs.NetOfMesh.{net_law}
use Rattle.mesh.proofs.Slots.{some_is}
use Rattle.locate.specs.Facets.{IsCornerOf}
use Rattle.line_edit.specs.Crossings.{IsBefore, IsCrossing, IsFirstMet, IsFirstOver, IsMetFrom, IsNoLater, IsNotPassed, IsNoted, IsPieceOver}
use Rattle.line_edit.specs.Ways.{ComesBefore, IsOver, IsPast}
use Rattle.line_edit.specs.declared.ahead.Ahead.{Ahead}
use Rattle.line_edit.specs.declared.ahead.Ahead.TheVariants.{Reaches, Crosses}
use Rattle.line_edit.specs.declared.half_edge.HalfEdge.{HalfEdge}
use Rattle.line_edit.proofs.Ways.{beyond_of}

-- what is known of the pieces where the way goes on: none is passed, or the first is known
abbrev pub IsTold : List State → Coords → Coords → Coords → Ahead → Option HalfEdge → Type 0
IsTold slots p q v ahead None = (c d : Coords) → IsPieceOver (net_in slots) p q v c d → IsNotPassed slots p q ahead c d
IsTold slots p q v ahead (Some at) = IsFirstOver slots p q v at

-- ---- places
one_place_of : (p q : Coords) → At p ≡ At q → p ≡ q
one_place_of p q e = cc

pub record IsPlaced (x : Corner) : Type 0 where
  pub place : Coords
  pub is : x ≡ At place

placed : (x : Corner) → (is_far x ≡ true → ⊥) → IsPlaced x
placed (At p) near = record { place = p; is = refl }
placed (Far k) near = absurd (near refl)

none_counted : (n : ℕ) → 0 < n → n ≡ 0 → ⊥
none_counted n h e = omega (arith, h, e)

module _ (slots : List State) (m : IsSheetMesh slots) where
  -- a piece is an edge
  crossing_of : (p q v c d : Coords) → IsPieceOver (net_in slots) p q v c d → IsCrossing slots p q v c d
  crossing_of p q v c d g = record { edge = (net_law slots m).pieces c d g.counted; right = g.right; left = g.left; behind = g.behind }

  counted_as : (s : ℕ) (t : TriSlot) (k : Side) (c d : Coords) → triangle_at slots s ≡ Some t → corner_at t k ≡ At c → corner_at t (after k) ≡ At d → count_at t k ≡ (net_in slots).count c d
  counted_as s t k c d there tail head = (net_law slots m).counts c d (record { slot = s; tri = t; side = k; there = there; tail = tail; head = head })

  module _ (p q v : Coords) where
    pub told_start : (ahead : Ahead) → ((c d : Coords) → IsCrossing slots p q v c d → IsNotPassed slots p q ahead c d) → IsTold slots p q v ahead None
    told_start ahead passed = λ c d g. passed c d (crossing_of p q v c d g)

    -- ---- over an edge
    module _ (s k : ℕ) (o : IsOver slots p q v s k) (goal : is_point (net_in slots).points q ≡ true) (past : IsPast p q v q)
        (told : (c d : Coords) → IsPieceOver (net_in slots) p q v c d → (t : TriSlot) → triangle_at slots s ≡ Some t → IsNoLater p q (corner_at t (side_of k)) (corner_at t (after (side_of k))) c d) where
      -- that is no piece
      not_it : ((t : TriSlot) → triangle_at slots s ≡ Some t → count_at t (side_of k) ≡ 0) → (c d : Coords) → IsPieceOver (net_in slots) p q v c d → IsBefore slots p q s k c d
      not_it none c d g t there = elim (told c d g t there) as (λ _. ComesBefore p q (place_of (corner_at t (side_of k))) (place_of (corner_at t (after (side_of k)))) c d) [
        | inl e ↦ absurd (none_counted ((net_in slots).count c d) g.counted (sym (counted_as s t (side_of k) c d there e.0 e.1) ∙ none t there))
        | inr b ↦ b
      ]

      -- that is the first piece
      module _ (some : (t : TriSlot) → triangle_at slots s ≡ Some t → 0 < count_at t (side_of k)) where
        abbrev t : TriSlot
        t = (some_is (triangle_at slots s) o.live).tri

        abbrev there : triangle_at slots s ≡ Some t
        there = (some_is (triangle_at slots s) o.live).is

        tail : IsPlaced (corner_at t (side_of k))
        tail = placed (corner_at t (side_of k)) (λ far. none_counted (count_at t (side_of k)) (some t there) ((m.turned s t there).uncounted (side_of k) (inl far)))

        head : IsPlaced (corner_at t (after (side_of k)))
        head = placed (corner_at t (after (side_of k))) (λ far. none_counted (count_at t (side_of k)) (some t there) ((m.turned s t there).uncounted (side_of k) (inr far)))

        next_first : (c d : Coords) → IsNoLater p q (corner_at t (side_of k)) (corner_at t (after (side_of k))) c d → ((tail.place ≡ c) × (head.place ≡ d)) ⊎ ComesBefore p q tail.place head.place c d
        next_first c d (inl e) = inl (one_place_of tail.place c (sym tail.is ∙ e.0), one_place_of head.place d (sym head.is ∙ e.1))
        next_first c d (inr b) = inr (subst (λ z. z) (λ i. ComesBefore p q (place_of (tail.is i)) (place_of (head.is i)) c d) b)

        it_is : IsFirstOver slots p q v (record { slot = s; edge = k })
        it_is = record {
          c = tail.place;
          d = head.place;
          is = record {
            from = record { live = o.live; corner = o.edge; at = λ w here. ap (λ (z : TriSlot). corner_at z (side_of k)) (same_in w t (sym here ∙ there)) ∙ tail.is };
            to = λ w here. ap (λ (z : TriSlot). corner_at z (after (side_of k))) (same_in w t (sym here ∙ there)) ∙ head.is;
          };
          over = record {
            counted = subst (λ n. 0 < n) (counted_as s t (side_of k) tail.place head.place there tail.is head.is) (some t there);
            right = subst (λ (z : Corner). corner_side (At p) (At q) z <ℤ pos 0) tail.is (o.right t there);
            left = subst (λ (z : Corner). pos 0 <ℤ corner_side (At p) (At q) z) head.is (o.left t there);
            behind = subst (λ z. z) (λ i. pos 0 <ℤ corner_side (tail.is i) (head.is i) (At v)) (o.behind t there);
          };
          beyond = subst (λ z. z) (λ i. corner_side (tail.is i) (head.is i) (At q) <ℤ pos 0) (o.beyond t q there goal past);
          first = λ c d g. next_first c d (told c d g t there);
        }

      noted_on : (next : Option HalfEdge) → IsNoted slots s k next → (ahead : Ahead) → ((c d : Coords) → IsCrossing slots p q v c d → IsBefore slots p q s k c d → IsNotPassed slots p q ahead c d) → IsTold slots p q v ahead next
      noted_on None none ahead passed = λ c d g. passed c d (crossing_of p q v c d g) (not_it none c d g)
      noted_on (Some at) noted ahead passed = subst (λ (x : HalfEdge). IsFirstOver slots p q v x) (λ i. record { slot = sym noted.0 i; edge = sym noted.1 i }) (it_is noted.2)

  -- a step of the march: what was met first stays, and the edge is noted where nothing was
  pub told_on : (p q v : Coords) (at : HalfEdge) → IsOver slots p q v at.slot at.edge → is_point (net_in slots).points q ≡ true → IsPast p q v q
      → (met : Option HalfEdge) → IsTold slots p q v (Crosses at) met → (noted next : Option HalfEdge) → IsNoted slots at.slot at.edge noted → IfSome met (λ x. next ≡ Some x) → IfNone met (next ≡ noted)
      → (ahead : Ahead) → ((c d : Coords) → IsCrossing slots p q v c d → IsBefore slots p q at.slot at.edge c d → IsNotPassed slots p q ahead c d) → IsTold slots p q v ahead next
  told_on p q v at o goal past (Some x) told noted next is kept new ahead passed = subst (λ (z : Option HalfEdge). IsTold slots p q v ahead z) (sym kept) told
  told_on p q v at o goal past None told noted next is kept new ahead passed = subst (λ (z : Option HalfEdge). IsTold slots p q v ahead z) (sym new) (noted_on p q v at.slot at.edge o goal past told noted is ahead passed)

  pub told_end : (p q v x : Coords) (at : HalfEdge) (met : Option HalfEdge) → IsCornerOf slots at.slot at.edge x → IsTold slots p q v (Reaches at) met → IsMetFrom slots p q v x met
  told_end p q v x at (Some y) corner told = told
  told_end p q v x at None corner told = λ c d g. told c d g x corner

-- ---- from one part of a way to the next
behind_start : (p q v c d : Coords) → side p q v ≡ pos 0 → (p ≡ v) ⊎ (along p q p <ℤ along p q v) → side p q c <ℤ pos 0 → pos 0 <ℤ side p q d → pos 0 <ℤ side c d v → pos 0 <ℤ side c d p
behind_start p q v c d on (inl e) right left h = subst (λ (z : Coords). pos 0 <ℤ side c d z) (sym e) h
behind_start p q v c d on (inr lt) right left h =
    more (side d c p) (side d c v) (side c d p) (side c d v) (side-back d c p) (side-back d c v) (beyond_of p q d c left right p v (flat_ca p q p refl) on lt) h
  where
    more : (a b s t : ℤ) → s ≡ neg_ℤ a → t ≡ neg_ℤ b → a <ℤ b → pos 0 <ℤ t → pos 0 <ℤ s
    more a b s t e f h k = omega (arith, ints, e, f, h, k)

over_on : (slots : List State) (p q v c d : Coords) → IsPieceOver (net_in slots) p q p c d → pos 0 <ℤ side c d v → IsPieceOver (net_in slots) p q v c d
over_on slots p q v c d g h = record { counted = g.counted; right = g.right; left = g.left; behind = h }

pub met_start : (slots : List State) (p q : Coords) → IsMetFrom slots p q p p None
met_start slots p q = λ c d g. g.behind

met_next : (slots : List State) (p q v x : Coords) → side p q v ≡ pos 0 → (p ≡ v) ⊎ (along p q p <ℤ along p q v) → ((c d : Coords) → IsPieceOver (net_in slots) p q p c d → pos 0 <ℤ side c d v) → (next : Option HalfEdge) → IsMetFrom slots p q v x next → IsMetFrom slots p q p x next
met_next slots p q v x on ahead none None told = λ c d g. told c d (over_on slots p q v c d g (none c d g))
met_next slots p q v x on ahead none (Some at) told = record {
  c = told.c;
  d = told.d;
  is = told.is;
  over = record { counted = told.over.counted; right = told.over.right; left = told.over.left; behind = behind_start p q v told.c told.d on ahead told.over.right told.over.left told.over.behind };
  beyond = told.beyond;
  first = λ c d g. told.first c d (over_on slots p q v c d g (none c d g));
}

pub met_on : (slots : List State) (p q v x : Coords) → side p q v ≡ pos 0 → (p ≡ v) ⊎ (along p q p <ℤ along p q v) → (met next new : Option HalfEdge) → IsMetFrom slots p q p v met → IsMetFrom slots p q v x next
    → IfSome met (λ y. new ≡ Some y) → IfNone met (new ≡ next) → IsMetFrom slots p q p x new
met_on slots p q v x on ahead (Some y) next new old told kept is = subst (λ (z : Option HalfEdge). IsMetFrom slots p q p x z) (sym kept) old
met_on slots p q v x on ahead None next new old told kept is = subst (λ (z : Option HalfEdge). IsMetFrom slots p q p x z) (sym is) (met_next slots p q v x on ahead old next told)

-- at the end of the way
pub met_end : (slots : List State) (p q v : Coords) (met : Option HalfEdge) → v ≡ q → IsMetFrom slots p q p v met → IsFirstMet slots p q met
met_end slots p q v (Some y) e told = told
met_end slots p q v None e told = λ c d g beyond. clash (side c d v) (side c d q) (ap (λ (z : Coords). side c d z) e) (told c d g) beyond
  where
    clash : (s t : ℤ) → s ≡ t → pos 0 <ℤ s → t <ℤ pos 0 → ⊥
    clash s t e h k = omega (arith, ints, e, h, k)
