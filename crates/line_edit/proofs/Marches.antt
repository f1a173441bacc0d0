-- The points that a march has met.
use Rattle.std.proofs.Common.{◌≡◌, ◌⊎◌, ◌<◌, ◌++◌, Option, Some, None, ◌/◌, ◌%◌, ℕ, List, [], ◌∷◌, refl, sym, subst, ◌∙◌, inl, inr, arith}
use Rattle.std.specs.Prelude.{ℤ, pos, true, ◌-ℤ◌, ◌*ℤ◌, ◌<ℤ◌, ◌≤ℤ◌, unsigned_abs, IfSome, IfNone}
use Rattle.std.proofs.lemmas.Int.{ints, by_lt_z}
use Rattle.ground_model.specs.Line.{is_point}
use Rattle.ground_model.specs.Place.{Coords}
use Rattle.ground_model.specs.Side.{side}
use Rattle.ground_model.proofs.Circle.{env, sideE}
use Rattle.ground_model.proofs.Ring.{var, num, ◌⊖◌, ◌⊗◌, ring}
use Rattle.ground_model.proofs.ZOrder.{mul-eq-zero}
use Rattle.predicates.specs.Net.{Net}
use Rattle.predicates.proofs.FlatSides.{flat_bc, flat_ca}
use Rattle.crossing_law.specs.Runs.{along}
use Rattle.crossing_law.proofs.Ties.{norm, alongE, normE, long_unless, long_along}
use Rattle.tri_pages.specs.Slots.{State}
use Rattle.mesh.specs.Sheets.{IsSheetMesh, net_in}
use Rattle.mesh.proofs.NetOfMesh.{net_law}
use Rattle.locate.specs.Facets.{IsCornerOf}
use Rattle.point_edit.specs.Removals.{IsPointOf}
use Rattle.point_edit.proofs.Looks.{standing_of}
use Rattle.line_edit.specs.Crossings.{IsMetFrom}
use Rattle.line_edit.specs.declared.half_edge.HalfEdge.{HalfEdge}
use Rattle.line_edit.specs.Ways.{IsPast, IsNextOn, IsWay}
use Rattle.line_edit.proofs.Firsts.{met_start, met_on}
use Rattle.line_edit.proofs.Ways.{times_zero}

-- ---- identities: p, q, x, y have numbers 0 to 3
east : (p q x y : Coords) → norm p q *ℤ (y.e -ℤ x.e) ≡ (q.e -ℤ p.e) *ℤ (along p q y -ℤ along p q x) -ℤ (q.n -ℤ p.n) *ℤ (side p q y -ℤ side p q x)
unfolding side alongE normE
east p q x y = ring (env (p ∷ q ∷ x ∷ y ∷ [])) (normE 0 1 ⊗ (var 6 ⊖ var 4)) ((var 2 ⊖ var 0) ⊗ (alongE 0 1 3 ⊖ alongE 0 1 2) ⊖ (var 3 ⊖ var 1) ⊗ (sideE 0 1 3 ⊖ sideE 0 1 2)) refl

north : (p q x y : Coords) → norm p q *ℤ (y.n -ℤ x.n) ≡ (q.n -ℤ p.n) *ℤ (along p q y -ℤ along p q x) -ℤ (pos 0 -ℤ (q.e -ℤ p.e)) *ℤ (side p q y -ℤ side p q x)
unfolding side alongE normE
north p q x y = ring (env (p ∷ q ∷ x ∷ y ∷ [])) (normE 0 1 ⊗ (var 7 ⊖ var 5)) ((var 3 ⊖ var 1) ⊗ (alongE 0 1 3 ⊖ alongE 0 1 2) ⊖ (num (pos 0) ⊖ (var 2 ⊖ var 0)) ⊗ (sideE 0 1 3 ⊖ sideE 0 1 2)) refl

at_start : (p q : Coords) → along p q p ≡ pos 0
unfolding alongE
at_start p q = ring (env (p ∷ q ∷ [])) (alongE 0 1 0) (num (pos 0)) refl

-- ---- numbers
no_gap : (s t : ℤ) → t -ℤ s ≡ pos 0 → s ≡ t
no_gap s t e = omega (arith, ints, e)

zero_gap : (s t : ℤ) → s ≡ t → t -ℤ s ≡ pos 0
zero_gap s t e = omega (arith, ints, e)

both_zero : (s t : ℤ) → s ≡ pos 0 → t ≡ pos 0 → t -ℤ s ≡ pos 0
both_zero s t e f = omega (arith, ints, e, f)

level : (s t : ℤ) → s ≤ℤ t → t ≤ℤ s → s ≡ t
level s t h k = omega (arith, ints, h, k)

no_times : (n z a s b t : ℤ) → n *ℤ z ≡ a *ℤ s -ℤ b *ℤ t → pos 0 <ℤ n → s ≡ pos 0 → t ≡ pos 0 → z ≡ pos 0
no_times n z a s b t e some none_s none_t = elim (mul-eq-zero n z (e ∙ none (a *ℤ s) (b *ℤ t) (times_zero a s none_s) (times_zero b t none_t))) as (λ _. z ≡ pos 0) [
  | inl f ↦ absurd (clash n some f)
  | inr f ↦ f
]
  where
    none : (s t : ℤ) → s ≡ pos 0 → t ≡ pos 0 → s -ℤ t ≡ pos 0
    none s t e f = omega (arith, ints, e, f)

    clash : (s : ℤ) → pos 0 <ℤ s → s ≡ pos 0 → ⊥
    clash s h e = omega (arith, ints, h, e)

-- two places on the way that are as far along it are one
one_on : (p q x y : Coords) → pos 0 <ℤ norm p q → side p q x ≡ pos 0 → side p q y ≡ pos 0 → along p q x ≡ along p q y → x ≡ y
one_on p q x y some on_x on_y same =
    let far = zero_gap (along p q x) (along p q y) same in
    let off = both_zero (side p q x) (side p q y) on_x on_y in
    let e_is = no_gap x.e y.e (no_times (norm p q) (y.e -ℤ x.e) (q.e -ℤ p.e) (along p q y -ℤ along p q x) (q.n -ℤ p.n) (side p q y -ℤ side p q x) (east p q x y) some far off) in
    let n_is = no_gap x.n y.n (no_times (norm p q) (y.n -ℤ x.n) (q.n -ℤ p.n) (along p q y -ℤ along p q x) (pos 0 -ℤ (q.e -ℤ p.e)) (side p q y -ℤ side p q x) (north p q x y) some far off) in
    λ i. record { e = e_is i; n = n_is i }

-- the other end lies ahead of the first
some_way : (p q : Coords) → (p ≡ q → ⊥) → IsPast p q p q
some_way p q differ = record { line = flat_bc p q q refl; farther = less (along p q p) (norm p q) (at_start p q) (long_unless p q (λ e f. differ (one e f))) }
  where
    less : (s t : ℤ) → s ≡ pos 0 → pos 0 <ℤ t → s <ℤ t
    less s t e h = omega (arith, ints, e, h)

    one : q.e -ℤ p.e ≡ pos 0 → q.n -ℤ p.n ≡ pos 0 → p ≡ q
    one e f =
        let e_is = no_gap p.e q.e e in
        let n_is = no_gap p.n q.n f in
        λ i. record { e = e_is i; n = n_is i }

-- ---- a march
-- from v on these are points on the way from p to q, one after the other, and the last is w
abbrev pub IsWayTo : Net → Coords → Coords → Coords → List Coords → Coords → Type 0
IsWayTo net p q v [] w = v ≡ w
IsWayTo net p q v (x ∷ xs) w = IsNextOn net p q v x × IsWayTo net p q x xs w

pub way_of : (net : Net) (p q v : Coords) (xs : List Coords) (w : Coords) → w ≡ q → IsWayTo net p q v xs w → IsWay net p q v xs
way_of net p q v [] w e way = way ∙ e
way_of net p q v (x ∷ xs) w e way = (way.0, way_of net p q x xs w e way.1)

way_on : (net : Net) (p q v : Coords) (xs : List Coords) (w x : Coords) → IsWayTo net p q v xs w → IsNextOn net p q w x → IsWayTo net p q v (xs ++ x ∷ []) x
way_on net p q v [] w x way next = (subst (λ (z : Coords). IsNextOn net p q z x) (sym way) next, refl)
way_on net p q v (y ∷ ys) w x way next = (way.0, way_on net p q y ys w x way.1 next)

-- the points that were met up to v, where a half-edge begins
pub record IsUpTo (slots : List State) (p q v : Coords) (s k : ℕ) (found : List Coords) (met : Option HalfEdge) : Type 0 where
  pub way : IsWayTo (net_in slots) p q p found v
  pub corner : IsCornerOf slots s k v
  pub on : side p q v ≡ pos 0
  pub begun : (p ≡ v) ⊎ (along p q p <ℤ along p q v)
  pub met_is : IsMetFrom slots p q p v met
  pub past : (v ≡ q → ⊥) → IsPast p q v q

pub up_to_start : (slots : List State) (p q : Coords) (s k : ℕ) → IsCornerOf slots s k p → IsUpTo slots p q p s k [] None
up_to_start slots p q s k corner = record { way = refl; corner = corner; on = flat_ca p q p refl; begun = inl refl; met_is = met_start slots p q; past = some_way p q }

module _ (slots : List State) (p q v : Coords) (s k : ℕ) (found : List Coords) (met : Option HalfEdge) (old : IsUpTo slots p q v s k found met) (goal : is_point (net_in slots).points q ≡ true) (differ : v ≡ q → ⊥)
    (x : Coords) (next : IsNextOn (net_in slots) p q v x) where
  at_most : along p q x ≤ℤ along p q q
  at_most = next.first q goal (old.past differ)

  start_before : (p ≡ v) ⊎ (along p q p <ℤ along p q v) → along p q p <ℤ along p q x
  start_before (inl e) = subst (λ (z : Coords). along p q z <ℤ along p q x) (sym e) next.past.farther
  start_before (inr lt) = through (along p q p) (along p q v) (along p q x) lt next.past.farther
    where
      through : (a b c : ℤ) → a <ℤ b → b <ℤ c → a <ℤ c
      through a b c h k = omega (arith, ints, h, k)

  pub up_to_next : (n j : ℕ) → IsCornerOf slots n j x → (now new : Option HalfEdge) → IsMetFrom slots p q v x now → IfSome met (λ y. new ≡ Some y) → IfNone met (new ≡ now) → IsUpTo slots p q x n j (found ++ x ∷ []) new
  up_to_next n j corner now new told kept is = record {
    begun = inr (start_before old.begun);
    met_is = met_on slots p q v x old.on old.begun met now new old.met_is told kept is;
    way = way_on (net_in slots) p q p found v x old.way next;
    corner = corner;
    on = next.past.line;
    past = λ other. record {
      line = (old.past differ).line;
      farther = by_lt_z (along p q x) (along p q q) (λ lt. lt) (λ ge.
          absurd (other (one_on p q x q (long_along p q v q (old.past differ).farther) next.past.line (old.past differ).line (level (along p q x) (along p q q) at_most ge))));
    };
  }

  pub nearer : unsigned_abs (along p q q -ℤ along p q x) < unsigned_abs (along p q q -ℤ along p q v)
  nearer = shrink (along p q q) (along p q v) (along p q x) next.past.farther at_most
    where
      shrink : (q v x : ℤ) → v <ℤ x → x ≤ℤ q → unsigned_abs (q -ℤ x) < unsigned_abs (q -ℤ v)
      shrink q v x h k = omega (arith, ints, h, k)

-- ---- a point's number is of a point of the net
pub is_point_of : (slots : List State) → IsSheetMesh slots → (number : ℕ) (p : Coords) → IsPointOf slots number p → is_point (net_in slots).points p ≡ true
is_point_of slots m number p at = (net_law slots m).corners p (standing_of slots p (number / 4) (number % 4) at)
