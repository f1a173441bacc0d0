-- A closed net that is spanned is a sheet.
use Rattle.std.proofs.Common.{◌≡◌, ℕ, ◌⊎◌, inl, inr, subst, true}
use Rattle.std.specs.Prelude.{not, ◌||◌, Some, slice_get}
use Rattle.std.specs.List.{list_all, list_any}
use Rattle.std.proofs.lemmas.Bool.{or_cases}
use Rattle.ground_model.specs.declared.corner.Corner.{Corner}
use Rattle.ground_model.specs.declared.corner.Corner.TheVariants.{At}
use Rattle.ground_model.specs.Place.{Coords, IsPlace, is_same}
use Rattle.ground_model.specs.Corner.{is_same_corner}
use Rattle.ground_model.proofs.LinePieces.{is_same_itself}
use Rattle.predicates.specs.Net.{Net, Triangle, has_corner, covers}
use Rattle.predicates.specs.Sheet.{IsClosed}
use Rattle.predicates.specs.Tiling.{IsSpanned, ClosedLaw}
use Rattle.predicates.proofs.Edges.{corner-equal}
use Rattle.predicates.proofs.Tiling.{each-passes}
use Rattle.predicates.proofs.FarTriangle.{listed-place}
use Rattle.predicates.proofs.Owners.{IsTurn, Still, Once, Twice}
use Rattle.predicates.proofs.HasTriangles.{Found, any-found, any-at}
use Rattle.predicates.proofs.OneEach.{closed-once}
use Rattle.predicates.proofs.PointsApart.{closed-only}
use Rattle.predicates.proofs.NearCorners.{InNet}
use Rattle.predicates.proofs.Holding.{passes-each, turn-held, turn-has_corner, must-corner}

-- a triangle of the net at p, in the turn that begins there
record Begins (net : Net) (p : Corner) : Type 0 where
  y : Corner
  z : Corner
  in_net : InNet net p y z

begins : (net : Net) (p : Corner) (k : ℕ) (t : Triangle) → slice_get net.triangles k ≡ Some t → has_corner t p ≡ true → Begins net p
begins net p k t at e = by (or_cases (is_same_corner t.a p || is_same_corner t.b p) (is_same_corner t.c p) e)
  where
    turned : (x y z : Corner) → IsTurn t x y z → is_same_corner x p ≡ true → Begins net p
    turned x y z turn e = record { y = y; z = z; in_net = record { index = k; triangle = t; at = at; turn = subst (λ (c : Corner). IsTurn t c y z) (corner-equal x p e) turn } }

    two : (is_same_corner t.a p ≡ true) ⊎ (is_same_corner t.b p ≡ true) → Begins net p
    two (inl e) = turned t.a t.b t.c Still e
    two (inr e) = turned t.b t.c t.a Once e

    by : ((is_same_corner t.a p || is_same_corner t.b p) ≡ true) ⊎ (is_same_corner t.c p ≡ true) → Begins net p
    by (inl h) = two (or_cases (is_same_corner t.a p) (is_same_corner t.b p) h)
    by (inr e) = turned t.c t.a t.b Twice e

closed-apart : (net : Net) → IsClosed net → IsSpanned net → (k : ℕ) (t : Triangle) → slice_get net.triangles k ≡ Some t → (j : ℕ) (p : Coords) → slice_get net.points j ≡ Some p → (not (covers t p) || has_corner t (At p)) ≡ true
closed-apart net closed spanned k t at j p at_p = must-corner t p (λ e.
    let h = turn-held t t.a t.b t.c p Still e in
    turn-has_corner t t.a t.b t.c (At p) Still (closed-only net closed p place b.y b.z t.a t.b t.c b.in_net (record { index = k; triangle = t; at = at; turn = Still }) h.ab h.bc h.ca))
  where
    place : IsPlace p
    place = listed-place net.points closed.places p (any-at (is_same p) net.points j p at_p (is_same_itself p))

    found : Found (λ s. has_corner s (At p)) net.triangles
    found = any-found (λ s. has_corner s (At p)) net.triangles (each-passes (λ q. list_any (λ s. has_corner s (At q)) net.triangles) net.points spanned.reached j p at_p)

    b : Begins net (At p)
    b = begins net (At p) found.index found.item found.at found.passes

pub closed_law : ClosedLaw
closed_law net closed spanned = record {
  places = closed.places;
  over = closed.over;
  turned = closed.turned;
  once = closed-once net closed;
  matched = closed.matched;
  reached = spanned.reached;
  apart = passes-each (λ t. list_all (λ p. not (covers t p) || has_corner t (At p)) net.points) net.triangles
      (λ k t at. passes-each (λ p. not (covers t p) || has_corner t (At p)) net.points (closed-apart net closed spanned k t at));
  pieces = spanned.pieces;
  even = spanned.even;
}
