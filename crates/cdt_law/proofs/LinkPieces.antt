-- Each place of a line that may be added is an end of one of its pieces.
use Rattle.std.proofs.Common.{◌≡◌, ◌≤◌, ◌⊎◌, inl, inr, refl, sym, ap, subst, ◌∙◌, arith, List, [], ◌∷◌, ◌++◌, Bool, true, None}
use Rattle.std.specs.Prelude.{◌&&◌, drop, length, if◌then◌else◌, take}
use Rattle.std.specs.List.{zip, position_from}
use Rattle.std.proofs.lemmas.Bool.{and_parts, and_from, both_ways as clash}
use Rattle.ground_model.specs.Place.{Coords, is_before, is_same}
use Rattle.ground_model.specs.Kind.{is_ring}
use Rattle.ground_model.specs.Side.{is_on_segment}
use Rattle.ground_model.specs.Line.{Line, Segment, links}
use Rattle.ground_model.specs.Crossings.{is_on_points}
use Rattle.ground_model.proofs.Elements.{In, any_from, none_placed}
use Rattle.ground_model.proofs.LinePieces.{is_same_itself, ends_on, IsPiece}
use Rattle.ground_model.proofs.Segments.{before_trans, on_first, on_last}
use Rattle.cdt_law.proofs.NearestPoint.{Last, last}
use Rattle.cdt_law.proofs.PiecesWithout.{itself, on-part, none-between}
use Rattle.cdt_law.proofs.LongerPieces.{one-before}

-- a piece of the line that ends at v
pub record PieceAt (points : List Coords) (line : Line) (v : Coords) : Type 0 where
  pub other : Coords
  pub piece : IsPiece points line v other ⊎ IsPiece points line other v

module _ (points : List Coords) (line : Line) (a : Segment) (of : In a (links line)) (u v : Coords) (at_u : In u points) (at_v : In v points)
    (on_u : is_on_segment a.0 a.1 u ≡ true) (on_v : is_on_segment a.0 a.1 v ≡ true) where
  abbrev past-u : Coords → Bool
  past-u x = is_on_segment a.0 a.1 x && is_before u x

  abbrev short-of-u : Coords → Bool
  short-of-u x = is_on_segment a.0 a.1 x && is_before x u

  -- the first point after u
  after-u : is_before u v ≡ true → PieceAt points line u
  after-u lt = record { other = l.item; piece = inl piece }
    where
      l : Last past-u (λ y z. is_before z y) points
      l = last past-u (λ y z. is_before z y) itself (λ y z w e g. before_trans w z y g e) points (any_from past-u points v at_v (and_from (is_on_segment a.0 a.1 v) (is_before u v) on_v lt))

      passes : (is_on_segment a.0 a.1 l.item ≡ true) × (is_before u l.item ≡ true)
      passes = and_parts (is_on_segment a.0 a.1 l.item) (is_before u l.item) l.passes

      none : (r : Coords) → In r points → is_on_segment u l.item r ≡ true → is_before u r ≡ true → is_before r l.item ≡ true → ⊥
      none r i on_r after before = l.none r i (and_from (is_on_segment a.0 a.1 r) (is_before u r) (on-part a u l.item r on_u passes.0 on_r) after) before

      piece : IsPiece points line u l.item
      piece = record { before = passes.1; first = at_u; last = l.of; clear = none-between points u l.item none; link = a; of = of; first_on = on_u; last_on = passes.0 }

  -- the last before it
  before-u : is_before v u ≡ true → PieceAt points line u
  before-u lt = record { other = l.item; piece = inr piece }
    where
      l : Last short-of-u is_before points
      l = last short-of-u is_before itself before_trans points (any_from short-of-u points v at_v (and_from (is_on_segment a.0 a.1 v) (is_before v u) on_v lt))

      passes : (is_on_segment a.0 a.1 l.item ≡ true) × (is_before l.item u ≡ true)
      passes = and_parts (is_on_segment a.0 a.1 l.item) (is_before l.item u) l.passes

      none : (r : Coords) → In r points → is_on_segment l.item u r ≡ true → is_before l.item r ≡ true → is_before r u ≡ true → ⊥
      none r i on_r after before = l.none r i (and_from (is_on_segment a.0 a.1 r) (is_before r u) (on-part a l.item u r passes.0 on_u on_r) before) after

      piece : IsPiece points line l.item u
      piece = record { before = passes.1; first = l.of; last = at_u; clear = none-between points l.item u none; link = a; of = of; first_on = passes.0; last_on = on_u }

  at-u : (u ≡ v → ⊥) → PieceAt points line u
  at-u differ = by (one-before u v differ)
    where
      by : (is_before u v ≡ true) ⊎ (is_before v u ≡ true) → PieceAt points line u
      by (inl lt) = after-u lt
      by (inr gt) = before-u gt

-- ---- each place is an end of a link
record LinkAt (line : List Segment) (v : Coords) : Type 0 where
  link : Segment
  of : In link line
  end : (v ≡ link.0) ⊎ (v ≡ link.1)

link-at : (xs more : List Coords) (v : Coords) → 2 ≤ length xs → In v xs → LinkAt (zip xs (drop 1 xs ++ more)) v
link-at [] more v le i = absurd i
link-at (x ∷ []) more v le i = absurd (omega (arith, le))
link-at (x ∷ y ∷ ys) more v le (inl e) = record { link = (x, y); of = inl refl; end = inl e }
link-at (x ∷ y ∷ ys) more v le (inr (inl e)) = record { link = (x, y); of = inl refl; end = inr e }
link-at (x ∷ y ∷ []) more v le (inr (inr i)) = absurd i
link-at (x ∷ y ∷ z ∷ ys) more v le (inr (inr i)) = let l = link-at (y ∷ z ∷ ys) more v (omega arith) (inr i) in record { link = l.link; of = inr l.of; end = l.end }

-- so it is one of a piece, where no link has two ends at one place
pub piece-at : (points : List Coords) (line : Line) → is_on_points points line ≡ true → 2 ≤ length line.places → position_from (λ link. is_same link.0 link.1) 2 (links line) ≡ None → (v : Coords) → In v line.places → PieceAt points line v
piece-at points line on long apart v i = by l.end
  where
    l : LinkAt (links line) v
    l = link-at line.places (if is_ring line.kind then take 1 line.places else []) v long i

    ends : In l.link.0 points × In l.link.1 points
    ends = ends_on points line on l.link l.of

    differ : l.link.0 ≡ l.link.1 → ⊥
    differ e = clash (is_same l.link.0 l.link.1) (none_placed (λ link. is_same link.0 link.1) 2 (links line) l.link apart l.of) (sym (ap (is_same l.link.0) e) ∙ is_same_itself l.link.0)

    by : (v ≡ l.link.0) ⊎ (v ≡ l.link.1) → PieceAt points line v
    by (inl e) = subst (PieceAt points line) (sym e) (at-u points line l.link l.of l.link.0 l.link.1 ends.0 ends.1 (on_first l.link.0 l.link.1) (on_last l.link.0 l.link.1) differ)
    by (inr e) = subst (PieceAt points line) (sym e) (at-u points line l.link l.of l.link.1 l.link.0 ends.1 ends.0 (on_last l.link.0 l.link.1) (on_first l.link.0 l.link.1) (λ e. differ (sym e)))
