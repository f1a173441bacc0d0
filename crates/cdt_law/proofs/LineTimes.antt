-- How often one line runs over an edge: as often over other points, where these have its pieces too.
use Rattle.std.proofs.Common.{◌≡◌, ℕ, ◌<◌, refl, ap, arith, List, Bool, true, false, cond}
use Rattle.std.specs.Prelude.{if◌then◌else◌}
use Rattle.ground_model.specs.Place.{Coords, is_before}
use Rattle.ground_model.specs.Line.{Line, is_point, has_piece}
use Rattle.ground_model.specs.Crossings.{is_on_points}
use Rattle.ground_model.proofs.Elements.{both_true}
use Rattle.ground_model.proofs.LinePieces.{IsPiece, piece_of, has_piece_from}
use Rattle.ground_model.proofs.Segments.{not_after}
use Rattle.cdt_law.proofs.PieceParts.{IsClear, piece-carried, piece-back}

-- whether the line has the piece, as a number
abbrev pub once_on : List Coords → Line → Coords → Coords → ℕ
once_on points line p q = cond (has_piece points line p q) 1 0

-- how often the line runs over the edge, whichever end comes first
abbrev pub runs_on : List Coords → Line → Coords → Coords → ℕ
runs_on points line p q = if is_before p q then once_on points line p q else once_on points line q p

-- the two are points, with none strictly between
pub record AreNext (points : List Coords) (p q : Coords) : Type 0 where
  pub first : is_point points p ≡ true
  pub last : is_point points q ≡ true
  pub clear : IsClear points p q
  pub clear_back : IsClear points q p

next-back : (points : List Coords) (p q : Coords) → AreNext points p q → AreNext points q p
next-back points p q h = record { first = h.last; last = h.first; clear = h.clear_back; clear_back = h.clear }

same-once : (points others : List Coords) (line : Line) (p q : Coords) → AreNext points p q → AreNext others p q → once_on points line p q ≡ once_on others line p q
same-once points others line p q h g =
    ap (λ t. cond t 1 0) (both_true (has_piece points line p q) (has_piece others line p q)
    (λ e. has_piece_from others line p q (piece-carried points others line p q (piece_of points line p q e) g.first g.last g.clear))
    (λ e. has_piece_from points line p q (piece-carried others points line p q (piece_of others line p q e) h.first h.last h.clear)))

pub runs-same : (points others : List Coords) (line : Line) (p q : Coords) → AreNext points p q → AreNext others p q → runs_on points line p q ≡ runs_on others line p q
runs-same points others line p q h g = λ i. if is_before p q then same-once points others line p q h g i else same-once points others line q p (next-back points p q h) (next-back others p q g) i

once-some : (points : List Coords) (line : Line) (p q : Coords) → 0 < once_on points line p q → IsPiece points line p q
once-some points line p q some = piece_of points line p q (by (has_piece points line p q) some)
  where
    by : (t : Bool) → 0 < cond t 1 0 → t ≡ true
    by true h = refl
    by false h = absurd (omega (arith, h))

some-once : (points : List Coords) (line : Line) (p q : Coords) → IsPiece points line p q → 0 < once_on points line p q
some-once points line p q h = by (has_piece points line p q) (has_piece_from points line p q h)
  where
    by : (t : Bool) → t ≡ true → 0 < cond t 1 0
    by true e = omega arith
    by false e = cc

pub piece-runs : (points : List Coords) (line : Line) (p q : Coords) → IsPiece points line p q → 0 < runs_on points line p q
piece-runs points line p q h = by (is_before p q) h.before
  where
    by : (t : Bool) → t ≡ true → 0 < (if t then once_on points line p q else once_on points line q p)
    by true e = some-once points line p q h
    by false e = cc

pub piece-runs-back : (points : List Coords) (line : Line) (p q : Coords) → IsPiece points line p q → 0 < runs_on points line q p
piece-runs-back points line p q h = by (is_before q p) (not_after p q h.before)
  where
    by : (t : Bool) → t ≡ false → 0 < (if t then once_on points line q p else once_on points line p q)
    by true e = cc
    by false e = some-once points line p q h

-- where the others have each piece of the line as it is, it runs over no edge of theirs but these
pub runs-back : (points others : List Coords) (line : Line) → is_on_points points line ≡ true
    → ((p q : Coords) → IsPiece points line p q → (is_point others p ≡ true) × ((is_point others q ≡ true) × IsClear others p q))
    → (p q : Coords) → 0 < runs_on others line p q → 0 < runs_on points line p q
runs-back points others line on same p q some = by (is_before p q) some
  where
    back : (p q : Coords) → 0 < once_on others line p q → 0 < once_on points line p q
    back p q h = some-once points line p q (piece-back points others line on same p q (once-some others line p q h))

    by : (t : Bool) → 0 < (if t then once_on others line p q else once_on others line q p) → 0 < (if t then once_on points line p q else once_on points line q p)
    by true h = back p q h
    by false h = back q p h
