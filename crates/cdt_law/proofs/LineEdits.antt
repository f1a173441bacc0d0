-- A line that is added or taken: its pieces are those of the base, also at a newer net where its plan stands.
use Rattle.std.proofs.Common.{◌≡◌, ℕ, zero, suc, ◌+◌, ◌<◌, ◌⊎◌, inl, inr, refl, sym, subst, ◌∙◌, arith, true}
use Rattle.ground_model.specs.declared.corner.Corner.TheVariants.{At}
use Rattle.ground_model.specs.Place.{Coords}
use Rattle.ground_model.specs.Line.{Line, is_point}
use Rattle.ground_model.specs.Crossings.{is_on_points}
use Rattle.ground_model.proofs.LinePieces.{IsPiece}
use Rattle.predicates.specs.Net.{Net, times_in, edges_in}
use Rattle.cdt_law.proofs.Numbers.{some-of, larger-first, larger-last, differs-from-last, last-left, same-last}
use Rattle.cdt_law.proofs.GoneFacets.{GoneOn}
use Rattle.cdt_law.proofs.KeptPieces.{piece_law}
use Rattle.cdt_law.proofs.PieceParts.{IsClear}
use Rattle.cdt_law.proofs.LineTimes.{runs_on, AreNext, runs-same, runs-back, piece-runs}
use Rattle.cdt_law.proofs.Standing.{Standing, OtherOn, Counted, next-on, bare, bare_sheet, made_alike, made-edge, other-edge, planned-edge, base-edge, newest-edge, parted, not-gone, not-made, made-on, destroyed-on}

module _ (base planned newest after : Net) (s : Standing base planned newest after) (line : Line) (on : is_on_points base.points line ≡ true) (even : (p q : Coords) → after.count p q ≡ after.count q p) where
  -- ---- a line more
  module _ (same_points : planned.points ≡ base.points) (same_after : after.points ≡ newest.points)
      (more : (p q : Coords) → planned.count p q ≡ runs_on base.points line p q + base.count p q) (more_after : (p q : Coords) → after.count p q ≡ runs_on newest.points line p q + newest.count p q) where
    made-run : (p q : Coords) → 0 < runs_on base.points line p q → GoneOn planned base (At p) (At q)
    made-run p q some = made-on base planned newest after s p q (larger-first (planned.count p q) (runs_on base.points line p q) (base.count p q) (more p q) some) (differs-from-last (planned.count p q) (runs_on base.points line p q) (base.count p q) (more p q) some)

    next-after : (p q : Coords) → GoneOn planned base (At p) (At q) → AreNext newest.points p q
    next-after p q g = subst (λ ps. AreNext ps p q) same_after (next-on (bare base planned newest after s) (bare_sheet base planned newest after s) p q (made-edge base planned newest after s (At p) (At q) g.third g.there))

    next-planned : (p q : Coords) → GoneOn planned base (At p) (At q) → AreNext base.points p q
    next-planned p q g = subst (λ ps. AreNext ps p q) same_points (next-on planned s.planned_sheet p q (planned-edge base planned newest after s (At p) (At q) g.third g.there))

    pub pieces-there : (p q : Coords) → IsPiece base.points line p q → (is_point newest.points p ≡ true) × ((is_point newest.points q ≡ true) × IsClear newest.points p q)
    pieces-there p q h = let n = next-after p q (made-run p q (piece-runs base.points line p q h)) in (n.first, (n.last, n.clear))

    run-made : (p q : Coords) → 0 < runs_on newest.points line p q → GoneOn planned base (At p) (At q)
    run-made p q some = made-run p q (runs-back base.points newest.points line on pieces-there p q some)

    made-counts : (p q : Coords) → GoneOn planned base (At p) (At q) → planned.count p q ≡ after.count p q
    made-counts p q g =
        more p q ∙ (λ i. runs-same base.points newest.points line p q (next-planned p q g) (next-after p q g) i + made_alike base planned newest after s (At p) (At q) g.third g.there i) ∙ sym (more_after p q)

    other-counts : (p q : Coords) → OtherOn base planned newest (At p) (At q) → newest.count p q ≡ after.count p q
    other-counts p q o = by (runs_on newest.points line p q) refl (more_after p q)
      where
        by : (k : ℕ) → runs_on newest.points line p q ≡ k → after.count p q ≡ runs_on newest.points line p q + newest.count p q → newest.count p q ≡ after.count p q
        by zero e f = sym (last-left (after.count p q) (runs_on newest.points line p q) (newest.count p q) f e)
        by (suc k) e f = absurd (not-made base planned newest after s (At p) (At q) (run-made p q (some-of (runs_on newest.points line p q) k e)) o)

    pieces : (p q : Coords) → 0 < after.count p q → 0 < times_in (edges_in after) (At p, At q)
    pieces p q some = by (runs_on newest.points line p q) refl
      where
        kept : 0 < newest.count p q → GoneOn base planned (At p) (At q) ⊎ OtherOn base planned newest (At p) (At q) → 0 < times_in (edges_in after) (At p, At q)
        kept piece (inr o) = other-edge base planned newest after s (At p) (At q) o.third o.there
        kept piece (inl g) =
            piece_law base planned newest after s.base_sheet s.planned_sheet s.newest_sheet s.enclosed s.triangles p q piece
            (larger (planned.count p q) (runs_on base.points line p q) (base.count p q) (newest.count p q) (more p q) (s.alike (At p) (At q) g.third g.there) piece)
          where
            larger : (n k m r : ℕ) → n ≡ k + m → m ≡ r → 0 < r → 0 < n
            larger n k m r e f h = omega (arith, e, f, h)

        by : (k : ℕ) → runs_on newest.points line p q ≡ k → 0 < times_in (edges_in after) (At p, At q)
        by zero e =
            let piece : 0 < newest.count p q = left (after.count p q) (runs_on newest.points line p q) (newest.count p q) (more_after p q) e some in
            kept piece (parted base planned newest after s (At p) (At q) (s.newest_sheet.pieces p q piece))
          where
            left : (n k m : ℕ) → n ≡ k + m → k ≡ 0 → 0 < n → 0 < m
            left n k m e f h = omega (arith, e, f, h)
        by (suc k) e = let g = run-made p q (some-of (runs_on newest.points line p q) k e) in made-edge base planned newest after s (At p) (At q) g.third g.there

    pub line-added : Counted base planned newest after s
    line-added = record { made = made-counts; others = other-counts; pieces = pieces; even = even }

  -- ---- a line less
  module _ (same_points : planned.points ≡ base.points) (same_after : after.points ≡ newest.points)
      (less : (p q : Coords) → base.count p q ≡ runs_on base.points line p q + planned.count p q) (less_after : (p q : Coords) → newest.count p q ≡ runs_on newest.points line p q + after.count p q) where
    destroyed-run : (p q : Coords) → 0 < runs_on base.points line p q → GoneOn base planned (At p) (At q)
    destroyed-run p q some = destroyed-on base planned newest after s p q (larger-first (base.count p q) (runs_on base.points line p q) (planned.count p q) (less p q) some) (differs-from-last (base.count p q) (runs_on base.points line p q) (planned.count p q) (less p q) some)

    next-newest : (p q : Coords) → GoneOn base planned (At p) (At q) → AreNext newest.points p q
    next-newest p q g = next-on newest s.newest_sheet p q (newest-edge base planned newest after s (At p) (At q) g.third g.there)

    next-base : (p q : Coords) → GoneOn base planned (At p) (At q) → AreNext base.points p q
    next-base p q g = next-on base s.base_sheet p q (base-edge base planned newest after s (At p) (At q) g.third g.there)

    still-there : (p q : Coords) → IsPiece base.points line p q → (is_point newest.points p ≡ true) × ((is_point newest.points q ≡ true) × IsClear newest.points p q)
    still-there p q h = let n = next-newest p q (destroyed-run p q (piece-runs base.points line p q h)) in (n.first, (n.last, n.clear))

    run-destroyed : (p q : Coords) → 0 < runs_on newest.points line p q → GoneOn base planned (At p) (At q)
    run-destroyed p q some = destroyed-run p q (runs-back base.points newest.points line on still-there p q some)

    made-left : (p q : Coords) → GoneOn planned base (At p) (At q) → planned.count p q ≡ after.count p q
    made-left p q g =
        same-last (base.count p q) (newest.count p q) (runs_on base.points line p q) (runs_on newest.points line p q) (planned.count p q) (after.count p q) (less p q) (less_after p q)
        (runs-same base.points newest.points line p q first last) (made_alike base planned newest after s (At p) (At q) g.third g.there)
      where
        first : AreNext base.points p q
        first = subst (λ ps. AreNext ps p q) same_points (next-on planned s.planned_sheet p q (planned-edge base planned newest after s (At p) (At q) g.third g.there))

        last : AreNext newest.points p q
        last = subst (λ ps. AreNext ps p q) same_after (next-on (bare base planned newest after s) (bare_sheet base planned newest after s) p q (made-edge base planned newest after s (At p) (At q) g.third g.there))

    other-left : (p q : Coords) → OtherOn base planned newest (At p) (At q) → newest.count p q ≡ after.count p q
    other-left p q o = by (runs_on newest.points line p q) refl (less_after p q)
      where
        by : (k : ℕ) → runs_on newest.points line p q ≡ k → newest.count p q ≡ runs_on newest.points line p q + after.count p q → newest.count p q ≡ after.count p q
        by zero e f = last-left (newest.count p q) (runs_on newest.points line p q) (after.count p q) f e
        by (suc k) e f = absurd (not-gone base planned newest after s (At p) (At q) (run-destroyed p q (some-of (runs_on newest.points line p q) k e)) o)

    pieces-left : (p q : Coords) → 0 < after.count p q → 0 < times_in (edges_in after) (At p, At q)
    pieces-left p q some = by (parted base planned newest after s (At p) (At q) (s.newest_sheet.pieces p q piece))
      where
        piece : 0 < newest.count p q
        piece = larger-last (newest.count p q) (runs_on newest.points line p q) (after.count p q) (less_after p q) some

        left : (b n k l m r : ℕ) → b ≡ k + m → n ≡ l + r → k ≡ l → b ≡ n → 0 < r → 0 < m
        left b n k l m r e f g h i = omega (arith, e, f, g, h, i)

        by : GoneOn base planned (At p) (At q) ⊎ OtherOn base planned newest (At p) (At q) → 0 < times_in (edges_in after) (At p, At q)
        by (inr o) = other-edge base planned newest after s (At p) (At q) o.third o.there
        by (inl g) =
            piece_law base planned newest after s.base_sheet s.planned_sheet s.newest_sheet s.enclosed s.triangles p q piece
            (left (base.count p q) (newest.count p q) (runs_on base.points line p q) (runs_on newest.points line p q) (planned.count p q) (after.count p q) (less p q) (less_after p q)
            (runs-same base.points newest.points line p q (next-base p q g) (next-newest p q g)) (s.alike (At p) (At q) g.third g.there) some)

    pub line-taken : Counted base planned newest after s
    line-taken = record { made = made-left; others = other-left; pieces = pieces-left; even = even }
