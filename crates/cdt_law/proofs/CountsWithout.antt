-- The pieces of a content where a point that no line has is taken out.
use Rattle.std.proofs.Common.{◌≡◌, ℕ, ◌+◌, ◌<◌, ◌⊎◌, inl, inr, refl, sym, ap, subst, ◌∙◌, arith, List, [], ◌∷◌, Bool, true, false, cond}
use Rattle.std.specs.Prelude.{count_by, not, ◌&&◌, if◌then◌else◌}
use Rattle.std.proofs.lemmas.Bool.{and_parts, and_from}
use Rattle.std.proofs.lemmas.List.Sums.{sum_by-cons}
use Rattle.ground_model.specs.Place.{Coords, is_before, is_same}
use Rattle.ground_model.specs.Side.{is_on_segment}
use Rattle.ground_model.specs.Line.{Line, is_point, has_piece}
use Rattle.ground_model.specs.Table.{count_on}
use Rattle.ground_model.specs.Crossings.{is_on_points}
use Rattle.ground_model.proofs.Elements.{In, both_true, any_gives, some_counted}
use Rattle.ground_model.proofs.LinePieces.{is_same_itself, IsPiece, piece_of, has_piece_from}
use Rattle.ground_model.proofs.Ties.{same_of_is_same}
use Rattle.cdt_law.proofs.Counts.{CountsPieces, both_ways, both-some, both-some-back}
use Rattle.cdt_law.proofs.GoodFacet.{site_by}
use Rattle.cdt_law.proofs.GoodTriangle.{Site}
use Rattle.cdt_law.proofs.ThinnerSites.{Amid, IsThinner}
use Rattle.cdt_law.proofs.PiecesWithout.{still, piece-kept, piece-still, first-part, last-part}
use Rattle.cdt_law.proofs.LongerPieces.{Inside, amid, amid-back, from-before, to-after}

-- ---- counts
-- a count counts an item that passes
count-some : {X : Type 0} (test : X → Bool) (xs : List X) (x : X) → In x xs → test x ≡ true → 0 < count_by test xs
count-some test [] x i e = absurd i
count-some test (y ∷ ys) x (inl same) e = more (test y) (count_by test (y ∷ ys)) (count_by test ys) (sum_by-cons (λ z. cond (test z) 1 0) y ys) (sym (ap test same) ∙ e)
  where
    more : (t : Bool) (n m : ℕ) → n ≡ cond t 1 0 + m → t ≡ true → 0 < n
    more true n m e f = omega (arith, e)
    more false n m e f = cc
count-some test (y ∷ ys) x (inr i) e = more (cond (test y) 1 0) (count_by test (y ∷ ys)) (count_by test ys) (sum_by-cons (λ z. cond (test z) 1 0) y ys) (count-some test ys x i e)
  where
    more : (k n m : ℕ) → n ≡ k + m → 0 < m → 0 < n
    more k n m e h = omega (arith, e, h)

-- a line of those given has the piece
pub record OfLine (points : List Coords) (lines : List Line) (u v : Coords) : Type 0 where
  pub line : Line
  pub of : In line lines
  pub piece : IsPiece points line u v

pub of-line : (points : List Coords) (lines : List Line) (u v : Coords) → 0 < count_on points lines u v → OfLine points lines u v
unfolding count_on
of-line points lines u v some =
    let found = any_gives (λ line. has_piece points line u v) lines (some_counted (λ line. has_piece points line u v) lines some) in
    record { line = found.0; of = found.1; piece = piece_of points found.0 u v found.2 }

pub line-counts : (points : List Coords) (lines : List Line) (u v : Coords) (line : Line) → In line lines → IsPiece points line u v → 0 < count_on points lines u v
unfolding count_on
line-counts points lines u v line i h = count-some (λ line. has_piece points line u v) lines line i (has_piece_from points line u v h)

-- which of the two directions is counted
pub either-way : (g : Coords → Coords → ℕ) (u v : Coords) → 0 < both_ways g u v → (0 < g u v) ⊎ (0 < g v u)
either-way g u v some = by (is_before u v) some
  where
    by : (t : Bool) → 0 < (if t then g u v else g v u) → (0 < g u v) ⊎ (0 < g v u)
    by true h = inl h
    by false h = inr h

module _ (points rest : List Coords) (p : Coords) (without : (x : Coords) → is_point rest x ≡ (is_point points x && not (is_same p x))) (at_p : is_point points p ≡ true) (lines : List Line) where
  -- ---- a count that stays
  same-pieces : (u v : Coords) → (u ≡ p → ⊥) → (v ≡ p → ⊥) → (Inside u v p → ⊥) → (line : Line) → has_piece points line u v ≡ has_piece rest line u v
  same-pieces u v not_u not_v not_in line = both_true (has_piece points line u v) (has_piece rest line u v)
      (λ e. has_piece_from rest line u v (piece-kept points rest p without at_p line u v (piece_of points line u v e) not_u not_v))
      (λ e. has_piece_from points line u v (piece-still points rest p without at_p line u v (piece_of rest line u v e) (λ on lt gt. not_in (record { on = on; after = lt; before = gt }))))

  pub same-count : (u v : Coords) → (u ≡ p → ⊥) → (v ≡ p → ⊥) → (Inside u v p → ⊥) → count_on points lines u v ≡ count_on rest lines u v
  unfolding count_on
  same-count u v not_u not_v not_in = λ i. count_by (λ line. same-pieces u v not_u not_v not_in line i) lines

  pub same-both : (u v : Coords) → (u ≡ p → ⊥) → (v ≡ p → ⊥) → (Amid u v p → ⊥) → both_ways (count_on points lines) u v ≡ both_ways (count_on rest lines) u v
  same-both u v not_u not_v not_amid = λ i. if is_before u v then there i else back i
    where
      there : count_on points lines u v ≡ count_on rest lines u v
      there = same-count u v not_u not_v (λ h. not_amid (amid u v p h))

      back : count_on points lines v u ≡ count_on rest lines v u
      back = same-count v u not_v not_u (λ h. not_amid (amid-back v u p h))

  -- ---- a piece without p, and what it is with p
  record Halves (u v : Coords) : Type 0 where
    inside : Inside u v p
    first : 0 < count_on points lines u p
    last : 0 < count_on points lines p v

  split : (u v : Coords) → 0 < count_on rest lines u v → (0 < count_on points lines u v) ⊎ Halves u v
  split u v some = by (is_on_segment u v p && is_before u p && is_before p v) refl
    where
      o : OfLine rest lines u v
      o = of-line rest lines u v some

      by : (t : Bool) → (is_on_segment u v p && is_before u p && is_before p v) ≡ t → (0 < count_on points lines u v) ⊎ Halves u v
      by true e =
          let outer = and_parts (is_on_segment u v p && is_before u p) (is_before p v) e in
          let inner = and_parts (is_on_segment u v p) (is_before u p) outer.0 in
          inr (record {
            inside = record { on = inner.0; after = inner.1; before = outer.1 };
            first = line-counts points lines u p o.line o.of (first-part points rest p without at_p o.line u v o.piece inner.0 inner.1 outer.1);
            last = line-counts points lines p v o.line o.of (last-part points rest p without at_p o.line u v o.piece inner.0 inner.1 outer.1);
          })
      by false e = inl (line-counts points lines u v o.line o.of (piece-still points rest p without at_p o.line u v o.piece (λ on lt gt. never (and_from (is_on_segment u v p && is_before u p) (is_before p v) (and_from (is_on_segment u v p) (is_before u p) on lt) gt) e)))
        where
          never : {t : Bool} → t ≡ true → t ≡ false → ⊥
          never e f = let clash : true ≡ false = sym e ∙ f in cc

  -- ---- a piece with p, and what it is without p
  module _ (on : (line : Line) → In line lines → is_on_points rest line ≡ true) where
    record Before (v : Coords) : Type 0 where
      u : Coords
      inside : Inside u v p
      some : 0 < count_on rest lines u v

    record After (u : Coords) : Type 0 where
      v : Coords
      inside : Inside u v p
      some : 0 < count_on rest lines u v

    joined : (u v : Coords) → 0 < count_on points lines u v → (0 < count_on rest lines u v) ⊎ (((u ≡ p) × Before v) ⊎ ((v ≡ p) × After u))
    joined u v some = by (is_same u p) (is_same v p) refl refl
      where
        o : OfLine points lines u v
        o = of-line points lines u v some

        longer-before : IsPiece points o.line p v → Before v
        longer-before h = let l = from-before points rest p without at_p o.line (on o.line o.of) v h in record { u = l.u; inside = l.inside; some = line-counts rest lines l.u v o.line o.of l.piece }

        longer-after : IsPiece points o.line u p → After u
        longer-after h = let l = to-after points rest p without at_p o.line (on o.line o.of) u h in record { v = l.v; inside = l.inside; some = line-counts rest lines u l.v o.line o.of l.piece }

        differs : (x : Coords) → is_same x p ≡ false → x ≡ p → ⊥
        differs x e f = let clash : true ≡ false = sym (ap (λ k. is_same k p) f ∙ is_same_itself p) ∙ e in cc

        by : (s t : Bool) → is_same u p ≡ s → is_same v p ≡ t → (0 < count_on rest lines u v) ⊎ (((u ≡ p) × Before v) ⊎ ((v ≡ p) × After u))
        by true t e f = let same = same_of_is_same u p e in inr (inl (same, longer-before (subst (λ k. IsPiece points o.line k v) same o.piece)))
        by false true e f = let same = same_of_is_same v p f in inr (inr (same, longer-after (subst (λ k. IsPiece points o.line u k) same o.piece)))
        by false false e f = inl (line-counts rest lines u v o.line o.of (piece-kept points rest p without at_p o.line u v o.piece (differs u e) (differs v f)))

    -- ---- the site without p
    module _ (c : CountsPieces points (count_on points lines)) (d : CountsPieces rest (count_on rest lines)) where
      more : Site
      more = site_by (count_on points lines) points

      fewer : Site
      fewer = site_by (count_on rest lines) rest

      site-split : (u v : Coords) → 0 < both_ways (count_on rest lines) u v → (0 < both_ways (count_on points lines) u v) ⊎ (Amid u v p × ((0 < both_ways (count_on points lines) u p) × (0 < both_ways (count_on points lines) p v)))
      site-split u v some = by (either-way (count_on rest lines) u v some)
        where
          there : (0 < count_on points lines u v) ⊎ Halves u v → (0 < both_ways (count_on points lines) u v) ⊎ (Amid u v p × ((0 < both_ways (count_on points lines) u p) × (0 < both_ways (count_on points lines) p v)))
          there (inl h) = inl (both-some (count_on points lines) points c u v h)
          there (inr h) = inr (amid u v p h.inside, (both-some (count_on points lines) points c u p h.first, both-some (count_on points lines) points c p v h.last))

          back : (0 < count_on points lines v u) ⊎ Halves v u → (0 < both_ways (count_on points lines) u v) ⊎ (Amid u v p × ((0 < both_ways (count_on points lines) u p) × (0 < both_ways (count_on points lines) p v)))
          back (inl h) = inl (both-some-back (count_on points lines) points c v u h)
          back (inr h) = inr (amid-back v u p h.inside, (both-some-back (count_on points lines) points c p u h.last, both-some-back (count_on points lines) points c v p h.first))

          by : (0 < count_on rest lines u v) ⊎ (0 < count_on rest lines v u) → (0 < both_ways (count_on points lines) u v) ⊎ (Amid u v p × ((0 < both_ways (count_on points lines) u p) × (0 < both_ways (count_on points lines) p v)))
          by (inl h) = there (split u v h)
          by (inr h) = back (split v u h)

      abbrev Joins : Coords → Coords → Type 0
      Joins u v = (0 < both_ways (count_on rest lines) u v)
          ⊎ (((u ≡ p) × ((w : Coords) × (Amid w v p × (0 < both_ways (count_on rest lines) w v)))) ⊎ ((v ≡ p) × ((w : Coords) × (Amid u w p × (0 < both_ways (count_on rest lines) u w)))))

      site-joined : (u v : Coords) → 0 < both_ways (count_on points lines) u v → Joins u v
      site-joined u v some = by (either-way (count_on points lines) u v some)
        where
          there : (0 < count_on rest lines u v) ⊎ (((u ≡ p) × Before v) ⊎ ((v ≡ p) × After u)) → Joins u v
          there (inl h) = inl (both-some (count_on rest lines) rest d u v h)
          there (inr (inl (e, h))) = inr (inl (e, (h.u, (amid h.u v p h.inside, both-some (count_on rest lines) rest d h.u v h.some))))
          there (inr (inr (e, h))) = inr (inr (e, (h.v, (amid u h.v p h.inside, both-some (count_on rest lines) rest d u h.v h.some))))

          back : (0 < count_on rest lines v u) ⊎ (((v ≡ p) × Before u) ⊎ ((u ≡ p) × After v)) → Joins u v
          back (inl h) = inl (both-some-back (count_on rest lines) rest d v u h)
          back (inr (inl (e, h))) = inr (inr (e, (h.u, (amid-back h.u u p h.inside, both-some-back (count_on rest lines) rest d h.u u h.some))))
          back (inr (inr (e, h))) = inr (inl (e, (h.v, (amid-back v h.v p h.inside, both-some-back (count_on rest lines) rest d v h.v h.some))))

          by : (0 < count_on points lines u v) ⊎ (0 < count_on points lines v u) → Joins u v
          by (inl h) = there (joined u v h)
          by (inr h) = back (joined v u h)

      pub thinner : IsThinner (site_by (count_on points lines) points) (site_by (count_on rest lines) rest) p
      thinner = record { points = still points rest p without at_p; split = site-split; joined = site-joined }
