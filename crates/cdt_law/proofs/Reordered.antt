-- Triangles in another order, each beginning with any of its corners, are as much of a sheet.
use Rattle.std.proofs.Common.{◌≡◌, ℕ, zero, suc, ◌+◌, ◌<◌, ◌≤◌, ◌⊎◌, inl, inr, refl, sym, ap, subst, ◌∙◌, arith, true}
use Rattle.std.specs.Prelude.{cond, not, ◌||◌, ◌&&◌, Some, slice_get}
use Rattle.std.specs.List.{All, list_all, list_any}
use Rattle.std.proofs.lemmas.Bool.{and_from}
use Rattle.std.proofs.lemmas.List.Sums.{sum_by-append}
use Rattle.ground_model.specs.declared.corner.Corner.{Corner}
use Rattle.ground_model.specs.declared.corner.Corner.TheVariants.{At, Far}
use Rattle.ground_model.specs.Place.{Coords, IsPlace, is_same}
use Rattle.ground_model.proofs.LinePieces.{is_same_itself}
use Rattle.predicates.specs.Net.{Net, Triangle, Edge, edges_in, is_same_edge, reversed, times_in, rim, has, has_corner, covers, count_of}
use Rattle.predicates.specs.Sheet.{IsSheet, rimmed, is_over, are_over}
use Rattle.predicates.proofs.Tiling.{each-passes}
use Rattle.predicates.proofs.Owners.{IsTurn, Still, owner, owner-times, turn-next}
use Rattle.predicates.proofs.HasTriangles.{Found, any-found, any-at, has-owner, owner-has}
use Rattle.predicates.proofs.Holding.{passes-each, turn-held, turn-has_corner, must-corner}
use Rattle.cdt_law.specs.Laws.{AreOverOne}
use Rattle.cdt_law.specs.Order.{AreAlike, OrderLaw}
use Rattle.cdt_law.proofs.WalkSteps.{at-corner}
use Rattle.cdt_law.proofs.GoodInSheet.{over-first, sheet-only}
use Rattle.cdt_law.proofs.Patched.{turned-within}

-- the one net's triangle over an edge is the other's
record Moved (other : Net) (a b c : Corner) : Type 0 where
  index : ℕ
  triangle : Triangle
  at : slice_get other.triangles index ≡ Some triangle
  turn : IsTurn triangle a b c

moved : (net other : Net) → ((a b c : Corner) → has net a b c ≡ true → has other a b c ≡ true) → (k : ℕ) (t : Triangle) (a b c : Corner) → slice_get net.triangles k ≡ Some t → IsTurn t a b c → Moved other a b c
moved net other within k t a b c at turn =
    let one = has-owner other a b c (within a b c (owner-has net a b (record { index = k; triangle = t; third = c; at = at; turn = turn }))) in
    record { index = one.owner.index; triangle = one.owner.triangle; at = one.owner.at; turn = subst (λ (z : Corner). IsTurn one.owner.triangle a b z) one.third one.owner.turn }

module _ (net other : Net) (sheet : IsSheet net) (x : AreAlike net other) where
  to_other : (a b c : Corner) → has net a b c ≡ true → has other a b c ≡ true
  to_other a b c e = sym (x.same a b c) ∙ e

  to_net : (a b c : Corner) → has other a b c ≡ true → has net a b c ≡ true
  to_net a b c e = x.same a b c ∙ e

  -- ---- edges
  rimmed-parts : (n : Net) (e : Edge) → times_in (rimmed n) e ≡ times_in (edges_in n) e + times_in rim e
  rimmed-parts n e = sum_by-append (λ y. cond (is_same_edge e y) 1 0) (edges_in n) rim

  edge-moved : (n m : Net) → ((a b c : Corner) → has n a b c ≡ true → has m a b c ≡ true) → (e : Edge) → 0 < times_in (edges_in n) e → 0 < times_in (edges_in m) e
  edge-moved n m within e some =
      let o = owner n e.0 e.1 some in
      let to = moved n m within o.index o.triangle e.0 e.1 o.third o.at o.turn in
      owner-times m.triangles to.triangle to.index e.0 e.1 o.third to.at to.turn

  edges-same : (e : Edge) → times_in (edges_in net) e ≡ times_in (edges_in other) e
  edges-same e = same (times_in (edges_in net) e) (times_in (edges_in other) e)
      (less (times_in (rimmed net) e) (times_in (edges_in net) e) (times_in rim e) (rimmed-parts net e) (sheet.once e)) (x.once e)
      (edge-moved net other to_other e) (edge-moved other net to_net e)
    where
      less : (s n r : ℕ) → s ≡ n + r → s ≤ 1 → n ≤ 1
      less s n r e h = omega (arith, e, h)

      same : (n m : ℕ) → n ≤ 1 → m ≤ 1 → (0 < n → 0 < m) → (0 < m → 0 < n) → n ≡ m
      same zero zero h k f g = refl
      same zero (suc m) h k f g = let less : 0 < 0 = g (omega arith) in absurd (omega (arith, less))
      same (suc n) zero h k f g = let less : 0 < 0 = f (omega arith) in absurd (omega (arith, less))
      same (suc n) (suc m) h k f g = omega (arith, h, k)

  rimmed-same : (e : Edge) → times_in (rimmed net) e ≡ times_in (rimmed other) e
  rimmed-same e = rimmed-parts net e ∙ ap (λ n. n + times_in rim e) (edges-same e) ∙ sym (rimmed-parts other e)

  -- ---- corners
  over-net : (k : ℕ) (t : Triangle) (a b c : Corner) → slice_get other.triangles k ≡ Some t → IsTurn t a b c → is_over other.points a ≡ true
  over-net k t a b c at turn =
      let to = moved other net to_net k t a b c at turn in
      ap (λ ps. is_over ps a) (sym x.over.points) ∙ over-first net sheet to.index to.triangle a b c to.at to.turn

  over-all : (k : ℕ) (t : Triangle) → slice_get other.triangles k ≡ Some t → are_over other.points t ≡ true
  over-all k t at =
      let once = turn-next t t.a t.b t.c Still in
      and_from (is_over other.points t.a && is_over other.points t.b) (is_over other.points t.c)
      (and_from (is_over other.points t.a) (is_over other.points t.b) (over-net k t t.a t.b t.c at Still) (over-net k t t.b t.c t.a at once))
      (over-net k t t.c t.a t.b at (turn-next t t.b t.c t.a once))

  -- ---- points
  reached-by : (p : Coords) → Found (λ t. has_corner t (At p)) net.triangles → list_any (λ t. has_corner t (At p)) other.triangles ≡ true
  reached-by p f =
      let to = moved net other to_other f.index f.item f.item.a f.item.b f.item.c f.at Still in
      any-at (λ t. has_corner t (At p)) other.triangles to.index to.triangle to.at
      (turn-has_corner to.triangle f.item.a f.item.b f.item.c (At p) to.turn (flipped (at-corner f.item f.item.a f.item.b f.item.c (At p) Still f.passes)))
    where
      flipped : {a b c z : Corner} → (a ≡ z) ⊎ ((b ≡ z) ⊎ (c ≡ z)) → (z ≡ a) ⊎ ((z ≡ b) ⊎ (z ≡ c))
      flipped (inl e) = inl (sym e)
      flipped (inr (inl e)) = inr (inl (sym e))
      flipped (inr (inr e)) = inr (inr (sym e))

  apart-at : (k : ℕ) (t : Triangle) → slice_get other.triangles k ≡ Some t → (j : ℕ) (p : Coords) → slice_get net.points j ≡ Some p → (not (covers t p) || has_corner t (At p)) ≡ true
  apart-at k t at j p at_p = must-corner t p (λ e.
      let h = turn-held t t.a t.b t.c p Still e in
      let to = moved other net to_net k t t.a t.b t.c at Still in
      turn-has_corner t t.a t.b t.c (At p) Still (sheet-only net sheet to.index to.triangle t.a t.b t.c to.at to.turn p (any-at (is_same p) net.points j p at_p (is_same_itself p)) h.ab h.bc h.ca))

  reordered : IsSheet other
  reordered = record {
    places = subst (All IsPlace) x.over.points sheet.places;
    over = passes-each (are_over other.points) other.triangles over-all;
    turned = turned-within net sheet other.triangles to_net;
    once = λ e. subst (λ n. n ≤ 1) (rimmed-same e) (sheet.once e);
    matched = λ e. sym (rimmed-same e) ∙ sheet.matched e ∙ rimmed-same (reversed e);
    reached = ap (λ ps. list_all (λ p. list_any (λ t. has_corner t (At p)) other.triangles) ps) (sym x.over.points)
        ∙ passes-each (λ p. list_any (λ t. has_corner t (At p)) other.triangles) net.points
        (λ j p at. reached-by p (any-found (λ t. has_corner t (At p)) net.triangles (each-passes (λ q. list_any (λ t. has_corner t (At q)) net.triangles) net.points sheet.reached j p at)));
    apart = ap (λ ps. list_all (λ t. list_all (λ p. not (covers t p) || has_corner t (At p)) ps) other.triangles) (sym x.over.points)
        ∙ passes-each (λ t. list_all (λ p. not (covers t p) || has_corner t (At p)) net.points) other.triangles
        (λ k t at. passes-each (λ p. not (covers t p) || has_corner t (At p)) net.points (apart-at k t at));
    pieces = λ p q some. edge-moved net other to_other (At p, At q) (sheet.pieces p q (subst (λ n. 0 < n) (sym (x.over.count p q)) some));
    even = λ p q. sym (x.over.count p q) ∙ sheet.even p q ∙ x.over.count q p;
  }

same-counts : (net other : Net) → AreOverOne net other → (a b : Corner) → count_of net a b ≡ count_of other a b
same-counts net other o (At p) (At q) = o.count p q
same-counts net other o (At p) (Far k) = refl
same-counts net other o (Far j) b = refl

pub order_law : OrderLaw
order_law net other sheet x =
    (reordered net other sheet x, λ local a b c d at_abc at_bad free. local a b c d (x.same a b c ∙ at_abc) (x.same b a d ∙ at_bad) (same-counts net other x.over a b ∙ free))
