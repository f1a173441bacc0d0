-- The pieces of a content with a mesh cross nowhere: they are edges of a sheet.
use Rattle.std.proofs.Common.{◌≡◌, ℕ, ◌+◌, ◌<◌, inl, inr, refl, sym, ap, subst, ◌∙◌, List, [], ◌∷◌, Bool, true, false, cond, Some, None}
use Rattle.std.specs.Prelude.{◌&&◌, find, option_map, nat_le, nat_lt}
use Rattle.std.specs.List.{list_any, enumerate_from}
use Rattle.ground_model.specs.declared.line.LineKind.{LineKind}
use Rattle.ground_model.specs.declared.line.LineKind.TheVariants.{Breakline}
use Rattle.ground_model.specs.declared.corner.Corner.TheVariants.{At}
use Rattle.ground_model.specs.declared.edit.Edit.TheVariants.{AddLine}
use Rattle.ground_model.specs.Place.{Coords}
use Rattle.ground_model.specs.Side.{crosses, is_on_segment}
use Rattle.ground_model.specs.Line.{Line, Segment, links, pairs, pieces_of}
use Rattle.ground_model.specs.Table.{numbered, least_where, count_on}
use Rattle.ground_model.specs.Crossings.{any_cross, lines_cross, least_pair, joint, self_cross, pieces_on_link}
use Rattle.ground_model.specs.Content.{Content, after, points_of, lines_of}
use Rattle.ground_model.specs.Planar.{IsPlanar}
use Rattle.ground_model.proofs.Elements.{In, none_from, in_map, of_pairs}
use Rattle.ground_model.proofs.LinePieces.{IsPiece, of_pieces}
use Rattle.predicates.specs.Net.{Triangle, count_between, net_over}
use Rattle.predicates.proofs.NeverCross.{never_cross}
use Rattle.cdt_law.specs.Plans.{IsMesh}
use Rattle.cdt_law.proofs.Numbers.{along, larger-first, larger-last}
use Rattle.cdt_law.proofs.Counts.{both_ways, both-then}
use Rattle.cdt_law.proofs.CountsWithout.{line-counts}
use Rattle.cdt_law.proofs.LineTimes.{runs_on, piece-runs}
use Rattle.cdt_law.proofs.TableCounts.{line-more}

-- a search finds nothing where nothing passes
pub find-none : {X : Type 0} (test : X → Bool) (xs : List X) → ((x : X) → In x xs → test x ≡ false) → find test xs ≡ None
find-none test [] h = refl
find-none test (x ∷ xs) h = ap (λ t. cond t (Some x) (find test xs)) (h x (inl refl)) ∙ find-none test xs (λ y i. h y (inr i))

pair-none : {X : Type 0} (test : ℕ × X → ℕ × X → Bool) (xs : List (ℕ × X)) → ((x y : ℕ × X) → In x xs → In y xs → test x y ≡ false) → least_pair test xs ≡ None
pair-none test xs h = ap (λ o. option_map (λ found. (found.0.0, found.1.0)) o) (find-none (λ pair. test pair.0 pair.1) (pairs xs) (λ z i. let both = of_pairs xs z i in h z.0 z.1 both.0 both.1))

-- and-then nothing
and-none : (x y : Bool) → y ≡ false → (x && y) ≡ false
and-none true y e = e
and-none false y e = refl

none-cross : (ps qs : List Segment) → ((s t : Segment) → In s ps → In t qs → crosses s.0 s.1 t.0 t.1 ≡ false) → any_cross ps qs ≡ false
unfolding any_cross
none-cross ps qs h = none_from (λ p. list_any (λ q. crosses p.0 p.1 q.0 q.1) qs) ps (λ s i. none_from (λ q. crosses s.0 s.1 q.0 q.1) qs (λ t j. h s t i j))

-- ---- a content with a mesh
module _ (c : Content) (triangles : List Triangle) (m : IsMesh c triangles) where
  pub pieces-apart : (p q u v : Coords) → 0 < count_between c p q → 0 < count_between c u v → crosses p q u v ≡ false
  pieces-apart p q u v some other = never_cross (net_over c triangles) m.sheet (At p) (At q) (At u) (At v) (m.sheet.pieces p q some) (m.sheet.pieces u v other)

  its-piece : (line : Line) → In line (lines_of c) → (p q : Coords) → IsPiece (points_of c) line p q → 0 < count_between c p q
  its-piece line i p q h =
      along (count_on (points_of c) (lines_of c) p q) (both_ways (count_on (points_of c) (lines_of c)) p q) (sym (both-then (count_on (points_of c) (lines_of c)) p q h.before))
      (line-counts (points_of c) (lines_of c) p q line i h)

  pub no-joint : joint (points_of c) c.table ≡ None
  unfolding joint
  no-joint = pair-none (λ l m. nat_le l.0 m.0 && lines_cross (points_of c) l.1 m.1) (numbered c.table) (λ x y i j. and-none (nat_le x.0 y.0) (lines_cross (points_of c) x.1 y.1)
      (none-cross (pieces_of (points_of c) x.1) (pieces_of (points_of c) y.1) (λ s t a b. pieces-apart s.0 s.1 t.0 t.1
      (its-piece x.1 (in_map (λ e. e.1) (numbered c.table) x i) s.0 s.1 (of_pieces (points_of c) x.1 s a)) (its-piece y.1 (in_map (λ e. e.1) (numbered c.table) y j) t.0 t.1 (of_pieces (points_of c) y.1 t b)))))

-- ---- a content that has a mesh with a line more
of-numbers : {X : Type 0} (n : ℕ) (xs : List X) (z : ℕ × X) → In z (enumerate_from n xs) → In z.1 xs
of-numbers n [] z i = absurd i
of-numbers n (x ∷ xs) z (inl e) = inl (ap (λ z. z.1) e)
of-numbers n (x ∷ xs) z (inr i) = inr (of-numbers (n + 1) xs z i)

-- what is on one link is a piece of the line
link-piece : (points : List Coords) (line : Line) (link : Segment) → In link (links line) → (p q : Coords) → IsPiece points (record { kind = Breakline; places = link.0 ∷ link.1 ∷ [] }) p q → IsPiece points line p q
link-piece points line link i p q h = by h.of
  where
    by : In h.link (links (record { kind = Breakline; places = link.0 ∷ link.1 ∷ [] })) → IsPiece points line p q
    by (inl e) = record {
      before = h.before;
      first = h.first;
      last = h.last;
      clear = h.clear;
      link = link;
      of = i;
      first_on = subst (λ (a : Segment). is_on_segment a.0 a.1 p ≡ true) e h.first_on;
      last_on = subst (λ (a : Segment). is_on_segment a.0 a.1 q ≡ true) e h.last_on;
    }
    by (inr e) = absurd e

module _ (c : Content) (planar : IsPlanar c) (kind : LineKind) (places : List Coords) (triangles : List Triangle) (m : IsMesh (after c (AddLine kind places)) triangles) where
  abbrev line : Line
  line = record { kind = kind; places = places }

  new-piece : (p q : Coords) → IsPiece (points_of c) line p q → 0 < count_between (after c (AddLine kind places)) p q
  new-piece p q h = larger-first (count_between (after c (AddLine kind places)) p q) (runs_on (points_of c) line p q) (count_between c p q) (line-more c kind places planar p q) (piece-runs (points_of c) line p q h)

  old-piece : (other : Line) → In other (lines_of c) → (p q : Coords) → IsPiece (points_of c) other p q → 0 < count_between (after c (AddLine kind places)) p q
  old-piece other i p q h =
      larger-last (count_between (after c (AddLine kind places)) p q) (runs_on (points_of c) line p q) (count_between c p q) (line-more c kind places planar p q)
      (along (count_on (points_of c) (lines_of c) p q) (both_ways (count_on (points_of c) (lines_of c)) p q) (sym (both-then (count_on (points_of c) (lines_of c)) p q h.before)) (line-counts (points_of c) (lines_of c) p q other i h))

  pub no-self-cross : self_cross (points_of c) line ≡ None
  unfolding self_cross
  no-self-cross = pair-none (λ l m. nat_lt l.0 m.0 && any_cross (pieces_on_link (points_of c) l.1) (pieces_on_link (points_of c) m.1)) (enumerate_from 1 (links line))
      (λ x y i j. and-none (nat_lt x.0 y.0) (any_cross (pieces_on_link (points_of c) x.1) (pieces_on_link (points_of c) y.1)) (none-cross (pieces_on_link (points_of c) x.1) (pieces_on_link (points_of c) y.1)
      (λ s t a b. pieces-apart (after c (AddLine kind places)) triangles m s.0 s.1 t.0 t.1 (on-link x.1 (of-numbers 1 (links line) x i) s a) (on-link y.1 (of-numbers 1 (links line) y j) t b))))
    where
      on-link : (link : Segment) → In link (links line) → (s : Segment) → In s (pieces_on_link (points_of c) link) → 0 < count_between (after c (AddLine kind places)) s.0 s.1
      on-link link i s a = new-piece s.0 s.1 (link-piece (points_of c) line link i s.0 s.1 (of_pieces (points_of c) (record { kind = Breakline; places = link.0 ∷ link.1 ∷ [] }) s a))

  pub no-crossed-line : least_where (lines_cross (points_of c) line) c.table ≡ None
  no-crossed-line = ap (λ o. option_map (λ found. found.0) o) (find-none (λ entry. lines_cross (points_of c) line entry.1) (numbered c.table) (λ e i. none-cross (pieces_of (points_of c) line) (pieces_of (points_of c) e.1)
      (λ s t a b. pieces-apart (after c (AddLine kind places)) triangles m s.0 s.1 t.0 t.1 (new-piece s.0 s.1 (of_pieces (points_of c) line s a))
      (old-piece e.1 (in_map (λ e. e.1) (numbered c.table) e i) t.0 t.1 (of_pieces (points_of c) e.1 t b)))))
