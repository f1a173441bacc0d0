-- A point that may be taken out of a content can be taken out of its mesh.
use Rattle.std.proofs.Common.{◌≡◌, ◌⊎◌, ℕ, ◌<◌, inl, inr, refl, sym, ap, subst, ◌∙◌, List, ◌∷◌, Bool, Option, None, true, false}
use Rattle.std.specs.Prelude.{pos, not, ◌&&◌}
use Rattle.std.specs.FinMap as finmap
use Rattle.std.specs.List.{list_any}
use Rattle.ground_model.specs.declared.edit.Edit.TheVariants.{RemovePoint}
use Rattle.ground_model.specs.declared.limits.Limits.{Limits}
use Rattle.ground_model.specs.declared.refusal.Refusal.{Refusal}
use Rattle.ground_model.specs.declared.refusal.Refusal.TheVariants.{Absent}
use Rattle.ground_model.specs.Content.{Content, after, points_of, lines_of}
use Rattle.ground_model.specs.Crossings.{any_cross, lines_cross, is_on_points}
use Rattle.ground_model.specs.Line.{Line, Segment, is_point, has_place, pieces_of}
use Rattle.ground_model.specs.Place.{Coords, is_same}
use Rattle.ground_model.specs.Planar.{IsPlanar}
use Rattle.ground_model.specs.Refusal.{IsLawful, edit_refusal, first_of, when}
use Rattle.ground_model.specs.Side.{side, crosses}
use Rattle.ground_model.specs.Table.{count_on}
use Rattle.ground_model.proofs.Along.{collinear_of_on}
use Rattle.ground_model.proofs.Causes.{lawful_edit, no_line_where, point_parts}
use Rattle.ground_model.proofs.Elements.{In, none_at}
use Rattle.ground_model.proofs.LinePieces.{in_pieces}
use Rattle.ground_model.proofs.Planar.{on_at, apart_at, is_point-keys, planar-after, still_on}
use Rattle.ground_model.proofs.Segments.{before_trans}
use Rattle.predicates.specs.Net.{Net}
use Rattle.cdt_law.proofs.Counts.{both_ways, both-then}
use Rattle.cdt_law.proofs.CountsWithout.{of-line}
use Rattle.cdt_law.proofs.LongerPieces.{Inside}
use Rattle.cdt_law.proofs.PointCounts.{Between, inside-between, counted-first, counted-clear, both-even, Whole, whole-of}
use Rattle.cdt_law.proofs.PointLaw.{removed-points}
use Rattle.tri_pages.specs.Slots.{State}
use Rattle.mesh.specs.Sheets.{net_in}
use Rattle.point_edit.specs.Contents.{IsMeshOf, RemovableLaw}
use Rattle.point_edit.specs.Removals.{GoesOn, IsRemovable}
use Rattle.point_edit.proofs.Chords.{turned_back, swapped_back, one_piece}
use Rattle.point_edit.proofs.Halves.{opened, between_two, as_whole_last, as_whole_first}

module _ (fewer more : List Coords) (lines : List Line) (p : Coords) (net : Net)
    (without : (x : Coords) → is_point fewer x ≡ (is_point more x && not (is_same p x))) (at_p : is_point more p ≡ true) (on : (line : Line) → In line lines → is_on_points fewer line ≡ true)
    (apart : (l m : Line) → In l lines → In m lines → lines_cross fewer l m ≡ false) (counts : (q r : Coords) → net.count q r ≡ both_ways (count_on more lines) q r) where
  whole : (q : Coords) → 0 < net.count p q → Whole more fewer p without at_p lines on q
  whole q some = whole-of more fewer p without at_p lines on q (subst (λ k. 0 < k) (counts p q) some)

  -- a piece over p, in order, that ends at q
  record Chord (q : Coords) : Type 0 where
    first : Coords
    last : Coords
    inside : Inside first last p
    some : 0 < both_ways (count_on fewer lines) first last
    end : (q ≡ first) ⊎ (q ≡ last)

  chord : (q : Coords) → 0 < net.count p q → Chord q
  chord q some = let w = whole q some in by w (opened w.x q p w.between)
    where
      by : (w : Whole more fewer p without at_p lines on q) → Inside w.x q p ⊎ Inside q w.x p → Chord q
      by w (inl h) = record { first = w.x; last = q; inside = h; some = w.some; end = inr refl }
      by w (inr h) = record { first = q; last = w.x; inside = h; some = subst (λ k. 0 < k) (both-even (count_on fewer lines) w.x q) w.some; end = inl refl }

  uncrossed : (q r : Coords) (x : Chord q) (y : Chord r) → crosses x.first x.last y.first y.last ≡ false
  unfolding any_cross
  uncrossed q r x y =
      let a = of-line fewer lines x.first x.last (subst (λ k. 0 < k) (both-then (count_on fewer lines) x.first x.last (before_trans x.first p x.last x.inside.after x.inside.before)) x.some) in
      let b = of-line fewer lines y.first y.last (subst (λ k. 0 < k) (both-then (count_on fewer lines) y.first y.last (before_trans y.first p y.last y.inside.after y.inside.before)) y.some) in
      none_at (λ (t : Segment). crosses x.first x.last t.0 t.1) (pieces_of fewer b.line) (y.first, y.last)
      (none_at (λ (s : Segment). list_any (λ (t : Segment). crosses s.0 s.1 t.0 t.1) (pieces_of fewer b.line)) (pieces_of fewer a.line) (x.first, x.last) (apart a.line b.line a.of b.of) (in_pieces fewer a.line x.first x.last a.piece))
      (in_pieces fewer b.line y.first y.last b.piece)

  at_last : (q : Coords) (x : Chord q) → is_point fewer x.last ≡ true
  at_last q x = counted-first fewer lines x.last x.first (subst (λ k. 0 < k) (both-even (count_on fewer lines) x.first x.last) x.some)

  clear : (q : Coords) (x : Chord q) → (r : Coords) → is_point fewer r ≡ true → Inside x.first x.last r → ⊥
  clear q x r at_r h = counted-clear fewer lines x.first x.last r at_r x.some (inside-between x.first x.last r h)

  -- all pieces over p are one
  one : (q r : Coords) (x : Chord q) (y : Chord r) → (x.first ≡ y.first) × (x.last ≡ y.last)
  one q r x y = one_piece fewer x.first x.last y.first y.last p x.inside y.inside (clear q x) (clear r y)
      (counted-first fewer lines x.first x.last x.some) (at_last q x) (counted-first fewer lines y.first y.last y.some) (at_last r y) (uncrossed q r x y)

  goes_on : (q : Coords) → 0 < net.count p q → GoesOn net p q
  goes_on q some = let w = whole q some in record {
    other = w.x;
    apart = λ e. between_two q p (subst (λ (k : Coords). Between k q p) e w.between);
    straight = by w (opened w.x q p w.between);
    same_count = counts p w.x ∙ as_whole_first fewer more lines p without at_p on w.x q w.between w.some ∙ sym (as_whole_last fewer more lines p without at_p on w.x q w.between w.some) ∙ sym (counts p q);
  }
    where
      by : (w : Whole more fewer p without at_p lines on q) → Inside w.x q p ⊎ Inside q w.x p → side q p w.x ≡ pos 0
      by w (inl h) = turned_back w.x q p (collinear_of_on w.x q p h.on)
      by w (inr h) = turned_back w.x q p (swapped_back q w.x p (collinear_of_on q w.x p h.on))

  ends : (q r x : Coords) (s : Chord q) (t : Chord r) (u : Chord x) → (q ≡ r → ⊥) → (s.first ≡ t.first) × (s.last ≡ t.last) → (s.first ≡ u.first) × (s.last ≡ u.last) → (x ≡ q) ⊎ (x ≡ r)
  ends q r x s t u differ e f = by s.end t.end u.end
    where
      by : (q ≡ s.first) ⊎ (q ≡ s.last) → (r ≡ t.first) ⊎ (r ≡ t.last) → (x ≡ u.first) ⊎ (x ≡ u.last) → (x ≡ q) ⊎ (x ≡ r)
      by (inl a) (inl b) c = absurd (differ (a ∙ e.0 ∙ sym b))
      by (inr a) (inr b) c = absurd (differ (a ∙ e.1 ∙ sym b))
      by (inl a) (inr b) (inl c) = inl (c ∙ sym f.0 ∙ sym a)
      by (inl a) (inr b) (inr c) = inr (c ∙ sym f.1 ∙ e.1 ∙ sym b)
      by (inr a) (inl b) (inl c) = inr (c ∙ sym f.0 ∙ e.0 ∙ sym b)
      by (inr a) (inl b) (inr c) = inl (c ∙ sym f.1 ∙ sym a)

  pub removable : IsRemovable net p
  removable = record {
    straight = goes_on;
    two = λ q r x some_q some_r some_x differ.
        let s = chord q some_q in
        let t = chord r some_r in
        let u = chord x some_x in
        ends q r x s t u differ (one q r s t) (one q x s u);
  }

there : (c : Content) (limits : Limits) (p : Coords) → edit_refusal c limits (RemovePoint p) ≡ None → is_point (points_of c) p ≡ true
unfolding edit_refusal
there c limits p e = is_point-keys c.points p ∙ by (finmap.contains_key c.points p) _ e
  where
    by : (t : Bool) (rest : List (Option Refusal)) → first_of (when (not t) (Absent p) ∷ rest) ≡ None → t ≡ true
    by true rest e = refl
    by false rest e = cc

pub removable_law : RemovableLaw
unfolding after
removable_law c entries limits p slots planar lawful m =
    let edit = lawful_edit c entries limits (RemovePoint p) lawful in
    let less = planar-after c entries limits (RemovePoint p) planar lawful in
    removable (finmap.keys (finmap.remove c.points p)) (points_of c) (lines_of c) p (net_in slots) (removed-points c.points p) (there c limits p edit)
    (λ line i. still_on c.points p line (on_at c planar line i) (no_line_where (has_place p) c.table (point_parts c limits p edit).0 line i))
    (apart_at (after c (RemovePoint p)) less) m.over.counts
