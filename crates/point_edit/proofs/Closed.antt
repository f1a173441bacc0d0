-- The step that takes a point out, once no edge at it can be flipped.
use Rattle.std.proofs.Common.{◌≡◌, ℕ, Some, List, sym, ap, ◌∙◌, inl, inr}
use Rattle.ground_model.specs.declared.corner.Corner.TheVariants.{At}
use Rattle.ground_model.specs.Place.{Coords}
use Rattle.tri_pages.specs.declared.tri_slot.TriSlot.{TriSlot}
use Rattle.tri_pages.specs.Slots.{State, triangle_at}
use Rattle.mesh.specs.Net.{Side, after, corner_at, side}
use Rattle.mesh.specs.Sheets.{IsSheetMesh, net_in}
use Rattle.mesh.specs.Steps.{UnsplitStep}
use Rattle.mesh.specs.Straights.{EdgeUnsplitStep, IsLineSide, IsStraightAt}
use Rattle.mesh.specs.Unsplits.{IsUnsplittable}
use Rattle.mesh.proofs.Corners.{thrice}
use Rattle.mesh.proofs.EdgeUnsplitContents.{edge_unsplit_law}
use Rattle.mesh.proofs.NamedEdges.{same_in}
use Rattle.mesh.proofs.Slots.{some_is}
use Rattle.mesh.proofs.UnsplitContents.{unsplit_law}
use Rattle.locate.specs.Facets.{IsCornerOf}
use Rattle.point_edit.specs.Removals.{AreThree, HasNoFlip, IsRemovable, IsTakenOut}
use Rattle.point_edit.proofs.LastStars.{last_three, last_four}
use Rattle.point_edit.proofs.Looks.{standing_of}

-- one corner of a slot is one place
pub one_place : (slots : List State) (s k : ℕ) (p q : Coords) → IsCornerOf slots s k p → IsCornerOf slots s k q → p ≡ q
one_place slots s k p q a b =
    let t = some_is (triangle_at slots s) a.live in
    place (sym (a.at t.tri t.is) ∙ b.at t.tri t.is)
  where
    place : (At p ≡ At q) → p ≡ q
    place e = cc

module _ (old : List State) (m : IsSheetMesh old) (p : Coords) (s k : ℕ) (c : IsCornerOf old s k p) (free : IsRemovable (net_in old) p) (none : HasNoFlip old p) where
  pub closes_three : AreThree old s (after (side k)) → IsUnsplittable old s (after (side k))
  closes_three three = last_three old m p (standing_of old p s k c) free none three

  pub closes_four : (AreThree old s (after (side k)) → ⊥) → (n : ℕ) (j : Side) → IsLineSide old s (side k) n j → IsStraightAt old n j
  closes_four other = last_four old m p (standing_of old p s k c) free none other

  -- the line's edge ends at the point
  line_end : (n : ℕ) (j : Side) → IsLineSide old s (side k) n j → (t : TriSlot) → triangle_at old n ≡ Some t → corner_at t (after j) ≡ At p
  line_end n j (inl h) t there =
      let here : triangle_at old s ≡ Some t = ap (triangle_at old) (sym h.1.0) ∙ there in
      ap (λ i. corner_at t (after i)) h.1.1 ∙ thrice t (side k) ∙ c.at t here
  line_end n j (inr h) t there =
      let y = h.1 in
      let same = same_in t y.beyond (sym there ∙ y.across.there) in
      ap (λ (z : TriSlot). corner_at z (after j)) same ∙ y.across.ends ∙ c.at y.tri y.here

  pub three_out : (new : List State) (before after_it : List ℕ) → IsSheetMesh new → AreThree old s (after (side k)) → UnsplitStep old new s (after (side k)) before after_it → IsTakenOut (net_in old) (net_in new) p
  three_out new before after_it m' three x = inl (unsplit_law old new s (after (side k)) x.f x.g p m m' (closes_three three) x.is (thrice x.is.tri (side k) ∙ c.at x.is.tri x.is.here))

  pub four_out : (new : List State) (before after_it : List ℕ) → IsSheetMesh new → (AreThree old s (after (side k)) → ⊥) → EdgeUnsplitStep old new s (side k) before after_it → IsTakenOut (net_in old) (net_in new) p
  four_out new before after_it m' other x =
      inr (corner_at x.is.tri x.side, corner_at x.is.below x.is.below_side, edge_unsplit_law old new x.slot x.side x.f x.n x.g p m m' (closes_four other x.slot x.side x.line) x.is (line_end x.slot x.side x.line x.is.tri x.is.here))
