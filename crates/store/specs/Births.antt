-- When the marks of a surface were born, as a version keeps it.
use Rattle.std.specs.Prelude.{◌≡◌, ℕ, ◌+◌, List, length, map, slice_get, Option, None, Some, option_map, option_and_then, unwrap_or, if◌then◌else◌}
use Rattle.std.specs.BTreeMap.{is_at}
use Rattle.std.specs.List.{position}
use Rattle.std.specs.Map.{lookup}
use Rattle.std.specs.Ordering.{nat_cmp}
use Rattle.ground_model.specs.declared.edit.Edit.{Edit}
use Rattle.ground_model.specs.declared.entry.Entry.{Entry}
use Rattle.ground_model.specs.declared.facet.Facet.{Facet}
use Rattle.ground_model.specs.declared.mark.Mark.{Mark}
use Rattle.ground_model.specs.declared.mark.Mark.TheVariants.{Point, Tri}
use Rattle.ground_model.specs.Place.{Coords, place_cmp}
use Rattle.ground_model.specs.Mark.{is_same_facet}
use Rattle.ground_model.specs.Content.{Content, after, level_of}
use Rattle.ground_model.specs.Tri.{tri}
use Rattle.ground_model.specs.History.{content_of, entries_of, is_made, born}
use Rattle.ground_model.specs.Answer.{is_there}
use Rattle.store.specs.declared.births.Births.{Births}

-- the births at a front, where the edit of its entry is made on a content whose marks were born so
abbrev pub renewed : Content → Edit → ℕ → (Mark → ℕ) → Mark → ℕ
renewed c edit front birth m = if is_made c (after c edit) m then front else birth m

-- the births of the points then
abbrev pub renewed_point : Content → Edit → ℕ → (Mark → ℕ) → Coords → Option ℕ
renewed_point c edit front birth p = option_map (λ _. renewed c edit front birth (Point p)) (level_of (after c edit) p)

-- the births after a history and an edit
abbrev pub born_after : List Entry → Edit → Mark → ℕ
born_after h edit = renewed (content_of h) edit (length h + 1) (born h)

-- the kept birth of a point's level
abbrev pub point_birth : Births → Coords → Option ℕ
point_birth b p = lookup (is_at (place_cmp p)) b.points.entries

-- the kept birth of a facet, where these are the facets
abbrev pub facet_birth : List Facet → Births → Facet → Option ℕ
facet_birth fs b f = option_and_then (slice_get b.facets.items) (position (is_same_facet f) fs)

-- what is kept for a content whose marks were born so: a birth for each point, and for each facet in facet order
pub record AreBirths (c : Content) (birth : Mark → ℕ) (b : Births) : Type 0 where
  pub points : (p : Coords) → point_birth b p ≡ option_map (λ _. birth (Point p)) (level_of c p)
  pub facets : b.facets.items ≡ map (λ f. birth (Tri f)) (tri c)

-- the birth of a mark that is there
abbrev pub birth_of : Content → (Mark → ℕ) → Mark → Option ℕ
birth_of c birth m = if is_there c m then Some (birth m) else None

-- how many entries each author has, where one who is not named has none
abbrev pub AreCounts : List Entry → List (ℕ × ℕ) → Type 0
AreCounts h counts = (author : ℕ) → unwrap_or (lookup (is_at (nat_cmp author)) counts) 0 ≡ entries_of author h
