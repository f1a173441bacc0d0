-- What an edit makes, put into a newer sheet whose facets in the edit's zone have not changed.
use Rattle.std.specs.Prelude.{◌≡◌, true, not, List, ◌++◌}
use Rattle.std.specs.List.{All, list_all, filter}
use Rattle.ground_model.specs.declared.corner.Corner.{Corner}
use Rattle.ground_model.specs.declared.facet.Facet.{Facet}
use Rattle.ground_model.specs.Place.{IsPlace}
use Rattle.ground_model.specs.Mark.{is_among}
use Rattle.predicates.specs.Net.{Net, Triangle, has, count_of, facets_of, tri_of}
use Rattle.predicates.specs.Sheet.{IsSheet, IsLocallyDelaunay, are_over}
use Rattle.predicates.specs.Tiling.{IsSpanned}
use Rattle.cdt_law.specs.Patch.{is_in}
use Rattle.cdt_law.specs.Hull.{Encloses}
use Rattle.cdt_law.specs.Boundary.{gone, IsInner}

-- the net's triangles that are not in the list, whatever corner each begins with
abbrev pub without : Net → List Triangle → List Triangle
without net ts = filter (λ t. not (is_in ts t.a t.b t.c)) net.triangles

-- the newest net still has what an edit of the base destroys, and what is beside that
pub record IsUnchanged (base planned newest : Net) : Type 0 where
  pub destroyed : (a b c : Corner) → is_in (gone base planned) a b c ≡ true → has newest a b c ≡ true
  pub beside : (a b c d : Corner) → is_in (gone base planned) a b c ≡ true → has base b a d ≡ true → has newest b a d ≡ true

-- after has what the edit makes in place of what it destroys, over places, with each point as a corner, each piece as an edge, and each edge's count
pub record IsRenewed (base planned newest after : Net) : Type 0 where
  pub triangles : after.triangles ≡ gone planned base ++ without newest (gone base planned)
  pub made_counts : (a b c : Corner) → is_in (gone planned base) a b c ≡ true → count_of planned a b ≡ count_of after a b
  pub other_counts : (a b c : Corner) → is_in (without newest (gone base planned)) a b c ≡ true → count_of newest a b ≡ count_of after a b
  pub places : All IsPlace after.points
  pub over : list_all (are_over after.points) after.triangles ≡ true
  pub spanned : IsSpanned after

-- what an edit makes of the base fits into a newer sheet whose facets in the zone have not changed, where none of what it destroys or makes is on the hull
abbrev pub ZoneLaw : Type 0
ZoneLaw = (base planned newest after : Net) → IsSheet base → IsSheet planned → IsLocallyDelaunay planned → IsSheet newest → IsLocallyDelaunay newest
    → Encloses base planned → Encloses planned base → IsInner base planned → IsInner planned base → IsUnchanged base planned newest → IsRenewed base planned newest after
    → IsSheet after × (IsLocallyDelaunay after × ((f : Facet) → is_among (facets_of after) f ≡ is_among (tri_of after) f))
