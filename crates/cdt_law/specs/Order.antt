-- A net does not depend on the order of its triangles, nor on the corner with which each begins.
use Rattle.std.specs.Prelude.{◌≡◌, ◌≤◌}
use Rattle.ground_model.specs.declared.corner.Corner.{Corner}
use Rattle.predicates.specs.Net.{Net, Edge, edges_in, times_in, has}
use Rattle.predicates.specs.Sheet.{IsSheet, IsLocallyDelaunay}
use Rattle.cdt_law.specs.Laws.{AreOverOne}

-- two nets over the same points and pieces have the same triangles; the second has no edge twice
pub record AreAlike (net other : Net) : Type 0 where
  pub over : AreOverOne net other
  pub same : (a b c : Corner) → has net a b c ≡ has other a b c
  pub once : (x : Edge) → times_in (edges_in other) x ≤ 1

-- the second is a sheet where the first is, and locally Delaunay where the first is
abbrev pub OrderLaw : Type 0
OrderLaw = (net other : Net) → IsSheet net → AreAlike net other → IsSheet other × (IsLocallyDelaunay net → IsLocallyDelaunay other)
