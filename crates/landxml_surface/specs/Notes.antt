-- What the points of a surface are gathered in.
use Rattle.std.specs.Prelude.{◌≡◌, List, count_by}
use Rattle.indexmap.specs.IndexMap.{get}
use Rattle.landxml_read.specs.declared.raw.Triple.{Triple}
use Rattle.landxml_surface.specs.declared.heights.Heights.{Heights}
use Rattle.landxml_surface.specs.declared.spot.Spot.{Spot}
use Rattle.landxml_surface.specs.Heights.{is_same_spot, level_at, marked, is_double, is_clash, heights}

-- the first triples in order, each place's level, and how often a place came again
pub record AreHeights (ts : List Triple) (h : Heights) : Type 0 where
  pub entries : h.levels.entries ≡ heights ts
  pub levels : (p : Spot) → get is_same_spot h.levels p ≡ level_at ts p
  pub doubles : h.doubles ≡ count_by is_double (marked ts)
  pub clashes : h.clashes ≡ count_by is_clash (marked ts)
