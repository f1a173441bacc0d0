-- What a surface is seen as: the content whose points and lines it has.
use Rattle.std.specs.Prelude.{◌≡◌, ◌<◌, ◌^◌, ℤ, List, length, T}
use Rattle.std.specs.FinMap as finmap
use Rattle.ground_model.specs.declared.facet.Facet.{Facet}
use Rattle.ground_model.specs.declared.slope.Slope.{Slope}
use Rattle.ground_model.specs.Place.{Coords, place_cmp}
use Rattle.ground_model.specs.Table.{Table}
use Rattle.ground_model.specs.Content.{Content}
use Rattle.ground_model.specs.Tri.{tri}
use Rattle.ground_model.specs.Slope.{relief}

-- the content of these points and lines
abbrev pub content_by : List (Coords × ℤ) → Table → Content
content_by points t = record { points = finmap.from_sorted points; table = t }

-- what is true of a surface: its points stand in order, its facets are those of its content, and its slopes the relief
pub record IsSurface (points : List (Coords × ℤ)) (t : Table) (facets : List Facet) (slopes : List Slope) : Type 0 where
  pub sorted : T (finmap.is_sorted place_cmp points)
  pub facets_are : facets ≡ tri (content_by points t)
  pub few : length facets < 2 ^ 30
  pub slopes_are : slopes ≡ relief (content_by points t)
