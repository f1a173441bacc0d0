-- The line of a surface in a report.
use Rattle.std.specs.Prelude.{ℕ, List, [], ◌∷◌, ◌++◌, length, codes, count_by}
use Rattle.std.specs.List.{flat_map}
use Rattle.ground_num.specs.declared.head.LinearUnit.{LinearUnit}
use Rattle.ground_num.specs.declared.head.LinearUnit.TheVariants.{Meter, Foot, USSurveyFoot}
use Rattle.ground_num.specs.declared.head.Origin.{Origin}
use Rattle.ground_num.specs.Decimal.{thousandths_text}
use Rattle.ground_num.specs.Names.{escape}
use Rattle.ground_model.specs.declared.facet.Facet.{Facet}
use Rattle.landxml_surface.specs.declared.draft.Draft.{Draft}
use Rattle.line_protocol.specs.Replies.{spaced}
use Rattle.document_commands.specs.Agreeing.{agrees}

-- the surface's number, and how many points, lines and facets it has
unfoldable pub sizes_text : ℕ → ℕ → ℕ → ℕ → List ℕ
sizes_text number points lines facets = codes "surface" ++ spaced number ++ codes " points" ++ spaced points ++ codes " lines" ++ spaced lines ++ codes " facets" ++ spaced facets

-- how many faces the document has, and how many of them are facets
unfoldable pub faces_text : ℕ → ℕ → List ℕ
faces_text faces agreeing = codes " faces" ++ spaced faces ++ codes " agree" ++ spaced agreeing

-- how many triples repeat a point, how many have another level than their point, and how many lines are too short
unfoldable pub losses_text : ℕ → ℕ → ℕ → List ℕ
losses_text doubles clashes short = codes " doubles" ++ spaced doubles ++ codes " clashes" ++ spaced clashes ++ codes " short" ++ spaced short

-- the unit, as documents name it
abbrev pub unit_word : LinearUnit → List ℕ
unit_word Meter = codes "meter"
unit_word Foot = codes "foot"
unit_word USSurveyFoot = codes "USSurveyFoot"

unfoldable pub unit_text : LinearUnit → List ℕ
unit_text unit = codes " unit " ++ unit_word unit

-- the origin, and the word before the name
unfoldable pub origin_text : Origin → List ℕ
origin_text origin = codes " origin " ++ thousandths_text origin.n.0 ++ 32 ∷ thousandths_text origin.e.0 ++ codes " name "

-- what stands before the name
unfoldable pub counts_text : ℕ → Draft → List Facet → List ℕ
counts_text number d fs =
    sizes_text number (length d.points) (length d.lines) (length fs) ++ faces_text (length d.faces) (count_by (agrees fs) d.faces)
    ++ losses_text d.doubles d.clashes d.short ++ unit_text d.head.unit ++ origin_text d.head.origin

-- the line of a surface with this number, drafted so and loaded with these facets
unfoldable pub line_text : ℕ → Draft → List Facet → List ℕ
line_text number d fs = counts_text number d fs ++ flat_map escape d.head.name ++ 10 ∷ []
