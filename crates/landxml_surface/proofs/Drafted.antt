-- The draft of the parts that were made.
use Rattle.std.proofs.Common.{◌≡◌, ℕ, List, ◌∙◌}
use Rattle.ground_num.specs.declared.head.LinearUnit.{LinearUnit}
use Rattle.landxml_read.specs.declared.raw.RawSurface.{RawSurface}
use Rattle.landxml_surface.specs.declared.document.Parts.{Parts}
use Rattle.landxml_surface.specs.declared.draft.Draft.{Draft}
use Rattle.landxml_surface.specs.declared.origin.OriginRule.{OriginRule}
use Rattle.landxml_surface.specs.Checked.{AreParts}
use Rattle.landxml_surface.specs.Drafts.{draft_of}

-- a draft of this name and unit, and of these parts
pub record Takes (unit : LinearUnit) (name : List ℕ) (parts : Parts) (d : Draft) : Type 0 where
  pub head : d.head ≡ record { name = name; unit = unit; origin = parts.origin }
  pub points : d.points ≡ parts.lists.points.items
  pub lines : d.lines ≡ parts.lists.lines.kept.items
  pub faces : d.faces ≡ parts.lists.faces.items
  pub doubles : d.doubles ≡ parts.doubles
  pub clashes : d.clashes ≡ parts.clashes
  pub short : d.short ≡ parts.lists.lines.short

pub drafted : (unit : LinearUnit) (rule : OriginRule) (s : RawSurface) (parts : Parts) (d : Draft) → AreParts rule s parts → Takes unit s.name parts d → d ≡ draft_of unit rule s
unfolding draft_of
drafted unit rule s parts d are takes =
    let head = takes.head ∙ (λ i. record { name = s.name; unit = unit; origin = are.origin i }) in
    let points = takes.points ∙ are.points in
    let lines = takes.lines ∙ are.lines in
    let faces = takes.faces ∙ are.faces in
    let doubles = takes.doubles ∙ are.doubles in
    let clashes = takes.clashes ∙ are.clashes in
    let short = takes.short ∙ are.short in
    λ i. record { head = head i; points = points i; lines = lines i; faces = faces i; doubles = doubles i; clashes = clashes i; short = short i }
