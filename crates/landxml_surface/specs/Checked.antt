-- What comes of one surface.
use Rattle.std.specs.Prelude.{◌≡◌, not, map, count_by, None, Some}
use Rattle.std.specs.List.{filter, filter_map}
use Rattle.landxml_read.specs.declared.raw.RawSurface.{RawSurface}
use Rattle.landxml_surface.specs.declared.document.Checked.{Checked}
use Rattle.landxml_surface.specs.declared.document.Checked.TheVariants.{Faulty, Sound}
use Rattle.landxml_surface.specs.declared.document.Parts.{Parts}
use Rattle.landxml_surface.specs.declared.origin.OriginRule.{OriginRule}
use Rattle.landxml_surface.specs.Drafts.{point_of, line_of, is_short, face_of}
use Rattle.landxml_surface.specs.Faults.{surface_faults, least_of}
use Rattle.landxml_surface.specs.Heights.{heights, marked, is_double, is_clash}
use Rattle.landxml_surface.specs.Origins.{origin_by}

-- the parts of a draft of a surface without a fault
pub record AreParts (rule : OriginRule) (s : RawSurface) (parts : Parts) : Type 0 where
  pub faultless : least_of (surface_faults rule s) ≡ None
  pub origin : parts.origin ≡ origin_by rule s.triples
  pub points : parts.lists.points.items ≡ map (point_of (origin_by rule s.triples)) (heights s.triples)
  pub lines : parts.lists.lines.kept.items ≡ filter (λ l. not (is_short l)) (map (line_of (origin_by rule s.triples) s) s.lines)
  pub faces : parts.lists.faces.items ≡ filter_map (face_of (origin_by rule s.triples) s) s.faces
  pub doubles : parts.doubles ≡ count_by is_double (marked s.triples)
  pub clashes : parts.clashes ≡ count_by is_clash (marked s.triples)
  pub short : parts.lists.lines.short ≡ count_by is_short (map (line_of (origin_by rule s.triples) s) s.lines)

-- the least fault, or the parts where there is none
abbrev pub IsChecked : OriginRule → RawSurface → Checked → Type 0
IsChecked rule s (Faulty fault) = least_of (surface_faults rule s) ≡ Some fault
IsChecked rule s (Sound parts) = AreParts rule s parts
