-- What is written of a surface is read back as the same surface.
use Rattle.std.specs.Prelude.{◌≡◌, List, [], ◌∷◌}
use Rattle.landxml_surface.specs.declared.draft.Draft.{Draft}
use Rattle.landxml_surface.specs.declared.origin.OriginRule.TheVariants.{Given}
use Rattle.landxml_write.specs.Exports.{Exported}
use Rattle.landxml_write.specs.Text.{document}
use Rattle.document_law.specs.Drafts.{AreDrafts, IsSameSurface}
use Rattle.document_law.specs.Surveyed.{IsSurveyed}

-- with its origin given, the written document is read as one draft alone, and this is the surface
pub record IsReadBack (e : Exported) : Type 0 where
  pub draft : Draft
  pub read : AreDrafts (document e) (Given e.head.origin) (draft ∷ [])
  pub only : (drafts : List Draft) → AreDrafts (document e) (Given e.head.origin) drafts → drafts ≡ draft ∷ []
  pub same : IsSameSurface draft e

abbrev pub DocumentLaw : Type 0
DocumentLaw = (e : Exported) → IsSurveyed e → IsReadBack e
