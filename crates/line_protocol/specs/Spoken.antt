-- What a line asks, in the coordinates of its document.
use Rattle.std.specs.Prelude.{ℕ, ℤ, List}
use Rattle.ground_model.specs.declared.line.LineKind.{LineKind}
use Rattle.ground_model.specs.Place.{Coords}

pub data SpokenEdit : Type 0 where
  AddPoint : Coords → ℤ → SpokenEdit
  RemovePoint : Coords → SpokenEdit
  SetLevel : Coords → ℤ → SpokenEdit
  AddLine : LineKind → List Coords → SpokenEdit
  RemoveLine : ℕ → SpokenEdit

pub data Spoken : Type 0 where
  Sync : Spoken
  Plan : SpokenEdit → Spoken
  Commit : Spoken
  Apply : SpokenEdit → Spoken
  Level : Coords → Spoken
  Contour : ℤ → Spoken
  Volume : ℤ → Spoken
  Stat : Spoken
  Export : Spoken
  Quit : Spoken
