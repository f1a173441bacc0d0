use Rattle.std.proofs.Common.{◌≡◌, take}
use Rattle.std.specs.List.{flat_map}
use Rattle.landxml_write.specs.Found.{last_of}
use Rattle.landxml_write.specs.Text.{face_text}
use Rattle.landxml_write.proofs.definition.put_faces.Given as goal

abbrev pub invariant-loop-index : goal.invariant-loop-index
invariant-loop-index g l =
    g.O.Output.Takes l.initial.out l.out (flat_map (face_text (g.E.Export.shown l.export)) (take l._index (g.E.Export.shown l.export).faces)) × (l.last ≡ last_of (g.E.Export.shown l.export).faces l._index)
