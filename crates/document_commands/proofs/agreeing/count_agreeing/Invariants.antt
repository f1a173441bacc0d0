use Rattle.std.proofs.Common.{◌≡◌, ◌≤◌, take}
use Rattle.std.specs.Prelude.{count_by}
use Rattle.ground_model.specs.History.{content_of}
use Rattle.ground_model.specs.Tri.{tri}
use Rattle.document_commands.specs.Agreeing.{agrees}
use Rattle.document_commands.proofs.agreeing.count_agreeing.Given as goal

abbrev pub invariant-loop-face : goal.invariant-loop-face
invariant-loop-face l = record {
  counted : l.count ≡ count_by (agrees (tri (content_of l.version.journal.entries))) (take l.face-index l.faces);
  few : l.count ≤ l.face-index;
}
