use Rattle.std.proofs.Common.{◌∙◌, sym}
use Rattle.ground_model.specs.History.{content_of}
use Rattle.document_commands.proofs.Corners.{next_found, none_next}
use Rattle.document_commands.proofs.agreeing.is_next.Goals as goal

pub returns-in-Some-face_after : goal.returns-in-Some-face_after
returns-in-Some-face_after c =
    let next = c.in-Some-face_after in
    c.is_at.ensures.value
    ∙ next_found (content_of c.args.version.now.journal.entries) c.args.a c.args.b c.args.c c.in-Some.before c.in-Some.ensures (next.found, next.field-0-1) c.is_at.ensures.place next.ensures

pub returns-in-None : goal.returns-in-None
returns-in-None c =
    sym (none_next (content_of c.args.version.now.journal.entries) c.args.a c.args.b c.args.c c.in-Some.before c.in-Some.ensures c.in-None.ensures)
