use Rattle.std.proofs.Common.{◌≡◌, ◌∙◌, sym, false, rules}
use Rattle.ground_model.specs.History.{content_of}
use Rattle.ground_model.specs.Place.{is_before}
use Rattle.document_commands.proofs.Corners.{out_of_order}
use Rattle.document_commands.proofs.agreeing.has_facet.Goals as goal
use Rattle.document_commands.proofs.agreeing.has_facet.Goals.{else-lt-via-then-lt+else-lt-2, else-lt-via-else-lt}

pub returns-else-lt : goal.returns-else-lt
returns-else-lt c =
    let content = content_of c.args.version.now.journal.entries in
    elim c.else-lt.branch [ else-lt-via-then-lt+else-lt-2 w ↦ sym (out_of_order content c.args.a c.args.b c.args.c (λ second third. let later : is_before c.args.a c.args.c ≡ false = search (rules, sym w.if-lt-2.ensures) in let both = sym third ∙ later in cc)) | else-lt-via-else-lt w ↦ sym (out_of_order content c.args.a c.args.b c.args.c (λ second third. let later : is_before c.args.a c.args.b ≡ false = search (rules, sym w.if-lt.ensures) in let both = sym second ∙ later in cc)) ]
