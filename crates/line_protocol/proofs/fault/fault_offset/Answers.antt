use Rattle.std.proofs.Common.{refl, sym, ◌∙◌}
use Rattle.std.specs.Prelude.{codes, is_some, option_map}
use Rattle.line_protocol.specs.declared.figure.Figure.TheVariants.{Start}
use Rattle.line_protocol.specs.declared.figure.Follower.TheVariants.{OneNumber, Nothing}
use Rattle.line_protocol.specs.Spoken.{Sync, Plan, Commit, Apply, Level, Contour, Volume, Stat, Export, Quit}
use Rattle.line_protocol.specs.Grammar.{place, level, edit, request, spoken}
use Rattle.line_protocol.proofs.Forms.{place_scanned, level_scanned}
use Rattle.line_protocol.proofs.Numerals.{is_some_map}
use Rattle.line_protocol.proofs.Rows.{no_edit}
use Rattle.line_protocol.proofs.Scans.{scan_of}
use Rattle.line_protocol.proofs.Tables.{no_rows, none_before, bare_row, numbers_row, phrase_row}
use Rattle.line_protocol.proofs.fault.fault_offset.Goals as goal

pub returns : goal.returns
unfolding spoken request
returns c =
    let line = c.args.line.now in
    let quit = bare_row (codes "quit") Quit _ refl (λ ws. refl) line _ _ _ (none_before _) (no_rows _ line) c.word_fault.ensures in
    let export = bare_row (codes "export") Export _ refl (λ ws. refl) line _ _ _ c.max.ensures quit c.word_fault-2.ensures in
    let stat = bare_row (codes "stat") Stat _ refl (λ ws. refl) line _ _ _ c.max-2.ensures export c.word_fault-3.ensures in
    let volume = numbers_row (codes "volume") (λ ws. option_map Volume (level ws)) _ refl (λ ws. refl) (scan_of Start Nothing) (λ ws. level_scanned ws ∙ sym (is_some_map Volume (level ws))) line _ _ _ c.max-3.ensures stat c.numbers_after.ensures in
    let contour = numbers_row (codes "contour") (λ ws. option_map Contour (level ws)) _ refl (λ ws. refl) (scan_of Start Nothing) (λ ws. level_scanned ws ∙ sym (is_some_map Contour (level ws))) line _ _ _ c.max-4.ensures volume c.numbers_after-2.ensures in
    let query = numbers_row (codes "level") (λ ws. option_map Level (place ws)) _ refl (λ ws. refl) (scan_of Start OneNumber) (λ ws. place_scanned ws ∙ sym (is_some_map Level (place ws))) line _ _ _ c.max-5.ensures contour c.numbers_after-3.ensures in
    let apply = phrase_row (codes "do") (λ ws. option_map Apply (edit ws)) _ refl (λ ws. refl) (λ ws. is_some (edit ws)) (λ ws. is_some_map Apply (edit ws)) no_edit line _ _ _ c.max-6.ensures query c.edit_after.ensures in
    let commit = bare_row (codes "commit") Commit _ refl (λ ws. refl) line _ _ _ c.max-7.ensures apply c.word_fault-4.ensures in
    let plan = phrase_row (codes "plan") (λ ws. option_map Plan (edit ws)) _ refl (λ ws. refl) (λ ws. is_some (edit ws)) (λ ws. is_some_map Plan (edit ws)) no_edit line _ _ _ c.max-8.ensures commit c.edit_after-2.ensures in
    let sync = bare_row (codes "sync") Sync _ refl (λ ws. refl) line _ _ _ c.max-9.ensures plan c.word_fault-5.ensures in
    sync.fault
