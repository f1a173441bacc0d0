use Rattle.std.proofs.Common.{refl, sym, ◌∙◌}
use Rattle.std.specs.Prelude.{codes, is_some, option_map}
use Rattle.line_protocol.specs.declared.figure.Figure.TheVariants.{Start, IdStart}
use Rattle.line_protocol.specs.declared.figure.Follower.TheVariants.{TwoNumbers, OneNumber, Nothing}
use Rattle.line_protocol.specs.Spoken.{AddPoint, RemovePoint, SetLevel, RemoveLine}
use Rattle.line_protocol.specs.Grammar.{place, spot, id, line_edit, edit}
use Rattle.line_protocol.proofs.Forms.{spot_scanned, place_scanned, id_word_scanned}
use Rattle.line_protocol.proofs.Numerals.{is_some_map}
use Rattle.line_protocol.proofs.Rows.{no_line}
use Rattle.line_protocol.proofs.Scans.{scan_of}
use Rattle.line_protocol.proofs.Tables.{no_rows, none_before, numbers_row, phrase_row}
use Rattle.line_protocol.proofs.fault.edit_fault.Goals as goal

pub returns : goal.returns
unfolding edit
returns c =
    let text = c.args.text.now in
    let unline = numbers_row (codes "unline") (λ ws. option_map RemoveLine (id ws)) _ refl (λ ws. refl) (scan_of IdStart Nothing) (λ ws. id_word_scanned ws ∙ sym (is_some_map RemoveLine (id ws))) text _ _ _ (none_before _) (no_rows _ text) c.numbers_after.ensures in
    let line = phrase_row (codes "line") line_edit _ refl (λ ws. refl) (λ ws. is_some (line_edit ws)) (λ ws. refl) no_line text _ _ _ c.max.ensures unline c.line_after.ensures in
    let set = numbers_row (codes "set") (λ ws. option_map (λ s. SetLevel s.0 s.1) (spot ws)) _ refl (λ ws. refl) (scan_of Start TwoNumbers) (λ ws. spot_scanned ws ∙ sym (is_some_map (λ s. SetLevel s.0 s.1) (spot ws))) text _ _ _ c.max-2.ensures line c.numbers_after-2.ensures in
    let remove = numbers_row (codes "remove") (λ ws. option_map RemovePoint (place ws)) _ refl (λ ws. refl) (scan_of Start OneNumber) (λ ws. place_scanned ws ∙ sym (is_some_map RemovePoint (place ws))) text _ _ _ c.max-3.ensures set c.numbers_after-3.ensures in
    let add = numbers_row (codes "add") (λ ws. option_map (λ s. AddPoint s.0 s.1) (spot ws)) _ refl (λ ws. refl) (scan_of Start TwoNumbers) (λ ws. spot_scanned ws ∙ sym (is_some_map (λ s. AddPoint s.0 s.1) (spot ws))) text _ _ _ c.max-4.ensures remove c.numbers_after-4.ensures in
    add.fault
