use Rattle.std.proofs.Common.{refl, sym, ◌∙◌}
use Rattle.std.specs.Prelude.{codes}
use Rattle.line_protocol.specs.declared.figure.Figure.TheVariants.{Start}
use Rattle.line_protocol.specs.declared.figure.Follower.TheVariants.{Easting}
use Rattle.line_protocol.specs.Grammar.{words_of, places}
use Rattle.line_protocol.proofs.Faults.{by_other_words}
use Rattle.line_protocol.proofs.Forms.{places_scanned, line_of_kinds}
use Rattle.line_protocol.proofs.Scans.{scan_of}
use Rattle.line_protocol.proofs.Tables.{no_rows, none_before, numbers_row}
use Rattle.line_protocol.proofs.fault.line_fault.Goals as goal

pub returns : goal.returns
returns c =
    let text = c.args.text.now in
    let island = numbers_row (codes "island") places _ refl (λ ws. refl) (scan_of Start Easting) places_scanned text _ _ _ (none_before _) (no_rows _ text) c.numbers_after.ensures in
    let void = numbers_row (codes "void") places _ refl (λ ws. refl) (scan_of Start Easting) places_scanned text _ _ _ c.max.ensures island c.numbers_after-2.ensures in
    let outer = numbers_row (codes "outer") places _ refl (λ ws. refl) (scan_of Start Easting) places_scanned text _ _ _ c.max-2.ensures void c.numbers_after-3.ensures in
    let break = numbers_row (codes "break") places _ refl (λ ws. refl) (scan_of Start Easting) places_scanned text _ _ _ c.max-3.ensures outer c.numbers_after-4.ensures in
    by_other_words text c.max-3.result (λ t h. line_of_kinds (words_of t) ∙ h) (λ t h. sym (line_of_kinds (words_of t)) ∙ h) break.fault
