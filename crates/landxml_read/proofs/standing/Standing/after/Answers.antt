use Rattle.std.proofs.Common.{◌∙◌, refl, sym, arith}
use Rattle.landxml_read.proofs.Depths.{next_depth}
use Rattle.landxml_read.proofs.Outlines.{utf8_shown, stray_shown, stands_on}
use Rattle.landxml_read.proofs.standing.Standing.after.Goals as goal

pub returns-in_default-clause-stands : goal.returns-in_default-clause-stands
returns-in_default-clause-stands c seen at more = rw c.from.ensures (utf8_shown seen c.args.self c.args.b more at (sym c.after.ensures ∙ c.in_default.is))

pub returns-in_default-after-clause-stands : goal.returns-in_default-after-clause-stands
returns-in_default-after-clause-stands c seen at more =
    stray_shown seen c.args.self c.args.b more c.in-Some.utf8 c.stray.result at (sym c.after.ensures ∙ c.in-Some.is) (sym c.after-2.ensures ∙ c.in_default-after.is) c.stray.ensures.at

pub invariant_of-result : goal.invariant_of-result
invariant_of-result c =
    let more = next_depth c.args.self.scan c.in-Some-after.scan c.args.b (sym c.after-2.ensures ∙ c.in-Some-after.is) in
    let known = c.args.self.shallow in
    record { shallow = omega arith }

pub returns-clause-stands : goal.returns-clause-stands
returns-clause-stands c seen at = stands_on seen c.args.self _ c.args.b at (sym c.after.ensures ∙ c.in-Some.is) (sym c.after-2.ensures ∙ c.in-Some-after.is) refl c.sequence_after-sequence.ensures
