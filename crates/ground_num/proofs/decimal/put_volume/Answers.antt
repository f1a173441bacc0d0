use Rattle.std.proofs.Common.{arith, ◌≡◌, ◌∷◌, List, ℕ, ◌∙◌, ap, sym, pos, ◌<ℤ◌}
use Rattle.std.proofs.lemmas.Int.{ints, to_z-of_z}
use Rattle.std.specs.Int.RustNames.{unsigned_abs}
use Rattle.ground_num.specs.Decimal.{magnitude_text, volume_thousandths, volume_text}
use Rattle.ground_num.proofs.Minus.{take_after_minus, text_below_zero}
use Rattle.ground_num.proofs.decimal.put_volume.Goals as goal

pub returns-then-thousandths-lt0-clause-text : goal.returns-then-thousandths-lt0-clause-text
unfolding volume_text
returns-then-thousandths-lt0-clause-text c =
    let value : c.div_euclid-thousandths.result ≡ volume_thousandths c.args.sixths = grind (arith, to_z-of_z) in
    let below : volume_thousandths c.args.sixths <ℤ pos 0 = grind (arith, ints) in
    let magnitude : c.unsigned_abs-magnitude.result ≡ unsigned_abs (volume_thousandths c.args.sixths) = grind (arith, to_z-of_z) in
    take_after_minus c.args.into.now c.put_long_magnitude.new.into c.put_long_magnitude.result 47 (omega arith) (omega arith)
    ∙ ap (λ (t : List ℕ). 45 ∷ t) (c.put_long_magnitude.ensures.text ∙ ap magnitude_text magnitude)
    ∙ sym (text_below_zero (volume_thousandths c.args.sixths) below)
