use Rattle.std.proofs.Common.{◌∙◌, ◌<◌, ◌+◌, ◌*◌, min, arith, sym, ap, length, take, get_or}
use Rattle.std.specs.Char.{digit_value}
use Rattle.std.specs.Str.Parse.{digits_value}
use Rattle.std.proofs.lemmas.Int.Digits.{digits_value_more}
use Rattle.landxml_read.proofs.Decodings.{capped_more}
use Rattle.landxml_read.proofs.reference.capped.Goals as goal

pub loop-digit-preserved : goal.loop-digit-preserved
loop-digit-preserved c =
    let within : c.loop-digit.digit-index < length c.args.digits.now = omega arith in
    let more = digits_value_more c.args.base c.args.digits.now c.loop-digit.digit-index within in
    let e = capped_more (digits_value c.args.base (take c.loop-digit.digit-index c.args.digits.now)) c.args.base (digit_value (get_or c.args.digits.now c.loop-digit.digit-index 0)) c.loop-digit.number c.requires.some c.loop-digit.invariant in
    c.min-number.ensures ∙ ap (λ d. min (c.loop-digit.number * c.args.base + d) 0x110000) c.value_of.ensures.value ∙ e ∙ ap (λ v. min v 0x110000) (sym more)
