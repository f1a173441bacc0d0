use Rattle.std.proofs.Common.{◌∙◌, Err, ap, sym}
use Rattle.landxml_read.proofs.Decimals.{cause_not, cause_big, value_is}
use Rattle.landxml_read.proofs.number.number_of.Goals as goal

pub unreachable-requires : goal.unreachable-requires
unreachable-requires c =
    let e = c.in-Err-NotNumber.is ∙ ap Err c.in-Err-NotNumber.field-0-is in
    let k = sym (cause_not c.args.word.now ((c.read_decimal.ensures.not_number c.in-Err-NotNumber.field-0-0).0 e).0) ∙ c.requires in
    cc

pub unreachable-requires-in-Err-TooBig : goal.unreachable-requires-in-Err-TooBig
unreachable-requires-in-Err-TooBig c =
    let e = c.in-Err-TooBig.is ∙ ap Err c.in-Err-TooBig.field-0-is in
    let k = sym (cause_big c.args.word.now (c.read_decimal.ensures.too_big.0 e)) ∙ c.requires in
    cc

pub returns : goal.returns
returns c = value_is c.in-Ok.number.0 c.args.word.now c.in-Ok.ensures.number
