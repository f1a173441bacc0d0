use Rattle.std.proofs.Common.{◌∙◌, Err, ap, sym}
use Rattle.landxml_read.proofs.Decimals.{cause_not, cause_big, cause_none}
use Rattle.landxml_read.proofs.number.cause_of_number.Goals as goal

pub returns-in-Ok : goal.returns-in-Ok
returns-in-Ok c =
    let n = c.in-Ok.ensures.number in
    sym (cause_none c.args.word.now (n.0, n.1, n.2) (λ big. let e = c.in-Ok.ensures.too_big.1 big in cc))

pub returns-in-Err-NotNumber : goal.returns-in-Err-NotNumber
returns-in-Err-NotNumber c =
    let e = c.in-Err-NotNumber.is ∙ ap Err c.in-Err-NotNumber.field-0-is in
    sym (cause_not c.args.word.now ((c.read_decimal.ensures.not_number c.in-Err-NotNumber.field-0-0).0 e).0)

pub returns-in-Err-TooBig : goal.returns-in-Err-TooBig
returns-in-Err-TooBig c =
    let e = c.in-Err-TooBig.is ∙ ap Err c.in-Err-TooBig.field-0-is in
    sym (cause_big c.args.word.now (c.read_decimal.ensures.too_big.0 e))
