use Rattle.std.proofs.Common.{◌≡◌, ◌∙◌, ap, sym, arith, Err, Ok}
use Rattle.ground_num.specs.declared.read.NumFault.TheVariants.{NotNumber}
use Rattle.ground_num.proofs.Scan.{one_fault}
use Rattle.ground_num.proofs.Written.{reads_back, read_back, below_zero, from_zero}
use Rattle.ground_num.proofs.read.read_decimal.Goals as goal

pub returns-in-Some-clause-not_number : goal.returns-in-Some-clause-not_number
returns-in-Some-clause-not_number c at =
    let known = c.in-Some.ensures in (
      λ e. let same : c.in-Some.at ≡ at = cc in (λ d. let never = known.decimal.1 d in cc, rw same at known.fault),
      λ p. let same : c.in-Some.at ≡ at = one_fault c.args.text.now c.in-Some.at at known.fault p.1 in ap (λ k. Err (NotNumber k)) same,
    )

pub returns-in-Some-clause-read_back : goal.returns-in-Some-clause-read_back
returns-in-Some-clause-read_back c number within e =
    let r = reads_back number within in
    let never = c.in-Some.ensures.decimal.1 (read_back number, r.is, e ∙ r.text) in
    cc

pub returns-then-magnitude-clause-read_back : goal.returns-then-magnitude-clause-read_back
returns-then-magnitude-clause-read_back c number within e =
    let r = reads_back number within in
    let same = c.sign_and_magnitude-is_negative.ensures.magnitude (read_back number) r.is (e ∙ r.text) in
    absurd (omega arith)

pub returns-then-is_negative-clause-read_back : goal.returns-then-is_negative-clause-read_back
returns-then-is_negative-clause-read_back c number within e =
    let r = reads_back number within in
    let same = c.sign_and_magnitude-is_negative.ensures.magnitude (read_back number) r.is (e ∙ r.text) in
    let minus = c.sign_and_magnitude-is_negative.ensures.negative (read_back number) r.is (e ∙ r.text) in
    ap (λ z. Ok (record { 0 = z })) (below_zero number c.sign_and_magnitude-is_negative.result.1 (omega arith) (sym minus ∙ c.if-is_negative.true) (omega arith))

pub returns-else-is_negative-clause-read_back : goal.returns-else-is_negative-clause-read_back
returns-else-is_negative-clause-read_back c number within e =
    let r = reads_back number within in
    let same = c.sign_and_magnitude-is_negative.ensures.magnitude (read_back number) r.is (e ∙ r.text) in
    let minus = c.sign_and_magnitude-is_negative.ensures.negative (read_back number) r.is (e ∙ r.text) in
    ap (λ z. Ok (record { 0 = z })) (from_zero number c.sign_and_magnitude-is_negative.result.1 (omega arith) (sym minus ∙ c.if-is_negative.false) (omega arith))
