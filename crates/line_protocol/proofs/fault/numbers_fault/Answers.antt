use Rattle.std.proofs.Common.{◌≡◌, ◌+◌, ℕ, suc, List, length, drop, [], ◌∷◌, get_or, arith, ◌∙◌, sym, subst}
use Rattle.std.proofs.lemmas.List.{drop_all, drop_more}
use Rattle.ground_num.specs.FirstFault.{IsFirstFault}
use Rattle.line_protocol.specs.Scanning.{EndsNumbers}
use Rattle.line_protocol.proofs.Faults.{of_end}
use Rattle.line_protocol.proofs.Scans.{stray_byte, next_byte}
use Rattle.line_protocol.proofs.fault.numbers_fault.Goals as goal

pub returns-in-None : goal.returns-in-None
returns-in-None c =
    let left : drop c.loop-i.i c.args.text.now ≡ get_or c.args.text.now c.loop-i.i 0 ∷ drop (c.loop-i.i + 1) c.args.text.now = drop_more c.args.text.now c.loop-i.i 0 c.loop-i-test.true in
    let stray = stray_byte c.loop-i.scan (get_or c.args.text.now c.loop-i.i 0) (drop (c.loop-i.i + 1) c.args.text.now) (sym c.after.ensures ∙ c.in-None.is) in
    let P : List ℕ → Type 0 = λ t. IsFirstFault (EndsNumbers c.loop-i.scan) t 0 in
    let here : c.loop-i.i + 0 ≡ c.loop-i.i = omega arith in
    subst (IsFirstFault (EndsNumbers c.args.scan) c.args.text.now) here (c.loop-i.invariant 0 (subst P (sym left) stray))

pub loop-i-preserved : goal.loop-i-preserved
loop-i-preserved c k fault =
    let left : drop c.loop-i.i c.args.text.now ≡ get_or c.args.text.now c.loop-i.i 0 ∷ drop (c.loop-i.i + 1) c.args.text.now = drop_more c.args.text.now c.loop-i.i 0 c.loop-i-test.true in
    let next = next_byte c.loop-i.scan c.in-Some.next (get_or c.args.text.now c.loop-i.i 0) (drop (c.loop-i.i + 1) c.args.text.now) k (sym c.after.ensures ∙ c.in-Some.is) fault in
    let P : List ℕ → Type 0 = λ t. IsFirstFault (EndsNumbers c.loop-i.scan) t (suc k) in
    let one_on : c.loop-i.i + suc k ≡ c.loop-i.i + 1 + k = omega arith in
    subst (IsFirstFault (EndsNumbers c.args.scan) c.args.text.now) one_on (c.loop-i.invariant (suc k) (subst P (sym left) next))

pub returns : goal.returns
returns c =
    let left : drop c.loop-i.i c.args.text.now ≡ [] = drop_all c.loop-i.i c.args.text.now c.loop-i-test.false in
    let P : List ℕ → Type 0 = λ t. IsFirstFault (EndsNumbers c.loop-i.scan) t 0 in
    let all : c.loop-i.i + 0 ≡ length c.args.text.now = omega arith in
    subst (IsFirstFault (EndsNumbers c.args.scan) c.args.text.now) all (c.loop-i.invariant 0 (subst P (sym left) of_end))
