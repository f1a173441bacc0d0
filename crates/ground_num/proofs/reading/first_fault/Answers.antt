use Rattle.std.proofs.Common.{arith, ◌∙◌, ◌≡◌, sym, length, ap, take, Some, refl}
use Rattle.ground_num.proofs.Scan.{fault_at, no_decimal, ends_well, ends_early, fault_at_end, run_step, run}
use Rattle.ground_num.specs.declared.reading.Reading.TheVariants.{Start}
use Rattle.ground_num.proofs.reading.first_fault.Goals as goal

pub loop-k-preserved : goal.loop-k-preserved
loop-k-preserved c = run_step c.args.text.now c.loop-k.k c.loop-k.state c.in-Some.next c.loop-k.invariant (omega arith) (sym c.after.ensures ∙ c.in-Some.is)

pub returns-in-None-clause-decimal : goal.returns-in-None-clause-decimal
returns-in-None-clause-decimal c =
    (λ is. cc, λ d. absurd (no_decimal c.args.text.now c.loop-k.k c.loop-k.state c.loop-k.invariant (omega arith) (sym c.after.ensures ∙ c.in-None.is) d))

pub returns-in-None-clause-fault : goal.returns-in-None-clause-fault
returns-in-None-clause-fault c = fault_at c.args.text.now c.loop-k.k c.loop-k.state c.loop-k.invariant (omega arith) (sym c.after.ensures ∙ c.in-None.is)

pub returns-then-is_end-clause-decimal : goal.returns-then-is_end-clause-decimal
returns-then-is_end-clause-decimal c =
    let e : c.loop-k.k ≡ length c.args.text.now = omega arith in
    let all : run (Some Start) (take (length c.args.text.now) c.args.text.now) ≡ Some c.loop-k.state = ap (λ i. run (Some Start) (take i c.args.text.now)) (sym e) ∙ c.loop-k.invariant in
    (λ _. ends_well c.args.text.now c.loop-k.state all (sym c.is_end.ensures ∙ c.if-is_end.true), λ _. refl)

pub returns-else-is_end-clause-decimal : goal.returns-else-is_end-clause-decimal
returns-else-is_end-clause-decimal c =
    let e : c.loop-k.k ≡ length c.args.text.now = omega arith in
    let all : run (Some Start) (take (length c.args.text.now) c.args.text.now) ≡ Some c.loop-k.state = ap (λ i. run (Some Start) (take i c.args.text.now)) (sym e) ∙ c.loop-k.invariant in
    (λ is. cc, λ d. absurd (ends_early c.args.text.now c.loop-k.state all (sym c.is_end.ensures ∙ c.if-is_end.false) d))

pub returns-else-is_end-clause-fault : goal.returns-else-is_end-clause-fault
returns-else-is_end-clause-fault c =
    let e : c.loop-k.k ≡ length c.args.text.now = omega arith in
    fault_at_end c.args.text.now c.loop-k.state (ap (λ i. run (Some Start) (take i c.args.text.now)) (sym e) ∙ c.loop-k.invariant)
