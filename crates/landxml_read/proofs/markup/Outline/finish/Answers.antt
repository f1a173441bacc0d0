use Rattle.std.proofs.Common.{List, ℕ, [], subst}
use Rattle.std.proofs.lemmas.List.{append-nil}
use Rattle.landxml_read.specs.Outline.{IsShownAt}
use Rattle.landxml_read.proofs.Outlines.{fault_of}
use Rattle.landxml_read.proofs.markup.Outline.finish.Goals as goal

pub returns-in-Some-clause-fault : goal.returns-in-Some-clause-fault
returns-in-Some-clause-fault c seen h =
    let r = fault_of seen c.args.self.standing c.in-Some.fault c.args.self.fault c.in-Some.is h [] in
    let P : List ℕ → Type 0 = λ w. IsShownAt r.0 w c.in-Some.fault in
    (r.0, subst P (append-nil seen) r.1)
