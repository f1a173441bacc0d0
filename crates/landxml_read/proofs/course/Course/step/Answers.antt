use Rattle.std.proofs.Common.{◌∙◌, List, ℕ, [], ◌∷◌, sym, ap, subst, append_assoc}
use Rattle.landxml_read.specs.declared.act.Act.{Act}
use Rattle.landxml_read.specs.Tokens.{after, shown}
use Rattle.landxml_read.specs.Gather.{gather, CanGather}
use Rattle.landxml_read.specs.Verdict.{verdict_of}
use Rattle.landxml_read.specs.Course.{IsShown}
use Rattle.landxml_read.proofs.Readers.{outline_ends, tree_ends, taken_on}
use Rattle.landxml_read.proofs.Knowing.{words_fit, room, known_on}
use Rattle.landxml_read.proofs.Spelled.{can_gather}
use Rattle.landxml_read.proofs.course.Course.step.Goals as goal

pub returns-in-Err-clause-taken : goal.returns-in-Err-clause-taken
returns-in-Err-clause-taken c seen r more =
    let P : List ℕ → Type 0 = λ w. IsShown w c.in-Err.fault in
    subst P (sym (append_assoc seen (c.args.b ∷ []) more))
    (outline_ends seen c.args.self.now.standing c.args.self.now.tokens (c.args.b ∷ more) c.in-Err.fault r.read (c.in-Err.ensures.stands seen r.read.outline more))

pub returns-in-Some-clause-taken : goal.returns-in-Some-clause-taken
returns-in-Some-clause-taken c seen r more =
    let s = c.args.self.now.standing in
    let t = c.args.self.now.tokens in
    let v = ap (λ a. verdict_of a s.offset c.args.b t) (sym c.between-act.ensures) ∙ sym c.verdict.ensures ∙ c.in-Some.is in
    let P : List ℕ → Type 0 = λ w. IsShown w c.in-Some.fault in
    subst P (sym (append_assoc seen (c.args.b ∷ []) more)) (tree_ends seen s c.in-Ok.next t c.args.b more c.in-Some.fault r.read (c.in-Ok.ensures.stands seen r.read.outline) v)

pub take-requires : goal.take-requires
take-requires c =
    let s = c.args.self.now.standing in
    let t = c.args.self.now.tokens in
    let v = ap (λ a. verdict_of a s.offset c.args.b t) (sym c.between-act.ensures) ∙ sym c.verdict.ensures ∙ c.in_default.is in
    let P : Act → Type 0 = λ a. CanGather a c.args.b t in
    record { can = subst P (sym c.between-act.ensures) (can_gather s.utf8 c.in-Ok.next.utf8 s.scan c.in-Ok.next.scan s.offset c.args.b t c.in-Ok.ensures.utf8 c.in-Ok.ensures.scan c.requires.known.spelled v) }

pub returns-in-Ok-take-clause-taken : goal.returns-in-Ok-take-clause-taken
returns-in-Ok-take-clause-taken c seen r =
    let s = c.args.self.now.standing in
    let t = c.args.self.now.tokens in
    let g = c.args.self.now.gathered in
    let k = c.requires.known in
    let v = ap (λ a. verdict_of a s.offset c.args.b t) (sym c.between-act.ensures) ∙ sym c.verdict.ensures ∙ c.in_default.is in
    let e = c.in-Ok-take.ensures.tokens (words_fit s t g k c.requires.short) ∙ ap (λ a. after a s.offset c.args.b t) c.between-act.ensures in
    let f = c.in-Ok-take.ensures.gathered (room s t g k c.requires.short) ∙ ap (λ a. gather g (shown a s.offset c.args.b t)) c.between-act.ensures in
    taken_on seen c.args.self.now (record { standing = c.in-Ok.next; tokens = c.take.new.self.tokens; gathered = c.take.new.self.gathered }) c.args.b r (c.in-Ok.ensures.stands seen r.read.outline) v e f

pub returns-in-Ok-take-clause-known : goal.returns-in-Ok-take-clause-known
returns-in-Ok-take-clause-known c =
    let s = c.args.self.now.standing in
    let t = c.args.self.now.tokens in
    let g = c.args.self.now.gathered in
    let k = c.requires.known in
    let e = c.in-Ok-take.ensures.tokens (words_fit s t g k c.requires.short) ∙ ap (λ a. after a s.offset c.args.b t) c.between-act.ensures in
    let f = c.in-Ok-take.ensures.gathered (room s t g k c.requires.short) ∙ ap (λ a. gather g (shown a s.offset c.args.b t)) c.between-act.ensures in
    known_on s c.in-Ok.next t c.take.new.self.tokens g c.take.new.self.gathered c.args.b k c.requires.short c.in-Ok.ensures.utf8 c.in-Ok.ensures.scan c.in-Ok.ensures.offset e f
