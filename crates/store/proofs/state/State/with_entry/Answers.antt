use Rattle.std.proofs.Common.{◌≡◌, ◌+◌, ◌++◌, ◌∷◌, [], None, refl, ap, sym, ◌∙◌}
use Rattle.ground_model.specs.Answer.{next_entry}
use Rattle.ground_model.specs.History.{entries_of}
use Rattle.turn_lock.specs.declared.journal.Journal.{Journal}
use Rattle.store.specs.Births.{AreCounts}
use Rattle.store.specs.Versions.{newest_refusal, with_next, IsMadeBy}
use Rattle.store.proofs.Sound.{version-more, room-left}
use Rattle.store.proofs.state.State.with_entry.Goals as goal

pub invariant_of-result : goal.invariant_of-result
invariant_of-result g c =
    let j : Journal = record { head = c.self.inside.head; limits = c.self.inside.limits; entries = c.self.inside.log } in
    let lawful : newest_refusal j c.args.edit ≡ None = rw (← c.self.view_is) at c.requires.lawful in
    let made : IsMadeBy j c.args.edit c.args.made = rw (← c.self.view_is) at c.requires.made in
    let number : c.entries-number.result + 1 ≡ entries_of c.args.author j.entries + 1 = ap (λ n. n + 1) (c.entries-number.ensures j.entries c.self.invariant.numbers) in
    let entry : c.in_ok-new.field-0 ≡ next_entry c.args.author j.entries c.args.edit = c.in_ok-new.ensures ∙ (λ i. record { author = c.args.author; number = number i; edit = c.args.edit }) in
    let counts : AreCounts (j.entries ++ next_entry c.args.author j.entries c.args.edit ∷ []) c.in_ok-with_entry.field-0.counts.entries =
    c.in_ok-with_entry.ensures j.entries (next_entry c.args.author j.entries c.args.edit) c.self.invariant.numbers refl (sym number) number in
    let now = version-more j c.self.inside.authors.counts.entries c.in_ok-with_entry.field-0.counts.entries c.self.inside.made c.args.made c.args.author c.args.edit c.self.invariant lawful (room-left j c.args.edit lawful) made counts in
    let log = c.log-2.view_is ∙ c.in_ok-push.ensures.ok ∙ (λ i. c.in_ok-log.ensures.same i ++ entry i ∷ []) in
    rw (c.in_ok-clone.ensures.cases, log) now

pub returns-clause-state : goal.returns-clause-state
returns-clause-state g c =
    let j : Journal = record { head = c.self.inside.head; limits = c.self.inside.limits; entries = c.self.inside.log } in
    let number : c.entries-number.result + 1 ≡ entries_of c.args.author j.entries + 1 = ap (λ n. n + 1) (c.entries-number.ensures j.entries c.self.invariant.numbers) in
    let entry : c.in_ok-new.field-0 ≡ next_entry c.args.author j.entries c.args.edit = c.in_ok-new.ensures ∙ (λ i. record { author = c.args.author; number = number i; edit = c.args.edit }) in
    let log = c.log-2.view_is ∙ c.in_ok-push.ensures.ok ∙ (λ i. c.in_ok-log.ensures.same i ++ entry i ∷ []) in
    (λ i. record { head = c.in_ok-clone.ensures.cases i; limits = c.self.inside.limits; entries = log i }) ∙ ap (λ s. with_next c.args.author s.journal c.args.edit) c.self.view_is
