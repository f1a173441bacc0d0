use Rattle.std.proofs.Common.{◌≡◌, ◌∷◌, [], sym, ap, ◌∙◌}
use Rattle.ground_model.specs.declared.entry.Entry.{Entry}
use Rattle.turn_lock.specs.declared.journal.Journal.{Journal}
use Rattle.turn_lock.specs.Journal.{extended}
use Rattle.turn_lock.specs.Seat.{Seat}
use Rattle.lock_tests.proofs.seats.make_entry.Goals as goal

pub leave-requires : goal.leave-requires
leave-requires g c =
    let book = c.take-turn.result.1 in
    let before : Journal = record { head = book.head; limits = book.limits; entries = book.entries.items } in
    let e : Entry = c.entry_of.result in
    let e' : Entry = c.entry_of-then-add.result in
    let same = c.if-add.ensures.same in
    let more = c.if-add.ensures.entries in
    let added : record { head = c.add.new.self.head; limits = c.add.new.self.limits; entries = c.add.new.self.entries.items } ≡ extended before (e ∷ []) = (λ i. record { head = same.0 i; limits = same.1 i; entries = more.0 i }) in
    let found = ap (λ (s : Seat). s.seen) c.take-turn.ensures.turn in
    let noted = ap (λ (s : Seat). s.seen) c.note.ensures.noted in
    added ∙ (ap (λ (x : Entry). extended before (x ∷ [])) (c.entry_of.ensures ∙ sym c.entry_of-then-add.ensures) ∙ sym (noted ∙ ap (λ (j : Journal). extended j (e' ∷ [])) found))
