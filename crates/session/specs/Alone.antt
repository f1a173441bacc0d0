-- Who has the store to itself: all entries that come to it are his.
use Rattle.std.proofs.Common.{ℕ, ◌++◌, List, [], sym, ap, ◌∙◌, append_assoc}
use Rattle.std.proofs.lemmas.List.{append-nil}
use Rattle.std.proofs.lemmas.List.Elements.{All-nil, All-append}
use Rattle.std.specs.List.{Contains}
use Rattle.ground_model.specs.declared.entry.Entry.{Entry}
use Rattle.turn_lock.specs.Journal.{extended, AddedBy}
use Rattle.turn_lock.specs.declared.journal.Journal.{Journal}

pub added_none : (numbers : List ℕ) (x : Journal) → AddedBy numbers x x
added_none numbers x = record {
  past = [];
  began = ap (λ es. record x { entries = es }) (sym (append-nil x.entries));
  named = All-nil (λ (e : Entry). Contains numbers e.author);
}

pub added_both : (numbers : List ℕ) (x y z : Journal) → AddedBy numbers x y → AddedBy numbers y z → AddedBy numbers x z
added_both numbers x y z p q = record {
  past = p.past ++ q.past;
  began = q.began ∙ ap (λ (j : Journal). extended j q.past) p.began ∙ ap (λ es. record x { entries = es }) (append_assoc x.entries p.past q.past);
  named = All-append (λ (e : Entry). Contains numbers e.author) p.past q.past p.named q.named;
}
