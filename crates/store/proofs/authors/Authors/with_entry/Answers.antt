use Rattle.std.proofs.Common.{◌≡◌, ap, ◌∙◌, cond, Some}
use Rattle.std.specs.BTreeMap.{is_at}
use Rattle.std.specs.Map.{lookup}
use Rattle.std.specs.Ordering.{nat_cmp}
use Rattle.std.proofs.lemmas.Map.Entries.{entries_from_clone}
use Rattle.store.proofs.Counted.{counts-push}
use Rattle.store.proofs.authors.Authors.with_entry.Goals as goal

pub returns : goal.returns
returns c h x are by numbered is =
    let same : c.in_ok-counts.counts.entries ≡ c.args.self.now.counts.entries = entries_from_clone _ _ (λ x y h. h) (λ x y h. h) _ _ c.in_ok-counts.ensures.cases in
    counts-push h x c.args.self.now.counts.entries c.insert.new.self.entries c.args.author c.args.number are by is
    (λ a. c.in_ok-insert.ensures.updates.0 a ∙ ap (λ es. cond (is_at (nat_cmp c.args.author) a) (Some c.args.number) (lookup (is_at (nat_cmp a)) es)) same)
