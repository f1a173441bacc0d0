use Rattle.std.proofs.Common.{length, ap, sym, ◌∙◌}
use Rattle.std.proofs.lemmas.List.{take_rest}
use Rattle.ground_io.proofs.Reading.{left-moved, left-end}
use Rattle.ground_io.proofs.mem_source.MemSourceSource.read.Goals as goal

pub returns-clause-bytes : goal.returns-clause-bytes
returns-clause-bytes c =
    let at = c.self.inside.at in
    let n = c.copy_front-count.result in
    let all = take_rest c.deref.result.now at in
    let same = c.deref.ensures.value in
    let moved = rw same at (rw all at c.copy_front-count.ensures.bytes) in
    let count = rw same at (rw all at c.copy_front-count.ensures.count) in
    let left = ap (λ s. s.bytes) c.self.view_is in (
      sym left ∙ left-moved c.self.inside.bytes.items c.copy_front-count.new.into at n moved,
      λ none some. left-end c.self.inside.bytes.items at n (length c.args.into.now) count none c.requires,
    )
