use Rattle.std.proofs.Common.{sym, ap, ◌∙◌}
use Rattle.tri_pages.specs.declared.tri_slot.TriSlot.{TriSlot}
use Rattle.mesh.specs.Net.{after, corner_at, count_at, side}
use Rattle.mesh.proofs.NamedEdges.{same_in}
use Rattle.point_edit.proofs.Looks.{standing_of}
use Rattle.line_edit.proofs.spoke.next_spoke.Goals as goal

pub returns-clause-next : goal.returns-clause-next
returns-clause-next c = λ t there. (c.next_round-next.result.tri, c.next_round-next.ensures.across t there)

pub returns-clause-edge : goal.returns-clause-edge
returns-clause-edge c = λ t there.
    let x = standing_of c.args.mesh.now.slots c.args.point c.args.at.slot c.args.at.edge c.requires.corner in
    let u = c.next_round-next.result in
    let over = c.next_round-next.ensures.across x.tri x.there in
    let same = same_in t u.tri (sym there ∙ over.there) in
    (ap (λ (z : TriSlot). corner_at z (after (side u.edge))) same ∙ sym c.seen_from-seen.ensures.b, ap (λ (z : TriSlot). count_at z (side u.edge)) same ∙ sym c.seen_from-seen.ensures.ab)
