use Rattle.std.proofs.Common.{sym, ap, ◌∙◌, inl}
use Rattle.predicates.specs.Far.{is_far}
use Rattle.mesh.specs.Net.{side}
use Rattle.mesh.proofs.Straights.{place_inner}
use Rattle.point_edit.proofs.Looks.{standing_of, three_yes, three_no}
use Rattle.point_edit.proofs.star.has_three.Goals as goal

pub unreachable-requires : goal.unreachable-requires
unreachable-requires c =
    let x = standing_of c.args.mesh.now.slots c.args.point c.args.at.slot c.args.at.corner c.requires.corner in
    place_inner c.args.mesh.now.slots c.requires.sheet x.slot x.tri x.side x.there (inl (ap is_far x.is)) (c.in-None.ensures.rim x.tri x.there)

pub returns-clause-yes : goal.returns-clause-yes
returns-clause-yes c = λ e.
    let x = standing_of c.args.mesh.now.slots c.args.point c.args.at.slot c.args.at.corner c.requires.corner in
    let u = c.next_round-ahead.result in
    let v = c.in-Some.behind in
    three_yes c.args.mesh.now.slots c.requires.sheet.mesh x.slot x.side x.tri u.slot u.tri (side u.edge) v.slot v.tri (side v.edge) x.there (c.next_round-ahead.ensures.across x.tri x.there) (c.in-Some.ensures.across x.tri x.there)
    (sym c.seen_from-first.ensures.c ∙ c.is_same.ensures.yes e ∙ c.seen_from-last.ensures.c)

pub returns-clause-no : goal.returns-clause-no
returns-clause-no c = λ e three.
    let x = standing_of c.args.mesh.now.slots c.args.point c.args.at.slot c.args.at.corner c.requires.corner in
    let u = c.next_round-ahead.result in
    let v = c.in-Some.behind in
    c.is_same.ensures.no e
    (c.seen_from-first.ensures.c ∙ three_no c.args.mesh.now.slots x.slot x.side x.tri u.slot u.tri (side u.edge) v.slot v.tri (side v.edge) x.there (c.next_round-ahead.ensures.across x.tri x.there) (c.in-Some.ensures.across x.tri x.there) three ∙ sym c.seen_from-last.ensures.c)
