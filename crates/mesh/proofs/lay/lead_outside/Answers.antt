use Rattle.std.proofs.Common.{◌∙◌, sym, ap, inl}
use Rattle.mesh.specs.Net.{side, next_at}
use Rattle.mesh.proofs.NamedEdges.{same_in}
use Rattle.mesh.proofs.lay.lead_outside.Goals as goal

pub returns-in-Some : goal.returns-in-Some
returns-in-Some c =
    let is = c.in-Some.ensures.is in
    let k = side c.in-Some.x.edge in
    inl record {
      index = c.in-Some.x.index;
      side = k;
      is = is;
      next_is = c.seen_from-seen.ensures.beyond_ab ∙ ap (λ t. next_at t k) (same_in c.tri_at-t.result is.tri (sym c.tri_at-t.ensures ∙ is.there));
    }
