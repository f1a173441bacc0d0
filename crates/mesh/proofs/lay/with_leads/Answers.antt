use Rattle.std.proofs.Common.{refl, subst}
use Rattle.mesh.specs.Laying.{layout, IsLead}
use Rattle.mesh.proofs.TurnedSlots.{by_side}
use Rattle.mesh.proofs.lay.with_leads.Goals as goal

pub returns : goal.returns
returns c =
    let s = c.seen_from-seen.ensures in
    let lay = layout c.args.news.now c.args.slots.now c.args.was.now in
    record {
      corners = refl;
      counts = refl;
      stamp = refl;
      leads = by_side _
          (subst (λ x. x) (λ i. IsLead lay (s.a i) (s.b i) c.lead-ab.result) c.lead-ab.ensures)
          (subst (λ x. x) (λ i. IsLead lay (s.b i) (s.c i) c.lead-bc.result) c.lead-bc.ensures)
          (subst (λ x. x) (λ i. IsLead lay (s.c i) (s.a i) c.lead-ca.result) c.lead-ca.ensures);
    }
