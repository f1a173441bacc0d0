use Rattle.std.proofs.Common.{ap, sym, ◌∙◌}
use Rattle.store.specs.Births.{birth_of}
use Rattle.store.proofs.Born.{facet-birth}
use Rattle.store.proofs.births.Births.of.Goals as goal

pub returns-in-Tri : goal.returns-in-Tri
returns-in-Tri c birth are = c.facet.ensures ∙ facet-birth c.args.surface.now birth c.args.self.now are c.in-Tri.facet ∙ ap (birth_of c.args.surface.now birth) (sym c.in-Tri.is)
