use Rattle.std.proofs.Common.{◌∙◌, sym, subst}
use Rattle.std.specs.Prelude.{All}
use Rattle.ground_num.specs.declared.decimal.Thousandths.{Thousandths}
use Rattle.ground_num.specs.declared.head.Origin.{Origin}
use Rattle.ground_model.specs.Place.{IsPlace, IsLevel}
use Rattle.landxml_surface.specs.declared.spot.Spot.{Spot}
use Rattle.landxml_surface.specs.Heights.{heights}
use Rattle.landxml_surface.specs.Origins.{from_origin}
use Rattle.landxml_surface.specs.Placed.{IsPlaced}
use Rattle.landxml_surface.proofs.Sound.{sound-placed, sound-high, sound-named}
use Rattle.landxml_surface.proofs.document.check.Goals as goal

pub lists_of-requires-clause-placed : goal.lists_of-requires-clause-placed
lists_of-requires-clause-placed c =
    let gathered = c.in_ok-gathered.ensures in
    subst (λ (o : Origin). IsPlaced o c.args.surface.now) (sym gathered.origin) (sound-placed c.args.rule c.args.surface.now (sym gathered.least ∙ c.in_default.is))

pub lists_of-requires-clause-high : goal.lists_of-requires-clause-high
lists_of-requires-clause-high c =
    let gathered = c.in_ok-gathered.ensures in
    subst (λ (o : Origin). All (λ (h : Spot × Thousandths). IsPlace (from_origin o h.0) × IsLevel h.1.0) (heights c.args.surface.now.triples)) (sym gathered.origin)
    (sound-high c.args.rule c.args.surface.now (sym gathered.least ∙ c.in_default.is))

pub lists_of-requires-clause-named : goal.lists_of-requires-clause-named
lists_of-requires-clause-named c =
    let gathered = c.in_ok-gathered.ensures in
    sound-named c.args.rule c.args.surface.now (sym gathered.least ∙ c.in_default.is)
