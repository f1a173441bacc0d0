use Rattle.std.proofs.Common.{ap, sym, ◌∙◌, Some, None}
use Rattle.std.specs.Prelude.{not}
use Rattle.std.specs.FinMap as map
use Rattle.ground_model.specs.declared.refusal.Refusal.TheVariants.{NotPoint}
use Rattle.ground_model.specs.Refusal.{because}
use Rattle.ground_model.proofs.Planar.{places_on}
use Rattle.store.proofs.Causes.{placed}
use Rattle.store.proofs.surface.Surface.place_refusal.Goals as goal

pub returns-in-Some-clause-value : goal.returns-in-Some-clause-value
returns-in-Some-clause-value c = sym (ap (because NotPoint) (placed (λ p. not (map.contains_key c.args.self.now.points p)) _ _ (Some c.in-Some.place) c.in-Some.ensures (c.as_slice.ensures ∙ c.places.ensures)))

pub returns-in-None-clause-value : goal.returns-in-None-clause-value
returns-in-None-clause-value c = sym (ap (because NotPoint) (placed (λ p. not (map.contains_key c.args.self.now.points p)) _ _ None c.in-None.ensures (c.as_slice.ensures ∙ c.places.ensures)))

pub returns-in-None-clause-on_points : goal.returns-in-None-clause-on_points
returns-in-None-clause-on_points c = places_on c.args.self.now c.args.line.now (placed (λ p. not (map.contains_key c.args.self.now.points p)) _ _ None c.in-None.ensures (c.as_slice.ensures ∙ c.places.ensures))
