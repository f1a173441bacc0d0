-- The plan of an edit, made at a base content, and what it makes of a newer content at which it stands.
use Rattle.std.specs.Prelude.{◌≡◌, true, false, Bool, not, ◌&&◌, ◌||◌, List, ◌++◌, length, None, nat_eq}
use Rattle.std.specs.List.{All, list_any}
use Rattle.std.specs.FinMap as map
use Rattle.ground_model.specs.declared.line.LineId.{LineId}
use Rattle.ground_model.specs.declared.limits.Limits.{Limits}
use Rattle.ground_model.specs.declared.edit.Edit.{Edit}
use Rattle.ground_model.specs.declared.edit.Edit.TheVariants.{RemoveLine}
use Rattle.ground_model.specs.declared.facet.Facet.{Facet}
use Rattle.ground_model.specs.Place.{Coords}
use Rattle.ground_model.specs.Content.{Content, after}
use Rattle.ground_model.specs.Tri.{tri}
use Rattle.ground_model.specs.Mark.{is_among, edges}
use Rattle.ground_model.specs.Zone.{zone, planned_facets, destroyed, made}
use Rattle.ground_model.specs.Planar.{IsPlanar}
use Rattle.ground_model.specs.Refusal.{edit_refusal}
use Rattle.ground_model.specs.Answer.{is_there}
use Rattle.predicates.specs.Net.{Net, Triangle, net_over}
use Rattle.predicates.specs.Sheet.{IsSheet, IsLocallyDelaunay}
use Rattle.cdt_law.specs.Laws.{has_edge}
use Rattle.cdt_law.specs.Boundary.{gone}
use Rattle.cdt_law.specs.Stale.{without}

-- whether one of the facets lies beyond the directed edge
abbrev pub is_met : List Facet → Coords × Coords → Bool
is_met fs x = list_any (λ f. has_edge f x.1 x.0) fs

-- whether the facet has an edge on the hull of these, beyond which none of them lies
abbrev pub is_on_hull : List Facet → Facet → Bool
is_on_hull fs f = list_any (λ x. not (is_met fs x)) (edges f)

-- whether the plan of the edit is a hull plan: its zone has no facet, since it destroys none, or one that it destroys or makes is on the hull
unfoldable pub is_hull_plan : Content → Edit → Bool
is_hull_plan c edit = nat_eq (length (planned_facets c edit)) 0 || list_any (is_on_hull (tri c)) (destroyed c edit) || list_any (is_on_hull (tri (after c edit))) (made c edit)

-- the triangles are a locally Delaunay sheet of the content
pub record IsMesh (c : Content) (triangles : List Triangle) : Type 0 where
  pub sheet : IsSheet (net_over c triangles)
  pub local : IsLocallyDelaunay (net_over c triangles)

-- an edit, the base with its mesh before and after the edit, and a newer content with its mesh
pub record Plan : Type 0 where
  pub edit : Edit
  pub base : Content
  pub before : List Triangle
  pub planned : List Triangle
  pub newest : Content
  pub now : List Triangle

-- the base, the base with the edit made, and the newest content, as nets
abbrev pub base_net : Plan → Net
base_net plan = net_over plan.base plan.before

abbrev pub planned_net : Plan → Net
planned_net plan = net_over (after plan.base plan.edit) plan.planned

abbrev pub newest_net : Plan → Net
newest_net plan = net_over plan.newest plan.now

-- the newest mesh with what the edit makes of the base in the place of what it destroys there
abbrev pub renewed : Plan → List Triangle
renewed plan = gone (planned_net plan) (base_net plan) ++ without (newest_net plan) (gone (base_net plan) (planned_net plan))

-- each of the three contents has its mesh
pub record HasMeshes (plan : Plan) : Type 0 where
  pub before : IsMesh plan.base plan.before
  pub planned : IsMesh (after plan.base plan.edit) plan.planned
  pub now : IsMesh plan.newest plan.now

-- the edit is lawful at the base and at the newest content, and a line that it takes is the same in both
pub record IsLawfulTwice (limits : Limits) (plan : Plan) : Type 0 where
  pub planar : IsPlanar plan.base
  pub planar_now : IsPlanar plan.newest
  pub lawful : edit_refusal plan.base limits plan.edit ≡ None
  pub lawful_now : edit_refusal plan.newest limits plan.edit ≡ None
  pub same_line : (id : LineId) → plan.edit ≡ RemoveLine id → map.get plan.newest.table.lines id.0 ≡ map.get plan.base.table.lines id.0

-- the plan is no hull plan, and each mark of its zone is there at the newest content
pub record Stands (plan : Plan) : Type 0 where
  pub inner : is_hull_plan plan.base plan.edit ≡ false
  pub there : All (λ m. is_there plan.newest m ≡ true) (zone plan.base plan.edit)

-- whether it is one of the newest facets that the edit does not destroy at the base, or one that it makes there
abbrev pub is_carried : Plan → Facet → Bool
is_carried plan f = is_among (tri plan.newest) f && not (is_among (destroyed plan.base plan.edit) f) || is_among (made plan.base plan.edit) f

-- the patched mesh is that of the newest content after the edit, whose facets so are the newest ones without those destroyed and with those made
pub record IsRight (plan : Plan) : Type 0 where
  pub mesh : IsMesh (after plan.newest plan.edit) (renewed plan)
  pub facets : (f : Facet) → is_among (tri (after plan.newest plan.edit)) f ≡ is_carried plan f

-- a plan that is no hull plan, and of which no planned facet or point is missing, is right
abbrev pub PlanLaw : Type 0
PlanLaw = (limits : Limits) (plan : Plan) → HasMeshes plan → IsLawfulTwice limits plan → Stands plan → IsRight plan
