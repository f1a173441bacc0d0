-- Zones.
use Rattle.std.proofs.Common.{◌≡◌, ◌≤◌, ap, refl, arith, List, [], ◌∷◌, length, Bool}
use Rattle.std.specs.Prelude.{ℤ, not, ◌||◌, map}
use Rattle.std.specs.List.{filter, list_any}
use Rattle.std.proofs.lemmas.List.Filters.{length-filter_both}
use Rattle.ground_model.specs.declared.edit.Edit.{Edit}
use Rattle.ground_model.specs.declared.edit.Edit.TheVariants.{AddPoint, RemovePoint, SetLevel, AddLine, RemoveLine}
use Rattle.ground_model.specs.declared.line.LineId.{LineId}
use Rattle.ground_model.specs.declared.line.LineKind.{LineKind}
use Rattle.ground_model.specs.declared.mark.Mark.TheVariants.{Point, Tri}
use Rattle.ground_model.specs.Place.{Coords}
use Rattle.ground_model.specs.Mark.{is_same_facet, share_edge}
use Rattle.ground_model.specs.Content.{Content, after}
use Rattle.ground_model.specs.Tri.{tri, is_facet_of}
use Rattle.ground_model.specs.Zone.{destroyed, shaken, zone}

pub shaken-is : (c now : Content) (edit : Edit) → now ≡ after c edit → filter (λ f. list_any (λ g. is_same_facet f g || share_edge f g) (filter (λ g. not (is_facet_of now g)) (tri c))) (tri c) ≡ shaken c edit
unfolding shaken destroyed
shaken-is c now edit made = ap (λ d. filter (λ f. list_any (λ g. is_same_facet f g || share_edge f g) (filter (λ g. not (is_facet_of d g)) (tri c))) (tri c)) made

pub filter-few : {X : Type 0} (p : X → Bool) (xs : List X) → length (filter p xs) ≤ length xs
filter-few p xs = omega (arith, length-filter_both p (λ x. not (p x)) (λ _. refl) xs)

-- the marks of each kind of edit
module _ (c : Content) where
  pub zone-set : (p : Coords) (z : ℤ) → Point p ∷ [] ≡ zone c (SetLevel p z)
  unfolding zone
  zone-set p z = refl

  pub zone-removed : (p : Coords) → Point p ∷ map Tri (shaken c (RemovePoint p)) ≡ zone c (RemovePoint p)
  unfolding zone
  zone-removed p = refl

  pub zone-added : (p : Coords) (z : ℤ) → map Tri (shaken c (AddPoint p z)) ≡ zone c (AddPoint p z)
  unfolding zone
  zone-added p z = refl

  pub zone-line : (kind : LineKind) (places : List Coords) → map Tri (shaken c (AddLine kind places)) ≡ zone c (AddLine kind places)
  unfolding zone
  zone-line kind places = refl

  pub zone-unline : (id : LineId) → map Tri (shaken c (RemoveLine id)) ≡ zone c (RemoveLine id)
  unfolding zone
  zone-unline id = refl
