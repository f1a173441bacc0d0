-- The facets are what three loops over the points find.
use Rattle.std.proofs.Common.{◌≡◌, refl, ap, ◌∙◌, List, [], ◌∷◌, ◌++◌, Bool, true, false, Some, None, cond}
use Rattle.std.specs.Prelude.{map, if◌then◌else◌}
use Rattle.std.specs.List.{cons_option, filter, flat_map, filter_map}
use Rattle.ground_model.specs.declared.facet.Facet.{Facet}
use Rattle.ground_model.specs.declared.piece.Piece.{Piece}
use Rattle.ground_model.specs.Place.{Coords}
use Rattle.ground_model.specs.Tri.{Triple, is_facet, is_facet_at, facet_with, facets}
use Rattle.ground_model.specs.Loops.{facet_at, facets_from, facets_by_loops}

map_both : {X Y : Type 0} (g : X → Y) (xs ys : List X) → map g (xs ++ ys) ≡ map g xs ++ map g ys
map_both g [] ys = refl
map_both g (x ∷ xs) ys = ap (λ k. g x ∷ k) (map_both g xs ys)

filter_both : {X : Type 0} (p : X → Bool) (xs ys : List X) → filter p (xs ++ ys) ≡ filter p xs ++ filter p ys
filter_both {X} p [] ys = refl
filter_both {X} p (x ∷ xs) ys = by_test (p x) (filter p xs) (filter p ys) (filter p (xs ++ ys)) (filter_both p xs ys)
  where
    by_test : (t : Bool) (us vs all : List X) → all ≡ us ++ vs → cond t (x ∷ all) all ≡ cond t (x ∷ us) us ++ vs
    by_test true us vs all e = ap (λ k. x ∷ k) e
    by_test false us vs all e = e

each_kept : {W X Y : Type 0} (g : X → Y) (p : X → Bool) (h : W → List X) (ws : List W) → map g (filter p (flat_map h ws)) ≡ flat_map (λ w. map g (filter p (h w))) ws
each_kept g p h [] = refl
each_kept g p h (w ∷ ws) = ap (map g) (filter_both p (h w) (flat_map h ws))
    ∙ map_both g (filter p (h w)) (filter p (flat_map h ws))
    ∙ ap (λ k. map g (filter p (h w)) ++ k) (each_kept g p h ws)

pub facets-loops : (points : List Coords) (ps : List Piece) → facets points ps ≡ facets_by_loops points ps
unfolding facets facets_by_loops
facets-loops points ps =
    each_kept (facet_with ps) (is_facet_at points ps) (λ a. flat_map (λ b. map (λ c. (a, (b, c))) points) points) points
    ∙ (λ i. flat_map (λ a. from a i) points)
  where
    one : (t : Bool) (x : Triple) (us : List Triple) (vs : List Facet) → map (facet_with ps) us ≡ vs → map (facet_with ps) (cond t (x ∷ us) us) ≡ cons_option (if t then Some (facet_with ps x) else None) vs
    one true x us vs e = ap (λ k. facet_with ps x ∷ k) e
    one false x us vs e = e

    on : (a b : Coords) (cs : List Coords) → map (facet_with ps) (filter (is_facet_at points ps) (map (λ c. (a, (b, c))) cs)) ≡ filter_map (facet_at points ps a b) cs
    on a b [] = refl
    on a b (c ∷ cs) = one (is_facet points ps a b c) (a, (b, c)) (filter (is_facet_at points ps) (map (λ c. (a, (b, c))) cs)) (filter_map (facet_at points ps a b) cs) (on a b cs)

    from : (a : Coords) → map (facet_with ps) (filter (is_facet_at points ps) (flat_map (λ b. map (λ c. (a, (b, c))) points) points)) ≡ facets_from points ps a
    from a = each_kept (facet_with ps) (is_facet_at points ps) (λ b. map (λ c. (a, (b, c))) points) points
        ∙ (λ i. flat_map (λ b. on a b points i) points)
