-- A facet is among those of a content exactly where its own test passes.
use Rattle.std.proofs.Common.{◌≡◌, refl, sym, ap, ◌∙◌, List, [], ◌∷◌, ◌++◌, Bool, true, false, Some, None, arith}
use Rattle.std.specs.Prelude.{◌&&◌, ◌||◌, Option, if◌then◌else◌, nat_eq}
use Rattle.std.specs.List.{list_any, cons_option, flat_map, filter_map}
use Rattle.std.proofs.lemmas.Bool.{and_parts, eqb-true, eq-eqb}
use Rattle.ground_model.specs.declared.facet.Facet.{Facet}
use Rattle.ground_model.specs.declared.piece.Piece.{Piece}
use Rattle.ground_model.specs.Place.{Coords, is_same}
use Rattle.ground_model.specs.Line.{is_point}
use Rattle.ground_model.specs.Mark.{is_same_facet, is_among}
use Rattle.ground_model.specs.Content.{Content, points_of, pieces}
use Rattle.ground_model.specs.Tri.{is_facet, count_at, facet_with, facets, tri, is_facet_over, is_facet_of}
use Rattle.ground_model.specs.Loops.{facet_at, facets_on, facets_from, facets_by_loops}
use Rattle.ground_model.proofs.Loops.{facets-loops}
use Rattle.ground_model.proofs.LinePieces.{is_same_itself}
use Rattle.ground_model.proofs.Ties.{same_of_is_same}

-- ---- whether some element passes, of lists made of others
or_false : (x : Bool) → (x || false) ≡ x
or_false true = refl
or_false false = refl

or_apart : (x y : Bool) → (x || y) ≡ ((x || false) || y)
or_apart true y = refl
or_apart false y = refl

or_assoc : (x y z : Bool) → (x || (y || z)) ≡ ((x || y) || z)
or_assoc true y z = refl
or_assoc false y z = refl

any-append : {X : Type 0} (p : X → Bool) (xs ys : List X) → list_any p (xs ++ ys) ≡ (list_any p xs || list_any p ys)
any-append p [] ys = refl
any-append p (x ∷ xs) ys = ap (λ k. p x || k) (any-append p xs ys) ∙ or_assoc (p x) (list_any p xs) (list_any p ys)

any-flat_map : {X Y : Type 0} (p : Y → Bool) (h : X → List Y) (xs : List X) → list_any p (flat_map h xs) ≡ list_any (λ x. list_any p (h x)) xs
any-flat_map p h [] = refl
any-flat_map p h (x ∷ xs) = any-append p (h x) (flat_map h xs) ∙ ap (λ k. list_any p (h x) || k) (any-flat_map p h xs)

any-cons : {Y : Type 0} (p : Y → Bool) (o : Option Y) (ys : List Y) → list_any p (cons_option o ys) ≡ (list_any p (cons_option o []) || list_any p ys)
any-cons p None ys = refl
any-cons p (Some y) ys = or_apart (p y) (list_any p ys)

any-filter_map : {X Y : Type 0} (p : Y → Bool) (h : X → Option Y) (xs : List X) → list_any p (filter_map h xs) ≡ list_any (λ x. list_any p (cons_option (h x) [])) xs
any-filter_map p h [] = refl
any-filter_map p h (x ∷ xs) = any-cons p (h x) (filter_map h xs) ∙ ap (λ k. list_any p (cons_option (h x) []) || k) (any-filter_map p h xs)

any-apart : {X : Type 0} (k : Bool) (g : X → Bool) (xs : List X) → list_any (λ x. k && g x) xs ≡ (k && list_any g xs)
any-apart true g xs = refl
any-apart false g [] = refl
any-apart false g (x ∷ xs) = any-apart false g xs

-- of the places only p itself can be p
picked : (p : Coords) (g : Coords → Bool) (xs : List Coords) → list_any (λ x. is_same p x && g x) xs ≡ (is_point xs p && g p)
picked p g [] = refl
picked p g (x ∷ xs) = ap (λ k. is_same p x && g x || k) (picked p g xs) ∙ either (is_same p x) (is_point xs p) (g x) (g p) (λ e. ap g (sym (same_of_is_same p x e)))
  where
    absorbed : (i y : Bool) → (y || i && y) ≡ y
    absorbed i true = refl
    absorbed true false = refl
    absorbed false false = refl

    either : (s i x y : Bool) → (s ≡ true → x ≡ y) → (s && x || i && y) ≡ ((s || i) && y)
    either false i x y h = refl
    either true i x y h = ap (λ k. k || i && y) (h refl) ∙ absorbed i y

-- ---- a facet and its test
pub same-facet : (f g : Facet) → is_same_facet f g ≡ true → f ≡ g
same-facet f g e =
    let e5 = and_parts (is_same f.a g.a && is_same f.b g.b && is_same f.c g.c && nat_eq f.ab g.ab && nat_eq f.bc g.bc) (nat_eq f.ca g.ca) e in
    let e4 = and_parts (is_same f.a g.a && is_same f.b g.b && is_same f.c g.c && nat_eq f.ab g.ab) (nat_eq f.bc g.bc) e5.0 in
    let e3 = and_parts (is_same f.a g.a && is_same f.b g.b && is_same f.c g.c) (nat_eq f.ab g.ab) e4.0 in
    let e2 = and_parts (is_same f.a g.a && is_same f.b g.b) (is_same f.c g.c) e3.0 in
    let e1 = and_parts (is_same f.a g.a) (is_same f.b g.b) e2.0 in
    let a = same_of_is_same f.a g.a e1.0 in
    let b = same_of_is_same f.b g.b e1.1 in
    let c = same_of_is_same f.c g.c e2.1 in
    let ab = eqb-true f.ab g.ab e3.1 in
    let bc = eqb-true f.bc g.bc e4.1 in
    let ca = eqb-true f.ca g.ca e5.1 in
    λ i. record { a = a i; b = b i; c = c i; ab = ab i; bc = bc i; ca = ca i }

pub facet-itself : (f : Facet) → is_same_facet f f ≡ true
facet-itself f = grind (arith, is_same_itself f.a, is_same_itself f.b, is_same_itself f.c, eq-eqb f.ab f.ab refl, eq-eqb f.bc f.bc refl, eq-eqb f.ca f.ca refl)

-- ---- the facets
regrouped : (x y z t u : Bool) → (x && (y && (z && (t && u)))) ≡ (x && y && z && t && u)
regrouped false y z t u = refl
regrouped true false z t u = refl
regrouped true true false t u = refl
regrouped true true true false u = refl
regrouped true true true true u = refl

six : (x y z t u v : Bool) → (x && y && z && t && u && v) ≡ (x && (y && (z && (t && u && v))))
six false y z t u v = refl
six true false z t u v = refl
six true true false t u v = refl
six true true true t u v = refl

none : (x y z : Bool) → false ≡ (x && (y && (z && false)))
none false y z = refl
none true false z = refl
none true true false = refl
none true true true = refl

pub is_among-facets : (points : List Coords) (ps : List Piece) (f : Facet) → is_among (facets points ps) f ≡ is_facet_over points ps f
unfolding is_among facets_by_loops
is_among-facets points ps f =
    ap (λ k. list_any test k) (facets-loops points ps)
    ∙ any-flat_map test (facets_from points ps) points
    ∙ (λ i. list_any (λ a. from a i) points)
    ∙ picked f.a (λ a. is_point points f.b && (is_point points f.c && rest a f.b f.c)) points
    ∙ regrouped (is_point points f.a) (is_point points f.b) (is_point points f.c) (is_facet points ps f.a f.b f.c) _
  where
    test : Facet → Bool
    test = is_same_facet f

    rest : Coords → Coords → Coords → Bool
    rest a b c = is_facet points ps a b c && (nat_eq f.ab (count_at ps a b) && nat_eq f.bc (count_at ps b c) && nat_eq f.ca (count_at ps c a))

    one : (t : Bool) (g : Facet) → list_any test (cons_option (if t then Some g else None) []) ≡ (is_same f.a g.a && (is_same f.b g.b && (is_same f.c g.c && (t && (nat_eq f.ab g.ab && nat_eq f.bc g.bc && nat_eq f.ca g.ca)))))
    one true g = or_false (is_same_facet f g) ∙ six (is_same f.a g.a) (is_same f.b g.b) (is_same f.c g.c) (nat_eq f.ab g.ab) (nat_eq f.bc g.bc) (nat_eq f.ca g.ca)
    one false g = none (is_same f.a g.a) (is_same f.b g.b) (is_same f.c g.c)

    at : (a b c : Coords) → list_any test (cons_option (facet_at points ps a b c) []) ≡ (is_same f.a a && (is_same f.b b && (is_same f.c c && rest a b c)))
    at a b c = one (is_facet points ps a b c) (facet_with ps (a, (b, c)))

    on : (a b : Coords) → list_any test (facets_on points ps a b) ≡ (is_same f.a a && (is_same f.b b && (is_point points f.c && rest a b f.c)))
    on a b = any-filter_map test (facet_at points ps a b) points
        ∙ (λ i. list_any (λ c. at a b c i) points)
        ∙ any-apart (is_same f.a a) (λ c. is_same f.b b && (is_same f.c c && rest a b c)) points
        ∙ ap (λ k. is_same f.a a && k) (any-apart (is_same f.b b) (λ c. is_same f.c c && rest a b c) points ∙ ap (λ k. is_same f.b b && k) (picked f.c (rest a b) points))

    from : (a : Coords) → list_any test (facets_from points ps a) ≡ (is_same f.a a && (is_point points f.b && (is_point points f.c && rest a f.b f.c)))
    from a = any-flat_map test (facets_on points ps a) points
        ∙ (λ i. list_any (λ b. on a b i) points)
        ∙ any-apart (is_same f.a a) (λ b. is_same f.b b && (is_point points f.c && rest a b f.c)) points
        ∙ ap (λ k. is_same f.a a && k) (picked f.b (λ b. is_point points f.c && rest a b f.c) points)

pub is_among-tri : (c : Content) (f : Facet) → is_among (tri c) f ≡ is_facet_of c f
unfolding is_facet_of
is_among-tri c f = is_among-facets (points_of c) (pieces c) f
