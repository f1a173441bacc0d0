-- Whether a net has a triangle: by its test, at its index, and as the owner of its edges.
use Rattle.std.proofs.Common.{◌≡◌, ℕ, zero, suc, ◌⊎◌, inl, inr, refl, ap, subst, ◌∙◌, List, [], ◌∷◌, Bool, true}
use Rattle.std.specs.Prelude.{◌&&◌, ◌||◌, Some, slice_get}
use Rattle.std.specs.List.{list_any}
use Rattle.std.proofs.lemmas.Bool.{and_parts, or_cases, or_left, or_right, and_from}
use Rattle.ground_model.specs.declared.corner.Corner.{Corner}
use Rattle.ground_model.specs.Corner.{is_same_corner}
use Rattle.predicates.specs.Net.{Net, Triangle, has, is_triangle}
use Rattle.predicates.proofs.Edges.{corner-equal, corner-self}
use Rattle.predicates.proofs.Owners.{IsTurn, Still, Once, Twice, Owner}

-- ---- a triangle that the net has, at its index
pub record Found {X : Type 0} (test : X → Bool) (xs : List X) : Type 0 where
  pub index : ℕ
  pub item : X
  pub at : slice_get xs index ≡ Some item
  pub passes : test item ≡ true

pub any-found : {X : Type 0} (test : X → Bool) (xs : List X) → list_any test xs ≡ true → Found test xs
any-found test [] e = cc
any-found {X} test (x ∷ xs) e = by (or_cases (test x) (list_any test xs) e) (any-found test xs)
  where
    by : (test x ≡ true) ⊎ (list_any test xs ≡ true) → (list_any test xs ≡ true → Found test xs) → Found test (x ∷ xs)
    by (inl t) rest = record { index = zero; item = x; at = refl; passes = t }
    by (inr t) rest = let later = rest t in record { index = suc later.index; item = later.item; at = later.at; passes = later.passes }

three : (x x' y y' z z' : Corner) → (is_same_corner x x' && is_same_corner y y' && is_same_corner z z') ≡ true → (x ≡ x') × ((y ≡ y') × (z ≡ z'))
three x x' y y' z z' e =
    let outer = and_parts (is_same_corner x x' && is_same_corner y y') (is_same_corner z z') e in
    let inner = and_parts (is_same_corner x x') (is_same_corner y y') outer.0 in
    (corner-equal x x' inner.0, (corner-equal y y' inner.1, corner-equal z z' outer.1))

pub turn-moved : (t : Triangle) (x x' y y' z z' : Corner) → IsTurn t x y z → x ≡ x' → y ≡ y' → z ≡ z' → IsTurn t x' y' z'
turn-moved t x x' y y' z z' turn e f g =
    subst (λ (k : Corner). IsTurn t x' y' k) g (subst (λ (k : Corner). IsTurn t x' k z) f (subst (λ (k : Corner). IsTurn t k y z) e turn))

-- three corners that pass the test are the triangle's, in this turn
pub turn-of : (a b c : Corner) (t : Triangle) → is_triangle a b c t ≡ true → IsTurn t a b c
turn-of a b c t e =
    by (or_cases (is_same_corner t.a a && is_same_corner t.b b && is_same_corner t.c c || is_same_corner t.a b && is_same_corner t.b c && is_same_corner t.c a) (is_same_corner t.a c && is_same_corner t.b a && is_same_corner t.c b) e)
  where
    two : ((is_same_corner t.a a && is_same_corner t.b b && is_same_corner t.c c) ≡ true) ⊎ ((is_same_corner t.a b && is_same_corner t.b c && is_same_corner t.c a) ≡ true) → IsTurn t a b c
    two (inl e) = let same = three t.a a t.b b t.c c e in turn-moved t t.a a t.b b t.c c Still same.0 same.1.0 same.1.1
    two (inr e) = let same = three t.a b t.b c t.c a e in turn-moved t t.c a t.a b t.b c Twice same.1.1 same.0 same.1.0

    by : ((is_same_corner t.a a && is_same_corner t.b b && is_same_corner t.c c || is_same_corner t.a b && is_same_corner t.b c && is_same_corner t.c a) ≡ true) ⊎ ((is_same_corner t.a c && is_same_corner t.b a && is_same_corner t.c b) ≡ true) → IsTurn t a b c
    by (inl e) = two (or_cases (is_same_corner t.a a && is_same_corner t.b b && is_same_corner t.c c) (is_same_corner t.a b && is_same_corner t.b c && is_same_corner t.c a) e)
    by (inr e) = let same = three t.a c t.b a t.c b e in turn-moved t t.b a t.c b t.a c Once same.1.0 same.1.1 same.0

-- a triangle that the net has owns its edges
pub record HasOwner (net : Net) (a b c : Corner) : Type 0 where
  pub owner : Owner net.triangles a b
  pub third : owner.third ≡ c

pub has-owner : (net : Net) (a b c : Corner) → has net a b c ≡ true → HasOwner net a b c
has-owner net a b c e =
    let found = any-found (is_triangle a b c) net.triangles e in
    record { owner = record { index = found.index; triangle = found.item; third = c; at = found.at; turn = turn-of a b c found.item found.passes }; third = refl }

-- ---- an owner has its triangle
pub any-at : {X : Type 0} (f : X → Bool) (xs : List X) (k : ℕ) (x : X) → slice_get xs k ≡ Some x → f x ≡ true → list_any f xs ≡ true
any-at f [] k x at e = cc
any-at {X} f (y ∷ xs) zero x at e = let same : y ≡ x = cc in or_left (f y) (list_any f xs) (ap f same ∙ e)
any-at f (y ∷ xs) (suc k) x at e = or_right (f y) (list_any f xs) (any-at f xs k x at e)

three_same : (t : Triangle) → (is_same_corner t.a t.a && is_same_corner t.b t.b && is_same_corner t.c t.c) ≡ true
three_same t = and_from (is_same_corner t.a t.a && is_same_corner t.b t.b) (is_same_corner t.c t.c) (and_from (is_same_corner t.a t.a) (is_same_corner t.b t.b) (corner-self t.a) (corner-self t.b)) (corner-self t.c)

pub turn-has : (t : Triangle) (a b c : Corner) → IsTurn t a b c → is_triangle a b c t ≡ true
turn-has t a b c Still = or_left _ _ (or_left _ _ (three_same t))
turn-has t a b c Once = or_right _ _ (three_same t)
turn-has t a b c Twice = or_left _ _ (or_right _ _ (three_same t))

pub owner-has : (net : Net) (a b : Corner) (o : Owner net.triangles a b) → has net a b o.third ≡ true
owner-has net a b o = any-at (is_triangle a b o.third) net.triangles o.index o.triangle o.at (turn-has o.triangle a b o.third o.turn)
