-- A flip of an edge that is no piece, within a strictly convex quadrilateral, keeps a sheet.
use Rattle.std.proofs.Common.{◌≡◌, ℕ, ◌⊎◌, inl, inr, refl, sym, ap, subst, ◌∙◌, arith, List, Bool, true, false}
use Rattle.std.specs.Prelude.{ℤ, pos, ◌<ℤ◌, int_lt, not, ◌&&◌, ◌||◌, Some, slice_get, slice_set, nat_eq}
use Rattle.std.specs.List.{list_all, list_any}
use Rattle.std.proofs.lemmas.Int.{ints}
use Rattle.std.proofs.lemmas.Bool.{and_from, eqb-true, eqb-false}
use Rattle.ground_model.specs.declared.corner.Corner.{Corner}
use Rattle.ground_model.specs.declared.corner.Corner.TheVariants.{At}
use Rattle.ground_model.specs.Place.{Coords, is_same}
use Rattle.ground_model.specs.Line.{is_point}
use Rattle.ground_model.specs.Corner.{corner_at, corner_side}
use Rattle.ground_model.proofs.LinePieces.{is_same_itself}
use Rattle.ground_model.proofs.Circle.{side-turned}
use Rattle.predicates.specs.Net.{Net, Triangle, is_turned, covers, has_corner, count_of}
use Rattle.predicates.specs.Sheet.{IsSheet, is_over, are_over}
use Rattle.predicates.proofs.Signs.{positive-along}
use Rattle.predicates.proofs.Tiling.{each-passes}
use Rattle.predicates.proofs.Owners.{IsTurn, Still, Once, Twice, turn-next}
use Rattle.predicates.proofs.HasTriangles.{Found, any-found, any-at, turn-of}
use Rattle.predicates.proofs.Holding.{turn-held, turn-has_corner, must-corner, passes-each}
use Rattle.cdt_law.specs.Flips.{IsFlip, KeptLaw}
use Rattle.cdt_law.proofs.WalkSteps.{at-corner}
use Rattle.cdt_law.proofs.GoodInSheet.{over-first}
use Rattle.cdt_law.proofs.Exchanged.{get-set, get-set_other, set-item}
use Rattle.cdt_law.proofs.FlipQuad.{Quad, quad-swapped, first-only}
use Rattle.cdt_law.proofs.FlipEdges.{Exchange, exchanged, quad-of, exchange-once, exchange-matched, exchange-pieces}

-- ---- the triangles after
item-of : (net : Net) (a b c d : Corner) (x : Exchange net a b c d) (k : ℕ) (t : Triangle) → slice_get (exchanged net a b c d x).triangles k ≡ Some t → (t ≡ x.second) ⊎ ((t ≡ x.first) ⊎ (slice_get net.triangles k ≡ Some t))
item-of net a b c d x k t at = by (set-item (slice_set net.triangles x.left.index x.first) x.right.index k x.second t at)
  where
    by : (t ≡ x.second) ⊎ (slice_get (slice_set net.triangles x.left.index x.first) k ≡ Some t) → (t ≡ x.second) ⊎ ((t ≡ x.first) ⊎ (slice_get net.triangles k ≡ Some t))
    by (inl e) = inl e
    by (inr h) = inr (set-item net.triangles x.left.index k x.first t h)

first-at : (net : Net) (a b c d : Corner) (x : Exchange net a b c d) → slice_get (exchanged net a b c d x).triangles x.left.index ≡ Some x.first
first-at net a b c d x = get-set_other (slice_set net.triangles x.left.index x.first) x.right.index x.left.index x.second x.apart ∙ get-set net.triangles x.left.index x.left.triangle x.first x.left.at

second-at : (net : Net) (a b c d : Corner) (x : Exchange net a b c d) → slice_get (exchanged net a b c d x).triangles x.right.index ≡ Some x.second
second-at net a b c d x = get-set (slice_set net.triangles x.left.index x.first) x.right.index x.right.triangle x.second (get-set_other net.triangles x.left.index x.right.index x.first (λ e. x.apart (sym e)) ∙ x.right.at)

other-at : (net : Net) (a b c d : Corner) (x : Exchange net a b c d) (k : ℕ) (t : Triangle) → (k ≡ x.left.index → ⊥) → (k ≡ x.right.index → ⊥) → slice_get net.triangles k ≡ Some t → slice_get (exchanged net a b c d x).triangles k ≡ Some t
other-at net a b c d x k t not_left not_right at =
    get-set_other (slice_set net.triangles x.left.index x.first) x.right.index k x.second not_right ∙ get-set_other net.triangles x.left.index k x.first not_left ∙ at

-- ---- their corners
turn-over : (points : List Coords) (t : Triangle) (a b c : Corner) → IsTurn t a b c → is_over points a ≡ true → is_over points b ≡ true → is_over points c ≡ true → are_over points t ≡ true
turn-over points t a b c Still x y z = and_from (is_over points t.a && is_over points t.b) (is_over points t.c) (and_from (is_over points t.a) (is_over points t.b) x y) z
turn-over points t a b c Once x y z = and_from (is_over points t.a && is_over points t.b) (is_over points t.c) (and_from (is_over points t.a) (is_over points t.b) z x) y
turn-over points t a b c Twice x y z = and_from (is_over points t.a && is_over points t.b) (is_over points t.c) (and_from (is_over points t.a) (is_over points t.b) y z) x

turned-test : (s : ℤ) → pos 0 <ℤ s → int_lt (pos 0) s ≡ true
turned-test s h =
    let t : true ≡ int_lt (pos 0) s = omega (arith, ints, h) in
    sym t

turn-turned : (t : Triangle) (a b c : Corner) → IsTurn t a b c → pos 0 <ℤ corner_side a b c → is_turned t ≡ true
turn-turned t a b c Still h = turned-test (corner_side t.a t.b t.c) h
turn-turned t a b c Once h = turned-test (corner_side t.a t.b t.c) (positive-along (corner_side t.a t.b t.c) (corner_side t.b t.c t.a) (side-turned (corner_at t.a) (corner_at t.b) (corner_at t.c)) h)
turn-turned t a b c Twice h = turned-test (corner_side t.a t.b t.c) (positive-along (corner_side t.a t.b t.c) (corner_side t.c t.a t.b) (sym (side-turned (corner_at t.c) (corner_at t.a) (corner_at t.b))) h)

-- ---- each point a corner
exchange-reached : (net : Net) → IsSheet net → (a b c d : Corner) (x : Exchange net a b c d) (k : ℕ) (p : Coords) → slice_get net.points k ≡ Some p → list_any (λ t. has_corner t (At p)) (exchanged net a b c d x).triangles ≡ true
exchange-reached net sheet a b c d x k p at = by (any-found (λ t. has_corner t (At p)) net.triangles (each-passes (λ y. list_any (λ t. has_corner t (At y)) net.triangles) net.points sheet.reached k p at))
  where
    at_first : (At p ≡ a) ⊎ ((At p ≡ d) ⊎ (At p ≡ c)) → list_any (λ t. has_corner t (At p)) (exchanged net a b c d x).triangles ≡ true
    at_first h = any-at (λ t. has_corner t (At p)) (exchanged net a b c d x).triangles x.left.index x.first (first-at net a b c d x) (turn-has_corner x.first a d c (At p) x.first_turn h)

    at_second : (At p ≡ d) ⊎ ((At p ≡ b) ⊎ (At p ≡ c)) → list_any (λ t. has_corner t (At p)) (exchanged net a b c d x).triangles ≡ true
    at_second h = any-at (λ t. has_corner t (At p)) (exchanged net a b c d x).triangles x.right.index x.second (second-at net a b c d x) (turn-has_corner x.second d b c (At p) x.second_turn h)

    of_left : (a ≡ At p) ⊎ ((b ≡ At p) ⊎ (c ≡ At p)) → list_any (λ t. has_corner t (At p)) (exchanged net a b c d x).triangles ≡ true
    of_left (inl e) = at_first (inl (sym e))
    of_left (inr (inl e)) = at_second (inr (inl (sym e)))
    of_left (inr (inr e)) = at_first (inr (inr (sym e)))

    of_right : (b ≡ At p) ⊎ ((a ≡ At p) ⊎ (d ≡ At p)) → list_any (λ t. has_corner t (At p)) (exchanged net a b c d x).triangles ≡ true
    of_right (inl e) = at_second (inr (inl (sym e)))
    of_right (inr (inl e)) = at_first (inl (sym e))
    of_right (inr (inr e)) = at_first (inr (inl (sym e)))

    item : {j : ℕ} {t u : Triangle} (i : ℕ) → i ≡ j → slice_get net.triangles i ≡ Some t → slice_get net.triangles j ≡ Some u → t ≡ u
    item {j} {t} {u} i e f g =
        let same : Some t ≡ Some u = sym f ∙ ap (slice_get net.triangles) e ∙ g in
        cc

    by : Found (λ t. has_corner t (At p)) net.triangles → list_any (λ t. has_corner t (At p)) (exchanged net a b c d x).triangles ≡ true
    by f = tests (nat_eq f.index x.left.index) (nat_eq f.index x.right.index) refl refl
      where
        tests : (s u : Bool) → nat_eq f.index x.left.index ≡ s → nat_eq f.index x.right.index ≡ u → list_any (λ t. has_corner t (At p)) (exchanged net a b c d x).triangles ≡ true
        tests true u e g = of_left (at-corner x.left.triangle a b c (At p) x.left.turn (sym (ap (λ t. has_corner t (At p)) (item f.index (eqb-true f.index x.left.index e) f.at x.left.at)) ∙ f.passes))
        tests false true e g = of_right (at-corner x.right.triangle b a d (At p) x.right.turn (sym (ap (λ t. has_corner t (At p)) (item f.index (eqb-true f.index x.right.index g) f.at x.right.at)) ∙ f.passes))
        tests false false e g = any-at (λ t. has_corner t (At p)) (exchanged net a b c d x).triangles f.index f.item (other-at net a b c d x f.index f.item (eqb-false f.index x.left.index e) (eqb-false f.index x.right.index g) f.at) f.passes

-- ---- no point in a triangle but its corners
exchange-apart : (net : Net) → IsSheet net → (a b c d : Corner) (x : Exchange net a b c d) → Quad net a b c d → (k : ℕ) (t : Triangle) → slice_get (exchanged net a b c d x).triangles k ≡ Some t
    → (j : ℕ) (p : Coords) → slice_get net.points j ≡ Some p → (not (covers t p) || has_corner t (At p)) ≡ true
exchange-apart net sheet a b c d x q k t at j p at_p = by (item-of net a b c d x k t at)
  where
    point : is_point net.points p ≡ true
    point = any-at (is_same p) net.points j p at_p (is_same_itself p)

    first : (not (covers x.first p) || has_corner x.first (At p)) ≡ true
    first = must-corner x.first p (λ e.
        let h = turn-held x.first a d c p x.first_turn e in
        turn-has_corner x.first a d c (At p) x.first_turn (first-only net sheet a b c d q p point h.ab h.bc h.ca))

    second : (not (covers x.second p) || has_corner x.second (At p)) ≡ true
    second = must-corner x.second p (λ e.
        let h = turn-held x.second d b c p x.second_turn e in
        turn-has_corner x.second d b c (At p) x.second_turn (turned (first-only net sheet b a d c (quad-swapped net a b c d q) p point h.bc h.ca h.ab)))
      where
        turned : (At p ≡ b) ⊎ ((At p ≡ c) ⊎ (At p ≡ d)) → (At p ≡ d) ⊎ ((At p ≡ b) ⊎ (At p ≡ c))
        turned (inl e) = inr (inl e)
        turned (inr (inl e)) = inr (inr e)
        turned (inr (inr e)) = inl e

    by : (t ≡ x.second) ⊎ ((t ≡ x.first) ⊎ (slice_get net.triangles k ≡ Some t)) → (not (covers t p) || has_corner t (At p)) ≡ true
    by (inl e) = ap (λ (y : Triangle). not (covers y p) || has_corner y (At p)) e ∙ second
    by (inr (inl e)) = ap (λ (y : Triangle). not (covers y p) || has_corner y (At p)) e ∙ first
    by (inr (inr h)) = each-passes (λ y. not (covers t y) || has_corner t (At y)) net.points (each-passes (λ s. list_all (λ y. not (covers s y) || has_corner s (At y)) net.points) net.triangles sheet.apart k t h) j p at_p

-- ---- the whole sheet
exchange-sheet : (net : Net) → IsSheet net → (a b c d : Corner) (x : Exchange net a b c d) → Quad net a b c d → count_of net a b ≡ 0 → IsSheet (exchanged net a b c d x)
exchange-sheet net sheet a b c d x q free = record {
  places = sheet.places;
  over = passes-each (are_over net.points) (exchanged net a b c d x).triangles over;
  turned = passes-each is_turned (exchanged net a b c d x).triangles turned;
  once = exchange-once net sheet a b c d x q;
  matched = exchange-matched net sheet a b c d x;
  reached = passes-each (λ p. list_any (λ t. has_corner t (At p)) (exchanged net a b c d x).triangles) net.points (exchange-reached net sheet a b c d x);
  apart = passes-each (λ t. list_all (λ p. not (covers t p) || has_corner t (At p)) net.points) (exchanged net a b c d x).triangles
      (λ k t at. passes-each (λ p. not (covers t p) || has_corner t (At p)) net.points (λ j p at_p. exchange-apart net sheet a b c d x q k t at j p at_p));
  pieces = exchange-pieces net sheet a b c d x free;
  even = sheet.even;
}
  where
    over_a : is_over net.points a ≡ true
    over_a = over-first net sheet x.left.index x.left.triangle a b c x.left.at x.left.turn

    over_b : is_over net.points b ≡ true
    over_b = over-first net sheet x.right.index x.right.triangle b a d x.right.at x.right.turn

    over_c : is_over net.points c ≡ true
    over_c = over-first net sheet x.left.index x.left.triangle c a b x.left.at (turn-next x.left.triangle b c a (turn-next x.left.triangle a b c x.left.turn))

    over_d : is_over net.points d ≡ true
    over_d = over-first net sheet x.right.index x.right.triangle d b a x.right.at (turn-next x.right.triangle a d b (turn-next x.right.triangle b a d x.right.turn))

    over : (k : ℕ) (t : Triangle) → slice_get (exchanged net a b c d x).triangles k ≡ Some t → are_over net.points t ≡ true
    over k t at = by (item-of net a b c d x k t at)
      where
        by : (t ≡ x.second) ⊎ ((t ≡ x.first) ⊎ (slice_get net.triangles k ≡ Some t)) → are_over net.points t ≡ true
        by (inl e) = ap (are_over net.points) e ∙ turn-over net.points x.second d b c x.second_turn over_d over_b over_c
        by (inr (inl e)) = ap (are_over net.points) e ∙ turn-over net.points x.first a d c x.first_turn over_a over_d over_c
        by (inr (inr h)) = each-passes (are_over net.points) net.triangles sheet.over k t h

    turned : (k : ℕ) (t : Triangle) → slice_get (exchanged net a b c d x).triangles k ≡ Some t → is_turned t ≡ true
    turned k t at = by (item-of net a b c d x k t at)
      where
        by : (t ≡ x.second) ⊎ ((t ≡ x.first) ⊎ (slice_get net.triangles k ≡ Some t)) → is_turned t ≡ true
        by (inl e) = ap is_turned e ∙ turn-turned x.second d b c x.second_turn q.at_b
        by (inr (inl e)) = ap is_turned e ∙ turn-turned x.first a d c x.first_turn q.at_a
        by (inr (inr h)) = each-passes is_turned net.triangles sheet.turned k t h

-- ---- the law
flip-exchange : (net after : Net) (a b c d : Corner) → IsFlip net after a b c d → Exchange net a b c d
flip-exchange net after a b c d f = record {
  left = record { index = f.left.index; triangle = f.left.triangle; at = f.left.at; turn = turn-of a b c f.left.triangle f.left.is };
  right = record { index = f.right.index; triangle = f.right.triangle; at = f.right.at; turn = turn-of b a d f.right.triangle f.right.is };
  apart = f.apart;
  first = f.first;
  second = f.second;
  first_turn = turn-of a d c f.first f.first_is;
  second_turn = turn-of d b c f.second f.second_is;
}

pub flip-sheet : (net after : Net) → IsSheet net → (a b c d : Corner) → IsFlip net after a b c d → count_of net a b ≡ 0 → pos 0 <ℤ corner_side a d c → pos 0 <ℤ corner_side d b c → IsSheet after
unfolding flip-exchange
flip-sheet net after sheet a b c d f free at_a at_b =
    let x = flip-exchange net after a b c d f in
    subst IsSheet (λ i. record { points = f.over.points i; count = λ p q. f.over.count p q i; triangles = sym f.triangles i })
    (exchange-sheet net sheet a b c d x (quad-of net a b c d x at_a at_b) free)

turned-is : (s : ℤ) → int_lt (pos 0) s ≡ true → pos 0 <ℤ s
turned-is s e = omega (arith, ints, sym e)

pub kept_law : KeptLaw
kept_law net after sheet a b c d f free at_a at_b = flip-sheet net after sheet a b c d f free (turned-is (corner_side a d c) at_a) (turned-is (corner_side d b c) at_b)
