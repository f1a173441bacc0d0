-- How many edges a march may still cross.
use Rattle.std.proofs.Common.{◌≡◌, ℕ, suc, zero, ◌<◌, ◌≤◌, ◌+◌, Bool, true, false, Option, Some, None, List, length, refl, sym, subst, inl, inr, arith}
use Rattle.std.specs.Prelude.{ℤ, pos, ◌*ℤ◌, ◌<ℤ◌, ◌-ℤ◌, int_lt, ◌&&◌}
use Rattle.std.proofs.lemmas.Int.{ints}
use Rattle.std.proofs.lemmas.Bool.{and_parts, and_from}
use Rattle.ground_model.specs.Corner.{corner_at as place_of}
use Rattle.ground_model.specs.Place.{Coords}
use Rattle.ground_model.specs.Side.{side}
use Rattle.tri_pages.specs.Slots.{State, triangle_at}
use Rattle.tri_pages.specs.declared.tri_slot.TriSlot.{TriSlot}
use Rattle.mesh.specs.Net.{Side, first, second, third, after, corner_at, side as side_of}
use Rattle.mesh.proofs.Slots.{some_is, live_within}
use Rattle.point_edit.specs.Degrees.{sum_below}
use Rattle.point_edit.proofs.Blocked.{lt_or_eq}
use Rattle.line_edit.specs.Ways.{width, crossing, ComesBefore, IsAhead, IsLater, IsOver}
use Rattle.line_edit.specs.declared.ahead.Ahead.{Ahead}
use Rattle.line_edit.specs.declared.ahead.Ahead.TheVariants.{Reaches, Crosses}
use Rattle.line_edit.proofs.Later.{quotients}

-- whether the edge from c to d crosses the way from its right to its left, after the edge from r to l
abbrev pub is_after : Coords → Coords → Coords → Coords → Coords → Coords → Bool
is_after p q r l c d = int_lt (side p q c) (pos 0) && int_lt (pos 0) (side p q d) && int_lt (crossing p q r l *ℤ width p q c d) (crossing p q c d *ℤ width p q r l)

abbrev pub one_if : Bool → ℕ
one_if true = 1
one_if false = 0

abbrev pub after_of : Coords → Coords → Coords → Coords → TriSlot → Side → ℕ
after_of p q r l t k = one_if (is_after p q r l (place_of (corner_at t k)) (place_of (corner_at t (after k))))

abbrev pub after_at : Coords → Coords → Coords → Coords → Option TriSlot → ℕ
after_at p q r l None = 0
after_at p q r l (Some t) = after_of p q r l t first + after_of p q r l t second + after_of p q r l t third

-- the number of edges that cross the way after that from r to l
unfoldable pub edges_after : List State → Coords → Coords → Coords → Coords → ℕ
edges_after slots p q r l = sum_below (λ i. after_at p q r l (triangle_at slots i)) (length slots)

abbrev pub edges_from : List State → Coords → Coords → Option TriSlot → Side → ℕ
edges_from slots p q None k = 0
edges_from slots p q (Some t) k = edges_after slots p q (place_of (corner_at t k)) (place_of (corner_at t (after k)))

-- of a step of the march
abbrev pub remains : List State → Coords → Coords → Ahead → ℕ
remains slots p q (Reaches at) = 0
remains slots p q (Crosses at) = suc (edges_from slots p q (triangle_at slots at.slot) (side_of at.edge))

-- ---- sums
sum_le : (f g : ℕ → ℕ) (n : ℕ) → ((i : ℕ) → g i ≤ f i) → sum_below g n ≤ sum_below f n
sum_le f g zero h = omega arith
sum_le f g (suc n) h =
    let here = h n in
    let rest = sum_le f g n h in
    omega (arith, here, rest)

sum_less : (f g : ℕ → ℕ) (n s : ℕ) → s < n → g s < f s → ((i : ℕ) → g i ≤ f i) → sum_below g n < sum_below f n
sum_less f g zero s lt less h = absurd (omega (arith, lt))
sum_less f g (suc n) s lt less h = elim (lt_or_eq s n (omega (arith, lt))) as (λ _. sum_below g (suc n) < sum_below f (suc n)) [
  | inl before ↦
      let here = h n in
      let rest = sum_less f g n s before less h in
      omega (arith, here, rest)
  | inr e ↦
      let here = subst (λ k. g k < f k) e less in
      let rest = sum_le f g n h in
      omega (arith, here, rest)
]

three_less : (f g : Side → ℕ) → ((k : Side) → g k ≤ f k) → (k : Side) → g k < f k → g first + g second + g third < f first + f second + f third
three_less f g h first lt = let b = h second in let c = h third in omega (arith, lt, b, c)
three_less f g h second lt = let a = h first in let c = h third in omega (arith, lt, a, c)
three_less f g h third lt = let a = h first in let b = h second in omega (arith, lt, a, b)

-- ---- what comes after a later edge comes after an earlier one
lt_of : (x y : ℤ) → int_lt x y ≡ true → x <ℤ y
lt_of x y e = omega (arith, ints, sym e)

lt_true : (x y : ℤ) → x <ℤ y → int_lt x y ≡ true
lt_true x y h = let e : true ≡ int_lt x y = omega (arith, ints, h) in sym e

wide : (p q r l : Coords) → side p q r <ℤ pos 0 → pos 0 <ℤ side p q l → pos 0 <ℤ width p q r l
wide p q r l right left = more (side p q l) (side p q r) left right
  where
    more : (s t : ℤ) → pos 0 <ℤ s → t <ℤ pos 0 → pos 0 <ℤ (s -ℤ t)
    more s t h k = omega (arith, ints, h, k)

module _ (p q r l r' l' : Coords) (right : side p q r <ℤ pos 0) (left : pos 0 <ℤ side p q l) (right' : side p q r' <ℤ pos 0) (left' : pos 0 <ℤ side p q l') (before : ComesBefore p q r l r' l') where
  still : (c d : Coords) → is_after p q r' l' c d ≡ true → is_after p q r l c d ≡ true
  still c d e =
      let parts = and_parts (int_lt (side p q c) (pos 0) && int_lt (pos 0) (side p q d)) (int_lt (crossing p q r' l' *ℤ width p q c d) (crossing p q c d *ℤ width p q r' l')) e in
      let ends = and_parts (int_lt (side p q c) (pos 0)) (int_lt (pos 0) (side p q d)) parts.0 in
      and_from (int_lt (side p q c) (pos 0) && int_lt (pos 0) (side p q d)) (int_lt (crossing p q r l *ℤ width p q c d) (crossing p q c d *ℤ width p q r l)) parts.0
      (lt_true (crossing p q r l *ℤ width p q c d) (crossing p q c d *ℤ width p q r l)
      (quotients (crossing p q r l) (crossing p q r' l') (crossing p q c d) (width p q r l) (width p q r' l') (width p q c d) (wide p q r l right left) (wide p q r' l' right' left')
      (wide p q c d (lt_of (side p q c) (pos 0) ends.0) (lt_of (pos 0) (side p q d) ends.1)) before (lt_of (crossing p q r' l' *ℤ width p q c d) (crossing p q c d *ℤ width p q r' l') parts.1)))

  fewer : (x y : Bool) → (x ≡ true → y ≡ true) → one_if x ≤ one_if y
  fewer true y h = subst (λ b. 1 ≤ one_if b) (sym (h refl)) (omega arith)
  fewer false y h = omega arith

  less_of : (x y : Bool) → x ≡ false → y ≡ true → one_if x < one_if y
  less_of x y e f = subst (λ z. z) (λ i. one_if (sym e i) < one_if (sym f i)) (omega arith)

  fewer_of : (t : TriSlot) (k : Side) → after_of p q r' l' t k ≤ after_of p q r l t k
  fewer_of t k = fewer (is_after p q r' l' (place_of (corner_at t k)) (place_of (corner_at t (after k)))) (is_after p q r l (place_of (corner_at t k)) (place_of (corner_at t (after k)))) (still (place_of (corner_at t k)) (place_of (corner_at t (after k))))

  fewer_at : (o : Option TriSlot) → after_at p q r' l' o ≤ after_at p q r l o
  fewer_at None = omega arith
  fewer_at (Some t) =
      let a = fewer_of t first in
      let b = fewer_of t second in
      let c = fewer_of t third in
      omega (arith, a, b, c)

  now : is_after p q r l r' l' ≡ true
  now = and_from (int_lt (side p q r') (pos 0) && int_lt (pos 0) (side p q l')) (int_lt (crossing p q r l *ℤ width p q r' l') (crossing p q r' l' *ℤ width p q r l))
      (and_from (int_lt (side p q r') (pos 0)) (int_lt (pos 0) (side p q l')) (lt_true (side p q r') (pos 0) right') (lt_true (pos 0) (side p q l') left')) (lt_true (crossing p q r l *ℤ width p q r' l') (crossing p q r' l' *ℤ width p q r l) before)

  no_more : is_after p q r' l' r' l' ≡ false
  no_more = either (is_after p q r' l' r' l') (λ e.
      never (crossing p q r' l' *ℤ width p q r' l') (lt_of (crossing p q r' l' *ℤ width p q r' l') (crossing p q r' l' *ℤ width p q r' l')
      (and_parts (int_lt (side p q r') (pos 0) && int_lt (pos 0) (side p q l')) (int_lt (crossing p q r' l' *ℤ width p q r' l') (crossing p q r' l' *ℤ width p q r' l')) e).1))
    where
      never : (x : ℤ) → x <ℤ x → ⊥
      never x h = omega (arith, ints, h)

      either : (b : Bool) → (b ≡ true → ⊥) → b ≡ false
      either true h = absurd (h refl)
      either false h = refl

  module _ (slots : List State) (s : ℕ) (u : TriSlot) (k : Side) (there : triangle_at slots s ≡ Some u) (within : s < length slots) (r_is : r' ≡ place_of (corner_at u k)) (l_is : l' ≡ place_of (corner_at u (after k))) where
    fewer_here : after_at p q r' l' (triangle_at slots s) < after_at p q r l (triangle_at slots s)
    fewer_here = subst (λ o. after_at p q r' l' o < after_at p q r l o) (sym there)
        (three_less (after_of p q r l u) (after_of p q r' l' u) (fewer_of u) k
        (subst (λ z. z) (λ i. one_if (is_after p q r' l' (r_is i) (l_is i)) < one_if (is_after p q r l (r_is i) (l_is i))) (less_of (is_after p q r' l' r' l') (is_after p q r l r' l') no_more now)))

    pub edges_fall : edges_after slots p q r' l' < edges_after slots p q r l
    unfolding edges_after
    edges_fall = sum_less (λ i. after_at p q r l (triangle_at slots i)) (λ i. after_at p q r' l' (triangle_at slots i)) (length slots) s within fewer_here (λ i. fewer_at (triangle_at slots i))

-- ---- a step of the march
pub remains_less : (slots : List State) (p q v : Coords) (s k : ℕ) (ahead : Ahead) → IsOver slots p q v s k → IsAhead slots p q v ahead → IsLater slots p q s k ahead → remains slots p q ahead < suc (edges_from slots p q (triangle_at slots s) (side_of k))
remains_less slots p q v s k (Reaches at) o is later = omega arith
remains_less slots p q v s k (Crosses at) o is later =
    let t = some_is (triangle_at slots s) o.live in
    let u = some_is (triangle_at slots at.slot) is.live in
    let less =
    edges_fall p q (place_of (corner_at t.tri (side_of k))) (place_of (corner_at t.tri (after (side_of k)))) (place_of (corner_at u.tri (side_of at.edge))) (place_of (corner_at u.tri (after (side_of at.edge))))
    (o.right t.tri t.is) (o.left t.tri t.is) (is.right u.tri u.is) (is.left u.tri u.is) (later t.tri u.tri t.is u.is) slots at.slot u.tri (side_of at.edge) u.is (live_within slots at.slot is.live) refl refl in
    subst (λ x. suc (edges_from slots p q x (side_of at.edge)) < suc (edges_from slots p q (triangle_at slots s) (side_of k))) (sym u.is)
    (subst (λ x. suc (edges_after slots p q (place_of (corner_at u.tri (side_of at.edge))) (place_of (corner_at u.tri (after (side_of at.edge))))) < suc (edges_from slots p q x (side_of k))) (sym t.is) (omega (arith, less)))
