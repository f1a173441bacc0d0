-- Where a point is taken out that is none of a good triangle's corners, the triangle stays good.
use Rattle.std.proofs.Common.{◌≡◌, ℕ, ◌+◌, ◌<◌, ◌⊎◌, inl, inr, refl, sym, ap, subst, ◌∙◌, arith, true}
use Rattle.std.specs.Prelude.{ℤ, pos, ◌+ℤ◌, ◌*ℤ◌, ◌<ℤ◌, ◌≤ℤ◌}
use Rattle.std.proofs.lemmas.Int.{ints, by_lt_z}
use Rattle.ground_model.specs.declared.corner.Corner.TheVariants.{At}
use Rattle.ground_model.specs.Place.{Coords}
use Rattle.ground_model.specs.Side.{side}
use Rattle.ground_model.specs.Line.{is_point}
use Rattle.ground_model.specs.Corner.{corner_at}
use Rattle.ground_model.proofs.Along.{Mean, mean_of_on}
use Rattle.ground_model.proofs.Segments.{side_of_mean, on_crossed}
use Rattle.ground_model.proofs.Circle.{side-turned}
use Rattle.ground_model.proofs.ZOrder.{mul-positive}
use Rattle.predicates.proofs.CrossedEdges.{Crosses}
use Rattle.predicates.proofs.FlatSides.{flat_bc, flat_ca}
use Rattle.predicates.proofs.Signs.{mul-nonneg, mul-mixed, mul-negative, weaken, level-up}
use Rattle.cdt_law.proofs.Walls.{Walls}
use Rattle.cdt_law.proofs.GoodTriangle.{Site, IsGood, IsFree, IsGuarded, WallAt, good-turned}

-- x lies strictly between u and v
pub record Amid (u v x : Coords) : Type 0 where
  pub mean : Mean u v x
  pub first : 0 < mean.l
  pub last : 0 < mean.m

-- a piece of the thinner site is one of the other, or its two parts at c are; a piece of the other is one of the thinner, or ends at c and is part of one
pub record IsThinner (more fewer : Site) (c : Coords) : Type 0 where
  pub points : (x : Coords) → is_point fewer.points x ≡ true → is_point more.points x ≡ true
  pub split : (u v : Coords) → 0 < fewer.count u v → (0 < more.count u v) ⊎ (Amid u v c × ((0 < more.count u c) × (0 < more.count c v)))
  pub joined : (u v : Coords) → 0 < more.count u v → (0 < fewer.count u v)
      ⊎ (((u ≡ c) × ((w : Coords) × (Amid w v c × (0 < fewer.count w v)))) ⊎ ((v ≡ c) × ((w : Coords) × (Amid u w c × (0 < fewer.count u w)))))

-- ---- signs of numbers of which multiples agree
above : (k l : ℕ) (x u : ℤ) → 0 < k → 0 < l → pos k *ℤ x ≡ pos l *ℤ u → pos 0 <ℤ u → pos 0 <ℤ x
above k l x u some some' e h = by_lt_z (pos 0) x (λ lt. lt) (λ le. absurd (clash (pos k *ℤ x) (pos l *ℤ u) e (mul-mixed (pos k) x (omega (arith, ints)) le) (mul-positive (pos l) u (omega (arith, ints, some')) h)))
  where
    clash : (y z : ℤ) → y ≡ z → y ≤ℤ pos 0 → pos 0 <ℤ z → ⊥
    clash y z e h k = omega (arith, ints, e, h, k)

below : (k l : ℕ) (x u : ℤ) → 0 < k → 0 < l → pos k *ℤ x ≡ pos l *ℤ u → u <ℤ pos 0 → x <ℤ pos 0
below k l x u some some' e h = by_lt_z x (pos 0) (λ lt. lt) (λ le. absurd (clash (pos k *ℤ x) (pos l *ℤ u) e (mul-nonneg (pos k) x (omega (arith, ints)) le) (mul-negative (pos l) u (omega (arith, ints, some')) h)))
  where
    clash : (y z : ℤ) → y ≡ z → pos 0 ≤ℤ y → z <ℤ pos 0 → ⊥
    clash y z e h k = omega (arith, ints, e, h, k)

not_above : (k l : ℕ) (x u : ℤ) → 0 < k → 0 < l → pos k *ℤ x ≡ pos l *ℤ u → u ≤ℤ pos 0 → x ≤ℤ pos 0
not_above k l x u some some' e h = by_lt_z (pos 0) x (λ lt. absurd (low u h (above l k u x some' some (sym e) lt))) (λ le. le)
  where
    low : (z : ℤ) → z ≤ℤ pos 0 → pos 0 <ℤ z → ⊥
    low z h k = omega (arith, ints, h, k)

not_below : (k l : ℕ) (x u : ℤ) → 0 < k → pos k *ℤ x ≡ pos l *ℤ u → pos 0 ≤ℤ u → pos 0 ≤ℤ x
not_below k l x u some e h = by_lt_z x (pos 0) (λ lt. absurd (clash (pos k *ℤ x) (pos l *ℤ u) e (mul-negative (pos k) x (omega (arith, ints, some)) lt) (mul-nonneg (pos l) u (omega (arith, ints)) h))) (λ ge. ge)
  where
    clash : (y z : ℤ) → y ≡ z → y <ℤ pos 0 → pos 0 ≤ℤ z → ⊥
    clash y z e h k = omega (arith, ints, e, h, k)

-- ---- of sums
first_down : (k l m : ℕ) (x u v : ℤ) → 0 < l → pos k *ℤ x ≡ pos l *ℤ u +ℤ pos m *ℤ v → x ≤ℤ pos 0 → pos 0 ≤ℤ v → u ≤ℤ pos 0
first_down k l m x u v some e h g = by_lt_z (pos 0) u
    (λ lt. absurd (clash (pos k *ℤ x) (pos l *ℤ u) (pos m *ℤ v) e (mul-mixed (pos k) x (omega (arith, ints)) h) (mul-positive (pos l) u (omega (arith, ints, some)) lt) (mul-nonneg (pos m) v (omega (arith, ints)) g))) (λ le. le)
  where
    clash : (y z w : ℤ) → y ≡ z +ℤ w → y ≤ℤ pos 0 → pos 0 <ℤ z → pos 0 ≤ℤ w → ⊥
    clash y z w e h k l = omega (arith, ints, e, h, k, l)

last_up : (k l m : ℕ) (x u v : ℤ) → 0 < m → pos k *ℤ x ≡ pos l *ℤ u +ℤ pos m *ℤ v → pos 0 ≤ℤ x → u ≤ℤ pos 0 → pos 0 ≤ℤ v
last_up k l m x u v some e h g = by_lt_z v (pos 0)
    (λ lt. absurd (clash (pos k *ℤ x) (pos l *ℤ u) (pos m *ℤ v) e (mul-nonneg (pos k) x (omega (arith, ints)) h) (mul-mixed (pos l) u (omega (arith, ints)) g) (mul-negative (pos m) v (omega (arith, ints, some)) lt))) (λ ge. ge)
  where
    clash : (y z w : ℤ) → y ≡ z +ℤ w → pos 0 ≤ℤ y → z ≤ℤ pos 0 → w <ℤ pos 0 → ⊥
    clash y z w e h k l = omega (arith, ints, e, h, k, l)

-- ---- sides of a place strictly between two others
module _ (u v c : Coords) (h : Amid u v c) where
  -- k = l + m
  whole : ℕ
  whole = h.mean.l + h.mean.m

  whole_some : 0 < whole
  unfolding whole
  whole_some = h.mean.some

  mean : (s t : Coords) → pos whole *ℤ side s t c ≡ pos h.mean.l *ℤ side s t u +ℤ pos h.mean.m *ℤ side s t v
  unfolding whole
  mean s t = side_of_mean u v c h.mean s t

  -- from c to the last
  to_last : (s : Coords) → pos whole *ℤ side c v s ≡ pos h.mean.l *ℤ side u v s
  to_last s =
      ap (λ z. pos whole *ℤ z) (side-turned c v s) ∙ mean v s ∙ (λ i. pos h.mean.l *ℤ sym (side-turned u v s) i +ℤ pos h.mean.m *ℤ flat_ca v s v refl i) ∙ alone (pos h.mean.l *ℤ side u v s) (pos h.mean.m)
    where
      alone : (y z : ℤ) → y +ℤ z *ℤ pos 0 ≡ y
      alone y z = omega (arith, ints)

  -- from the first to c
  to_first : (s : Coords) → pos whole *ℤ side u c s ≡ pos h.mean.m *ℤ side u v s
  to_first s =
      ap (λ z. pos whole *ℤ z) (sym (side-turned s u c)) ∙ mean s u ∙ (λ i. pos h.mean.l *ℤ flat_bc s u u refl i +ℤ pos h.mean.m *ℤ side-turned s u v i) ∙ alone (pos h.mean.l) (pos h.mean.m *ℤ side u v s)
    where
      alone : (y z : ℤ) → y *ℤ pos 0 +ℤ z ≡ z
      alone y z = omega (arith, ints)

  -- ---- walls
  pub wall-first : (a p : Coords) → Walls c v a p → Walls u v a p
  wall-first a p w = record {
    left = above h.mean.l whole (side u v p) (side c v p) h.first whole_some (sym (to_last p)) w.left;
    across = not_above h.mean.l whole (side u v a) (side c v a) h.first whole_some (sym (to_last a)) w.across;
    first = first_down whole h.mean.l h.mean.m (side p a c) (side p a u) (side p a v) h.first (mean p a) w.first w.second;
    second = w.second;
  }

  pub wall-last : (a p : Coords) → Walls u c a p → Walls u v a p
  wall-last a p w = record {
    left = above h.mean.m whole (side u v p) (side u c p) h.last whole_some (sym (to_first p)) w.left;
    across = not_above h.mean.m whole (side u v a) (side u c a) h.last whole_some (sym (to_first a)) w.across;
    first = w.first;
    second = last_up whole h.mean.l h.mean.m (side p a c) (side p a u) (side p a v) h.last (mean p a) w.second w.first;
  }

  -- ---- crossings
  pub crosses-first : (a b : Coords) → Crosses a b u v → pos 0 <ℤ side a b c → Crosses a b u c
  crosses-first a b x left = record {
    v_left = left;
    u_right = x.u_right;
    a_left = above whole h.mean.m (side u c a) (side u v a) whole_some h.last (to_first a) x.a_left;
    b_right = below whole h.mean.m (side u c b) (side u v b) whole_some h.last (to_first b) x.b_right;
  }

  pub crosses-last : (a b : Coords) → Crosses a b u v → side a b c <ℤ pos 0 → Crosses a b c v
  crosses-last a b x right = record {
    v_left = x.v_left;
    u_right = right;
    a_left = above whole h.mean.l (side c v a) (side u v a) whole_some h.first (to_last a) x.a_left;
    b_right = below whole h.mean.l (side c v b) (side u v b) whole_some h.first (to_last b) x.b_right;
  }

  pub collinear : side u v c ≡ pos 0
  collinear = by_lt_z (side u v c) (pos 0) (λ lt. absurd (off lt)) (λ ge. by_lt_z (pos 0) (side u v c) (λ gt. absurd (off' gt)) (λ le. level (side u v c) ge le))
    where
      level : (z : ℤ) → pos 0 ≤ℤ z → z ≤ℤ pos 0 → z ≡ pos 0
      level z h k = omega (arith, ints, h, k)

      none : pos whole *ℤ side u v c ≡ pos 0
      none = mean u v ∙ (λ i. pos h.mean.l *ℤ flat_ca u v u refl i +ℤ pos h.mean.m *ℤ flat_bc u v v refl i) ∙ both (pos h.mean.l) (pos h.mean.m)
        where
          both : (y z : ℤ) → y *ℤ pos 0 +ℤ z *ℤ pos 0 ≡ pos 0
          both y z = omega (arith, ints)

      clash : (z : ℤ) → z ≡ pos 0 → z <ℤ pos 0 → ⊥
      clash z e h = omega (arith, ints, e, h)

      clash' : (z : ℤ) → z ≡ pos 0 → pos 0 <ℤ z → ⊥
      clash' z e h = omega (arith, ints, e, h)

      some : pos 0 <ℤ pos whole
      some = omega (arith, ints, whole_some)

      off : side u v c <ℤ pos 0 → ⊥
      off lt = clash (pos whole *ℤ side u v c) none (mul-negative (pos whole) (side u v c) some lt)

      off' : pos 0 <ℤ side u v c → ⊥
      off' gt = clash' (pos whole *ℤ side u v c) none (mul-positive (pos whole) (side u v c) some gt)

  -- where it lies on the edge that uv crosses, it lies in each triangle there
  pub on-edge : (a b d : Coords) → Crosses a b u v → side a b c ≡ pos 0 → pos 0 <ℤ side a b d → (pos 0 ≤ℤ side b d c) × (pos 0 ≤ℤ side d a c)
  on-edge a b d x flat turned = (
    not_below (on.l + on.m) on.l (side b d c) (side a b d) on.some
        (side_of_mean a b c on b d ∙ (λ i. pos on.l *ℤ sym (side-turned a b d) i +ℤ pos on.m *ℤ flat_ca b d b refl i) ∙ alone (pos on.l *ℤ side a b d) (pos on.m)) (weaken (side a b d) turned),
    not_below (on.l + on.m) on.m (side d a c) (side a b d) on.some
        (side_of_mean a b c on d a ∙ (λ i. pos on.l *ℤ flat_bc d a a refl i +ℤ pos on.m *ℤ side-turned d a b i) ∙ alone_last (pos on.l) (pos on.m *ℤ side a b d)) (weaken (side a b d) turned),
  )
    where
      on : Mean a b c
      on = mean_of_on a b c (on_crossed a b u v c flat collinear (mul-negative (side u v a) (side u v b) x.a_left x.b_right))

      alone : (y z : ℤ) → y +ℤ z *ℤ pos 0 ≡ y
      alone y z = omega (arith, ints)

      alone_last : (y z : ℤ) → y *ℤ pos 0 +ℤ z ≡ z
      alone_last y z = omega (arith, ints)

-- it lies in each closed triangle over the two
pub amid-within : (a b d c : Coords) → Amid a b c → pos 0 <ℤ side a b d → (pos 0 ≤ℤ side a b c) × ((pos 0 ≤ℤ side b d c) × (pos 0 ≤ℤ side d a c))
amid-within a b d c h turned = (
  level-up (side a b c) (collinear a b c h),
  (
    not_below (whole a b c h) h.mean.l (side b d c) (side a b d) (whole_some a b c h) (mean a b c h b d ∙ (λ i. pos h.mean.l *ℤ sym (side-turned a b d) i +ℤ pos h.mean.m *ℤ flat_ca b d b refl i) ∙ alone (pos h.mean.l *ℤ side a b d) (pos h.mean.m)) (weaken (side a b d) turned),
    not_below (whole a b c h) h.mean.m (side d a c) (side a b d) (whole_some a b c h) (mean a b c h d a ∙ (λ i. pos h.mean.l *ℤ flat_bc d a a refl i +ℤ pos h.mean.m *ℤ side-turned d a b i) ∙ alone_last (pos h.mean.l) (pos h.mean.m *ℤ side a b d)) (weaken (side a b d) turned),
  ),
)
  where
    alone : (y z : ℤ) → y +ℤ z *ℤ pos 0 ≡ y
    alone y z = omega (arith, ints)

    alone_last : (y z : ℤ) → y *ℤ pos 0 +ℤ z ≡ z
    alone_last y z = omega (arith, ints)

-- ---- a good triangle
module _ (more fewer : Site) (c : Coords) (thin : IsThinner more fewer c) (at_c : is_point more.points c ≡ true) where
  -- c is not in the triangle
  outside : (a b d : Coords) → IsGood more (At a) (At b) (At d) → (c ≡ a → ⊥) → (c ≡ b → ⊥) → (c ≡ d → ⊥) → pos 0 ≤ℤ side a b c → pos 0 ≤ℤ side b d c → pos 0 ≤ℤ side d a c → ⊥
  outside a b d good no_a no_b no_d ab bd da = by (good.clear c at_c ab bd da)
    where
      by : (At c ≡ At a) ⊎ ((At c ≡ At b) ⊎ (At c ≡ At d)) → ⊥
      by (inl e) = no_a (ap corner_at e)
      by (inr (inl e)) = no_b (ap corner_at e)
      by (inr (inr e)) = no_d (ap corner_at e)

  free : (a b d : Coords) → IsGood more (At a) (At b) (At d) → (c ≡ a → ⊥) → (c ≡ b → ⊥) → (c ≡ d → ⊥) → IsFree fewer (At a) (At b)
  free a b d good no_a no_b no_d u v piece x = by (thin.split u v piece)
    where
      parts : Amid u v c → 0 < more.count u c → 0 < more.count c v → ⊥
      parts h first last = by_lt_z (pos 0) (side a b c)
          (λ left. good.free_ab u c first (crosses-first u v c h a b x left))
          (λ le. by_lt_z (side a b c) (pos 0) (λ right. good.free_ab c v last (crosses-last u v c h a b x right))
          (λ ge. let in_it = on-edge u v c h a b d x (level (side a b c) ge le) good.turned in outside a b d good no_a no_b no_d ge in_it.0 in_it.1))
        where
          level : (z : ℤ) → pos 0 ≤ℤ z → z ≤ℤ pos 0 → z ≡ pos 0
          level z h k = omega (arith, ints, h, k)

      by : (0 < more.count u v) ⊎ (Amid u v c × ((0 < more.count u c) × (0 < more.count c v))) → ⊥
      by (inl piece) = good.free_ab u v piece x
      by (inr h) = parts h.0 h.1.0 h.1.1

  wall : (x y p : Coords) → WallAt more (At x) (At y) p → WallAt fewer (At x) (At y) p
  wall x y p w = by (thin.joined w.u w.v w.piece)
    where
      by : (0 < fewer.count w.u w.v) ⊎ (((w.u ≡ c) × ((z : Coords) × (Amid z w.v c × (0 < fewer.count z w.v)))) ⊎ ((w.v ≡ c) × ((z : Coords) × (Amid w.u z c × (0 < fewer.count w.u z))))) → WallAt fewer (At x) (At y) p
      by (inl piece) = record { u = w.u; v = w.v; piece = piece; at_a = w.at_a; at_b = w.at_b }
      by (inr (inl (e, (z, (h, piece))))) = record {
        u = z;
        v = w.v;
        piece = piece;
        at_a = wall-first z w.v c h x p (subst (λ k. Walls k w.v x p) e w.at_a);
        at_b = wall-first z w.v c h y p (subst (λ k. Walls k w.v y p) e w.at_b);
      }
      by (inr (inr (e, (z, (h, piece))))) = record {
        u = w.u;
        v = z;
        piece = piece;
        at_a = wall-last w.u z c h x p (subst (λ k. Walls w.u k x p) e w.at_a);
        at_b = wall-last w.u z c h y p (subst (λ k. Walls w.u k y p) e w.at_b);
      }

  guarded : (a b d x y : Coords) → IsGuarded more (At a) (At b) (At d) (At x) (At y) → IsGuarded fewer (At a) (At b) (At d) (At x) (At y)
  guarded a b d x y guard p at deep beyond = wall x y p (guard p (thin.points p at) deep beyond)

  pub good-thinner : (a b d : Coords) → IsGood more (At a) (At b) (At d) → (c ≡ a → ⊥) → (c ≡ b → ⊥) → (c ≡ d → ⊥) → IsGood fewer (At a) (At b) (At d)
  good-thinner a b d good no_a no_b no_d = record {
    all_in = good.all_in;
    turned = good.turned;
    clear = λ p at. good.clear p (thin.points p at);
    free_ab = free a b d good no_a no_b no_d;
    free_bc = free b d a (good-turned more (At a) (At b) (At d) good) no_b no_d no_a;
    free_ca = free d a b (good-turned more (At b) (At d) (At a) (good-turned more (At a) (At b) (At d) good)) no_d no_a no_b;
    wall_ab = guarded a b d a b good.wall_ab;
    wall_bc = guarded a b d b d good.wall_bc;
    wall_ca = guarded a b d d a good.wall_ca;
  }

  -- c lies strictly inside none of its edges
  pub not-amid : (a b d : Coords) → IsGood more (At a) (At b) (At d) → (c ≡ a → ⊥) → (c ≡ b → ⊥) → (c ≡ d → ⊥) → Amid a b c → ⊥
  not-amid a b d good no_a no_b no_d h = let i = amid-within a b d c h good.turned in outside a b d good no_a no_b no_d i.0 i.1.0 i.1.1
