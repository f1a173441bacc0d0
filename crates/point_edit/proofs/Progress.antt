-- In a star of more than four an edge can be flipped.
use Rattle.std.proofs.Common.{◌≡◌, ◌⊎◌, ℕ, suc, zero, ◌<◌, ◌≤◌, ◌+◌, refl, sym, ap, subst, ◌∙◌, inl, inr, arith}
use Rattle.std.specs.Prelude.{ℤ, pos, neg_ℤ, ◌-ℤ◌, ◌<ℤ◌, ◌≤ℤ◌}
use Rattle.std.proofs.lemmas.Int.{ints, by_lt_z}
use Rattle.ground_model.specs.Place.{Coords}
use Rattle.ground_model.specs.Side.{side}
use Rattle.predicates.proofs.FlatSides.{flat_bc, flat_ca, side-back}
use Rattle.point_edit.specs.Stars.{IsStar, HasFlippable, IsStraightStar, ProgressLaw}
use Rattle.point_edit.proofs.Blocked.{lt_or_eq, opens, back}
use Rattle.point_edit.proofs.Tops.{lt_or_more, Top, top, convex_at, some_off}

-- ---- numbers
gap : (b c : ℕ) → b ≤ c → (d : ℕ) × (b + d ≡ c)
gap zero c h = (c, omega arith)
gap (suc b) zero h = absurd (omega (arith, h))
gap (suc b) (suc c) h =
    let g = gap b c (omega (arith, h)) in
    let e = g.1 in
    (g.0, omega (arith, e))

lt_gt : (a b : ℕ) → (a ≡ b → ⊥) → (a < b) ⊎ (b < a)
lt_gt a b differ = elim (lt_or_more a b) as (λ _. (a < b) ⊎ (b < a)) [
  | inl lt ↦ inl lt
  | inr e ↦
      let f = e.1 in
      elim (lt_or_eq b a (omega (arith, f))) as (λ _. (a < b) ⊎ (b < a)) [
        | inl lt ↦ inr lt
        | inr g ↦ absurd (differ (sym g))
      ]
]

zero-one : pos 0 ≡ pos 1 → ⊥
zero-one e = omega (arith, ints, e)

level : (fh fl fi fp gl gi gp : ℤ) → pos 0 ≤ℤ (fh -ℤ fi) → pos 0 ≤ℤ (gl -ℤ gi) → pos 0 ≤ℤ (fh -ℤ fp) → pos 0 ≤ℤ (gl -ℤ gp) → fh ≡ fl → gl ≡ neg_ℤ fl → gi ≡ neg_ℤ fi → gp ≡ neg_ℤ fp → fi ≡ fp
level fh fl fi fp gl gi gp h i j k e f g m = omega (arith, ints, h, i, j, k, e, f, g, m)

both-none : (ft fl gt gl fs : ℤ) → pos 0 ≤ℤ (ft -ℤ fl) → pos 0 ≤ℤ (gt -ℤ gl) → fl ≡ pos 0 → gl ≡ pos 0 → ft ≤ℤ pos 0 → gt ≤ℤ pos 0 → gt ≡ neg_ℤ fs → ft ≡ fs
both-none ft fl gt gl fs h i e f j k g = omega (arith, ints, h, i, e, f, j, k, g)

never-none : (x y : ℤ) → pos 0 <ℤ x → x ≡ y → y ≡ pos 0 → ⊥
never-none x y h e f = omega (arith, ints, h, e, f)

straight-by : (kb kc : ℤ) → kc ≡ pos 0 -ℤ kb → kb ≤ℤ pos 0 → kc ≤ℤ pos 0 → kb ≡ pos 0
straight-by kb kc e h k = omega (arith, ints, e, h, k)

module _ (p : Coords) (w : ℕ → Coords) (n : ℕ) (s : IsStar p w n) where
  -- ---- three strictly convex corners
  record IsConvex (k : ℕ) : Type 0 where
    within : k < n
    left : pos 0 <ℤ side (w k) (w (suc k)) (w (suc (suc k)))

  convex_top : (u v : Coords) → (u ≡ v → ⊥) → (t : Top p w n s u v) → IsConvex t.k
  convex_top u v differ t = record { within = t.within; left = convex_at p w n s u v differ t }

  squeezed : (u v : Coords) → (u ≡ v → ⊥) → (t : Top p w n s u v) (b : Top p w n s v u) → side u v (w (suc t.k)) ≡ side u v (w (suc b.k)) → ⊥
  squeezed u v differ t b e = some_off p w n s u v differ (λ i.
      level (side u v (w (suc t.k))) (side u v (w (suc b.k))) (side u v (w i)) (side u v p) (side v u (w (suc b.k))) (side v u (w i)) (side v u p)
      (t.top i).above (b.top i).above t.high b.high e (side-back u v (w (suc b.k))) (side-back u v (w i)) (side-back u v p))

  origin : Coords
  origin = record { e = pos 0; n = pos 0 }

  beside : Coords
  beside = record { e = pos 1; n = pos 0 }

  origin_beside : origin ≡ beside → ⊥
  unfolding origin beside
  origin_beside e = zero-one (ap (λ (k : Coords). k.e) e)

  hi : Top p w n s origin beside
  hi = top p w n s origin beside

  lo : Top p w n s beside origin
  lo = top p w n s beside origin

  h : Coords
  h = w (suc hi.k)

  l : Coords
  l = w (suc lo.k)

  h_l : h ≡ l → ⊥
  unfolding h l
  h_l e = squeezed origin beside origin_beside hi lo (ap (side origin beside) e)

  -- a third one, off the line of these two
  record Third : Type 0 where
    k : ℕ
    convex : IsConvex k
    not_h : w (suc k) ≡ h → ⊥
    not_l : w (suc k) ≡ l → ⊥

  third_by : (u v : Coords) → (u ≡ v → ⊥) → (t : Top p w n s u v) → pos 0 <ℤ side u v (w (suc t.k)) → (w (suc t.k) ≡ v → ⊥) × (w (suc t.k) ≡ u → ⊥)
  third_by u v differ t off = ((λ e. never-none (side u v (w (suc t.k))) (side u v v) off (ap (side u v) e) (flat_bc u v v refl)), (λ e. never-none (side u v (w (suc t.k))) (side u v u) off (ap (side u v) e) (flat_ca u v u refl)))

  third : Third
  unfolding l
  third = by_lt_z (pos 0) (side l h (w (suc t.k)))
      (λ lt. let off = third_by l h (λ e. h_l (sym e)) t lt in record { k = t.k; convex = convex_top l h (λ e. h_l (sym e)) t; not_h = off.0; not_l = off.1 })
      (λ le. by_lt_z (pos 0) (side h l (w (suc b.k)))
      (λ lt. let off = third_by h l h_l b lt in record { k = b.k; convex = convex_top h l h_l b; not_h = off.1; not_l = off.0 })
      (λ low. absurd (squeezed l h (λ e. h_l (sym e)) t b
      (both-none (side l h (w (suc t.k))) (side l h (w (suc lo.k))) (side h l (w (suc b.k))) (side h l (w (suc lo.k))) (side l h (w (suc b.k))) (t.top (suc lo.k)).above (b.top (suc lo.k)).above
      (flat_ca l h (w (suc lo.k)) refl) (flat_bc h l (w (suc lo.k)) refl) le low (side-back l h (w (suc b.k)))))))
    where
      t : Top p w n s l h
      t = top p w n s l h

      b : Top p w n s h l
      b = top p w n s h l

  -- the three, in their order
  in_order : (P : Type 0) → ((x y z : ℕ) → IsConvex x → IsConvex y → IsConvex z → x < y → y < z → P) → P
  unfolding h l
  in_order P then_ = elim (lt_gt hi.k lo.k (λ e. h_l (ap (λ k. w (suc k)) e))) as (λ _. P) [
    | inl hl ↦ elim (lt_gt lo.k third.k (λ e. third.not_l (sym (ap (λ k. w (suc k)) e)))) as (λ _. P) [
      | inl lt ↦ then_ hi.k lo.k third.k a b third.convex hl lt
      | inr tl ↦ elim (lt_gt hi.k third.k (λ e. third.not_h (sym (ap (λ k. w (suc k)) e)))) as (λ _. P) [
        | inl ht ↦ then_ hi.k third.k lo.k a third.convex b ht tl
        | inr th ↦ then_ third.k hi.k lo.k third.convex a b th hl
      ]
    ]
    | inr lh ↦ elim (lt_gt hi.k third.k (λ e. third.not_h (sym (ap (λ k. w (suc k)) e)))) as (λ _. P) [
      | inl ht ↦ then_ lo.k hi.k third.k b a third.convex lh ht
      | inr th ↦ elim (lt_gt lo.k third.k (λ e. third.not_l (sym (ap (λ k. w (suc k)) e)))) as (λ _. P) [
        | inl lt ↦ then_ lo.k third.k hi.k b third.convex a lt th
        | inr tl ↦ then_ third.k lo.k hi.k third.convex b a tl lh
      ]
    ]
  ]
    where
      a : IsConvex hi.k
      a = convex_top origin beside origin_beside hi

      b : IsConvex lo.k
      b = convex_top beside origin (λ e. origin_beside (sym e)) lo

  -- ---- two that are no neighbours
  abbrev Ends : Type 0
  Ends = HasFlippable p w n ⊎ ((n ≡ 4) × IsStraightStar p w n)

  flippable : (k : ℕ) → IsConvex k → pos 0 <ℤ side p (w k) (w (suc (suc k))) → HasFlippable p w n
  flippable k c wide = (k, (c.within, record { at_p = wide; at_ring = c.left }))

  last_four : (b d : ℕ) → n ≡ 4 → d ≡ 2 → (k : ℤ) → k ≡ side p (w (b + d)) (w (suc (suc (b + d)))) → k ≡ pos 0 -ℤ side p (w b) (w (suc (suc b)))
  last_four b d four two k e =
      let there : b + d ≡ suc (suc b) = omega (arith, two) in
      let home : suc (suc (b + d)) ≡ n + b = omega (arith, two, four) in
      e ∙ (λ i. side p (w (there i)) ((ap w home ∙ s.round b) i)) ∙ back p (w (suc (suc b))) (w b)

  pair : (b d : ℕ) → IsConvex b → IsConvex (b + d) → 2 ≤ d → d + 2 ≤ n → Ends
  pair b d at_b at_c more less = by_lt_z (pos 0) (side p (w b) (w (suc (suc b)))) (λ lt. inl (flippable b at_b lt)) (λ wide. elim (opens p w n s b wide d more less) as (λ _. Ends) [
    | inl h ↦ inl (flippable (b + d) at_c h)
    | inr e ↦ by_lt_z (pos 0) (side p (w (b + d)) (w (suc (suc (b + d))))) (λ lt. inl (flippable (b + d) at_c lt)) (λ le. inr (
      e.0,
      (
        b,
        (
          at_b.within,
          straight-by (side p (w b) (w (suc (suc b)))) (side p (w (b + d)) (w (suc (suc (b + d))))) (last_four b d e.0 e.1 (side p (w (b + d)) (w (suc (suc (b + d))))) refl) wide le,
        ),
      ),
    ))
  ])

  pair_at : (b c : ℕ) → IsConvex b → IsConvex c → suc b < c → c + 2 ≤ b + n → Ends
  pair_at b c at_b at_c more less =
      let g = gap b c (omega (arith, more)) in
      let e = g.1 in
      pair b g.0 at_b (subst IsConvex (sym e) at_c) (omega (arith, e, more)) (omega (arith, e, less))

  ends : 4 ≤ n → Ends
  ends size = in_order Ends (λ x y z cx cy cz xy yz.
      let zn = cz.within in
      elim (lt_or_eq (suc x) y (omega (arith, xy))) as (λ _. Ends) [
        | inl lt ↦ pair_at x y cx cy lt (omega (arith, xy, yz, zn))
        | inr e ↦ elim (lt_or_eq (suc y) z (omega (arith, yz))) as (λ _. Ends) [
          | inl lt ↦ pair_at y z cy cz lt (omega (arith, xy, yz, zn))
          | inr f ↦ pair_at x z cx cz (omega (arith, e, f)) (omega (arith, e, f, size))
        ]
      ])

  at_least_three : 3 ≤ n
  at_least_three = in_order (3 ≤ n) (λ x y z cx cy cz xy yz.
      let zn = cz.within in
      omega (arith, xy, yz, zn))

  of_more : 4 < n → HasFlippable p w n
  of_more size = elim (ends (omega (arith, size))) as (λ _. HasFlippable p w n) [
    | inl h ↦ h
    | inr e ↦
        let f = e.0 in
        absurd (omega (arith, size, f))
  ]

  of_four : n ≡ 4 → HasFlippable p w n ⊎ IsStraightStar p w n
  of_four size = elim (ends (omega (arith, size))) as (λ _. HasFlippable p w n ⊎ IsStraightStar p w n) [ inl h ↦ inl h | inr e ↦ inr e.1 ]

pub progress_law : ProgressLaw
progress_law = record { three = at_least_three; more = of_more; four = of_four }
