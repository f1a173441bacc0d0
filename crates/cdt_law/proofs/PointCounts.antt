-- Counts in both directions, with a point that no line has as a place and without it.
use Rattle.std.proofs.Common.{◌≡◌, ℕ, zero, suc, ◌<◌, ◌⊎◌, inl, inr, refl, sym, ◌∙◌, List, Bool, true, false}
use Rattle.std.specs.Prelude.{not, ◌&&◌, if◌then◌else◌}
use Rattle.std.proofs.lemmas.Bool.{and_parts, and_from, both_ways as clash}
use Rattle.ground_model.specs.Place.{Coords, is_before, is_same}
use Rattle.ground_model.specs.Side.{is_on_segment}
use Rattle.ground_model.specs.Line.{Line, is_point}
use Rattle.ground_model.specs.Table.{count_on}
use Rattle.ground_model.specs.Crossings.{is_on_points}
use Rattle.ground_model.proofs.Elements.{In}
use Rattle.ground_model.proofs.LinePieces.{is_point_in}
use Rattle.ground_model.proofs.Along.{same_place}
use Rattle.ground_model.proofs.Segments.{not_after, before_trans}
use Rattle.cdt_law.proofs.Numbers.{along, some-of}
use Rattle.cdt_law.proofs.Counts.{both_ways, both-then, both-else}
use Rattle.cdt_law.proofs.LongerPieces.{Inside, from-before, to-after}
use Rattle.cdt_law.proofs.CountsWithout.{of-line, line-counts, either-way, same-count}
use Rattle.cdt_law.proofs.PieceParts.{clear-of, one-before-c, one-after-c, half-before, half-after}
use Rattle.cdt_law.proofs.LineTimes.{AreNext}

-- x lies strictly between u and v
pub Between : Coords → Coords → Coords → Type 0
Between u v x = Inside u v x ⊎ Inside v u x

pub inside-between : (u v x : Coords) → Inside u v x → Between u v x
unfolding Between
inside-between u v x h = inl h

pub inside-between-back : (u v x : Coords) → Inside v u x → Between u v x
unfolding Between
inside-between-back u v x h = inr h

pub next-clear : (points : List Coords) (u v x : Coords) → AreNext points u v → is_point points x ≡ true → Between u v x → ⊥
unfolding Between
next-clear points u v x n at_x (inl h) = n.clear x at_x h
next-clear points u v x n at_x (inr h) = n.clear_back x at_x h

-- whether it does
pub between-or-not : (u v x : Coords) → Between u v x ⊎ (Between u v x → ⊥)
unfolding Between
between-or-not u v x = by (inside u v) (inside v u)
  where
    inside : (u v : Coords) → Inside u v x ⊎ (Inside u v x → ⊥)
    inside u v = test (is_on_segment u v x && is_before u x && is_before x v) refl
      where
        test : (t : Bool) → (is_on_segment u v x && is_before u x && is_before x v) ≡ t → Inside u v x ⊎ (Inside u v x → ⊥)
        test true e =
            let outer = and_parts (is_on_segment u v x && is_before u x) (is_before x v) e in
            let inner = and_parts (is_on_segment u v x) (is_before u x) outer.0 in
            inl (record { on = inner.0; after = inner.1; before = outer.1 })
        test false e = inr (λ h. clash (is_on_segment u v x && is_before u x && is_before x v) e (and_from (is_on_segment u v x && is_before u x) (is_before x v) (and_from (is_on_segment u v x) (is_before u x) h.on h.after) h.before))

    by : Inside u v x ⊎ (Inside u v x → ⊥) → Inside v u x ⊎ (Inside v u x → ⊥) → (Inside u v x ⊎ Inside v u x) ⊎ ((Inside u v x ⊎ Inside v u x) → ⊥)
    by (inl h) g = inl (inl h)
    by (inr h) (inl g) = inl (inr g)
    by (inr h) (inr g) = inr (λ b. never b)
      where
        never : Inside u v x ⊎ Inside v u x → ⊥
        never (inl k) = h k
        never (inr k) = g k

-- a count both ways is one number
pub both-even : (g : Coords → Coords → ℕ) (p q : Coords) → both_ways g p q ≡ both_ways g q p
both-even g p q = by (is_before p q) (is_before q p) refl refl
  where
    by : (s t : Bool) → is_before p q ≡ s → is_before q p ≡ t → both_ways g p q ≡ both_ways g q p
    by true true e f = absurd (clash (is_before q p) (not_after p q e) f)
    by true false e f = both-then g p q e ∙ sym (both-else g q p f)
    by false true e f = both-else g p q e ∙ sym (both-then g q p f)
    by false false e f = let same = same_place p q e f in λ i. both_ways g (same i) (sym same i)

-- ---- over one list of points
module _ (points : List Coords) (lines : List Line) where
  -- a piece ends at points
  pub counted-first : (u v : Coords) → 0 < both_ways (count_on points lines) u v → is_point points u ≡ true
  counted-first u v some = by (either-way (count_on points lines) u v some)
    where
      by : (0 < count_on points lines u v) ⊎ (0 < count_on points lines v u) → is_point points u ≡ true
      by (inl h) = is_point_in points u (of-line points lines u v h).piece.first
      by (inr h) = is_point_in points u (of-line points lines v u h).piece.last

  -- and has none strictly between
  pub counted-clear : (u v x : Coords) → is_point points x ≡ true → 0 < both_ways (count_on points lines) u v → Between u v x → ⊥
  unfolding Between
  counted-clear u v x at_x some b = by (either-way (count_on points lines) u v some) b
    where
      turned : (u v : Coords) → is_before u v ≡ true → Inside v u x → ⊥
      turned u v lt h = clash (is_before v u) (not_after u v lt) (before_trans v x u h.after h.before)

      by : (0 < count_on points lines u v) ⊎ (0 < count_on points lines v u) → Inside u v x ⊎ Inside v u x → ⊥
      by (inl h) (inl i) = let o = of-line points lines u v h in clear-of points o.line u v o.piece x at_x i
      by (inl h) (inr i) = turned u v (of-line points lines u v h).piece.before i
      by (inr h) (inl i) = turned v u (of-line points lines v u h).piece.before i
      by (inr h) (inr i) = let o = of-line points lines v u h in clear-of points o.line v u o.piece x at_x i

  pub none-between-counted : (u v x : Coords) → is_point points x ≡ true → Between u v x → both_ways (count_on points lines) u v ≡ 0
  none-between-counted u v x at_x b = by (both_ways (count_on points lines) u v) refl
    where
      by : (n : ℕ) → both_ways (count_on points lines) u v ≡ n → n ≡ 0
      by zero e = refl
      by (suc n) e = absurd (counted-clear u v x at_x (some-of (both_ways (count_on points lines) u v) n e) b)

-- there is one nearest point beyond c
pub one-beyond : (points : List Coords) (x u w c : Coords) → AreNext points x w → AreNext points u w → Between x w c → Between u w c → x ≡ u
unfolding Between
one-beyond points x u w c n m b d = by b d
  where
    turned : (x u : Coords) → Inside x w c → Inside w u c → ⊥
    turned x u i j = clash (is_before c w) (not_after w c j.after) i.before

    by : Inside x w c ⊎ Inside w x c → Inside u w c ⊎ Inside w u c → x ≡ u
    by (inl i) (inl j) = one-before-c x u w c i j (n.clear u m.first) (m.clear x n.first)
    by (inl i) (inr j) = absurd (turned x u i j)
    by (inr i) (inl j) = absurd (turned u x j i)
    by (inr i) (inr j) = one-after-c x u w c i j (n.clear_back u m.first) (m.clear_back x n.first)

-- ---- with c and without it
module _ (points rest : List Coords) (c : Coords) (without : (x : Coords) → is_point rest x ≡ (is_point points x && not (is_same c x))) (at_c : is_point points c ≡ true) (lines : List Line) where
  pub same-beside : (u v : Coords) → (u ≡ c → ⊥) → (v ≡ c → ⊥) → (Between u v c → ⊥) → both_ways (count_on points lines) u v ≡ both_ways (count_on rest lines) u v
  unfolding Between
  same-beside u v not_u not_v not_in = λ i. if is_before u v then same-count points rest c without at_c lines u v not_u not_v (λ h. not_in (inl h)) i else same-count points rest c without at_c lines v u not_v not_u (λ h. not_in (inr h)) i

  module _ (on : (line : Line) → In line lines → is_on_points rest line ≡ true) where
    -- a part of a piece has the count of the whole
    pub half : (x w : Coords) → AreNext rest x w → Between x w c → both_ways (count_on points lines) c w ≡ both_ways (count_on rest lines) x w
    unfolding Between
    half x w n (inl i) =
        both-then (count_on points lines) c w i.before ∙ half-before points rest c without at_c lines on x w n.first n.last i n.clear
        ∙ sym (both-then (count_on rest lines) x w (before_trans x c w i.after i.before))
    half x w n (inr i) =
        both-else (count_on points lines) c w (not_after w c i.after) ∙ half-after points rest c without at_c lines on x w n.first n.last i n.clear_back
        ∙ sym (both-else (count_on rest lines) x w (not_after w x (before_trans w c x i.after i.before)))

    -- and is the part of one
    pub record Whole (w : Coords) : Type 0 where
      pub x : Coords
      pub between : Between x w c
      pub some : 0 < both_ways (count_on rest lines) x w

    pub whole-of : (w : Coords) → 0 < both_ways (count_on points lines) c w → Whole w
    unfolding Between
    whole-of w some = by (either-way (count_on points lines) c w some)
      where
        by : (0 < count_on points lines c w) ⊎ (0 < count_on points lines w c) → Whole w
        by (inl h) =
            let o = of-line points lines c w h in
            let l = from-before points rest c without at_c o.line (on o.line o.of) w o.piece in record {
              x = l.u;
              between = inl l.inside;
              some = along (count_on rest lines l.u w) (both_ways (count_on rest lines) l.u w) (sym (both-then (count_on rest lines) l.u w l.piece.before)) (line-counts rest lines l.u w o.line o.of l.piece);
            }
        by (inr h) =
            let o = of-line points lines w c h in
            let l = to-after points rest c without at_c o.line (on o.line o.of) w o.piece in record {
              x = l.v;
              between = inr l.inside;
              some = along (count_on rest lines w l.v) (both_ways (count_on rest lines) l.v w) (sym (both-else (count_on rest lines) l.v w (not_after w l.v l.piece.before))) (line-counts rest lines w l.v o.line o.of l.piece);
            }
