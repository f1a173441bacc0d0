-- A point that is added: it parts pieces at a newer net, where its plan stands, as it does those of the base.
use Rattle.std.proofs.Common.{◌≡◌, ℕ, zero, suc, ◌<◌, ◌⊎◌, inl, inr, refl, sym, ap, subst, ◌∙◌, List, Bool, true, false}
use Rattle.std.specs.Prelude.{not, ◌&&◌}
use Rattle.std.proofs.lemmas.Bool.{both_ways as clash}
use Rattle.ground_model.specs.declared.corner.Corner.TheVariants.{At}
use Rattle.ground_model.specs.Place.{Coords, is_same}
use Rattle.ground_model.specs.Line.{Line, is_point}
use Rattle.ground_model.specs.Table.{count_on}
use Rattle.ground_model.specs.Crossings.{is_on_points}
use Rattle.ground_model.proofs.Elements.{In}
use Rattle.predicates.specs.Net.{Net, Triangle, times_in, edges_in}
use Rattle.ground_model.proofs.LinePieces.{is_same_itself}
use Rattle.ground_model.proofs.Ties.{same_of_is_same}
use Rattle.cdt_law.proofs.Numbers.{along, some-of, apart}
use Rattle.cdt_law.proofs.Counts.{both_ways}
use Rattle.cdt_law.proofs.GoneFacets.{GoneOn}
use Rattle.cdt_law.proofs.KeptPieces.{piece_law}
use Rattle.cdt_law.proofs.PiecesWithout.{not-it}
use Rattle.cdt_law.proofs.LineTimes.{AreNext}
use Rattle.cdt_law.proofs.PointCounts.{Between, next-clear, both-even, counted-first, counted-clear, none-between-counted, same-beside, half, Whole, whole-of}
use Rattle.cdt_law.proofs.Standing.{Standing, OtherOn, Counted, next-on, bare, bare_sheet, made_alike, made-edge, other-edge, planned-edge, base-edge, newest-edge, stays-edge, parted, made-on, destroyed-on}

-- a net of lines over points
abbrev pub net_by : List Coords → List Line → List Triangle → Net
net_by points lines triangles = record { points = points; count = both_ways (count_on points lines); triangles = triangles }

-- the second points are the first without c, which is one of these
pub record IsLess (points rest : List Coords) (c : Coords) : Type 0 where
  pub without : (x : Coords) → is_point rest x ≡ (is_point points x && not (is_same c x))
  pub at_c : is_point points c ≡ true

-- no piece ends at a place that is no point
pub none-at : (points : List Coords) (lines : List Line) (u v : Coords) → (is_point points u ≡ true → ⊥) → both_ways (count_on points lines) u v ≡ 0
none-at points lines u v off = by (both_ways (count_on points lines) u v) refl
  where
    by : (n : ℕ) → both_ways (count_on points lines) u v ≡ n → n ≡ 0
    by zero e = refl
    by (suc n) e = absurd (off (counted-first points lines u v (some-of (both_ways (count_on points lines) u v) n e)))

pub gone-end : (points rest : List Coords) (c : Coords) → IsLess points rest c → is_point rest c ≡ true → ⊥
gone-end points rest c l h = not-it points rest c l.without l.at_c c h refl

pub differs : (points rest : List Coords) (c : Coords) → IsLess points rest c → (x : Coords) → is_point rest x ≡ true → x ≡ c → ⊥
differs points rest c l x h e = not-it points rest c l.without l.at_c x h e

-- ---- a point more
module _ (fewer more olds news : List Coords) (lines live : List Line) (tb tp tn ta : List Triangle) (c : Coords) (s : Standing (net_by fewer lines tb) (net_by more lines tp) (net_by olds live tn) (net_by news live ta))
    (on : (line : Line) → In line lines → is_on_points fewer line ≡ true) (on_live : (line : Line) → In line live → is_on_points olds line ≡ true) (l : IsLess more fewer c) (l_live : IsLess news olds c) where
  abbrev base : Net
  base = net_by fewer lines tb

  abbrev planned : Net
  planned = net_by more lines tp

  abbrev newest : Net
  newest = net_by olds live tn

  abbrev after : Net
  after = net_by news live ta

  base-next : (p q : Coords) → GoneOn base planned (At p) (At q) → AreNext fewer p q
  base-next p q g = next-on base s.base_sheet p q (base-edge base planned newest after s (At p) (At q) g.third g.there)

  newest-next : (p q : Coords) → GoneOn base planned (At p) (At q) → AreNext olds p q
  newest-next p q g = next-on newest s.newest_sheet p q (newest-edge base planned newest after s (At p) (At q) g.third g.there)

  planned-next : (p q : Coords) → GoneOn planned base (At p) (At q) → AreNext more p q
  planned-next p q g = next-on planned s.planned_sheet p q (planned-edge base planned newest after s (At p) (At q) g.third g.there)

  after-next : (p q : Coords) → 0 < times_in (edges_in after) (At p, At q) → AreNext news p q
  after-next p q edge = next-on (bare base planned newest after s) (bare_sheet base planned newest after s) p q edge

  -- over a destroyed edge that has c, the parts have one count
  parts-alike : (x w : Coords) → Between x w c → GoneOn base planned (At x) (At w) → planned.count c w ≡ after.count c w
  parts-alike x w b g =
      half more fewer c l.without l.at_c lines on x w (base-next x w g) b ∙ s.alike (At x) (At w) g.third g.there ∙ sym (half news olds c l_live.without l_live.at_c live on_live x w (newest-next x w g) b)

  at-c : (w : Coords) → planned.count c w ≡ after.count c w
  at-c w = by (planned.count c w) (after.count c w) refl refl
    where
      of-planned : 0 < planned.count c w → planned.count c w ≡ after.count c w
      of-planned some =
          let h = whole-of more fewer c l.without l.at_c lines on w some in
          parts-alike h.x w h.between (destroyed-on base planned newest after s h.x w h.some (apart (base.count h.x w) (planned.count h.x w) h.some (none-between-counted more lines h.x w c l.at_c h.between)))

      of-after : 0 < after.count c w → planned.count c w ≡ after.count c w
      of-after some = there (parted base planned newest after s (At h.x) (At w) (s.newest_sheet.pieces h.x w h.some))
        where
          h : Whole news olds c l_live.without l_live.at_c live on_live w
          h = whole-of news olds c l_live.without l_live.at_c live on_live w some

          there : GoneOn base planned (At h.x) (At w) ⊎ OtherOn base planned newest (At h.x) (At w) → planned.count c w ≡ after.count c w
          there (inl g) = parts-alike h.x w h.between g
          there (inr o) = absurd (next-clear news h.x w c (after-next h.x w (other-edge base planned newest after s (At h.x) (At w) o.third o.there)) l_live.at_c h.between)

      by : (m n : ℕ) → planned.count c w ≡ m → after.count c w ≡ n → planned.count c w ≡ after.count c w
      by zero zero e f = e ∙ sym f
      by (suc m) n e f = of-planned (some-of (planned.count c w) m e)
      by zero (suc n) e f = of-after (some-of (after.count c w) n f)

  beside-planned : (p q : Coords) → (p ≡ c → ⊥) → (q ≡ c → ⊥) → (Between p q c → ⊥) → planned.count p q ≡ base.count p q
  beside-planned p q no_p no_q off = same-beside more fewer c l.without l.at_c lines p q no_p no_q off

  beside-after : (p q : Coords) → (p ≡ c → ⊥) → (q ≡ c → ⊥) → (Between p q c → ⊥) → after.count p q ≡ newest.count p q
  beside-after p q no_p no_q off = same-beside news olds c l_live.without l_live.at_c live p q no_p no_q off

  -- whether the edge ends at c
  by-ends : (G : Coords → Coords → Type 0) → (p q : Coords) → (p ≡ c → G p q) → (q ≡ c → G p q) → ((p ≡ c → ⊥) → (q ≡ c → ⊥) → G p q) → G p q
  by-ends G p q first last other = by (is_same p c) (is_same q c) refl refl
    where
      by : (t u : Bool) → is_same p c ≡ t → is_same q c ≡ u → G p q
      by true u e f = first (same_of_is_same p c e)
      by false true e f = last (same_of_is_same q c f)
      by false false e f = other (not-same p e) (not-same q f)
        where
          not-same : (x : Coords) → is_same x c ≡ false → x ≡ c → ⊥
          not-same x e g = clash (is_same x c) e (ap (λ k. is_same k c) g ∙ is_same_itself c)

  made-counts : (p q : Coords) → GoneOn planned base (At p) (At q) → planned.count p q ≡ after.count p q
  made-counts p q g = by-ends (λ p q. planned.count p q ≡ after.count p q) p q (λ e. subst (λ k. planned.count k q ≡ after.count k q) (sym e) (at-c q))
      (λ e. both-even (count_on more lines) p q ∙ subst (λ k. planned.count k p ≡ after.count k p) (sym e) (at-c p) ∙ both-even (count_on news live) q p) other
    where
      other : (p ≡ c → ⊥) → (q ≡ c → ⊥) → planned.count p q ≡ after.count p q
      other no_p no_q =
          beside-planned p q no_p no_q (next-clear more p q c (planned-next p q g) l.at_c) ∙ made_alike base planned newest after s (At p) (At q) g.third g.there
          ∙ sym (beside-after p q no_p no_q (next-clear news p q c (after-next p q (made-edge base planned newest after s (At p) (At q) g.third g.there)) l_live.at_c))

  other-counts : (p q : Coords) → OtherOn base planned newest (At p) (At q) → newest.count p q ≡ after.count p q
  other-counts p q o =
      let n = next-on newest s.newest_sheet p q (stays-edge base planned newest after s (At p) (At q) o.third o.there) in
      sym (beside-after p q (differs news olds c l_live p n.first) (differs news olds c l_live q n.last) (next-clear news p q c (after-next p q (other-edge base planned newest after s (At p) (At q) o.third o.there)) l_live.at_c))

  pieces : (p q : Coords) → 0 < after.count p q → 0 < times_in (edges_in after) (At p, At q)
  pieces p q some = by-ends (λ p q. 0 < times_in (edges_in after) (At p, At q)) p q first last other
    where
      made : GoneOn planned base (At p) (At q) → 0 < times_in (edges_in after) (At p, At q)
      made g = made-edge base planned newest after s (At p) (At q) g.third g.there

      first : p ≡ c → 0 < times_in (edges_in after) (At p, At q)
      first e =
          let counted : 0 < planned.count p q = along (after.count p q) (planned.count p q) (sym (subst (λ k. planned.count k q ≡ after.count k q) (sym e) (at-c q))) some in
          made (made-on base planned newest after s p q counted (apart (planned.count p q) (base.count p q) counted (none-at fewer lines p q (λ h. differs more fewer c l p h e))))

      last : q ≡ c → 0 < times_in (edges_in after) (At p, At q)
      last e =
          let counted : 0 < planned.count p q = along (after.count p q) (planned.count p q)
          (sym (both-even (count_on more lines) p q ∙ subst (λ k. planned.count k p ≡ after.count k p) (sym e) (at-c p) ∙ both-even (count_on news live) q p)) some in
          made (made-on base planned newest after s p q counted
          (apart (planned.count p q) (base.count p q) counted (both-even (count_on fewer lines) p q ∙ none-at fewer lines q p (λ h. differs more fewer c l q h e))))

      other : (p ≡ c → ⊥) → (q ≡ c → ⊥) → 0 < times_in (edges_in after) (At p, At q)
      other no_p no_q = by (parted base planned newest after s (At p) (At q) (s.newest_sheet.pieces p q piece))
        where
          off : Between p q c → ⊥
          off = counted-clear news live p q c l_live.at_c some

          piece : 0 < newest.count p q
          piece = along (after.count p q) (newest.count p q) (beside-after p q no_p no_q off) some

          by : GoneOn base planned (At p) (At q) ⊎ OtherOn base planned newest (At p) (At q) → 0 < times_in (edges_in after) (At p, At q)
          by (inr o) = other-edge base planned newest after s (At p) (At q) o.third o.there
          by (inl g) =
              piece_law base planned newest after s.base_sheet s.planned_sheet s.newest_sheet s.enclosed s.triangles p q piece
              (along (newest.count p q) (planned.count p q) (sym (beside-planned p q no_p no_q off ∙ s.alike (At p) (At q) g.third g.there)) piece)

  pub point-added : Counted base planned newest after s
  point-added = record { made = made-counts; others = other-counts; pieces = pieces; even = both-even (count_on news live) }
