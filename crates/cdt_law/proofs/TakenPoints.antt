-- A point that is taken: it joins pieces at a newer net, where its plan stands, as it does those of the base.
use Rattle.std.proofs.Common.{◌≡◌, ℕ, zero, suc, ◌<◌, ◌⊎◌, inl, inr, refl, sym, subst, ◌∙◌, List, true}
use Rattle.ground_model.specs.declared.corner.Corner.{Corner}
use Rattle.ground_model.specs.declared.corner.Corner.TheVariants.{At}
use Rattle.ground_model.specs.Place.{Coords}
use Rattle.ground_model.specs.Line.{Line, is_point}
use Rattle.ground_model.specs.Table.{count_on}
use Rattle.ground_model.specs.Crossings.{is_on_points}
use Rattle.ground_model.proofs.Elements.{In}
use Rattle.predicates.specs.Net.{Net, Triangle, times_in, edges_in, has}
use Rattle.predicates.proofs.Owners.{owner}
use Rattle.predicates.proofs.HasTriangles.{owner-has}
use Rattle.cdt_law.specs.Patch.{is_in}
use Rattle.cdt_law.specs.Boundary.{gone}
use Rattle.cdt_law.proofs.Numbers.{along, some-of, apart}
use Rattle.cdt_law.proofs.GoneFacets.{GoneOn}
use Rattle.cdt_law.proofs.KeptPieces.{piece_law}
use Rattle.cdt_law.proofs.LineTimes.{AreNext}
use Rattle.cdt_law.proofs.PointCounts.{Between, between-or-not, next-clear, both-even, counted-first, counted-clear, none-between-counted, inside-between, inside-between-back, one-beyond, same-beside, half, Whole, whole-of}
use Rattle.cdt_law.proofs.Standing.{Standing, OtherOn, Counted, next-on, bare, bare_sheet, made_alike, made-edge, other-edge, planned-edge, stays-edge, parted, made-on, destroyed-on}
use Rattle.cdt_law.proofs.PointEdits.{net_by, IsLess, none-at, gone-end, differs}

module _ (more fewer olds news : List Coords) (lines live : List Line) (tb tp tn ta : List Triangle) (c : Coords) (s : Standing (net_by more lines tb) (net_by fewer lines tp) (net_by olds live tn) (net_by news live ta))
    (on : (line : Line) → In line lines → is_on_points fewer line ≡ true) (on_live : (line : Line) → In line live → is_on_points news line ≡ true) (l : IsLess more fewer c) (l_live : IsLess olds news c)
    (taken : (y z : Corner) → has (net_by olds live tn) (At c) y z ≡ true → is_in (gone (net_by more lines tb) (net_by fewer lines tp)) (At c) y z ≡ true) where
  abbrev base : Net
  base = net_by more lines tb

  abbrev planned : Net
  planned = net_by fewer lines tp

  abbrev newest : Net
  newest = net_by olds live tn

  abbrev after : Net
  after = net_by news live ta

  planned-next : (p q : Coords) → 0 < times_in (edges_in planned) (At p, At q) → AreNext fewer p q
  planned-next p q edge = next-on planned s.planned_sheet p q edge

  after-next : (p q : Coords) → 0 < times_in (edges_in after) (At p, At q) → AreNext news p q
  after-next p q edge = next-on (bare base planned newest after s) (bare_sheet base planned newest after s) p q edge

  -- all pieces at c are edges of what is destroyed
  at-c : (w : Coords) → base.count c w ≡ newest.count c w
  at-c w = by (base.count c w) (newest.count c w) refl refl
    where
      of-gone : GoneOn base planned (At c) (At w) → base.count c w ≡ newest.count c w
      of-gone g = s.alike (At c) (At w) g.third g.there

      of-base : 0 < base.count c w → base.count c w ≡ newest.count c w
      of-base some = of-gone (destroyed-on base planned newest after s c w some (apart (base.count c w) (planned.count c w) some (none-at fewer lines c w (λ h. gone-end more fewer c l h))))

      of-newest : 0 < newest.count c w → base.count c w ≡ newest.count c w
      of-newest some =
          let o = owner newest (At c) (At w) (s.newest_sheet.pieces c w some) in
          of-gone (record { third = o.third; there = taken (At w) o.third (owner-has newest (At c) (At w) o) })

      by : (m n : ℕ) → base.count c w ≡ m → newest.count c w ≡ n → base.count c w ≡ newest.count c w
      by zero zero e f = e ∙ sym f
      by (suc m) n e f = of-base (some-of (base.count c w) m e)
      by zero (suc n) e f = of-newest (some-of (newest.count c w) n f)

  beside-base : (p q : Coords) → (p ≡ c → ⊥) → (q ≡ c → ⊥) → (Between p q c → ⊥) → base.count p q ≡ planned.count p q
  beside-base p q no_p no_q off = same-beside more fewer c l.without l.at_c lines p q no_p no_q off

  beside-newest : (p q : Coords) → (p ≡ c → ⊥) → (q ≡ c → ⊥) → (Between p q c → ⊥) → newest.count p q ≡ after.count p q
  beside-newest p q no_p no_q off = same-beside olds news c l_live.without l_live.at_c live p q no_p no_q off

  made-counts : (p q : Coords) → GoneOn planned base (At p) (At q) → planned.count p q ≡ after.count p q
  made-counts p q g = by (between-or-not p q c)
    where
      n : AreNext fewer p q
      n = planned-next p q (planned-edge base planned newest after s (At p) (At q) g.third g.there)

      m : AreNext news p q
      m = after-next p q (made-edge base planned newest after s (At p) (At q) g.third g.there)

      by : Between p q c ⊎ (Between p q c → ⊥) → planned.count p q ≡ after.count p q
      by (inl b) = sym (half more fewer c l.without l.at_c lines on p q n b) ∙ at-c q ∙ half olds news c l_live.without l_live.at_c live on_live p q m b
      by (inr off) =
          sym (beside-base p q (differs more fewer c l p n.first) (differs more fewer c l q n.last) off) ∙ made_alike base planned newest after s (At p) (At q) g.third g.there
          ∙ beside-newest p q (differs olds news c l_live p m.first) (differs olds news c l_live q m.last) off

  other-counts : (p q : Coords) → OtherOn base planned newest (At p) (At q) → newest.count p q ≡ after.count p q
  other-counts p q o =
      let n = next-on newest s.newest_sheet p q (stays-edge base planned newest after s (At p) (At q) o.third o.there) in
      let m = after-next p q (other-edge base planned newest after s (At p) (At q) o.third o.there) in
      beside-newest p q (differs olds news c l_live p m.first) (differs olds news c l_live q m.last) (next-clear olds p q c n l_live.at_c)

  pieces : (p q : Coords) → 0 < after.count p q → 0 < times_in (edges_in after) (At p, At q)
  pieces p q some = by (between-or-not p q c)
    where
      at_p : is_point news p ≡ true
      at_p = counted-first news live p q some

      at_q : is_point news q ≡ true
      at_q = counted-first news live q p (along (after.count p q) (after.count q p) (both-even (count_on news live) p q) some)

      m : AreNext news p q
      m = record { first = at_p; last = at_q; clear = λ r at i. counted-clear news live p q r at some (inside-between p q r i); clear_back = λ r at i. counted-clear news live p q r at some (inside-between-back p q r i) }

      -- the two parts of a piece at c are one of the bases too, of which they are the parts
      joined : Between p q c → 0 < times_in (edges_in after) (At p, At q)
      joined b = subst (λ k. 0 < times_in (edges_in after) (At k, At q)) same edge
        where
          part : 0 < base.count c q
          part = along (after.count p q) (base.count c q) (sym (at-c q ∙ half olds news c l_live.without l_live.at_c live on_live p q m b)) some

          h : Whole more fewer c l.without l.at_c lines on q
          h = whole-of more fewer c l.without l.at_c lines on q part

          edge : 0 < times_in (edges_in after) (At h.x, At q)
          edge =
              let g = made-on base planned newest after s h.x q h.some (apart (planned.count h.x q) (base.count h.x q) h.some (none-between-counted more lines h.x q c l.at_c h.between)) in
              made-edge base planned newest after s (At h.x) (At q) g.third g.there

          same : h.x ≡ p
          same = one-beyond news h.x p q c (after-next h.x q edge) m h.between b

      beside : (Between p q c → ⊥) → 0 < times_in (edges_in after) (At p, At q)
      beside off = there (parted base planned newest after s (At p) (At q) (s.newest_sheet.pieces p q piece))
        where
          no_p : p ≡ c → ⊥
          no_p = differs olds news c l_live p at_p

          no_q : q ≡ c → ⊥
          no_q = differs olds news c l_live q at_q

          piece : 0 < newest.count p q
          piece = along (after.count p q) (newest.count p q) (sym (beside-newest p q no_p no_q off)) some

          there : GoneOn base planned (At p) (At q) ⊎ OtherOn base planned newest (At p) (At q) → 0 < times_in (edges_in after) (At p, At q)
          there (inr o) = other-edge base planned newest after s (At p) (At q) o.third o.there
          there (inl g) =
              piece_law base planned newest after s.base_sheet s.planned_sheet s.newest_sheet s.enclosed s.triangles p q piece
              (along (newest.count p q) (planned.count p q) (sym (s.alike (At p) (At q) g.third g.there) ∙ beside-base p q no_p no_q off) piece)

      by : Between p q c ⊎ (Between p q c → ⊥) → 0 < times_in (edges_in after) (At p, At q)
      by (inl b) = joined b
      by (inr off) = beside off

  pub point-taken : Counted base planned newest after s
  point-taken = record { made = made-counts; others = other-counts; pieces = pieces; even = both-even (count_on news live) }
