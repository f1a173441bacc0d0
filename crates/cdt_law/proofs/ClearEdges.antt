-- No point of a sheet lies strictly between the ends of an edge.
use Rattle.std.proofs.Common.{◌≡◌, ◌<◌, ◌⊎◌, inl, inr, sym, ap, ◌∙◌, true}
use Rattle.std.specs.Prelude.{pos, ◌<ℤ◌, ◌≤ℤ◌}
use Rattle.ground_model.specs.declared.corner.Corner.TheVariants.{At}
use Rattle.ground_model.specs.Place.{Coords}
use Rattle.ground_model.specs.Side.{side}
use Rattle.ground_model.specs.Line.{is_point}
use Rattle.ground_model.specs.Corner.{corner_at, corner_side}
use Rattle.predicates.specs.Net.{Net, edges_in, times_in}
use Rattle.predicates.specs.Sheet.{IsSheet}
use Rattle.predicates.proofs.Tiling.{left-of}
use Rattle.predicates.proofs.Owners.{Owner, owner, turn-side}
use Rattle.predicates.proofs.Signs.{never-level}
use Rattle.cdt_law.proofs.GoodInSheet.{sheet-only}
use Rattle.cdt_law.proofs.ThinnerSites.{Amid, amid-within, collinear}
use Rattle.cdt_law.proofs.LongerPieces.{Inside, not-first, not-last, amid, amid-back}

module _ (net : Net) (sheet : IsSheet net) (p q : Coords) (edge : 0 < times_in (edges_in net) (At p, At q)) where
  o : Owner net.triangles (At p) (At q)
  o = owner net (At p) (At q) edge

  left : pos 0 <ℤ corner_side (At p) (At q) o.third
  left = turn-side o.triangle (At p) (At q) o.third o.turn (left-of net sheet o.index o.triangle o.at)

  pub none-amid : (r : Coords) → is_point net.points r ≡ true → Amid p q r → (r ≡ p → ⊥) → (r ≡ q → ⊥) → ⊥
  none-amid r at_r h no_p no_q = by (sheet-only net sheet o.index o.triangle (At p) (At q) o.third o.at o.turn r at_r within.0 within.1.0 within.1.1)
    where
      within : (pos 0 ≤ℤ side p q r) × ((pos 0 ≤ℤ side q (corner_at o.third) r) × (pos 0 ≤ℤ side (corner_at o.third) p r))
      within = amid-within p q (corner_at o.third) r h left

      by : (At r ≡ At p) ⊎ ((At r ≡ At q) ⊎ (At r ≡ o.third)) → ⊥
      by (inl e) = no_p (ap corner_at e)
      by (inr (inl e)) = no_q (ap corner_at e)
      by (inr (inr e)) = never-level (corner_side (At p) (At q) o.third) left (sym (ap (side p q) (ap corner_at e)) ∙ collinear p q r h)

  pub none-inside : (r : Coords) → is_point net.points r ≡ true → Inside p q r → ⊥
  none-inside r at_r h = none-amid r at_r (amid p q r h) (not-first p q r h) (not-last p q r h)

  pub none-inside-back : (r : Coords) → is_point net.points r ≡ true → Inside q p r → ⊥
  none-inside-back r at_r h = none-amid r at_r (amid-back q p r h) (not-last q p r h) (not-first q p r h)
