-- The points of one triple more.
use Rattle.std.proofs.Common.{◌≡◌, ◌+◌, Bool, true, false, cond, not, List, [], ◌∷◌, ◌++◌, None, Some, refl, sym, ap, ◌∙◌, arith}
use Rattle.std.specs.Prelude.{count_by, if◌then◌else◌}
use Rattle.std.specs.Ordering.{int_eq}
use Rattle.indexmap.specs.IndexMap.{get}
use Rattle.ground_num.specs.declared.decimal.Thousandths.{Thousandths}
use Rattle.landxml_read.specs.declared.raw.Triple.{Triple}
use Rattle.landxml_surface.specs.declared.heights.Heights.{Heights}
use Rattle.landxml_surface.specs.declared.spot.Spot.{Spot}
use Rattle.landxml_surface.specs.Heights.{is_same_spot, spot_of, level_at, Marked, marked, is_double, is_clash}
use Rattle.landxml_surface.specs.Notes.{AreHeights}
use Rattle.landxml_surface.proofs.Marks.{level-first, level-kept, heights-first, heights-kept, counts-more}

module _ (ts : List Triple) (t : Triple) (h n : Heights) (are : AreHeights ts h) where
  -- the first at its place
  pub noted-first : get is_same_spot h.levels (spot_of t) ≡ None → n.levels.entries ≡ h.levels.entries ++ (spot_of t, t.z) ∷ []
      → ((q : Spot) → get is_same_spot n.levels q ≡ cond (is_same_spot (spot_of t) q) (Some t.z) (get is_same_spot h.levels q)) → n.doubles ≡ h.doubles → n.clashes ≡ h.clashes → AreHeights (ts ++ t ∷ []) n
  noted-first none entries levels doubles clashes =
      let first : level_at ts (spot_of t) ≡ None = sym (are.levels (spot_of t)) ∙ none in record {
        entries = entries ∙ ap (λ es. es ++ (spot_of t, t.z) ∷ []) are.entries ∙ sym (heights-first ts t first);
        levels = λ p. levels p ∙ ap (cond (is_same_spot (spot_of t) p) (Some t.z)) (are.levels p) ∙ sym (level-first ts t p first);
        doubles = doubles ∙ are.doubles ∙ still is_double (λ o. refl) first;
        clashes = clashes ∙ are.clashes ∙ still is_clash (λ o. refl) first;
      }
    where
      still : (p : Marked → Bool) → ((u : Triple) → p (u, None) ≡ false) → level_at ts (spot_of t) ≡ None → count_by p (marked ts) ≡ count_by p (marked (ts ++ t ∷ []))
      still p none first =
          let e = counts-more p ts t ∙ ap (λ o. count_by p (marked ts) + cond (p (t, o)) 1 0) first ∙ ap (λ b. count_by p (marked ts) + cond b 1 0) (none t) in
          omega (arith, e)

  -- a place that came before
  pub noted-again : (z : Thousandths) → get is_same_spot h.levels (spot_of t) ≡ Some z → n.levels ≡ h.levels → n.doubles ≡ h.doubles + (if int_eq z.0 t.z.0 then 1 else 0) → n.clashes ≡ h.clashes + (if int_eq z.0 t.z.0 then 0 else 1) → AreHeights (ts ++ t ∷ []) n
  noted-again z some same doubles clashes =
      let there : level_at ts (spot_of t) ≡ Some z = sym (are.levels (spot_of t)) ∙ some in record {
        entries = ap (λ m. m.entries) same ∙ are.entries ∙ sym (heights-kept ts t z there);
        levels = λ p. ap (λ m. get is_same_spot m p) same ∙ are.levels p ∙ sym (level-kept ts t p z there);
        doubles = doubles ∙ ap (λ k. k + (if int_eq z.0 t.z.0 then 1 else 0)) are.doubles ∙ sym (counts-more is_double ts t ∙ ap (λ o. count_by is_double (marked ts) + cond (is_double (t, o)) 1 0) there);
        clashes = clashes ∙ ap (λ k. k + (if int_eq z.0 t.z.0 then 0 else 1)) are.clashes ∙ sym (counts-more is_clash ts t ∙ ap (λ o. count_by is_clash (marked ts) + cond (is_clash (t, o)) 1 0) there ∙ turned (int_eq z.0 t.z.0));
      }
    where
      turned : (b : Bool) → count_by is_clash (marked ts) + cond (not b) 1 0 ≡ count_by is_clash (marked ts) + (if b then 0 else 1)
      turned true = refl
      turned false = refl
