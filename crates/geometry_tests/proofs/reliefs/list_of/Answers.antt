-- A list of one slope with three corners is a relief.
use Rattle.std.proofs.Common.{◌≡◌, zero, suc, refl, sym, ap, subst, ◌++◌, ◌∙◌, arith, [], ◌∷◌, Bool, true, false, cond}
use Rattle.std.specs.Prelude.{ℤ, pos, All, IsTrue, ◌&&◌}
use Rattle.std.specs.List.Sorted.{IsStrictlySortedBy}
use Rattle.std.proofs.lemmas.Bool.Decides.{Decides-int_eq}
use Rattle.ground_model.specs.declared.slope.Slope.{Slope}
use Rattle.ground_model.specs.Place.{Coords, is_same}
use Rattle.ground_model.specs.Side.{is_left}
use Rattle.measures.specs.SlopeList.{IsRelief, level_in}
use Rattle.geometry_tests.proofs.reliefs.list_of.Goals as goal

all_sole : {X : Type 0} (P : X → Type 0) (x : X) → P x → All P (x ∷ [])
all_sole P x h zero d lt = h
all_sole P x h (suc k) d lt = absurd (omega arith)

is_same-refl : (p : Coords) → is_same p p ≡ true
is_same-refl p =
    let e = (Decides-int_eq p.e p.e).1 refl in
    let n = (Decides-int_eq p.n p.n).1 refl in
    (λ i. e i && n i)

first_picked : (x : Bool) (u v : ℤ) → x ≡ true → u ≡ cond x u v
first_picked true u v e = refl
first_picked false u v e = cc

second_picked : (x y : Bool) (u v w : ℤ) → x ≡ false → y ≡ true → v ≡ cond x u (cond y v w)
second_picked true y u v w e h = cc
second_picked false true u v w e h = refl
second_picked false false u v w e h = cc

third_picked : (x y z : Bool) (u v w o : ℤ) → x ≡ false → y ≡ false → z ≡ true → w ≡ cond x u (cond y v (cond z w o))
third_picked true y z u v w o e h k = cc
third_picked false true z u v w o e h k = cc
third_picked false false true u v w o e h k = refl
third_picked false false false u v w o e h k = cc

sole_is_relief : (s : Slope) → IsTrue (is_left s.facet.a s.facet.b s.facet.c) → is_same s.facet.a s.facet.b ≡ false → is_same s.facet.a s.facet.c ≡ false → is_same s.facet.b s.facet.c ≡ false → IsRelief (s ∷ [])
unfolding level_in IsStrictlySortedBy
sole_is_relief s turned ab ac bc = record {
  in_order = (tt, tt);
  turned = all_sole (λ s. IsTrue (is_left s.facet.a s.facet.b s.facet.c)) s turned;
  one_level = all_sole (λ t. (t.za ≡ level_in (s ∷ []) t.facet.a) × (t.zb ≡ level_in (s ∷ []) t.facet.b) × (t.zc ≡ level_in (s ∷ []) t.facet.c)) s
      (first_picked _ s.za _ (is_same-refl s.facet.a), second_picked _ _ s.za s.zb _ ab (is_same-refl s.facet.b), third_picked _ _ _ s.za s.zb s.zc (pos 0) ac bc (is_same-refl s.facet.c));
  few = omega arith;
}

pub new-requires : goal.new-requires
new-requires c =
    let items = c.from_vec.ensures ∙ c.in_ok-push.ensures.items ∙ ap (λ k. k ++ c.args.slope ∷ []) c.new-slopes.ensures.items in
    subst IsRelief (sym items) (sole_is_relief c.args.slope c.requires.turned c.requires.ab c.requires.ac c.requires.bc)
