-- Flips at a point, a step that takes it out, and Lawson's flips take the point out of the net.
use Rattle.std.proofs.Common.{◌≡◌, ◌<◌, ◌^◌, ℕ, List, [], ◌∷◌, ◌++◌, refl, sym, ap, subst, ◌∙◌, inl, inr, arith, append_assoc, append-nil, length-append}
use Rattle.std.proofs.lemmas.Grind.{flat_map-append}
use Rattle.ground_model.specs.declared.corner.Corner.{Corner}
use Rattle.ground_model.specs.declared.corner.Corner.TheVariants.{At}
use Rattle.ground_model.specs.Line.{is_point}
use Rattle.ground_model.specs.Place.{Coords}
use Rattle.predicates.specs.Net.{Net}
use Rattle.tri_pages.specs.Slots.{State}
use Rattle.mesh.specs.FlipRuns.{Flip, slots_named}
use Rattle.mesh.specs.Meshes.{MeshView, raised}
use Rattle.mesh.specs.NetChanges.{HaveSamePoints, HaveSameCounts, HasOneMore}
use Rattle.mesh.specs.Sheets.{IsSheetMesh, net_in}
use Rattle.mesh.proofs.StepContents.{flip_points, flip_counts}
use Rattle.point_edit.specs.Removals.{IsRemovable, IsTakenOut, IsFlipAt, AreFlipsAt, FlipsAt}
use Rattle.point_edit.proofs.PutIn.{same_count_of}

-- ---- flips at a corner, one after the other
more_at : (c : Corner) (fs : List Flip) (f : Flip) (old mid new : List State) → AreFlipsAt c fs old mid → IsFlipAt c mid new f → AreFlipsAt c (fs ++ f ∷ []) old new
more_at c [] f old mid new same x = (new, subst (λ ps. IsFlipAt c ps new f) (sym same) x, refl)
more_at c (g ∷ fs) f old mid new run x = (run.0, run.1, more_at c fs f run.0 mid new run.2 x)

pub no_flips_at : (c : Corner) (mesh : MeshView) (script : List ℕ) → mesh.turns < 2 ^ 64 → FlipsAt c mesh mesh script script
no_flips_at c mesh script fits = record { flips = []; are = refl; named = sym (append-nil script); counted = omega (arith, fits) }

pub flip_then : (c : Corner) (old mid new : MeshView) (s0 s1 s2 : List ℕ) → FlipsAt c old mid s0 s1 → (f : Flip) → IsFlipAt c mid.slots new.slots f → new.turns ≡ raised mid.turns → s2 ≡ s1 ++ f.slot ∷ f.beyond ∷ [] → FlipsAt c old new s0 s2
flip_then c old mid new s0 s1 s2 run f x turns script =
    let longer = length-append run.flips (f ∷ []) in
    let was = run.counted in
    record {
      flips = run.flips ++ f ∷ [];
      are = more_at c run.flips f old.slots mid.slots new.slots run.are x;
      named = script ∙ ap (λ l. l ++ f.slot ∷ f.beyond ∷ []) run.named ∙ append_assoc s0 (slots_named run.flips) (f.slot ∷ f.beyond ∷ []) ∙ ap (λ l. s0 ++ l) (sym (flat_map-append (λ g. g.slot ∷ g.beyond ∷ []) run.flips (f ∷ [])));
      counted = omega (arith, turns, was, longer);
    }

-- they leave the points and the counts
pub flips_at_same : (c : Corner) (fs : List Flip) (old new : List State) → IsSheetMesh old → AreFlipsAt c fs old new → HaveSamePoints (net_in old) (net_in new) × HaveSameCounts (net_in old) (net_in new)
flips_at_same c [] old new m same = ((λ q. ap (λ s. is_point (net_in s).points q) (sym same)), (λ q r. ap (λ s. (net_in s).count q r) (sym same)))
flips_at_same c (f ∷ fs) old new m run =
    let rest = flips_at_same c fs run.0 new run.1.sheet run.2 in (
      (λ q. rest.0 q ∙ flip_points old run.0 f.slot f.side f.beyond m run.1.sheet run.1.is run.1.free q),
      (λ q r. rest.1 q r ∙ flip_counts old run.0 f.slot f.side f.beyond m run.1.sheet run.1.is run.1.free q r),
    )

-- ---- what is asked of the point is a matter of the counts
pub removable_on : (net other : Net) (p : Coords) → HaveSameCounts net other → IsRemovable net p → IsRemovable other p
removable_on net other p same x = record {
  straight = λ q more.
      let g = x.straight q (subst (λ k. 0 < k) (same p q) more) in
      record { other = g.other; apart = g.apart; straight = g.straight; same_count = same p g.other ∙ g.same_count ∙ sym (same p q) };
  two = λ q r y more_q more_r more_y. x.two q r y (subst (λ k. 0 < k) (same p q) more_q) (subst (λ k. 0 < k) (same p r) more_r) (subst (λ k. 0 < k) (same p y) more_y);
}

-- ---- points and counts that stay before and after
fewer_on : (net mid last other : Net) (p : Coords) → HaveSamePoints net mid → HasOneMore last mid p → HaveSamePoints last other → HasOneMore other net p
fewer_on net mid last other p before x after_it = record {
  there = sym (before p) ∙ x.there;
  absent = after_it p ∙ x.absent;
  others = λ q ne. sym (before q) ∙ x.others q ne ∙ sym (after_it q);
}

pub taken_on : (net mid last other : Net) (p : Coords) → HaveSamePoints net mid → HaveSameCounts net mid → IsTakenOut mid last p → HaveSamePoints last other → HaveSameCounts last other → IsTakenOut net other p
taken_on net mid last other p points counts (inl x) points' counts' = inl (fewer_on net mid last other p points x.0 points', (λ q r. counts' q r ∙ x.1 q r ∙ counts q r))
taken_on net mid last other p points counts (inr x) points' counts' =
    let a = x.0 in
    let b = x.1 in
    let y = x.2 in
    inr (
      a,
      b,
      record {
        point = fewer_on net mid last other p points y.point points';
        start = sym (same_count_of net mid counts a (At p)) ∙ y.start ∙ sym (same_count_of last other counts' a b);
        end = sym (same_count_of net mid counts (At p) b) ∙ y.end ∙ sym (same_count_of last other counts' a b);
        whole = sym (same_count_of net mid counts a b) ∙ y.whole;
        rest = λ q r not_start not_end not_whole. sym (counts q r) ∙ y.rest q r not_start not_end not_whole ∙ sym (counts' q r);
      },
    )
