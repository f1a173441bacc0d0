-- Journals with one entry more.
use Rattle.std.proofs.Common.{◌≡◌, ℕ, suc, zero, ◌+◌, ◌-◌, ◌≤◌, ◌⊎◌, inl, inr, List, [], ◌∷◌, ◌++◌, length, take, Some, Bool, true, false, cond, refl, ap, subst, arith}
use Rattle.std.proofs.Math.Seq.{take-append_seam}
use Rattle.std.proofs.lemmas.List.{take-append-le}
use Rattle.std.proofs.lemmas.List.Sums.{fold-append}
use Rattle.std.proofs.lemmas.Option.{slice_get_within}
use Rattle.std.specs.FinMap as finmap
use Rattle.std.specs.List.{slice_get}
use Rattle.ground_model.specs.declared.edit.Edit.{Edit}
use Rattle.ground_model.specs.declared.edit.Edit.TheVariants.{AddPoint, RemovePoint, SetLevel, AddLine, RemoveLine}
use Rattle.ground_model.specs.declared.entry.Entry.{Entry}
use Rattle.ground_model.specs.declared.limits.Limits.{Limits}
use Rattle.ground_model.specs.Content.{Content, empty, after}
use Rattle.ground_model.specs.History.{content_of, IsLegal, IsNext}
use Rattle.ground_model.proofs.Contents.{places_total}

-- ---- what stands at an index

pub get_longer : {X : Type 0} (xs ys : List X) (k : ℕ) (x : X) → slice_get xs k ≡ Some x → slice_get (xs ++ ys) k ≡ Some x
get_longer [] ys k x e = cc
get_longer (y ∷ xs) ys zero x e = e
get_longer (y ∷ xs) ys (suc k) x e = get_longer xs ys k x e

pub get_last : {X : Type 0} (xs : List X) (x : X) → slice_get (xs ++ x ∷ []) (length xs) ≡ Some x
get_last [] x = refl
get_last (y ∷ xs) x = get_last xs x

-- of a list with one more
pub get_more : {X : Type 0} (xs : List X) (x y : X) (k : ℕ) → slice_get (xs ++ x ∷ []) k ≡ Some y → (slice_get xs k ≡ Some y) ⊎ ((k ≡ length xs) × (x ≡ y))
get_more [] x y zero e = inr (refl, cc)
get_more [] x y (suc k) e = cc
get_more (z ∷ xs) x y zero e = inl e
get_more (z ∷ xs) x y (suc k) e = elim (get_more xs x y k e) [ inl h ↦ inl h | inr h ↦ inr (ap suc h.0, h.1) ]

-- ---- histories

pub content_of-push : (h : List Entry) (x : Entry) → content_of (h ++ x ∷ []) ≡ after (content_of h) x.edit
unfolding content_of
content_of-push h x = fold-append (λ c entry. after c entry.edit) empty h (x ∷ [])

pub legal_more : (limits : Limits) (h : List Entry) (x : Entry) → IsLegal limits h → IsNext limits h x → IsLegal limits (h ++ x ∷ [])
legal_more limits h x legal next k y e =
    elim (get_more h x y k e) [
      | inl was ↦
          let within : k ≤ length h = omega (arith, slice_get_within h k y was) in
          rw (take-append-le k h (x ∷ []) within) (legal k y was)
      | inr is ↦
          let front : take k (h ++ x ∷ []) ≡ h = rw is.0 (take-append_seam h (x ∷ [])) in
          rw front (subst (IsNext limits h) is.1 next)
    ]

-- ---- how many points there are, and what number comes next

at_most_one : (b : Bool) (n : ℕ) → cond b n (n + 1) ≤ n + 1
at_most_one true n = omega arith
at_most_one false n = omega arith

no_more : (b : Bool) (n : ℕ) → cond b (n - 1) n ≤ n + 1
no_more true n = omega arith
no_more false n = omega arith

pub points-after : (c : Content) (edit : Edit) → finmap.len (after c edit).points ≤ finmap.len c.points + 1
unfolding after
points-after c (AddPoint p z) = rw (finmap.len-insert places_total c.points p z) (at_most_one (finmap.contains_key c.points p) (finmap.len c.points))
points-after c (RemovePoint p) = rw (finmap.len-remove places_total c.points p) (no_more (finmap.contains_key c.points p) (finmap.len c.points))
points-after c (SetLevel p z) = rw (finmap.len-insert places_total c.points p z) (at_most_one (finmap.contains_key c.points p) (finmap.len c.points))
points-after c (AddLine kind places) = omega arith
points-after c (RemoveLine id) = omega arith

pub next-after : (c : Content) (edit : Edit) → (after c edit).table.next ≤ c.table.next + 1
unfolding after
next-after c (AddPoint p z) = omega arith
next-after c (RemovePoint p) = omega arith
next-after c (SetLevel p z) = omega arith
next-after c (AddLine kind places) = omega arith
next-after c (RemoveLine id) = omega arith
