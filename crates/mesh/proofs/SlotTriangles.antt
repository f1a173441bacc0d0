-- The list of a mesh's triangles, as the triangle of one slot changes.
use Rattle.std.proofs.Common.{◌≡◌, ◌⊎◌, inl, inr, ◌<◌, ◌≤◌, ◌+◌, ℕ, suc, zero, Option, Some, None, List, [], ◌∷◌, length, refl, sym, ap, ◌∙◌, arith}
use Rattle.std.specs.List.{slice_get}
use Rattle.std.specs.Prelude.{slice_set}
use Rattle.std.specs.Option.{option_map}
use Rattle.predicates.specs.Net.{Triangle}
use Rattle.tri_pages.specs.declared.tri_slot.TriSlot.{TriSlot}
use Rattle.tri_pages.specs.Slots.{State, triangle_at}
use Rattle.mesh.specs.Sheets.{triangle_of, triangles_of}
use Rattle.mesh.proofs.Slots.{live_within, is_some}

-- the triangle of a slot, without its slot's neighbours and counts
abbrev pub tri_in : List State → ℕ → Option Triangle
tri_in states i = option_map triangle_of (triangle_at states i)

abbrev before : Option Triangle → List Triangle → List Triangle
before None ts = ts
before (Some t) ts = t ∷ ts

abbrev after_one : Option Triangle → ℕ → ℕ
after_one None r = r
after_one (Some t) r = suc r

-- those among the first n
abbrev collect : (ℕ → Option Triangle) → ℕ → List Triangle
collect f zero = []
collect f (suc n) = before (f 0) (collect (λ i. f (suc i)) n)

-- how many stand before one
abbrev rank : (ℕ → Option Triangle) → ℕ → ℕ
rank f zero = zero
rank f (suc s) = after_one (f 0) (rank (λ i. f (suc i)) s)

abbrev pub rank_in : List State → ℕ → ℕ
rank_in states s = rank (tri_in states) s

empty_collect : (n : ℕ) → [] ≡ collect (tri_in []) n
empty_collect zero = refl
empty_collect (suc n) = empty_collect n

collected : (states : List State) (n : ℕ) → length states ≤ n → triangles_of states ≡ collect (tri_in states) n
collected [] n le = empty_collect n
collected (x ∷ states) zero le = absurd (omega (arith, le))
collected (None ∷ states) (suc n) le = collected states n (omega (arith, le))
collected (Some None ∷ states) (suc n) le = collected states n (omega (arith, le))
collected (Some (Some t) ∷ states) (suc n) le = ap (λ ts. triangle_of t ∷ ts) (collected states n (omega (arith, le)))

before_set : (o : Option Triangle) (ts : List Triangle) (r : ℕ) (u : Triangle) → before o (slice_set ts r u) ≡ slice_set (before o ts) (after_one o r) u
before_set None ts r u = refl
before_set (Some t) ts r u = refl

before_get : (o : Option Triangle) (ts : List Triangle) (r : ℕ) → slice_get (before o ts) (after_one o r) ≡ slice_get ts r
before_get None ts r = refl
before_get (Some t) ts r = refl

-- one of them is another
collect_set : (f g : ℕ → Option Triangle) (n s : ℕ) (t u : Triangle) → s < n → f s ≡ Some t → g s ≡ Some u → ((i : ℕ) → (i ≡ s → ⊥) → g i ≡ f i) → collect g n ≡ slice_set (collect f n) (rank f s) u
collect_set f g zero s t u lt e h same = absurd (omega (arith, lt))
collect_set f g (suc n) zero t u lt e h same =
    let rest : (i : ℕ) → g (suc i) ≡ f (suc i) = λ i. same (suc i) (λ z. omega (arith, z)) in
    (λ j. before (h j) (collect (λ i. rest i j) n)) ∙ sym (ap (λ o. slice_set (before o (collect (λ i. f (suc i)) n)) 0 u) e)
collect_set f g (suc n) (suc s) t u lt e h same =
    let rest = collect_set (λ i. f (suc i)) (λ i. g (suc i)) n s t u (omega (arith, lt)) e h (λ i ne. same (suc i) (λ z. ne (omega (arith, z)))) in
    (λ j. before (same 0 (λ z. omega (arith, z)) j) (rest j)) ∙ before_set (f 0) (collect (λ i. f (suc i)) n) (rank (λ i. f (suc i)) s) u

collect_get : (f : ℕ → Option Triangle) (n s : ℕ) (t : Triangle) → s < n → f s ≡ Some t → slice_get (collect f n) (rank f s) ≡ Some t
collect_get f zero s t lt e = absurd (omega (arith, lt))
collect_get f (suc n) zero t lt e = ap (λ o. slice_get (before o (collect (λ i. f (suc i)) n)) 0) e
collect_get f (suc n) (suc s) t lt e = before_get (f 0) (collect (λ i. f (suc i)) n) (rank (λ i. f (suc i)) s) ∙ collect_get (λ i. f (suc i)) n s t (omega (arith, lt)) e

rank_same : (f g : ℕ → Option Triangle) (s : ℕ) → ((i r : ℕ) → after_one (g i) r ≡ after_one (f i) r) → rank g s ≡ rank f s
rank_same f g zero h = refl
rank_same f g (suc s) h = h 0 (rank (λ i. g (suc i)) s) ∙ ap (after_one (f 0)) (rank_same (λ i. f (suc i)) (λ i. g (suc i)) s (λ i. h (suc i)))

-- where the triangle of a slot is in the list
pub ranked : (states : List State) (s : ℕ) (t : TriSlot) → triangle_at states s ≡ Some t → slice_get (triangles_of states) (rank_in states s) ≡ Some (triangle_of t)
ranked states s t there =
    ap (λ ts. slice_get ts (rank_in states s)) (collected states (length states) (omega arith))
    ∙ collect_get (tri_in states) (length states) s (triangle_of t) (live_within states s (is_some (triangle_at states s) t there)) (ap (option_map triangle_of) there)

-- the list, where the triangle of one slot is another
pub exchanged_list : (old new : List State) (s : ℕ) (t u : TriSlot) → triangle_at old s ≡ Some t → triangle_at new s ≡ Some u → ((i : ℕ) → (i ≡ s → ⊥) → tri_in new i ≡ tri_in old i)
    → triangles_of new ≡ slice_set (triangles_of old) (rank_in old s) (triangle_of u)
exchanged_list old new s t u was is same =
    let n = length old + length new in
    let within = live_within old s (is_some (triangle_at old s) t was) in
    collected new n (omega arith)
    ∙ collect_set (tri_in old) (tri_in new) n s (triangle_of t) (triangle_of u) (omega (arith, within)) (ap (option_map triangle_of) was) (ap (option_map triangle_of) is) same
    ∙ ap (λ ts. slice_set ts (rank_in old s) (triangle_of u)) (sym (collected old n (omega arith)))

-- the others stand where they stood
pub rank_kept : (old new : List State) (s i : ℕ) (t u : TriSlot) → triangle_at old s ≡ Some t → triangle_at new s ≡ Some u → ((j : ℕ) → (j ≡ s) ⊎ (j ≡ s → ⊥)) → ((j : ℕ) → (j ≡ s → ⊥) → tri_in new j ≡ tri_in old j) → rank_in new i ≡ rank_in old i
rank_kept old new s i t u was is which same = rank_same (tri_in old) (tri_in new) i (λ j r. elim (which j) as (λ _. after_one (tri_in new j) r ≡ after_one (tri_in old j) r) [
  | inl e ↦ (λ k. after_one (tri_in new (e k)) r) ∙ ap (λ o. after_one (option_map triangle_of o) r) is ∙ sym (ap (λ o. after_one (option_map triangle_of o) r) was) ∙ (λ k. after_one (tri_in old (sym e k)) r)
  | inr ne ↦ ap (λ o. after_one o r) (same j ne)
])
