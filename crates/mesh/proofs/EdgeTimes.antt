-- How often an edge occurs among the triangles of slots.
use Rattle.std.proofs.Common.{◌≡◌, ◌⊎◌, ◌+◌, ℕ, suc, zero, Bool, true, false, Some, None, List, [], ◌∷◌, ◌++◌, length, flat_map, refl, sym, ap, ◌∙◌, inl, inr, subst, arith}
use Rattle.std.specs.Prelude.{count_by, cond}
use Rattle.std.specs.List.{list_any, list_all, slice_get}
use Rattle.std.proofs.lemmas.Bool.{or_left, or_right, and_from}
use Rattle.std.proofs.lemmas.List.Sums.{sum_by-append}
use Rattle.std.proofs.lemmas.Option.{none-some}
use Rattle.predicates.specs.Net.{Triangle, Edge, edges_of, is_same_edge}
use Rattle.predicates.proofs.Edges.{edge-tells}
use Rattle.tri_pages.specs.declared.tri_slot.TriSlot.{TriSlot}
use Rattle.tri_pages.specs.Slots.{State, triangle_at, holding}
use Rattle.mesh.specs.Net.{Side, first, second, third, after, corner_at}
use Rattle.mesh.specs.Sheets.{triangle_of, triangles_of}
use Rattle.mesh.proofs.NamedEdges.{same_in}
use Rattle.mesh.proofs.Sides.{first_second, first_third, second_third}
use Rattle.mesh.proofs.TurnedSlots.{by_side}

-- an edge of a triangle, as a pair of corners
abbrev pub pair_at : TriSlot → Side → Edge
pair_at t k = (corner_at t k, corner_at t (after k))

-- a triangle of the states has the edge
pub record IsHeld (states : List State) (x : Edge) : Type 0 where
  pub index : ℕ
  pub tri : TriSlot
  pub side : Side
  pub there : triangle_at states index ≡ Some tri
  pub is : pair_at tri side ≡ x

-- no other does
abbrev pub IsHeldOnce : List State → Edge → Type 0
IsHeldOnce states x = (f g : IsHeld states x) → (f.index ≡ g.index) × (f.side ≡ g.side)

abbrev pub edges_in_states : List State → List Edge
edges_in_states states = flat_map edges_of (triangles_of states)

abbrev pub times : List State → Edge → ℕ
times states x = count_by (is_same_edge x) (edges_in_states states)

clash : true ≡ false → ⊥
clash h = cc

tells : (b : Bool) (x y : Edge) → is_same_edge x y ≡ b → (y ≡ x) ⊎ ((y ≡ x → ⊥) × (is_same_edge x y ≡ false))
tells true x y e = inl (sym (edge-tells.equal x y e))
tells false x y e = inr ((λ same. differ (subst (λ z. is_same_edge x z ≡ false) same e)), e)
  where
    differ : is_same_edge x x ≡ false → ⊥
    differ h = clash (sym (edge-tells.self x) ∙ h)

-- whether the edge is that of a side
same_or : (x : Edge) (t : TriSlot) (k : Side) → (pair_at t k ≡ x) ⊎ ((pair_at t k ≡ x → ⊥) × (is_same_edge x (pair_at t k) ≡ false))
same_or x t k = tells (is_same_edge x (pair_at t k)) x (pair_at t k) refl

is_edge : (x : Edge) (t : TriSlot) (k : Side) → pair_at t k ≡ x → is_same_edge x (pair_at t k) ≡ true
is_edge x t k e = subst (λ y. is_same_edge x y ≡ true) (sym e) (edge-tells.self x)

isnt_edge : (x : Edge) (t : TriSlot) (k : Side) → (pair_at t k ≡ x → ⊥) → is_same_edge x (pair_at t k) ≡ false
isnt_edge x t k ne = elim (same_or x t k) as (λ _. is_same_edge x (pair_at t k) ≡ false) [ inl e ↦ absurd (ne e) | inr h ↦ h.1 ]

-- the edge is none of a triangle's
none_of : (x : Edge) (t : TriSlot) → ((k : Side) → pair_at t k ≡ x → ⊥) → count_by (is_same_edge x) (edges_of (triangle_of t)) ≡ 0
none_of x t none = λ i. 0 + cond (isnt_edge x t first (none first) i) 1 0 + cond (isnt_edge x t second (none second) i) 1 0 + cond (isnt_edge x t third (none third) i) 1 0

-- or one alone
one_of : (x : Edge) (t : TriSlot) (k : Side) → pair_at t k ≡ x → ((j : Side) → pair_at t j ≡ x → k ≡ j) → count_by (is_same_edge x) (edges_of (triangle_of t)) ≡ 1
one_of x t first e only = λ i. 0 + cond (is_edge x t first e i) 1 0 + cond (isnt_edge x t second (λ h. first_second (only second h)) i) 1 0 + cond (isnt_edge x t third (λ h. first_third (only third h)) i) 1 0
one_of x t second e only = λ i. 0 + cond (isnt_edge x t first (λ h. first_second (sym (only first h))) i) 1 0 + cond (is_edge x t second e i) 1 0 + cond (isnt_edge x t third (λ h. second_third (only third h)) i) 1 0
one_of x t third e only = λ i. 0 + cond (isnt_edge x t first (λ h. first_third (sym (only first h))) i) 1 0 + cond (isnt_edge x t second (λ h. second_third (sym (only second h))) i) 1 0 + cond (is_edge x t third e i) 1 0

-- a triangle more
times_more : (t : TriSlot) (states : List State) (x : Edge) → times (holding t ∷ states) x ≡ count_by (is_same_edge x) (edges_of (triangle_of t)) + times states x
times_more t states x = sum_by-append (λ y. cond (is_same_edge x y) 1 0) (edges_of (triangle_of t)) (edges_in_states states)

abbrev later : (o : State) (states : List State) (x : Edge) → IsHeld states x → IsHeld (o ∷ states) x
later o states x h = record { index = suc h.index; tri = h.tri; side = h.side; there = h.there; is = h.is }

pub times_none : (states : List State) (x : Edge) → (IsHeld states x → ⊥) → times states x ≡ 0
times_none [] x none = refl
times_none (None ∷ states) x none = times_none states x (λ h. none (later None states x h))
times_none (Some None ∷ states) x none = times_none states x (λ h. none (later (Some None) states x h))
times_none (Some (Some t) ∷ states) x none =
    let here = none_of x t (λ k e. none (record { index = zero; tri = t; side = k; there = refl; is = e })) in
    let rest = times_none states x (λ h. none (later (holding t) states x h)) in
    times_more t states x ∙ (λ i. here i + rest i)

pub times_one : (states : List State) (x : Edge) (i : ℕ) (t : TriSlot) (k : Side) → triangle_at states i ≡ Some t → pair_at t k ≡ x → IsHeldOnce states x → times states x ≡ 1
times_one [] x i t k there is once = absurd (none-some t there)
times_one (None ∷ states) x zero t k there is once = absurd (none-some t there)
times_one (None ∷ states) x (suc i) t k there is once = times_one states x i t k there is (λ f g. let same = once (later None states x f) (later None states x g) in (omega (arith, same.0), same.1))
times_one (Some None ∷ states) x zero t k there is once = absurd (none-some t there)
times_one (Some None ∷ states) x (suc i) t k there is once = times_one states x i t k there is (λ f g. let same = once (later (Some None) states x f) (later (Some None) states x g) in (omega (arith, same.0), same.1))
times_one (Some (Some u) ∷ states) x zero t k there is once =
    let same : u ≡ t = same_in u t there in
    let mine : pair_at u k ≡ x = ap (λ y. pair_at y k) same ∙ is in
    let here = one_of x u k mine (λ j e. (once (record { index = zero; tri = u; side = k; there = refl; is = mine }) (record { index = zero; tri = u; side = j; there = refl; is = e })).1) in
    let rest = times_none states x (λ h. absurd (omega (arith, (once (record { index = zero; tri = u; side = k; there = refl; is = mine }) (later (holding u) states x h)).0))) in
    times_more u states x ∙ (λ j. here j + rest j)
times_one (Some (Some u) ∷ states) x (suc i) t k there is once =
    let here = none_of x u (λ j e. absurd (omega (arith, (once (record { index = zero; tri = u; side = j; there = refl; is = e }) (record { index = suc i; tri = t; side = k; there = there; is = is })).0))) in
    let rest = times_one states x i t k there is (λ f g. let same = once (later (holding u) states x f) (later (holding u) states x g) in (omega (arith, same.0), same.1)) in
    times_more u states x ∙ (λ j. here j + rest j)

-- the edge is held, or it is not
held_by : (t : TriSlot) (states : List State) (x : Edge) → IsHeld states x ⊎ (IsHeld states x → ⊥) → (a : (pair_at t first ≡ x) ⊎ ((pair_at t first ≡ x → ⊥) × (is_same_edge x (pair_at t first) ≡ false)))
    → (b : (pair_at t second ≡ x) ⊎ ((pair_at t second ≡ x → ⊥) × (is_same_edge x (pair_at t second) ≡ false))) → (c : (pair_at t third ≡ x) ⊎ ((pair_at t third ≡ x → ⊥) × (is_same_edge x (pair_at t third) ≡ false)))
    → IsHeld (holding t ∷ states) x ⊎ (IsHeld (holding t ∷ states) x → ⊥)
held_by t states x rest (inl e) b c = inl (record { index = zero; tri = t; side = first; there = refl; is = e })
held_by t states x rest (inr a) (inl e) c = inl (record { index = zero; tri = t; side = second; there = refl; is = e })
held_by t states x rest (inr a) (inr b) (inl e) = inl (record { index = zero; tri = t; side = third; there = refl; is = e })
held_by t states x (inl h) (inr a) (inr b) (inr c) = inl (later (holding t) states x h)
held_by t states x (inr none) (inr a) (inr b) (inr c) = inr (λ h. nowhere h.index h.tri h.side h.there h.is)
  where
    nowhere : (i : ℕ) (u : TriSlot) (k : Side) → triangle_at (holding t ∷ states) i ≡ Some u → pair_at u k ≡ x → ⊥
    nowhere zero u k there is = by_side (λ j. pair_at t j ≡ x → ⊥) a.0 b.0 c.0 k (ap (λ y. pair_at y k) (same_in t u there) ∙ is)
    nowhere (suc i) u k there is = none (record { index = i; tri = u; side = k; there = there; is = is })

skip : (o : State) (states : List State) (x : Edge) → ((t : TriSlot) → triangle_at (o ∷ states) zero ≡ Some t → ⊥) → IsHeld states x ⊎ (IsHeld states x → ⊥) → IsHeld (o ∷ states) x ⊎ (IsHeld (o ∷ states) x → ⊥)
skip o states x empty (inl h) = inl (later o states x h)
skip o states x empty (inr none) = inr (λ h. nowhere h.index h.tri h.side h.there h.is)
  where
    nowhere : (i : ℕ) (u : TriSlot) (k : Side) → triangle_at (o ∷ states) i ≡ Some u → pair_at u k ≡ x → ⊥
    nowhere zero u k there is = empty u there
    nowhere (suc i) u k there is = none (record { index = i; tri = u; side = k; there = there; is = is })

pub is_held : (states : List State) (x : Edge) → IsHeld states x ⊎ (IsHeld states x → ⊥)
is_held [] x = inr (λ h. none-some h.tri h.there)
is_held (None ∷ states) x = skip None states x (λ t e. none-some t e) (is_held states x)
is_held (Some None ∷ states) x = skip (Some None) states x (λ t e. none-some t e) (is_held states x)
is_held (Some (Some t) ∷ states) x = held_by t states x (is_held states x) (same_or x t first) (same_or x t second) (same_or x t third)

-- one more triangle at the end
pub times_last : (states : List State) (t : TriSlot) (x : Edge) → times (states ++ holding t ∷ []) x ≡ times states x + count_by (is_same_edge x) (edges_of (triangle_of t))
times_last [] t x = omega (arith, times_more t [] x)
times_last (None ∷ states) t x = times_last states t x
times_last (Some None ∷ states) t x = times_last states t x
times_last (Some (Some u) ∷ states) t x = omega (arith, times_more u (states ++ holding t ∷ []) x, times_last states t x, times_more u states x)

-- a test of triangles that one of the slots passes
pub any_state : (f : Triangle → Bool) (states : List State) (i : ℕ) (t : TriSlot) → triangle_at states i ≡ Some t → f (triangle_of t) ≡ true → list_any f (triangles_of states) ≡ true
any_state f [] i t e h = absurd (none-some t e)
any_state f (None ∷ states) zero t e h = absurd (none-some t e)
any_state f (None ∷ states) (suc i) t e h = any_state f states i t e h
any_state f (Some None ∷ states) zero t e h = absurd (none-some t e)
any_state f (Some None ∷ states) (suc i) t e h = any_state f states i t e h
any_state f (Some (Some u) ∷ states) zero t e h = or_left (f (triangle_of u)) (list_any f (triangles_of states)) (ap (λ y. f (triangle_of y)) (same_in u t e) ∙ h)
any_state f (Some (Some u) ∷ states) (suc i) t e h = or_right (f (triangle_of u)) (list_any f (triangles_of states)) (any_state f states i t e h)

-- and one that all pass
pub all_states : (f : Triangle → Bool) (states : List State) → ((i : ℕ) (t : TriSlot) → triangle_at states i ≡ Some t → f (triangle_of t) ≡ true) → list_all f (triangles_of states) ≡ true
all_states f [] each = refl
all_states f (None ∷ states) each = all_states f states (λ i. each (suc i))
all_states f (Some None ∷ states) each = all_states f states (λ i. each (suc i))
all_states f (Some (Some u) ∷ states) each = and_from (f (triangle_of u)) (list_all f (triangles_of states)) (each zero u refl) (all_states f states (λ i. each (suc i)))

-- the triangles of states with one more at the end
pub stays_at : (states : List State) (o : State) (i : ℕ) (t : TriSlot) → triangle_at states i ≡ Some t → triangle_at (states ++ o ∷ []) i ≡ Some t
stays_at [] o i t e = absurd (none-some t e)
stays_at (x ∷ states) o zero t e = e
stays_at (x ∷ states) o (suc i) t e = stays_at states o i t e

pub last_at : (states : List State) (t : TriSlot) → triangle_at (states ++ holding t ∷ []) (length states) ≡ Some t
last_at [] t = refl
last_at (x ∷ states) t = last_at states t

pub either_at : (states : List State) (t : TriSlot) (i : ℕ) (u : TriSlot) → triangle_at (states ++ holding t ∷ []) i ≡ Some u → (triangle_at states i ≡ Some u) ⊎ ((i ≡ length states) × (t ≡ u))
either_at [] t zero u e = inr (refl, same_in t u e)
either_at [] t (suc i) u e = absurd (none-some u e)
either_at (x ∷ states) t zero u e = inl e
either_at (x ∷ states) t (suc i) u e = elim (either_at states t i u e) as (λ _. (triangle_at (x ∷ states) (suc i) ≡ Some u) ⊎ ((suc i ≡ length (x ∷ states)) × (t ≡ u))) [
  | inl h ↦ inl h
  | inr h ↦ inr (ap suc h.0, h.1)
]

-- where the triangle of a slot is in their list
pub listed_at : (states : List State) (i : ℕ) (t : TriSlot) → triangle_at states i ≡ Some t → (j : ℕ) × (slice_get (triangles_of states) j ≡ Some (triangle_of t))
listed_at [] i t e = absurd (none-some t e)
listed_at (None ∷ states) zero t e = absurd (none-some t e)
listed_at (None ∷ states) (suc i) t e = listed_at states i t e
listed_at (Some None ∷ states) zero t e = absurd (none-some t e)
listed_at (Some None ∷ states) (suc i) t e = listed_at states i t e
listed_at (Some (Some u) ∷ states) zero t e = (zero, ap (λ y. Some (triangle_of y)) (same_in u t e))
listed_at (Some (Some u) ∷ states) (suc i) t e = let j = listed_at states i t e in (suc j.0, j.1)
