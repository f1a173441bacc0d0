-- Edges that are locally Delaunay, and what a step leaves suspect.
use Rattle.std.proofs.Common.{◌≡◌, ◌⊎◌, ◌≤◌, ◌+◌, ℕ, suc, zero, false, true, Some, None, List, [], ◌∷◌, ◌++◌, length, get_or, sym, ap, ◌∙◌, inl, inr, subst, arith}
use Rattle.std.specs.Ordering.{is_gt}
use Rattle.std.specs.Prelude.{ℤ, pos, ◌≤ℤ◌, ◌<ℤ◌}
use Rattle.std.specs.List.{slice_get}
use Rattle.std.specs.Option.{option_map}
use Rattle.std.proofs.lemmas.Int.{ints}
use Rattle.std.proofs.lemmas.Bool.{cases_eq}
use Rattle.std.proofs.lemmas.Option.{none-some, slice_get_within}
use Rattle.ground_model.specs.declared.corner.Corner.{Corner}
use Rattle.ground_model.specs.declared.corner.Corner.TheVariants.{Far}
use Rattle.ground_model.specs.Corner.{corner_at as place_of, corner_side, is_corner_inside}
use Rattle.ground_model.specs.Side.{is_left}
use Rattle.predicates.proofs.Compared.{cmp_greater}
use Rattle.predicates.proofs.Heights.{lift, deep}
use Rattle.predicates.proofs.InsideDepths.{outside-shallow, shallow-outside}
use Rattle.cdt_law.proofs.FlipLaws.{depth-exchanged}
use Rattle.tri_pages.specs.declared.tri_slot.TriSlot.{TriSlot}
use Rattle.tri_pages.specs.Slots.{State, triangle_at}
use Rattle.mesh.specs.Acrosses.{apex, IsAcross}
use Rattle.mesh.specs.Faces.{face, face_at}
use Rattle.mesh.specs.Meshes.{IsMesh}
use Rattle.mesh.specs.Net.{Side, after, place, corner_at, count_at, next_at, edge, edge_of, slots_of, outside}
use Rattle.mesh.specs.Suspects.{AreOver, IsLegal, IsLegalAt, IsDoneAt, IsDoneSlot, AreLegal, IsNamedFrom, AreSuspectsFrom}
use Rattle.mesh.proofs.Corners.{owner}
use Rattle.mesh.proofs.Filled.{Faced, faced}
use Rattle.mesh.proofs.LineSides.{across_one}
use Rattle.mesh.proofs.NamedEdges.{same_in}
use Rattle.mesh.proofs.SheetLaw.{standing, real}
use Rattle.mesh.proofs.Slots.{slot_in}

along : (x y : ℤ) → x ≡ y → y ≤ℤ pos 0 → x ≤ℤ pos 0
along x y e h = omega (arith, ints, e, h)

-- from both sides of an edge it is the same
pub outside_back : (a b c d : Corner) → is_corner_inside b a d c ≡ false → is_corner_inside a b c d ≡ false
outside_back a b c d e = shallow-outside a b c d (along (deep a b c d) (deep b a d c) (depth-exchanged (lift a) (lift b) (lift c) (lift d)) (outside-shallow b a d c e))

module _ (slots : List State) (mesh : IsMesh slots) where
  -- two triangles over one edge stand across it
  pub facing : (s : ℕ) (t : TriSlot) (k : Side) (n : ℕ) (u : TriSlot) (j : Side) → triangle_at slots s ≡ Some t → triangle_at slots n ≡ Some u → corner_at u j ≡ corner_at t (after k) → corner_at u (after j) ≡ corner_at t k → IsAcross slots t k n u j
  facing s t k n u j here there starts ends =
      let at_n = standing slots mesh n u there in
      let m = mesh.net.met s k (edge t k) (ap (λ o. edge_of o k) (standing slots mesh s t here)) in
      let same = mesh.net.one n m.slot j m.side (edge u j) m.edge (ap (λ o. edge_of o j) at_n) m.there (starts ∙ sym m.back_tail) (ends ∙ sym m.back_head) in
      let o = owner (slots_of slots m.slot) m.side m.edge m.there in
      let tri : u ≡ o.tri = same_in u o.tri (sym at_n ∙ ap (slots_of slots) same.0 ∙ o.there) in
      record {
        slot_is = same.0 ∙ sym (m.next_is (real slots mesh s t here) (λ z. z));
        there = there;
        starts = starts;
        ends = ends;
        same_count = (λ i. count_at (tri i) (same.1 i)) ∙ ap (λ e. e.count) o.edge_is ∙ m.same_count;
      }

  -- so do those of an edge that is no piece
  abbrev pub over_across : (s : ℕ) (k : Side) (n : ℕ) (x : AreOver slots s k n) → IsAcross slots x.tri k n x.beyond x.back
  over_across s k n x = facing s x.tri k n x.beyond x.back x.here x.there x.starts x.ends

  -- what stands across an edge without a count is over it
  abbrev pub across_over : (s : ℕ) (t : TriSlot) (k : Side) (n : ℕ) (u : TriSlot) (j : Side) → triangle_at slots s ≡ Some t → IsAcross slots t k n u j → count_at t k ≡ 0 → AreOver slots s k n
  across_over s t k n u j here x free = record { tri = t; beyond = u; back = j; here = here; there = x.there; starts = x.starts; ends = x.ends; free = free }

  -- the edge, seen from the other side
  abbrev pub over_back : (s : ℕ) (k : Side) (n : ℕ) (x : AreOver slots s k n) → AreOver slots n x.back s
  over_back s k n x = record { tri = x.beyond; beyond = x.tri; back = k; here = x.there; there = x.here; starts = sym x.ends; ends = sym x.starts; free = (over_across s k n x).same_count ∙ x.free }

  pub legal_back : (s : ℕ) (k : Side) (n : ℕ) (x : AreOver slots s k n) → IsLegal slots n x.back s (over_back s k n x) → IsLegal slots s k n x
  legal_back s k n x h = outside_back (corner_at x.tri k) (corner_at x.tri (after k)) (apex x.tri k) (apex x.beyond x.back)
      ((λ i. is_corner_inside (sym x.starts i) (sym x.ends i) (apex x.beyond x.back) (apex x.tri k)) ∙ h)

  -- an edge with a count is no matter
  pub legal_counted : (s : ℕ) (t : TriSlot) (k : Side) → triangle_at slots s ≡ Some t → (count_at t k ≡ 0 → ⊥) → IsLegalAt slots s k
  legal_counted s t k here counted = λ n x. absurd (counted (ap (λ y. count_at y k) (same_in t x.tri (sym here ∙ x.here)) ∙ x.free))

  -- nor is one of the far triangle
  pub legal_rim : (s : ℕ) (t : TriSlot) (k : Side) → triangle_at slots s ≡ Some t → next_at t k ≡ outside → IsLegalAt slots s k
  legal_rim s t k here out = λ n x. absurd (real slots mesh n x.beyond x.there ((over_across s k n x).slot_is ∙ ap (λ y. next_at y k) (same_in x.tri t (sym x.here ∙ here)) ∙ out))

  -- a slot without a triangle has none
  pub done_free : (script : List ℕ) (start s : ℕ) → triangle_at slots s ≡ None → IsDoneSlot slots script start s
  done_free script start s none = λ k n x. absurd (none-some x.tri (sym none ∙ x.here))

  -- an edge whose other slot comes later is done with
  pub done_later : (script : List ℕ) (start s : ℕ) (t : TriSlot) (k : Side) → triangle_at slots s ≡ Some t → IsNamedFrom script start (next_at t k) → IsDoneAt slots script start s k
  done_later script start s t k here named = λ n x.
      let is : next_at t k ≡ n = ap (λ y. next_at y k) (same_in t x.tri (sym here ∙ x.here)) ∙ sym (over_across s k n x).slot_is in
      inr (subst (λ i. IsNamedFrom script start i) is named)

  pub done_legal : (script : List ℕ) (start s : ℕ) (k : Side) → IsLegalAt slots s k → IsDoneAt slots script start s k
  done_legal script start s k legal = λ n x. inl (legal n x)

  -- what was read across decides
  pub legal_read : (s : ℕ) (t : TriSlot) (k : Side) (n : ℕ) (u : TriSlot) (j : Side) → triangle_at slots s ≡ Some t → IsAcross slots t k n u j → is_corner_inside (corner_at t k) (corner_at t (after k)) (apex t k) (apex u j) ≡ false → IsLegalAt slots s k
  legal_read s t k n u j here across h = λ m x.
      let tri : x.tri ≡ t = same_in x.tri t (sym x.here ∙ here) in
      let y = subst (λ w. IsAcross slots w k m x.beyond x.back) tri (over_across s k m x) in
      let same = across_one slots mesh t k m x.beyond x.back n u j y across in
      (λ i. is_corner_inside (corner_at (tri i) k) (corner_at (tri i) (after k)) (apex (tri i) k) (apex (same.0 i) (same.1 i))) ∙ h

  -- an edge of a slot that is done with, from either side
  looked_by : (script : List ℕ) (start s m n : ℕ) (k : Side) (x : AreOver slots m k n) → IsDoneSlot slots script start s → (s ≡ m) ⊎ (s ≡ n) → IsLegal slots m k n x ⊎ (IsNamedFrom script start m ⊎ IsNamedFrom script start n)
  looked_by script start s m n k x done (inl e) = elim (subst (λ i. IsDoneSlot slots script start i) e done k n x) as (λ _. IsLegal slots m k n x ⊎ (IsNamedFrom script start m ⊎ IsNamedFrom script start n)) [
    | inl h ↦ inl h
    | inr w ↦ inr (inr w)
  ]
  looked_by script start s m n k x done (inr e) = elim (subst (λ i. IsDoneSlot slots script start i) e done x.back m (over_back m k n x)) as (λ _. IsLegal slots m k n x ⊎ (IsNamedFrom script start m ⊎ IsNamedFrom script start n)) [
    | inl h ↦ inl (legal_back m k n x h)
    | inr w ↦ inr (inl w)
  ]

  -- a slot that was looked at is suspect no more
  pub looked_at : (script : List ℕ) (start s : ℕ) → slice_get script start ≡ Some s → IsDoneSlot slots script (start + 1) s → AreSuspectsFrom slots script start → AreSuspectsFrom slots script (start + 1)
  looked_at script start s at done suspects = λ m k n x. elim (suspects m k n x) as (λ _. IsLegal slots m k n x ⊎ (IsNamedFrom script (start + 1) m ⊎ IsNamedFrom script (start + 1) n)) [
    | inl h ↦ inl h
    | inr named ↦ elim named as (λ _. IsLegal slots m k n x ⊎ (IsNamedFrom script (start + 1) m ⊎ IsNamedFrom script (start + 1) n)) [
      | inl w ↦ elim (cases_eq w.index start) as (λ _. IsLegal slots m k n x ⊎ (IsNamedFrom script (start + 1) m ⊎ IsNamedFrom script (start + 1) n)) [
        | inl e ↦ looked_by script (start + 1) s m n k x done (inl (same_in s m (sym at ∙ ap (slice_get script) (sym e) ∙ w.at)))
        | inr ne ↦ inr (inl (record { index = w.index; later = omega (arith, ne, w.later); at = w.at }))
      ]
      | inr w ↦ elim (cases_eq w.index start) as (λ _. IsLegal slots m k n x ⊎ (IsNamedFrom script (start + 1) m ⊎ IsNamedFrom script (start + 1) n)) [
        | inl e ↦ looked_by script (start + 1) s m n k x done (inr (same_in s n (sym at ∙ ap (slice_get script) (sym e) ∙ w.at)))
        | inr ne ↦ inr (inr (record { index = w.index; later = omega (arith, ne, w.later); at = w.at }))
      ]
    ]
  ]

-- where none is suspect all are legal
pub all_legal : (slots : List State) (script : List ℕ) (start : ℕ) → length script ≤ start → AreSuspectsFrom slots script start → AreLegal slots
all_legal slots script start past suspects = λ s k n x. elim (suspects s k n x) as (λ _. IsLegal slots s k n x) [
  | inl h ↦ h
  | inr named ↦ elim named as (λ _. IsLegal slots s k n x) [
    | inl w ↦ absurd (omega (arith, past, w.later, slice_get_within script w.index s w.at))
    | inr w ↦ absurd (omega (arith, past, w.later, slice_get_within script w.index n w.at))
  ]
]

-- ---- what a step leaves
corner_as : (t u : TriSlot) (k : Side) → face t ≡ face u → corner_at t k ≡ corner_at u k
corner_as t u k e = ap (λ f. get_or f.corners (place k) (Far 0)) e

count_as : (t u : TriSlot) (k : Side) → face t ≡ face u → count_at t k ≡ count_at u k
count_as t u k e = ap (λ f. get_or f.counts (place k) 0) e

pub kept_face : (old new : List State) (s : ℕ) (t : TriSlot) → IsMesh new → face_at (slots_of new) s ≡ face_at (slots_of old) s → triangle_at new s ≡ Some t → Faced (triangle_at old s) (face t)
kept_face old new s t mesh kept there =
    let w = faced (slots_of old s) (face t) (sym kept ∙ ap (option_map face) (standing new mesh s t there)) in
    record { tri = w.tri; is = sym (slot_in old s (real new mesh s t there)) ∙ w.is; same = w.same }

kept_legal : (old new : List State) (s : ℕ) (k : Side) (n : ℕ) → (P : Type 0) → IsMesh new → face_at (slots_of new) s ≡ face_at (slots_of old) s → face_at (slots_of new) n ≡ face_at (slots_of old) n → (x : AreOver new s k n)
    → ((y : AreOver old s k n) → IsLegal old s k n y ⊎ P) → IsLegal new s k n x ⊎ P
kept_legal old new s k n P mesh at_s at_n x before =
    let t = kept_face old new s x.tri mesh at_s x.here in
    let u = kept_face old new n x.beyond mesh at_n x.there in
    let y : AreOver old s k n = record {
      tri = t.tri;
      beyond = u.tri;
      back = x.back;
      here = t.is;
      there = u.is;
      starts = corner_as u.tri x.beyond x.back u.same ∙ x.starts ∙ sym (corner_as t.tri x.tri (after k) t.same);
      ends = corner_as u.tri x.beyond (after x.back) u.same ∙ x.ends ∙ sym (corner_as t.tri x.tri k t.same);
      free = count_as t.tri x.tri k t.same ∙ x.free;
    } in
    elim (before y) as (λ _. IsLegal new s k n x ⊎ P) [
      | inl h ↦ inl ((λ i. is_corner_inside (sym (corner_as t.tri x.tri k t.same) i) (sym (corner_as t.tri x.tri (after k) t.same) i) (sym (corner_as t.tri x.tri (after (after k)) t.same) i) (sym (corner_as u.tri x.beyond (after (after x.back)) u.same) i)) ∙ h)
      | inr h ↦ inr h
    ]

-- each slot with a triangle is named, or keeps its face
abbrev pub AreNamedOrKept : (old new : List State) (script : List ℕ) (start : ℕ) → Type 0
AreNamedOrKept old new script start = (i : ℕ) (t : TriSlot) → triangle_at new i ≡ Some t → IsNamedFrom script start i ⊎ (face_at (slots_of new) i ≡ face_at (slots_of old) i)

named_either : (old : List State) (before after_it : List ℕ) (p q : ℕ) (s : ℕ) (k : Side) (n : ℕ) → ((i : ℕ) → IsNamedFrom before p i → IsNamedFrom after_it q i) → AreSuspectsFrom old before p
    → (y : AreOver old s k n) → IsLegal old s k n y ⊎ (IsNamedFrom after_it q s ⊎ IsNamedFrom after_it q n)
named_either old before after_it p q s k n stays suspects y = elim (suspects s k n y) as (λ _. IsLegal old s k n y ⊎ (IsNamedFrom after_it q s ⊎ IsNamedFrom after_it q n)) [
  | inl h ↦ inl h
  | inr named ↦ elim named as (λ _. IsLegal old s k n y ⊎ (IsNamedFrom after_it q s ⊎ IsNamedFrom after_it q n)) [ inl w ↦ inr (inl (stays s w)) | inr w ↦ inr (inr (stays n w)) ]
]

-- so no edge becomes illegal unnamed
pub suspects_kept : (old new : List State) (before after_it : List ℕ) (p q : ℕ) → IsMesh new → AreNamedOrKept old new after_it q → ((i : ℕ) → IsNamedFrom before p i → IsNamedFrom after_it q i) → AreSuspectsFrom old before p → AreSuspectsFrom new after_it q
suspects_kept old new before after_it p q mesh each stays suspects = λ s k n x. elim (each s x.tri x.here) as (λ _. IsLegal new s k n x ⊎ (IsNamedFrom after_it q s ⊎ IsNamedFrom after_it q n)) [
  | inl w ↦ inr (inl w)
  | inr at_s ↦ elim (each n x.beyond x.there) as (λ _. IsLegal new s k n x ⊎ (IsNamedFrom after_it q s ⊎ IsNamedFrom after_it q n)) [
    | inl w ↦ inr (inr w)
    | inr at_n ↦ kept_legal old new s k n (IsNamedFrom after_it q s ⊎ IsNamedFrom after_it q n) mesh at_s at_n x (named_either old before after_it p q s k n stays suspects)
  ]
]

-- ---- longer scripts
stays_on : (xs ys : List ℕ) (i s : ℕ) → slice_get xs i ≡ Some s → slice_get (xs ++ ys) i ≡ Some s
stays_on [] ys i s e = absurd (none-some s e)
stays_on (x ∷ xs) ys zero s e = e
stays_on (x ∷ xs) ys (suc i) s e = stays_on xs ys i s e

comes_on : (xs ys : List ℕ) (i s : ℕ) → slice_get ys i ≡ Some s → slice_get (xs ++ ys) (length xs + i) ≡ Some s
comes_on [] ys i s e =
    let at : i ≡ 0 + i = omega arith in
    subst (λ k. slice_get ys k ≡ Some s) at e
comes_on (x ∷ xs) ys i s e =
    let at : suc (length xs + i) ≡ length (x ∷ xs) + i = omega arith in
    subst (λ k. slice_get (x ∷ xs ++ ys) k ≡ Some s) at (comes_on xs ys i s e)

pub named_on : (xs ys : List ℕ) (start s : ℕ) → IsNamedFrom xs start s → IsNamedFrom (xs ++ ys) start s
named_on xs ys start s w = record { index = w.index; later = w.later; at = stays_on xs ys w.index s w.at }

pub named_now : (xs ys : List ℕ) (start i s : ℕ) → start ≤ length xs → slice_get ys i ≡ Some s → IsNamedFrom (xs ++ ys) start s
named_now xs ys start i s le e = record { index = length xs + i; later = omega (arith, le); at = comes_on xs ys i s e }

-- a counterclockwise triangle passes the test
pub left_test : (a b c : Corner) → pos 0 <ℤ corner_side a b c → is_left (place_of a) (place_of b) (place_of c) ≡ true
left_test a b c h = ap is_gt (cmp_greater (corner_side a b c) h)
