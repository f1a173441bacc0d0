-- A piece over a point that no line has, and its two parts at it.
use Rattle.std.proofs.Common.{◌≡◌, ℕ, ◌<◌, ◌⊎◌, inl, inr, refl, sym, subst, ◌∙◌, List, [], ◌∷◌, Bool, true, false}
use Rattle.std.specs.Prelude.{not, ◌&&◌}
use Rattle.std.proofs.lemmas.Bool.{and_parts, and_from, or_cases, or_left, or_right, both_ways as clash}
use Rattle.ground_model.specs.Place.{Coords, is_same, is_before}
use Rattle.ground_model.specs.Line.{Line, is_point}
use Rattle.ground_model.specs.Side.{is_on_segment}
use Rattle.ground_model.specs.Table.{count_on}
use Rattle.ground_model.specs.Crossings.{is_on_points}
use Rattle.ground_model.proofs.Elements.{In}
use Rattle.ground_model.proofs.LinePieces.{is_same_itself}
use Rattle.ground_model.proofs.Segments.{not_after}
use Rattle.ground_model.proofs.Ties.{same_of_is_same}
use Rattle.cdt_law.proofs.Counts.{both_ways}
use Rattle.cdt_law.proofs.LineTimes.{AreNext}
use Rattle.cdt_law.proofs.LongerPieces.{Inside}
use Rattle.cdt_law.proofs.PointCounts.{Between, inside-between, inside-between-back, both-even, counted-first, counted-clear, next-clear, half}

-- what lies between two places lies on the segment from the one to the other
inside_or_not : (u v x : Coords) → Inside u v x ⊎ (Inside u v x → ⊥)
inside_or_not u v x = test (is_on_segment u v x && is_before u x && is_before x v) refl
  where
    test : (t : Bool) → (is_on_segment u v x && is_before u x && is_before x v) ≡ t → Inside u v x ⊎ (Inside u v x → ⊥)
    test true e =
        let outer = and_parts (is_on_segment u v x && is_before u x) (is_before x v) e in
        let inner = and_parts (is_on_segment u v x) (is_before u x) outer.0 in
        inl (record { on = inner.0; after = inner.1; before = outer.1 })
    test false e = inr (λ h. clash (is_on_segment u v x && is_before u x && is_before x v) e (and_from (is_on_segment u v x && is_before u x) (is_before x v) (and_from (is_on_segment u v x) (is_before u x) h.on h.after) h.before))

itself : (u : Coords) → is_before u u ≡ true → ⊥
itself u e = clash (is_before u u) (not_after u u e) e

pub opened : (u v x : Coords) → Between u v x → Inside u v x ⊎ Inside v u x
opened u v x b = elim (inside_or_not u v x) as (λ _. Inside u v x ⊎ Inside v u x) [
  | inl h ↦ inl h
  | inr not_on ↦ elim (inside_or_not v u x) as (λ _. Inside u v x ⊎ Inside v u x) [
    | inl h ↦ inr h
    | inr not_back ↦ absurd (next-clear (u ∷ v ∷ x ∷ []) u v x (next not_on not_back) (or_right _ _ (or_right _ _ (or_left _ _ (is_same_itself x)))) b)
  ]
]
  where
    -- none of the three lies inside
    clear : (s t y : Coords) → (Inside s t x → ⊥) → (y ≡ u) ⊎ ((y ≡ v) ⊎ (y ≡ x)) → ((s ≡ u) × (t ≡ v)) ⊎ ((s ≡ v) × (t ≡ u)) → Inside s t y → ⊥
    clear s t y none (inl e) (inl f) h = itself s (subst (λ (k : Coords). is_before s k ≡ true) (e ∙ sym f.0) h.after)
    clear s t y none (inl e) (inr f) h = itself t (subst (λ (k : Coords). is_before k t ≡ true) (e ∙ sym f.1) h.before)
    clear s t y none (inr (inl e)) (inl f) h = itself t (subst (λ (k : Coords). is_before k t ≡ true) (e ∙ sym f.1) h.before)
    clear s t y none (inr (inl e)) (inr f) h = itself s (subst (λ (k : Coords). is_before s k ≡ true) (e ∙ sym f.0) h.after)
    clear s t y none (inr (inr e)) f h = none (subst (λ (k : Coords). Inside s t k) e h)

    which : (y : Coords) → is_point (u ∷ v ∷ x ∷ []) y ≡ true → (y ≡ u) ⊎ ((y ≡ v) ⊎ (y ≡ x))
    which y h = elim (or_cases (is_same y u) (is_point (v ∷ x ∷ []) y) h) as (λ _. (y ≡ u) ⊎ ((y ≡ v) ⊎ (y ≡ x))) [
      | inl e ↦ inl (same_of_is_same y u e)
      | inr g ↦ elim (or_cases (is_same y v) (is_point (x ∷ []) y) g) as (λ _. (y ≡ u) ⊎ ((y ≡ v) ⊎ (y ≡ x))) [
        | inl e ↦ inr (inl (same_of_is_same y v e))
        | inr k ↦ elim (or_cases (is_same y x) false k) as (λ _. (y ≡ u) ⊎ ((y ≡ v) ⊎ (y ≡ x))) [
          | inl e ↦ inr (inr (same_of_is_same y x e))
          | inr e ↦ cc
        ]
      ]
    ]

    next : (Inside u v x → ⊥) → (Inside v u x → ⊥) → AreNext (u ∷ v ∷ x ∷ []) u v
    next not_on not_back = record {
      first = or_left _ _ (is_same_itself u);
      last = or_right _ _ (or_left _ _ (is_same_itself v));
      clear = λ y at h. clear u v y not_on (which y at) (inl (refl, refl)) h;
      clear_back = λ y at h. clear v u y not_back (which y at) (inr (refl, refl)) h;
    }

pub between_back : (u v x : Coords) → Between u v x → Between v u x
between_back u v x b = elim (opened u v x b) as (λ _. Between v u x) [
  | inl h ↦ inside-between-back v u x h
  | inr h ↦ inside-between v u x h
]

pub between_two : (u x : Coords) → Between u u x → ⊥
between_two u x b = elim (opened u u x b) as (λ _. ⊥) [
  | inl h ↦ clash (is_before x u) (not_after u x h.after) h.before
  | inr h ↦ clash (is_before x u) (not_after u x h.after) h.before
]

module _ (fewer more : List Coords) (lines : List Line) (p : Coords)
    (without : (x : Coords) → is_point fewer x ≡ (is_point more x && not (is_same p x))) (at_p : is_point more p ≡ true) (on : (line : Line) → In line lines → is_on_points fewer line ≡ true) where
  pub next_of : (q r : Coords) → 0 < both_ways (count_on fewer lines) q r → AreNext fewer q r
  next_of q r some = record {
    first = counted-first fewer lines q r some;
    last = counted-first fewer lines r q (subst (λ k. 0 < k) (both-even (count_on fewer lines) q r) some);
    clear = λ x at_x h. counted-clear fewer lines q r x at_x some (inside-between q r x h);
    clear_back = λ x at_x h. counted-clear fewer lines q r x at_x some (inside-between-back q r x h);
  }

  -- each part has the count of the whole
  pub as_whole_last : (q r : Coords) → Between q r p → 0 < both_ways (count_on fewer lines) q r → both_ways (count_on more lines) p r ≡ both_ways (count_on fewer lines) q r
  as_whole_last q r b some = half more fewer p without at_p lines on q r (next_of q r some) b

  pub as_whole_first : (q r : Coords) → Between q r p → 0 < both_ways (count_on fewer lines) q r → both_ways (count_on more lines) p q ≡ both_ways (count_on fewer lines) q r
  as_whole_first q r b some = as_whole_last r q (between_back q r p b) (subst (λ k. 0 < k) (both-even (count_on fewer lines) q r) some) ∙ both-even (count_on fewer lines) r q
