-- The counts of a content with a point less are those of the mesh that it was taken out of.
use Rattle.std.proofs.Common.{◌≡◌, ℕ, zero, suc, ◌<◌, ◌⊎◌, inl, inr, refl, sym, ap, subst, ◌∙◌, arith, List, Bool, true, false}
use Rattle.std.specs.Prelude.{not, ◌&&◌}
use Rattle.std.proofs.lemmas.Bool.{both_ways as clash}
use Rattle.ground_model.specs.declared.corner.Corner.{Corner}
use Rattle.ground_model.specs.declared.corner.Corner.TheVariants.{At}
use Rattle.ground_model.specs.Corner.{is_same_corner}
use Rattle.ground_model.specs.Place.{Coords, is_same}
use Rattle.ground_model.specs.Line.{Line, is_point}
use Rattle.ground_model.specs.Table.{count_on}
use Rattle.ground_model.specs.Crossings.{is_on_points}
use Rattle.ground_model.proofs.Elements.{In}
use Rattle.predicates.specs.Net.{Net, count_of}
use Rattle.predicates.specs.Sheet.{IsSheet}
use Rattle.predicates.proofs.Edges.{corner-equal, corner-self}
use Rattle.cdt_law.proofs.Counts.{both_ways}
use Rattle.cdt_law.proofs.PointCounts.{Between, between-or-not, both-even, none-between-counted, same-beside, Whole, whole-of}
use Rattle.cdt_law.proofs.PointEdits.{none-at, gone-end}
use Rattle.cdt_law.proofs.Standing.{next-on}
use Rattle.mesh.specs.NetChanges.{HaveSameCounts, HasSplitEdge, IsPair}
use Rattle.point_edit.proofs.Added.{zero_by, place_is, is_it}
use Rattle.point_edit.proofs.Halves.{between_two, as_whole_last, as_whole_first}

never_none : (n : ℕ) → n ≡ 0 → 0 < n → ⊥
never_none n e h = omega (arith, e, h)

same_or_not : (c d : Corner) → (c ≡ d) ⊎ (c ≡ d → ⊥)
same_or_not c d = by (is_same_corner c d) refl
  where
    by : (t : Bool) → is_same_corner c d ≡ t → (c ≡ d) ⊎ (c ≡ d → ⊥)
    by true e = inl (corner-equal c d e)
    by false e = inr (λ same. clash (is_same_corner c d) e (ap (λ (x : Corner). is_same_corner c x) (sym same) ∙ corner-self c))

module _ (fewer more : List Coords) (lines : List Line) (p : Coords) (old new : Net)
    (without : (x : Coords) → is_point fewer x ≡ (is_point more x && not (is_same p x))) (at_p : is_point more p ≡ true) (on : (line : Line) → In line lines → is_on_points fewer line ≡ true)
    (sheet : IsSheet new) (gone : is_point new.points p ≡ false) (counts : (q r : Coords) → old.count q r ≡ both_ways (count_on more lines) q r) where
  abbrev with_p : Coords → Coords → ℕ
  with_p q r = both_ways (count_on more lines) q r

  abbrev without_p : Coords → Coords → ℕ
  without_p q r = both_ways (count_on fewer lines) q r

  to_last : (q r : Coords) → Between q r p → 0 < without_p q r → with_p p r ≡ without_p q r
  to_last = as_whole_last fewer more lines p without at_p on

  to_first : (q r : Coords) → Between q r p → 0 < without_p q r → with_p p q ≡ without_p q r
  to_first = as_whole_first fewer more lines p without at_p on

  none_new : (r : Coords) → new.count p r ≡ 0
  none_new r = zero_by (new.count p r) (λ some. clash (is_point new.points p) gone (next-on new sheet p r (sheet.pieces p r some)).first)

  none_left : (r : Coords) → without_p p r ≡ 0
  none_left r = none-at fewer lines p r (gone-end more fewer p (record { without = without; at_c = at_p }))

  at_end : (q r : Coords) → (q ≡ p) ⊎ (r ≡ p) → new.count q r ≡ without_p q r
  at_end q r (inl e) = subst (λ k. new.count k r ≡ without_p k r) (sym e) (none_new r ∙ sym (none_left r))
  at_end q r (inr e) = subst (λ k. new.count q k ≡ without_p q k) (sym e) (sheet.even q p ∙ none_new q ∙ sym (none_left q) ∙ both-even (count_on fewer lines) p q)

  -- an edge whose count stays, where the content has no piece over p from end to end
  beside : (q r : Coords) → (q ≡ p → ⊥) → (r ≡ p → ⊥) → new.count q r ≡ old.count q r → (Between q r p → 0 < without_p q r → ⊥) → new.count q r ≡ without_p q r
  beside q r not_q not_r same none = elim (between-or-not q r p) as (λ _. new.count q r ≡ without_p q r) [
    | inl b ↦ same ∙ counts q r ∙ none-between-counted more lines q r p at_p b ∙ sym (zero_by (without_p q r) (none b))
    | inr not_in ↦ same ∙ counts q r ∙ same-beside more fewer p without at_p lines q r not_q not_r not_in
  ]

  counted : ((q r : Coords) → (q ≡ p → ⊥) → (r ≡ p → ⊥) → new.count q r ≡ without_p q r) → (q r : Coords) → new.count q r ≡ without_p q r
  counted further q r = elim (is_it q p) as (λ _. new.count q r ≡ without_p q r) [
    | inl e ↦ at_end q r (inl e)
    | inr not_q ↦ elim (is_it r p) as (λ _. new.count q r ≡ without_p q r) [
      | inl e ↦ at_end q r (inr e)
      | inr not_r ↦ further q r not_q not_r
    ]
  ]

  -- no piece ended at p
  pub alone : HaveSameCounts old new → (q r : Coords) → new.count q r ≡ without_p q r
  alone same = counted (λ q r not_q not_r. beside q r not_q not_r (same q r) (λ b some.
      never_none (old.count p r) (sym (same p r) ∙ none_new r) (subst (λ k. 0 < k) (sym (counts p r ∙ to_last q r b some)) some)))

  -- two did, or the edge over p is no piece
  module _ (a b : Corner) (x : HasSplitEdge new old a b p) where
    -- what has a count at p is an end of the edge
    is_end : (q : Coords) → (q ≡ p → ⊥) → 0 < old.count p q → (At q ≡ a) ⊎ (At q ≡ b)
    is_end q not_p some = elim (same_or_not (At q) a) as (λ _. (At q ≡ a) ⊎ (At q ≡ b)) [
      | inl e ↦ inl e
      | inr not_a ↦ elim (same_or_not (At q) b) as (λ _. (At q ≡ a) ⊎ (At q ≡ b)) [
        | inl e ↦ inr e
        | inr not_b ↦ absurd (never_none (old.count p q) (x.rest p q
            (λ h. elim h as (λ _. ⊥) [ inl y ↦ not_p (place_is q p y.1) | inr y ↦ not_a y.1 ])
            (λ h. elim h as (λ _. ⊥) [ inl y ↦ not_b y.1 | inr y ↦ not_p (place_is q p y.1) ])
            (λ h. elim h as (λ _. ⊥) [ inl y ↦ not_b y.1 | inr y ↦ not_a y.1 ]) ∙ none_new q) some)
      ]
    ]

    old_some : (q r : Coords) → Between q r p → 0 < without_p q r → (0 < old.count p q) × (0 < old.count p r)
    old_some q r over some = (subst (λ k. 0 < k) (sym (counts p q ∙ to_first q r over some)) some, subst (λ k. 0 < k) (sym (counts p r ∙ to_last q r over some)) some)

    both_ends : (q r : Coords) → (q ≡ p → ⊥) → (r ≡ p → ⊥) → (IsPair a b (At q) (At r) → ⊥) → Between q r p → 0 < without_p q r → ⊥
    both_ends q r not_q not_r not_pair over some =
        let s = old_some q r over some in
        elim (is_end q not_q s.0) as (λ _. ⊥) [
          | inl qa ↦ elim (is_end r not_r s.1) as (λ _. ⊥) [
            | inl ra ↦ between_two q p (subst (λ (k : Coords). Between q k p) (place_is r q (ra ∙ sym qa)) over)
            | inr rb ↦ not_pair (inl (qa, rb))
          ]
          | inr qb ↦ elim (is_end r not_r s.1) as (λ _. ⊥) [
            | inl ra ↦ not_pair (inr (qb, ra))
            | inr rb ↦ between_two q p (subst (λ (k : Coords). Between q k p) (place_is r q (rb ∙ sym qb)) over)
          ]
        ]

    beside_edge : (q r : Coords) → (q ≡ p → ⊥) → (r ≡ p → ⊥) → (IsPair a b (At q) (At r) → ⊥) → new.count q r ≡ without_p q r
    beside_edge q r not_q not_r not_pair = beside q r not_q not_r (sym (x.rest q r
        (λ h. elim h as (λ _. ⊥) [ inl y ↦ not_r (place_is r p y.1) | inr y ↦ not_q (place_is q p y.0) ])
        (λ h. elim h as (λ _. ⊥) [ inl y ↦ not_q (place_is q p y.0) | inr y ↦ not_r (place_is r p y.1) ]) not_pair)) (both_ends q r not_q not_r not_pair)

    -- the edge itself
    whole : (q r : Coords) → (q ≡ p → ⊥) → (r ≡ p → ⊥) → At q ≡ a → At r ≡ b → with_p p q ≡ without_p q r
    whole q r not_q not_r qa rb = by (with_p p q) refl
      where
        is_whole : old.count q r ≡ 0
        is_whole = (λ i. count_of old (qa i) (rb i)) ∙ x.whole

        none_over : with_p p q ≡ 0 → 0 < without_p q r → ⊥
        none_over none some = elim (between-or-not q r p) as (λ _. ⊥) [
          | inl over ↦ never_none (without_p q r) (sym (to_first q r over some) ∙ none) some
          | inr not_in ↦ never_none (without_p q r) (sym (same-beside more fewer p without at_p lines q r not_q not_r not_in) ∙ sym (counts q r) ∙ is_whole) some
        ]

        from_whole : (w : Whole more fewer p without at_p lines on q) → with_p p q ≡ without_p q r
        from_whole w =
            let toward = to_last w.x q w.between w.some in
            let back = subst (λ k. 0 < k) (sym (counts p w.x ∙ to_first w.x q w.between w.some)) w.some in
            elim (is_end w.x (λ e. never_none (without_p w.x q) (ap (λ (k : Coords). without_p k q) e ∙ none_left q) w.some) back) as (λ _. with_p p q ≡ without_p q r) [
              | inl xa ↦ absurd (between_two q p (subst (λ (k : Coords). Between k q p) (place_is w.x q (xa ∙ sym qa)) w.between))
              | inr xb ↦ toward ∙ ap (λ (k : Coords). without_p k q) (place_is w.x r (xb ∙ sym rb)) ∙ both-even (count_on fewer lines) r q
            ]

        by : (n : ℕ) → with_p p q ≡ n → with_p p q ≡ without_p q r
        by zero e = e ∙ sym (zero_by (without_p q r) (none_over e))
        by (suc n) e = from_whole (whole-of more fewer p without at_p lines on q (omega (arith, e)))

    pub joined : (q r : Coords) → new.count q r ≡ without_p q r
    joined = counted (λ q r not_q not_r. elim (same_or_not (At q) a) as (λ _. new.count q r ≡ without_p q r) [
      | inl qa ↦ elim (same_or_not (At r) b) as (λ _. new.count q r ≡ without_p q r) [
        | inl rb ↦ edge_count q r qa rb ∙ whole q r not_q not_r qa rb
        | inr not_b ↦ elim (same_or_not (At q) b) as (λ _. new.count q r ≡ without_p q r) [
          | inl qb ↦ beside_edge q r not_q not_r (λ h. elim h as (λ _. ⊥) [ inl y ↦ not_b y.1 | inr y ↦ not_b (y.1 ∙ sym qa ∙ qb) ])
          | inr not_qb ↦ beside_edge q r not_q not_r (λ h. elim h as (λ _. ⊥) [ inl y ↦ not_b y.1 | inr y ↦ not_qb y.0 ])
        ]
      ]
      | inr not_a ↦ elim (same_or_not (At q) b) as (λ _. new.count q r ≡ without_p q r) [
        | inl qb ↦ elim (same_or_not (At r) a) as (λ _. new.count q r ≡ without_p q r) [
          | inl ra ↦ sheet.even q r ∙ edge_count r q ra qb ∙ whole r q not_r not_q ra qb ∙ both-even (count_on fewer lines) r q
          | inr not_ra ↦ beside_edge q r not_q not_r (λ h. elim h as (λ _. ⊥) [ inl y ↦ not_a y.0 | inr y ↦ not_ra y.1 ])
        ]
        | inr not_qb ↦ beside_edge q r not_q not_r (λ h. elim h as (λ _. ⊥) [ inl y ↦ not_a y.0 | inr y ↦ not_qb y.0 ])
      ]
    ])
      where
        even_with : (q : Coords) → with_p q p ≡ with_p p q
        even_with q = both-even (count_on more lines) q p

        edge_count : (q r : Coords) → At q ≡ a → At r ≡ b → new.count q r ≡ with_p p q
        edge_count q r qa rb = (λ i. count_of new (qa i) (rb i)) ∙ sym x.start ∙ (λ i. count_of old (sym qa i) (At p)) ∙ counts q p ∙ even_with q
