-- The counts of a content with a point more are those of the mesh that it was put into.
use Rattle.std.proofs.Common.{◌≡◌, ℕ, zero, suc, ◌<◌, ◌⊎◌, inl, inr, refl, sym, ap, subst, ◌∙◌, arith, List, Bool, true, false}
use Rattle.std.specs.Prelude.{not, ◌&&◌}
use Rattle.std.proofs.lemmas.Bool.{both_ways as clash}
use Rattle.ground_model.specs.declared.corner.Corner.TheVariants.{At}
use Rattle.ground_model.specs.Place.{Coords, is_same}
use Rattle.ground_model.specs.Line.{Line, is_point}
use Rattle.ground_model.specs.Table.{count_on}
use Rattle.ground_model.specs.Crossings.{is_on_points}
use Rattle.ground_model.proofs.Elements.{In}
use Rattle.ground_model.proofs.LinePieces.{is_same_itself}
use Rattle.ground_model.proofs.Ties.{same_of_is_same}
use Rattle.predicates.specs.Net.{Net}
use Rattle.predicates.specs.Sheet.{IsSheet}
use Rattle.cdt_law.proofs.Counts.{both_ways}
use Rattle.cdt_law.proofs.LineTimes.{AreNext}
use Rattle.cdt_law.proofs.PointCounts.{Between, between-or-not, next-clear, both-even, none-between-counted, same-beside, half, whole-of}
use Rattle.cdt_law.proofs.PointEdits.{none-at}
use Rattle.cdt_law.proofs.Standing.{next-on}
use Rattle.mesh.specs.NetChanges.{HaveSameCounts, HasOneMore, HasSplitEdge, IsPair}

pub zero_by : (n : ℕ) → (0 < n → ⊥) → n ≡ 0
zero_by zero h = refl
zero_by (suc n) h = absurd (h (omega arith))

pub place_is : (p q : Coords) → (At p ≡ At q) → p ≡ q
place_is p q e = cc

pub is_it : (q p : Coords) → (q ≡ p) ⊎ (q ≡ p → ⊥)
is_it q p = by (is_same q p) refl
  where
    by : (t : Bool) → is_same q p ≡ t → (q ≡ p) ⊎ (q ≡ p → ⊥)
    by true e = inl (same_of_is_same q p e)
    by false e = inr (λ same. clash (is_same q p) e (ap (is_same q) (sym same) ∙ is_same_itself q))

module _ (fewer more : List Coords) (lines : List Line) (p : Coords) (old other : Net)
    (without : (x : Coords) → is_point fewer x ≡ (is_point more x && not (is_same p x))) (at_p : is_point more p ≡ true) (on : (line : Line) → In line lines → is_on_points fewer line ≡ true)
    (sheet : IsSheet other) (points : (q : Coords) → is_point old.points q ≡ is_point fewer q) (counts : (q r : Coords) → old.count q r ≡ both_ways (count_on fewer lines) q r) (one : HasOneMore old other p) where
  clear : (x r : Coords) → 0 < other.count x r → Between x r p → ⊥
  clear x r some b = next-clear other.points x r p (next-on other sheet x r (sheet.pieces x r some)) one.there b

  parted : (q r : Coords) → Between q r p → other.count q r ≡ both_ways (count_on more lines) q r
  parted q r b = zero_by (other.count q r) (λ some. clear q r some b) ∙ sym (none-between-counted more lines q r p at_p b)

  no_point : is_point fewer p ≡ true → ⊥
  no_point e = clash (is_point old.points p) one.absent (points p ∙ e)

  none_from : (r : Coords) → old.count p r ≡ 0
  none_from r = counts p r ∙ none-at fewer lines p r no_point

  none_to : (q : Coords) → old.count q p ≡ 0
  none_to q = counts q p ∙ both-even (count_on fewer lines) q p ∙ none-at fewer lines p q no_point

  never_none : (n : ℕ) → n ≡ 0 → 0 < n → ⊥
  never_none n e h = omega (arith, e, h)

  not_first : (x r : Coords) → 0 < old.count x r → x ≡ p → ⊥
  not_first x r some e = never_none (old.count x r) (ap (λ k. old.count k r) e ∙ none_from r) some

  not_last : (x r : Coords) → 0 < old.count x r → r ≡ p → ⊥
  not_last x r some e = never_none (old.count x r) (ap (λ k. old.count x k) e ∙ none_to x) some

  -- no piece of the content with p ends at p towards r, where none runs from r over p
  free_end : (r : Coords) → ((x : Coords) → 0 < old.count x r → Between x r p → ⊥) → both_ways (count_on more lines) p r ≡ 0
  free_end r none = zero_by (both_ways (count_on more lines) p r) (λ some.
      let w = whole-of more fewer p without at_p lines on r some in
      none w.x (subst (λ n. 0 < n) (sym (counts w.x r)) w.some) w.between)

  -- what is left: the counts at p, and those beside it
  pub counted : ((r : Coords) → other.count p r ≡ both_ways (count_on more lines) p r) → ((q r : Coords) → (q ≡ p → ⊥) → (r ≡ p → ⊥) → (Between q r p → ⊥) → other.count q r ≡ old.count q r)
      → (q r : Coords) → other.count q r ≡ both_ways (count_on more lines) q r
  counted at_end beside q r = elim (is_it q p) as (λ _. other.count q r ≡ both_ways (count_on more lines) q r) [
    | inl e ↦ subst (λ k. other.count k r ≡ both_ways (count_on more lines) k r) (sym e) (at_end r)
    | inr not_q ↦ elim (is_it r p) as (λ _. other.count q r ≡ both_ways (count_on more lines) q r) [
      | inl e ↦ subst (λ k. other.count q k ≡ both_ways (count_on more lines) q k) (sym e) (sheet.even q p ∙ at_end q ∙ both-even (count_on more lines) p q)
      | inr not_r ↦ elim (between-or-not q r p) as (λ _. other.count q r ≡ both_ways (count_on more lines) q r) [
        | inl b ↦ parted q r b
        | inr not_in ↦ beside q r not_q not_r not_in ∙ counts q r ∙ sym (same-beside more fewer p without at_p lines q r not_q not_r not_in)
      ]
    ]
  ]

  -- within a triangle
  pub within : HaveSameCounts old other → (q r : Coords) → other.count q r ≡ both_ways (count_on more lines) q r
  within same = counted
      (λ r. same p r ∙ none_from r ∙ sym (free_end r (λ x some b. clear x r (subst (λ n. 0 < n) (sym (same x r)) some) b)))
      (λ q r not_q not_r not_in. same q r)

  -- on an edge
  module _ (a b : Coords) (next : AreNext fewer a b) (next_back : AreNext fewer b a) (amid : Between a b p) (amid_back : Between b a p) (x : HasSplitEdge old other (At a) (At b) p) where
    no_part : (q r : Coords) → (q ≡ p → ⊥) → (r ≡ p → ⊥) → (IsPair (At a) (At p) (At q) (At r) → ⊥) × (IsPair (At p) (At b) (At q) (At r) → ⊥)
    no_part q r not_q not_r = ((λ h. elim h as (λ _. ⊥) [ inl y ↦ not_r (place_is r p y.1) | inr y ↦ not_q (place_is q p y.0) ]), (λ h. elim h as (λ _. ⊥) [ inl y ↦ not_q (place_is q p y.0) | inr y ↦ not_r (place_is r p y.1) ]))

    beside_edge : (q r : Coords) → (q ≡ p → ⊥) → (r ≡ p → ⊥) → (IsPair (At a) (At b) (At q) (At r) → ⊥) → other.count q r ≡ old.count q r
    beside_edge q r not_q not_r not_ab = let n = no_part q r not_q not_r in x.rest q r n.0 n.1 not_ab

    toward_b : other.count p b ≡ both_ways (count_on more lines) p b
    toward_b = x.end ∙ counts a b ∙ sym (half more fewer p without at_p lines on a b next amid)

    toward_a : other.count p a ≡ both_ways (count_on more lines) p a
    toward_a = sheet.even p a ∙ x.start ∙ counts a b ∙ both-even (count_on fewer lines) a b ∙ sym (half more fewer p without at_p lines on b a next_back amid_back)

    a_not_p : a ≡ p → ⊥
    a_not_p e = no_point (ap (is_point fewer) (sym e) ∙ next.first)

    b_not_p : b ≡ p → ⊥
    b_not_p e = no_point (ap (is_point fewer) (sym e) ∙ next.last)

    elsewhere : (r : Coords) → (r ≡ a → ⊥) → (r ≡ b → ⊥) → other.count p r ≡ both_ways (count_on more lines) p r
    elsewhere r not_a not_b =
        x.rest p r
        (λ h. elim h as (λ _. ⊥) [ inl y ↦ a_not_p (sym (place_is p a y.0)) | inr y ↦ not_a (place_is r a y.1) ])
        (λ h. elim h as (λ _. ⊥) [ inl y ↦ not_b (place_is r b y.1) | inr y ↦ b_not_p (sym (place_is p b y.0)) ])
        (λ h. elim h as (λ _. ⊥) [ inl y ↦ a_not_p (sym (place_is p a y.0)) | inr y ↦ not_a (place_is r a y.1) ])
        ∙ none_from r
        ∙ sym (free_end r (λ y some over. clear y r
        (subst (λ n. 0 < n) (sym (beside_edge y r (not_first y r some) (not_last y r some) (λ h. elim h as (λ _. ⊥) [ inl z ↦ not_b (place_is r b z.1) | inr z ↦ not_a (place_is r a z.1) ]))) some) over))

    at_end : (r : Coords) → other.count p r ≡ both_ways (count_on more lines) p r
    at_end r = elim (is_it r a) as (λ _. other.count p r ≡ both_ways (count_on more lines) p r) [
      | inl e ↦ subst (λ k. other.count p k ≡ both_ways (count_on more lines) p k) (sym e) toward_a
      | inr not_a ↦ elim (is_it r b) as (λ _. other.count p r ≡ both_ways (count_on more lines) p r) [
        | inl e ↦ subst (λ k. other.count p k ≡ both_ways (count_on more lines) p k) (sym e) toward_b
        | inr not_b ↦ elsewhere r not_a not_b
      ]
    ]

    pub on_edge : (q r : Coords) → other.count q r ≡ both_ways (count_on more lines) q r
    on_edge = counted at_end (λ q r not_q not_r not_in. beside_edge q r not_q not_r (λ h. elim h as (λ _. ⊥) [
      | inl y ↦ not_in (subst (λ k. Between k r p) (sym (place_is q a y.0)) (subst (λ k. Between a k p) (sym (place_is r b y.1)) amid))
      | inr y ↦ not_in (subst (λ k. Between k r p) (sym (place_is q b y.0)) (subst (λ k. Between b k p) (sym (place_is r a y.1)) amid_back))
    ]))
