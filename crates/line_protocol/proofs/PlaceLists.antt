-- The places of a line, one pair after another.
use Rattle.std.proofs.Common.{◌≡◌, ℕ, Bool, true, false, List, [], ◌∷◌, ◌++◌, Option, None, Some, refl, sym, ap, ◌∙◌, append_assoc}
use Rattle.std.specs.Prelude.{◌&&◌, map, is_some, option_map, option_and_then}
use Rattle.std.specs.List.{list_all}
use Rattle.ground_num.specs.declared.head.Origin.{Origin}
use Rattle.ground_model.specs.declared.line.LineKind.{LineKind}
use Rattle.ground_model.specs.Place.{Coords}
use Rattle.line_protocol.specs.Spoken.{AddLine}
use Rattle.line_protocol.specs.Grammar.{words_of, both, onto, place_of, places, kind_named, line_edit}
use Rattle.line_protocol.specs.Within.{is_place, from_origin, where_true, place_within, places_within}
use Rattle.line_protocol.specs.Reading.{IsPair, always, are_within, checked}
use Rattle.line_protocol.proofs.Scans.{and_false}
use Rattle.line_protocol.proofs.Splitting.{words_some}

some_is : {X : Type 0} (x y : X) → Some x ≡ Some y → x ≡ y
some_is x y e = cc

onto_first_pair : (p : Coords) (found : Option (List Coords)) → option_map onto (both (Some p) found) ≡ option_map (λ ps. p ∷ ps) found
onto_first_pair p None = refl
onto_first_pair p (Some ps) = refl

-- the first pair of more
pub places_first : (n e xs : List ℕ) (p : Coords) → place_of n e ≡ Some p → places (n ∷ e ∷ words_of xs) ≡ option_map (λ ps. p ∷ ps) (places (words_of xs))
unfolding places
places_first n e xs p is =
    let some = words_some xs in
    rw (some.2, is) (onto_first_pair p (places (some.0 ∷ some.1)))

all_more : (test : Coords → Bool) (ps : List Coords) (q : Coords) → list_all test (ps ++ q ∷ []) ≡ (list_all test ps && test q)
all_more test [] q = one (test q)
  where
    one : (b : Bool) → (b && true) ≡ (true && b)
    one true = refl
    one false = refl
all_more test (p ∷ ps) q = rw (all_more test ps q) (regroup (test p) (list_all test ps) (test q))
  where
    regroup : (a b c : Bool) → (a && (b && c)) ≡ ((a && b) && c)
    regroup true b c = refl
    regroup false b c = refl

map_more : (f : Coords → Coords) (ps : List Coords) (q : Coords) → map f (ps ++ q ∷ []) ≡ map f ps ++ f q ∷ []
map_more f [] q = refl
map_more f (p ∷ ps) q = ap (λ k. f p ∷ k) (map_more f ps q)

one_more : (a b : Bool) (ps : List Coords) (q : Coords) (found : List Coords) (p : Coords) → where_true a ps ≡ Some found → where_true b q ≡ Some p → where_true (a && b) (ps ++ q ∷ []) ≡ Some (found ++ p ∷ [])
one_more true true ps q found p first next = ap (λ k. Some (k ++ q ∷ [])) (some_is ps found first) ∙ ap (λ k. Some (found ++ k ∷ [])) (some_is q p next)
one_more true false ps q found p first next = cc
one_more false b ps q found p first next = cc

passed : {X : Type 0} (test : Bool) (x : X) (ps : List Coords) → where_true test x ≡ Some x → (option_map (always {E = List Coords}) (where_true test ps) ≡ Some true) × (true ≡ true)
passed true x ps e = (refl, refl)
passed false x ps e = cc

module _ (o : Origin) where
  -- all within, and one more
  pub within_more : (front found : List Coords) (q p : Coords) → places_within o front ≡ Some found → place_within o q ≡ Some p → places_within o (front ++ q ∷ []) ≡ Some (found ++ p ∷ [])
  within_more front found q p first next =
      let both_of : places_within o (front ++ q ∷ []) ≡ where_true (list_all is_place (map (from_origin o) front) && is_place (from_origin o q)) (map (from_origin o) front ++ from_origin o q ∷ []) = rw (map_more (from_origin o) front q, all_more is_place (map (from_origin o) front) (from_origin o q)) refl in
      both_of ∙ one_more (list_all is_place (map (from_origin o) front)) (is_place (from_origin o q)) (map (from_origin o) front) (from_origin o q) found p first next

  pub checked_more : (front : List Coords) (q : Coords) → are_within o (front ++ q ∷ []) ≡ (are_within o front && is_place (from_origin o q))
  checked_more front q = rw (map_more (from_origin o) front q) (all_more is_place (map (from_origin o) front) (from_origin o q))

  not_all : (front rest : List Coords) (q : Coords) → is_place (from_origin o q) ≡ false → are_within o (front ++ q ∷ rest) ≡ false
  not_all [] rest q outside = rw outside refl
  not_all (p ∷ front) rest q outside = rw (not_all front rest q outside) (and_false (is_place (from_origin o p)))

  outside_place : (q : Coords) → place_within o q ≡ None → is_place (from_origin o q) ≡ false
  outside_place q none = by (is_place (from_origin o q)) none
    where
      by : (test : Bool) → where_true test (from_origin o q) ≡ None → test ≡ false
      by true e = cc
      by false e = refl

  -- a place outside, wherever it stands
  pub outside_there : (front : List Coords) (q : Coords) (tail : Option (List Coords)) → place_within o q ≡ None → option_and_then (places_within o) (option_map (λ ps. front ++ ps) (option_map (λ ps. q ∷ ps) tail)) ≡ None
  outside_there front q None none = refl
  outside_there front q (Some ps) none = rw (not_all front ps q (outside_place q none)) refl

  -- checked places are within, and some
  pub checked_within : (found : Option (List Coords)) → option_and_then (checked o) found ≡ Some tt → (option_map (always {E = List Coords}) (option_and_then (places_within o) found) ≡ Some true) × (is_some found ≡ true)
  checked_within None is = cc
  checked_within (Some ps) is = passed (are_within o ps) tt (map (from_origin o) ps) is

-- a text that begins with a pair
pub tail_of : (ws : List (List ℕ)) (q : Coords) (rest : Option (List (List ℕ))) → IsPair ws q rest → (tail : Option (List Coords)) × (places ws ≡ option_map (λ ps. q ∷ ps) tail)
tail_of ws q None is = (Some [], is)
tail_of ws q (Some rest) is = (places rest, is)

-- the places before those that are left, and one of these
pub front_more : (front : List Coords) (p : Coords) (left : Option (List Coords)) → option_map (λ ps. front ++ ps) (option_map (λ ps. p ∷ ps) left) ≡ option_map (λ ps. (front ++ p ∷ []) ++ ps) left
front_more front p None = refl
front_more front p (Some ps) = ap Some (sym (append_assoc front (p ∷ []) ps))

pub front_none : (left : Option (List Coords)) → left ≡ option_map (λ ps. [] ++ ps) left
front_none None = refl
front_none (Some ps) = refl

-- a kind alone is no line
pub no_places : (w : List ℕ) → line_edit (w ∷ []) ≡ None
unfolding line_edit places
no_places w = alone (kind_named w)
  where
    alone : (kind : Option LineKind) → option_map (λ line. AddLine line.0 line.1) (both {Y = List Coords} kind None) ≡ None
    alone None = refl
    alone (Some k) = refl
