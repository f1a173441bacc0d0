-- What stays where the rings of some lines are put before their breaklines.
use Rattle.std.proofs.Common.{◌≡◌, ℕ, ◌+◌, Bool, true, false, ◌&&◌, ◌||◌, not, cond, List, [], ◌∷◌, ◌++◌, flat_map, Option, None, Some, refl, sym, ◌∙◌, ap, arith, reverse}
use Rattle.std.proofs.lemmas.List.{append-nil, reverse-append}
use Rattle.std.proofs.lemmas.List.Folds.{find-append}
use Rattle.std.proofs.lemmas.List.Sums.{sum_by-cons, sum_by-append}
use Rattle.std.proofs.lemmas.Grind.{flat_map-append}
use Rattle.std.specs.Option.{option_or}
use Rattle.std.specs.Prelude.{codes, sum_by, option_map, unwrap_or}
use Rattle.std.specs.List.{list_any, filter, find}
use Rattle.ground_model.specs.declared.facet.Facet.{Facet}
use Rattle.ground_model.specs.declared.line.LineKind.{LineKind}
use Rattle.ground_model.specs.declared.line.LineKind.TheVariants.{Breakline, Outer, Void, Island}
use Rattle.ground_model.specs.Kept.{is_kept, is_in_outer, is_outside_voids, lies_in_ring, centre}
use Rattle.ground_model.specs.Kind.{is_ring, is_outer, is_void_or_island, is_island}
use Rattle.ground_model.specs.Line.{Line, has_piece}
use Rattle.ground_model.specs.Place.{Coords}
use Rattle.ground_model.specs.Table.{count_on, pieces_by, pieces_on}
use Rattle.landxml_write.specs.Exports.{Exported}
use Rattle.landxml_write.specs.Text.{head_text, boundary_text, breakline_text, boundary_of, breakline_of, data_text, face_text, point_text, points_text, source_text, definition_text, document}
use Rattle.document_law.specs.Drafts.{rings_first}

abbrev ring_line : Line → Bool
ring_line l = is_ring l.kind

abbrev open_line : Line → Bool
open_line l = not (is_ring l.kind)

-- sums

-- the sum of one line, where it passes
abbrev weighed : (Line → ℕ) → (Line → Bool) → List Line → ℕ
weighed f p ls = sum_by f (filter p ls)

weighed_cons : (f : Line → ℕ) (p : Line → Bool) (l : Line) (ls : List Line) → weighed f p (l ∷ ls) ≡ cond (p l) (f l) 0 + weighed f p ls
weighed_cons f p l ls = by (p l)
  where
    by : (t : Bool) → sum_by f (cond t (l ∷ filter p ls) (filter p ls)) ≡ cond t (f l) 0 + sum_by f (filter p ls)
    by true = sum_by-cons f l (filter p ls)
    by false = omega arith

both_parts : (f : Line → ℕ) (ls : List Line) → weighed f ring_line ls + weighed f open_line ls ≡ sum_by f ls
both_parts f [] = refl
both_parts f (l ∷ ls) =
    let a = weighed_cons f ring_line l ls in
    let b = weighed_cons f open_line l ls in
    let c = sum_by-cons f l ls in
    let rest = both_parts f ls in
    let one = by (is_ring l.kind) in
    omega (arith, a, b, c, rest, one)
  where
    by : (t : Bool) → cond t (f l) 0 + cond (not t) (f l) 0 ≡ f l
    by true = omega arith
    by false = omega arith

pub sum_same : (f : Line → ℕ) (ls : List Line) → sum_by f (rings_first ls) ≡ sum_by f ls
sum_same f ls = sum_by-append f (filter ring_line ls) (filter open_line ls) ∙ both_parts f ls

-- pieces

count_same : (points : List Coords) (ls : List Line) (p q : Coords) → count_on points (rings_first ls) p q ≡ count_on points ls p q
unfolding count_on
count_same points ls p q = sum_same (λ line. cond (has_piece points line p q) 1 0) ls

pub pieces_same : (points : List Coords) (ls : List Line) → pieces_on points (rings_first ls) ≡ pieces_on points ls
unfolding pieces_on
pieces_same points ls = λ i. pieces_by (λ p q. count_same points ls p q i) points

-- tests

swapped : (a b c : Bool) → (a || (b || c)) ≡ (b || (a || c))
swapped true true c = refl
swapped true false c = refl
swapped false b c = refl

any_later : (test : Line → Bool) (xs ys : List Line) (l : Line) → list_any test (xs ++ l ∷ ys) ≡ (test l || list_any test (xs ++ ys))
any_later test [] ys l = refl
any_later test (x ∷ xs) ys l = ap (λ t. test x || t) (any_later test xs ys l) ∙ swapped (test x) (test l) (list_any test (xs ++ ys))

any_same : (test : Line → Bool) (ls : List Line) → list_any test (rings_first ls) ≡ list_any test ls
any_same test [] = refl
any_same test (l ∷ ls) = by (is_ring l.kind) (any_same test ls)
  where
    by : (t : Bool) → list_any test (rings_first ls) ≡ list_any test ls → list_any test (cond t (l ∷ filter ring_line ls) (filter ring_line ls) ++ cond (not t) (l ∷ filter open_line ls) (filter open_line ls)) ≡ (test l || list_any test ls)
    by true e = ap (λ b. test l || b) e
    by false e = any_later test (filter ring_line ls) (filter open_line ls) l ∙ ap (λ b. test l || b) e

-- the last ring that passes is the same

last_cons : (test : Line → Bool) (l : Line) (ls : List Line) → find test (reverse (l ∷ ls)) ≡ option_or (find test (reverse ls)) (cond (test l) (Some l) None)
last_cons test l ls = ap (find test) (reverse-append (l ∷ []) ls) ∙ find-append test (reverse ls) (l ∷ [])

none_more : (o : Option Line) → option_or o None ≡ o
none_more None = refl
none_more (Some l) = refl

-- a test that only rings pass
abbrev IsOfRings : (Line → Bool) → Type 0
IsOfRings test = (l : Line) → is_ring l.kind ≡ false → test l ≡ false

last_ring : (test : Line → Bool) → IsOfRings test → (ls : List Line) → find test (reverse (filter ring_line ls)) ≡ find test (reverse ls)
last_ring test of [] = refl
last_ring test of (l ∷ ls) = by (is_ring l.kind) refl (last_ring test of ls) ∙ sym (last_cons test l ls)
  where
    by : (t : Bool) → is_ring l.kind ≡ t → find test (reverse (filter ring_line ls)) ≡ find test (reverse ls)
        → find test (reverse (cond t (l ∷ filter ring_line ls) (filter ring_line ls))) ≡ option_or (find test (reverse ls)) (cond (test l) (Some l) None)
    by true e h = last_cons test l (filter ring_line ls) ∙ ap (λ o. option_or o (cond (test l) (Some l) None)) h
    by false e h = h ∙ sym (ap (λ t. option_or (find test (reverse ls)) (cond t (Some l) None)) (of l e) ∙ none_more (find test (reverse ls)))

no_open : (test : Line → Bool) → IsOfRings test → (ls : List Line) → find test (reverse (filter open_line ls)) ≡ None
no_open test of [] = refl
no_open test of (l ∷ ls) = by (is_ring l.kind) refl (no_open test of ls)
  where
    by : (t : Bool) → is_ring l.kind ≡ t → find test (reverse (filter open_line ls)) ≡ None → find test (reverse (cond (not t) (l ∷ filter open_line ls) (filter open_line ls))) ≡ None
    by true e h = h
    by false e h = last_cons test l (filter open_line ls) ∙ (λ i. option_or (h i) (cond (of l e i) (Some l) None))

last_same : (test : Line → Bool) → IsOfRings test → (ls : List Line) → find test (reverse (rings_first ls)) ≡ find test (reverse ls)
last_same test of ls =
    ap (find test) (reverse-append (filter ring_line ls) (filter open_line ls))
    ∙ find-append test (reverse (filter open_line ls)) (reverse (filter ring_line ls))
    ∙ ap (λ o. option_or o (find test (reverse (filter ring_line ls)))) (no_open test of ls)
    ∙ last_ring test of ls

no_void : (kind : LineKind) → is_ring kind ≡ false → is_void_or_island kind ≡ false
no_void Breakline e = refl
no_void Outer e = cc
no_void Void e = cc
no_void Island e = cc

pub kept_same : (ls : List Line) (f : Facet) → is_kept (rings_first ls) f ≡ is_kept ls f
unfolding is_in_outer is_outside_voids
kept_same ls f =
    let p = centre f in
    let last = last_same (λ line. is_void_or_island line.kind && lies_in_ring p line) (λ l e. ap (λ t. t && lies_in_ring p l) (no_void l.kind e)) ls in
    λ i. (not (any_same (λ line. is_outer line.kind) ls i) || any_same (λ line. is_outer line.kind && lies_in_ring p line) ls i) && unwrap_or (option_map (λ (line : Line). is_island line.kind) (last i)) true

-- the text

-- a text that no open line has, and one that no ring has
part_text : (text : Line → List ℕ) (p q : Line → Bool) → ((l : Line) → q l ≡ not (p l)) → ((l : Line) → p l ≡ false → text l ≡ []) → (ls : List Line) → flat_map text (filter p ls) ≡ flat_map text ls
part_text text p q turned none [] = refl
part_text text p q turned none (l ∷ ls) = by (p l) refl (part_text text p q turned none ls)
  where
    by : (t : Bool) → p l ≡ t → flat_map text (filter p ls) ≡ flat_map text ls → flat_map text (cond t (l ∷ filter p ls) (filter p ls)) ≡ text l ++ flat_map text ls
    by true e h = ap (λ w. text l ++ w) h
    by false e h = h ∙ sym (ap (λ w. w ++ flat_map text ls) (none l e))

no_text : (text : Line → List ℕ) (p : Line → Bool) → ((l : Line) → p l ≡ true → text l ≡ []) → (ls : List Line) → flat_map text (filter p ls) ≡ []
no_text text p none [] = refl
no_text text p none (l ∷ ls) = by (p l) refl (no_text text p none ls)
  where
    by : (t : Bool) → p l ≡ t → flat_map text (filter p ls) ≡ [] → flat_map text (cond t (l ∷ filter p ls) (filter p ls)) ≡ []
    by true e h = λ i. none l e i ++ h i
    by false e h = h

ring_text_none : (e : Exported) (kind : LineKind) (places : List Coords) → is_ring kind ≡ false → boundary_of e kind places ≡ []
ring_text_none e Breakline places h = refl
ring_text_none e Outer places h = cc
ring_text_none e Void places h = cc
ring_text_none e Island places h = cc

open_text_none : (e : Exported) (kind : LineKind) (places : List Coords) → is_ring kind ≡ true → breakline_of e kind places ≡ []
open_text_none e Breakline places h = cc
open_text_none e Outer places h = refl
open_text_none e Void places h = refl
open_text_none e Island places h = refl

turned_true : (t : Bool) → not t ≡ true → t ≡ false
turned_true true e = cc
turned_true false e = refl

turned_false : (t : Bool) → not t ≡ false → t ≡ true
turned_false true e = refl
turned_false false e = cc

boundaries_same : (e : Exported) (ls : List Line) → flat_map (boundary_text e) (rings_first ls) ≡ flat_map (boundary_text e) ls
unfolding boundary_text
boundaries_same e ls =
    flat_map-append (boundary_text e) (filter ring_line ls) (filter open_line ls)
    ∙ (λ i. part_text (boundary_text e) ring_line open_line (λ l. refl) (λ l h. ring_text_none e l.kind l.places h) ls i ++ no_text (boundary_text e) open_line (λ l h. ring_text_none e l.kind l.places (turned_true (is_ring l.kind) h)) ls i)
    ∙ append-nil (flat_map (boundary_text e) ls)

breaklines_same : (e : Exported) (ls : List Line) → flat_map (breakline_text e) (rings_first ls) ≡ flat_map (breakline_text e) ls
unfolding breakline_text
breaklines_same e ls =
    flat_map-append (breakline_text e) (filter ring_line ls) (filter open_line ls)
    ∙ (λ i. no_text (breakline_text e) ring_line (λ l h. open_text_none e l.kind l.places h) ls i ++ part_text (breakline_text e) open_line ring_line (λ l. sym (both_not (is_ring l.kind))) (λ l h. open_text_none e l.kind l.places (turned_false (is_ring l.kind) h)) ls i)
  where
    both_not : (t : Bool) → not (not t) ≡ t
    both_not true = refl
    both_not false = refl

-- the document of an export whose rings stand before its breaklines is the same
pub document_same : (e : Exported) → document (record e { lines = rings_first e.lines }) ≡ document e
unfolding document source_text definition_text points_text point_text data_text face_text boundary_text breakline_text
document_same e = λ i. head_text e.head ++ ((codes "<SourceData>\n<Boundaries>\n" ++ (boundaries_same e e.lines i
    ++ (codes "</Boundaries>\n<Breaklines>\n" ++ (breaklines_same e e.lines i
    ++ (codes "</Breaklines>\n<DataPoints><PntList3D>\n" ++ (flat_map (data_text e) e.points ++ codes "</PntList3D></DataPoints>\n</SourceData>\n"))))))
    ++ (definition_text e ++ codes "</Surface>\n</Surfaces>\n</LandXML>\n"))
