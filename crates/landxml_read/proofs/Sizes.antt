-- What the elements of content give is no more than its bytes, where each gives no more than its words and one.
use Rattle.std.proofs.Common.{◌≡◌, ℕ, zero, suc, ◌+◌, ◌-◌, ◌≤◌, Bool, true, false, List, [], ◌∷◌, ◌++◌, length, map, flat_map, Option, None, Some, refl, ap, arith, length-append, codes}
use Rattle.std.specs.Option.{option_to_list}
use Rattle.std.specs.List.{filter_map, cons_option}
use Rattle.landxml_read.specs.declared.kind.Kind.{Kind}
use Rattle.landxml_read.specs.declared.kind.Kind.TheVariants.{Outside, Root, Units, UnitOf, Surfaces, Surface, SourceData, Boundaries, Boundary, Breaklines, Breakline, DataPoints, Triples, Pairs, Definition, Points, Point, Faces, Face, Skipped}
use Rattle.landxml_read.specs.declared.raw.RawVertex.TheVariants as vertex
use Rattle.landxml_read.specs.Markup.{StartTag, Content, Nothing, Byte, Comment, Instruction, CData, Empty, Element, content_text, tag_text, start_text, empty_text, end_text}
use Rattle.landxml_read.specs.Elements.{Found, below, elements, empty_found, whole_found}
use Rattle.landxml_read.specs.Words.{Placed, Word, parts, words, words_after, words_of, of_word, run, placed, Letter, Quoted, Other}
use Rattle.landxml_read.specs.Faults.{parts_of}
use Rattle.landxml_read.specs.Lists.{by_three, by_two, triples_of, pairs_of, faces_in, faces_of, before, counted, vertices_of}
use Rattle.landxml_read.proofs.Effects.{of_kind}
use Rattle.landxml_read.proofs.Each.{Each, each_more}
use Rattle.std.proofs.lemmas.List.{length-map}
use Rattle.landxml_read.proofs.Nesting.{flat_more}
use Rattle.landxml_read.proofs.Places.{comment_end, instruction_end, cdata_end, empty_end, element_end}

-- one part has at most one word more, also inside a word
words_least : (in_word : Bool) (ps : List Placed) → length (words_after true ps) ≤ length (words_after in_word ps)
words_least true ps = omega arith
words_least false [] = omega arith
words_least false (p ∷ ps) = by (of_word p.part)
  where
    by : (o : Option ℕ) → length (words_of true o (run ps) (words_after false ps) (words_after true ps) p.at) ≤ length (words_of false o (run ps) (words_after false ps) (words_after true ps) p.at)
    by None = omega arith
    by (Some b) = omega arith

one_word : (in_word : Bool) (p : Placed) (ps : List Placed) → length (words_after in_word (p ∷ ps)) ≤ length (words_after false ps) + 1
one_word in_word p ps = let a = words_least false ps in by in_word (of_word p.part) a
  where
    by : (t : Bool) (o : Option ℕ) → length (words_after true ps) ≤ length (words_after false ps) → length (words_of t o (run ps) (words_after false ps) (words_after true ps) p.at) ≤ length (words_after false ps) + 1
    by t None a = omega arith
    by true (Some b) a = omega (arith, a)
    by false (Some b) a = omega (arith, a)

-- what each element gives is no more than its words and one
abbrev pub IsSmall : {Y : Type 0} → (Found → List Y) → Type 0
IsSmall f = (e : Found) → length (f e) ≤ length (words (parts_of e)) + 1

module _ {Y : Type 0} (f : Found → List Y) (small : IsSmall f) where
  -- so are all elements of content, with the words of its own text
  given : (k : Kind) (depth at : ℕ) (x : Content) → length (flat_map f (elements k depth at x)) + length (words (parts at x)) ≤ length (content_text x)
  given k depth at Nothing = omega arith
  given k depth at (Byte b after) =
      let a = given k depth (at + 1) after in
      let c = one_word false (placed at (Letter b)) (parts (at + 1) after) in
      omega (arith, a, c)
  given k depth at (Comment bytes after) =
      let m = at + (length bytes + 7) in
      let a = given k depth m after in
      let c = one_word false (placed at Other) (parts m after) in
      let d = comment_end at bytes after in
      omega (arith, a, c, d)
  given k depth at (Instruction bytes after) =
      let m = at + (length bytes + 4) in
      let a = given k depth m after in
      let c = one_word false (placed at Other) (parts m after) in
      let d = instruction_end at bytes after in
      omega (arith, a, c, d)
  given k depth at (CData bytes after) =
      let m = at + (length bytes + 12) in
      let a = given k depth m after in
      let c = one_word false (placed at Quoted) (parts m after) in
      let d = cdata_end at bytes after in
      omega (arith, a, c, d)
  given k depth at (Empty tag after) =
      let m = at + length (empty_text tag) in
      let e = empty_found (below k tag.name) (depth + 1) at tag in
      let a = given k depth m after in
      let c = one_word false (placed at Other) (parts m after) in
      let d = empty_end at tag after in
      let g = length-append (f e) (flat_map f (elements k depth m after)) in
      let h : length (f e) ≤ 1 = small e in
      let i = empty_long tag in
      omega (arith, a, c, d, g, h, i)
    where
      empty_long : (tag : StartTag) → 2 ≤ length (empty_text tag)
      empty_long tag = let b = length-append (tag_text tag) (codes "/>") in omega (arith, b)
  given k depth at (Element tag inside end after) =
      let own = below k tag.name in
      let m = at + length (start_text tag) in
      let there = m + length (content_text inside) + length (end_text end) in
      let e = whole_found own (depth + 1) at tag inside end in
      let within = elements own (depth + 1) m inside in
      let further = elements k depth there after in
      let a = given own (depth + 1) m inside in
      let b = given k depth there after in
      let c = one_word false (placed at Other) (parts there after) in
      let d = element_end at tag inside end after in
      let g = length-append (f e) (flat_map f (within ++ further)) in
      let h = ap length (flat_more f within further) in
      let i = length-append (flat_map f within) (flat_map f further) in
      let l : m - 1 + 1 ≡ m = omega arith in
      let n = ap (λ o. length (words (parts o inside))) l in
      let j = small e in
      omega (arith, a, b, c, d, g, h, i, j, n)

  -- of a document and of each of its elements
  pub few_in : (k : Kind) (depth at : ℕ) (x : Content) → length (flat_map f (elements k depth at x)) ≤ length (content_text x)
  few_in k depth at x = let a = given k depth at x in omega (arith, a)

-- what some of the elements are is no more than what each gives
found_flat : {Y : Type 0} (f : Found → Option Y) (es : List Found) → filter_map f es ≡ flat_map (λ e. option_to_list (f e)) es
found_flat f [] = refl
found_flat {Y = Y} f (e ∷ es) = by (f e) (found_flat f es)
  where
    by : (o : Option Y) → filter_map f es ≡ flat_map (λ e. option_to_list (f e)) es → cons_option o (filter_map f es) ≡ option_to_list o ++ flat_map (λ e. option_to_list (f e)) es
    by None h = h
    by (Some y) h = ap (λ ys. y ∷ ys) h

pub few_found : {Y : Type 0} (f : Found → Option Y) (k : Kind) (depth at : ℕ) (x : Content) → length (filter_map f (elements k depth at x)) ≤ length (content_text x)
few_found {Y = Y} f k depth at x =
    let a = few_in (λ e. option_to_list (f e)) (λ e. small (f e) (length (words (parts_of e)))) k depth at x in
    let b = ap length (found_flat f (elements k depth at x)) in
    omega (arith, a, b)
  where
    small : (o : Option Y) (n : ℕ) → length (option_to_list o) ≤ n + 1
    small None n = omega arith
    small (Some y) n = omega arith

-- the content of an element is no longer than that which holds it
pub inside_short : (n : ℕ) (k : Kind) (depth at : ℕ) (x : Content) → length (content_text x) ≤ n → Each (λ e. length (content_text e.inside) ≤ n) (elements k depth at x)
inside_short n k depth at Nothing h = tt
inside_short n k depth at (Byte b after) h = inside_short n k depth (at + 1) after (omega (arith, h))
inside_short n k depth at (Comment bytes after) h = let d = comment_end at bytes after in inside_short n k depth (at + (length bytes + 7)) after (omega (arith, h, d))
inside_short n k depth at (Instruction bytes after) h = let d = instruction_end at bytes after in inside_short n k depth (at + (length bytes + 4)) after (omega (arith, h, d))
inside_short n k depth at (CData bytes after) h = let d = cdata_end at bytes after in inside_short n k depth (at + (length bytes + 12)) after (omega (arith, h, d))
inside_short n k depth at (Empty tag after) h = let d = empty_end at tag after in (omega arith, inside_short n k depth (at + length (empty_text tag)) after (omega (arith, h, d)))
inside_short n k depth at (Element tag inside end after) h =
    let own = below k tag.name in
    let m = at + length (start_text tag) in
    let there = m + length (content_text inside) + length (end_text end) in
    let d = element_end at tag inside end after in
    let here : length (content_text inside) ≤ n = omega (arith, h, d) in
    (here, each_more (λ e. length (content_text e.inside) ≤ n) (elements own (depth + 1) m inside) (elements k depth there after) (inside_short n own (depth + 1) m inside here) (inside_short n k depth there after (omega (arith, h, d))))

-- what each gives

few_threes : (ws : List Word) → length (by_three ws) ≤ length ws
few_threes [] = omega arith
few_threes (a ∷ []) = omega arith
few_threes (a ∷ b ∷ []) = omega arith
few_threes (a ∷ b ∷ c ∷ ws) = let h = few_threes ws in omega (arith, h)

few_twos : (ws : List Word) → length (by_two ws) ≤ length ws
few_twos [] = omega arith
few_twos (a ∷ []) = omega arith
few_twos (a ∷ b ∷ ws) = let h = few_twos ws in omega (arith, h)

few_ids : (at : ℕ) (ws : List Word) → length (faces_in at ws) ≤ length ws
few_ids at [] = omega arith
few_ids at (a ∷ []) = omega arith
few_ids at (a ∷ b ∷ []) = omega arith
few_ids at (a ∷ b ∷ c ∷ ws) = let h = few_ids at ws in omega (arith, h)

-- of each kind of element the triples and the pairs together, and the faces
few_places : (e : Found) → (length (triples_of e) + length (pairs_of e) ≤ length (words (parts_of e))) × (length (faces_of e) ≤ length (words (parts_of e)))
few_places e = by e.kind
  where
    ws : List Word
    ws = words (parts_of e)

    by : (k : Kind) → (length (triples_of (of_kind e k)) + length (pairs_of (of_kind e k)) ≤ length ws) × (length (faces_of (of_kind e k)) ≤ length ws)
    by Triples = let h = few_threes ws in (omega (arith, h), omega arith)
    by Point = let h = few_threes ws in (omega (arith, h), omega arith)
    by Pairs = let h = few_twos ws in (omega (arith, h), omega arith)
    by Face = (omega arith, few_ids e.at ws)
    by Outside = (omega arith, omega arith)
    by Root = (omega arith, omega arith)
    by Units = (omega arith, omega arith)
    by UnitOf = (omega arith, omega arith)
    by Surfaces = (omega arith, omega arith)
    by Surface = (omega arith, omega arith)
    by SourceData = (omega arith, omega arith)
    by Boundaries = (omega arith, omega arith)
    by Boundary = (omega arith, omega arith)
    by Breaklines = (omega arith, omega arith)
    by Breakline = (omega arith, omega arith)
    by DataPoints = (omega arith, omega arith)
    by Definition = (omega arith, omega arith)
    by Points = (omega arith, omega arith)
    by Faces = (omega arith, omega arith)
    by Skipped = (omega arith, omega arith)

pub small_triples : IsSmall triples_of
small_triples e = let h = few_places e in omega (arith, h.0)

pub small_pairs : IsSmall pairs_of
small_pairs e = let h = few_places e in omega (arith, h.0)

pub small_faces : IsSmall faces_of
small_faces e = let h = few_places e in omega (arith, h.1)

counted_long : (first n : ℕ) → length (counted first n) ≡ n
counted_long first zero = refl
counted_long first (suc n) = ap suc (counted_long (suc first) n)

pub small_vertices : (surface : Found) → IsSmall (vertices_of surface)
small_vertices surface e =
    let t = length (flat_map triples_of (before e.at surface)) in
    let u = length (flat_map pairs_of (before e.at surface)) in
    let ts = map vertex.Triple (counted t (length (triples_of e))) in
    let us = map vertex.Pair (counted u (length (pairs_of e))) in
    let a = length-append ts us in
    let b = length-map (counted t (length (triples_of e))) vertex.Triple in
    let c = length-map (counted u (length (pairs_of e))) vertex.Pair in
    let d = counted_long t (length (triples_of e)) in
    let g = counted_long u (length (pairs_of e)) in
    let h = few_places e in
    omega (arith, a, b, c, d, g, h.0)
