-- What the elements of a surface add to it, in the order of what they show.
use Rattle.std.proofs.Common.{◌≡◌, ◌≤◌, ℕ, ◌+◌, ◌-◌, Bool, true, false, List, [], ◌∷◌, ◌++◌, length, flat_map, unwrap_or, Option, None, Some, refl, sym, ◌∙◌, ap, subst, arith}
use Rattle.std.proofs.lemmas.List.{append-nil}
use Rattle.std.specs.List.{filter_map}
use Rattle.ground_num.specs.declared.head.LinearUnit.{LinearUnit}
use Rattle.landxml_read.specs.declared.raw.RawKind.{RawKind}
use Rattle.landxml_read.specs.declared.raw.RawKind.TheVariants as raw_kind
use Rattle.landxml_read.specs.declared.gather.Gathered.{Gathered}
use Rattle.landxml_read.specs.declared.kind.Kind.{Kind}
use Rattle.landxml_read.specs.declared.kind.Kind.TheVariants.{Outside, Root, Units, UnitOf, Surfaces, Surface, SourceData, Boundaries, Boundary, Breaklines, Breakline, DataPoints, Triples, Pairs, Definition, Points, Point, Faces, Face, Skipped}
use Rattle.landxml_read.specs.Markup.{Content, Nothing, Byte, Comment, Instruction, CData, Empty, Element, content_text, start_text, empty_text, end_text}
use Rattle.landxml_read.specs.Elements.{Found, below, elements, empty_found, whole_found}
use Rattle.landxml_read.specs.Words.{Word, words}
use Rattle.landxml_read.specs.Faults.{has_text, read_name, value_of, parts_of}
use Rattle.landxml_read.specs.declared.raw.RawLine.{RawLine}
use Rattle.landxml_read.specs.declared.raw.RawId.{RawId}
use Rattle.landxml_read.specs.declared.raw.RawSurface.{RawSurface}
use Rattle.landxml_read.specs.Lists.{by_three, by_two, before, triples_of, pairs_of, vertices_of, line_of, ring_kind, faces_in}
use Rattle.landxml_read.specs.Events.{Closed, closing, no_word, word_after, ended_by, ampersands, read, events}
use Rattle.landxml_read.specs.Gather.{opened, with_vertices, closed, gather}
use Rattle.landxml_read.proofs.ReadValues.{read_values}
use Rattle.landxml_read.proofs.WordLists.{words_are}
use Rattle.landxml_read.proofs.Nesting.{holds, fits, fits_below, line_below, no_text, nothing_made}
use Rattle.landxml_read.proofs.Places.{upto, upto_earlier, none_before, all_before, end_of, comment_end, instruction_end, cdata_end, empty_end, element_end, IsPart, narrowed, first_part, second_part}
use Rattle.landxml_read.proofs.Gathering.{gather_more, reads, quotes_pass, value_in, text_read, at_rest, triple_vertices, pair_vertices, three_words, two_words, point_words, in_face, face_words, with_none}
use Rattle.landxml_read.proofs.Placed.{within, IsPlaced, inner_part, triples_before, pairs_before}
use Rattle.landxml_read.proofs.Effects.{no_effect, effect_of, led_by, added, effected, effect_more, effected_joined, effected_nothing, skipped_effect, of_kind, no_line_in, IsCounted, counted_more, counted_on}

-- the words of an element that begins at an offset
abbrev words_at : Found → List Word
words_at e = words (parts_of e)

module _ (surface : Found) (u : Option LinearUnit) (ss : List RawSurface) where
  -- what content shows adds what its elements do
  abbrev pub Grows : Bool → Kind → ℕ → ℕ → Content → Type 0
  Grows in_line k depth at x =
      (pre post : List Found) (s : RawSurface) (line : Option RawLine) → holds in_line k ≡ true → IsPart surface at (end_of at x) (elements k depth at x) pre post
      → (in_line ≡ false → line ≡ None) → IsCounted pre s
      → gather (at_rest u ss s line) (events k depth at no_word x) ≡ effected u ss (effect_of surface (elements k depth at x)) s line

  -- after the tag of an element and what stands in it
  abbrev shown : Kind → Found → RawSurface → Option RawLine → Gathered
  shown k e s line = gather (opened k e.at (unwrap_or (value_of (of_kind e k)) []) (at_rest u ss s line)) (events k e.depth (e.tag_end + 1) no_word e.inside)

  -- what is expected of it
  abbrev expected : Kind → Found → RawSurface → Option RawLine → Gathered
  expected k e s line = effected u ss (effect_of surface (of_kind e k ∷ within k e)) s line

  -- the words of an element whose text is read
  text_shown : (k : Kind) → has_text k ≡ true → ((name : List ℕ) → below k name ≡ Skipped) → (e : Found) (g : Gathered) → gather g (events k e.depth (e.tag_end + 1) no_word e.inside) ≡ reads k (words_at e) g
  text_shown k has none e g = text_read k has none e.depth (e.tag_end + 1) no_word e.inside g ∙ ap (λ ws. reads k ws g) (words_are (e.tag_end + 1) no_word e.inside)

  -- its elements add nothing
  text_within : (k : Kind) → ((name : List ℕ) → below k name ≡ Skipped) → (e : Found) → effect_of surface (of_kind e k ∷ within k e) ≡ led_by surface (of_kind e k) no_effect
  text_within k none e = ap (led_by surface (of_kind e k)) (skipped_effect surface k none e.depth (e.tag_end + 1) e.inside)

  triples_shown : (e : Found) (to : ℕ) (pre post : List Found) (s : RawSurface) (line : Option RawLine) → IsPlaced surface Triples e to pre post → IsCounted pre s → closed Triples (shown Triples e s line) ≡ expected Triples e s line
  triples_shown e to pre post s line p c =
      let ts = by_three (words_at e) in
      let a = sym (append-nil ts) in
      let b = sym (append-nil s.pairs) in
      let d = sym (append-nil s.lines) in
      let f = sym (append-nil s.ids) in
      let g = sym (append-nil s.faces) in
      let v = ap (λ n. triple_vertices n (length ts)) (sym (triples_before surface Triples e to pre post s p c)) in
      let vs = triple_vertices (length (flat_map triples_of (before e.at surface))) (length ts) in
      let w = v ∙ sym (append-nil vs) ∙ ap (λ xs. xs ++ []) (sym (append-nil vs)) in
      ap (closed Triples) (text_shown Triples refl (λ name. refl) e (at_rest u ss s line))
      ∙ three_words u ss (words_at e) s line
      ∙ (λ i. at_rest u ss (record s { triples = s.triples ++ a i; pairs = b i; lines = d i; ids = f i; faces = g i }) (with_vertices (w i) line))
      ∙ ap (λ x. effected u ss x s line) (sym (text_within Triples (λ name. refl) e))

  pairs_shown : (e : Found) (to : ℕ) (pre post : List Found) (s : RawSurface) (line : Option RawLine) → IsPlaced surface Pairs e to pre post → IsCounted pre s → closed Pairs (shown Pairs e s line) ≡ expected Pairs e s line
  pairs_shown e to pre post s line p c =
      let ts = by_two (words_at e) in
      let a = sym (append-nil ts) in
      let b = sym (append-nil s.triples) in
      let d = sym (append-nil s.lines) in
      let f = sym (append-nil s.ids) in
      let g = sym (append-nil s.faces) in
      let v = ap (λ n. pair_vertices n (length ts)) (sym (pairs_before surface Pairs e to pre post s p c)) in
      let vs = pair_vertices (length (flat_map pairs_of (before e.at surface))) (length ts) in
      let w = v ∙ sym (append-nil vs) in
      ap (closed Pairs) (text_shown Pairs refl (λ name. refl) e (at_rest u ss s line))
      ∙ two_words u ss (words_at e) s line
      ∙ (λ i. at_rest u ss (record s { pairs = s.pairs ++ a i; triples = b i; lines = d i; ids = f i; faces = g i }) (with_vertices (w i) line))
      ∙ ap (λ x. effected u ss x s line) (sym (text_within Pairs (λ name. refl) e))

  point_shown : (e : Found) (to : ℕ) (pre post : List Found) (s : RawSurface) (line : Option RawLine) → IsPlaced surface Point e to pre post → IsCounted pre s → closed Point (shown Point e s line) ≡ expected Point e s line
  point_shown e to pre post s line p c =
      let ts = by_three (words_at e) in
      let id : ℕ → RawId = λ n. record { at = e.at; id = unwrap_or (value_of (of_kind e Point)) []; triple = n } in
      let with_id = record s { ids = s.ids ++ id (length s.triples) ∷ [] } in
      let n = sym (triples_before surface Point e to pre post s p c) in
      let a = sym (append-nil ts) in
      let b = sym (append-nil s.pairs) in
      let d = sym (append-nil s.lines) in
      let g = sym (append-nil s.faces) in
      let v = ap (λ m. triple_vertices m (length ts)) n in
      let vs = triple_vertices (length (flat_map triples_of (before e.at surface))) (length ts) in
      let w = v ∙ sym (append-nil vs) ∙ ap (λ xs. xs ++ []) (sym (append-nil vs)) in
      ap (closed Point) (text_shown Point refl (λ name. refl) e (at_rest u ss with_id line) ∙ point_words (words_at e) (at_rest u ss with_id line))
      ∙ three_words u ss (words_at e) with_id line
      ∙ (λ i. at_rest u ss (record s { triples = s.triples ++ a i; pairs = b i; lines = d i; ids = s.ids ++ id (n i) ∷ []; faces = g i }) (with_vertices (w i) line))
      ∙ ap (λ x. effected u ss x s line) (sym (text_within Point (λ name. refl) e))

  face_shown : (e : Found) (s : RawSurface) (line : Option RawLine) → closed Face (shown Face e s line) ≡ expected Face e s line
  face_shown e s line =
      let fs = faces_in e.at (words_at e) in
      let a = sym (append-nil s.triples) in
      let b = sym (append-nil s.pairs) in
      let d = sym (append-nil s.lines) in
      let f = sym (append-nil s.ids) in
      let g = sym (append-nil fs) in
      let v = sym (with_none line) in
      ap (closed Face) (text_shown Face refl (λ name. refl) e (in_face e.at u ss s line))
      ∙ face_words e.at u ss (words_at e) s line
      ∙ (λ i. at_rest u ss (record s { triples = a i; pairs = b i; lines = d i; ids = f i; faces = s.faces ++ g i }) (v i))
      ∙ ap (λ x. effected u ss x s line) (sym (text_within Face (λ name. refl) e))

  -- a line adds its own lists, and itself
  line_shown : (k : Kind) (e : Found) (to : ℕ) (pre post : List Found) (s : RawSurface) (kind : RawKind) → IsPlaced surface k e to pre post → IsCounted pre s
      → holds true k ≡ true → triples_of (of_kind e k) ≡ [] → pairs_of (of_kind e k) ≡ [] → Grows true k e.depth (e.tag_end + 1) e.inside
      → gather (at_rest u ss s (Some (record { at = e.at; kind = kind; vertices = [] }))) (events k e.depth (e.tag_end + 1) no_word e.inside) ≡
      at_rest u ss (added (record (effect_of surface (within k e)) { lines = [] }) s) (Some (record { at = e.at; kind = kind; vertices = flat_map (vertices_of surface) (within k e) }))
  line_shown k e to pre post s kind p c h a b again =
      let line : RawLine = record { at = e.at; kind = kind; vertices = [] } in
      let x = effect_of surface (within k e) in
      let none = nothing_made (line_of surface) (fits true) line_below (no_line_in surface) k (λ name. fits_below true k name h) e.depth (e.tag_end + 1) e.inside in
      again (pre ++ of_kind e k ∷ []) post s (Some line) h (inner_part surface k e to pre post p) (λ z. cc) (counted_on pre (of_kind e k) s a b c)
      ∙ ap (λ ls. at_rest u ss (added (record x { lines = ls }) s) (Some (record line { vertices = x.vertices }))) none

  -- the line at the end of the lists
  with_line_last : (k : Kind) (e : Found) (s : RawSurface) (l : RawLine) → fits true k ≡ false → filter_map (line_of surface) (within k e) ≡ [] → (s.lines ++ []) ++ l ∷ [] ≡ s.lines ++ (l ∷ filter_map (line_of surface) (within k e))
  with_line_last k e s l f none = ap (λ ls. ls ++ l ∷ []) (append-nil s.lines) ∙ ap (λ ls. s.lines ++ l ∷ ls) (sym none)

  no_lines : (k : Kind) (e : Found) → holds true k ≡ true → filter_map (line_of surface) (within k e) ≡ []
  no_lines k e h = nothing_made (line_of surface) (fits true) line_below (no_line_in surface) k (λ name. fits_below true k name h) e.depth (e.tag_end + 1) e.inside

  boundary_shown : (e : Found) (to : ℕ) (pre post : List Found) (s : RawSurface) (line : Option RawLine) → IsPlaced surface Boundary e to pre post → IsCounted pre s → line ≡ None → Grows true Boundary e.depth (e.tag_end + 1) e.inside
      → closed Boundary (shown Boundary e s line) ≡ expected Boundary e s line
  boundary_shown e to pre post s line p c out again =
      let kind = ring_kind (unwrap_or (value_of (of_kind e Boundary)) []) in
      let x = effect_of surface (within Boundary e) in
      let l : RawLine = record { at = e.at; kind = kind; vertices = x.vertices } in
      let last = with_line_last Boundary e s l refl (no_lines Boundary e refl) in
      let all = effect_of surface (of_kind e Boundary ∷ within Boundary e) in
      ap (closed Boundary) (line_shown Boundary e to pre post s kind p c refl refl refl again)
      ∙ ap (λ ls. at_rest u ss (record (added x s) { lines = ls }) None) last
      ∙ ap (λ o. at_rest u ss (added all s) (with_vertices all.vertices o)) (sym out)

  breakline_shown : (e : Found) (to : ℕ) (pre post : List Found) (s : RawSurface) (line : Option RawLine) → IsPlaced surface Breakline e to pre post → IsCounted pre s → line ≡ None → Grows true Breakline e.depth (e.tag_end + 1) e.inside
      → closed Breakline (shown Breakline e s line) ≡ expected Breakline e s line
  breakline_shown e to pre post s line p c out again =
      let x = effect_of surface (within Breakline e) in
      let l : RawLine = record { at = e.at; kind = raw_kind.Breakline; vertices = x.vertices } in
      let last = with_line_last Breakline e s l refl (no_lines Breakline e refl) in
      let all = effect_of surface (of_kind e Breakline ∷ within Breakline e) in
      ap (closed Breakline) (line_shown Breakline e to pre post s raw_kind.Breakline p c refl refl refl again)
      ∙ ap (λ ls. at_rest u ss (record (added x s) { lines = ls }) None) last
      ∙ ap (λ o. at_rest u ss (added all s) (with_vertices all.vertices o)) (sym out)

  -- an element of a kind
  element_shown : (in_line : Bool) (k : Kind) (e : Found) (to : ℕ) (pre post : List Found) (s : RawSurface) (line : Option RawLine) → fits in_line k ≡ true → IsPlaced surface k e to pre post → (in_line ≡ false → line ≡ None) → IsCounted pre s
      → ((within_line : Bool) → Grows within_line k e.depth (e.tag_end + 1) e.inside) → closed k (shown k e s line) ≡ expected k e s line
  element_shown true Outside e to pre post s line f p out c again = cc
  element_shown true Root e to pre post s line f p out c again = cc
  element_shown true Units e to pre post s line f p out c again = cc
  element_shown true UnitOf e to pre post s line f p out c again = cc
  element_shown true Surfaces e to pre post s line f p out c again = cc
  element_shown true Surface e to pre post s line f p out c again = cc
  element_shown true SourceData e to pre post s line f p out c again = cc
  element_shown true Boundaries e to pre post s line f p out c again = cc
  element_shown true Boundary e to pre post s line f p out c again = cc
  element_shown true Breaklines e to pre post s line f p out c again = cc
  element_shown true Breakline e to pre post s line f p out c again = cc
  element_shown true DataPoints e to pre post s line f p out c again = cc
  element_shown true Triples e to pre post s line f p out c again = triples_shown e to pre post s line p c
  element_shown true Pairs e to pre post s line f p out c again = pairs_shown e to pre post s line p c
  element_shown true Definition e to pre post s line f p out c again = cc
  element_shown true Points e to pre post s line f p out c again = cc
  element_shown true Point e to pre post s line f p out c again = cc
  element_shown true Faces e to pre post s line f p out c again = cc
  element_shown true Face e to pre post s line f p out c again = cc
  element_shown true Skipped e to pre post s line f p out c again = again true (pre ++ of_kind e Skipped ∷ []) post s line refl (inner_part surface Skipped e to pre post p) out (counted_on pre (of_kind e Skipped) s refl refl c)
  element_shown false Outside e to pre post s line f p out c again = cc
  element_shown false Root e to pre post s line f p out c again = cc
  element_shown false Units e to pre post s line f p out c again = cc
  element_shown false UnitOf e to pre post s line f p out c again = cc
  element_shown false Surfaces e to pre post s line f p out c again = cc
  element_shown false Surface e to pre post s line f p out c again = cc
  element_shown false SourceData e to pre post s line f p out c again = again false (pre ++ of_kind e SourceData ∷ []) post s line refl (inner_part surface SourceData e to pre post p) out (counted_on pre (of_kind e SourceData) s refl refl c)
  element_shown false Boundaries e to pre post s line f p out c again = again false (pre ++ of_kind e Boundaries ∷ []) post s line refl (inner_part surface Boundaries e to pre post p) out (counted_on pre (of_kind e Boundaries) s refl refl c)
  element_shown false Boundary e to pre post s line f p out c again = boundary_shown e to pre post s line p c (out refl) (again true)
  element_shown false Breaklines e to pre post s line f p out c again = again false (pre ++ of_kind e Breaklines ∷ []) post s line refl (inner_part surface Breaklines e to pre post p) out (counted_on pre (of_kind e Breaklines) s refl refl c)
  element_shown false Breakline e to pre post s line f p out c again = breakline_shown e to pre post s line p c (out refl) (again true)
  element_shown false DataPoints e to pre post s line f p out c again = again false (pre ++ of_kind e DataPoints ∷ []) post s line refl (inner_part surface DataPoints e to pre post p) out (counted_on pre (of_kind e DataPoints) s refl refl c)
  element_shown false Triples e to pre post s line f p out c again = triples_shown e to pre post s line p c
  element_shown false Pairs e to pre post s line f p out c again = pairs_shown e to pre post s line p c
  element_shown false Definition e to pre post s line f p out c again = again false (pre ++ of_kind e Definition ∷ []) post s line refl (inner_part surface Definition e to pre post p) out (counted_on pre (of_kind e Definition) s refl refl c)
  element_shown false Points e to pre post s line f p out c again = again false (pre ++ of_kind e Points ∷ []) post s line refl (inner_part surface Points e to pre post p) out (counted_on pre (of_kind e Points) s refl refl c)
  element_shown false Point e to pre post s line f p out c again = point_shown e to pre post s line p c
  element_shown false Faces e to pre post s line f p out c again = again false (pre ++ of_kind e Faces ∷ []) post s line refl (inner_part surface Faces e to pre post p) out (counted_on pre (of_kind e Faces) s refl refl c)
  element_shown false Face e to pre post s line f p out c again = face_shown e s line
  element_shown false Skipped e to pre post s line f p out c again = again false (pre ++ of_kind e Skipped ∷ []) post s line refl (inner_part surface Skipped e to pre post p) out (counted_on pre (of_kind e Skipped) s refl refl c)

  -- of content after some elements
  then_more : (es fs : List Found) (s : RawSurface) (line : Option RawLine) → effected u ss (effect_of surface fs) (added (effect_of surface es) s) (with_vertices (effect_of surface es).vertices line) ≡ effected u ss (effect_of surface (es ++ fs)) s line
  then_more es fs s line = effected_joined u ss (effect_of surface es) (effect_of surface fs) s line ∙ ap (λ x. effected u ss x s line) (sym (effect_more surface es fs))

  nothing_grows : (in_line : Bool) (k : Kind) (depth at : ℕ) → Grows in_line k depth at Nothing
  nothing_grows in_line k depth at pre post s line h part out c = sym (effected_nothing u ss s line)

  -- what content shows adds what its elements do
  pub grows : (in_line : Bool) (k : Kind) (depth at : ℕ) (x : Content) → Grows in_line k depth at x
  grows in_line k depth at Nothing pre post s line h part out c = sym (effected_nothing u ss s line)
  grows in_line k depth at (Byte b after) pre post s line h part out c =
      ap (λ t. gather (at_rest u ss s line) ((read k at (ended_by t b no_word) ++ ampersands t at b) ++ events k depth (at + 1) (word_after t at b no_word) after)) (no_text in_line k h)
      ∙ grows in_line k depth (at + 1) after pre post s line h (narrowed surface at (end_of at (Byte b after)) (at + 1) (end_of (at + 1) after) (elements k depth (at + 1) after) pre post (omega arith) (omega arith) part) out c
  grows in_line k depth at (Comment bytes after) pre post s line h part out c =
      let m = at + (length bytes + 7) in
      let e = comment_end at bytes after in
      grows in_line k depth m after pre post s line h (narrowed surface at (end_of at (Comment bytes after)) m (end_of m after) (elements k depth m after) pre post (omega arith) (omega (arith, e)) part) out c
  grows in_line k depth at (Instruction bytes after) pre post s line h part out c =
      let m = at + (length bytes + 4) in
      let e = instruction_end at bytes after in
      grows in_line k depth m after pre post s line h (narrowed surface at (end_of at (Instruction bytes after)) m (end_of m after) (elements k depth m after) pre post (omega arith) (omega (arith, e)) part) out c
  grows in_line k depth at (CData bytes after) pre post s line h part out c =
      let m = at + (length bytes + 12) in
      let e = cdata_end at bytes after in
      quotes_pass (has_text k) at (at + 8) (events k depth m no_word after) (at_rest u ss s line)
      ∙ grows in_line k depth m after pre post s line h (narrowed surface at (end_of at (CData bytes after)) m (end_of m after) (elements k depth m after) pre post (omega arith) (omega (arith, e)) part) out c
  grows in_line k depth at (Empty tag after) pre post s line h part out c =
      let m = at + length (empty_text tag) in
      let own = below k tag.name in
      let e = empty_found own (depth + 1) at tag in
      let rest = events k depth m no_word after in
      let fs = elements k depth m after in
      let value = ap (λ o. unwrap_or o []) (read_values (read_name own) tag.attributes).first in
      let n = empty_end at tag after in
      let first = first_part surface at m (end_of at (Empty tag after)) (e ∷ []) fs pre post (omega (arith, n)) (none_before k depth m after) part in
      let second = second_part surface at m (end_of at (Empty tag after)) (e ∷ []) fs pre post (omega arith) (λ offset z. upto_earlier offset e [] (omega (arith, z))) part in
      let placed : IsPlaced surface own e m pre (fs ++ post) = record { part = first; tag = omega arith; end = omega arith } in
      ap (λ v. gather (closed own (opened own at v (at_rest u ss s line))) rest) value
      ∙ ap (λ g. gather g rest) (element_shown in_line own e m pre (fs ++ post) s line (fits_below in_line k tag.name h) placed out c (λ within_line. nothing_grows within_line own (depth + 1) (e.tag_end + 1)))
      ∙ grows in_line k depth m after (pre ++ e ∷ []) post (added (effect_of surface (e ∷ [])) s) (with_vertices (effect_of surface (e ∷ [])).vertices line) h
      (narrowed surface m (end_of at (Empty tag after)) m (end_of m after) fs (pre ++ e ∷ []) post (omega arith) (omega (arith, n)) second)
      (λ z. ap (with_vertices (effect_of surface (e ∷ [])).vertices) (out z)) (counted_more surface pre (e ∷ []) s c)
      ∙ then_more (e ∷ []) fs s line
  grows in_line k depth at (Element tag inside end after) pre post s line h part out c =
      let m = at + length (start_text tag) in
      let there = m + length (content_text inside) + length (end_text end) in
      let own = below k tag.name in
      let e = whole_found own (depth + 1) at tag inside end in
      let es = e ∷ elements own (depth + 1) m inside in
      let rest = events k depth there no_word after in
      let fs = elements k depth there after in
      let v = value_in k depth at tag (m - 1) in
      let value = ap (λ o. unwrap_or o []) (read_values (read_name own) tag.attributes).first in
      let n = element_end at tag inside end after in
      let p : e.tag_end + 1 ≡ m = omega arith in
      let to = end_of at (Element tag inside end after) in
      let first = first_part surface at there to es fs pre post (omega (arith, n)) (none_before k depth there after) part in
      let old : (offset : ℕ) → there ≤ offset → upto offset es ≡ es = λ offset z. upto_earlier offset e (elements own (depth + 1) m inside) (omega (arith, z)) ∙ ap (λ ys. e ∷ ys) (all_before own (depth + 1) m inside offset (omega (arith, z))) in
      let second = second_part surface at there to es fs pre post (omega arith) old part in
      let placed : IsPlaced surface own e there pre (fs ++ post) = record {
        part = subst (λ z. IsPart surface at there (e ∷ elements own (depth + 1) z inside) pre (fs ++ post)) (sym p) first;
        tag = omega arith;
        end = omega arith;
      } in
      gather_more (opened own at v (at_rest u ss s line)) (events own (depth + 1) m no_word inside) (Closed (closing k at tag inside end) ∷ rest)
      ∙ ap (λ z. gather (closed own (gather (opened own at v (at_rest u ss s line)) (events own (depth + 1) z no_word inside))) rest) (sym p)
      ∙ ap (λ z. gather (closed own (gather (opened own at z (at_rest u ss s line)) (events own (depth + 1) (e.tag_end + 1) no_word inside))) rest) value
      ∙ ap (λ g. gather g rest) (
      element_shown in_line own e there pre (fs ++ post) s line (fits_below in_line k tag.name h) placed out c (λ within_line. grows within_line own (depth + 1) (e.tag_end + 1) inside)
      ∙ ap (λ z. effected u ss (effect_of surface (e ∷ elements own (depth + 1) z inside)) s line) p
      )
      ∙ grows in_line k depth there after (pre ++ es) post (added (effect_of surface es) s) (with_vertices (effect_of surface es).vertices line) h
      (narrowed surface there to there (end_of there after) fs (pre ++ es) post (omega arith) (omega (arith, n)) second)
      (λ z. ap (with_vertices (effect_of surface es).vertices) (out z)) (counted_more surface pre es s c)
      ∙ then_more es fs s line
