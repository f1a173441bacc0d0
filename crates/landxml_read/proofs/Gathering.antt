-- What is gathered from the words of an element, and that of what is skipped nothing is.
use Rattle.std.proofs.Common.{◌≡◌, ℕ, ◌+◌, ◌-◌, ◌==◌, ◌&&◌, Bool, true, false, cond, List, [], ◌∷◌, ◌++◌, length, map, unwrap_or, Option, None, Some, refl, sym, ◌∙◌, ap, arith, append_assoc, length-append, suc}
use Rattle.std.proofs.lemmas.List.{append-nil}
use Rattle.ground_num.specs.declared.head.LinearUnit.{LinearUnit}
use Rattle.landxml_read.specs.declared.raw.Triple.{Triple}
use Rattle.landxml_read.specs.declared.raw.Pair2.{Pair2}
use Rattle.landxml_read.specs.declared.raw.RawVertex.{RawVertex}
use Rattle.landxml_read.specs.declared.raw.RawVertex.TheVariants as vertex
use Rattle.landxml_read.specs.declared.gather.Gathered.{Gathered}
use Rattle.landxml_read.specs.declared.gather.Numbers.TheVariants as numbers
use Rattle.landxml_read.specs.declared.gather.Ids.TheVariants as ids
use Rattle.landxml_read.specs.declared.kind.Kind.{Kind}
use Rattle.landxml_read.specs.declared.kind.Kind.TheVariants.{Triples, Pairs, Point, Face, Skipped}
use Rattle.landxml_read.specs.Markup.{StartTag, Content, Nothing, Byte, Comment, Instruction, CData, Empty, Element, content_text, start_text, empty_text, end_text}
use Rattle.landxml_read.specs.Elements.{below}
use Rattle.landxml_read.specs.Words.{Word}
use Rattle.landxml_read.specs.Faults.{has_text}
use Rattle.landxml_read.specs.declared.raw.RawFace.{RawFace}
use Rattle.landxml_read.specs.declared.raw.RawLine.{RawLine}
use Rattle.landxml_read.specs.declared.raw.RawSurface.{RawSurface}
use Rattle.landxml_read.specs.Lists.{number, by_three, by_two, counted, faces_in}
use Rattle.landxml_read.specs.Events.{Event, Opened, Ampersand, Closed, opening, closing, empty_events, no_word, finished, word_after, ended_by, ampersands, quotes, read, words_read, events}
use Rattle.landxml_read.specs.Gather.{numbered, gathered, opened, with_vertices, to_triple, with_text, closed, gather}

-- events

pub gather_more : (g : Gathered) (xs ys : List Event) → gather g (xs ++ ys) ≡ gather (gather g xs) ys
gather_more g [] ys = refl
gather_more g (x ∷ xs) ys = gather_more (gathered x g) xs ys

-- after the words of an element of a kind
abbrev pub reads : Kind → List Word → Gathered → Gathered
reads k [] g = g
reads k (w ∷ ws) g = reads k ws (with_text k w g)

reads_more : (k : Kind) (xs ys : List Word) (g : Gathered) → reads k (xs ++ ys) g ≡ reads k ys (reads k xs g)
reads_more k [] ys g = refl
reads_more k (x ∷ xs) ys g = reads_more k xs ys (with_text k x g)

gather_read : (k : Kind) (at : ℕ) (ws : List Word) (g : Gathered) → gather g (read k at ws) ≡ reads k ws g
gather_read k at [] g = refl
gather_read k at (w ∷ ws) g = gather_read k at ws (with_text k w g)

-- some words, and then others
then_read : (k : Kind) (at : ℕ) (ws more : List Word) (es : List Event) → ((h : Gathered) → gather h es ≡ reads k more h) → (g : Gathered) → gather g (read k at ws ++ es) ≡ reads k (ws ++ more) g
then_read k at ws more es on g = gather_more g (read k at ws) es ∙ ap (λ h. gather h es) (gather_read k at ws g) ∙ on (reads k ws g) ∙ sym (reads_more k ws more g)

pub quotes_pass : (has : Bool) (at shown : ℕ) (es : List Event) (g : Gathered) → gather g (quotes has at shown ++ es) ≡ gather g es
quotes_pass true at shown es g = refl
quotes_pass false at shown es g = refl

ampersands_pass : (has : Bool) (at b : ℕ) (es : List Event) (g : Gathered) → gather g (ampersands has at b ++ es) ≡ gather g es
ampersands_pass has at b es g = by (has && b == 38)
  where
    by : (t : Bool) → gather g (cond t (Ampersand at ∷ []) [] ++ es) ≡ gather g es
    by true = refl
    by false = refl

-- of what a byte of text shows only the word is gathered
pub letter_pass : (k : Kind) (has : Bool) (at b : ℕ) (w : Word) (g : Gathered) → gather g (read k at (ended_by has b w) ++ ampersands has at b) ≡ gather g (read k at (ended_by has b w))
letter_pass k has at b w g = gather_more g (read k at (ended_by has b w)) (ampersands has at b) ∙ by (has && b == 38) (gather g (read k at (ended_by has b w)))
  where
    by : (t : Bool) (h : Gathered) → gather h (cond t (Ampersand at ∷ []) []) ≡ h
    by true h = refl
    by false h = refl

-- the value of a tag's read attribute, or none
abbrev pub value_in : Kind → ℕ → ℕ → StartTag → ℕ → List ℕ
value_in k depth at tag shown = unwrap_or (opening k depth at tag shown).values.first []

-- what is skipped

pub skip : (depth at : ℕ) (x : Content) (g : Gathered) → gather g (events Skipped depth at no_word x) ≡ g
skip depth at Nothing g = refl
skip depth at (Byte b after) g = skip depth (at + 1) after g
skip depth at (Comment bytes after) g = skip depth (at + (length bytes + 7)) after g
skip depth at (Instruction bytes after) g = skip depth (at + (length bytes + 4)) after g
skip depth at (CData bytes after) g = skip depth (at + (length bytes + 12)) after g
skip depth at (Empty tag after) g = skip depth (at + length (empty_text tag)) after g
skip depth at (Element tag inside end after) g =
    let m = at + length (start_text tag) in
    let there = m + length (content_text inside) + length (end_text end) in
    let rest = events Skipped depth there no_word after in
    gather_more g (events Skipped (depth + 1) m no_word inside) (Closed (closing Skipped at tag inside end) ∷ rest)
    ∙ ap (λ h. gather h rest) (skip (depth + 1) m inside g)
    ∙ skip depth there after g

-- text

-- of content whose text is read and whose elements are skipped, the words are gathered
pub text_read : (k : Kind) → has_text k ≡ true → ((name : List ℕ) → below k name ≡ Skipped) → (depth at : ℕ) (w : Word) (x : Content) (g : Gathered) → gather g (events k depth at w x) ≡ reads k (words_read true at w x) g
text_read k has none depth at w Nothing g = gather_read k at (finished w) g
text_read k has none depth at w (Byte b after) g =
    let u = word_after true at b w in
    let rest = events k depth (at + 1) u after in
    ap (λ h. gather g ((read k at (ended_by h b w) ++ ampersands h at b) ++ events k depth (at + 1) (word_after h at b w) after)) has
    ∙ ap (gather g) (append_assoc (read k at (ended_by true b w)) (ampersands true at b) rest)
    ∙ then_read k at (ended_by true b w) (words_read true (at + 1) u after) (ampersands true at b ++ rest) (λ h. ampersands_pass true at b rest h ∙ text_read k has none depth (at + 1) u after h) g
text_read k has none depth at w (Comment bytes after) g =
    let m = at + (length bytes + 7) in then_read k at (finished w) (words_read true m no_word after) (events k depth m no_word after) (text_read k has none depth m no_word after) g
text_read k has none depth at w (Instruction bytes after) g =
    let m = at + (length bytes + 4) in then_read k at (finished w) (words_read true m no_word after) (events k depth m no_word after) (text_read k has none depth m no_word after) g
text_read k has none depth at w (CData bytes after) g =
    let m = at + (length bytes + 12) in
    let rest = events k depth m no_word after in
    then_read k at (finished w) (words_read true m no_word after) (quotes (has_text k) at (at + 8) ++ rest) (λ h. quotes_pass (has_text k) at (at + 8) rest h ∙ text_read k has none depth m no_word after h) g
text_read k has none depth at w (Empty tag after) g =
    let m = at + length (empty_text tag) in
    let rest = events k depth m no_word after in
    let v = value_in k depth at tag (m - 1) in
    then_read k at (finished w) (words_read true m no_word after) (empty_events k depth at tag ++ rest)
    (λ h. ap (λ own. gather (closed own (opened own at v h)) rest) (none tag.name) ∙ text_read k has none depth m no_word after h) g
text_read k has none depth at w (Element tag inside end after) g =
    let m = at + length (start_text tag) in
    let there = m + length (content_text inside) + length (end_text end) in
    let rest = events k depth there no_word after in
    let within = events (below k tag.name) (depth + 1) m no_word inside in
    let v = value_in k depth at tag (m - 1) in
    then_read k at (finished w) (words_read true there no_word after) (Opened (opening k depth at tag (m - 1)) ∷ (within ++ (Closed (closing k at tag inside end) ∷ rest)))
    (λ h.
    gather_more (opened (below k tag.name) at v h) within (Closed (closing k at tag inside end) ∷ rest)
    ∙ ap (λ own. gather (closed own (gather (opened own at v h) (events own (depth + 1) m no_word inside))) rest) (none tag.name)
    ∙ ap (λ u. gather u rest) (skip (depth + 1) m inside h)
    ∙ text_read k has none depth there no_word after h) g

-- lines

pub with_none : (line : Option RawLine) → with_vertices [] line ≡ line
with_none None = refl
with_none (Some l) = ap (λ vs. Some (record l { vertices = vs })) (append-nil l.vertices)

pub with_more : (vs ws : List RawVertex) (line : Option RawLine) → with_vertices ws (with_vertices vs line) ≡ with_vertices (vs ++ ws) line
with_more vs ws None = refl
with_more vs ws (Some l) = ap (λ us. Some (record l { vertices = us })) (append_assoc l.vertices vs ws)

-- words

-- where a surface is open, and a line or none
abbrev pub at_rest : Option LinearUnit → List RawSurface → RawSurface → Option RawLine → Gathered
at_rest u ss s line = record { unit = u; surfaces = ss; surface = Some s; line = line; face_at = 0; numbers = numbers.Zero; ids = ids.Zero }

-- where no surface is open
abbrev pub between : Option LinearUnit → List RawSurface → Gathered
between u ss = record { unit = u; surfaces = ss; surface = None; line = None; face_at = 0; numbers = numbers.Zero; ids = ids.Zero }

-- so many vertices from an index of triples on
abbrev pub triple_vertices : ℕ → ℕ → List RawVertex
triple_vertices first n = map vertex.Triple (counted first n)

-- so many vertices from an index of pairs on
abbrev pub pair_vertices : ℕ → ℕ → List RawVertex
pair_vertices first n = map vertex.Pair (counted first n)

length_push : {X : Type 0} (xs : List X) (x : X) → length (xs ++ x ∷ []) ≡ suc (length xs)
length_push xs x = let a = length-append xs (x ∷ []) in omega (arith, a)

-- with further triples
abbrev pub triples_added : Option LinearUnit → List RawSurface → RawSurface → Option RawLine → List Triple → Gathered
triples_added u ss s line ts = at_rest u ss (record s { triples = s.triples ++ ts }) (with_vertices (triple_vertices (length s.triples) (length ts)) line)

no_triples : (u : Option LinearUnit) (ss : List RawSurface) (s : RawSurface) (line : Option RawLine) → at_rest u ss s line ≡ triples_added u ss s line []
no_triples u ss s line = let a = sym (append-nil s.triples) in let b = sym (with_none line) in λ i. at_rest u ss (record s { triples = a i }) (b i)

pub three_words : (u : Option LinearUnit) (ss : List RawSurface) (ws : List Word) (s : RawSurface) (line : Option RawLine) → closed Triples (reads Triples ws (at_rest u ss s line)) ≡ triples_added u ss s line (by_three ws)
three_words u ss [] s line = no_triples u ss s line
three_words u ss (a ∷ []) s line = no_triples u ss s line
three_words u ss (a ∷ b ∷ []) s line = no_triples u ss s line
three_words u ss (a ∷ b ∷ c ∷ ws) s line =
    let t : Triple = record { n = number a; e = number b; z = number c; n_at = a.at; e_at = b.at; z_at = c.at } in
    let v = vertex.Triple (length s.triples) in
    let p = append_assoc s.triples (t ∷ []) (by_three ws) in
    let q = ap (λ n. with_vertices (triple_vertices n (length (by_three ws))) (with_vertices (v ∷ []) line)) (length_push s.triples t) ∙ with_more (v ∷ []) (triple_vertices (suc (length s.triples)) (length (by_three ws))) line in
    three_words u ss ws (record s { triples = s.triples ++ t ∷ [] }) (with_vertices (v ∷ []) line) ∙ (λ i. at_rest u ss (record s { triples = p i }) (q i))

-- with further pairs
abbrev pub pairs_added : Option LinearUnit → List RawSurface → RawSurface → Option RawLine → List Pair2 → Gathered
pairs_added u ss s line ps = at_rest u ss (record s { pairs = s.pairs ++ ps }) (with_vertices (pair_vertices (length s.pairs) (length ps)) line)

no_pairs : (u : Option LinearUnit) (ss : List RawSurface) (s : RawSurface) (line : Option RawLine) → at_rest u ss s line ≡ pairs_added u ss s line []
no_pairs u ss s line = let a = sym (append-nil s.pairs) in let b = sym (with_none line) in λ i. at_rest u ss (record s { pairs = a i }) (b i)

pub two_words : (u : Option LinearUnit) (ss : List RawSurface) (ws : List Word) (s : RawSurface) (line : Option RawLine) → closed Pairs (reads Pairs ws (at_rest u ss s line)) ≡ pairs_added u ss s line (by_two ws)
two_words u ss [] s line = no_pairs u ss s line
two_words u ss (a ∷ []) s line = no_pairs u ss s line
two_words u ss (a ∷ b ∷ ws) s line =
    let t : Pair2 = record { n = number a; e = number b; at = a.at } in
    let v = vertex.Pair (length s.pairs) in
    let p = append_assoc s.pairs (t ∷ []) (by_two ws) in
    let q = ap (λ n. with_vertices (pair_vertices n (length (by_two ws))) (with_vertices (v ∷ []) line)) (length_push s.pairs t) ∙ with_more (v ∷ []) (pair_vertices (suc (length s.pairs)) (length (by_two ws))) line in
    two_words u ss ws (record s { pairs = s.pairs ++ t ∷ [] }) (with_vertices (v ∷ []) line) ∙ (λ i. at_rest u ss (record s { pairs = p i }) (q i))

-- a point's words are those of a list of triples
pub point_words : (ws : List Word) (g : Gathered) → reads Point ws g ≡ reads Triples ws g
point_words [] g = refl
point_words (w ∷ ws) g = point_words ws (to_triple g.numbers (numbered w) g)

-- in a face that begins at an offset
abbrev pub in_face : ℕ → Option LinearUnit → List RawSurface → RawSurface → Option RawLine → Gathered
in_face at u ss s line = record (at_rest u ss s line) { face_at = at }

no_faces : (u : Option LinearUnit) (ss : List RawSurface) (s : RawSurface) (line : Option RawLine) → at_rest u ss s line ≡ at_rest u ss (record s { faces = s.faces ++ [] }) line
no_faces u ss s line = let a = sym (append-nil s.faces) in λ i. at_rest u ss (record s { faces = a i }) line

pub face_words : (at : ℕ) (u : Option LinearUnit) (ss : List RawSurface) (ws : List Word) (s : RawSurface) (line : Option RawLine) → closed Face (reads Face ws (in_face at u ss s line)) ≡ at_rest u ss (record s { faces = s.faces ++ faces_in at ws }) line
face_words at u ss [] s line = no_faces u ss s line
face_words at u ss (a ∷ []) s line = no_faces u ss s line
face_words at u ss (a ∷ b ∷ []) s line = no_faces u ss s line
face_words at u ss (a ∷ b ∷ c ∷ ws) s line =
    let f : RawFace = record { at = at; a = a.text; b = b.text; c = c.text } in
    let p = append_assoc s.faces (f ∷ []) (faces_in at ws) in
    face_words at u ss ws (record s { faces = s.faces ++ f ∷ [] }) line ∙ (λ i. at_rest u ss (record s { faces = p i }) line)
