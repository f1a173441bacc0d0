-- What elements add to the surface that is open.
use Rattle.std.proofs.Common.{◌≡◌, ℕ, ◌+◌, true, List, [], ◌∷◌, ◌++◌, length, flat_map, Option, None, refl, sym, ◌∙◌, ap, append_assoc, length-append}
use Rattle.std.proofs.lemmas.List.{append-nil}
use Rattle.std.specs.List.{filter_map, cons_option}
use Rattle.ground_num.specs.declared.head.LinearUnit.{LinearUnit}
use Rattle.landxml_read.specs.declared.raw.Triple.{Triple}
use Rattle.landxml_read.specs.declared.raw.Pair2.{Pair2}
use Rattle.landxml_read.specs.declared.raw.RawVertex.{RawVertex}
use Rattle.landxml_read.specs.declared.kind.Kind.{Kind}
use Rattle.landxml_read.specs.declared.kind.Kind.TheVariants.{Outside, Root, Units, UnitOf, Surfaces, Surface, SourceData, Boundaries, Boundary, Breaklines, Breakline, DataPoints, Triples, Pairs, Definition, Points, Point, Faces, Face, Skipped}
use Rattle.landxml_read.specs.Markup.{Content, Nothing, Byte, Comment, Instruction, CData, Empty, Element, content_text, start_text, empty_text, end_text}
use Rattle.landxml_read.specs.Elements.{Found, below, elements, empty_found, whole_found}
use Rattle.landxml_read.specs.declared.raw.RawLine.{RawLine}
use Rattle.landxml_read.specs.declared.raw.RawId.{RawId}
use Rattle.landxml_read.specs.declared.raw.RawFace.{RawFace}
use Rattle.landxml_read.specs.declared.raw.RawSurface.{RawSurface}
use Rattle.landxml_read.specs.Lists.{triples_of, pairs_of, vertices_of, line_of, id_of, faces_of}
use Rattle.landxml_read.specs.declared.gather.Gathered.{Gathered}
use Rattle.landxml_read.specs.Gather.{with_vertices}
use Rattle.landxml_read.proofs.Nesting.{fits, filter_map_more, flat_more}
use Rattle.landxml_read.proofs.Gathering.{with_none, with_more, at_rest}

-- what is added to the lists of the surface, and to the line that is open
pub record Effect : Type 0 where
  pub triples : List Triple
  pub pairs : List Pair2
  pub vertices : List RawVertex
  pub lines : List RawLine
  pub ids : List RawId
  pub faces : List RawFace

-- nothing
abbrev pub no_effect : Effect
no_effect = record { triples = []; pairs = []; vertices = []; lines = []; ids = []; faces = [] }

-- of some elements of a surface
abbrev pub effect_of : Found → List Found → Effect
effect_of surface es = record {
  triples = flat_map triples_of es;
  pairs = flat_map pairs_of es;
  vertices = flat_map (vertices_of surface) es;
  lines = filter_map (line_of surface) es;
  ids = filter_map (id_of surface) es;
  faces = flat_map faces_of es;
}

-- one after another
abbrev pub joined : Effect → Effect → Effect
joined a b = record {
  triples = a.triples ++ b.triples;
  pairs = a.pairs ++ b.pairs;
  vertices = a.vertices ++ b.vertices;
  lines = a.lines ++ b.lines;
  ids = a.ids ++ b.ids;
  faces = a.faces ++ b.faces;
}

-- an element's before another
abbrev pub led_by : Found → Found → Effect → Effect
led_by surface e x = record {
  triples = triples_of e ++ x.triples;
  pairs = pairs_of e ++ x.pairs;
  vertices = vertices_of surface e ++ x.vertices;
  lines = cons_option (line_of surface e) x.lines;
  ids = cons_option (id_of surface e) x.ids;
  faces = faces_of e ++ x.faces;
}

-- the surface with it
abbrev pub added : Effect → RawSurface → RawSurface
added x s = record s {
  triples = s.triples ++ x.triples;
  pairs = s.pairs ++ x.pairs;
  lines = s.lines ++ x.lines;
  ids = s.ids ++ x.ids;
  faces = s.faces ++ x.faces;
}

-- what is gathered with it
abbrev pub effected : Option LinearUnit → List RawSurface → Effect → RawSurface → Option RawLine → Gathered
effected u ss x s line = at_rest u ss (added x s) (with_vertices x.vertices line)

pub effect_more : (surface : Found) (es fs : List Found) → effect_of surface (es ++ fs) ≡ joined (effect_of surface es) (effect_of surface fs)
effect_more surface es fs =
    let a = flat_more triples_of es fs in
    let b = flat_more pairs_of es fs in
    let c = flat_more (vertices_of surface) es fs in
    let d = filter_map_more (line_of surface) es fs in
    let e = filter_map_more (id_of surface) es fs in
    let f = flat_more faces_of es fs in
    λ i. record { triples = a i; pairs = b i; vertices = c i; lines = d i; ids = e i; faces = f i }

pub effected_joined : (u : Option LinearUnit) (ss : List RawSurface) (x y : Effect) (s : RawSurface) (line : Option RawLine)
    → effected u ss y (added x s) (with_vertices x.vertices line) ≡ effected u ss (joined x y) s line
effected_joined u ss x y s line =
    let a = append_assoc s.triples x.triples y.triples in
    let b = append_assoc s.pairs x.pairs y.pairs in
    let d = append_assoc s.lines x.lines y.lines in
    let e = append_assoc s.ids x.ids y.ids in
    let f = append_assoc s.faces x.faces y.faces in
    let v = with_more x.vertices y.vertices line in
    λ i. at_rest u ss (record s { triples = a i; pairs = b i; lines = d i; ids = e i; faces = f i }) (v i)

pub effected_nothing : (u : Option LinearUnit) (ss : List RawSurface) (s : RawSurface) (line : Option RawLine) → effected u ss no_effect s line ≡ at_rest u ss s line
effected_nothing u ss s line =
    let a = append-nil s.triples in
    let b = append-nil s.pairs in
    let d = append-nil s.lines in
    let e = append-nil s.ids in
    let f = append-nil s.faces in
    let v = with_none line in
    λ i. at_rest u ss (record s { triples = a i; pairs = b i; lines = d i; ids = e i; faces = f i }) (v i)

-- skipped elements add nothing
pub skipped_effect : (surface : Found) (k : Kind) → ((name : List ℕ) → below k name ≡ Skipped) → (depth at : ℕ) (x : Content) → effect_of surface (elements k depth at x) ≡ no_effect
skipped_effect surface k none depth at Nothing = refl
skipped_effect surface k none depth at (Byte b after) = skipped_effect surface k none depth (at + 1) after
skipped_effect surface k none depth at (Comment bytes after) = skipped_effect surface k none depth (at + (length bytes + 7)) after
skipped_effect surface k none depth at (Instruction bytes after) = skipped_effect surface k none depth (at + (length bytes + 4)) after
skipped_effect surface k none depth at (CData bytes after) = skipped_effect surface k none depth (at + (length bytes + 12)) after
skipped_effect surface k none depth at (Empty tag after) =
    let m = at + length (empty_text tag) in
    ap (λ own. effect_of surface (empty_found own (depth + 1) at tag ∷ elements k depth m after)) (none tag.name)
    ∙ skipped_effect surface k none depth m after
skipped_effect surface k none depth at (Element tag inside end after) =
    let m = at + length (start_text tag) in
    let there = m + length (content_text inside) + length (end_text end) in
    let rest = elements k depth there after in
    ap (λ own. effect_of surface (whole_found own (depth + 1) at tag inside end ∷ (elements own (depth + 1) m inside ++ rest))) (none tag.name)
    ∙ effect_more surface (elements Skipped (depth + 1) m inside) rest
    ∙ ap (λ x. joined x (effect_of surface rest)) (skipped_effect surface Skipped (λ name. refl) (depth + 1) m inside)
    ∙ skipped_effect surface k none depth there after

-- an element of a kind
abbrev pub of_kind : Found → Kind → Found
of_kind e k = record e { kind = k }

-- no element in a line is a line
pub no_line_in : (surface e : Found) → fits true e.kind ≡ true → line_of surface e ≡ None
no_line_in surface e h = by e.kind h
  where
    by : (k : Kind) → fits true k ≡ true → line_of surface (of_kind e k) ≡ None
    by Outside h = cc
    by Root h = cc
    by Units h = cc
    by UnitOf h = cc
    by Surfaces h = cc
    by Surface h = cc
    by SourceData h = cc
    by Boundaries h = cc
    by Boundary h = cc
    by Breaklines h = cc
    by Breakline h = cc
    by DataPoints h = cc
    by Triples h = refl
    by Pairs h = refl
    by Definition h = cc
    by Points h = cc
    by Point h = cc
    by Faces h = cc
    by Face h = cc
    by Skipped h = refl

-- as many triples and pairs as in the elements before
pub record IsCounted (pre : List Found) (s : RawSurface) : Type 0 where
  pub triples : length s.triples ≡ length (flat_map triples_of pre)
  pub pairs : length s.pairs ≡ length (flat_map pairs_of pre)

length_more : {X : Type 0} (f : Found → List X) (xs : List X) (pre es : List Found) → length xs ≡ length (flat_map f pre) → length (xs ++ flat_map f es) ≡ length (flat_map f (pre ++ es))
length_more f xs pre es h =
    length-append xs (flat_map f es) ∙ ap (λ n. n + length (flat_map f es)) h ∙ sym (length-append (flat_map f pre) (flat_map f es)) ∙ ap length (sym (flat_more f pre es))

pub counted_more : (surface : Found) (pre es : List Found) (s : RawSurface) → IsCounted pre s → IsCounted (pre ++ es) (added (effect_of surface es) s)
counted_more surface pre es s c = record { triples = length_more triples_of s.triples pre es c.triples; pairs = length_more pairs_of s.pairs pre es c.pairs }

-- an element with none
pub counted_on : (pre : List Found) (e : Found) (s : RawSurface) → triples_of e ≡ [] → pairs_of e ≡ [] → IsCounted pre s → IsCounted (pre ++ e ∷ []) s
counted_on pre e s a b c = record {
  triples = ap length (sym (append-nil s.triples) ∙ ap (λ xs. s.triples ++ (xs ++ [])) (sym a)) ∙ length_more triples_of s.triples pre (e ∷ []) c.triples;
  pairs = ap length (sym (append-nil s.pairs) ∙ ap (λ xs. s.pairs ++ (xs ++ [])) (sym b)) ∙ length_more pairs_of s.pairs pre (e ∷ []) c.pairs;
}
