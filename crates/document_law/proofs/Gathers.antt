-- What is gathered of the parts of a written document.
use Rattle.std.proofs.Common.{◌≡◌, ℕ, zero, suc, List, [], ◌∷◌, ◌++◌, length, map, Option, None, Some, refl, sym, ◌∙◌, ap, subst}
use Rattle.std.specs.Prelude.{slice_get, option_map}
use Rattle.std.proofs.lemmas.List.{map-append}
use Rattle.ground_num.specs.declared.head.LinearUnit.{LinearUnit}
use Rattle.landxml_read.specs.declared.raw.Triple.{Triple}
use Rattle.landxml_read.specs.declared.raw.RawKind.{RawKind}
use Rattle.landxml_read.specs.declared.raw.RawVertex.{RawVertex}
use Rattle.landxml_read.specs.declared.raw.RawVertex.TheVariants as vertex
use Rattle.landxml_read.specs.declared.raw.RawLine.{RawLine}
use Rattle.landxml_read.specs.declared.raw.RawId.{RawId}
use Rattle.landxml_read.specs.declared.raw.RawFace.{RawFace}
use Rattle.landxml_read.specs.declared.gather.Gathered.{Gathered}
use Rattle.landxml_read.specs.declared.gather.Numbers.TheVariants as numbers
use Rattle.landxml_read.specs.declared.kind.Kind.{Kind}
use Rattle.landxml_read.specs.declared.kind.Kind.TheVariants.{Point, Face}
use Rattle.landxml_read.specs.Words.{Word}
use Rattle.landxml_read.specs.Numbers.{decimal_of, value_or_zero}
use Rattle.landxml_read.specs.Gather.{numbered, with_text, with_vertices, to_triple, put_line, opened, closed}
use Rattle.document_law.proofs.Holds.{Site, site_of, Course, Tagged, Corners, corners_of, look, IsLine, AreLines, IsOpen, IsId, AreIds, Sketch, IsSketched, held, Holds}

-- one more triple

get_front : (ts : List Triple) (t : Triple) (k : ℕ) (s : Site) → option_map site_of (slice_get ts k) ≡ Some s → option_map site_of (slice_get (ts ++ t ∷ []) k) ≡ Some s
get_front [] t k s e = cc
get_front (x ∷ xs) t zero s e = e
get_front (x ∷ xs) t (suc k) s e = get_front xs t k s e

get_last : (ts : List Triple) (t : Triple) → slice_get (ts ++ t ∷ []) (length ts) ≡ Some t
get_last [] t = refl
get_last (x ∷ xs) t = get_last xs t

look_longer : (ts : List Triple) (t : Triple) (v : RawVertex) (s : Site) → look ts v ≡ Some s → look (ts ++ t ∷ []) v ≡ Some s
look_longer ts t (vertex.Triple k) s e = get_front ts t k s e
look_longer ts t (vertex.Pair k) s e = cc

looks_longer : (ts : List Triple) (t : Triple) (vs : List RawVertex) (ss : List Site) → map (look ts) vs ≡ map Some ss → map (look (ts ++ t ∷ [])) vs ≡ map Some ss
looks_longer ts t [] [] e = refl
looks_longer ts t [] (s ∷ ss) e = cc
looks_longer ts t (v ∷ vs) [] e = cc
looks_longer ts t (v ∷ vs) (s ∷ ss) e =
    let a : look ts v ≡ Some s = cc in
    let b : map (look ts) vs ≡ map Some ss = cc in
    λ i. look_longer ts t v s a i ∷ looks_longer ts t vs ss b i

line_longer : (ts : List Triple) (t : Triple) (r : RawLine) (l : Course) → IsLine ts r l → IsLine (ts ++ t ∷ []) r l
line_longer ts t r l is = record { kind = is.kind; sites = looks_longer ts t r.vertices l.1 is.sites }

lines_longer : (ts : List Triple) (t : Triple) (rs : List RawLine) (ls : List Course) → AreLines ts rs ls → AreLines (ts ++ t ∷ []) rs ls
lines_longer ts t [] [] are = tt
lines_longer ts t [] (l ∷ ls) are = are
lines_longer ts t (r ∷ rs) [] are = are
lines_longer ts t (r ∷ rs) (l ∷ ls) are = (line_longer ts t r l are.0, lines_longer ts t rs ls are.1)

ids_longer : (ts : List Triple) (t : Triple) (rs : List RawId) (is : List Tagged) → AreIds ts rs is → AreIds (ts ++ t ∷ []) rs is
ids_longer ts t [] [] are = tt
ids_longer ts t [] (i ∷ is) are = are
ids_longer ts t (r ∷ rs) [] are = are
ids_longer ts t (r ∷ rs) (i ∷ is) are = (record { id = are.0.id; site = get_front ts t r.triple i.1 are.0.site }, ids_longer ts t rs is are.1)

-- one more line, and one more id

lines_more : (ts : List Triple) (rs : List RawLine) (ls : List Course) (r : RawLine) (l : Course) → AreLines ts rs ls → IsLine ts r l → AreLines ts (rs ++ r ∷ []) (ls ++ l ∷ [])
lines_more ts [] [] r l are is = (is, tt)
lines_more ts [] (m ∷ ls) r l are is = absurd are
lines_more ts (q ∷ rs) [] r l are is = absurd are
lines_more ts (q ∷ rs) (m ∷ ls) r l are is = (are.0, lines_more ts rs ls r l are.1 is)

ids_more : (ts : List Triple) (rs : List RawId) (is : List Tagged) (r : RawId) (i : Tagged) → AreIds ts rs is → IsId ts r i → AreIds ts (rs ++ r ∷ []) (is ++ i ∷ [])
ids_more ts [] [] r i are is = (is, tt)
ids_more ts [] (m ∷ ms) r i are is = absurd are
ids_more ts (q ∷ rs) [] r i are is = absurd are
ids_more ts (q ∷ rs) (m ∷ ms) r i are is = (are.0, ids_more ts rs ms r i are.1 is)

-- the sketch with one site more, which is one of the open line, where one is open
abbrev pub with_course : Site → Option Course → Option Course
with_course s None = None
with_course s (Some l) = Some (l.0, l.1 ++ s ∷ [])

abbrev pub with_site : Site → Sketch → Sketch
with_site s sk = record sk { sites = sk.sites ++ s ∷ []; line = with_course s sk.line }

vertices_more : (ts : List Triple) (t : Triple) (vs : List RawVertex) (ss : List Site) → map (look ts) vs ≡ map Some ss → map (look (ts ++ t ∷ [])) (vs ++ vertex.Triple (length ts) ∷ []) ≡ map Some (ss ++ site_of t ∷ [])
vertices_more ts t vs ss e =
    map-append (look (ts ++ t ∷ [])) vs (vertex.Triple (length ts) ∷ [])
    ∙ (λ i. looks_longer ts t vs ss e i ++ ap (option_map site_of) (get_last ts t) i ∷ [])
    ∙ sym (map-append Some ss (site_of t ∷ []))

open_more : (ts : List Triple) (t : Triple) (line : Option RawLine) (l : Option Course) → IsOpen ts line l → IsOpen (ts ++ t ∷ []) (with_vertices (vertex.Triple (length ts) ∷ []) line) (with_course (site_of t) l)
open_more ts t None None is = tt
open_more ts t None (Some l) is = is
open_more ts t (Some r) None is = is
open_more ts t (Some r) (Some l) is = record { kind = is.kind; sites = vertices_more ts t r.vertices l.1 is.sites }

-- a kind whose words are taken by threes
abbrev pub IsByThree : Kind → Type 0
IsByThree kind = (w : Word) (g : Gathered) → with_text kind w g ≡ to_triple g.numbers (numbered w) g

abbrev pub triple_by : Word → Word → Word → Triple
triple_by a b c = record { n = record { 0 = value_or_zero (decimal_of a.text) }; e = record { 0 = value_or_zero (decimal_of b.text) }; z = record { 0 = value_or_zero (decimal_of c.text) }; n_at = a.at; e_at = b.at; z_at = c.at }

site_sketched : (sk : Sketch) (ts : List Triple) (lines : List RawLine) (line : Option RawLine) (ids : List RawId) (faces : List RawFace) (t : Triple) (s : Site) → site_of t ≡ s → IsSketched sk ts lines line ids faces
    → IsSketched (with_site s sk) (ts ++ t ∷ []) lines (with_vertices (vertex.Triple (length ts) ∷ []) line) ids faces
site_sketched sk ts lines line ids faces t s e h =
    let P : Site → Type 0 = λ s. IsSketched (with_site s sk) (ts ++ t ∷ []) lines (with_vertices (vertex.Triple (length ts) ∷ []) line) ids faces in
    subst P e (record {
      sites = map-append site_of ts (t ∷ []) ∙ ap (λ xs. xs ++ site_of t ∷ []) h.sites;
      lines = lines_longer ts t lines sk.lines h.lines;
      line = open_more ts t line sk.line h.line;
      ids = ids_longer ts t ids sk.ids h.ids;
      faces = h.faces;
    })

words_held : (unit : LinearUnit) (at face_at : ℕ) (name : List ℕ) (ts : List Triple) (ls : List RawLine) (line : Option RawLine) (is : List RawId) (fs : List RawFace) (g : Gathered) (kind : Kind) (a b c : Word) → IsByThree kind
    → g ≡ held unit at name ts ls line is fs face_at
    → with_text kind c (with_text kind b (with_text kind a g)) ≡ held unit at name (ts ++ triple_by a b c ∷ []) ls (with_vertices (vertex.Triple (length ts) ∷ []) line) is fs face_at
words_held unit at face_at name ts ls line is fs g kind a b c three e =
    let x = held unit at name ts ls line is fs face_at in
    let one : with_text kind a g ≡ record x { numbers = numbers.One (numbered a) } = ap (with_text kind a) e ∙ three a x in
    let two : with_text kind b (with_text kind a g) ≡ record x { numbers = numbers.Two (numbered a) (numbered b) } = ap (with_text kind b) one ∙ three b (record x { numbers = numbers.One (numbered a) }) in
    ap (with_text kind c) two ∙ three c (record x { numbers = numbers.Two (numbered a) (numbered b) })

-- three words of a list
pub holds_site : (unit : LinearUnit) (sk : Sketch) (g : Gathered) (kind : Kind) (a b c : Word) (s : Site) → IsByThree kind → site_of (triple_by a b c) ≡ s → Holds unit sk g → Holds unit (with_site s sk) (with_text kind c (with_text kind b (with_text kind a g)))
holds_site unit sk g kind a b c s three e h = record {
  at = h.at;
  triples = h.triples ++ triple_by a b c ∷ [];
  lines = h.lines;
  line = with_vertices (vertex.Triple (length h.triples) ∷ []) h.line;
  ids = h.ids;
  faces = h.faces;
  face_at = h.face_at;
  is = words_held unit h.at h.face_at sk.name h.triples h.lines h.line h.ids h.faces g kind a b c three h.is;
  sketched = site_sketched sk h.triples h.lines h.line h.ids h.faces (triple_by a b c) s e h.sketched;
}

-- the sketch with one point more
abbrev pub with_point : List ℕ → Site → Sketch → Sketch
with_point id s sk = record (with_site s sk) { ids = sk.ids ++ (id, s) ∷ [] }

-- a P with its three words
pub holds_point : (unit : LinearUnit) (sk : Sketch) (g : Gathered) (at : ℕ) (id : List ℕ) (a b c : Word) (s : Site) → site_of (triple_by a b c) ≡ s → Holds unit sk g
    → Holds unit (with_point id s sk) (closed Point (with_text Point c (with_text Point b (with_text Point a (opened Point at id g)))))
holds_point unit sk g at id a b c s e h =
    let t = triple_by a b c in
    let r : RawId = record { at = at; id = id; triple = length h.triples } in
    let w = site_sketched sk h.triples h.lines h.line h.ids h.faces t s e h.sketched in
    let line = with_vertices (vertex.Triple (length h.triples) ∷ []) h.line in
    record {
      at = h.at;
      triples = h.triples ++ t ∷ [];
      lines = h.lines;
      line = line;
      ids = h.ids ++ r ∷ [];
      faces = h.faces;
      face_at = h.face_at;
      is = ap (closed Point) (words_held unit h.at h.face_at sk.name h.triples h.lines h.line (h.ids ++ r ∷ []) h.faces (opened Point at id g) Point a b c (λ w g. refl) (ap (opened Point at id) h.is));
      sketched = record {
        sites = w.sites;
        lines = w.lines;
        line = w.line;
        ids = ids_more (h.triples ++ t ∷ []) h.ids sk.ids r (id, s) w.ids (record { id = refl; site = ap (option_map site_of) (get_last h.triples t) ∙ ap Some e });
        faces = w.faces;
      };
    }

-- a line that begins
abbrev pub with_line : RawKind → Sketch → Sketch
with_line kind sk = record sk { line = Some (kind, []) }

pub holds_line : (unit : LinearUnit) (sk : Sketch) (g : Gathered) (at : ℕ) (kind : RawKind) → Holds unit sk g → Holds unit (with_line kind sk) (record g { line = Some (record { at = at; kind = kind; vertices = [] }) })
holds_line unit sk g at kind h = record {
  at = h.at;
  triples = h.triples;
  lines = h.lines;
  line = Some (record { at = at; kind = kind; vertices = [] });
  ids = h.ids;
  faces = h.faces;
  face_at = h.face_at;
  is = ap (λ (g : Gathered). record g { line = Some (record { at = at; kind = kind; vertices = [] }) }) h.is;
  sketched = record { sites = h.sketched.sites; lines = h.sketched.lines; line = record { kind = refl; sites = refl }; ids = h.sketched.ids; faces = h.sketched.faces };
}

-- a line that ends
abbrev pub with_ended : Course → Sketch → Sketch
with_ended l sk = record sk { lines = sk.lines ++ l ∷ []; line = None }

pub holds_ended : (unit : LinearUnit) (sk : Sketch) (l : Course) (g : Gathered) → Holds unit (record sk { line = Some l }) g → Holds unit (with_ended l sk) (record g { surface = put_line g.line g.surface; line = None })
holds_ended unit sk l g h = by h.line h.is h.sketched
  where
    by : (line : Option RawLine) → g ≡ held unit h.at sk.name h.triples h.lines line h.ids h.faces h.face_at → IsSketched (record sk { line = Some l }) h.triples h.lines line h.ids h.faces
        → Holds unit (with_ended l sk) (record g { surface = put_line g.line g.surface; line = None })
    by None is k = absurd k.line
    by (Some r) is k = record {
      at = h.at;
      triples = h.triples;
      lines = h.lines ++ r ∷ [];
      line = None;
      ids = h.ids;
      faces = h.faces;
      face_at = h.face_at;
      is = ap (λ (g : Gathered). record g { surface = put_line g.line g.surface; line = None }) is;
      sketched = record { sites = k.sites; lines = lines_more h.triples h.lines sk.lines r l k.lines k.line; line = tt; ids = k.ids; faces = k.faces };
    }

-- a face
abbrev pub with_face : Corners → Sketch → Sketch
with_face f sk = record sk { faces = sk.faces ++ f ∷ [] }

pub holds_face : (unit : LinearUnit) (sk : Sketch) (g : Gathered) (at : ℕ) (value : List ℕ) (a b c : Word) → Holds unit sk g
    → Holds unit (with_face (a.text, b.text, c.text) sk) (closed Face (with_text Face c (with_text Face b (with_text Face a (opened Face at value g)))))
holds_face unit sk g at value a b c h =
    let f : RawFace = record { at = at; a = a.text; b = b.text; c = c.text } in
    record {
      at = h.at;
      triples = h.triples;
      lines = h.lines;
      line = h.line;
      ids = h.ids;
      faces = h.faces ++ f ∷ [];
      face_at = 0;
      is = ap (λ (g : Gathered). closed Face (with_text Face c (with_text Face b (with_text Face a (opened Face at value g))))) h.is;
      sketched = record {
        sites = h.sketched.sites;
        lines = h.sketched.lines;
        line = h.sketched.line;
        ids = h.sketched.ids;
        faces = map-append corners_of h.faces (f ∷ []) ∙ ap (λ xs. xs ++ (a.text, b.text, c.text) ∷ []) h.sketched.faces;
      };
    }

-- what leaves all as it is
pub holds_still : (unit : LinearUnit) (sk : Sketch) (g : Gathered) (f : Gathered → Gathered)
    → ((at face_at : ℕ) (name : List ℕ) (ts : List Triple) (ls : List RawLine) (line : Option RawLine) (is : List RawId) (fs : List RawFace) → f (held unit at name ts ls line is fs face_at) ≡ held unit at name ts ls line is fs face_at)
    → Holds unit sk g → Holds unit sk (f g)
holds_still unit sk g f still h = record {
  at = h.at;
  triples = h.triples;
  lines = h.lines;
  line = h.line;
  ids = h.ids;
  faces = h.faces;
  face_at = h.face_at;
  is = ap f h.is ∙ still h.at h.face_at sk.name h.triples h.lines h.line h.ids h.faces;
  sketched = h.sketched;
}
