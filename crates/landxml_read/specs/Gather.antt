-- The unit and the surfaces of a document, gathered from what it shows, an event after the other.
use Rattle.std.specs.Prelude.{◌≡◌, ◌<◌, ◌^◌, ◌==◌, ◌&&◌, true, false, ℕ, List, [], ◌∷◌, ◌++◌, length, Option, Some, None, unwrap_or}
use Rattle.ground_num.specs.declared.head.LinearUnit.{LinearUnit}
use Rattle.ground_num.specs.declared.head.LinearUnit.TheVariants.{Meter}
use Rattle.landxml_read.specs.declared.raw.Triple.{Triple}
use Rattle.landxml_read.specs.declared.raw.Pair2.{Pair2}
use Rattle.landxml_read.specs.declared.raw.RawKind.TheVariants as kind
use Rattle.landxml_read.specs.declared.raw.RawVertex.{RawVertex}
use Rattle.landxml_read.specs.declared.raw.RawVertex.TheVariants as vertex
use Rattle.landxml_read.specs.declared.gather.Gathered.{Gathered}
use Rattle.landxml_read.specs.declared.gather.Number.{Number}
use Rattle.landxml_read.specs.declared.gather.Numbers.{Numbers}
use Rattle.landxml_read.specs.declared.gather.Numbers.TheVariants as numbers
use Rattle.landxml_read.specs.declared.gather.Ids.{Ids}
use Rattle.landxml_read.specs.declared.gather.Ids.TheVariants as ids
use Rattle.landxml_read.specs.declared.kind.Kind.{Kind}
use Rattle.landxml_read.specs.declared.kind.Kind.TheVariants.{UnitOf, Surface, Boundary, Breakline, Triples, Pairs, Point, Face}
use Rattle.ground_num.specs.Names.{IsName}
use Rattle.landxml_read.specs.declared.tokens.Tokens.{Tokens}
use Rattle.landxml_read.specs.Numbers.{number_cause}
use Rattle.landxml_read.specs.declared.act.Act.{Act}
use Rattle.landxml_read.specs.declared.act.Act.TheVariants.{Pass, Letter, Less, BeginName, Name, BeginAttribute, Attribute, BeginValue, Value, EndValue, Opens, Passes, Closes, Quotes}
use Rattle.landxml_read.specs.Markup.{is_white, Document}
use Rattle.landxml_read.specs.Faults.{has_text, has_numbers}
use Rattle.landxml_read.specs.Tokens.{kind_in}
use Rattle.landxml_read.specs.Words.{Word}
use Rattle.landxml_read.specs.declared.raw.RawFace.{RawFace}
use Rattle.landxml_read.specs.declared.raw.RawLine.{RawLine}
use Rattle.landxml_read.specs.declared.raw.RawSurface.{RawSurface}
use Rattle.landxml_read.specs.Lists.{number, ring_kind, named_unit, unit_of, surfaces_of}
use Rattle.landxml_read.specs.Events.{Event, Opened, Read, Ampersand, Quoted, Closed}

-- nothing
abbrev pub nothing : Gathered
nothing = record { unit = None; surfaces = []; surface = None; line = None; face_at = 0; numbers = numbers.Zero; ids = ids.Zero }

-- a surface without anything in it
abbrev pub bare : ℕ → List ℕ → RawSurface
bare at name = record { at = at; name = name; triples = []; pairs = []; lines = []; ids = []; faces = [] }

-- the triples of the open surface
abbrev pub triples_in : Option RawSurface → List Triple
triples_in None = []
triples_in (Some s) = s.triples

-- the pairs of the open surface
abbrev pub pairs_in : Option RawSurface → List Pair2
pairs_in None = []
pairs_in (Some s) = s.pairs

-- with one more triple
abbrev pub put_triple : Triple → Option RawSurface → Option RawSurface
put_triple t None = None
put_triple t (Some s) = Some (record s { triples = s.triples ++ t ∷ [] })

-- with one more pair
abbrev pub put_pair : Pair2 → Option RawSurface → Option RawSurface
put_pair p None = None
put_pair p (Some s) = Some (record s { pairs = s.pairs ++ p ∷ [] })

-- with one more id
abbrev pub put_id : ℕ → List ℕ → Option RawSurface → Option RawSurface
put_id at id None = None
put_id at id (Some s) = Some (record s { ids = s.ids ++ record { at = at; id = id; triple = length s.triples } ∷ [] })

-- with one more face
abbrev pub put_face : RawFace → Option RawSurface → Option RawSurface
put_face f None = None
put_face f (Some s) = Some (record s { faces = s.faces ++ f ∷ [] })

-- with the line, where there is one
abbrev pub put_line : Option RawLine → Option RawSurface → Option RawSurface
put_line line None = None
put_line None (Some s) = Some s
put_line (Some l) (Some s) = Some (record s { lines = s.lines ++ l ∷ [] })

-- the surfaces with the one that was open
abbrev pub put_surface : Option RawSurface → List RawSurface → List RawSurface
put_surface None ss = ss
put_surface (Some s) ss = ss ++ s ∷ []

-- the first unit stays
abbrev pub first_unit : Option LinearUnit → LinearUnit → Option LinearUnit
first_unit None unit = Some unit
first_unit (Some first) unit = Some first

-- with a tag's unit, surface, line, id or face
abbrev pub opened : Kind → ℕ → List ℕ → Gathered → Gathered
opened UnitOf at value g = record g { unit = first_unit g.unit (named_unit value) }
opened Surface at value g = record g { surface = Some (bare at value) }
opened Boundary at value g = record g { line = Some (record { at = at; kind = ring_kind value; vertices = [] }) }
opened Breakline at value g = record g { line = Some (record { at = at; kind = kind.Breakline; vertices = [] }) }
opened Point at value g = record g { surface = put_id at value g.surface }
opened Face at value g = record g { face_at = at }
opened _ at value g = g

-- with further vertices of the open line, where one is open
abbrev pub with_vertices : List RawVertex → Option RawLine → Option RawLine
with_vertices vs None = None
with_vertices vs (Some l) = Some (record l { vertices = l.vertices ++ vs })

-- the number of a word, with its offset
abbrev pub numbered : Word → Number
numbered w = record { at = w.at; value = number w }

-- with the triple of three numbers
abbrev pub with_triple : Number → Number → Number → Gathered → Gathered
with_triple a b c g = record g {
  surface = put_triple (record { n = a.value; e = b.value; z = c.value; n_at = a.at; e_at = b.at; z_at = c.at }) g.surface;
  line = with_vertices (vertex.Triple (length (triples_in g.surface)) ∷ []) g.line;
  numbers = numbers.Zero;
}

-- with the pair of two numbers
abbrev pub with_pair : Number → Number → Gathered → Gathered
with_pair a b g = record g {
  surface = put_pair (record { n = a.value; e = b.value; at = a.at }) g.surface;
  line = with_vertices (vertex.Pair (length (pairs_in g.surface)) ∷ []) g.line;
  numbers = numbers.Zero;
}

-- with one more number after those of an open triple
abbrev pub to_triple : Numbers → Number → Gathered → Gathered
to_triple numbers.Zero x g = record g { numbers = numbers.One x }
to_triple (numbers.One a) x g = record g { numbers = numbers.Two a x }
to_triple (numbers.Two a b) x g = with_triple a b x g

-- with one more number after that of an open pair
abbrev pub to_pair : Numbers → Number → Gathered → Gathered
to_pair numbers.Zero x g = record g { numbers = numbers.One x }
to_pair (numbers.One a) x g = with_pair a x g
to_pair (numbers.Two a b) x g = g

-- with one more id after those of an open face
abbrev pub to_face : Ids → List ℕ → Gathered → Gathered
to_face ids.Zero id g = record g { ids = ids.One id }
to_face (ids.One a) id g = record g { ids = ids.Two a id }
to_face (ids.Two a b) id g = record g { surface = put_face (record { at = g.face_at; a = a; b = b; c = id }) g.surface; ids = ids.Zero }

-- with one more word of an element of a kind
abbrev pub with_text : Kind → Word → Gathered → Gathered
with_text Triples w g = to_triple g.numbers (numbered w) g
with_text Point w g = to_triple g.numbers (numbered w) g
with_text Pairs w g = to_pair g.numbers (numbered w) g
with_text Face w g = to_face g.ids w.text g
with_text _ w g = g

-- at the end of an element of a kind
abbrev pub closed : Kind → Gathered → Gathered
closed Triples g = record g { numbers = numbers.Zero }
closed Pairs g = record g { numbers = numbers.Zero }
closed Point g = record g { numbers = numbers.Zero }
closed Face g = record g { face_at = 0; ids = ids.Zero }
closed Boundary g = record g { surface = put_line g.line g.surface; line = None }
closed Breakline g = record g { surface = put_line g.line g.surface; line = None }
closed Surface g = record g { surfaces = put_surface g.surface g.surfaces; surface = None }
closed _ g = g

-- after an event
abbrev pub gathered : Event → Gathered → Gathered
gathered (Opened o) g = opened o.kind o.at (unwrap_or o.values.first []) g
gathered (Read kind w shown) g = with_text kind w g
gathered (Ampersand at) g = g
gathered (Quoted at shown) g = g
gathered (Closed c) g = closed c.kind g

-- after events, in their order
abbrev pub gather : Gathered → List Event → Gathered
gather g [] = g
gather g (e ∷ es) = gather (gathered e g) es

-- of what was shown, the latest first
abbrev pub gathered_of : List Event → Gathered
gathered_of [] = nothing
gathered_of (e ∷ told) = gathered e (gathered_of told)

-- the first unit, or the meter
abbrev pub unit_or_meter : Option LinearUnit → LinearUnit
unit_or_meter unit = unwrap_or unit Meter

-- the first value of the read attribute of the open tag, or none
abbrev pub first_value : Tokens → List ℕ
first_value t = unwrap_or t.values.first []

-- the open word, where one is open, is a name, and a number where it must be one
pub record HoldsWord (t : Tokens) : Type 0 where
  pub name : (length t.word == 0) ≡ false → IsName t.word
  pub number : (length t.word == 0) ≡ false → has_numbers (kind_in t.stack) ≡ true → number_cause t.word ≡ None

-- what a byte shows can be gathered: a word that it ends, or the value of a tag
abbrev pub CanGather : Act → ℕ → Tokens → Type 0
CanGather Letter b t = (has_text (kind_in t.stack) && is_white b) ≡ true → HoldsWord t
CanGather Less b t = HoldsWord t
CanGather Opens b t = IsName (first_value t)
CanGather Passes b t = IsName (first_value t)
CanGather Pass b t = Unit {0}
CanGather BeginName b t = Unit {0}
CanGather Name b t = Unit {0}
CanGather BeginAttribute b t = Unit {0}
CanGather Attribute b t = Unit {0}
CanGather BeginValue b t = Unit {0}
CanGather Value b t = Unit {0}
CanGather EndValue b t = Unit {0}
CanGather Closes b t = Unit {0}
CanGather Quotes b t = Unit {0}

-- the open surface has room for indices of 32 bits
pub record HasRoom (g : Gathered) : Type 0 where
  pub triples : length (triples_in g.surface) < 2 ^ 32
  pub pairs : length (pairs_in g.surface) < 2 ^ 32

-- what was gathered is what the document holds
pub record IsGatheredOf (d : Document) (g : Gathered) : Type 0 where
  pub unit : unit_or_meter g.unit ≡ unit_of d
  pub surfaces : g.surfaces ≡ surfaces_of d
