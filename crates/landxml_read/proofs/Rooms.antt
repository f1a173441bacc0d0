-- A byte adds at most one triple and one pair to the open surface.
use Rattle.std.proofs.Common.{ℕ, ◌+◌, ◌≤◌, Bool, true, false, ◌&&◌, cond, List, [], ◌∷◌, ◌++◌, length, Option, None, Some, sym, subst, arith, length-append}
use Rattle.landxml_read.specs.declared.raw.Triple.{Triple}
use Rattle.landxml_read.specs.declared.raw.Pair2.{Pair2}
use Rattle.landxml_read.specs.declared.raw.RawFace.{RawFace}
use Rattle.landxml_read.specs.declared.raw.RawLine.{RawLine}
use Rattle.landxml_read.specs.declared.raw.RawSurface.{RawSurface}
use Rattle.landxml_read.specs.declared.kind.Kind.{Kind}
use Rattle.landxml_read.specs.declared.kind.Kind.TheVariants.{Outside, Root, Units, UnitOf, Surfaces, Surface, SourceData, Boundaries, Boundary, Breaklines, Breakline, DataPoints, Triples, Pairs, Definition, Points, Point, Faces, Face, Skipped}
use Rattle.landxml_read.specs.declared.gather.Gathered.{Gathered}
use Rattle.landxml_read.specs.declared.gather.Number.{Number}
use Rattle.landxml_read.specs.declared.gather.Numbers.{Numbers}
use Rattle.landxml_read.specs.declared.gather.Numbers.TheVariants as numbers
use Rattle.landxml_read.specs.declared.gather.Ids.{Ids}
use Rattle.landxml_read.specs.declared.gather.Ids.TheVariants as ids
use Rattle.landxml_read.specs.declared.tokens.Tokens.{Tokens}
use Rattle.landxml_read.specs.declared.act.Act.{Act}
use Rattle.landxml_read.specs.declared.act.Act.TheVariants.{Pass, Letter, Less, BeginName, Name, BeginAttribute, Attribute, BeginValue, Value, EndValue, Opens, Passes, Closes, Quotes}
use Rattle.landxml_read.specs.Markup.{is_white}
use Rattle.landxml_read.specs.Words.{Word}
use Rattle.landxml_read.specs.Faults.{has_text}
use Rattle.landxml_read.specs.Events.{finished, ended_by, ampersands, quotes, read}
use Rattle.landxml_read.specs.Tokens.{shown, kind_in, kind_of, word_of}
use Rattle.landxml_read.specs.Gather.{nothing, triples_in, pairs_in, put_triple, put_pair, put_id, put_face, put_line, opened, numbered, to_triple, to_pair, to_face, with_text, closed, gather, first_value}
use Rattle.landxml_read.specs.Known.{HasFew}
use Rattle.landxml_read.proofs.Gathering.{letter_pass}

-- as few as in another surface
abbrev IsAsFew : ℕ → Option RawSurface → Option RawSurface → Type 0
IsAsFew n s r = (length (triples_in r) ≤ length (triples_in s) + n) × (length (pairs_in r) ≤ length (pairs_in s) + n)

few_of : (n m : ℕ) (g h : Gathered) → IsAsFew m g.surface h.surface → HasFew n g → HasFew (n + m) h
few_of n m g h c f = let a = f.triples in let b = f.pairs in record { triples = omega (arith, c.0, a); pairs = omega (arith, c.1, b) }

same_few : (n : ℕ) (s : Option RawSurface) → IsAsFew n s s
same_few n s = (omega arith, omega arith)

id_few : (n at : ℕ) (id : List ℕ) (s : Option RawSurface) → IsAsFew n s (put_id at id s)
id_few n at id None = (omega arith, omega arith)
id_few n at id (Some s) = (omega arith, omega arith)

face_few : (n : ℕ) (face : RawFace) (s : Option RawSurface) → IsAsFew n s (put_face face s)
face_few n face None = (omega arith, omega arith)
face_few n face (Some s) = (omega arith, omega arith)

line_few : (n : ℕ) (line : Option RawLine) (s : Option RawSurface) → IsAsFew n s (put_line line s)
line_few n line None = (omega arith, omega arith)
line_few n None (Some s) = (omega arith, omega arith)
line_few n (Some l) (Some s) = (omega arith, omega arith)

triple_few : (t : Triple) (s : Option RawSurface) → IsAsFew 1 s (put_triple t s)
triple_few t None = (omega arith, omega arith)
triple_few t (Some s) = let a = length-append s.triples (t ∷ []) in (omega (arith, a), omega arith)

pair_few : (p : Pair2) (s : Option RawSurface) → IsAsFew 1 s (put_pair p s)
pair_few p None = (omega arith, omega arith)
pair_few p (Some s) = let a = length-append s.pairs (p ∷ []) in (omega arith, omega (arith, a))

-- a tag
opened_few : (k : Kind) (at : ℕ) (value : List ℕ) (g : Gathered) → IsAsFew 0 g.surface (opened k at value g).surface
opened_few Surface at value g = (omega arith, omega arith)
opened_few Point at value g = id_few 0 at value g.surface
opened_few UnitOf at value g = same_few 0 g.surface
opened_few Boundary at value g = same_few 0 g.surface
opened_few Breakline at value g = same_few 0 g.surface
opened_few Face at value g = same_few 0 g.surface
opened_few Outside at value g = same_few 0 g.surface
opened_few Root at value g = same_few 0 g.surface
opened_few Units at value g = same_few 0 g.surface
opened_few Surfaces at value g = same_few 0 g.surface
opened_few SourceData at value g = same_few 0 g.surface
opened_few Boundaries at value g = same_few 0 g.surface
opened_few Breaklines at value g = same_few 0 g.surface
opened_few DataPoints at value g = same_few 0 g.surface
opened_few Triples at value g = same_few 0 g.surface
opened_few Pairs at value g = same_few 0 g.surface
opened_few Definition at value g = same_few 0 g.surface
opened_few Points at value g = same_few 0 g.surface
opened_few Faces at value g = same_few 0 g.surface
opened_few Skipped at value g = same_few 0 g.surface

-- an end
closed_few : (k : Kind) (g : Gathered) → IsAsFew 0 g.surface (closed k g).surface
closed_few Surface g = (omega arith, omega arith)
closed_few Boundary g = line_few 0 g.line g.surface
closed_few Breakline g = line_few 0 g.line g.surface
closed_few Point g = same_few 0 g.surface
closed_few UnitOf g = same_few 0 g.surface
closed_few Face g = same_few 0 g.surface
closed_few Outside g = same_few 0 g.surface
closed_few Root g = same_few 0 g.surface
closed_few Units g = same_few 0 g.surface
closed_few Surfaces g = same_few 0 g.surface
closed_few SourceData g = same_few 0 g.surface
closed_few Boundaries g = same_few 0 g.surface
closed_few Breaklines g = same_few 0 g.surface
closed_few DataPoints g = same_few 0 g.surface
closed_few Triples g = same_few 0 g.surface
closed_few Pairs g = same_few 0 g.surface
closed_few Definition g = same_few 0 g.surface
closed_few Points g = same_few 0 g.surface
closed_few Faces g = same_few 0 g.surface
closed_few Skipped g = same_few 0 g.surface

-- a word
to_triple_few : (ns : Numbers) (x : Number) (g : Gathered) → IsAsFew 1 g.surface (to_triple ns x g).surface
to_triple_few numbers.Zero x g = same_few 1 g.surface
to_triple_few (numbers.One a) x g = same_few 1 g.surface
to_triple_few (numbers.Two a b) x g = triple_few _ g.surface

to_pair_few : (ns : Numbers) (x : Number) (g : Gathered) → IsAsFew 1 g.surface (to_pair ns x g).surface
to_pair_few numbers.Zero x g = same_few 1 g.surface
to_pair_few (numbers.One a) x g = pair_few _ g.surface
to_pair_few (numbers.Two a b) x g = same_few 1 g.surface

to_face_few : (is : Ids) (id : List ℕ) (g : Gathered) → IsAsFew 1 g.surface (to_face is id g).surface
to_face_few ids.Zero id g = same_few 1 g.surface
to_face_few (ids.One a) id g = same_few 1 g.surface
to_face_few (ids.Two a b) id g = face_few 1 _ g.surface

word_few : (k : Kind) (w : Word) (g : Gathered) → IsAsFew 1 g.surface (with_text k w g).surface
word_few Triples w g = to_triple_few g.numbers (numbered w) g
word_few Point w g = to_triple_few g.numbers (numbered w) g
word_few Pairs w g = to_pair_few g.numbers (numbered w) g
word_few Face w g = to_face_few g.ids w.text g
word_few Outside w g = same_few 1 g.surface
word_few Root w g = same_few 1 g.surface
word_few Units w g = same_few 1 g.surface
word_few UnitOf w g = same_few 1 g.surface
word_few Surfaces w g = same_few 1 g.surface
word_few Surface w g = same_few 1 g.surface
word_few SourceData w g = same_few 1 g.surface
word_few Boundaries w g = same_few 1 g.surface
word_few Boundary w g = same_few 1 g.surface
word_few Breaklines w g = same_few 1 g.surface
word_few Breakline w g = same_few 1 g.surface
word_few DataPoints w g = same_few 1 g.surface
word_few Definition w g = same_few 1 g.surface
word_few Points w g = same_few 1 g.surface
word_few Faces w g = same_few 1 g.surface
word_few Skipped w g = same_few 1 g.surface

finished_few : (n : ℕ) (k : Kind) (at : ℕ) (w : Word) (g : Gathered) → HasFew n g → HasFew (n + 1) (gather g (read k at (finished w)))
finished_few n k at w g h = by w.at w.text
  where
    by : (from : ℕ) (text : List ℕ) → HasFew (n + 1) (gather g (read k at (finished (record { at = from; text = text }))))
    by from [] = few_of n 1 g g (same_few 1 g.surface) h
    by from (b ∷ bs) = let v : Word = record { at = from; text = b ∷ bs } in few_of n 1 g (with_text k v g) (word_few k v g) h

-- of what a byte of text shows
letter_few : (n : ℕ) (k : Kind) (has : Bool) (at b : ℕ) (w : Word) (g : Gathered) → HasFew n g → HasFew (n + 1) (gather g (read k at (ended_by has b w) ++ ampersands has at b))
letter_few n k has at b w g h = let P : Gathered → Type 0 = HasFew (n + 1) in subst P (sym (letter_pass k has at b w g)) (by (has && is_white b))
  where
    by : (t : Bool) → HasFew (n + 1) (gather g (read k at (cond t (finished w) [])))
    by true = finished_few n k at w g h
    by false = few_of n 1 g g (same_few 1 g.surface) h

later : (n : ℕ) (g : Gathered) → HasFew n g → HasFew (n + 1) g
later n g h = few_of n 1 g g (same_few 1 g.surface) h

quotes_few : (n at shown : ℕ) (has : Bool) (g : Gathered) → HasFew n g → HasFew (n + 1) (gather g (quotes has at shown))
quotes_few n at shown true g h = later n g h
quotes_few n at shown false g h = later n g h

tag_few : (n : ℕ) (k : Kind) (at : ℕ) (value : List ℕ) (g : Gathered) → HasFew n g → HasFew (n + 1) (opened k at value g)
tag_few n k at value g h = let c = opened_few k at value g in few_of n 1 g (opened k at value g) (omega (arith, c.0), omega (arith, c.1)) h

end_few : (n : ℕ) (k : Kind) (g : Gathered) → HasFew n g → HasFew n (closed k g)
end_few n k g h = let c = closed_few k g in let a = h.triples in let b = h.pairs in record { triples = omega (arith, c.0, a); pairs = omega (arith, c.1, b) }

-- of what a byte shows
pub few_on : (a : Act) (n b : ℕ) (t : Tokens) (g : Gathered) → HasFew n g → HasFew (n + 1) (gather g (shown a n b t))
few_on Pass n b t g h = later n g h
few_on Letter n b t g h = letter_few n (kind_in t.stack) (has_text (kind_in t.stack)) n b (word_of t) g h
few_on Less n b t g h = finished_few n (kind_in t.stack) n (word_of t) g h
few_on BeginName n b t g h = later n g h
few_on Name n b t g h = later n g h
few_on BeginAttribute n b t g h = later n g h
few_on Attribute n b t g h = later n g h
few_on BeginValue n b t g h = later n g h
few_on Value n b t g h = later n g h
few_on EndValue n b t g h = later n g h
few_on Opens n b t g h = tag_few n (kind_of t) t.at (first_value t) g h
few_on Passes n b t g h = end_few (n + 1) (kind_of t) (opened (kind_of t) t.at (first_value t) g) (tag_few n (kind_of t) t.at (first_value t) g h)
few_on Closes n b t g h = later n (closed (kind_in t.stack) g) (end_few n (kind_in t.stack) g h)
few_on Quotes n b t g h = quotes_few n t.at n (has_text (kind_in t.stack)) g h

-- of nothing
pub few_nothing : HasFew 0 nothing
few_nothing = record { triples = omega arith; pairs = omega arith }
