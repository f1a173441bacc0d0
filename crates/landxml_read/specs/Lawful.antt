-- The laws of every document that is read: its numbers are within the limit, its indices point into its lists, and each list is short enough for indices of 32 bits.
use Rattle.std.specs.Prelude.{ℕ, ◌<◌, ◌≤◌, ◌^◌, length, unsigned_abs, All}
use Rattle.ground_num.specs.declared.decimal.Thousandths.{Thousandths}
use Rattle.ground_num.specs.Spelling.{number_limit}
use Rattle.landxml_read.specs.declared.raw.Triple.{Triple}
use Rattle.landxml_read.specs.declared.raw.Pair2.{Pair2}
use Rattle.landxml_read.specs.declared.raw.RawVertex.{RawVertex}
use Rattle.landxml_read.specs.declared.raw.RawVertex.TheVariants as vertex
use Rattle.landxml_read.specs.declared.raw.RawLine.{RawLine}
use Rattle.landxml_read.specs.declared.raw.RawSurface.{RawSurface}
use Rattle.landxml_read.specs.declared.raw.RawDoc.{RawDoc}

-- within the limit of a number of a document
abbrev pub IsWithin : Thousandths → Type 0
IsWithin x = unsigned_abs x.0 ≤ number_limit

-- three such numbers
pub record IsLawfulTriple (t : Triple) : Type 0 where
  pub n : IsWithin t.n
  pub e : IsWithin t.e
  pub z : IsWithin t.z

-- two such numbers
pub record IsLawfulPair (p : Pair2) : Type 0 where
  pub n : IsWithin p.n
  pub e : IsWithin p.e

-- an index into so many triples or pairs
abbrev pub IsVertex : ℕ → ℕ → RawVertex → Type 0
IsVertex triples pairs (vertex.Triple k) = k < triples
IsVertex triples pairs (vertex.Pair k) = k < pairs

-- a line over so many triples and pairs
pub record IsLawfulLine (triples pairs : ℕ) (l : RawLine) : Type 0 where
  pub vertices : All (IsVertex triples pairs) l.vertices
  pub few : length l.vertices < 2 ^ 32

-- the lists of a surface
pub record IsLawfulSurface (s : RawSurface) : Type 0 where
  pub triples : All IsLawfulTriple s.triples
  pub pairs : All IsLawfulPair s.pairs
  pub lines : All (IsLawfulLine (length s.triples) (length s.pairs)) s.lines
  pub ids : All (λ i. i.triple < length s.triples) s.ids
  pub few_triples : length s.triples < 2 ^ 32
  pub few_pairs : length s.pairs < 2 ^ 32
  pub few_lines : length s.lines < 2 ^ 32
  pub few_ids : length s.ids < 2 ^ 32
  pub few_faces : length s.faces < 2 ^ 32

-- the surfaces of a document
pub record IsLawful (doc : RawDoc) : Type 0 where
  pub surfaces : All IsLawfulSurface doc.surfaces
  pub few : length doc.surfaces < 2 ^ 32
