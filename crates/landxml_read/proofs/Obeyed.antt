-- What a faultless tree of fewer than 2 ^ 32 bytes holds obeys the laws.
use Rattle.std.proofs.Common.{ℕ, ◌+◌, ◌≤◌, ◌<◌, ◌^◌, List, [], length, unwrap_or, flat_map, sym, ap, subst, arith, length-append}
use Rattle.std.specs.Prelude.{All}
use Rattle.std.specs.List.{filter_map}
use Rattle.landxml_read.specs.declared.kind.Kind.{Kind}
use Rattle.landxml_read.specs.declared.kind.Kind.TheVariants.{Outside, Root, Units, UnitOf, Surfaces, Surface, SourceData, Boundaries, Boundary, Breaklines, Breakline, DataPoints, Triples, Pairs, Definition, Points, Point, Faces, Face, Skipped}
use Rattle.landxml_read.specs.declared.raw.RawKind.{RawKind}
use Rattle.landxml_read.specs.declared.raw.RawDoc.{RawDoc}
use Rattle.landxml_read.specs.declared.raw.RawId.{RawId}
use Rattle.landxml_read.specs.declared.raw.RawSurface.{RawSurface}
use Rattle.landxml_read.specs.Markup.{Document, mark, content_text}
use Rattle.landxml_read.specs.Elements.{Found}
use Rattle.landxml_read.specs.Faults.{value_of, element_faults, document_elements}
use Rattle.landxml_read.specs.Answer.{IsTreeOf}
use Rattle.landxml_read.specs.Lists.{triples_of, pairs_of, inner, vertices_of, line_of, id_of, faces_of, surface_of, surfaces_of}
use Rattle.landxml_read.specs.Reader.{IsDocOf}
use Rattle.landxml_read.specs.Lawful.{IsLawfulTriple, IsLawfulPair, IsVertex, IsLawfulLine, IsLawfulSurface, IsLawful}
use Rattle.landxml_read.proofs.Effects.{of_kind}
use Rattle.landxml_read.proofs.Each.{Each, Holds, each_weaker, each_both, each_flat, each_found, all_of, inner_each}
use Rattle.landxml_read.proofs.Laws.{IsQuietOne, each_quiet, triples_within, pairs_within, IsAmong, all_among, vertices_within, id_within}
use Rattle.landxml_read.proofs.Sizes.{few_in, few_found, inside_short, small_triples, small_pairs, small_faces, small_vertices}

-- short content
abbrev IsShort : Found → Type 0
IsShort e = length (content_text e.inside) < 2 ^ 32

-- what is known of an element of a surface
record IsPart (surface e : Found) : Type 0 where
  quiet : IsQuietOne e
  short : IsShort e
  among : IsAmong surface e
  lists : Each (IsAmong surface) (inner e)

module _ (surface : Found) where
  parts : Each IsQuietOne (inner surface) → Each IsShort (inner surface) → Each (IsPart surface) (inner surface)
  parts quiet short =
      let among = all_among surface in
      let lists = inner_each (IsAmong surface) surface.kind surface.depth (surface.tag_end + 1) surface.inside among in
      each_weaker _ (IsPart surface) (λ e p. record { quiet = p.0.0; short = p.0.1; among = p.1.0; lists = p.1.1 }) (inner surface)
      (each_both (λ e. IsQuietOne e × IsShort e) (λ e. IsAmong surface e × Each (IsAmong surface) (inner e)) (inner surface) (each_both IsQuietOne IsShort (inner surface) quiet short)
      (each_both (IsAmong surface) (λ e. Each (IsAmong surface) (inner e)) (inner surface) among lists))

  line_made : (e : Found) → IsPart surface e → (k : RawKind) → IsLawfulLine (length (flat_map triples_of (inner surface))) (length (flat_map pairs_of (inner surface))) (record { at = e.at; kind = k; vertices = flat_map (vertices_of surface) (inner e) })
  line_made e p k =
      let V = IsVertex (length (flat_map triples_of (inner surface))) (length (flat_map pairs_of (inner surface))) in
      let n = few_in (vertices_of surface) (small_vertices surface) e.kind e.depth (e.tag_end + 1) e.inside in
      let short = p.short in
      record {
        vertices = all_of V (flat_map (vertices_of surface) (inner e)) (each_flat V (vertices_of surface) (inner e) (each_weaker (IsAmong surface) (λ x. Each V (vertices_of surface x)) (λ x. vertices_within surface x) (inner e) p.lists));
        few = omega (arith, n, short);
      }

  line_lawful : (e : Found) → IsPart surface e → Holds (IsLawfulLine (length (flat_map triples_of (inner surface))) (length (flat_map pairs_of (inner surface)))) (line_of surface e)
  line_lawful e p = by e.kind p
    where
      by : (k : Kind) → IsPart surface (of_kind e k) → Holds (IsLawfulLine (length (flat_map triples_of (inner surface))) (length (flat_map pairs_of (inner surface)))) (line_of surface (of_kind e k))
      by Boundary p = line_made (of_kind e Boundary) p _
      by Breakline p = line_made (of_kind e Breakline) p _
      by Outside p = tt
      by Root p = tt
      by Units p = tt
      by UnitOf p = tt
      by Surfaces p = tt
      by Surface p = tt
      by SourceData p = tt
      by Boundaries p = tt
      by Breaklines p = tt
      by DataPoints p = tt
      by Triples p = tt
      by Pairs p = tt
      by Definition p = tt
      by Points p = tt
      by Point p = tt
      by Faces p = tt
      by Face p = tt
      by Skipped p = tt

-- the lists of an element that is a surface
abbrev lists_of : Found → RawSurface
lists_of e = record {
  at = e.at;
  name = unwrap_or (value_of e) [];
  triples = flat_map triples_of (inner e);
  pairs = flat_map pairs_of (inner e);
  lines = filter_map (line_of e) (inner e);
  ids = filter_map (id_of e) (inner e);
  faces = flat_map faces_of (inner e);
}

-- what is known of an element of a document
record IsOne (e : Found) : Type 0 where
  short : IsShort e
  quiet : Each IsQuietOne (inner e)
  parts : Each IsShort (inner e)

surface_obeys : (e : Found) → IsOne e → IsLawfulSurface (lists_of e)
surface_obeys e h =
    let ps = parts e h.quiet h.parts in
    let short = h.short in
    let a = few_in triples_of small_triples e.kind e.depth (e.tag_end + 1) e.inside in
    let b = few_in pairs_of small_pairs e.kind e.depth (e.tag_end + 1) e.inside in
    let c = few_found (line_of e) e.kind e.depth (e.tag_end + 1) e.inside in
    let d = few_found (id_of e) e.kind e.depth (e.tag_end + 1) e.inside in
    let f = few_in faces_of small_faces e.kind e.depth (e.tag_end + 1) e.inside in
    let L = IsLawfulLine (length (flat_map triples_of (inner e))) (length (flat_map pairs_of (inner e))) in
    let I : RawId → Type 0 = λ i. i.triple < length (flat_map triples_of (inner e)) in
    record {
      triples = all_of IsLawfulTriple (flat_map triples_of (inner e)) (each_flat IsLawfulTriple triples_of (inner e) (each_weaker (IsPart e) (λ x. Each IsLawfulTriple (triples_of x)) (λ x p. triples_within x p.quiet) (inner e) ps));
      pairs = all_of IsLawfulPair (flat_map pairs_of (inner e)) (each_flat IsLawfulPair pairs_of (inner e) (each_weaker (IsPart e) (λ x. Each IsLawfulPair (pairs_of x)) (λ x p. pairs_within x p.quiet) (inner e) ps));
      lines = all_of L (filter_map (line_of e) (inner e)) (each_found L (line_of e) (inner e) (each_weaker (IsPart e) (λ x. Holds L (line_of e x)) (line_lawful e) (inner e) ps));
      ids = all_of I (filter_map (id_of e) (inner e)) (each_found I (id_of e) (inner e) (each_weaker (IsPart e) (λ x. Holds I (id_of e x)) (λ x p. id_within e x p.quiet p.among) (inner e) ps));
      few_triples = omega (arith, a, short);
      few_pairs = omega (arith, b, short);
      few_lines = omega (arith, c, short);
      few_ids = omega (arith, d, short);
      few_faces = omega (arith, f, short);
    }

surface_lawful : (e : Found) → IsOne e → Holds IsLawfulSurface (surface_of e)
surface_lawful e h = by e.kind h
  where
    by : (k : Kind) → IsOne (of_kind e k) → Holds IsLawfulSurface (surface_of (of_kind e k))
    by Surface h = surface_obeys (of_kind e Surface) h
    by Outside h = tt
    by Root h = tt
    by Units h = tt
    by UnitOf h = tt
    by Surfaces h = tt
    by SourceData h = tt
    by Boundaries h = tt
    by Boundary h = tt
    by Breaklines h = tt
    by Breakline h = tt
    by DataPoints h = tt
    by Triples h = tt
    by Pairs h = tt
    by Definition h = tt
    by Points h = tt
    by Point h = tt
    by Faces h = tt
    by Face h = tt
    by Skipped h = tt

-- the surfaces of a faultless tree
pub lawful_surfaces : (bytes : List ℕ) (d : Document) → IsTreeOf bytes d → length bytes < 2 ^ 32 → All IsLawfulSurface (surfaces_of d) × (length (surfaces_of d) < 2 ^ 32)
lawful_surfaces bytes d tree short =
    let es = document_elements d in
    let at = length (mark d) in
    let a = ap length tree.text in
    let b = length-append (mark d) (content_text d.body) in
    let body : length (content_text d.body) < 2 ^ 32 = omega (arith, a, b, short) in
    let quiet = each_quiet element_faults es tree.faultless in
    let n = length (content_text d.body) in
    let shorts : Each IsShort es = each_weaker (λ e. length (content_text e.inside) ≤ n) IsShort (λ e le. omega (arith, le, body)) es (inside_short n Outside 0 at d.body (omega arith)) in
    let ones = each_weaker (λ e. IsShort e × (Each IsQuietOne (inner e) × Each IsShort (inner e))) IsOne (λ e p. record { short = p.0; quiet = p.1.0; parts = p.1.1 }) es
    (each_both IsShort (λ e. Each IsQuietOne (inner e) × Each IsShort (inner e)) es shorts
    (each_both (λ e. Each IsQuietOne (inner e)) (λ e. Each IsShort (inner e)) es (inner_each IsQuietOne Outside 0 at d.body quiet) (inner_each IsShort Outside 0 at d.body shorts))) in
    let c = few_found surface_of Outside 0 at d.body in
    (all_of IsLawfulSurface (surfaces_of d) (each_found IsLawfulSurface surface_of es (each_weaker IsOne (λ e. Holds IsLawfulSurface (surface_of e)) surface_lawful es ones)), omega (arith, c, body))

-- what such a tree holds
pub lawful_doc : (bytes : List ℕ) (d : Document) (doc : RawDoc) → IsTreeOf bytes d → IsDocOf d doc → length bytes < 2 ^ 32 → IsLawful doc
lawful_doc bytes d doc tree held short =
    let l = lawful_surfaces bytes d tree short in
    let P : List RawSurface → Type 0 = All IsLawfulSurface in
    let e = ap length held.surfaces in
    let few = l.1 in
    record { surfaces = subst P (sym held.surfaces) l.0; few = omega (arith, e, few) }
