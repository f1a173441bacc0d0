-- A written document, read from its first byte to its last.
use Rattle.std.proofs.Common.{◌≡◌, ℕ, ◌+◌, ◌<◌, ◌^◌, true, List, [], ◌∷◌, length, map, flat_map, codes, Option, None, Some, refl, sym, ◌∙◌, ap, subst, arith}
use Rattle.std.specs.Prelude.{option_map}
use Rattle.std.specs.Str.{IsUtf8}
use Rattle.ground_num.specs.Names.{IsName}
use Rattle.landxml_read.specs.declared.raw.RawDoc.{RawDoc}
use Rattle.landxml_read.specs.declared.raw.RawLine.{RawLine}
use Rattle.landxml_read.specs.declared.raw.RawSurface.{RawSurface}
use Rattle.landxml_read.specs.declared.level.Level.TheVariants.{After}
use Rattle.landxml_read.specs.declared.scan.Part.TheVariants.{Text}
use Rattle.landxml_read.specs.declared.tokens.Tokens.{Tokens}
use Rattle.landxml_read.specs.Markup.{IsDocumentText}
use Rattle.landxml_read.specs.Events.{Event, event_faults, document_events}
use Rattle.landxml_read.specs.Gather.{gathered_of, unit_or_meter, put_surface}
use Rattle.landxml_read.specs.Reader.{IsRead}
use Rattle.landxml_read.specs.Tokens.{Reading, reads, at_start, pushed}
use Rattle.landxml_read.proofs.Accepted.{document_read}
use Rattle.landxml_read.proofs.Faulted.{whole_tree}
use Rattle.landxml_read.proofs.Gathered.{unit_told, surfaces_told}
use Rattle.landxml_read.proofs.Running.{reading, run_of}
use Rattle.landxml_read.proofs.Scanning.{whole}
use Rattle.landxml_read.proofs.Sequences.{sound}
use Rattle.landxml_read.proofs.Totals.{total, total_flat}
use Rattle.landxml_write.specs.Exports.{Exported}
use Rattle.landxml_write.specs.Text.{document, head_text, source_text, definition_text, boundary_text, breakline_text, data_text, points_text, face_text}
use Rattle.document_law.proofs.Runs.{Run, led_to, run_both}
use Rattle.document_law.proofs.Holds.{Sketch, IsSketched}
use Rattle.document_law.proofs.States.{St, at, To, in_surface, in_data}
use Rattle.document_law.proofs.Opening.{bare_sketch, head_read}
use Rattle.document_law.proofs.Fixed.{source_begins, breaklines_begin, data_begins, source_ends, definition_begins, faces_begin, definition_ends}
use Rattle.document_law.proofs.Sites.{site_in, AreFit, data_read}
use Rattle.document_law.proofs.Lines.{AreFitLines, boundaries_read, breaklines_read}
use Rattle.document_law.proofs.Points.{points_read}
use Rattle.document_law.proofs.Triangles.{AreFitFaces, faces_read}
use Rattle.document_law.proofs.Sketches.{rings_sketch, lines_sketch, data_sketch, points_sketch, whole_sketch, final_sketch, whole_is}

-- the numbers of a document are within their limits, and its lines have places
pub record IsFitExport (e : Exported) : Type 0 where
  pub name : IsName e.head.name
  pub few : length e.points + 1 < 2 ^ 64
  pub points : AreFit (map (site_in e.head.origin) e.points)
  pub lines : AreFitLines e e.lines
  pub faces : AreFitFaces e.points e.faces

source_read : (e : Exported) → IsFitExport e → (s : St 2 in_surface e.head.unit (bare_sketch e.head.name)) → To (at s) (source_text e) 2 in_surface e.head.unit (data_sketch e)
unfolding source_text
source_read e fit s =
    let unit = e.head.unit in
    let a = source_begins unit (bare_sketch e.head.name) s in
    let b = boundaries_read e unit (bare_sketch e.head.name) e.lines fit.lines a.state in
    let c = breaklines_begin unit (rings_sketch e) b.state in
    let d = breaklines_read e unit (rings_sketch e) e.lines fit.lines c.state in
    let f = data_begins unit (lines_sketch e) d.state in
    let g = data_read e 5 0 in_data unit (lines_sketch e) e.points refl fit.points f.state in
    let h = source_ends g.words unit (data_sketch e) g.by_three g.to.state in
    record {
      state = h.state;
      run = run_both (at s) (at a.state) (at h.state) (codes "<SourceData>\n<Boundaries>\n") _ a.run
          (run_both (at a.state) (at b.state) (at h.state) (flat_map (boundary_text e) e.lines) _ b.run
          (run_both (at b.state) (at c.state) (at h.state) (codes "</Boundaries>\n<Breaklines>\n") _ c.run
          (run_both (at c.state) (at d.state) (at h.state) (flat_map (breakline_text e) e.lines) _ d.run
          (run_both (at d.state) (at f.state) (at h.state) (codes "</Breaklines>\n<DataPoints><PntList3D>\n") _ f.run
          (run_both (at f.state) (at g.to.state) (at h.state) (flat_map (data_text e) e.points) _ g.to.run h.run)))));
    }

definition_read : (e : Exported) → IsFitExport e → (s : St 2 in_surface e.head.unit (data_sketch e)) → To (at s) (definition_text e) 2 in_surface e.head.unit (whole_sketch e)
unfolding definition_text
definition_read e fit s =
    let unit = e.head.unit in
    let few = fit.few in
    let a = definition_begins unit (data_sketch e) s in
    let b = points_read e unit (data_sketch e) 1 e.points (omega (arith, few)) fit.points a.state in
    let c = faces_begin unit (points_sketch e) b.state in
    let d = faces_read e unit (points_sketch e) e.faces fit.faces c.state in
    let f = definition_ends unit (whole_sketch e) d.state in
    record {
      state = f.state;
      run = run_both (at s) (at a.state) (at f.state) (codes "<Definition surfType=\"TIN\">\n<Pnts>\n") _ a.run
          (run_both (at a.state) (at b.state) (at f.state) (points_text e 1 e.points) _ b.run
          (run_both (at b.state) (at c.state) (at f.state) (codes "</Pnts>\n<Faces>\n") _ c.run
          (run_both (at c.state) (at d.state) (at f.state) (flat_map (face_text e) e.faces) _ d.run f.run)));
    }

-- the reading of the whole document
pub record WholeRead (e : Exported) : Type 0 where
  pub offset : ℕ
  pub tokens : Tokens
  pub told : List Event
  pub run : Run at_start (document e) (reading Text After offset tokens told)
  pub quiet : flat_map event_faults told ≡ []
  pub surface : RawSurface
  pub unit : (gathered_of told).unit ≡ Some e.head.unit
  pub surfaces : (gathered_of told).surfaces ≡ surface ∷ []
  pub name : surface.name ≡ e.head.name
  pub pairs : surface.pairs ≡ []
  pub line : Option RawLine
  pub sketched : IsSketched (final_sketch e) surface.triples surface.lines line surface.ids surface.faces

pub whole_read : (e : Exported) → IsFitExport e → WholeRead e
unfolding document
whole_read e fit =
    let a = head_read e.head fit.name in
    let b = source_read e fit a.state in
    let c = definition_read e fit b.state in
    let r = led_to (at c.state) (codes "</Surface>\n</Surfaces>\n</LandXML>\n") in
    let h = c.state.holds in
    record {
      offset = r.offset;
      tokens = r.tokens;
      told = r.told;
      run = run_both at_start (at a.state) (reading Text After r.offset r.tokens r.told) (head_text e.head) _ a.run
          (run_both (at a.state) (at b.state) (reading Text After r.offset r.tokens r.told) (source_text e) _ b.run
          (run_both (at b.state) (at c.state) (reading Text After r.offset r.tokens r.told) (definition_text e) _ c.run (record { reads = refl; utf8 = refl })));
      quiet = c.state.quiet;
      surface = record { at = h.at; name = (whole_sketch e).name; triples = h.triples; pairs = []; lines = h.lines; ids = h.ids; faces = h.faces };
      unit = ap (λ g. g.unit) h.is;
      surfaces = ap (λ g. put_surface g.surface g.surfaces) h.is;
      name = ap (λ k. k.name) (whole_is e);
      pairs = refl;
      line = h.line;
      sketched = let P : Sketch → Type 0 = λ k. IsSketched k h.triples h.lines h.line h.ids h.faces in subst P (whole_is e) h.sketched;
    }

-- what the document is read as

abbrev told_by : Option Reading → List Event
told_by None = []
told_by (Some r) = r.told

pub document_lists : (e : Exported) (r : WholeRead e) (doc : RawDoc) → IsRead (document e) doc → (doc.unit ≡ e.head.unit) × (doc.surfaces ≡ r.surface ∷ [])
document_lists e r doc is =
    let tree = is.1 in
    let read = document_read is.0 tree.shaped in
    let told : r.told ≡ pushed (document_events is.0) [] = ap told_by (sym r.run.reads ∙ ap (reads (Some at_start)) tree.text ∙ read.runs) in (
      is.2.unit ∙ sym (unit_told is.0) ∙ ap (λ t. unit_or_meter (gathered_of t).unit) (sym told) ∙ ap unit_or_meter r.unit,
      is.2.surfaces ∙ sym (surfaces_told is.0) ∙ ap (λ t. (gathered_of t).surfaces) (sym told) ∙ r.surfaces,
    )

pub document_is_read : (e : Exported) (r : WholeRead e) → IsRead (document e) (record { unit = e.head.unit; surfaces = r.surface ∷ [] })
document_is_read e r =
    let end = reading Text After r.offset r.tokens r.told in
    let text : IsDocumentText (document e) = whole (document e) end.scan (run_of at_start (document e) ∙ ap (option_map (λ u. u.scan)) r.run.reads) refl in
    let utf8 : IsUtf8 (document e) = sound (document e) r.run.utf8 in
    let quiet = sym (total_flat (λ f. true) event_faults r.told) ∙ ap (total (λ f. true)) r.quiet in
    let d = whole_tree (document e) end r.run.reads quiet utf8 text in
    let read = document_read d.0 d.1.shaped in
    let told : r.told ≡ pushed (document_events d.0) [] = ap told_by (sym r.run.reads ∙ ap (reads (Some at_start)) d.1.text ∙ read.runs) in (
      d.0,
      d.1,
      record {
        unit = sym (ap unit_or_meter r.unit) ∙ ap (λ t. unit_or_meter (gathered_of t).unit) told ∙ unit_told d.0;
        surfaces = sym r.surfaces ∙ ap (λ t. (gathered_of t).surfaces) told ∙ surfaces_told d.0;
      },
    )
