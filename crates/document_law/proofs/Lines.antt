-- The lines of a written document, read.
use Rattle.std.proofs.Common.{◌≡◌, ℕ, ◌+◌, ◌%◌, ◌<◌, List, [], ◌∷◌, ◌++◌, length, map, flat_map, codes, Some, refl, sym, ◌∙◌, subst, arith, append_assoc}
use Rattle.std.proofs.lemmas.List.{append-nil}
use Rattle.ground_num.specs.declared.head.LinearUnit.{LinearUnit}
use Rattle.ground_model.specs.declared.line.LineKind.{LineKind}
use Rattle.ground_model.specs.declared.line.LineKind.TheVariants as lines
use Rattle.ground_model.specs.Place.{Coords}
use Rattle.ground_model.specs.Line.{Line}
use Rattle.landxml_read.specs.declared.kind.Kind.TheVariants.{Triples}
use Rattle.landxml_read.specs.declared.element.Element.{Element}
use Rattle.landxml_read.specs.declared.raw.RawKind.{RawKind}
use Rattle.landxml_read.specs.declared.raw.RawKind.TheVariants as raw
use Rattle.landxml_read.specs.Values.{decoded}
use Rattle.landxml_read.specs.Gather.{gathered_of, closed}
use Rattle.landxml_write.specs.Exports.{Exported}
use Rattle.landxml_write.specs.Text.{list_text, closed as closed_places, boundary_of, boundary_text, breakline_of, breakline_text}
use Rattle.document_law.proofs.Runs.{led_to, run_none, run_both}
use Rattle.document_law.proofs.Holds.{Site, Course, Sketch, Holds}
use Rattle.document_law.proofs.Gathers.{with_site, with_line, with_ended, holds_line, holds_ended, holds_still}
use Rattle.document_law.proofs.States.{St, at, opened_at, To, to_both, in_boundaries, in_boundary, in_breaklines, in_breakline, in_list}
use Rattle.document_law.proofs.Fixed.{list_quiet}
use Rattle.document_law.proofs.Sites.{site_at, AreFit, with_sites, list_read}

-- the sketch with one line more
abbrev pub with_whole : RawKind → List Site → Sketch → Sketch
with_whole kind ss sk = with_ended (kind, ss) (with_sites ss sk)

-- the sites of an open line
open_sites : (kind : RawKind) (before ss : List Site) (sk : Sketch) → with_sites ss (record sk { line = Some (kind, before) }) ≡ record (with_sites ss sk) { line = Some (kind, before ++ ss) }
open_sites kind before [] sk = λ i. record sk { line = Some (kind, sym (append-nil before) i) }
open_sites kind before (s ∷ ss) sk = open_sites kind (before ++ s ∷ []) ss (with_site s sk) ∙ (λ i. record (with_sites ss (with_site s sk)) { line = Some (kind, append_assoc before (s ∷ []) ss i) })

-- the beginning of a line

outer_begins : (unit : LinearUnit) (sk : Sketch) (s : St 4 in_boundaries unit sk) → To (at s) (codes "<Boundary bndType=\"outer\" edgeTrim=\"false\"><PntList3D>") 6 (in_list 0 in_boundary) unit (with_line raw.Outer sk)
unfolding decoded
outer_begins unit sk s =
    let r = led_to (at s) (codes "<Boundary bndType=\"outer\" edgeTrim=\"false\"><PntList3D>") in
    record { state = record { offset = r.offset; tokens = r.tokens; told = r.told; quiet = s.quiet; holds = holds_line unit sk (gathered_of s.told) s.offset raw.Outer s.holds }; run = record { reads = refl; utf8 = refl } }

void_begins : (unit : LinearUnit) (sk : Sketch) (s : St 4 in_boundaries unit sk) → To (at s) (codes "<Boundary bndType=\"void\" edgeTrim=\"false\"><PntList3D>") 6 (in_list 0 in_boundary) unit (with_line raw.Void sk)
unfolding decoded
void_begins unit sk s =
    let r = led_to (at s) (codes "<Boundary bndType=\"void\" edgeTrim=\"false\"><PntList3D>") in
    record { state = record { offset = r.offset; tokens = r.tokens; told = r.told; quiet = s.quiet; holds = holds_line unit sk (gathered_of s.told) s.offset raw.Void s.holds }; run = record { reads = refl; utf8 = refl } }

island_begins : (unit : LinearUnit) (sk : Sketch) (s : St 4 in_boundaries unit sk) → To (at s) (codes "<Boundary bndType=\"island\" edgeTrim=\"false\"><PntList3D>") 6 (in_list 0 in_boundary) unit (with_line raw.Island sk)
unfolding decoded
island_begins unit sk s =
    let r = led_to (at s) (codes "<Boundary bndType=\"island\" edgeTrim=\"false\"><PntList3D>") in
    record { state = record { offset = r.offset; tokens = r.tokens; told = r.told; quiet = s.quiet; holds = holds_line unit sk (gathered_of s.told) s.offset raw.Island s.holds }; run = record { reads = refl; utf8 = refl } }

breakline_begins : (unit : LinearUnit) (sk : Sketch) (s : St 4 in_breaklines unit sk) → To (at s) (codes "<Breakline brkType=\"standard\"><PntList3D>") 6 (in_list 0 in_breakline) unit (with_line raw.Breakline sk)
unfolding decoded
breakline_begins unit sk s =
    let r = led_to (at s) (codes "<Breakline brkType=\"standard\"><PntList3D>") in
    record { state = record { offset = r.offset; tokens = r.tokens; told = r.told; quiet = s.quiet; holds = holds_line unit sk (gathered_of s.told) s.offset raw.Breakline s.holds }; run = record { reads = refl; utf8 = refl } }

-- its end

ended_list : (words : ℕ) (es : List Element) (unit : LinearUnit) (sk tk : Sketch) (l : Course) → sk ≡ record tk { line = Some l } → (s : St 6 (in_list words es) unit sk) → Holds unit (record tk { line = Some l }) (closed Triples (gathered_of s.told))
ended_list words es unit sk tk l same s =
    let P : Sketch → Type 0 = λ k. Holds unit k (closed Triples (gathered_of s.told)) in
    subst P same (holds_still unit sk (gathered_of s.told) (closed Triples) (λ at face_at name ts ls line is fs. refl) s.holds)

boundary_ends : (words : ℕ) (unit : LinearUnit) (sk tk : Sketch) (l : Course) → words % 3 ≡ 0 → sk ≡ record tk { line = Some l } → (s : St 6 (in_list words in_boundary) unit sk) → To (opened_at s) (codes "/PntList3D></Boundary>\n") 4 in_boundaries unit (with_ended l tk)
boundary_ends words unit sk tk l three same s =
    let r = led_to (opened_at s) (codes "/PntList3D></Boundary>\n") in
    record {
      state = record {
        offset = r.offset;
        tokens = r.tokens;
        told = r.told;
        quiet = λ i. list_quiet words s.tokens.at (s.offset + 1 + 1 + 1 + 1 + 1 + 1 + 1 + 1 + 1 + 1) three i ++ s.quiet i;
        holds = holds_ended unit tk l (closed Triples (gathered_of s.told)) (ended_list words in_boundary unit sk tk l same s);
      };
      run = record { reads = refl; utf8 = refl };
    }

breakline_ends : (words : ℕ) (unit : LinearUnit) (sk tk : Sketch) (l : Course) → words % 3 ≡ 0 → sk ≡ record tk { line = Some l } → (s : St 6 (in_list words in_breakline) unit sk) → To (opened_at s) (codes "/PntList3D></Breakline>\n") 4 in_breaklines unit (with_ended l tk)
breakline_ends words unit sk tk l three same s =
    let r = led_to (opened_at s) (codes "/PntList3D></Breakline>\n") in
    record {
      state = record {
        offset = r.offset;
        tokens = r.tokens;
        told = r.told;
        quiet = λ i. list_quiet words s.tokens.at (s.offset + 1 + 1 + 1 + 1 + 1 + 1 + 1 + 1 + 1 + 1) three i ++ s.quiet i;
        holds = holds_ended unit tk l (closed Triples (gathered_of s.told)) (ended_list words in_breakline unit sk tk l same s);
      };
      run = record { reads = refl; utf8 = refl };
    }

-- whole lines

regroup : (a b c : List ℕ) → a ++ ((b ++ 60 ∷ []) ++ c) ≡ a ++ (b ++ 60 ∷ c)
regroup a b c = simp append_assoc

ring_read : (e : Exported) (kind : RawKind) (begin : List ℕ) (unit : LinearUnit) (sk : Sketch) (p : Coords) (ps : List Coords) → AreFit (map (site_at e) (p ∷ ps)) → (s : St 4 in_boundaries unit sk) → To (at s) begin 6 (in_list 0 in_boundary) unit (with_line kind sk)
    → To (at s) (begin ++ (list_text e (p ∷ ps) ++ codes "</PntList3D></Boundary>\n")) 4 in_boundaries unit (with_whole kind (map (site_at e) (p ∷ ps)) sk)
ring_read e kind begin unit sk p ps fit s first =
    let P : List ℕ → Type 0 = λ bytes. To (at s) bytes 4 in_boundaries unit (with_whole kind (map (site_at e) (p ∷ ps)) sk) in
    let list = list_read e 6 0 in_boundary unit (with_line kind sk) p ps refl fit first.state in
    let end = boundary_ends list.words unit (with_sites (map (site_at e) (p ∷ ps)) (with_line kind sk)) (with_sites (map (site_at e) (p ∷ ps)) sk) (kind, map (site_at e) (p ∷ ps)) list.by_three (open_sites kind [] (map (site_at e) (p ∷ ps)) sk) list.to.state in
    subst P (regroup begin (list_text e (p ∷ ps)) (codes "/PntList3D></Boundary>\n")) (record {
      state = end.state;
      run = run_both (at s) (at first.state) (at end.state) begin ((list_text e (p ∷ ps) ++ 60 ∷ []) ++ codes "/PntList3D></Boundary>\n") first.run
          (run_both (at first.state) (opened_at list.to.state) (at end.state) (list_text e (p ∷ ps) ++ 60 ∷ []) (codes "/PntList3D></Boundary>\n") list.to.run end.run);
    })

open_read : (e : Exported) (unit : LinearUnit) (sk : Sketch) (p : Coords) (ps : List Coords) → AreFit (map (site_at e) (p ∷ ps)) → (s : St 4 in_breaklines unit sk)
    → To (at s) (codes "<Breakline brkType=\"standard\"><PntList3D>" ++ (list_text e (p ∷ ps) ++ codes "</PntList3D></Breakline>\n")) 4 in_breaklines unit (with_whole raw.Breakline (map (site_at e) (p ∷ ps)) sk)
open_read e unit sk p ps fit s =
    let begin = codes "<Breakline brkType=\"standard\"><PntList3D>" in
    let first = breakline_begins unit sk s in
    let P : List ℕ → Type 0 = λ bytes. To (at s) bytes 4 in_breaklines unit (with_whole raw.Breakline (map (site_at e) (p ∷ ps)) sk) in
    let list = list_read e 6 0 in_breakline unit (with_line raw.Breakline sk) p ps refl fit first.state in
    let end = breakline_ends list.words unit (with_sites (map (site_at e) (p ∷ ps)) (with_line raw.Breakline sk)) (with_sites (map (site_at e) (p ∷ ps)) sk) (raw.Breakline, map (site_at e) (p ∷ ps)) list.by_three (open_sites raw.Breakline [] (map (site_at e) (p ∷ ps)) sk) list.to.state in
    subst P (regroup begin (list_text e (p ∷ ps)) (codes "/PntList3D></Breakline>\n")) (record {
      state = end.state;
      run = run_both (at s) (at first.state) (at end.state) begin ((list_text e (p ∷ ps) ++ 60 ∷ []) ++ codes "/PntList3D></Breakline>\n") first.run
          (run_both (at first.state) (opened_at list.to.state) (at end.state) (list_text e (p ∷ ps) ++ 60 ∷ []) (codes "/PntList3D></Breakline>\n") list.to.run end.run);
    })

-- the kind of a line of a document
abbrev pub raw_kind : LineKind → RawKind
raw_kind lines.Breakline = raw.Breakline
raw_kind lines.Outer = raw.Outer
raw_kind lines.Void = raw.Void
raw_kind lines.Island = raw.Island

-- the sites that are written of a ring, and of a breakline
abbrev pub ring_sites : Exported → List Coords → List Site
ring_sites e places = map (site_at e) (closed_places places)

abbrev pub open_sites_of : Exported → List Coords → List Site
open_sites_of e places = map (site_at e) places

-- the sketch with a line, where it is a ring
abbrev pub with_ring : Exported → LineKind → List Coords → Sketch → Sketch
with_ring e lines.Breakline places sk = sk
with_ring e lines.Outer places sk = with_whole raw.Outer (ring_sites e places) sk
with_ring e lines.Void places sk = with_whole raw.Void (ring_sites e places) sk
with_ring e lines.Island places sk = with_whole raw.Island (ring_sites e places) sk

-- and where it is a breakline
abbrev pub with_open : Exported → LineKind → List Coords → Sketch → Sketch
with_open e lines.Breakline places sk = with_whole raw.Breakline (open_sites_of e places) sk
with_open e lines.Outer places sk = sk
with_open e lines.Void places sk = sk
with_open e lines.Island places sk = sk

abbrev pub with_rings : Exported → List Line → Sketch → Sketch
with_rings e [] sk = sk
with_rings e (l ∷ ls) sk = with_rings e ls (with_ring e l.kind l.places sk)

abbrev pub with_opens : Exported → List Line → Sketch → Sketch
with_opens e [] sk = sk
with_opens e (l ∷ ls) sk = with_opens e ls (with_open e l.kind l.places sk)

-- a line has a place, and all that is written of it is within the limit of a number
pub record IsFitLine (e : Exported) (l : Line) : Type 0 where
  pub some : 0 < length l.places
  pub ring : AreFit (ring_sites e l.places)
  pub breakline : AreFit (open_sites_of e l.places)

abbrev pub AreFitLines : Exported → List Line → Type 0
AreFitLines e [] = Unit {0}
AreFitLines e (l ∷ ls) = IsFitLine e l × AreFitLines e ls

boundary_read : (e : Exported) (unit : LinearUnit) (sk : Sketch) (l : Line) → IsFitLine e l → (s : St 4 in_boundaries unit sk) → To (at s) (boundary_text e l) 4 in_boundaries unit (with_ring e l.kind l.places sk)
unfolding boundary_text
boundary_read e unit sk l fit s = by l.kind l.places fit.some fit.ring
  where
    by : (kind : LineKind) (places : List Coords) → 0 < length places → AreFit (ring_sites e places) → To (at s) (boundary_of e kind places) 4 in_boundaries unit (with_ring e kind places sk)
    by lines.Breakline places some fits = record { state = s; run = run_none (at s) }
    by lines.Outer [] some fits = absurd (omega (arith, some))
    by lines.Void [] some fits = absurd (omega (arith, some))
    by lines.Island [] some fits = absurd (omega (arith, some))
    by lines.Outer (p ∷ ps) some fits = ring_read e raw.Outer (codes "<Boundary bndType=\"outer\" edgeTrim=\"false\"><PntList3D>") unit sk p (ps ++ p ∷ []) fits s (outer_begins unit sk s)
    by lines.Void (p ∷ ps) some fits = ring_read e raw.Void (codes "<Boundary bndType=\"void\" edgeTrim=\"false\"><PntList3D>") unit sk p (ps ++ p ∷ []) fits s (void_begins unit sk s)
    by lines.Island (p ∷ ps) some fits = ring_read e raw.Island (codes "<Boundary bndType=\"island\" edgeTrim=\"false\"><PntList3D>") unit sk p (ps ++ p ∷ []) fits s (island_begins unit sk s)

pub boundaries_read : (e : Exported) (unit : LinearUnit) (sk : Sketch) (ls : List Line) → AreFitLines e ls → (s : St 4 in_boundaries unit sk) → To (at s) (flat_map (boundary_text e) ls) 4 in_boundaries unit (with_rings e ls sk)
boundaries_read e unit sk [] fit s = record { state = s; run = run_none (at s) }
boundaries_read e unit sk (l ∷ ls) fit s =
    let one = boundary_read e unit sk l fit.0 s in
    to_both (at s) (boundary_text e l) (flat_map (boundary_text e) ls) 4 4 in_boundaries in_boundaries unit (with_ring e l.kind l.places sk) (with_rings e ls (with_ring e l.kind l.places sk)) one
    (boundaries_read e unit (with_ring e l.kind l.places sk) ls fit.1 one.state)

breakline_read : (e : Exported) (unit : LinearUnit) (sk : Sketch) (l : Line) → IsFitLine e l → (s : St 4 in_breaklines unit sk) → To (at s) (breakline_text e l) 4 in_breaklines unit (with_open e l.kind l.places sk)
unfolding breakline_text
breakline_read e unit sk l fit s = by l.kind l.places fit.some fit.breakline
  where
    by : (kind : LineKind) (places : List Coords) → 0 < length places → AreFit (open_sites_of e places) → To (at s) (breakline_of e kind places) 4 in_breaklines unit (with_open e kind places sk)
    by lines.Outer places some fits = record { state = s; run = run_none (at s) }
    by lines.Void places some fits = record { state = s; run = run_none (at s) }
    by lines.Island places some fits = record { state = s; run = run_none (at s) }
    by lines.Breakline [] some fits = absurd (omega (arith, some))
    by lines.Breakline (p ∷ ps) some fits = open_read e unit sk p ps fits s

pub breaklines_read : (e : Exported) (unit : LinearUnit) (sk : Sketch) (ls : List Line) → AreFitLines e ls → (s : St 4 in_breaklines unit sk) → To (at s) (flat_map (breakline_text e) ls) 4 in_breaklines unit (with_opens e ls sk)
breaklines_read e unit sk [] fit s = record { state = s; run = run_none (at s) }
breaklines_read e unit sk (l ∷ ls) fit s =
    let one = breakline_read e unit sk l fit.0 s in
    to_both (at s) (breakline_text e l) (flat_map (breakline_text e) ls) 4 4 in_breaklines in_breaklines unit (with_open e l.kind l.places sk) (with_opens e ls (with_open e l.kind l.places sk)) one
    (breaklines_read e unit (with_open e l.kind l.places sk) ls fit.1 one.state)
