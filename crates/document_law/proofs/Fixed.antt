-- The fixed lines of a written document, read.
use Rattle.std.proofs.Common.{◌≡◌, ℕ, ◌+◌, ◌%◌, true, false, ◌==◌, not, cond, [], ◌∷◌, ◌++◌, codes, refl, arith}
use Rattle.std.proofs.lemmas.Bool.Decides.{nat_tests}
use Rattle.ground_num.specs.declared.head.LinearUnit.{LinearUnit}
use Rattle.landxml_read.specs.Values.{decoded}
use Rattle.landxml_read.specs.declared.kind.Kind.TheVariants.{Triples}
use Rattle.landxml_read.specs.declared.fault.DocCause.TheVariants as cause
use Rattle.landxml_read.specs.Faults.{fault}
use Rattle.landxml_read.specs.Events.{Closed, event_faults}
use Rattle.landxml_read.specs.Gather.{gathered_of, closed}
use Rattle.document_law.proofs.Runs.{led_to}
use Rattle.document_law.proofs.Holds.{Sketch}
use Rattle.document_law.proofs.Gathers.{holds_still}
use Rattle.document_law.proofs.States.{St, at, To, in_surface, in_boundaries, in_breaklines, in_data, in_list, in_points, in_faces}

-- up to the rings
pub source_begins : (unit : LinearUnit) (sk : Sketch) (s : St 2 in_surface unit sk) → To (at s) (codes "<SourceData>\n<Boundaries>\n") 4 in_boundaries unit sk
source_begins unit sk s =
    let r = led_to (at s) (codes "<SourceData>\n<Boundaries>\n") in
    record { state = record { offset = r.offset; tokens = r.tokens; told = r.told; quiet = s.quiet; holds = s.holds }; run = record { reads = refl; utf8 = refl } }

-- up to the breaklines
pub breaklines_begin : (unit : LinearUnit) (sk : Sketch) (s : St 4 in_boundaries unit sk) → To (at s) (codes "</Boundaries>\n<Breaklines>\n") 4 in_breaklines unit sk
breaklines_begin unit sk s =
    let r = led_to (at s) (codes "</Boundaries>\n<Breaklines>\n") in
    record { state = record { offset = r.offset; tokens = r.tokens; told = r.told; quiet = s.quiet; holds = s.holds }; run = record { reads = refl; utf8 = refl } }

-- up to the data points
pub data_begins : (unit : LinearUnit) (sk : Sketch) (s : St 4 in_breaklines unit sk) → To (at s) (codes "</Breaklines>\n<DataPoints><PntList3D>\n") 5 (in_list 0 in_data) unit sk
data_begins unit sk s =
    let r = led_to (at s) (codes "</Breaklines>\n<DataPoints><PntList3D>\n") in
    record { state = record { offset = r.offset; tokens = r.tokens; told = r.told; quiet = s.quiet; holds = s.holds }; run = record { reads = refl; utf8 = refl } }

-- up to the points
pub definition_begins : (unit : LinearUnit) (sk : Sketch) (s : St 2 in_surface unit sk) → To (at s) (codes "<Definition surfType=\"TIN\">\n<Pnts>\n") 4 in_points unit sk
unfolding decoded
definition_begins unit sk s =
    let r = led_to (at s) (codes "<Definition surfType=\"TIN\">\n<Pnts>\n") in
    record { state = record { offset = r.offset; tokens = r.tokens; told = r.told; quiet = s.quiet; holds = s.holds }; run = record { reads = refl; utf8 = refl } }

-- up to the faces
pub faces_begin : (unit : LinearUnit) (sk : Sketch) (s : St 4 in_points unit sk) → To (at s) (codes "</Pnts>\n<Faces>\n") 4 in_faces unit sk
faces_begin unit sk s =
    let r = led_to (at s) (codes "</Pnts>\n<Faces>\n") in
    record { state = record { offset = r.offset; tokens = r.tokens; told = r.told; quiet = s.quiet; holds = s.holds }; run = record { reads = refl; utf8 = refl } }

-- after the faces
pub definition_ends : (unit : LinearUnit) (sk : Sketch) (s : St 4 in_faces unit sk) → To (at s) (codes "</Faces>\n</Definition>\n") 2 in_surface unit sk
definition_ends unit sk s =
    let r = led_to (at s) (codes "</Faces>\n</Definition>\n") in
    record { state = record { offset = r.offset; tokens = r.tokens; told = r.told; quiet = s.quiet; holds = s.holds }; run = record { reads = refl; utf8 = refl } }

-- the end of a list by threes
pub list_quiet : (words at shown : ℕ) → words % 3 ≡ 0 → event_faults (Closed (record { kind = Triples; words = words; is_misnamed = false; at = at; shown = shown })) ≡ []
list_quiet words at shown three = let test : (words % 3 == 0) ≡ true = grind (arith, nat_tests, three) in λ i. cond (not (test i)) (fault shown cause.Count at ∷ []) [] ++ []

-- after the data points
pub source_ends : (words : ℕ) (unit : LinearUnit) (sk : Sketch) → words % 3 ≡ 0 → (s : St 5 (in_list words in_data) unit sk) → To (at s) (codes "</PntList3D></DataPoints>\n</SourceData>\n") 2 in_surface unit sk
source_ends words unit sk three s =
    let r = led_to (at s) (codes "</PntList3D></DataPoints>\n</SourceData>\n") in
    record {
      state = record { offset = r.offset; tokens = r.tokens; told = r.told; quiet = λ i. list_quiet (words + 0) s.offset (s.offset + 1 + 1 + 1 + 1 + 1 + 1 + 1 + 1 + 1 + 1 + 1) (omega (arith, three)) i ++ s.quiet i; holds = holds_still unit sk (gathered_of s.told) (closed Triples) (λ at face_at name ts ls line is fs. refl) s.holds };
      run = record { reads = refl; utf8 = refl };
    }
