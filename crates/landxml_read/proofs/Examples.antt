-- The definitions at small documents, worked by hand: the one fault of each, and what a whole document holds.
use Rattle.std.proofs.Common.{◌≡◌, ℕ, List, [], ◌∷◌, codes, refl, pos, false}
use Rattle.ground_num.specs.declared.head.LinearUnit.TheVariants.{Foot}
use Rattle.ground_num.specs.Spelling.{rounded}
use Rattle.landxml_read.specs.declared.fault.DocCause.TheVariants as cause
use Rattle.landxml_read.specs.declared.raw.RawKind.TheVariants as kind
use Rattle.landxml_read.specs.declared.raw.RawVertex.TheVariants as vertex
use Rattle.landxml_read.specs.Markup.{Content, Nothing, Byte, Comment, CData, Empty, Element, Document, document_text}
use Rattle.landxml_read.specs.Values.{decoded}
use Rattle.landxml_read.specs.Numbers.{decimal_of}
use Rattle.landxml_read.specs.Faults.{tree_faults, fault}
use Rattle.landxml_read.specs.declared.raw.RawSurface.{RawSurface}
use Rattle.landxml_read.specs.Lists.{surfaces_of, unit_of}
use Rattle.landxml_read.specs.Events.{document_events}
use Rattle.landxml_read.specs.Gather.{gather, nothing, unit_or_meter}

-- text before content
abbrev text : List ℕ → Content → Content
text [] after = after
text (b ∷ bs) after = Byte b (text bs after)

-- a document without a byte order mark
abbrev document : Content → Document
document body = record { has_mark = false; body = body }

-- <LandXML></Landxml>
abbrev other_end : Document
other_end = document (Element (record { name = (codes "LandXML"); attributes = []; white = [] }) Nothing (record { name = (codes "Landxml"); white = [] }) Nothing)

other_end_text : document_text other_end ≡ codes "<LandXML></Landxml>"
other_end_text = refl

other_end_fault : tree_faults other_end ≡ fault 18 cause.Tag 9 ∷ []
unfolding decoded decimal_of rounded
other_end_fault = refl

-- <landXML/>
abbrev other_root : Document
other_root = document (Empty (record { name = (codes "landXML"); attributes = []; white = [] }) Nothing)

other_root_text : document_text other_root ≡ codes "<landXML/>"
other_root_text = refl

other_root_fault : tree_faults other_root ≡ fault 9 cause.Root 0 ∷ []
unfolding decoded decimal_of rounded
other_root_fault = refl

-- <LandXML><Units><Metric/></Units></LandXML>
abbrev no_unit : Document
no_unit = document (Element (record { name = (codes "LandXML"); attributes = []; white = [] }) (Element (record { name = (codes "Units"); attributes = []; white = [] }) (Empty (record { name = (codes "Metric"); attributes = []; white = [] }) Nothing) (record { name = (codes "Units"); white = [] }) Nothing) (record { name = (codes "LandXML"); white = [] }) Nothing)

no_unit_text : document_text no_unit ≡ codes "<LandXML><Units><Metric/></Units></LandXML>"
no_unit_text = refl

no_unit_fault : tree_faults no_unit ≡ fault 24 cause.Unit 16 ∷ []
unfolding decoded decimal_of rounded
no_unit_fault = refl

-- <LandXML><Surfaces><Surface/></Surfaces></LandXML>
abbrev no_name : Document
no_name = document (Element (record { name = (codes "LandXML"); attributes = []; white = [] }) (Element (record { name = (codes "Surfaces"); attributes = []; white = [] }) (Empty (record { name = (codes "Surface"); attributes = []; white = [] }) Nothing) (record { name = (codes "Surfaces"); white = [] }) Nothing) (record { name = (codes "LandXML"); white = [] }) Nothing)

no_name_text : document_text no_name ≡ codes "<LandXML><Surfaces><Surface/></Surfaces></LandXML>"
no_name_text = refl

no_name_fault : tree_faults no_name ≡ fault 28 cause.Attr 19 ∷ []
unfolding decoded decimal_of rounded
no_name_fault = refl

-- <LandXML><Surfaces><Surface name="&foo;"/></Surfaces></LandXML>
abbrev unlisted : Document
unlisted = document (Element (record { name = (codes "LandXML"); attributes = []; white = [] }) (Element (record { name = (codes "Surfaces"); attributes = []; white = [] }) (Empty (record { name = (codes "Surface"); attributes = (record { before = (codes " "); name = (codes "name"); before_equals = []; after_equals = []; quote = 34; value = (codes "&foo;") }) ∷ []; white = [] }) Nothing) (record { name = (codes "Surfaces"); white = [] }) Nothing) (record { name = (codes "LandXML"); white = [] }) Nothing)

unlisted_text : document_text unlisted ≡ codes "<LandXML><Surfaces><Surface name=\"&foo;\"/></Surfaces></LandXML>"
unlisted_text = refl

unlisted_fault : tree_faults unlisted ≡ fault 41 cause.Entity 19 ∷ []
unfolding decoded decimal_of rounded
unlisted_fault = refl

-- <LandXML><Surfaces><Surface name="a"><Definition surfType="grid"/></Surface></Surfaces></LandXML>
abbrev grid : Document
grid = document (Element (record { name = (codes "LandXML"); attributes = []; white = [] }) (Element (record { name = (codes "Surfaces"); attributes = []; white = [] }) (Element (record { name = (codes "Surface"); attributes = (record { before = (codes " "); name = (codes "name"); before_equals = []; after_equals = []; quote = 34; value = (codes "a") }) ∷ []; white = [] }) (Empty (record { name = (codes "Definition"); attributes = (record { before = (codes " "); name = (codes "surfType"); before_equals = []; after_equals = []; quote = 34; value = (codes "grid") }) ∷ []; white = [] }) Nothing) (record { name = (codes "Surface"); white = [] }) Nothing) (record { name = (codes "Surfaces"); white = [] }) Nothing) (record { name = (codes "LandXML"); white = [] }) Nothing)

grid_text : document_text grid ≡ codes "<LandXML><Surfaces><Surface name=\"a\"><Definition surfType=\"grid\"/></Surface></Surfaces></LandXML>"
grid_text = refl

grid_fault : tree_faults grid ≡ fault 65 cause.SurfType 37 ∷ []
unfolding decoded decimal_of rounded
grid_fault = refl

-- <LandXML><Surfaces><Surface name="a"><SourceData><Breaklines><Breakline brkType="wall"/></Breaklines></SourceData></Surface></Surfaces></LandXML>
abbrev wall : Document
wall = document (Element (record { name = (codes "LandXML"); attributes = []; white = [] }) (Element (record { name = (codes "Surfaces"); attributes = []; white = [] }) (Element (record { name = (codes "Surface"); attributes = (record { before = (codes " "); name = (codes "name"); before_equals = []; after_equals = []; quote = 34; value = (codes "a") }) ∷ []; white = [] }) (Element (record { name = (codes "SourceData"); attributes = []; white = [] }) (Element (record { name = (codes "Breaklines"); attributes = []; white = [] }) (Empty (record { name = (codes "Breakline"); attributes = (record { before = (codes " "); name = (codes "brkType"); before_equals = []; after_equals = []; quote = 34; value = (codes "wall") }) ∷ []; white = [] }) Nothing) (record { name = (codes "Breaklines"); white = [] }) Nothing) (record { name = (codes "SourceData"); white = [] }) Nothing) (record { name = (codes "Surface"); white = [] }) Nothing) (record { name = (codes "Surfaces"); white = [] }) Nothing) (record { name = (codes "LandXML"); white = [] }) Nothing)

wall_text : document_text wall ≡ codes "<LandXML><Surfaces><Surface name=\"a\"><SourceData><Breaklines><Breakline brkType=\"wall\"/></Breaklines></SourceData></Surface></Surfaces></LandXML>"
wall_text = refl

wall_fault : tree_faults wall ≡ fault 87 cause.BrkType 61 ∷ []
unfolding decoded decimal_of rounded
wall_fault = refl

-- <LandXML><Surfaces><Surface name="a"><SourceData><Boundaries><Boundary/></Boundaries></SourceData></Surface></Surfaces></LandXML>
abbrev no_boundary_type : Document
no_boundary_type = document (Element (record { name = (codes "LandXML"); attributes = []; white = [] }) (Element (record { name = (codes "Surfaces"); attributes = []; white = [] }) (Element (record { name = (codes "Surface"); attributes = (record { before = (codes " "); name = (codes "name"); before_equals = []; after_equals = []; quote = 34; value = (codes "a") }) ∷ []; white = [] }) (Element (record { name = (codes "SourceData"); attributes = []; white = [] }) (Element (record { name = (codes "Boundaries"); attributes = []; white = [] }) (Empty (record { name = (codes "Boundary"); attributes = []; white = [] }) Nothing) (record { name = (codes "Boundaries"); white = [] }) Nothing) (record { name = (codes "SourceData"); white = [] }) Nothing) (record { name = (codes "Surface"); white = [] }) Nothing) (record { name = (codes "Surfaces"); white = [] }) Nothing) (record { name = (codes "LandXML"); white = [] }) Nothing)

no_boundary_type_text : document_text no_boundary_type ≡ codes "<LandXML><Surfaces><Surface name=\"a\"><SourceData><Boundaries><Boundary/></Boundaries></SourceData></Surface></Surfaces></LandXML>"
no_boundary_type_text = refl

no_boundary_type_fault : tree_faults no_boundary_type ≡ fault 71 cause.BndType 61 ∷ []
unfolding decoded decimal_of rounded
no_boundary_type_fault = refl

-- <LandXML><Surfaces><Surface name="a"><Definition surfType="TIN"><Pnts><P id="1">0 x 0</P></Pnts></Definition></Surface></Surfaces></LandXML>
abbrev no_number : Document
no_number = document (Element (record { name = (codes "LandXML"); attributes = []; white = [] }) (Element (record { name = (codes "Surfaces"); attributes = []; white = [] }) (Element (record { name = (codes "Surface"); attributes = (record { before = (codes " "); name = (codes "name"); before_equals = []; after_equals = []; quote = 34; value = (codes "a") }) ∷ []; white = [] }) (Element (record { name = (codes "Definition"); attributes = (record { before = (codes " "); name = (codes "surfType"); before_equals = []; after_equals = []; quote = 34; value = (codes "TIN") }) ∷ []; white = [] }) (Element (record { name = (codes "Pnts"); attributes = []; white = [] }) (Element (record { name = (codes "P"); attributes = (record { before = (codes " "); name = (codes "id"); before_equals = []; after_equals = []; quote = 34; value = (codes "1") }) ∷ []; white = [] }) (text (codes "0 x 0") Nothing) (record { name = (codes "P"); white = [] }) Nothing) (record { name = (codes "Pnts"); white = [] }) Nothing) (record { name = (codes "Definition"); white = [] }) Nothing) (record { name = (codes "Surface"); white = [] }) Nothing) (record { name = (codes "Surfaces"); white = [] }) Nothing) (record { name = (codes "LandXML"); white = [] }) Nothing)

no_number_text : document_text no_number ≡ codes "<LandXML><Surfaces><Surface name=\"a\"><Definition surfType=\"TIN\"><Pnts><P id=\"1\">0 x 0</P></Pnts></Definition></Surface></Surfaces></LandXML>"
no_number_text = refl

no_number_fault : tree_faults no_number ≡ fault 83 cause.Number 82 ∷ []
unfolding decoded decimal_of rounded
no_number_fault = refl

-- <LandXML><Surfaces><Surface name="a"><Definition surfType="TIN"><Pnts><P id="1">1e9 0 0</P></Pnts></Definition></Surface></Surfaces></LandXML>
abbrev too_big : Document
too_big = document (Element (record { name = (codes "LandXML"); attributes = []; white = [] }) (Element (record { name = (codes "Surfaces"); attributes = []; white = [] }) (Element (record { name = (codes "Surface"); attributes = (record { before = (codes " "); name = (codes "name"); before_equals = []; after_equals = []; quote = 34; value = (codes "a") }) ∷ []; white = [] }) (Element (record { name = (codes "Definition"); attributes = (record { before = (codes " "); name = (codes "surfType"); before_equals = []; after_equals = []; quote = 34; value = (codes "TIN") }) ∷ []; white = [] }) (Element (record { name = (codes "Pnts"); attributes = []; white = [] }) (Element (record { name = (codes "P"); attributes = (record { before = (codes " "); name = (codes "id"); before_equals = []; after_equals = []; quote = 34; value = (codes "1") }) ∷ []; white = [] }) (text (codes "1e9 0 0") Nothing) (record { name = (codes "P"); white = [] }) Nothing) (record { name = (codes "Pnts"); white = [] }) Nothing) (record { name = (codes "Definition"); white = [] }) Nothing) (record { name = (codes "Surface"); white = [] }) Nothing) (record { name = (codes "Surfaces"); white = [] }) Nothing) (record { name = (codes "LandXML"); white = [] }) Nothing)

too_big_text : document_text too_big ≡ codes "<LandXML><Surfaces><Surface name=\"a\"><Definition surfType=\"TIN\"><Pnts><P id=\"1\">1e9 0 0</P></Pnts></Definition></Surface></Surfaces></LandXML>"
too_big_text = refl

too_big_fault : tree_faults too_big ≡ fault 83 cause.Big 80 ∷ []
unfolding decoded decimal_of rounded
too_big_fault = refl

-- <LandXML><Surfaces><Surface name="a"><Definition surfType="TIN"><Faces><F>1 2</F></Faces></Definition></Surface></Surfaces></LandXML>
abbrev two_ids : Document
two_ids = document (Element (record { name = (codes "LandXML"); attributes = []; white = [] }) (Element (record { name = (codes "Surfaces"); attributes = []; white = [] }) (Element (record { name = (codes "Surface"); attributes = (record { before = (codes " "); name = (codes "name"); before_equals = []; after_equals = []; quote = 34; value = (codes "a") }) ∷ []; white = [] }) (Element (record { name = (codes "Definition"); attributes = (record { before = (codes " "); name = (codes "surfType"); before_equals = []; after_equals = []; quote = 34; value = (codes "TIN") }) ∷ []; white = [] }) (Element (record { name = (codes "Faces"); attributes = []; white = [] }) (Element (record { name = (codes "F"); attributes = []; white = [] }) (text (codes "1 2") Nothing) (record { name = (codes "F"); white = [] }) Nothing) (record { name = (codes "Faces"); white = [] }) Nothing) (record { name = (codes "Definition"); white = [] }) Nothing) (record { name = (codes "Surface"); white = [] }) Nothing) (record { name = (codes "Surfaces"); white = [] }) Nothing) (record { name = (codes "LandXML"); white = [] }) Nothing)

two_ids_text : document_text two_ids ≡ codes "<LandXML><Surfaces><Surface name=\"a\"><Definition surfType=\"TIN\"><Faces><F>1 2</F></Faces></Definition></Surface></Surfaces></LandXML>"
two_ids_text = refl

two_ids_fault : tree_faults two_ids ≡ fault 80 cause.Count 77 ∷ []
unfolding decoded decimal_of rounded
two_ids_fault = refl

-- <LandXML><Surfaces><Surface name="a"><Definition surfType="TIN"><Faces><F>1 2 &amp;</F></Faces></Definition></Surface></Surfaces></LandXML>
abbrev reference : Document
reference = document (Element (record { name = (codes "LandXML"); attributes = []; white = [] }) (Element (record { name = (codes "Surfaces"); attributes = []; white = [] }) (Element (record { name = (codes "Surface"); attributes = (record { before = (codes " "); name = (codes "name"); before_equals = []; after_equals = []; quote = 34; value = (codes "a") }) ∷ []; white = [] }) (Element (record { name = (codes "Definition"); attributes = (record { before = (codes " "); name = (codes "surfType"); before_equals = []; after_equals = []; quote = 34; value = (codes "TIN") }) ∷ []; white = [] }) (Element (record { name = (codes "Faces"); attributes = []; white = [] }) (Element (record { name = (codes "F"); attributes = []; white = [] }) (text (codes "1 2 &amp;") Nothing) (record { name = (codes "F"); white = [] }) Nothing) (record { name = (codes "Faces"); white = [] }) Nothing) (record { name = (codes "Definition"); white = [] }) Nothing) (record { name = (codes "Surface"); white = [] }) Nothing) (record { name = (codes "Surfaces"); white = [] }) Nothing) (record { name = (codes "LandXML"); white = [] }) Nothing)

reference_text : document_text reference ≡ codes "<LandXML><Surfaces><Surface name=\"a\"><Definition surfType=\"TIN\"><Faces><F>1 2 &amp;</F></Faces></Definition></Surface></Surfaces></LandXML>"
reference_text = refl

reference_fault : tree_faults reference ≡ fault 78 cause.Entity 78 ∷ []
unfolding decoded decimal_of rounded
reference_fault = refl

-- <LandXML><Surfaces><Surface name="a"><Definition surfType="TIN"><Faces><F>1 2 3<![CDATA[x]]></F></Faces></Definition></Surface></Surfaces></LandXML>
abbrev quoted : Document
quoted = document (Element (record { name = (codes "LandXML"); attributes = []; white = [] }) (Element (record { name = (codes "Surfaces"); attributes = []; white = [] }) (Element (record { name = (codes "Surface"); attributes = (record { before = (codes " "); name = (codes "name"); before_equals = []; after_equals = []; quote = 34; value = (codes "a") }) ∷ []; white = [] }) (Element (record { name = (codes "Definition"); attributes = (record { before = (codes " "); name = (codes "surfType"); before_equals = []; after_equals = []; quote = 34; value = (codes "TIN") }) ∷ []; white = [] }) (Element (record { name = (codes "Faces"); attributes = []; white = [] }) (Element (record { name = (codes "F"); attributes = []; white = [] }) (text (codes "1 2 3") (CData (codes "x") Nothing)) (record { name = (codes "F"); white = [] }) Nothing) (record { name = (codes "Faces"); white = [] }) Nothing) (record { name = (codes "Definition"); white = [] }) Nothing) (record { name = (codes "Surface"); white = [] }) Nothing) (record { name = (codes "Surfaces"); white = [] }) Nothing) (record { name = (codes "LandXML"); white = [] }) Nothing)

quoted_text : document_text quoted ≡ codes "<LandXML><Surfaces><Surface name=\"a\"><Definition surfType=\"TIN\"><Faces><F>1 2 3<![CDATA[x]]></F></Faces></Definition></Surface></Surfaces></LandXML>"
quoted_text = refl

quoted_fault : tree_faults quoted ≡ fault 87 cause.Entity 79 ∷ []
unfolding decoded decimal_of rounded
quoted_fault = refl

-- <LandXML><Units><Imperial linearUnit="foot"/></Units><Surfaces><Surface name="E&amp;G"><SourceData><Breaklines><Breakline><PntList3D>1 2 3 4 5 6</PntList3D></Breakline></Breaklines><Boundaries><Boundary bndType="void"><PntList2D>1 2</PntList2D></Boundary></Boundaries></SourceData><Definition><Pnts><P id="p">7 8 .5</P></Pnts><Faces><F>p <!-- q -->q r</F></Faces></Definition></Surface></Surfaces></LandXML>
abbrev whole : Document
whole = document (Element (record { name = (codes "LandXML"); attributes = []; white = [] }) (Element (record { name = (codes "Units"); attributes = []; white = [] }) (Empty (record { name = (codes "Imperial"); attributes = (record { before = (codes " "); name = (codes "linearUnit"); before_equals = []; after_equals = []; quote = 34; value = (codes "foot") }) ∷ []; white = [] }) Nothing) (record { name = (codes "Units"); white = [] }) (Element (record { name = (codes "Surfaces"); attributes = []; white = [] }) (Element (record { name = (codes "Surface"); attributes = (record { before = (codes " "); name = (codes "name"); before_equals = []; after_equals = []; quote = 34; value = (codes "E&amp;G") }) ∷ []; white = [] }) (Element (record { name = (codes "SourceData"); attributes = []; white = [] }) (Element (record { name = (codes "Breaklines"); attributes = []; white = [] }) (Element (record { name = (codes "Breakline"); attributes = []; white = [] }) (Element (record { name = (codes "PntList3D"); attributes = []; white = [] }) (text (codes "1 2 3 4 5 6") Nothing) (record { name = (codes "PntList3D"); white = [] }) Nothing) (record { name = (codes "Breakline"); white = [] }) Nothing) (record { name = (codes "Breaklines"); white = [] }) (Element (record { name = (codes "Boundaries"); attributes = []; white = [] }) (Element (record { name = (codes "Boundary"); attributes = (record { before = (codes " "); name = (codes "bndType"); before_equals = []; after_equals = []; quote = 34; value = (codes "void") }) ∷ []; white = [] }) (Element (record { name = (codes "PntList2D"); attributes = []; white = [] }) (text (codes "1 2") Nothing) (record { name = (codes "PntList2D"); white = [] }) Nothing) (record { name = (codes "Boundary"); white = [] }) Nothing) (record { name = (codes "Boundaries"); white = [] }) Nothing)) (record { name = (codes "SourceData"); white = [] }) (Element (record { name = (codes "Definition"); attributes = []; white = [] }) (Element (record { name = (codes "Pnts"); attributes = []; white = [] }) (Element (record { name = (codes "P"); attributes = (record { before = (codes " "); name = (codes "id"); before_equals = []; after_equals = []; quote = 34; value = (codes "p") }) ∷ []; white = [] }) (text (codes "7 8 .5") Nothing) (record { name = (codes "P"); white = [] }) Nothing) (record { name = (codes "Pnts"); white = [] }) (Element (record { name = (codes "Faces"); attributes = []; white = [] }) (Element (record { name = (codes "F"); attributes = []; white = [] }) (text (codes "p ") (Comment (codes " q ") (text (codes "q r") Nothing))) (record { name = (codes "F"); white = [] }) Nothing) (record { name = (codes "Faces"); white = [] }) Nothing)) (record { name = (codes "Definition"); white = [] }) Nothing)) (record { name = (codes "Surface"); white = [] }) Nothing) (record { name = (codes "Surfaces"); white = [] }) Nothing)) (record { name = (codes "LandXML"); white = [] }) Nothing)

whole_text : document_text whole ≡ codes "<LandXML><Units><Imperial linearUnit=\"foot\"/></Units><Surfaces><Surface name=\"E&amp;G\"><SourceData><Breaklines><Breakline><PntList3D>1 2 3 4 5 6</PntList3D></Breakline></Breaklines><Boundaries><Boundary bndType=\"void\"><PntList2D>1 2</PntList2D></Boundary></Boundaries></SourceData><Definition><Pnts><P id=\"p\">7 8 .5</P></Pnts><Faces><F>p <!-- q -->q r</F></Faces></Definition></Surface></Surfaces></LandXML>"
whole_text = refl

whole_faultless : tree_faults whole ≡ []
unfolding decoded decimal_of rounded
whole_faultless = refl

whole_unit : unit_of whole ≡ Foot
unfolding decoded
whole_unit = refl

-- its one surface, with each offset
abbrev whole_surface : RawSurface
whole_surface = record {
  at = 63;
  name = codes "E&G";
  triples = (record { n = record { 0 = pos 1000 }; e = record { 0 = pos 2000 }; z = record { 0 = pos 3000 }; n_at = 133; e_at = 135; z_at = 137 }) ∷ (record { n = record { 0 = pos 4000 }; e = record { 0 = pos 5000 }; z = record { 0 = pos 6000 }; n_at = 139; e_at = 141; z_at = 143 }) ∷ (record { n = record { 0 = pos 7000 }; e = record { 0 = pos 8000 }; z = record { 0 = pos 500 }; n_at = 309; e_at = 311; z_at = 313 }) ∷ [];
  pairs = (record { n = record { 0 = pos 1000 }; e = record { 0 = pos 2000 }; at = 229 }) ∷ [];
  lines = (record { at = 111; kind = kind.Breakline; vertices = vertex.Triple 0 ∷ vertex.Triple 1 ∷ [] }) ∷ (record { at = 193; kind = kind.Void; vertices = vertex.Pair 0 ∷ [] }) ∷ [];
  ids = (record { at = 299; id = codes "p"; triple = 2 }) ∷ [];
  faces = (record { at = 333; a = codes "p"; b = codes "q"; c = codes "r" }) ∷ [];
}

whole_surfaces : surfaces_of whole ≡ whole_surface ∷ []
unfolding decoded decimal_of rounded
whole_surfaces = refl

whole_gathered : (gather nothing (document_events whole)).surfaces ≡ whole_surface ∷ []
unfolding decoded decimal_of rounded
whole_gathered = refl

whole_first_unit : unit_or_meter (gather nothing (document_events whole)).unit ≡ Foot
unfolding decoded
whole_first_unit = refl
