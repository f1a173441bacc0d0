-- Which kinds of elements stand in which.
use Rattle.std.proofs.Common.{◌≡◌, ℕ, ◌+◌, Bool, true, false, cond, List, [], ◌∷◌, ◌++◌, length, codes, bytes_eq, Option, None, Some, flat_map, refl, sym, ◌∙◌, ap, append_assoc}
use Rattle.std.specs.List.{list_all, filter_map, cons_option}
use Rattle.landxml_read.specs.declared.kind.Kind.{Kind}
use Rattle.landxml_read.specs.declared.kind.Kind.TheVariants.{Outside, Root, Units, UnitOf, Surfaces, Surface, SourceData, Boundaries, Boundary, Breaklines, Breakline, DataPoints, Triples, Pairs, Definition, Points, Point, Faces, Face, Skipped}
use Rattle.landxml_read.specs.Markup.{Content, Nothing, Byte, Comment, Instruction, CData, Empty, Element, content_text, start_text, empty_text, end_text}
use Rattle.landxml_read.specs.Elements.{Found, among, lists, below, elements, empty_found, whole_found}
use Rattle.landxml_read.specs.Faults.{has_text}
use Rattle.landxml_read.proofs.Bytes.{both}

-- what holds of skipped elements and of each row's kind holds of what a name makes
among_is : (q : Kind → Bool) (rows : List (List ℕ × Kind)) (name : List ℕ) → q Skipped ≡ true → list_all (λ r. q r.1) rows ≡ true → q (among rows name) ≡ true
among_is q [] name s all = s
among_is q (row ∷ rows) name s all = let h = both (q row.1) (list_all (λ r. q r.1) rows) all in by (bytes_eq name row.0) h.0 (among_is q rows name s h.1)
  where
    by : (t : Bool) → q row.1 ≡ true → q (among rows name) ≡ true → q (cond t row.1 (among rows name)) ≡ true
    by true is rest = is
    by false is rest = rest

-- what holds lists, points or faces, in a line or in a surface
abbrev pub holds : Bool → Kind → Bool
holds true Boundary = true
holds true Breakline = true
holds true Skipped = true
holds true _ = false
holds false Surface = true
holds false SourceData = true
holds false Boundaries = true
holds false Breaklines = true
holds false DataPoints = true
holds false Definition = true
holds false Points = true
holds false Faces = true
holds false Skipped = true
holds false _ = false

-- what stands there
abbrev pub fits : Bool → Kind → Bool
fits true Triples = true
fits true Pairs = true
fits true Skipped = true
fits true _ = false
fits false SourceData = true
fits false Boundaries = true
fits false Boundary = true
fits false Breaklines = true
fits false Breakline = true
fits false DataPoints = true
fits false Triples = true
fits false Pairs = true
fits false Definition = true
fits false Points = true
fits false Point = true
fits false Faces = true
fits false Face = true
fits false Skipped = true
fits false _ = false

-- what holds a surface, or stands round one
abbrev pub holds_surfaces : Kind → Bool
holds_surfaces Outside = true
holds_surfaces Root = true
holds_surfaces Units = true
holds_surfaces UnitOf = true
holds_surfaces Surfaces = true
holds_surfaces Skipped = true
holds_surfaces _ = false

-- what stands there
abbrev pub fits_outside : Kind → Bool
fits_outside Root = true
fits_outside Units = true
fits_outside UnitOf = true
fits_outside Surfaces = true
fits_outside Surface = true
fits_outside Skipped = true
fits_outside _ = false

pub fits_below : (in_line : Bool) (k : Kind) (name : List ℕ) → holds in_line k ≡ true → fits in_line (below k name) ≡ true
fits_below true Outside name h = cc
fits_below true Root name h = cc
fits_below true Units name h = cc
fits_below true UnitOf name h = cc
fits_below true Surfaces name h = cc
fits_below true Surface name h = cc
fits_below true SourceData name h = cc
fits_below true Boundaries name h = cc
fits_below true Boundary name h = among_is (fits true) lists name refl refl
fits_below true Breaklines name h = cc
fits_below true Breakline name h = among_is (fits true) lists name refl refl
fits_below true DataPoints name h = cc
fits_below true Triples name h = cc
fits_below true Pairs name h = cc
fits_below true Definition name h = cc
fits_below true Points name h = cc
fits_below true Point name h = cc
fits_below true Faces name h = cc
fits_below true Face name h = cc
fits_below true Skipped name h = among_is (fits true) [] name refl refl
fits_below false Outside name h = cc
fits_below false Root name h = cc
fits_below false Units name h = cc
fits_below false UnitOf name h = cc
fits_below false Surfaces name h = cc
fits_below false Surface name h = among_is (fits false) ((codes "SourceData", SourceData) ∷ (codes "Definition", Definition) ∷ []) name refl refl
fits_below false SourceData name h = among_is (fits false) ((codes "Boundaries", Boundaries) ∷ (codes "Breaklines", Breaklines) ∷ (codes "DataPoints", DataPoints) ∷ []) name refl refl
fits_below false Boundaries name h = among_is (fits false) ((codes "Boundary", Boundary) ∷ []) name refl refl
fits_below false Boundary name h = cc
fits_below false Breaklines name h = among_is (fits false) ((codes "Breakline", Breakline) ∷ []) name refl refl
fits_below false Breakline name h = cc
fits_below false DataPoints name h = among_is (fits false) lists name refl refl
fits_below false Triples name h = cc
fits_below false Pairs name h = cc
fits_below false Definition name h = among_is (fits false) ((codes "Pnts", Points) ∷ (codes "Faces", Faces) ∷ []) name refl refl
fits_below false Points name h = among_is (fits false) ((codes "P", Point) ∷ []) name refl refl
fits_below false Point name h = cc
fits_below false Faces name h = among_is (fits false) ((codes "F", Face) ∷ []) name refl refl
fits_below false Face name h = cc
fits_below false Skipped name h = among_is (fits false) [] name refl refl

pub outside_below : (k : Kind) (name : List ℕ) → holds_surfaces k ≡ true → fits_outside (below k name) ≡ true
outside_below Outside name h = among_is fits_outside ((codes "LandXML", Root) ∷ []) name refl refl
outside_below Root name h = among_is fits_outside ((codes "Units", Units) ∷ (codes "Surfaces", Surfaces) ∷ []) name refl refl
outside_below Units name h = among_is fits_outside ((codes "Metric", UnitOf) ∷ (codes "Imperial", UnitOf) ∷ []) name refl refl
outside_below UnitOf name h = among_is fits_outside [] name refl refl
outside_below Surfaces name h = among_is fits_outside ((codes "Surface", Surface) ∷ []) name refl refl
outside_below Surface name h = cc
outside_below SourceData name h = cc
outside_below Boundaries name h = cc
outside_below Boundary name h = cc
outside_below Breaklines name h = cc
outside_below Breakline name h = cc
outside_below DataPoints name h = cc
outside_below Triples name h = cc
outside_below Pairs name h = cc
outside_below Definition name h = cc
outside_below Points name h = cc
outside_below Point name h = cc
outside_below Faces name h = cc
outside_below Face name h = cc
outside_below Skipped name h = among_is fits_outside [] name refl refl

-- what fits in a surface or stands below it
pub surface_below : (k : Kind) (name : List ℕ) → fits false k ≡ true → fits false (below k name) ≡ true
surface_below Outside name h = cc
surface_below Root name h = cc
surface_below Units name h = cc
surface_below UnitOf name h = cc
surface_below Surfaces name h = cc
surface_below Surface name h = cc
surface_below SourceData name h = among_is (fits false) ((codes "Boundaries", Boundaries) ∷ (codes "Breaklines", Breaklines) ∷ (codes "DataPoints", DataPoints) ∷ []) name refl refl
surface_below Boundaries name h = among_is (fits false) ((codes "Boundary", Boundary) ∷ []) name refl refl
surface_below Boundary name h = among_is (fits false) lists name refl refl
surface_below Breaklines name h = among_is (fits false) ((codes "Breakline", Breakline) ∷ []) name refl refl
surface_below Breakline name h = among_is (fits false) lists name refl refl
surface_below DataPoints name h = among_is (fits false) lists name refl refl
surface_below Triples name h = among_is (fits false) [] name refl refl
surface_below Pairs name h = among_is (fits false) [] name refl refl
surface_below Definition name h = among_is (fits false) ((codes "Pnts", Points) ∷ (codes "Faces", Faces) ∷ []) name refl refl
surface_below Points name h = among_is (fits false) ((codes "P", Point) ∷ []) name refl refl
surface_below Point name h = among_is (fits false) [] name refl refl
surface_below Faces name h = among_is (fits false) ((codes "F", Face) ∷ []) name refl refl
surface_below Face name h = among_is (fits false) [] name refl refl
surface_below Skipped name h = among_is (fits false) [] name refl refl

-- what fits in a line or stands below it
pub line_below : (k : Kind) (name : List ℕ) → fits true k ≡ true → fits true (below k name) ≡ true
line_below Outside name h = cc
line_below Root name h = cc
line_below Units name h = cc
line_below UnitOf name h = cc
line_below Surfaces name h = cc
line_below Surface name h = cc
line_below SourceData name h = cc
line_below Boundaries name h = cc
line_below Boundary name h = cc
line_below Breaklines name h = cc
line_below Breakline name h = cc
line_below DataPoints name h = cc
line_below Triples name h = among_is (fits true) [] name refl refl
line_below Pairs name h = among_is (fits true) [] name refl refl
line_below Definition name h = cc
line_below Points name h = cc
line_below Point name h = cc
line_below Faces name h = cc
line_below Face name h = cc
line_below Skipped name h = among_is (fits true) [] name refl refl

pub no_text : (in_line : Bool) (k : Kind) → holds in_line k ≡ true → has_text k ≡ false
no_text true Outside h = refl
no_text true Root h = refl
no_text true Units h = refl
no_text true UnitOf h = refl
no_text true Surfaces h = refl
no_text true Surface h = refl
no_text true SourceData h = refl
no_text true Boundaries h = refl
no_text true Boundary h = refl
no_text true Breaklines h = refl
no_text true Breakline h = refl
no_text true DataPoints h = refl
no_text true Triples h = cc
no_text true Pairs h = cc
no_text true Definition h = refl
no_text true Points h = refl
no_text true Point h = cc
no_text true Faces h = refl
no_text true Face h = cc
no_text true Skipped h = refl
no_text false Outside h = refl
no_text false Root h = refl
no_text false Units h = refl
no_text false UnitOf h = refl
no_text false Surfaces h = refl
no_text false Surface h = refl
no_text false SourceData h = refl
no_text false Boundaries h = refl
no_text false Boundary h = refl
no_text false Breaklines h = refl
no_text false Breakline h = refl
no_text false DataPoints h = refl
no_text false Triples h = cc
no_text false Pairs h = cc
no_text false Definition h = refl
no_text false Points h = refl
no_text false Point h = cc
no_text false Faces h = refl
no_text false Face h = cc
no_text false Skipped h = refl

pub no_text_outside : (k : Kind) → holds_surfaces k ≡ true → has_text k ≡ false
no_text_outside Outside h = refl
no_text_outside Root h = refl
no_text_outside Units h = refl
no_text_outside UnitOf h = refl
no_text_outside Surfaces h = refl
no_text_outside Surface h = refl
no_text_outside SourceData h = refl
no_text_outside Boundaries h = refl
no_text_outside Boundary h = refl
no_text_outside Breaklines h = refl
no_text_outside Breakline h = refl
no_text_outside DataPoints h = refl
no_text_outside Triples h = cc
no_text_outside Pairs h = cc
no_text_outside Definition h = refl
no_text_outside Points h = refl
no_text_outside Point h = cc
no_text_outside Faces h = refl
no_text_outside Face h = cc
no_text_outside Skipped h = refl

-- what is made of two lists is that of both
pub filter_map_more : {X Y : Type 0} (f : X → Option Y) (xs ys : List X) → filter_map f (xs ++ ys) ≡ filter_map f xs ++ filter_map f ys
filter_map_more f [] ys = refl
filter_map_more {Y = Y} f (x ∷ xs) ys = ap (cons_option (f x)) (filter_map_more f xs ys) ∙ by (f x)
  where
    by : (o : Option Y) → cons_option o (filter_map f xs ++ filter_map f ys) ≡ cons_option o (filter_map f xs) ++ filter_map f ys
    by None = refl
    by (Some y) = refl

pub flat_more : {X Y : Type 0} (f : X → List Y) (xs ys : List X) → flat_map f (xs ++ ys) ≡ flat_map f xs ++ flat_map f ys
flat_more f [] ys = refl
flat_more f (x ∷ xs) ys = ap (λ zs. f x ++ zs) (flat_more f xs ys) ∙ sym (append_assoc (f x) (flat_map f xs) (flat_map f ys))

-- where nothing is made of the elements that stand in one, nothing is made of its content
pub nothing_made : {A : Type 0} (f : Found → Option A) (q : Kind → Bool) → ((k : Kind) (name : List ℕ) → q k ≡ true → q (below k name) ≡ true) → ((e : Found) → q e.kind ≡ true → f e ≡ None)
    → (k : Kind) → ((name : List ℕ) → q (below k name) ≡ true) → (depth at : ℕ) (x : Content) → filter_map f (elements k depth at x) ≡ []
nothing_made f q closed none k is depth at Nothing = refl
nothing_made f q closed none k is depth at (Byte b after) = nothing_made f q closed none k is depth (at + 1) after
nothing_made f q closed none k is depth at (Comment bytes after) = nothing_made f q closed none k is depth (at + (length bytes + 7)) after
nothing_made f q closed none k is depth at (Instruction bytes after) = nothing_made f q closed none k is depth (at + (length bytes + 4)) after
nothing_made f q closed none k is depth at (CData bytes after) = nothing_made f q closed none k is depth (at + (length bytes + 12)) after
nothing_made f q closed none k is depth at (Empty tag after) =
    let es = elements k depth (at + length (empty_text tag)) after in
    ap (λ o. cons_option o (filter_map f es)) (none (empty_found (below k tag.name) (depth + 1) at tag) (is tag.name))
    ∙ nothing_made f q closed none k is depth (at + length (empty_text tag)) after
nothing_made f q closed none k is depth at (Element tag inside end after) =
    let own = below k tag.name in
    let there = at + length (start_text tag) + length (content_text inside) + length (end_text end) in
    let within = elements own (depth + 1) (at + length (start_text tag)) inside in
    let later = elements k depth there after in
    ap (λ o. cons_option o (filter_map f (within ++ later))) (none (whole_found own (depth + 1) at tag inside end) (is tag.name))
    ∙ filter_map_more f within later
    ∙ ap (λ xs. xs ++ filter_map f later) (nothing_made f q closed none own (λ name. closed own name (is tag.name)) (depth + 1) (at + length (start_text tag)) inside)
    ∙ nothing_made f q closed none k is depth there after
