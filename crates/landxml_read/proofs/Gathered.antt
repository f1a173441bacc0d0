-- What a document's events gather is its unit and its surfaces.
use Rattle.std.proofs.Common.{◌≡◌, ℕ, ◌+◌, ◌-◌, true, false, List, [], ◌∷◌, ◌++◌, length, unwrap_or, Option, None, Some, refl, sym, ◌∙◌, ap, arith, append_assoc}
use Rattle.std.proofs.lemmas.List.{append-nil}
use Rattle.std.specs.List.{filter_map}
use Rattle.ground_num.specs.declared.head.LinearUnit.{LinearUnit}
use Rattle.landxml_read.specs.declared.gather.Gathered.{Gathered}
use Rattle.landxml_read.specs.declared.kind.Kind.{Kind}
use Rattle.landxml_read.specs.declared.kind.Kind.TheVariants.{Outside, Root, Units, UnitOf, Surfaces, Surface, SourceData, Boundaries, Boundary, Breaklines, Breakline, DataPoints, Triples, Pairs, Definition, Points, Point, Faces, Face, Skipped}
use Rattle.landxml_read.specs.Markup.{Content, Nothing, Byte, Comment, Instruction, CData, Empty, Element, content_text, start_text, empty_text, end_text, Document, mark}
use Rattle.landxml_read.specs.Elements.{Found, below, elements, empty_found, whole_found}
use Rattle.landxml_read.specs.Faults.{has_text, read_name, value_of, document_elements}
use Rattle.landxml_read.specs.declared.raw.RawSurface.{RawSurface}
use Rattle.landxml_read.specs.Lists.{surface_of, surfaces_of, unit_in, unit_of, first_or_meter}
use Rattle.landxml_read.specs.Events.{Closed, closing, Event, no_word, word_after, ended_by, ampersands, read, events, document_events}
use Rattle.landxml_read.specs.Gather.{bare, nothing, first_unit, opened, closed, gather, gathered_of, unit_or_meter}
use Rattle.landxml_read.specs.Tokens.{pushed}
use Rattle.landxml_read.proofs.ReadValues.{read_values}
use Rattle.landxml_read.proofs.Nesting.{fits, fits_below, surface_below, holds_surfaces, fits_outside, outside_below, no_text_outside, nothing_made, filter_map_more}
use Rattle.landxml_read.proofs.Places.{end_of, IsPart}
use Rattle.landxml_read.proofs.Gathering.{gather_more, quotes_pass, value_in, between}
use Rattle.landxml_read.proofs.Effects.{added, effect_of, of_kind, IsCounted}
use Rattle.landxml_read.proofs.Growing.{grows}

-- the first of a unit and some further ones
abbrev units_after : Option LinearUnit → List LinearUnit → Option LinearUnit
units_after unit [] = unit
units_after unit (x ∷ xs) = units_after (first_unit unit x) xs

units_more : (unit : Option LinearUnit) (xs ys : List LinearUnit) → units_after unit (xs ++ ys) ≡ units_after (units_after unit xs) ys
units_more unit [] ys = refl
units_more unit (x ∷ xs) ys = units_more (first_unit unit x) xs ys

-- with the units and surfaces of some elements
abbrev with_found : Option LinearUnit → List RawSurface → List Found → Gathered
with_found u ss es = between (units_after u (filter_map unit_in es)) (ss ++ filter_map surface_of es)

found_more : (u : Option LinearUnit) (ss : List RawSurface) (es fs : List Found) → with_found (units_after u (filter_map unit_in es)) (ss ++ filter_map surface_of es) fs ≡ with_found u ss (es ++ fs)
found_more u ss es fs =
    let a = sym (units_more u (filter_map unit_in es) (filter_map unit_in fs)) ∙ ap (units_after u) (sym (filter_map_more unit_in es fs)) in
    let b = append_assoc ss (filter_map surface_of es) (filter_map surface_of fs) ∙ ap (λ xs. ss ++ xs) (sym (filter_map_more surface_of es fs)) in
    λ i. between (a i) (b i)

-- what content shows gathers what its elements are
abbrev Finds : Kind → ℕ → ℕ → Content → Type 0
Finds k depth at x =
    (u : Option LinearUnit) (ss : List RawSurface) → holds_surfaces k ≡ true → gather (between u ss) (events k depth at no_word x) ≡ with_found u ss (elements k depth at x)

-- no element in a surface is a surface or has the unit
none_in_surface : (e : Found) → fits false e.kind ≡ true → (surface_of e ≡ None) × (unit_in e ≡ None)
none_in_surface e h = by e.kind h
  where
    by : (k : Kind) → fits false k ≡ true → (surface_of (of_kind e k) ≡ None) × (unit_in (of_kind e k) ≡ None)
    by Outside h = cc
    by Root h = cc
    by Units h = cc
    by UnitOf h = cc
    by Surfaces h = cc
    by Surface h = cc
    by SourceData h = (refl, refl)
    by Boundaries h = (refl, refl)
    by Boundary h = (refl, refl)
    by Breaklines h = (refl, refl)
    by Breakline h = (refl, refl)
    by DataPoints h = (refl, refl)
    by Triples h = (refl, refl)
    by Pairs h = (refl, refl)
    by Definition h = (refl, refl)
    by Points h = (refl, refl)
    by Point h = (refl, refl)
    by Faces h = (refl, refl)
    by Face h = (refl, refl)
    by Skipped h = (refl, refl)

-- the elements of an element of a kind
abbrev within : Kind → Found → List Found
within k e = elements k e.depth (e.tag_end + 1) e.inside

-- after the tag of an element and what stands in it
abbrev shown : Kind → Found → Option LinearUnit → List RawSurface → Gathered
shown k e u ss = gather (opened k e.at (unwrap_or (value_of (of_kind e k)) []) (between u ss)) (events k e.depth (e.tag_end + 1) no_word e.inside)

surface_shown : (e : Found) (u : Option LinearUnit) (ss : List RawSurface) → closed Surface (shown Surface e u ss) ≡ with_found u ss (of_kind e Surface ∷ within Surface e)
surface_shown e u ss =
    let own = of_kind e Surface in
    let es = within Surface e in
    let name = unwrap_or (value_of own) [] in
    let s : RawSurface = bare e.at name in
    let part : IsPart own (e.tag_end + 1) (end_of (e.tag_end + 1) e.inside) es [] [] = record { is = sym (append-nil es); early = λ offset h. refl; late = λ offset h. refl } in
    let counted : IsCounted [] s = record { triples = refl; pairs = refl } in
    let no_units = nothing_made unit_in (fits false) surface_below (λ found h. (none_in_surface found h).1) Surface (λ n. fits_below false Surface n refl) e.depth (e.tag_end + 1) e.inside in
    let no_surfaces = nothing_made surface_of (fits false) surface_below (λ found h. (none_in_surface found h).0) Surface (λ n. fits_below false Surface n refl) e.depth (e.tag_end + 1) e.inside in
    let a = sym (ap (units_after u) no_units) in
    let b = sym (ap (λ xs. ss ++ added (effect_of own es) s ∷ xs) no_surfaces) in
    ap (closed Surface) (grows own u ss false Surface e.depth (e.tag_end + 1) e.inside [] [] s None refl part (λ z. refl) counted)
    ∙ (λ i. between (a i) (b i))

-- an element of a kind
element_shown : (k : Kind) (e : Found) (u : Option LinearUnit) (ss : List RawSurface) → fits_outside k ≡ true → Finds k e.depth (e.tag_end + 1) e.inside → closed k (shown k e u ss) ≡ with_found u ss (of_kind e k ∷ within k e)
element_shown Outside e u ss f again = cc
element_shown Root e u ss f again = again u ss refl
element_shown Units e u ss f again = again u ss refl
element_shown UnitOf e u ss f again = again _ ss refl
element_shown Surfaces e u ss f again = again u ss refl
element_shown Surface e u ss f again = surface_shown e u ss
element_shown SourceData e u ss f again = cc
element_shown Boundaries e u ss f again = cc
element_shown Boundary e u ss f again = cc
element_shown Breaklines e u ss f again = cc
element_shown Breakline e u ss f again = cc
element_shown DataPoints e u ss f again = cc
element_shown Triples e u ss f again = cc
element_shown Pairs e u ss f again = cc
element_shown Definition e u ss f again = cc
element_shown Points e u ss f again = cc
element_shown Point e u ss f again = cc
element_shown Faces e u ss f again = cc
element_shown Face e u ss f again = cc
element_shown Skipped e u ss f again = again u ss refl

nothing_found : (k : Kind) (depth at : ℕ) → Finds k depth at Nothing
nothing_found k depth at u ss h = let a = sym (append-nil ss) in λ i. between u (a i)

finds : (k : Kind) (depth at : ℕ) (x : Content) → Finds k depth at x
finds k depth at Nothing u ss h = nothing_found k depth at u ss h
finds k depth at (Byte b after) u ss h =
    ap (λ t. gather (between u ss) ((read k at (ended_by t b no_word) ++ ampersands t at b) ++ events k depth (at + 1) (word_after t at b no_word) after)) (no_text_outside k h)
    ∙ finds k depth (at + 1) after u ss h
finds k depth at (Comment bytes after) u ss h = finds k depth (at + (length bytes + 7)) after u ss h
finds k depth at (Instruction bytes after) u ss h = finds k depth (at + (length bytes + 4)) after u ss h
finds k depth at (CData bytes after) u ss h =
    let m = at + (length bytes + 12) in quotes_pass (has_text k) at (at + 8) (events k depth m no_word after) (between u ss) ∙ finds k depth m after u ss h
finds k depth at (Empty tag after) u ss h =
    let m = at + length (empty_text tag) in
    let own = below k tag.name in
    let e = empty_found own (depth + 1) at tag in
    let rest = events k depth m no_word after in
    let value = ap (λ o. unwrap_or o []) (read_values (read_name own) tag.attributes).first in
    ap (λ v. gather (closed own (opened own at v (between u ss))) rest) value
    ∙ ap (λ g. gather g rest) (element_shown own e u ss (outside_below k tag.name h) (nothing_found own (depth + 1) (e.tag_end + 1)))
    ∙ finds k depth m after (units_after u (filter_map unit_in (e ∷ []))) (ss ++ filter_map surface_of (e ∷ [])) h
    ∙ found_more u ss (e ∷ []) (elements k depth m after)
finds k depth at (Element tag inside end after) u ss h =
    let m = at + length (start_text tag) in
    let there = m + length (content_text inside) + length (end_text end) in
    let own = below k tag.name in
    let e = whole_found own (depth + 1) at tag inside end in
    let es = e ∷ elements own (depth + 1) m inside in
    let rest = events k depth there no_word after in
    let v = value_in k depth at tag (m - 1) in
    let value = ap (λ o. unwrap_or o []) (read_values (read_name own) tag.attributes).first in
    let p : e.tag_end + 1 ≡ m = omega arith in
    gather_more (opened own at v (between u ss)) (events own (depth + 1) m no_word inside) (Closed (closing k at tag inside end) ∷ rest)
    ∙ ap (λ z. gather (closed own (gather (opened own at v (between u ss)) (events own (depth + 1) z no_word inside))) rest) (sym p)
    ∙ ap (λ z. gather (closed own (gather (opened own at z (between u ss)) (events own (depth + 1) (e.tag_end + 1) no_word inside))) rest) value
    ∙ ap (λ g. gather g rest) (
    element_shown own e u ss (outside_below k tag.name h) (finds own (depth + 1) (e.tag_end + 1) inside)
    ∙ ap (λ z. with_found u ss (e ∷ elements own (depth + 1) z inside)) p
    )
    ∙ finds k depth there after (units_after u (filter_map unit_in es)) (ss ++ filter_map surface_of es) h
    ∙ found_more u ss es (elements k depth there after)

first_is : (units : List LinearUnit) → unit_or_meter (units_after None units) ≡ first_or_meter units
first_is [] = refl
first_is (x ∷ xs) = ap unit_or_meter (stays xs)
  where
    stays : (ys : List LinearUnit) → units_after (Some x) ys ≡ Some x
    stays [] = refl
    stays (y ∷ ys) = stays ys

-- what was gathered of a document at its end: nothing is open
pub document_gathered : (d : Document) → gather nothing (document_events d) ≡ with_found None [] (document_elements d)
document_gathered d = finds Outside 0 (length (mark d)) d.body None [] refl

-- what a document's events gather has its unit
pub unit_gathered : (d : Document) → unit_or_meter (gather nothing (document_events d)).unit ≡ unit_of d
unit_gathered d = ap (λ g. unit_or_meter g.unit) (document_gathered d) ∙ first_is (filter_map unit_in (document_elements d))

-- what a document's events gather has its surfaces
pub surfaces_gathered : (d : Document) → (gather nothing (document_events d)).surfaces ≡ surfaces_of d
surfaces_gathered d = ap (λ g. g.surfaces) (document_gathered d)

pushed_gathered : (es told : List Event) → gathered_of (pushed es told) ≡ gather (gathered_of told) es
pushed_gathered [] told = refl
pushed_gathered (e ∷ es) told = pushed_gathered es (e ∷ told)

-- what is gathered of all that a document showed has its unit
pub unit_told : (d : Document) → unit_or_meter (gathered_of (pushed (document_events d) [])).unit ≡ unit_of d
unit_told d = ap (λ g. unit_or_meter g.unit) (pushed_gathered (document_events d) []) ∙ unit_gathered d

-- and its surfaces
pub surfaces_told : (d : Document) → (gathered_of (pushed (document_events d) [])).surfaces ≡ surfaces_of d
surfaces_told d = ap (λ g. g.surfaces) (pushed_gathered (document_events d) []) ∙ surfaces_gathered d
