-- The law that locally Delaunay implies walled, from the walk.
use Rattle.std.proofs.Common.{◌≡◌, sym, ap, subst, ◌∙◌, arith, true}
use Rattle.std.specs.Prelude.{ℤ, pos, ◌<ℤ◌, int_lt, Some}
use Rattle.std.proofs.lemmas.Int.{ints}
use Rattle.ground_model.specs.declared.corner.Corner.{Corner}
use Rattle.ground_model.specs.declared.corner.Corner.TheVariants.{At}
use Rattle.ground_model.specs.Place.{Coords, is_same}
use Rattle.ground_model.specs.Line.{is_point}
use Rattle.ground_model.specs.Corner.{corner_at, corner_side}
use Rattle.ground_model.proofs.Ties.{same_of_is_same}
use Rattle.predicates.specs.Net.{Net}
use Rattle.predicates.specs.Sheet.{IsSheet, IsLocallyDelaunay}
use Rattle.predicates.proofs.Heights.{deep}
use Rattle.predicates.proofs.InsideDepths.{inside-deep}
use Rattle.predicates.proofs.FarTriangle.{listed-place}
use Rattle.predicates.proofs.HasTriangles.{any-found, has-owner}
use Rattle.cdt_law.specs.Laws.{LocalLaw}
use Rattle.cdt_law.proofs.Walk.{Around}
use Rattle.cdt_law.proofs.WalkSteps.{walled}
use Rattle.cdt_law.proofs.SheetTests.{sheet-clear, sheet-local}
use Rattle.cdt_law.proofs.WallTests.{walled-from}

pub beyond-is : (s : ℤ) → int_lt s (pos 0) ≡ true → s <ℤ pos 0
beyond-is s e = omega (arith, ints, sym e)

-- a sheet round one of its points
abbrev pub around : (net : Net) → IsSheet net → IsLocallyDelaunay net → (p : Coords) → is_point net.points p ≡ true → Around
around net sheet local p e =
    let found = any-found (is_same p) net.points e in
    let same : p ≡ found.item = same_of_is_same p found.item found.passes in
    record {
      net = net;
      sheet = sheet;
      local = sheet-local net local;
      p = p;
      p_place = listed-place net.points sheet.places p e;
      clear = sheet-clear net sheet found.index p (found.at ∙ ap Some (sym same));
    }

pub local_law : LocalLaw
local_law net sheet local a b c p at_abc at_p inside beyond =
    let one = has-owner net a b c at_abc in
    let deep_p : pos 0 <ℤ deep a b c (At p) = inside-deep a b c (At p) inside in
    let w = walled (around net sheet local p at_p) a b one.owner (subst (λ (k : Corner). pos 0 <ℤ deep a b k (At p)) (sym one.third) deep_p) (beyond-is (corner_side a b (At p)) beyond) in
    record { u = w.u; v = w.v; piece = w.piece; walls = walled-from w.u w.v (corner_at a) (corner_at b) p w.at_a w.at_b }
