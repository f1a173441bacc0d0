-- What is wrong with a surface, and the fault with the least offset.
use Rattle.std.specs.Prelude.{ℕ, ◌^◌, ◌-ℤ◌, unsigned_abs, Bool, nat_lt, not, ◌&&◌, List, [], ◌∷◌, ◌++◌, Option, None, Some, if◌then◌else◌}
use Rattle.std.specs.List.{list_any, flat_map}
use Rattle.ground_num.specs.declared.head.Origin.{Origin}
use Rattle.landxml_read.specs.declared.fault.DocFault.{DocFault}
use Rattle.landxml_read.specs.declared.fault.DocCause.{DocCause}
use Rattle.landxml_read.specs.declared.fault.DocCause.TheVariants as cause
use Rattle.landxml_read.specs.declared.raw.Triple.{Triple}
use Rattle.landxml_read.specs.declared.raw.Pair2.{Pair2}
use Rattle.landxml_read.specs.declared.raw.RawId.{RawId}
use Rattle.landxml_read.specs.declared.raw.RawFace.{RawFace}
use Rattle.landxml_read.specs.declared.raw.RawSurface.{RawSurface}
use Rattle.landxml_surface.specs.declared.origin.OriginRule.{OriginRule}
use Rattle.landxml_surface.specs.declared.spot.Spot.{Spot}
use Rattle.landxml_surface.specs.Origins.{origin_by}
use Rattle.landxml_surface.specs.Heights.{is_same_spot, spot_of}
use Rattle.landxml_surface.specs.Ids.{is_id}

-- the fault, where the test holds
abbrev pub when : Bool → ℕ → DocCause → List DocFault
when test at c = if test then record { at = at; cause = c } ∷ [] else []

-- a number outside its limit, measured from the origin
abbrev pub range_faults : Origin → Triple → List DocFault
range_faults origin t =
    when (nat_lt (2 ^ 29) (unsigned_abs (t.n.0 -ℤ origin.n.0))) t.n_at cause.Range
    ++ (when (nat_lt (2 ^ 29) (unsigned_abs (t.e.0 -ℤ origin.e.0))) t.e_at cause.Range ++ when (nat_lt (2 ^ 26) (unsigned_abs t.z.0)) t.z_at cause.Range)

-- a pair that is the place of no triple
abbrev pub pair_spot : Pair2 → Spot
pair_spot p = record { n = p.n.0; e = p.e.0 }

abbrev pub pair_faults : List Triple → Pair2 → List DocFault
pair_faults ts p = when (not (list_any (λ t. is_same_spot (pair_spot p) (spot_of t)) ts)) p.at cause.NoHeight

-- an id that an earlier one is
abbrev pub id_faults : List RawId → List RawId → List DocFault
id_faults earlier [] = []
id_faults earlier (i ∷ is) = when (is_id earlier i.id) i.at cause.Id ++ id_faults (earlier ++ i ∷ []) is

-- a face that names an id which no point has
abbrev pub face_faults : List RawId → RawFace → List DocFault
face_faults ids f = when (not (is_id ids f.a && is_id ids f.b && is_id ids f.c)) f.at cause.Face

unfoldable pub surface_faults : OriginRule → RawSurface → List DocFault
surface_faults rule s =
    flat_map (range_faults (origin_by rule s.triples)) s.triples
    ++ (flat_map (pair_faults s.triples) s.pairs ++ (id_faults [] s.ids ++ flat_map (face_faults s.ids) s.faces))

-- the one with the lesser offset, the first where they are equal
abbrev pub earlier_fault : Option DocFault → Option DocFault → Option DocFault
earlier_fault None g = g
earlier_fault (Some f) None = Some f
earlier_fault (Some f) (Some g) = if nat_lt g.at f.at then Some g else Some f

-- the fault with the least offset
abbrev pub least_of : List DocFault → Option DocFault
least_of [] = None
least_of (f ∷ fs) = earlier_fault (Some f) (least_of fs)
