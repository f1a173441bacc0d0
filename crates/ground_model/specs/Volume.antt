-- What lies above a datum and below it, in sixths of a cubic thousandth.
use Rattle.std.specs.Prelude.{ℤ, pos, neg_ℤ, ◌+ℤ◌, ◌-ℤ◌, ◌*ℤ◌, int_lt, Bool, not, List, [], ◌∷◌, fold, count_by, if◌then◌else◌, nat_eq}
use Rattle.std.specs.List.{list_any}
use Rattle.ground_model.specs.declared.volume.Volume.{Volume}
use Rattle.ground_model.specs.declared.slope.Slope.{Slope}
use Rattle.ground_model.specs.Place.{Coords, is_before}
use Rattle.ground_model.specs.Side.{side}
use Rattle.ground_model.specs.Rounding.{ceil_div}
use Rattle.ground_model.specs.Contour.{Post}

-- the part above, where one corner at h1 is above, h2 being the height of the lesser place of the other two
abbrev pub cap : ℤ → ℤ → ℤ → ℤ → ℤ
cap area h1 h2 h3 = h1 *ℤ ceil_div (ceil_div (area *ℤ h1) (h1 -ℤ h2) *ℤ h1) (h1 -ℤ h3)

-- the part above, where the corner at h1 is above, by it and the other two
abbrev pub cap_over : ℤ → ℤ → Post → Post → ℤ
cap_over area h1 y z = if is_before y.at z.at then cap area h1 y.level z.level else cap area h1 z.level y.level

-- whether the corner is above the datum
abbrev pub is_above : Post → Bool
is_above x = int_lt (pos 0) x.level

-- whether the corner is below the datum
abbrev pub is_below : Post → Bool
is_below x = int_lt x.level (pos 0)

-- the part above, where just one corner is above
abbrev pub part_above : ℤ → Post → Post → Post → ℤ
part_above area x y z =
    if is_above x then cap_over area x.level y z
    else if is_above y then cap_over area y.level z x
    else cap_over area z.level x y

-- the corner as far on the other side of the datum
abbrev pub turned_over : Post → Post
turned_over x = record { at = x.at; level = neg_ℤ x.level }

-- the volume of a facet by the heights of its corners over the datum: none below, none above, one above, and two above with one below
unfoldable pub facet_volume : ℤ → Post → Post → Post → Volume
facet_volume area x y z =
    let net = area *ℤ (x.level +ℤ y.level +ℤ z.level) in
    let corners = x ∷ y ∷ z ∷ [] in
    if not (list_any is_below corners) then record { cut = net; fill = pos 0; net = net }
    else if not (list_any is_above corners) then record { cut = pos 0; fill = neg_ℤ net; net = net }
    else if nat_eq (count_by is_above corners) 1
    then (let cut = part_above area x y z in record { cut = cut; fill = cut -ℤ net; net = net })
    else (let fill = part_above area (turned_over x) (turned_over y) (turned_over z) in record { cut = fill +ℤ net; fill = fill; net = net })

-- the place with its height over the datum
abbrev pub over : ℤ → Coords → ℤ → Post
over datum p z = record { at = p; level = z -ℤ datum }

-- the volume of one facet
abbrev pub volume_on : ℤ → Slope → Volume
volume_on datum s = facet_volume (side s.facet.a s.facet.b s.facet.c) (over datum s.facet.a s.za) (over datum s.facet.b s.zb) (over datum s.facet.c s.zc)

-- the sum of two volumes
abbrev pub plus : Volume → Volume → Volume
plus v w = record { cut = v.cut +ℤ w.cut; fill = v.fill +ℤ w.fill; net = v.net +ℤ w.net }

-- the volume of no facet
abbrev pub no_volume : Volume
no_volume = record { cut = pos 0; fill = pos 0; net = pos 0 }

-- the sum over the kept facets
unfoldable pub volume_over : List Slope → ℤ → Volume
volume_over slopes datum = fold (λ sum s. plus sum (volume_on datum s)) no_volume slopes
