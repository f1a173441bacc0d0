-- The cuts of a contour.
use Rattle.std.specs.Prelude.{ℤ, ◌+ℤ◌, ◌-ℤ◌, ◌*ℤ◌, int_lt, Bool, true, false, List, Option, Some, None, option_map, if◌then◌else◌}
use Rattle.std.specs.List.{filter_map}
use Rattle.ground_model.specs.declared.facet.Facet.{Facet}
use Rattle.ground_model.specs.declared.cut.Cut.{Cut}
use Rattle.ground_model.specs.declared.slope.Slope.{Slope}
use Rattle.ground_model.specs.Place.{Coords}
use Rattle.ground_model.specs.Rounding.{rounded_half_up}

-- a corner and its level
pub record Post : Type 0 where
  pub at : Coords
  pub level : ℤ

-- where the contour at z cuts the edge from a low corner to a high one: the part added is rounded half up on each axis
abbrev pub cut_on : ℤ → Post → Post → Coords
cut_on z low high = record {
  e = low.at.e +ℤ rounded_half_up ((high.at.e -ℤ low.at.e) *ℤ (z -ℤ low.level)) (high.level -ℤ low.level);
  n = low.at.n +ℤ rounded_half_up ((high.at.n -ℤ low.at.n) *ℤ (z -ℤ low.level)) (high.level -ℤ low.level);
}

-- a facet whose corner x is alone low, or alone high, with y and z the next ones counterclockwise
pub record Span : Type 0 where
  pub facet : Facet
  pub is_low : Bool
  pub x : Post
  pub y : Post
  pub z : Post

-- the cut runs from the edge xy to the edge zx where x is high, and from zx to xy where x is low
abbrev pub cut_on_span : ℤ → Span → Cut
cut_on_span z s = if s.is_low
    then record { from = cut_on z s.x s.z; to = cut_on z s.x s.y }
    else record { from = cut_on z s.y s.x; to = cut_on z s.z s.x }

-- the span of the facet, by which corners are low
abbrev pub span_by : Facet → Post → Post → Post → Bool → Bool → Bool → Option Span
span_by f a b c true true true = None
span_by f a b c false false false = None
span_by f a b c true false false = Some (record { facet = f; is_low = true; x = a; y = b; z = c })
span_by f a b c false true true = Some (record { facet = f; is_low = false; x = a; y = b; z = c })
span_by f a b c false true false = Some (record { facet = f; is_low = true; x = b; y = c; z = a })
span_by f a b c true false true = Some (record { facet = f; is_low = false; x = b; y = c; z = a })
span_by f a b c false false true = Some (record { facet = f; is_low = true; x = c; y = a; z = b })
span_by f a b c true true false = Some (record { facet = f; is_low = false; x = c; y = a; z = b })

-- a corner below z is low, any other is high; there is none where all corners are low or all are high
abbrev pub span_of : ℤ → Slope → Option Span
span_of z s = span_by s.facet
    (record { at = s.facet.a; level = s.za }) (record { at = s.facet.b; level = s.zb }) (record { at = s.facet.c; level = s.zc })
    (int_lt s.za z) (int_lt s.zb z) (int_lt s.zc z)

-- the cut of one facet
abbrev pub cut_of : ℤ → Slope → Option Cut
cut_of z s = option_map (cut_on_span z) (span_of z s)

-- the cuts, in facet order
unfoldable pub contour_at : List Slope → ℤ → List Cut
contour_at slopes z = filter_map (cut_of z) slopes
