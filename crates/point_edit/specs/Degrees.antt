-- How many triangles a corner has.
use Rattle.std.specs.Prelude.{ℕ, suc, zero, ◌+◌, Bool, ◌||◌, if◌then◌else◌, Option, Some, None, List, length}
use Rattle.ground_model.specs.declared.corner.Corner.{Corner}
use Rattle.ground_model.specs.Corner.{is_same_corner}
use Rattle.tri_pages.specs.declared.tri_slot.TriSlot.{TriSlot}
use Rattle.tri_pages.specs.Slots.{State, triangle_at}
use Rattle.mesh.specs.Net.{first, second, third, corner_at}

-- whether the triangle has the corner
abbrev pub has_corner : TriSlot → Corner → Bool
has_corner t c = is_same_corner (corner_at t first) c || is_same_corner (corner_at t second) c || is_same_corner (corner_at t third) c

-- 1 where a triangle stands there that has the corner, else 0
abbrev pub one_at : Corner → Option TriSlot → ℕ
one_at c None = 0
one_at c (Some t) = if has_corner t c then 1 else 0

-- the sum over the numbers below n
abbrev pub sum_below : (ℕ → ℕ) → ℕ → ℕ
sum_below f zero = 0
sum_below f (suc n) = f n + sum_below f n

-- the number of triangles that have the corner
abbrev pub degree : List State → Corner → ℕ
degree slots c = sum_below (λ i. one_at c (triangle_at slots i)) (length slots)
