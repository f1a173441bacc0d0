-- A coordinate on the way from one to another lies between them.
use Rattle.std.proofs.Common.{ℕ, ◌+◌, ◌≤◌, arith}
use Rattle.std.specs.Prelude.{ℤ, pos, neg_ℤ, ◌+ℤ◌, ◌-ℤ◌, ◌*ℤ◌, ◌<ℤ◌, ◌≤ℤ◌, unsigned_abs}
use Rattle.std.proofs.lemmas.Int.{ints, by_lt_z}
use Rattle.ground_model.specs.Rounding.{rounded_half_up}
use Rattle.ground_model.proofs.Ring.{mul-neg}
use Rattle.measures.proofs.Means.{mul-le, mul-nonneg, rounded-le, rounded-ge}

-- a part of a gap, rounded half up, has the gap's sign, and is no larger
forth : (gap rise whole : ℤ) → pos 0 ≤ℤ gap → pos 0 ≤ℤ rise → rise ≤ℤ whole → pos 0 <ℤ whole → (pos 0 ≤ℤ rounded_half_up (gap *ℤ rise) whole) × (rounded_half_up (gap *ℤ rise) whole ≤ℤ gap)
forth gap rise whole g r within some = (
  rounded-ge (pos 0) (gap *ℤ rise) whole some (omega (arith, ints, mul-nonneg gap rise g r)),
  rounded-le gap (gap *ℤ rise) whole some (omega (arith, ints, mul-le rise whole gap within g)),
)

back : (gap rise whole : ℤ) → gap <ℤ pos 0 → pos 0 ≤ℤ rise → rise ≤ℤ whole → pos 0 <ℤ whole → (gap ≤ℤ rounded_half_up (gap *ℤ rise) whole) × (rounded_half_up (gap *ℤ rise) whole ≤ℤ pos 0)
back gap rise whole g r within some =
    let away : pos 0 ≤ℤ neg_ℤ gap = omega (arith, ints, g) in (
      rounded-ge gap (gap *ℤ rise) whole some (omega (arith, ints, mul-le rise whole (neg_ℤ gap) within away, mul-neg rise gap, mul-neg whole gap)),
      rounded-le (pos 0) (gap *ℤ rise) whole some (omega (arith, ints, mul-nonneg rise (neg_ℤ gap) r away, mul-neg rise gap)),
    )

pub along_size : (m : ℕ) (from to rise whole : ℤ) → unsigned_abs from ≤ m → unsigned_abs to ≤ m → pos 0 ≤ℤ rise → rise ≤ℤ whole → pos 0 <ℤ whole
    → unsigned_abs (from +ℤ rounded_half_up ((to -ℤ from) *ℤ rise) whole) ≤ m
along_size m from to rise whole f t r within some = by_lt_z (to -ℤ from) (pos 0)
    (λ less. left (rounded_half_up ((to -ℤ from) *ℤ rise) whole) (back (to -ℤ from) rise whole less r within some))
    (λ more. right (rounded_half_up ((to -ℤ from) *ℤ rise) whole) (forth (to -ℤ from) rise whole more r within some))
  where
    left : (x : ℤ) → ((to -ℤ from) ≤ℤ x) × (x ≤ℤ pos 0) → unsigned_abs (from +ℤ x) ≤ m
    left x h = omega (arith, ints, f, t, h.0, h.1)

    right : (x : ℤ) → (pos 0 ≤ℤ x) × (x ≤ℤ (to -ℤ from)) → unsigned_abs (from +ℤ x) ≤ m
    right x h = omega (arith, ints, f, t, h.0, h.1)

-- so the part itself is no larger than twice the limit
pub part_size : (m : ℕ) (from to rise whole : ℤ) → unsigned_abs from ≤ m → unsigned_abs to ≤ m → pos 0 ≤ℤ rise → rise ≤ℤ whole → pos 0 <ℤ whole
    → unsigned_abs (rounded_half_up ((to -ℤ from) *ℤ rise) whole) ≤ m + m
part_size m from to rise whole f t r within some =
    let all = along_size m from to rise whole f t r within some in
    bound (rounded_half_up ((to -ℤ from) *ℤ rise) whole) all
  where
    bound : (x : ℤ) → unsigned_abs (from +ℤ x) ≤ m → unsigned_abs x ≤ m + m
    bound x h = omega (arith, ints, f, h)
