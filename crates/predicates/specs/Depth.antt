-- How far what is lifted lies below a plane: places and far corners alike.
use Rattle.std.specs.Prelude.{ℤ, ◌+ℤ◌, ◌-ℤ◌, ◌*ℤ◌}
use Rattle.ground_model.specs.Lifted.{Lifted, side_below}

-- how far p is below the plane of a, b, c, times the side of a, b, c
unfoldable pub depth : Lifted → Lifted → Lifted → Lifted → ℤ
depth a b c p = a.height *ℤ side_below b c p +ℤ b.height *ℤ side_below c a p +ℤ c.height *ℤ side_below a b p -ℤ p.height *ℤ side_below a b c
