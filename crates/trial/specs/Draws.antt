-- Numbers drawn from a seed, and the edits that they make.
use Rattle.std.specs.Prelude.{slice_index_or, ℕ, zero, suc, ◌+◌, ◌*◌, ◌/◌, ◌%◌, ◌^◌, pos, List, [], ◌∷◌, length}
use Rattle.ground_model.specs.declared.edit.Edit.{Edit}
use Rattle.ground_model.specs.declared.edit.Edit.TheVariants.{AddPoint, AddLine}
use Rattle.ground_model.specs.declared.line.LineKind.TheVariants.{Breakline}
use Rattle.ground_model.specs.Place.{Coords}

-- the state after a draw from this one: a linear congruence
abbrev pub next_state : ℕ → ℕ
next_state s = (s * 6364136223846793005 + 1442695040888963407) % 2 ^ 64

-- the state after so many draws
unfoldable pub state_after : ℕ → ℕ → ℕ
state_after seed zero = seed
state_after seed (suc k) = next_state (state_after seed k)

-- the number that the k-th draw gives, counted from 1: the upper half of the state after it
abbrev pub draw : ℕ → ℕ → ℕ
draw seed k = state_after seed k / 2 ^ 32

-- the k-th point, counted from 0, of three draws: easting, northing and level
abbrev pub point_edit : ℕ → ℕ → Edit
point_edit seed k = AddPoint
    (record { e = pos (draw seed (3 * k + 1) % 100000); n = pos (draw seed (3 * k + 2) % 100000) })
    (pos (draw seed (3 * k + 3) % 10000))

-- the place that is given where there is none
abbrev pub origin : Coords
origin = record { e = pos 0; n = pos 0 }

-- one of the places, by a draw
abbrev pub picked : List Coords → ℕ → Coords
picked places drawn = slice_index_or places (drawn % length places) origin

-- the k-th breakline, counted from 0, of two draws after so many: each is the index of a point in place order
abbrev pub line_edit : ℕ → ℕ → List Coords → ℕ → Edit
line_edit seed before places k = AddLine Breakline (picked places (draw seed (before + 2 * k + 1)) ∷ picked places (draw seed (before + 2 * k + 2)) ∷ [])
