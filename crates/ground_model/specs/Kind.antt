-- The kinds of lines.
use Rattle.std.specs.Prelude.{ℕ, Bool, true, false, if◌then◌else◌}
use Rattle.ground_model.specs.declared.line.LineKind.{LineKind}
use Rattle.ground_model.specs.declared.line.LineKind.TheVariants.{Breakline, Outer, Void, Island}

-- whether the last place is joined to the first
abbrev pub is_ring : LineKind → Bool
is_ring Breakline = false
is_ring Outer = true
is_ring Void = true
is_ring Island = true

-- whether it is an outer ring
abbrev pub is_outer : LineKind → Bool
is_outer Outer = true
is_outer Breakline = false
is_outer Void = false
is_outer Island = false

-- whether it is a void or an island
abbrev pub is_void_or_island : LineKind → Bool
is_void_or_island Void = true
is_void_or_island Island = true
is_void_or_island Breakline = false
is_void_or_island Outer = false

-- whether it is an island
abbrev pub is_island : LineKind → Bool
is_island Island = true
is_island Void = false
is_island Breakline = false
is_island Outer = false

-- how many places a line of the kind has at the least
abbrev pub least_places : LineKind → ℕ
least_places kind = if is_ring kind then 3 else 2
