use Rattle.std.proofs.Common.{◌≡◌, take}
use Rattle.std.specs.Prelude.{filter, map, count_by, not}
use Rattle.landxml_surface.specs.Drafts.{line_of, is_short}
use Rattle.landxml_surface.proofs.line.Lines.of.Given as goal

abbrev pub invariant-loop-line : goal.invariant-loop-line
invariant-loop-line l =
    (l.lines.kept.items ≡ filter (λ d. not (is_short d)) (map (line_of l.origin l.surface) (take l.line-index l.surface.lines)))
    × (l.lines.short ≡ count_by is_short (map (line_of l.origin l.surface) (take l.line-index l.surface.lines)))
