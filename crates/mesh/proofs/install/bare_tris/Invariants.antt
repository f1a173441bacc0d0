use Rattle.std.proofs.Common.{◌≡◌, map, take}
use Rattle.mesh.specs.Installs.{bare}
use Rattle.mesh.proofs.install.bare_tris.Given as goal

abbrev pub invariant-loop-tri : goal.invariant-loop-tri
invariant-loop-tri l = l.news.items ≡ map bare (take l.tri-index l.patch)
