use Rattle.std.proofs.Common.{sym, subst, inl}
use Rattle.cdt_law.proofs.FacetLaws.{net_law}
use Rattle.mesh.specs.FlipRuns.{slots_named}
use Rattle.mesh.specs.Sheets.{net_in}
use Rattle.mesh.proofs.DelaunayNets.{delaunay_legal}
use Rattle.mesh.proofs.NetOfMesh.{sheet_in}
use Rattle.point_edit.specs.Results.{NamesWritten}
use Rattle.point_edit.proofs.PutIn.{put_in}
use Rattle.point_edit.proofs.Written.{written_on, flips_written, placed_written}
use Rattle.point_edit.proofs.insert.insert_point.Goals as goal

pub legalize-requires-clause-suspects : goal.legalize-requires-clause-suspects
legalize-requires-clause-suspects c = c.in_ok-split_at.ensures.suspects (λ s k n x. inl (delaunay_legal c.args.mesh.now.slots c.requires.sheet c.requires.delaunay s k n x))

pub returns-clause-content : goal.returns-clause-content
returns-clause-content c =
    put_in c.args.mesh.now c.split_at.new.mesh c.legalize.new.self c.args.spot c.args.place c.split_at.new.script c.legalize.new.script c.requires.sheet c.in_ok-split_at.ensures.sheet c.e-easting.ensures.place c.requires.spot
    c.in_ok-split_at.ensures.placed c.in_ok-legalize.ensures.flips

pub returns-clause-facets : goal.returns-clause-facets
returns-clause-facets c = net_law (net_in c.legalize.new.self.slots) (sheet_in c.legalize.new.self.slots c.in_ok-legalize.ensures.sheet) c.in_ok-legalize.ensures.delaunay

pub returns-clause-script : goal.returns-clause-script
returns-clause-script c =
    let run = c.in_ok-legalize.ensures.flips in
    subst (λ xs. NamesWritten c.args.mesh.now.slots c.legalize.new.self.slots xs) (sym run.named)
    (written_on c.args.mesh.now.slots c.split_at.new.mesh.slots c.legalize.new.self.slots c.split_at.new.script (slots_named run.flips)
    (placed_written c.args.mesh.now.slots c.split_at.new.mesh.slots c.args.spot c.args.place c.split_at.new.script c.in_ok-split_at.ensures.placed)
    (flips_written run.flips c.split_at.new.mesh.slots c.legalize.new.self.slots run.are))
