use Rattle.std.proofs.Common.{arith}
use Rattle.landxml_read.proofs.Readers.{ended_of, taken_of, read_at_end, lawful_at_end, fault_at_end}
use Rattle.landxml_read.specs.declared.fault.ReadFault.TheVariants.{Doc}
use Rattle.landxml_read.proofs.Answered.{only_memory}
use Rattle.landxml_read.proofs.reader.Reader.finish.Goals as goal

pub returns-in-Some-clause-fault : goal.returns-in-Some-clause-fault
returns-in-Some-clause-fault c seen h = ended_of seen c.args.self.course c.in-Some.fault c.args.self.ended c.in-Some.is h

pub returns-in-Ok-clause-whole : goal.returns-in-Ok-clause-whole
returns-in-Ok-clause-whole c seen h =
    let r = taken_of seen c.args.self.course c.args.self.ended c.in-None.is h in
    let w = c.in-Ok.ensures.whole seen r.read.outline in
    read_at_end seen c.args.self.course c.into_doc.result r w.0 w.1 c.into_doc.ensures.unit c.into_doc.ensures.surfaces

pub returns-in-Ok-clause-lawful : goal.returns-in-Ok-clause-lawful
returns-in-Ok-clause-lawful c seen h =
    let r = taken_of seen c.args.self.course c.args.self.ended c.in-None.is h in
    let w = c.in-Ok.ensures.whole seen r.read.outline in
    let offset = r.read.outline.offset in
    let short = (c.args.self.known c.in-None.is).short in
    lawful_at_end seen c.into_doc.result (read_at_end seen c.args.self.course c.into_doc.result r w.0 w.1 c.into_doc.ensures.unit c.into_doc.ensures.surfaces) (omega (arith, offset, short))

pub returns-in-Err-clause-fault : goal.returns-in-Err-clause-fault
returns-in-Err-clause-fault c seen h =
    let r = taken_of seen c.args.self.course c.args.self.ended c.in-None.is h in
    fault_at_end seen c.args.self.course.standing c.args.self.course.tokens c.in-Err.fault r.read (c.in-Err.ensures.fault seen r.read.outline)

pub returns-in-Some-clause-answered : goal.returns-in-Some-clause-answered
returns-in-Some-clause-answered c seen d h tree = only_memory seen d tree c.in-Some.fault (ended_of seen c.args.self.course c.in-Some.fault c.args.self.ended c.in-Some.is h)

pub returns-in-Err-clause-answered : goal.returns-in-Err-clause-answered
returns-in-Err-clause-answered c seen d h tree =
    let r = taken_of seen c.args.self.course c.args.self.ended c.in-None.is h in
    only_memory seen d tree (Doc c.in-Err.fault) (fault_at_end seen c.args.self.course.standing c.args.self.course.tokens c.in-Err.fault r.read (c.in-Err.ensures.fault seen r.read.outline))
