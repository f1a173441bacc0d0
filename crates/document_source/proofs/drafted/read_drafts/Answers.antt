use Rattle.std.proofs.Common.{sym, subst}
use Rattle.std.specs.declared.result.Result.TheVariants.{Err}
use Rattle.document_source.specs.declared.fault.SourceFault.{SourceFault}
use Rattle.document_source.specs.Reading.{ReadsDrafts}
use Rattle.document_source.proofs.Drafting.{unread, surfaces_fault}
use Rattle.document_source.proofs.Origins.{origins-within}
use Rattle.document_source.proofs.drafted.read_drafts.Goals as goal

pub returns-in-Err-clause-reads : goal.returns-in-Err-clause-reads
returns-in-Err-clause-reads g c = unread _ _ c.args.rule c.in-Err.fault c.in-Err.ensures.reads

pub returns-in-Ok-surfaces-clause-origins : goal.returns-in-Ok-surfaces-clause-origins
returns-in-Ok-surfaces-clause-origins g c =
    let doc = c.in-Ok.read.doc in
    origins-within doc.unit c.args.rule doc.surfaces c.in-Ok-surfaces.drafts c.requires c.in-Ok.ensures.reads.comes.lawful.surfaces c.in-Ok-surfaces.ensures.ok.1
