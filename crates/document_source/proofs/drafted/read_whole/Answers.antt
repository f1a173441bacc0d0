use Rattle.std.proofs.Common.{sym, subst}
use Rattle.std.specs.declared.result.Result.TheVariants.{Err}
use Rattle.document_source.specs.declared.fault.SourceFault.{SourceFault}
use Rattle.document_source.specs.Feeding.{ReadsWhole}
use Rattle.document_source.proofs.Drafting.{read_of, fault_at_end}
use Rattle.document_source.proofs.drafted.read_whole.Goals as goal

pub returns-in-Ok-clause-reads : goal.returns-in-Ok-clause-reads
returns-in-Ok-clause-reads g c = read_of _ _ c.feed_all.new.reader c.in_ok-length.length c.in-Ok.doc c.in_ok-length.ensures.feeds c.in-Ok.ensures.whole c.in-Ok.ensures.lawful

pub returns-in-Err-clause-reads : goal.returns-in-Err-clause-reads
returns-in-Err-clause-reads g c =
    let P : SourceFault → Type 0 = λ f. ReadsWhole (g.S.Source.left c.args.source.now) (g.S.Source.left c.feed_all.new.source) (Err f) in
    subst P (sym c.of.ensures) (fault_at_end _ _ c.feed_all.new.reader c.in_ok-length.length c.in-Err.fault c.in_ok-length.ensures.feeds c.in-Err.ensures.fault)
