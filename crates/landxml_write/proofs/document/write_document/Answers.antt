use Rattle.std.proofs.Common.{◌∙◌}
use Rattle.landxml_write.proofs.Written.{whole-text, whole-order, whole-cause, then-nothing}
use Rattle.landxml_write.proofs.document.write_document.Goals as goal

pub returns-clause-text : goal.returns-clause-text
returns-clause-text g c = whole-text _ _ _ c.requires.failed c.requires.held (then-nothing _ _ _ _ c.put_document.ensures.takes c.finish.ensures.flows) c.finish.result c.finish.ensures.held c.finish.ensures.failed

pub returns-clause-order : goal.returns-clause-order
returns-clause-order g c = whole-order _ _ _ c.requires.failed c.requires.held (then-nothing _ _ _ _ c.put_document.ensures.takes c.finish.ensures.flows) c.finish.result c.finish.ensures.held c.finish.ensures.failed

pub returns-clause-cause : goal.returns-clause-cause
returns-clause-cause g c = whole-cause _ _ _ c.requires.failed c.requires.held (then-nothing _ _ _ _ c.put_document.ensures.takes c.finish.ensures.flows) c.finish.result c.finish.ensures.failed
