use Rattle.std.proofs.Common.{◌∙◌}
use Rattle.terrain_main.proofs.Wholes.{read, unread}
use Rattle.terrain_main.proofs.words.whole_number.Goals as goal

pub returns-in-Ok : goal.returns-in-Ok
returns-in-Ok c = c.taken.ensures ∙ read c.args.most c.in-Ok.number c.args.word.now c.ranges.most.fits c.in-Ok.ensures.value.0

pub returns-in-Err : goal.returns-in-Err
returns-in-Err c = unread _ c.args.most c.args.word.now c.in-Err.field-0 c.ranges.most.fits c.in-Err.ensures.value.0
