use Rattle.locate.proofs.scan.look_at.Goals as goal

pub part_of-requires : goal.part_of-requires
part_of-requires c = record { turned = c.requires.sheet.turned c.args.slot c.args.t.now c.requires.there }
