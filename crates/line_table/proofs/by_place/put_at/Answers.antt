use Rattle.std.proofs.Common.{sym, ◌∙◌}
use Rattle.line_table.proofs.Places.{put-first, put-more}
use Rattle.line_table.proofs.by_place.put_at.Goals as goal

pub returns-in_ok-set-in-Some : goal.returns-in_ok-set-in-Some
returns-in_ok-set-in-Some c =
    put-more c.args.place c.key_of-key.ensures.within c.args.index.now c.key_of-key.result c.args.number c.key_of-key.ensures.key c.in-Some.numbers.now c.in_ok-more-in-Some.more c.set.new.self c.in-Some.ensures.value (sym c.has.ensures ∙ c.if-has.false) c.in_ok-more-in-Some.ensures c.in_ok-set-in-Some.ensures.ok

pub returns-in_ok-set-in-None : goal.returns-in_ok-set-in-None
returns-in_ok-set-in-None c =
    put-first c.args.place c.key_of-key.ensures.within c.args.index.now c.key_of-key.result c.args.number c.key_of-key.ensures.key c.one.result c.set-in-None.new.self c.in-None.ensures.value c.one.ensures c.in_ok-set-in-None.ensures.ok
