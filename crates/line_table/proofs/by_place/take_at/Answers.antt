use Rattle.std.proofs.Common.{[], sym, ap, ◌∙◌}
use Rattle.std.specs.Prelude.{unwrap_or}
use Rattle.line_table.proofs.Places.{take-last, take-some}
use Rattle.line_table.proofs.by_place.take_at.Goals as goal

pub returns-in_ok-set-in-Some-others : goal.returns-in_ok-set-in-Some-others
returns-in_ok-set-in-Some-others c =
    take-some c.args.place c.key_of-key.ensures.within c.args.index.now c.key_of-key.result c.args.number c.key_of-key.ensures.key c.in-Some.numbers.now c.in-Some-others.rest c.set.new.self c.in-Some.ensures.value
    (ap (λ o. unwrap_or o []) (sym c.in-Some-others.is) ∙ c.in_ok-others-in-Some.ensures) c.in_ok-set-in-Some-others.ensures.ok

pub returns-in_ok-remove-in-None-others : goal.returns-in_ok-remove-in-None-others
returns-in_ok-remove-in-None-others c =
    take-last c.args.place c.key_of-key.ensures.within c.args.index.now c.key_of-key.result c.args.number c.key_of-key.ensures.key c.in-Some.numbers.now c.remove.new.self c.in-Some.ensures.value
    (ap (λ o. unwrap_or o []) (sym c.in-None-others.is) ∙ c.in_ok-others-in-Some.ensures) c.in_ok-remove-in-None-others.ensures.ok
