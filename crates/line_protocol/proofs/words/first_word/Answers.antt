use Rattle.std.proofs.Common.{arith, ◌≡◌, ◌+◌, ◌-◌, length, length-drop, take, drop, ◌∙◌, sym}
use Rattle.std.proofs.lemmas.List.{take_all}
use Rattle.line_protocol.proofs.Splitting.{words_found, words_single}
use Rattle.line_protocol.proofs.words.first_word.Goals as goal

pub returns-in-Some-clause-words : goal.returns-in-Some-clause-words
returns-in-Some-clause-words c =
    let xs = c.args.text.now in
    let at = c.in-Some.at in
    let rest : take (length c.args.text.now - (c.in-Some.at + 1)) (drop (c.in-Some.at + 1) c.args.text.now) ≡ drop (c.in-Some.at + 1) c.args.text.now = take_all _ _ (simp length-drop (omega arith)) in
    rw rest ((words_found c.args.text.now c.in-Some.at (sym c.offset_of_byte.ensures ∙ c.in-Some.is)).1)

pub returns-in-None-clause-words : goal.returns-in-None-clause-words
returns-in-None-clause-words c = words_single c.args.text.now (sym c.offset_of_byte.ensures ∙ c.in-None.is)
