use Rattle.std.proofs.Common.{◌≡◌, ◌∙◌, List, ℕ, ap, subst, sym, ◌++◌}
use Rattle.std.specs.Str.Parse.{AllDigits}
use Rattle.ground_num.specs.Parts.{after_sign, after_digits, after_point, exponent_digits, leading_digits, pointed_digits}
use Rattle.ground_num.proofs.Parts.{parts_are}
use Rattle.ground_num.proofs.Values.{digits_are, exponent_are, magnitude_is}
use Rattle.ground_num.proofs.read.sign_and_magnitude.Goals as goal

pub moved_by-is_left-requires : goal.moved_by-is_left-requires
moved_by-is_left-requires c =
    let e : c.split_fraction.result.1.now ≡ after_point (after_digits (after_sign c.args.text.now)) = cc in
    let P : List ℕ → Type 0 = λ w. AllDigits 10 (exponent_digits w) in
    subst P (sym e) (exponent_are c.args.text.now c.requires.decimal)

pub magnitude_of-requires-clause-digits : goal.magnitude_of-requires-clause-digits
magnitude_of-requires-clause-digits c =
    let e : c.split_digits.result.0.now ≡ leading_digits (after_sign c.args.text.now) = cc in
    let f : c.split_fraction.result.0.now ≡ pointed_digits (after_digits (after_sign c.args.text.now)) = cc in
    let P : List ℕ → Type 0 = λ w. AllDigits 10 w in
    subst P (sym (ap (λ w. w ++ c.split_fraction.result.0.now) e ∙ ap (λ w. leading_digits (after_sign c.args.text.now) ++ w) f)) (digits_are c.args.text.now c.requires.decimal)

pub returns-clause-negative : goal.returns-clause-negative
returns-clause-negative c d is e = c.split_sign-is_negative.ensures.minus ∙ (parts_are d c.args.text.now is e).minus

pub returns-clause-magnitude : goal.returns-clause-magnitude
returns-clause-magnitude c d is e =
    let w : c.split_digits.result.0.now ≡ leading_digits (after_sign c.args.text.now) = cc in
    let f : c.split_fraction.result.0.now ≡ pointed_digits (after_digits (after_sign c.args.text.now)) = cc in
    let x : c.split_fraction.result.1.now ≡ after_point (after_digits (after_sign c.args.text.now)) = cc in
    magnitude_is d c.args.text.now c.moved_by-is_left.result.0 c.moved_by-is_left.result.1 c.magnitude_of.result is e (cc) (cc)
    (record { right = rw (w, f) at c.magnitude_of.ensures.right; left = rw (w, f) at c.magnitude_of.ensures.left })
