-- Where the sum of the squares is not zero its sign tells what is inside.
use Rattle.std.proofs.Common.{◌≡◌, sym, ◌∙◌, arith, true, false}
use Rattle.std.specs.Prelude.{ℤ, pos, ◌<ℤ◌, ◌≤ℤ◌, int_lt}
use Rattle.std.proofs.lemmas.Int.{ints, by_lt_z}
use Rattle.ground_model.specs.Place.{Coords, ArePlaces}
use Rattle.ground_model.specs.Height.{in_circle_sum, is_inside}
use Rattle.ground_model.proofs.Lifted.{inside_positive, inside_negative}

pub inside-sum : (a b c d : Coords) → ArePlaces a b c d → ¬ (in_circle_sum a b c d ≡ pos 0) → int_lt (pos 0) (in_circle_sum a b c d) ≡ is_inside a b c d
inside-sum a b c d p some = by_lt_z (pos 0) (in_circle_sum a b c d)
    (λ more. positive (in_circle_sum a b c d) more ∙ sym (inside_positive a b c d p more))
    (λ le. negative (in_circle_sum a b c d) le ∙ sym (inside_negative a b c d p (below (in_circle_sum a b c d) some le)))
  where
    positive : (x : ℤ) → pos 0 <ℤ x → int_lt (pos 0) x ≡ true
    positive x h =
        let t : true ≡ int_lt (pos 0) x = omega (arith, ints) in
        sym t

    negative : (x : ℤ) → x ≤ℤ pos 0 → int_lt (pos 0) x ≡ false
    negative x h =
        let t : false ≡ int_lt (pos 0) x = omega (arith, ints) in
        sym t

    below : (x : ℤ) → ¬ (x ≡ pos 0) → x ≤ℤ pos 0 → x <ℤ pos 0
    below x some h = by_lt_z x (pos 0) (λ lt. lt) (λ ge. absurd (some (omega (arith, ints))))
