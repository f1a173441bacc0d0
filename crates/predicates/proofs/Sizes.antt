-- How large sums and products of integers are, and what the code's operations give where nothing is lost.
use Rattle.std.proofs.Common.{◌≡◌, ℕ, ◌≤◌, subst, sym, ap, ◌∙◌, FitsSigned, to_z, of_z}
use Rattle.std.specs.Prelude.{ℤ, unsigned_abs}
use Rattle.std.proofs.lemmas.Int.{to_z-of_z}
use mir.Syntax.{Width}

pub read_op : (f : ℤ → ℤ → ℤ) (w : Width) (x y : ℤ) → FitsSigned w x → FitsSigned w y → FitsSigned w (f x y) → to_z w (of_z w (f (to_z w (of_z w x)) (to_z w (of_z w y)))) ≡ f x y
read_op f w x y fx fy fits =
    ap (λ k. to_z w (of_z w (f k (to_z w (of_z w y))))) (to_z-of_z w x fx)
    ∙ ap (λ k. to_z w (of_z w (f x k))) (to_z-of_z w y fy)
    ∙ to_z-of_z w (f x y) fits

-- what is passed to a call, where nothing is lost
pub read_is : (w : Width) (x y : ℤ) → FitsSigned w x → x ≡ y → to_z w (of_z w x) ≡ y
read_is w x y fits e = to_z-of_z w x fits ∙ e

pub read_both : (f : ℤ → ℤ → ℤ) (w : Width) (x y : ℤ) → FitsSigned w x → FitsSigned w y → f (to_z w (of_z w x)) (to_z w (of_z w y)) ≡ f x y
read_both f w x y fx fy = ap (λ k. f k (to_z w (of_z w y))) (to_z-of_z w x fx) ∙ ap (λ k. f x k) (to_z-of_z w y fy)

-- a bound is kept along an equation
pub size_along : (x y : ℤ) (m : ℕ) → x ≡ y → unsigned_abs y ≤ m → unsigned_abs x ≤ m
size_along x y m e h = subst (λ k. unsigned_abs k ≤ m) (sym e) h
