-- Named edges are found by their numbers, and a corner has one number.
use Rattle.std.proofs.Common.{◌≡◌, ℕ, suc, zero, Some, None, List, [], ◌∷◌, refl, sym, ap, ◌∙◌, inl, inr, subst, unwrap_or, arith}
use Rattle.std.specs.List.{slice_get}
use Rattle.std.proofs.lemmas.Bool.{cases_eq}
use Rattle.std.proofs.lemmas.Option.{none-some}
use Rattle.ground_model.specs.declared.corner.Corner.{Corner}
use Rattle.mesh.specs.Corners.{IsNoneOf, Distinct}
use Rattle.mesh.proofs.Shape.{Named, find, AllIn, In}

pub all_at : {X : Type 0} (P : X → Type 0) (xs : List X) (x : X) → AllIn P xs → In x xs → P x
all_at P [] x a i = absurd i
all_at P (y ∷ ys) x a (inl e) = subst P (sym e) a.0
all_at P (y ∷ ys) x a (inr i) = all_at P ys x a.1 i

pub same_in : {X : Type 0} (x y : X) → Some x ≡ Some y → x ≡ y
same_in x y e = ap (λ o. unwrap_or o x) e

find_head : (l : Named) (ls : List Named) (a b : ℕ) → l.tail ≡ a → l.head ≡ b → find a b (l ∷ ls) ≡ Some l
find_head l ls a b e f = grind (arith, e, f)

find_skip_tail : (l : Named) (ls : List Named) (a b : ℕ) → (l.tail ≡ a → ⊥) → find a b (l ∷ ls) ≡ find a b ls
find_skip_tail l ls a b e = grind (arith, e)

find_skip_head : (l : Named) (ls : List Named) (a b : ℕ) → (l.head ≡ b → ⊥) → find a b (l ∷ ls) ≡ find a b ls
find_skip_head l ls a b e = grind (arith, e)

-- what is found
pub record Found (a b : ℕ) (ls : List Named) (l : Named) : Type 0 where
  pub in_it : In l ls
  pub tail : l.tail ≡ a
  pub head : l.head ≡ b

later : (a b : ℕ) (x : Named) (xs : List Named) (l : Named) → Found a b xs l → Found a b (x ∷ xs) l
later a b x xs l f = record { in_it = inr f.in_it; tail = f.tail; head = f.head }

pub found : (ls : List Named) (a b : ℕ) (l : Named) → find a b ls ≡ Some l → Found a b ls l
found [] a b l e = absurd (none-some l e)
found (x ∷ xs) a b l e = elim (cases_eq x.tail a) as (λ _. Found a b (x ∷ xs) l) [
  | inl t ↦ elim (cases_eq x.head b) as (λ _. Found a b (x ∷ xs) l) [
    | inl h ↦
        let same : x ≡ l = same_in x l (sym (find_head x xs a b t h) ∙ e) in
        record { in_it = inl (sym same); tail = ap (λ z. z.tail) (sym same) ∙ t; head = ap (λ z. z.head) (sym same) ∙ h }
    | inr nh ↦ later a b x xs l (found xs a b l (sym (find_skip_head x xs a b nh) ∙ e))
  ]
  | inr nt ↦ later a b x xs l (found xs a b l (sym (find_skip_tail x xs a b nt) ∙ e))
]

-- what is not found is not there
pub not_found : (ls : List Named) (a b : ℕ) (l : Named) → find a b ls ≡ None → In l ls → l.tail ≡ a → l.head ≡ b → ⊥
not_found [] a b l e i t h = i
not_found (x ∷ xs) a b l e (inl s) t h = none-some x (sym e ∙ find_head x xs a b (ap (λ z. z.tail) (sym s) ∙ t) (ap (λ z. z.head) (sym s) ∙ h))
not_found (x ∷ xs) a b l e (inr i) t h = elim (cases_eq x.tail a) as (λ _. ⊥) [
  | inl t2 ↦ elim (cases_eq x.head b) as (λ _. ⊥) [
    | inl h2 ↦ none-some x (sym e ∙ find_head x xs a b t2 h2)
    | inr nh ↦ not_found xs a b l (sym (find_skip_head x xs a b nh) ∙ e) i t h
  ]
  | inr nt ↦ not_found xs a b l (sym (find_skip_tail x xs a b nt) ∙ e) i t h
]

not_in_at : (cs : List Corner) (c : Corner) (i : ℕ) → IsNoneOf c cs → slice_get cs i ≡ Some c → ⊥
not_in_at [] c i n e = none-some c e
not_in_at (x ∷ xs) c zero n e = n.0 (sym (same_in x c e))
not_in_at (x ∷ xs) c (suc i) n e = not_in_at xs c i n.1 e

-- a corner has one number
pub one_number : (cs : List Corner) (i j : ℕ) (c d : Corner) → Distinct cs → slice_get cs i ≡ Some c → slice_get cs j ≡ Some d → c ≡ d → i ≡ j
one_number [] i j c d n e f same = absurd (none-some c e)
one_number (x ∷ xs) zero zero c d n e f same = refl
one_number (x ∷ xs) zero (suc j) c d n e f same = absurd (not_in_at xs x j n.0 (f ∙ ap Some (sym same ∙ sym (same_in x c e))))
one_number (x ∷ xs) (suc i) zero c d n e f same = absurd (not_in_at xs x i n.0 (e ∙ ap Some (same ∙ sym (same_in x d f))))
one_number (x ∷ xs) (suc i) (suc j) c d n e f same = ap suc (one_number xs i j c d n.1 e f same)
