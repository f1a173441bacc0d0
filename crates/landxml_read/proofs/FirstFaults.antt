-- Where a text first differs from every text of a grammar, from what is known at a byte.
use Rattle.std.proofs.Common.{◌≡◌, ℕ, ◌+◌, ◌<◌, Bool, true, false, nat_lt, refl, List, ◌∷◌, [], ◌++◌, length, take, drop, sym, ◌∙◌, ap, subst, arith, append_assoc, length-append}
use Rattle.std.proofs.lemmas.List.{take-append-le, take-append-drop}
use Rattle.std.proofs.Math.Seq.{take-append-add}
use Rattle.ground_num.specs.FirstFault.{Begins, IsFirstFault}

-- a front of a front that begins a text begins one
begins_less : (P : List ℕ → Type 0) (xs ys : List ℕ) → Begins P (xs ++ ys) → Begins P xs
begins_less P xs ys b = (ys ++ b.0, subst P (append_assoc xs ys b.0) b.1)

pub begins_take : (P : List ℕ → Type 0) (xs : List ℕ) (n : ℕ) → Begins P xs → Begins P (take n xs)
begins_take P xs n b = let Q : List ℕ → Type 0 = Begins P in begins_less P (take n xs) (drop n xs) (subst Q (sym (take-append-drop n xs)) b)

-- a byte with which no text goes on, after bytes that begin one
pub fault_at : (P : List ℕ → Type 0) (xs : List ℕ) (b : ℕ) (more : List ℕ) → Begins P xs → ((rest : List ℕ) → P (xs ++ b ∷ rest) → ⊥) → IsFirstFault P (xs ++ b ∷ more) (length xs)
fault_at P xs b more begins never = record {
  within = omega (arith, length-append xs (b ∷ more));
  allowed = λ j less. let Q : List ℕ → Type 0 = Begins P in subst Q (sym (take-append-le (j + 1) xs (b ∷ more) (omega arith))) (begins_take P xs (j + 1) begins);
  not_allowed = λ _ a. never a.0 (subst P (ap (λ w. w ++ a.0) (take-append-add xs (b ∷ more) 1) ∙ append_assoc xs (b ∷ []) a.0) a.1);
}

-- bytes that begin a text
pub no_fault : (P : List ℕ → Type 0) (xs : List ℕ) → Begins P xs → IsFirstFault P xs (length xs)
no_fault P xs begins = record { within = omega arith; allowed = λ j less. begins_take P xs (j + 1) begins; not_allowed = λ less. absurd (omega arith) }

-- a text has one first fault
pub one_fault : (P : List ℕ → Type 0) (xs : List ℕ) (j k : ℕ) → IsFirstFault P xs j → IsFirstFault P xs k → j ≡ k
one_fault P xs j k f g = by (nat_lt j k) refl (nat_lt k j) refl
  where
    by : (a : Bool) → nat_lt j k ≡ a → (b : Bool) → nat_lt k j ≡ b → j ≡ k
    by true e b h = let less : j < k = grind arith in let within = g.within in absurd (f.not_allowed (omega arith) (g.allowed j less))
    by false e true h = let less : k < j = grind arith in let within = f.within in absurd (g.not_allowed (omega arith) (f.allowed k less))
    by false e false h = grind arith
