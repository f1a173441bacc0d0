-- All passes of a desk: those that threads give back, and two that are joined.
use Rattle.std.proofs.Common.{◌≡◌, ℕ, zero, suc, ◌<◌, ◌≤◌, List, [], ◌∷◌, ◌++◌, length, refl, sym, ap, ◌∙◌, subst, arith}
use Rattle.std.specs.List.{Contains, flat_map, slice_index_or}
use Rattle.std.proofs.lemmas.List.Elements.{All-nil, All-push}
use Rattle.turn_lock.specs.Seat.{Lock, Seat, numbers_of, with_joined, AreAll}

two : (k : ℕ) → 0 < k → k ≤ 2 → Contains (1 ∷ 2 ∷ []) k
two zero some few = absurd (omega arith)
two (suc zero) some few = (0, omega arith, refl)
two (suc (suc zero)) some few = (1, omega arith, refl)
two (suc (suc (suc k))) some few = absurd (omega arith)

-- the one pass that both were joined into
pub pair-all : (desk : Lock) (a b joint : Seat) (passes : List Seat) → desk.seats ≡ 2 → a.table ≡ desk.table → numbers_of a ≡ 1 ∷ [] → numbers_of b ≡ 2 ∷ [] → joint ≡ with_joined a b → passes ≡ joint ∷ [] → AreAll desk passes
pair-all desk a b joint passes count table first second joined is = subst (AreAll desk) (sym is) (record {
  of_lock = All-push (λ (s : Seat). s.table ≡ desk.table) [] joint (All-nil (λ (s : Seat). s.table ≡ desk.table)) (ap (λ (s : Seat). s.table) joined ∙ table);
  numbers = λ k some few. subst (λ ns. Contains (ns ++ []) k) (sym both) (two k some (subst (λ n. k ≤ n) count few));
})
  where
    both : numbers_of joint ≡ 1 ∷ 2 ∷ []
    both = ap numbers_of joined ∙ (λ i. first i ++ second i)
