-- Journals that begin one another.
use Rattle.std.proofs.Common.{◌≡◌, ◌⊎◌, ◌≤◌, Bool, true, false, nat_lt, if◌then◌else◌, List, [], ◌∷◌, ◌++◌, length, refl, sym, ap, ◌∙◌, subst, ⊎_elim, arith, append-nil, append_assoc, length-append, true≢false}
use mathlib.Core.Logic.{dite}
use native.Mathlib.Decide.{dec_le}
use Rattle.std.proofs.lemmas.Bool.{ltb-true, lt-ltb}
use Rattle.ground_model.specs.declared.entry.Entry.{Entry}
use Rattle.turn_lock.specs.declared.journal.Journal.{Journal}
use Rattle.turn_lock.specs.Journal.{extended, IsPrefix, longer}

pub prefix_refl : (x : Journal) → IsPrefix x x
prefix_refl x = ([], ap (λ (l : List Entry). record x { entries = l }) (sym (append-nil x.entries)))

pub prefix_trans : (x y z : Journal) → IsPrefix x y → IsPrefix y z → IsPrefix x z
prefix_trans x y z s t = (s.0 ++ t.0, t.1 ∙ (ap (λ (j : Journal). extended j t.0) s.1 ∙ ap (λ (l : List Entry). record x { entries = l }) (append_assoc x.entries s.0 t.0)))

pub prefix_more : (x y : Journal) (e : Entry) → IsPrefix x y → IsPrefix x (extended y (e ∷ []))
prefix_more x y e s = prefix_trans x y (extended y (e ∷ [])) s (e ∷ [], refl)

pub prefix_length : (x y : Journal) → IsPrefix x y → length x.entries ≤ length y.entries
prefix_length x y s = let l = ap (λ (j : Journal). length j.entries) s.1 in omega (arith, length-append x.entries s.0)

-- of two beginnings of one list the shorter begins the longer
list_begins : (log xs ys more more' : List Entry) → log ≡ xs ++ more → log ≡ ys ++ more' → length xs ≤ length ys → (rest : List Entry) × (ys ≡ xs ++ rest)
list_begins log [] ys more more' s t le = (ys, refl)
list_begins log (x ∷ xs) [] more more' s t le = absurd (omega arith)
list_begins log (x ∷ xs) (y ∷ ys) more more' s t le =
    let e : x ∷ (xs ++ more) ≡ y ∷ (ys ++ more') = sym s ∙ t in
    let h : x ≡ y = ap (head_or x) e in
    let r = list_begins (xs ++ more) xs ys more more' refl (ap tail e) (omega arith) in
    (r.0, λ i. sym h i ∷ r.1 i)
  where
    head_or : Entry → List Entry → Entry
    head_or d [] = d
    head_or d (z ∷ zs) = z

    tail : List Entry → List Entry
    tail [] = []
    tail (z ∷ zs) = zs

pub begins : (log x y : Journal) → IsPrefix x log → IsPrefix y log → length x.entries ≤ length y.entries → IsPrefix x y
begins log x y s t le =
    let r = list_begins log.entries x.entries y.entries s.0 t.0 (ap (λ (j : Journal). j.entries) s.1) (ap (λ (j : Journal). j.entries) t.1) le in
    let head = sym (ap (λ (j : Journal). j.head) t.1) ∙ ap (λ (j : Journal). j.head) s.1 in
    let limits = sym (ap (λ (j : Journal). j.limits) t.1) ∙ ap (λ (j : Journal). j.limits) s.1 in
    (r.0, λ i. record { head = head i; limits = limits i; entries = r.1 i })

pub whole_prefix : (log x : Journal) → IsPrefix x log → length log.entries ≤ length x.entries → x ≡ log
whole_prefix log x s le =
    let l = ap (λ (j : Journal). length j.entries) s.1 in
    let none : s.0 ≡ [] = empty s.0 (omega (arith, length-append x.entries s.0)) in
    sym (s.1 ∙ ap (λ (l : List Entry). record x { entries = l }) (ap (λ m. x.entries ++ m) none ∙ append-nil x.entries))
  where
    empty : (xs : List Entry) → length xs ≡ 0 → xs ≡ []
    empty [] e = refl
    empty (x ∷ xs) e = absurd (omega arith)

-- the longer of two beginnings
module _ (log x y : Journal) (s : IsPrefix x log) (t : IsPrefix y log) where
  not_below : nat_lt (length x.entries) (length y.entries) ≡ false → length y.entries ≤ length x.entries
  not_below is = dite (dec_le (length y.entries) (length x.entries)) (λ le. le) (λ gt. absurd (true≢false (sym (lt-ltb (length x.entries) (length y.entries) (omega arith)) ∙ is)))

  pub longer_prefix : IsPrefix (longer x y) log
  longer_prefix = pick (nat_lt (length x.entries) (length y.entries))
    where
      pick : (c : Bool) → IsPrefix (if c then y else x) log
      pick true = t
      pick false = s

  pub longer_left : IsPrefix x (longer x y)
  longer_left = pick (nat_lt (length x.entries) (length y.entries)) refl
    where
      pick : (c : Bool) → nat_lt (length x.entries) (length y.entries) ≡ c → IsPrefix x (if c then y else x)
      pick true is = begins log x y s t (let low = ltb-true (length x.entries) (length y.entries) is in omega arith)
      pick false is = prefix_refl x

  pub longer_right : IsPrefix y (longer x y)
  longer_right = pick (nat_lt (length x.entries) (length y.entries)) refl
    where
      pick : (c : Bool) → nat_lt (length x.entries) (length y.entries) ≡ c → IsPrefix y (if c then y else x)
      pick true is = prefix_refl y
      pick false is = begins log y x t s (not_below is)

  pub longer_whole : (x ≡ log) ⊎ (y ≡ log) → longer x y ≡ log
  longer_whole h = whole_prefix log (longer x y) longer_prefix (⊎_elim
      (λ (e : x ≡ log). subst (λ (j : Journal). length j.entries ≤ length (longer x y).entries) e (prefix_length x (longer x y) longer_left))
      (λ (e : y ≡ log). subst (λ (j : Journal). length j.entries ≤ length (longer x y).entries) e (prefix_length y (longer x y) longer_right)) h)
