-- The entries of the authors, from step to step.
use Rattle.std.proofs.Common.{◌≡◌, ◌≢◌, ◌⊎◌, inl, inr, ◌==◌, if◌then◌else◌, ℕ, zero, suc, ◌+◌, ◌<◌, ◌≤◌, cond, eqb, eq-eqb, ne_eqb, List, [], ◌∷◌, ◌++◌, length, set, refl, sym, ap, ◌∙◌, subst, ⊎_elim, arith, length-set, length-append, append-nil, append_assoc}
use mathlib.Core.Option.{some, some-injective, some-ne-none}
use lib.ListN.{get_elem?}
use Rattle.std.specs.List.{Contains, All, AllByRecursion}
use Rattle.std.proofs.lemmas.List.Elements.{All-push, All-weaker, recursion_from_All, filter-append, Contains-append_cases}
use Rattle.atomic_table.proofs.Lists.{at_set}
use Rattle.ground_model.specs.declared.entry.Entry.{Entry}
use Rattle.turn_lock.specs.declared.journal.Journal.{Journal}
use Rattle.turn_lock.specs.declared.view.View.{View}
use Rattle.turn_lock.specs.Journal.{extended, IsPrefix, longer, entries_by}
use Rattle.turn_lock.specs.Rule.{IsSeat, Authored}
use Rattle.turn_lock.specs.Steps.{joined, spent, left_by_split, right_by_split}
use Rattle.turn_lock.proofs.Queue.{only_one}
use Rattle.turn_lock.proofs.Prefix.{prefix_trans, longer_left, longer_right, longer_prefix}

-- what holds of a seat and of all others holds after a step of that seat
pub seats_stay : (P : ℕ → View → Type 0) (vs : List View) (me : ℕ) (w : View) → P me w → ((j : ℕ) (v : View) → j ≢ me → get_elem? vs j ≡ some v → P j v) → (j : ℕ) (v : View) → get_elem? (set vs me w) j ≡ some v → P j v
seats_stay P vs me w mine others j v e = ⊎_elim (λ (t : (j ≡ me) × (w ≡ v)). subst (λ (x : ℕ × View). P x.0 x.1) (λ i. (sym t.0 i, t.1 i)) mine)
    (λ (t : (j ≢ me) × (get_elem? vs j ≡ some v)). others j v t.0 t.1) (at_set vs me j w v e)

-- who is in a list with one view more is in the list, or is the new one
pub at_end : (vs : List View) (o u : View) (j : ℕ) → get_elem? (vs ++ o ∷ []) j ≡ some u → (get_elem? vs j ≡ some u) ⊎ ((j ≡ length vs) × (o ≡ u))
at_end [] o u zero e = inr (refl, some-injective o u e)
at_end [] o u (suc j) e = absurd (some-ne-none u (sym e))
at_end (x ∷ vs) o u zero e = inl e
at_end (x ∷ vs) o u (suc j) e = ⊎_elim inl (λ (t : (j ≡ length vs) × (o ≡ u)). inr (ap suc t.0, t.1)) (at_end vs o u j e)

by_more : (a : ℕ) (x : Journal) (more : List Entry) → entries_by a (extended x more).entries ≡ entries_by a x.entries ++ entries_by a more
by_more a x more = filter-append (λ (e : Entry). eqb e.author a) x.entries more

by_other : (a : ℕ) (x : Journal) (e : Entry) → e.author ≢ a → entries_by a (extended x (e ∷ [])).entries ≡ entries_by a x.entries
by_other a x e ne = by_more a x (e ∷ []) ∙ (ap (λ c. entries_by a x.entries ++ cond c (e ∷ []) []) (ne_eqb e.author a ne) ∙ append-nil (entries_by a x.entries))

-- an author above all numbers has no entry
none_above : (a n : ℕ) (es : List Entry) → n < a → AllByRecursion (λ (e : Entry). (0 < e.author) × (e.author ≤ n)) es → entries_by a es ≡ []
none_above a n [] low h = refl
none_above a n (e ∷ es) low h = ap (λ c. cond c (e ∷ entries_by a es) (entries_by a es)) (ne_eqb e.author a (λ z. let b = h.0.1 in absurd (omega arith))) ∙ none_above a n es low h.1

empty : (xs : List Entry) → length xs ≡ 0 → xs ≡ []
empty [] e = refl
empty (x ∷ xs) e = absurd (omega arith)

-- what lies between two journals with the same entries of an author has them too
pub squeeze : (a : ℕ) (x y z : Journal) → IsPrefix x y → IsPrefix y z → entries_by a z.entries ≡ entries_by a x.entries → entries_by a z.entries ≡ entries_by a y.entries
squeeze a x y z s t e =
    let upper : entries_by a z.entries ≡ entries_by a y.entries ++ entries_by a t.0 = ap (λ (j : Journal). entries_by a j.entries) t.1 ∙ by_more a y t.0 in
    let lower : entries_by a y.entries ≡ entries_by a x.entries ++ entries_by a s.0 = ap (λ (j : Journal). entries_by a j.entries) s.1 ∙ by_more a x s.0 in
    let l1 = ap length upper in
    let l2 = ap length lower in
    let l3 = ap length e in
    let l4 = length-append (entries_by a y.entries) (entries_by a t.0) in
    let l5 = length-append (entries_by a x.entries) (entries_by a s.0) in
    upper ∙ (ap (λ k. entries_by a y.entries ++ k) (empty (entries_by a t.0) (omega arith)) ∙ append-nil (entries_by a y.entries))

-- the longer of two beginnings has an author's entries where one of the two has them
pub longer_by : (a : ℕ) (log x y : Journal) → IsPrefix x log → IsPrefix y log → (entries_by a log.entries ≡ entries_by a x.entries) ⊎ (entries_by a log.entries ≡ entries_by a y.entries) → entries_by a log.entries ≡ entries_by a (longer x y).entries
longer_by a log x y s t h = ⊎_elim
    (λ (e : entries_by a log.entries ≡ entries_by a x.entries). squeeze a x (longer x y) log (longer_left log x y s t) (longer_prefix log x y s t) e)
    (λ (e : entries_by a log.entries ≡ entries_by a y.entries). squeeze a y (longer x y) log (longer_right log x y s t) (longer_prefix log x y s t) e) h

abbrev Named : ℕ → List Entry → Type 0
Named n past = All (λ (e : Entry). (0 < e.author) × (e.author ≤ n)) past

module _ (opening : Journal) where
  -- a step of the seat id, whose view becomes w
  auth_step : (log log' : Journal) (views : List View) (id : ℕ) (v w : View) → (r : Authored opening log views) → get_elem? views id ≡ some v → w.numbers ≡ v.numbers
      → (past : List Entry) → log' ≡ extended opening past → Named (length views) past
      → ((a : ℕ) → r.owner a ≢ id → entries_by a log'.entries ≡ entries_by a log.entries)
      → ((a : ℕ) → Contains v.numbers a → entries_by a log'.entries ≡ entries_by a w.seen.entries) → (IsSeat v → IsPrefix opening w.seen) → Authored opening log' (set views id w)
  auth_step log log' views id v w r at same past began named others mine begun =
      let len : length (set views id w) ≡ length views = length-set views id w in
      record {
        owner = r.owner;
        past = past;
        began = began;
        named = subst (λ n. Named n past) (sym len) named;
        owned = seats_stay (λ j u. (a : ℕ) → Contains u.numbers a → (r.owner a ≡ j) × (0 < a) × (a ≤ length (set views id w)) × (entries_by a log'.entries ≡ entries_by a u.seen.entries)) views id w
            (λ a m. let m' : Contains v.numbers a = subst (λ ns. Contains ns a) same m in let o = r.owned id v at a m' in let low = o.2 in (o.0, o.1, omega arith, mine a m'))
            (λ j u ne e a m. let o = r.owned j u e a m in let low = o.2 in (o.0, o.1, omega arith, others a (λ z. ne (sym o.0 ∙ z)) ∙ o.3));
        begun = seats_stay (λ j u. IsSeat u → IsPrefix opening u.seen) views id w (λ p. begun (subst (λ ns. 0 < length ns) same p)) (λ j u ne e. r.begun j u e);
      }

  -- a step that changes neither the log nor what was seen
  pub auth_same : (log : Journal) (views : List View) (id : ℕ) (v w : View) → Authored opening log views → get_elem? views id ≡ some v → w.numbers ≡ v.numbers → w.seen ≡ v.seen → Authored opening log (set views id w)
  auth_same log views id v w r at same seen = auth_step log log views id v w r at same r.past r.began r.named (λ _ _. refl) (λ a m. (r.owned id v at a m).3 ∙ ap (λ (j : Journal). entries_by a j.entries) (sym seen))
      (λ p. subst (λ (j : Journal). IsPrefix opening j) (sym seen) (r.begun id v at p))

  -- the seat has seen the whole log
  pub auth_whole : (log : Journal) (views : List View) (id : ℕ) (v w : View) → Authored opening log views → get_elem? views id ≡ some v → w.numbers ≡ v.numbers → w.seen ≡ log → Authored opening log (set views id w)
  auth_whole log views id v w r at same seen = auth_step log log views id v w r at same r.past r.began r.named (λ _ _. refl) (λ a m. ap (λ (j : Journal). entries_by a j.entries) (sym seen))
      (λ _. subst (λ (j : Journal). IsPrefix opening j) (sym seen) (r.past, r.began))

  -- the seat noted an entry under a number of its own
  pub auth_noted : (log : Journal) (e : Entry) (views : List View) (id : ℕ) (v w : View) → Authored opening log views → get_elem? views id ≡ some v → w.numbers ≡ v.numbers → w.seen ≡ extended log (e ∷ [])
      → Contains v.numbers e.author → Authored opening (extended log (e ∷ [])) (set views id w)
  auth_noted log e views id v w r at same seen own =
      let o = r.owned id v at e.author own in
      let began : extended log (e ∷ []) ≡ extended opening (r.past ++ e ∷ []) = ap (λ (j : Journal). extended j (e ∷ [])) r.began ∙ ap (λ (l : List Entry). record opening { entries = l }) (append_assoc opening.entries r.past (e ∷ [])) in
      auth_step log (extended log (e ∷ [])) views id v w r at same (r.past ++ e ∷ []) began (All-push (λ (e : Entry). (0 < e.author) × (e.author ≤ length views)) r.past e r.named (o.1, o.2))
      (λ a ne. by_other a log e (λ z. ne (ap r.owner (sym z) ∙ o.0)))
      (λ a m. ap (λ (j : Journal). entries_by a j.entries) (sym seen)) (λ _. subst (λ (j : Journal). IsPrefix opening j) (sym seen) (r.past ++ e ∷ [], began))

  -- a new seat, under the next number
  pub auth_split : (log : Journal) (views : List View) (id : ℕ) (v : View) → Authored opening log views → get_elem? views id ≡ some v → IsSeat v → v.given ≡ length views → IsPrefix v.seen log
      → Authored opening log (set views id (left_by_split v) ++ right_by_split v ∷ [])
  auth_split log views id v r at seat count prefix =
      let n : ℕ = length views in
      let w : View = left_by_split v in
      let o : View = right_by_split v in
      let vs : List View = set views id w ++ o ∷ [] in
      let len : length vs ≡ n + 1 = let a = length-set views id w in omega (arith, length-append (set views id w) (o ∷ [])) in
      let owner : ℕ → ℕ = (λ a. if a == n + 1 then n else r.owner a) in
      let P : ℕ → View → Type 0 = (λ j u. (a : ℕ) → Contains u.numbers a → (owner a ≡ j) × (0 < a) × (a ≤ length vs) × (entries_by a log.entries ≡ entries_by a u.seen.entries)) in
      let old : (j : ℕ) (u : View) → get_elem? views j ≡ some u → P j u = (λ j u e a m. let k = r.owned j u e a m in let low = k.2 in
      (ap (λ c. if c then n else r.owner a) (ne_eqb a (n + 1) (λ z. omega arith)) ∙ k.0, k.1, omega arith, k.3)) in
      let fresh : entries_by (n + 1) log.entries ≡ entries_by (n + 1) opening.entries = ap (λ (j : Journal). entries_by (n + 1) j.entries) r.began ∙ (by_more (n + 1) opening r.past
      ∙ (ap (λ l. entries_by (n + 1) opening.entries ++ l) (none_above (n + 1) n r.past (omega arith) (recursion_from_All (λ (e : Entry). (0 < e.author) × (e.author ≤ n)) r.past r.named)) ∙ append-nil (entries_by (n + 1) opening.entries))) in
      let new : P n o = (λ a m. let is : a ≡ n + 1 = only_one a (v.given + 1) m ∙ ap (λ k. k + 1) count in
      (ap (λ c. if c then n else r.owner a) (eq-eqb a (n + 1) is), omega arith, omega arith, subst (λ k. entries_by k log.entries ≡ entries_by k v.seen.entries) (sym is) (squeeze (n + 1) opening v.seen log (r.begun id v at seat) prefix fresh))) in
      record {
        owner = owner;
        past = r.past;
        began = r.began;
        named = All-weaker (λ (e : Entry). (0 < e.author) × (e.author ≤ n)) (λ (e : Entry). (0 < e.author) × (e.author ≤ length vs)) (λ (e : Entry) (h : (0 < e.author) × (e.author ≤ n)). (h.0, let low = h.1 in omega arith)) r.past r.named;
        owned = λ j u e. ⊎_elim (seats_stay P views id w (old id v at) (λ k x _ f. old k x f) j u)
            (λ (t : (j ≡ length (set views id w)) × (o ≡ u)). subst (λ (x : ℕ × View). P x.0 x.1) (λ i. ((let g : n ≡ j = sym (length-set views id w) ∙ sym t.0 in g) i, t.1 i)) new) (at_end (set views id w) o u j e);
        begun = λ j u e. ⊎_elim (seats_stay (λ k x. IsSeat x → IsPrefix opening x.seen) views id w (λ _. r.begun id v at seat) (λ k x _ f. r.begun k x f) j u)
            (λ (t : (j ≡ length (set views id w)) × (o ≡ u)). subst (λ (x : View). IsSeat x → IsPrefix opening x.seen) t.1 (λ _. r.begun id v at seat)) (at_end (set views id w) o u j e);
      }

  -- a seat that was joined with another has the numbers of both
  pub auth_join : (log : Journal) (views : List View) (id : ℕ) (v : View) (other : ℕ) (u : View) → Authored opening log views → get_elem? views id ≡ some v → other ≢ id → get_elem? views other ≡ some u → IsSeat v
      → IsPrefix v.seen log → IsPrefix u.seen log → Authored opening log (set (set views id (joined v u)) other spent)
  auth_join log views id v other u r at apart there seat s t =
      let w : View = joined v u in
      let vs : List View = set (set views id w) other spent in
      let len : length vs ≡ length views = length-set (set views id w) other spent ∙ length-set views id w in
      let owner : ℕ → ℕ = (λ a. if r.owner a == other then id else r.owner a) in
      let P : ℕ → View → Type 0 = (λ j x. (a : ℕ) → Contains x.numbers a → (owner a ≡ j) × (0 < a) × (a ≤ length vs) × (entries_by a log.entries ≡ entries_by a x.seen.entries)) in
      let stays : (a : ℕ) → r.owner a ≢ other → owner a ≡ r.owner a = (λ a ne. ap (λ c. if c then id else r.owner a) (ne_eqb (r.owner a) other ne)) in
      let mine : P id w = (λ a m. ⊎_elim
      (λ (h : Contains v.numbers a). let k = r.owned id v at a h in let low = k.2 in (stays a (λ z. apart (sym z ∙ k.0)) ∙ k.0, k.1, omega arith, longer_by a log v.seen u.seen s t (inl k.3)))
      (λ (h : Contains u.numbers a). let k = r.owned other u there a h in let low = k.2 in
      (ap (λ c. if c then id else r.owner a) (eq-eqb (r.owner a) other k.0), k.1, omega arith, longer_by a log v.seen u.seen s t (inr k.3)))
      (Contains-append_cases v.numbers u.numbers a m)) in
      record {
        owner = owner;
        past = r.past;
        began = r.began;
        named = subst (λ n. Named n r.past) (sym len) r.named;
        owned = seats_stay P (set views id w) other spent (λ a (m : Contains [] a). let low = m.1 in absurd (omega arith))
            (λ j x ne e. seats_stay (λ k y. k ≢ other → P k y) views id w (λ _. mine)
            (λ k y ne' e' out a m. let o = r.owned k y e' a m in let low = o.2 in (stays a (λ z. out (sym o.0 ∙ z)) ∙ o.0, o.1, omega arith, o.3)) j x e ne);
        begun = seats_stay (λ k y. IsSeat y → IsPrefix opening y.seen) (set views id w) other spent (λ p. absurd (omega arith))
            (λ j x _ e. seats_stay (λ k y. IsSeat y → IsPrefix opening y.seen) views id w (λ _. prefix_trans opening v.seen w.seen (r.begun id v at seat) (longer_left log v.seen u.seen s t)) (λ k y _ f. r.begun k y f) j x e);
      }
