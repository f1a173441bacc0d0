-- The chain of free slots, as one is taken and one is given back.
use Rattle.std.proofs.Common.{◌≡◌, ◌<◌, ◌≤◌, ℕ, suc, zero, Option, Some, None, List, [], ◌∷◌, ◌++◌, length, set, map, refl, sym, ap, ◌∙◌, subst, inl, inr, rules, arith, length-set}
use Rattle.std.specs.List.{slice_get}
use Rattle.std.specs.Option.{option_map, IsSome}
use Rattle.tri_pages.specs.declared.tri_slot.TriSlot.{TriSlot}
use Rattle.std.proofs.lemmas.Bool.{cases_eq}
use Rattle.std.proofs.lemmas.Option.{slice_get_within, slice_get_past}
use Rattle.tri_pages.specs.declared.entry.Entry.{Entry}
use Rattle.tri_pages.specs.declared.entry.Entry.TheVariants.{Free, Taken, Written}
use Rattle.page_vec.proofs.Lists.{slice_get-set_same, slice_get-set_other}
use Rattle.tri_pages.specs.Slots.{State, taken, taken_from, joined, put, state_at}
use Rattle.tri_pages.specs.FreeChain.{state, IsApartFrom, IsApart, IsLinked, HasChain, end}

-- a write elsewhere leaves the chain
still : (es : List Entry) (h i : ℕ) (y : Entry) (ks : List ℕ) → IsApartFrom i ks → IsLinked es h ks → IsLinked (set es i y) h ks
still es h i y [] f l = l
still es h i y (k ∷ ks) f l = (l.0, (l.1.0, slice_get-set_other es i y k (λ e. f.0 (sym e)) ∙ l.1.1, still es l.1.0 i y ks f.1 l.1.2))

abbrev next_of : Option Entry → ℕ
next_of None = 0
next_of (Some (Free n)) = n
next_of (Some Taken) = 0
next_of (Some (Written t)) = 0

abbrev IsFreeSlot : Option Entry → Type 0
IsFreeSlot None = ⊥
IsFreeSlot (Some (Free n)) = Unit {0}
IsFreeSlot (Some Taken) = ⊥
IsFreeSlot (Some (Written t)) = ⊥

-- a slot that isn't free is in no chain
fresh_of : (es : List Entry) (h i : ℕ) (ks : List ℕ) → (IsFreeSlot (slice_get es i) → ⊥) → IsLinked es h ks → IsApartFrom i ks
fresh_of es h i [] not_free l = tt
fresh_of es h i (k ∷ ks) not_free l =
    ((λ e. not_free (subst (λ o. IsFreeSlot o) (sym (ap (slice_get es) e ∙ l.1.1)) tt)), fresh_of es l.1.0 i ks not_free l.1.2)

no_some : IsSome {T = Option TriSlot} None → ⊥
no_some h = search (rules, h)

module _ (es : List Entry) (h i : ℕ) (not_free : IsFreeSlot (slice_get es i) → ⊥) (c : HasChain es h) where
  -- a taken slot is written with what isn't free
  pub rewrote : (y : Entry) → (IsFreeSlot (Some y) → ⊥) → HasChain (set es i y) h
  rewrote y kept = record {
    chain = c.chain;
    linked = still es h i y c.chain (fresh_of es h i c.chain not_free c.linked) c.linked;
    apart = c.apart;
    whole = λ k n e f. elim (cases_eq k i) as (λ _. ⊥) [
      | inl ki ↦
          let long : i < length es = omega (arith, slice_get_within (set es i y) k (Free n) e, length-set es i y, ki) in
          kept (subst (λ o. IsFreeSlot o) (sym e ∙ ap (slice_get (set es i y)) ki ∙ slice_get-set_same es i y long) tt)
      | inr ne ↦ c.whole k n (sym (slice_get-set_other es i y k ne) ∙ e) f
    ];
  }

  -- a slot is given back
  pub gave : i < length es → HasChain (set es i (Free h)) i
  gave long = record {
    chain = i ∷ c.chain;
    linked = (refl, (h, slice_get-set_same es i (Free h) long, still es h i (Free h) c.chain (fresh_of es h i c.chain not_free c.linked) c.linked));
    apart = (fresh_of es h i c.chain not_free c.linked, c.apart);
    whole = λ k n e f. c.whole k n (sym (slice_get-set_other es i (Free h) k f.0) ∙ e) f.1;
  }

took_from : (es : List Entry) (h n : ℕ) → slice_get es h ≡ Some (Free n) → (ks : List ℕ) → IsLinked es h ks → IsApart ks → ((k m : ℕ) → slice_get es k ≡ Some (Free m) → IsApartFrom k ks → ⊥) → HasChain (set es h Taken) n
took_from es h n e [] l a w = absurd (w h n e tt)
took_from es h n e (k ∷ ks) l a w =
    let same : l.1.0 ≡ n = ap next_of (sym l.1.1 ∙ ap (slice_get es) (sym l.0) ∙ e) in
    record {
      chain = ks;
      linked = subst (λ m. IsLinked (set es h Taken) m ks) same (still es l.1.0 h Taken ks (subst (λ x. IsApartFrom x ks) (sym l.0) a.0) l.1.2);
      apart = a.1;
      whole = λ x m g f. elim (cases_eq x h) as (λ _. ⊥) [
        | inl xh ↦ subst (λ o. IsFreeSlot o) (sym g ∙ ap (slice_get (set es h Taken)) xh ∙ slice_get-set_same es h Taken (slice_get_within es h (Free n) e)) tt
        | inr ne ↦ w x m (sym (slice_get-set_other es h Taken x ne) ∙ g) ((λ q. ne (q ∙ sym l.0)), f)
      ];
    }

-- the head is taken
pub took : (es : List Entry) (h n : ℕ) → slice_get es h ≡ Some (Free n) → HasChain es h → HasChain (set es h Taken) n
took es h n e c = took_from es h n e c.chain c.linked c.apart c.whole

taken_all : (n : ℕ) (es : List Entry) → ((k m : ℕ) → slice_get es k ≡ Some (Free m) → ⊥) → length (taken_from n (map state es)) ≡ length es
taken_all n [] no_free = refl
taken_all n (Free m ∷ es) no_free = absurd (no_free 0 m refl)
taken_all n (Taken ∷ es) no_free = ap suc (taken_all (suc n) es (λ k m e. no_free (suc k) m e))
taken_all n (Written t ∷ es) no_free = ap suc (taken_all (suc n) es (λ k m e. no_free (suc k) m e))

-- a slot with a state is there and isn't free
pub not_free_at : (es : List Entry) (i : ℕ) → IsSome (joined (slice_get (map state es) i)) → (IsFreeSlot (slice_get es i) → ⊥) × (i < length es)
not_free_at [] i h = absurd (no_some h)
not_free_at (Free n ∷ es) zero h = absurd (no_some h)
not_free_at (Taken ∷ es) zero h = ((λ x. x), omega arith)
not_free_at (Written t ∷ es) zero h = ((λ x. x), omega arith)
not_free_at (e ∷ es) (suc i) h = let r = not_free_at es i h in (r.0, omega (arith, r.1))

there_from : (es : List Entry) (h : ℕ) (ks : List ℕ) → IsLinked es h ks → (h ≡ end → ⊥) → (n : ℕ) × (slice_get es h ≡ Some (Free n))
there_from es h [] l ne = absurd (ne l)
there_from es h (k ∷ ks) l ne = (l.1.0, ap (slice_get es) l.0 ∙ l.1.1)

-- the head is a free slot
pub head_there : (es : List Entry) (h : ℕ) → HasChain es h → (h ≡ end → ⊥) → (n : ℕ) × (slice_get es h ≡ Some (Free n))
head_there es h c ne = there_from es h c.chain c.linked ne

none_from : (es : List Entry) (h : ℕ) (ks : List ℕ) → IsLinked es h ks → h ≡ end → length es < end → (k : ℕ) → IsApartFrom k ks
none_from es h [] l e short k = tt
none_from es h (x ∷ xs) l e short k =
    let far : x < length es = slice_get_within es x (Free l.1.0) l.1.1 in
    absurd (omega (arith, far, l.0, e, short))

-- at the end of the chain no slot is free
pub none_free : (es : List Entry) (h : ℕ) → HasChain es h → h ≡ end → length es < end → (k n : ℕ) → slice_get es k ≡ Some (Free n) → ⊥
none_free es h c e short k n f = c.whole k n f (none_from es h c.chain c.linked e short k)

pub all_taken : (es : List Entry) (h : ℕ) → HasChain es h → h ≡ end → length es < end → length (taken (map state es)) ≡ length es
all_taken es h c e short = taken_all 0 es (none_free es h c e short)

free_there : (es : List Entry) (k : ℕ) → k < length es → state_at (map state es) k ≡ None → (n : ℕ) × (slice_get es k ≡ Some (Free n))
free_there [] k h e = absurd (omega (arith, h))
free_there (Free n ∷ es) zero h e = (n, refl)
free_there (Taken ∷ es) zero h e = absurd (let never : ⊥ = cc in never)
free_there (Written t ∷ es) zero h e = absurd (let never : ⊥ = cc in never)
free_there (x ∷ es) (suc k) h e = free_there es k (omega (arith, h)) e

-- at the end of the chain every slot of the pages is taken
pub none_left : (es : List Entry) (h : ℕ) → HasChain es h → h ≡ end → length es < end → (k : ℕ) → k < length es → state_at (map state es) k ≡ None → ⊥
none_left es h c e short k there is_free = let found = free_there es k there is_free in none_free es h c e short k found.0 found.1

pushed_free : (es : List Entry) (k n : ℕ) → slice_get (es ++ Taken ∷ []) k ≡ Some (Free n) → slice_get es k ≡ Some (Free n)
pushed_free [] zero n e = absurd (subst (λ o. IsFreeSlot o) (sym e) tt)
pushed_free [] (suc k) n e = e
pushed_free (x ∷ es) zero n e = e
pushed_free (x ∷ es) (suc k) n e = pushed_free es k n e

pub grew : (es : List Entry) (h : ℕ) → HasChain es h → h ≡ end → length es < end → HasChain (es ++ Taken ∷ []) h
grew es h c e short = record {
  chain = [];
  linked = e;
  apart = tt;
  whole = λ k n f g. none_free es h c e short k n (pushed_free es k n f);
}

pub put_end : (xs : List State) (k : ℕ) (x : State) → k ≡ length xs → put xs k x ≡ xs ++ x ∷ []
put_end xs k x e = grind (arith, e)

pub put_in : (xs : List State) (k : ℕ) (x : State) → k < length xs → put xs k x ≡ set xs k x
put_in xs k x h = grind (arith, h)

pub state_free : (es : List Entry) (k n : ℕ) → slice_get es k ≡ Some (Free n) → state_at (map state es) k ≡ None
state_free [] k n e = refl
state_free (x ∷ es) zero n e = ap (λ o. joined (option_map state o)) e
state_free (x ∷ es) (suc k) n e = state_free es k n e

pub state_past : (xs : List State) (k : ℕ) → length xs ≤ k → state_at xs k ≡ None
state_past xs k h = ap joined (slice_get_past xs k h)

state_pushed : (xs : List State) (x : State) → state_at (xs ++ x ∷ []) (length xs) ≡ x
state_pushed [] x = refl
state_pushed (y ∷ xs) x = state_pushed xs x

-- the slot that was put is in its state, on the pages
pub state_put_in : (xs : List State) (k : ℕ) (x : State) → k < length xs → state_at (put xs k x) k ≡ x
state_put_in xs k x h = ap (λ l. state_at l k) (put_in xs k x h) ∙ ap joined (slice_get-set_same xs k x h)

-- and at their end
pub state_put_end : (xs : List State) (k : ℕ) (x : State) → k ≡ length xs → state_at (put xs k x) k ≡ x
state_put_end xs k x e = ap (λ l. state_at l k) (put_end xs k x e) ∙ ap (λ n. state_at (xs ++ x ∷ []) n) e ∙ state_pushed xs x
