-- An index by place, as lines come and go.
use Rattle.std.proofs.Common.{◌≡◌, ◌≢◌, ℕ, ◌+◌, ◌<◌, ◌≤◌, List, [], ◌∷◌, ◌++◌, Bool, true, false, cond, not, nat_eq, filter, Some, None, IsSome, is_some, length, take, get_or, refl, sym, ap, ◌∙◌, subst, arith, inl, inr, append-nil}
use Rattle.std.specs.Prelude.{map, unwrap_or, ◌||◌, slice_get, option_map, find, Option, MatchOption}
use Rattle.std.specs.List.{All, list_any}
use Rattle.std.proofs.lemmas.Bool.{cases_eq}
use Rattle.std.proofs.lemmas.List.{map-append}
use Rattle.std.proofs.lemmas.List.Elements.{All-head, All-tail, filter-append}
use Rattle.std.proofs.lemmas.List.Folds.{list_any-append, list_any_more}
use Rattle.ground_model.specs.Place.{Coords, IsPlace, is_same}
use Rattle.ground_model.specs.Height.{code}
use Rattle.ground_model.specs.Line.{Line, has_place}
use Rattle.ground_model.proofs.LinePieces.{is_same_itself}
use Rattle.ground_model.proofs.Ties.{code-injective, same_of_is_same}
use Rattle.page_index.specs.Pairs.{Pairs, IsInOrder, put, value_of, without}
use Rattle.page_index.proofs.Maps.{put_last, value_put, value_without}
use Rattle.page_index.proofs.Order.{eq_false, eq_true}
use Rattle.line_table.specs.ByPlace.{IsByPlace, IsChangedAt, numbers_at, numbers_with, with_number, without_number}
use Rattle.line_table.proofs.Kept.{each-found, first-kept, kept-once, kept-swapped, kept-twice, keys-kept, without-kept}
use Rattle.line_table.proofs.Tables.{below_next}

-- ---- the lines with a place

numbers-append : (p : Coords) (es fs : List (ℕ × Line)) → numbers_with p (es ++ fs) ≡ numbers_with p es ++ numbers_with p fs
numbers-append p es fs =
    ap (map (λ (e : ℕ × Line). e.0)) (filter-append (λ e. has_place p e.1) es fs)
    ∙ map-append (λ (e : ℕ × Line). e.0) (filter (λ e. has_place p e.1) es) (filter (λ e. has_place p e.1) fs)

numbers-one : (p : Coords) (k : ℕ) (v : Line) → numbers_with p ((k, v) ∷ []) ≡ cond (has_place p v) (k ∷ []) []
numbers-one p k v = at (has_place p v)
  where
    at : (b : Bool) → map (λ (e : ℕ × Line). e.0) (cond b ((k, v) ∷ []) []) ≡ cond b (k ∷ []) []
    at true = refl
    at false = refl

numbers-below : (p : Coords) (next : ℕ) (es : List (ℕ × Line)) → All (λ e. e.0 < next) es → list_any (nat_eq next) (numbers_with p es) ≡ false
numbers-below p next [] h = refl
numbers-below p next (e ∷ es) h =
    at (has_place p e.1) (All-head (λ (x : ℕ × Line). x.0 < next) e es h) (numbers-below p next es (All-tail (λ (x : ℕ × Line). x.0 < next) e es h))
  where
    at : (b : Bool) → e.0 < next → list_any (nat_eq next) (map (λ (x : ℕ × Line). x.0) (filter (λ x. has_place p x.1) es)) ≡ false
        → list_any (nat_eq next) (map (λ (x : ℕ × Line). x.0) (cond b (e ∷ filter (λ x. has_place p x.1) es) (filter (λ x. has_place p x.1) es))) ≡ false
    at true lt rest = ap (λ b. b || list_any (nat_eq next) (map (λ (x : ℕ × Line). x.0) (filter (λ x. has_place p x.1) es))) (eq_false next e.0 (λ i. omega (arith, i, lt))) ∙ rest
    at false lt rest = rest

numbers-without : (p : Coords) (k : ℕ) (es : List (ℕ × Line)) → IsInOrder es → numbers_with p (without k es) ≡ without_number k (numbers_with p es)
numbers-without p k es order =
    ap (λ xs. map (λ (e : ℕ × Line). e.0) (filter (λ e. has_place p e.1) xs)) (without-kept k es order)
    ∙ ap (map (λ (e : ℕ × Line). e.0)) (kept-swapped (λ e. has_place p e.1) (λ e. not (nat_eq e.0 k)) es)
    ∙ keys-kept (λ m. not (nat_eq m k)) (filter (λ e. has_place p e.1) es)

numbers-apart : (p : Coords) (k : ℕ) (v : Line) (es : List (ℕ × Line)) → IsInOrder es → value_of k es ≡ Some v → has_place p v ≡ false → numbers_with p (without k es) ≡ numbers_with p es
numbers-apart p k v es order there lacks =
    ap (λ xs. map (λ (e : ℕ × Line). e.0) (filter (λ e. has_place p e.1) xs)) (without-kept k es order)
    ∙ ap (map (λ (e : ℕ × Line). e.0)) (kept-once (λ e. has_place p e.1) (λ e. not (nat_eq e.0 k)) es (each-found (has_place p) k v es order there lacks))

-- the least line with the place is the first of them
pub least-with : (p : Coords) (es : List (ℕ × Line)) → option_map (λ (e : ℕ × Line). e.0) (find (λ e. has_place p e.1) es) ≡ slice_get (numbers_with p es) 0
least-with p es = first-kept (λ e. has_place p e.1) es

-- ---- a line more, a line less

pub by_place-added : (es : List (ℕ × Line)) (index fresh : Pairs (List ℕ)) (next : ℕ) (v : Line) → All (λ e. e.0 < next) es → IsByPlace es index
    → IsChangedAt (λ p. list_any (is_same p) v.places) (with_number next) index fresh → IsByPlace (put next v es) fresh
by_place-added es index fresh next v below by changed = λ p h.
    changed p h ∙ ap (λ xs. cond (has_place p v) (with_number next xs) xs) (by p h) ∙ at p (has_place p v)
    ∙ sym (ap (λ xs. numbers_with p xs) (put_last next v es (below_next es next below)) ∙ numbers-append p es ((next, v) ∷ []) ∙ ap (λ r. numbers_with p es ++ r) (numbers-one p next v))
  where
    at : (p : Coords) (b : Bool) → cond b (with_number next (numbers_with p es)) (numbers_with p es) ≡ numbers_with p es ++ cond b (next ∷ []) []
    at p true = ap (λ c. cond c (numbers_with p es) (numbers_with p es ++ next ∷ [])) (numbers-below p next es below)
    at p false = sym (append-nil (numbers_with p es))

pub by_place-removed : (es : List (ℕ × Line)) (index rest : Pairs (List ℕ)) (k : ℕ) (v : Line) → IsInOrder es → value_of k es ≡ Some v → IsByPlace es index
    → IsChangedAt (λ p. list_any (is_same p) v.places) (without_number k) index rest → IsByPlace (without k es) rest
by_place-removed es index rest k v order there by changed = λ p h.
    changed p h ∙ ap (λ xs. cond (has_place p v) (without_number k xs) xs) (by p h) ∙ at p (has_place p v) refl
  where
    at : (p : Coords) (b : Bool) → has_place p v ≡ b → cond b (without_number k (numbers_with p es)) (numbers_with p es) ≡ numbers_with p (without k es)
    at p true e = sym (numbers-without p k es order)
    at p false e = sym (numbers-apart p k v es order there e)

-- ---- a change at one place

same-code : (p q : Coords) → IsPlace p → IsPlace q → (b : Bool) → is_same p q ≡ b → nat_eq (code p) (code q) ≡ b
same-code p q h k true e = eq_true (code p) (code q) (ap code (same_of_is_same p q e))
same-code p q h k false e = eq_false (code p) (code q) (λ i. other (ap (is_same p) (code-injective p q h k i)))
  where
    other : is_same p p ≡ is_same p q → ⊥
    other f = let t : true ≡ false = sym (is_same_itself p) ∙ f ∙ e in cc

module _ (change : List ℕ → List ℕ) (place : Coords) (index : Pairs (List ℕ)) (within : IsPlace place) where
  pub changed-put : (ys : List ℕ) → ys ≡ change (numbers_at place index) → IsChangedAt (λ p. is_same p place) change index (put (code place) ys index)
  changed-put ys is = λ p h. ap (λ o. unwrap_or o []) (value_put (code place) ys index (code p)) ∙ at p h (is_same p place) refl
    where
      at : (p : Coords) → IsPlace p → (b : Bool) → is_same p place ≡ b → unwrap_or (cond (nat_eq (code p) (code place)) (Some ys) (value_of (code p) index)) [] ≡ cond (is_same p place) (change (numbers_at p index)) (numbers_at p index)
      at p h true e =
          ap (λ c. unwrap_or (cond c (Some ys) (value_of (code p) index)) []) (same-code p place h within true e) ∙ is
          ∙ ap (λ q. change (numbers_at q index)) (sym (same_of_is_same p place e)) ∙ sym (ap (λ c. cond c (change (numbers_at p index)) (numbers_at p index)) e)
      at p h false e =
          ap (λ c. unwrap_or (cond c (Some ys) (value_of (code p) index)) []) (same-code p place h within false e)
          ∙ sym (ap (λ c. cond c (change (numbers_at p index)) (numbers_at p index)) e)

  pub changed-without : change (numbers_at place index) ≡ [] → IsChangedAt (λ p. is_same p place) change index (without (code place) index)
  changed-without is = λ p h. ap (λ o. unwrap_or o []) (value_without (code place) index (code p)) ∙ at p h (is_same p place) refl
    where
      at : (p : Coords) → IsPlace p → (b : Bool) → is_same p place ≡ b → unwrap_or (cond (nat_eq (code p) (code place)) None (value_of (code p) index)) [] ≡ cond (is_same p place) (change (numbers_at p index)) (numbers_at p index)
      at p h true e =
          ap (λ c. unwrap_or (cond c None (value_of (code p) index)) []) (same-code p place h within true e) ∙ sym is
          ∙ ap (λ q. change (numbers_at q index)) (sym (same_of_is_same p place e)) ∙ sym (ap (λ c. cond c (change (numbers_at p index)) (numbers_at p index)) e)
      at p h false e =
          ap (λ c. unwrap_or (cond c None (value_of (code p) index)) []) (same-code p place h within false e)
          ∙ sym (ap (λ c. cond c (change (numbers_at p index)) (numbers_at p index)) e)

  pub changed-none : change (numbers_at place index) ≡ numbers_at place index → IsChangedAt (λ p. is_same p place) change index index
  changed-none is = λ p h. at p (is_same p place) refl
    where
      at : (p : Coords) → (b : Bool) → is_same p place ≡ b → numbers_at p index ≡ cond (is_same p place) (change (numbers_at p index)) (numbers_at p index)
      at p true e =
          ap (λ q. numbers_at q index) (same_of_is_same p place e) ∙ sym is
          ∙ ap (λ q. change (numbers_at q index)) (sym (same_of_is_same p place e)) ∙ sym (ap (λ c. cond c (change (numbers_at p index)) (numbers_at p index)) e)
      at p false e = sym (ap (λ c. cond c (change (numbers_at p index)) (numbers_at p index)) e)

-- ---- changes at one place after the other

pub changed-start : (change : List ℕ → List ℕ) (places : List Coords) (index : Pairs (List ℕ)) → IsChangedAt (λ p. list_any (is_same p) (take 0 places)) change index index
changed-start change places index = λ p h. refl

pub changed-more : (change : List ℕ → List ℕ) → ((xs : List ℕ) → change (change xs) ≡ change xs) → (places : List Coords) (i : ℕ) (place : Coords) (before mid after : Pairs (List ℕ))
    → i < length places → place ≡ get_or places i place → IsChangedAt (λ p. list_any (is_same p) (take i places)) change before mid
    → IsChangedAt (λ p. is_same p place) change mid after → IsChangedAt (λ p. list_any (is_same p) (take (i + 1) places)) change before after
changed-more change twice places i place before mid after lt here one two = λ p h.
    two p h ∙ ap (λ xs. cond (is_same p place) (change xs) xs) (one p h) ∙ at (list_any (is_same p) (take i places)) (is_same p place) (numbers_at p before)
    ∙ sym (ap (λ c. cond c (change (numbers_at p before)) (numbers_at p before)) (list_any_more (is_same p) places i place lt ∙ ap (λ q. list_any (is_same p) (take i places) || is_same p q) (sym here)))
  where
    at : (a b : Bool) (xs : List ℕ) → cond b (change (cond a (change xs) xs)) (cond a (change xs) xs) ≡ cond (a || b) (change xs) xs
    at true true xs = twice xs
    at true false xs = refl
    at false true xs = refl
    at false false xs = refl

-- ---- the changes themselves

pub has_number : (k : ℕ) (xs : List ℕ) → list_any (nat_eq k) xs ≡ true → with_number k xs ≡ xs
has_number k xs e = ap (λ c. cond c xs (xs ++ k ∷ [])) e

pub new_number : (k : ℕ) (xs : List ℕ) → list_any (nat_eq k) xs ≡ false → with_number k xs ≡ xs ++ k ∷ []
new_number k xs e = ap (λ c. cond c xs (xs ++ k ∷ [])) e

pub with_number-twice : (k : ℕ) (xs : List ℕ) → with_number k (with_number k xs) ≡ with_number k xs
with_number-twice k xs = at (list_any (nat_eq k) xs) refl
  where
    at : (b : Bool) → list_any (nat_eq k) xs ≡ b → with_number k (cond b xs (xs ++ k ∷ [])) ≡ cond b xs (xs ++ k ∷ [])
    at true e = has_number k xs e
    at false e = has_number k (xs ++ k ∷ []) (list_any-append (nat_eq k) xs (k ∷ []) ∙ ap (λ b. list_any (nat_eq k) xs || (b || false)) (eq_true k k refl) ∙ ap (λ b. b || (true || false)) e)

pub without_number-twice : (k : ℕ) (xs : List ℕ) → without_number k (without_number k xs) ≡ without_number k xs
without_number-twice k xs = kept-twice (λ m. not (nat_eq m k)) xs

-- what an index has at a place, from what a search found
pub found_at : (place : Coords) (index : Pairs (List ℕ)) (xs : List ℕ) → Some xs ≡ value_of (code place) index → numbers_at place index ≡ xs
found_at place index xs e = ap (λ o. unwrap_or o []) (sym e)

pub none_at : (place : Coords) (index : Pairs (List ℕ)) → None ≡ value_of (code place) index → numbers_at place index ≡ []
none_at place index e = ap (λ o. unwrap_or o []) (sym e)

-- ---- a change as the calls of an index make it

module _ (place : Coords) (within : IsPlace place) (index : Pairs (List ℕ)) (key number : ℕ) (at_key : key ≡ code place) where
  here : (xs : List ℕ) → Some xs ≡ value_of key index → numbers_at place index ≡ xs
  here xs e = found_at place index xs (e ∙ ap (λ k. value_of k index) at_key)

  nothing : None ≡ value_of key index → numbers_at place index ≡ []
  nothing e = none_at place index (e ∙ ap (λ k. value_of k index) at_key)

  pub put-had : (xs : List ℕ) → Some xs ≡ value_of key index → list_any (nat_eq number) xs ≡ true → IsChangedAt (λ p. is_same p place) (with_number number) index index
  put-had xs e had = changed-none (with_number number) place index within (ap (with_number number) (here xs e) ∙ has_number number xs had ∙ sym (here xs e))

  pub put-more : (xs more : List ℕ) (after : Pairs (List ℕ)) → Some xs ≡ value_of key index → list_any (nat_eq number) xs ≡ false → more ≡ xs ++ number ∷ [] → after ≡ put key more index
      → IsChangedAt (λ p. is_same p place) (with_number number) index after
  put-more xs more after e lacks is made =
      subst (IsChangedAt (λ p. is_same p place) (with_number number) index) (sym (made ∙ ap (λ k. put k more index) at_key))
      (changed-put (with_number number) place index within more (is ∙ sym (ap (with_number number) (here xs e) ∙ new_number number xs lacks)))

  pub put-first : (first : List ℕ) (after : Pairs (List ℕ)) → None ≡ value_of key index → first ≡ number ∷ [] → after ≡ put key first index
      → IsChangedAt (λ p. is_same p place) (with_number number) index after
  put-first first after e is made =
      subst (IsChangedAt (λ p. is_same p place) (with_number number) index) (sym (made ∙ ap (λ k. put k first index) at_key))
      (changed-put (with_number number) place index within first (is ∙ sym (ap (with_number number) (nothing e))))

  pub take-some : (xs rest : List ℕ) (after : Pairs (List ℕ)) → Some xs ≡ value_of key index → rest ≡ without_number number xs → after ≡ put key rest index
      → IsChangedAt (λ p. is_same p place) (without_number number) index after
  take-some xs rest after e is made =
      subst (IsChangedAt (λ p. is_same p place) (without_number number) index) (sym (made ∙ ap (λ k. put k rest index) at_key))
      (changed-put (without_number number) place index within rest (is ∙ sym (ap (without_number number) (here xs e))))

  pub take-last : (xs : List ℕ) (after : Pairs (List ℕ)) → Some xs ≡ value_of key index → [] ≡ without_number number xs → after ≡ without key index
      → IsChangedAt (λ p. is_same p place) (without_number number) index after
  take-last xs after e is made =
      subst (IsChangedAt (λ p. is_same p place) (without_number number) index) (sym (made ∙ ap (λ k. without k index) at_key))
      (changed-without (without_number number) place index within (ap (without_number number) (here xs e) ∙ sym is))

  pub take-none : None ≡ value_of key index → IsChangedAt (λ p. is_same p place) (without_number number) index index
  take-none e = changed-none (without_number number) place index within (ap (without_number number) (nothing e) ∙ sym (nothing e))

  -- a key that is found is there
  pub there : (xs : List ℕ) → Some xs ≡ value_of key index → IsSome (value_of key index)
  there xs e = sym (ap is_some e)

-- the first number of a walk
pub first-yielded : {X : Type 0} (number : X → ℕ) (found : Option X) (xs rest : List ℕ) → MatchOption found ((xs ≡ []) × (rest ≡ [])) (λ x. xs ≡ number x ∷ rest) → option_map number found ≡ slice_get xs 0
first-yielded number None xs rest h = sym (ap (λ ys. slice_get ys 0) h.0)
first-yielded number (Some x) xs rest h = sym (ap (λ ys. slice_get ys 0) h)
