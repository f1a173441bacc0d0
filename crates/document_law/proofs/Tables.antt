-- Tables of lines with a line more or less.
use Rattle.std.proofs.Common.{◌≡◌, ℕ, ◌+◌, ◌<◌, ◌≤◌, inl, inr, Bool, true, false, cond, List, [], ◌∷◌, ◌++◌, map, Option, None, Some, refl, sym, ◌∙◌, ap, arith}
use Rattle.std.proofs.lemmas.Cmp.{nat_cmp_total}
use Rattle.std.proofs.lemmas.List.{map-append}
use Rattle.std.proofs.lemmas.List.Sums.{sum_by-cons}
use Rattle.std.specs.Prelude.{sum_by}
use Rattle.std.specs.declared.cmp.Ordering.{Ordering}
use Rattle.std.specs.declared.cmp.Ordering.TheVariants.{Less, Equal, Greater}
use Rattle.std.specs.Ordering.{is_eq, nat_cmp, eq_by_cmp}
use Rattle.std.specs.Cmp.{nat_cmp_is}
use Rattle.std.specs.FinMap as finmap
use Rattle.std.specs.FinMap.Entries.{put, find, by_order}
use Rattle.ground_model.specs.Content.{Content}
use Rattle.ground_model.specs.Line.{Line}
use Rattle.ground_model.specs.Planar.{IsPlanar}
use Rattle.ground_model.specs.Table.{numbered, live, with_line}
use Rattle.ground_model.proofs.Elements.{In, each_at}

-- the number to come stands last

greater : (k n : ℕ) → n < k → nat_cmp k n ≡ Greater
greater k n less = sym (nat_cmp_is k n Greater less)

put_last : (k : ℕ) (v : Line) (es : List (ℕ × Line)) → ((e : ℕ × Line) → In e es → e.0 < k) → put nat_cmp k v es ≡ es ++ (k, v) ∷ []
put_last k v [] below = refl
put_last k v (e ∷ es) below = ap (λ o. by_order o ((k, v) ∷ e ∷ es) ((e.0, v) ∷ es) (e ∷ put nat_cmp k v es)) (greater k e.0 (below e (inl refl))) ∙ ap (λ w. e ∷ w) (put_last k v es (λ f i. below f (inr i)))

-- the lines with one more, under the number to come
pub live_more : (c : Content) (line : Line) → IsPlanar c → live (with_line c.table line) ≡ live c.table ++ line ∷ []
live_more c line planar =
    ap (map (λ e. e.1)) (finmap.entries-insert nat_cmp_total c.table.lines c.table.next line ∙ put_last c.table.next line (numbered c.table) (λ e i. each_at (λ e. e.0 < c.table.next) (numbered c.table) e planar.fresh i))
    ∙ map-append (λ e. e.1) (numbered c.table) ((c.table.next, line) ∷ [])

-- sums

abbrev sum_of : (Line → ℕ) → List (ℕ × Line) → ℕ
sum_of f es = sum_by f (map (λ e. e.1) es)

sum_cons : (f : Line → ℕ) (e : ℕ × Line) (es : List (ℕ × Line)) → sum_of f (e ∷ es) ≡ f e.1 + sum_of f es
sum_cons f e es = sum_by-cons f e.1 (map (λ e. e.1) es)

sum_put : (f : Line → ℕ) (k : ℕ) (v : Line) (es : List (ℕ × Line)) → find nat_cmp k es ≡ None → sum_of f (put nat_cmp k v es) ≡ f v + sum_of f es
sum_put f k v [] e = sum_cons f (k, v) []
sum_put f k v (g ∷ es) e = by (nat_cmp k g.0) e (sum_put f k v es)
  where
    swapped : (n m x y r s : ℕ) → n ≡ x + m → m ≡ y + r → s ≡ x + r → n ≡ y + s
    swapped n m x y r s e f g = omega (arith, e, f, g)

    by : (o : Ordering) → cond (is_eq o) (Some g.1) (find nat_cmp k es) ≡ None → (find nat_cmp k es ≡ None → sum_of f (put nat_cmp k v es) ≡ f v + sum_of f es)
        → sum_of f (by_order o ((k, v) ∷ g ∷ es) ((g.0, v) ∷ es) (g ∷ put nat_cmp k v es)) ≡ f v + sum_of f (g ∷ es)
    by Less h rest = sum_cons f (k, v) (g ∷ es)
    by Equal h rest = cc
    by Greater h rest = swapped (sum_of f (g ∷ put nat_cmp k v es)) (sum_of f (put nat_cmp k v es)) (f g.1) (f v) (sum_of f es) (sum_of f (g ∷ es)) (sum_cons f g (put nat_cmp k v es)) (rest h) (sum_cons f g es)

same_number : (q k : ℕ) → eq_by_cmp nat_cmp q k ≡ true → q ≡ k
same_number q k e = by (nat_cmp q k) refl e
  where
    by : (o : Ordering) → nat_cmp q k ≡ o → is_eq o ≡ true → q ≡ k
    by Less e h = cc
    by Equal e h = finmap.nat_cmp-IsAntisymmetric q k e
    by Greater e h = cc

-- a line less, and the same map where there is none
pub sum_less : (f : Line → ℕ) (m : finmap.FinMap nat_cmp Line) (k : ℕ) → sum_by f (finmap.values (finmap.remove m k)) ≤ sum_by f (finmap.values m)
sum_less f m k = by (finmap.get m k) refl
  where
    none : finmap.get (finmap.remove m k) k ≡ None
    none = finmap.get-remove nat_cmp_total m k k ∙ ap (λ o. cond (is_eq o) None (finmap.get m k)) (sym (nat_cmp_is k k Equal refl))

    by : (o : Option Line) → finmap.get m k ≡ o → sum_by f (finmap.values (finmap.remove m k)) ≤ sum_by f (finmap.values m)
    by None e =
        let same = finmap.same_map nat_cmp_total finmap.nat_cmp-IsAntisymmetric (finmap.remove m k) m (λ q. finmap.get-remove nat_cmp_total m k q ∙ gone q (eq_by_cmp nat_cmp q k) refl) in
        let g = ap (λ (n : finmap.FinMap nat_cmp Line). sum_by f (finmap.values n)) same in
        omega (arith, g)
      where
        gone : (q : ℕ) (t : Bool) → eq_by_cmp nat_cmp q k ≡ t → cond t None (finmap.get m q) ≡ finmap.get m q
        gone q true h = sym (ap (finmap.get m) (same_number q k h) ∙ e)
        gone q false h = refl
    by (Some v) e =
        let same = finmap.same_map nat_cmp_total finmap.nat_cmp-IsAntisymmetric m (finmap.insert (finmap.remove m k) k v) (λ q. back q (eq_by_cmp nat_cmp q k) refl ∙ sym (finmap.get-insert nat_cmp_total (finmap.remove m k) k v q ∙ ap (cond (eq_by_cmp nat_cmp q k) (Some v)) (finmap.get-remove nat_cmp_total m k q))) in
        let g = ap (λ (n : finmap.FinMap nat_cmp Line). sum_by f (finmap.values n)) same in
        let h = ap (sum_of f) (finmap.entries-insert nat_cmp_total (finmap.remove m k) k v) ∙ sum_put f k v (finmap.entries (finmap.remove m k)) (sym (finmap.get-entries (finmap.remove m k) k) ∙ none) in
        omega (arith, g, h)
      where
        back : (q : ℕ) (t : Bool) → eq_by_cmp nat_cmp q k ≡ t → finmap.get m q ≡ cond (eq_by_cmp nat_cmp q k) (Some v) (cond (eq_by_cmp nat_cmp q k) None (finmap.get m q))
        back q true h = ap (finmap.get m) (same_number q k h) ∙ e ∙ sym (ap (λ t. cond t (Some v) (cond t None (finmap.get m q))) h)
        back q false h = sym (ap (λ t. cond t (Some v) (cond t None (finmap.get m q))) h)
