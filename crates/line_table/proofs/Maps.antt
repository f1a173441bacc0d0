-- Entries in order, and the finite map that they make.
use Rattle.std.proofs.Common.{◌≡◌, sym, ap, ◌∙◌, subst, refl, List, [], ◌∷◌, Bool, true, false, cond, None, Some}
use Rattle.std.specs.Prelude.{map, T, ◌&&◌}
use Rattle.std.specs.Cmp.{IsTotalOrder, eq_by_cmp_equiv}
use Rattle.std.specs.List.{AllByRecursion}
use Rattle.std.specs.List.Sorted.{IsStrictlySortedBy}
use Rattle.std.specs.declared.cmp.Ordering.{Ordering}
use Rattle.std.specs.declared.cmp.Ordering.TheVariants.{Less}
use Rattle.std.specs.Ordering.{is_lt, eq_by_cmp}
use Rattle.std.specs.FinMap as finmap
use Rattle.std.specs.FinMap.Entries.{below_all}
use Rattle.std.specs.BTreeMap.{is_at}
use Rattle.std.specs.Map.{lookup}

both_of : (s t : Bool) → T s → T t → T (s && t)
both_of true t h k = k
both_of false t h k = absurd h

module _ {K X : Type 0} (R : K → K → Ordering) where
  below-each : (x : K) (es : List (K × X)) → AllByRecursion (λ y. R x y ≡ Less) (map (λ e. e.0) es) → T (below_all R x es)
  below-each x [] h = tt
  below-each x (e ∷ es) h = both_of (is_lt (R x e.0)) (below_all R x es) (subst (λ o. T (is_lt o)) (sym h.0) tt) (below-each x es h.1)

  pub keys-sorted : (es : List (K × X)) → IsStrictlySortedBy R (map (λ e. e.0) es) → T (finmap.is_sorted R es)
  unfolding IsStrictlySortedBy
  keys-sorted [] h = tt
  keys-sorted (e ∷ es) h = both_of (below_all R e.0 es) (finmap.is_sorted R es) (below-each e.0 es h.0) (keys-sorted es h.1)

  find_lookup : (es : List (K × X)) (q : K) → finmap.find R q es ≡ lookup (is_at (R q)) es
  find_lookup [] q = refl
  find_lookup (e ∷ es) q = ap (cond (is_at (R q) e.0) (Some e.1)) (find_lookup es q)

  pub get_of : (es : List (K × X)) (q : K) → T (finmap.is_sorted R es) → finmap.get (finmap.from_sorted {R = R} es) q ≡ lookup (is_at (R q)) es
  get_of es q h = finmap.get-from_sorted R es q h ∙ find_lookup es q

module _ {K X : Type 0} {R : K → K → Ordering} (total : IsTotalOrder R) (apart : finmap.IsAntisymmetric R) where
  -- the map of the entries with v at k
  pub added : (es fs : List (K × X)) (k : K) (v : X) → T (finmap.is_sorted R es) → T (finmap.is_sorted R fs) → ((q : K) → lookup (is_at (R q)) fs ≡ cond (is_at (R k) q) (Some v) (lookup (is_at (R q)) es)) → finmap.from_sorted {R = R} fs ≡ finmap.insert (finmap.from_sorted es) k v
  added es fs k v s t h = finmap.same_map total apart _ _ (λ q.
      get_of R fs q t ∙ h q ∙ ap (λ b. cond b (Some v) (lookup (is_at (R q)) es)) ((eq_by_cmp_equiv total).symm k q)
      ∙ sym (finmap.get-insert total (finmap.from_sorted es) k v q ∙ ap (cond (eq_by_cmp R q k) (Some v)) (get_of R es q s)))

  -- the map of the entries without k
  pub removed : (es fs : List (K × X)) (k : K) → T (finmap.is_sorted R es) → T (finmap.is_sorted R fs) → ((q : K) → lookup (is_at (R q)) fs ≡ cond (is_at (R k) q) None (lookup (is_at (R q)) es)) → finmap.from_sorted {R = R} fs ≡ finmap.remove (finmap.from_sorted es) k
  removed es fs k s t h = finmap.same_map total apart _ _ (λ q.
      get_of R fs q t ∙ h q ∙ ap (λ b. cond b None (lookup (is_at (R q)) es)) ((eq_by_cmp_equiv total).symm k q)
      ∙ sym (finmap.get-remove total (finmap.from_sorted es) k q ∙ ap (cond (eq_by_cmp R q k) None) (get_of R es q s)))
