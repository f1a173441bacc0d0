-- The entries of a table, and the map that they make.
use Rattle.std.proofs.Common.{◌≡◌, ℕ, ◌+◌, ◌-◌, ◌*◌, ◌^◌, ◌<◌, ◌≤◌, refl, sym, ap, ◌∙◌, subst, arith, List, [], ◌∷◌, ◌++◌, Bool, true, false, cond, filter, length, length-append}
use Rattle.std.specs.Prelude.{map, T, IsTrue, Some, None, sum_by}
use Rattle.std.specs.List.{All}
use Rattle.std.specs.List.Sorted.{IsStrictlySortedBy}
use Rattle.std.specs.declared.cmp.Ordering.{Ordering}
use Rattle.std.specs.declared.cmp.Ordering.TheVariants.{Less, Equal, Greater}
use Rattle.std.specs.Ordering.{nat_cmp, is_eq, match_ordering}
use Rattle.std.specs.Cmp.{nat_cmp_is, nat_cmp_total}
use Rattle.std.specs.FinMap as finmap
use Rattle.std.specs.BTreeMap.{insert_entry, is_at}
use Rattle.std.specs.Map.{lookup, remove_entry}
use Rattle.std.proofs.lemmas.List.{map-append, length-map}
use Rattle.std.proofs.lemmas.List.Elements.{All-head, All-tail, All-cons, All-push, All-weaker, All-map}
use Rattle.std.proofs.lemmas.List.Sums.{sum_by-cons, sum_by_push, sum_by-le}
use Rattle.ground_model.specs.declared.line.LineKind.{LineKind}
use Rattle.ground_model.specs.Place.{Coords}
use Rattle.ground_model.specs.Line.{Line}
use Rattle.ground_model.specs.Table.{Table, no_lines}
use Rattle.page_index.specs.Pairs.{AreBelow, IsInOrder, put, value_of, without}
use Rattle.page_index.proofs.Maps.{in_order_is, lookup_put, lookup_without, put_last, sorted_is, value_is, without_is}
use Rattle.page_index.proofs.Order.{none_out, put_in_order, without_in_order}
use Rattle.line_table.specs.Sound.{AreNumbers, IsSound}
use Rattle.line_table.proofs.Maps as maps

Entries : Type 0
Entries = List (ℕ × Line)

-- ---- the map that entries in order make

pub T_of : (b : Bool) → b ≡ true → T b
T_of b e = subst T (sym e) tt

true_of : (b : Bool) → T b → b ≡ true
true_of true h = refl
true_of false h = absurd h

pub entries_of : (es : List (ℕ × Line)) → IsTrue (finmap.is_sorted nat_cmp es) → finmap.entries (finmap.from_sorted {R = nat_cmp} es) ≡ es
entries_of es h = finmap.entries-from_sorted nat_cmp es (T_of _ h)

pub get_of : (es : List (ℕ × Line)) (q : ℕ) → IsTrue (finmap.is_sorted nat_cmp es) → finmap.get (finmap.from_sorted {R = nat_cmp} es) q ≡ value_of q es
get_of es q h = maps.get_of nat_cmp es q (T_of _ h) ∙ sym (value_is q es)

-- entries are in order as an index has them
pub in_order : (es : List (ℕ × Line)) → IsTrue (finmap.is_sorted nat_cmp es) → IsInOrder es
in_order es h = in_order_is es (T_of _ h)

put_sorted : (es : List (ℕ × Line)) (k : ℕ) (v : Line) → IsTrue (finmap.is_sorted nat_cmp es) → IsTrue (finmap.is_sorted nat_cmp (put k v es))
put_sorted es k v h = true_of (finmap.is_sorted nat_cmp (put k v es)) (sorted_is (put k v es) (put_in_order k v es (in_order es h)))

without_sorted : (es : List (ℕ × Line)) (k : ℕ) → IsTrue (finmap.is_sorted nat_cmp es) → IsTrue (finmap.is_sorted nat_cmp (without k es))
without_sorted es k h = true_of (finmap.is_sorted nat_cmp (without k es)) (sorted_is (without k es) (without_in_order k es (in_order es h)))

pub added : (es : List (ℕ × Line)) (k : ℕ) (v : Line) → IsTrue (finmap.is_sorted nat_cmp es) → finmap.from_sorted {R = nat_cmp} (put k v es) ≡ finmap.insert (finmap.from_sorted es) k v
added es k v s = maps.added nat_cmp_total finmap.nat_cmp-IsAntisymmetric es (put k v es) k v (T_of _ s) (T_of _ (put_sorted es k v s)) (lookup_put k v es)

pub removed : (es : List (ℕ × Line)) (k : ℕ) → IsTrue (finmap.is_sorted nat_cmp es) → finmap.from_sorted {R = nat_cmp} (without k es) ≡ finmap.remove (finmap.from_sorted es) k
removed es k s = maps.removed nat_cmp_total finmap.nat_cmp-IsAntisymmetric es (without k es) k (T_of _ s) (T_of _ (without_sorted es k s)) (lookup_without k es)

-- where nothing is at k, removing it changes nothing
pub absent : (es : List (ℕ × Line)) (k : ℕ) → IsTrue (finmap.is_sorted nat_cmp es) → value_of k es ≡ None → finmap.from_sorted {R = nat_cmp} es ≡ finmap.remove (finmap.from_sorted es) k
absent es k s none = ap (λ fs. finmap.from_sorted {R = nat_cmp} fs) (none_out k es (in_order es s) none) ∙ removed es k s

-- ---- an entry more

pub below_next : (es : List (ℕ × Line)) (next : ℕ) → All (λ e. e.0 < next) es → AreBelow next es
below_next [] next h = tt
below_next (e ∷ es) next h = (All-head (λ (x : ℕ × Line). x.0 < next) e es h, below_next es next (All-tail (λ (x : ℕ × Line). x.0 < next) e es h))

lengths : List (ℕ × Line) → ℕ
lengths es = sum_by (λ (line : Line). length line.places) (map (λ e. e.1) es)

sum-appended : (es : List (ℕ × Line)) (k : ℕ) (v : Line) → sum_by (λ (line : Line). length line.places) (map (λ e. e.1) (es ++ (k, v) ∷ [])) ≡ sum_by (λ (line : Line). length line.places) (map (λ e. e.1) es) + length v.places
sum-appended es k v = ap (sum_by (λ (line : Line). length line.places)) (map-append (λ (e : ℕ × Line). e.1) es ((k, v) ∷ [])) ∙ sum_by_push (λ (line : Line). length line.places) (map (λ e. e.1) es) v

pub sound-appended : (es : List (ℕ × Line)) (next places : ℕ) (v : Line) → IsSound es next places → next + 1 < 2 ^ 32 → length es < 65535 → length v.places < 2 ^ 32 → IsTrue (finmap.is_sorted nat_cmp (es ++ (next, v) ∷ [])) → IsSound (es ++ (next, v) ∷ []) (next + 1) (places + length v.places)
sound-appended es next places v s more room short sorted = record {
  in_order = sorted;
  few = omega (arith, length-append es ((next, v) ∷ []));
  begun = omega (arith, s.begun);
  bound = more;
  fresh = All-push (λ e. e.0 < next + 1) es (next, v) (All-weaker (λ (e : ℕ × Line). e.0 < next) (λ e. e.0 < next + 1) (λ e h. omega arith) es s.fresh) (omega arith);
  short = All-push (λ (e : ℕ × Line). length e.1.places < 2 ^ 32) es (next, v) s.short short;
  together = ap (λ n. n + length v.places) s.together ∙ sym (sum-appended es next v);
}

pub sound-added : (es : List (ℕ × Line)) (next places : ℕ) (v : Line) → IsSound es next places → next + 1 < 2 ^ 32 → length es < 65535 → length v.places < 2 ^ 32 → IsSound (put next v es) (next + 1) (places + length v.places)
sound-added es next places v s more room short =
    let last : put next v es ≡ es ++ (next, v) ∷ [] = put_last next v es (below_next es next s.fresh) in
    let order : IsTrue (finmap.is_sorted nat_cmp (es ++ (next, v) ∷ [])) = subst (λ (xs : List (ℕ × Line)). IsTrue (finmap.is_sorted nat_cmp xs)) last (put_sorted es next v s.in_order) in
    subst (λ (xs : List (ℕ × Line)). IsSound xs (next + 1) (places + length v.places)) (sym last) (sound-appended es next places v s more room short order)

-- 2^16 lines of 2^32 places
pub places-small : (es : List (ℕ × Line)) (next places : ℕ) → IsSound es next places → places ≤ 65535 * 2 ^ 32
places-small es next places s =
    let each : All (λ (line : Line). length line.places ≤ 2 ^ 32) (map (λ (e : ℕ × Line). e.1) es) = All-map (λ (line : Line). length line.places ≤ 2 ^ 32) (λ (e : ℕ × Line). e.1) es (All-weaker (λ (e : ℕ × Line). length e.1.places < 2 ^ 32) (λ e. length e.1.places ≤ 2 ^ 32) (λ e h. omega arith) es s.short) in
    let all = sum_by-le (λ (line : Line). length line.places) (2 ^ 32) (map (λ e. e.1) es) each in
    let same : length (map (λ (e : ℕ × Line). e.1) es) ≡ length es = length-map es (λ (e : ℕ × Line). e.1) in
    omega (arith, s.few, s.together)

-- ---- an entry less

some_of : {X : Type 0} (x y : X) → Some x ≡ Some y → x ≡ y
some_of x y e = cc

sum-removed : (f : Line → ℕ) (test : ℕ → Bool) (es : List (ℕ × Line)) (v : Line) → lookup test es ≡ Some v → sum_by f (map (λ e. e.1) (remove_entry test es)) + f v ≡ sum_by f (map (λ e. e.1) es)
sum-removed f test [] v h = cc
sum-removed f test (e ∷ es) v h = at (test e.0) h (sum-removed f test es v)
  where
    at : (b : Bool) → cond b (Some e.1) (lookup test es) ≡ Some v → (lookup test es ≡ Some v → sum_by f (map (λ e. e.1) (remove_entry test es)) + f v ≡ sum_by f (map (λ e. e.1) es))
        → sum_by f (map (λ e. e.1) (cond b es (e ∷ remove_entry test es))) + f v ≡ sum_by f (e.1 ∷ map (λ e. e.1) es)
    at true h rest = let same : f e.1 ≡ f v = ap f (some_of e.1 v h) in omega (arith, sum_by-cons f e.1 (map (λ e. e.1) es))
    at false h rest = omega (arith, rest h, sum_by-cons f e.1 (map (λ e. e.1) es), sum_by-cons f e.1 (map (λ e. e.1) (remove_entry test es)))

all-removed : (P : ℕ × Line → Type 0) (test : ℕ → Bool) (es : List (ℕ × Line)) → All P es → All P (remove_entry test es)
all-removed P test [] h = h
all-removed P test (e ∷ es) h = at (test e.0) (all-removed P test es (All-tail P e es h))
  where
    at : (b : Bool) → All P (remove_entry test es) → All P (cond b es (e ∷ remove_entry test es))
    at true rest = All-tail P e es h
    at false rest = All-cons P e (remove_entry test es) (All-head P e es h) rest

length-removed : (test : ℕ → Bool) (es : List (ℕ × Line)) → length (remove_entry test es) ≤ length es
length-removed test [] = omega arith
length-removed test (e ∷ es) = at (test e.0) (length-removed test es)
  where
    at : (b : Bool) → length (remove_entry test es) ≤ length es → length (cond b es (e ∷ remove_entry test es)) ≤ length (e ∷ es)
    at true rest = omega arith
    at false rest = omega arith

-- the places of a line are among those of all
pub places-enough : (es : List (ℕ × Line)) (next places k : ℕ) (v : Line) → IsSound es next places → value_of k es ≡ Some v → length v.places ≤ places
places-enough es next places k v s there =
    omega (arith, s.together, sum-removed (λ (line : Line). length line.places) (is_at (nat_cmp k)) es v (sym (value_is k es) ∙ there))

pub sound-removed : (es : List (ℕ × Line)) (next places k : ℕ) (v : Line) → IsSound es next places → value_of k es ≡ Some v → IsSound (without k es) next (places - length v.places)
sound-removed es next places k v s there =
    let gone : without k es ≡ remove_entry (is_at (nat_cmp k)) es = without_is k es (in_order es s.in_order) in
    let found : lookup (is_at (nat_cmp k)) es ≡ Some v = sym (value_is k es) ∙ there in
    subst (λ (xs : List (ℕ × Line)). IsTrue (finmap.is_sorted nat_cmp xs) → IsSound xs next (places - length v.places)) (sym gone) (λ order. record {
      in_order = order;
      few = omega (arith, s.few, length-removed (is_at (nat_cmp k)) es);
      begun = s.begun;
      bound = s.bound;
      fresh = all-removed (λ e. e.0 < next) (is_at (nat_cmp k)) es s.fresh;
      short = all-removed (λ e. length e.1.places < 2 ^ 32) (is_at (nat_cmp k)) es s.short;
      together = omega (arith, s.together, sum-removed (λ (line : Line). length line.places) (is_at (nat_cmp k)) es v found);
    }) (without_sorted es k s.in_order)

-- ---- no entry

pub empty-view : (es : List (ℕ × Line)) → es ≡ [] → ◌≡◌ {A = Table} (record { lines = finmap.from_sorted es; next = 1 }) no_lines
empty-view es e = ap (λ m. record { lines = m; next = 1 }) (finmap.empty_of_len (finmap.from_sorted {R = nat_cmp} es) (finmap.len-entries _ ∙ ap length (entries_of es (ap (finmap.is_sorted nat_cmp) e)) ∙ ap length e))

-- ---- the parts of a line

pub line-is : (l m : Line) (kind : LineKind) (places : List Coords) → m ≡ l → kind ≡ l.kind → places ≡ l.places → ◌≡◌ {A = Line} (record { kind = kind; places = places }) m
line-is l m kind places same k ps = (λ i. record { kind = k i; places = ps i }) ∙ sym same

pub len_of : (es : List (ℕ × Line)) → IsTrue (finmap.is_sorted nat_cmp es) → finmap.len (finmap.from_sorted {R = nat_cmp} es) ≡ length es
len_of es h = finmap.len-entries _ ∙ ap length (entries_of es h)

-- the numbers are below the next one, which is below the end of its type
pub numbers : (es : List (ℕ × Line)) (next places : ℕ) → IsSound es next places → AreNumbers es
numbers es next places s = All-weaker (λ (e : ℕ × Line). e.0 < next) (λ e. e.0 < 2 ^ 32) (λ e lt. omega (arith, lt, s.bound)) es s.fresh

-- how many lines pass, with their numbers or without
pub passed-values : (test : Line → Bool) (es : List (ℕ × Line)) → length (filter (λ (e : ℕ × Line). test e.1) es) ≡ length (filter test (map (λ (e : ℕ × Line). e.1) es))
passed-values test [] = refl
passed-values test (e ∷ es) = at (test e.1) (passed-values test es)
  where
    at : (b : Bool) → length (filter (λ (e : ℕ × Line). test e.1) es) ≡ length (filter test (map (λ (e : ℕ × Line). e.1) es))
        → length (cond b (e ∷ filter (λ (e : ℕ × Line). test e.1) es) (filter (λ (e : ℕ × Line). test e.1) es)) ≡ length (cond b (e.1 ∷ filter test (map (λ (e : ℕ × Line). e.1) es)) (filter test (map (λ (e : ℕ × Line). e.1) es)))
    at true rest = omega (arith, rest)
    at false rest = rest
