-- What a line more or less in the table of lines does to counts.
use Rattle.std.proofs.Common.{◌≡◌, ℕ, ◌+◌, ◌<◌, refl, sym, ap, ◌∙◌, arith, List, [], ◌∷◌, Bool, true, false, cond, Some, None}
use Rattle.std.specs.Prelude.{map, count_by, Option, if◌then◌else◌}
use Rattle.std.specs.declared.cmp.Ordering.{Ordering}
use Rattle.std.specs.declared.cmp.Ordering.TheVariants.{Less, Equal, Greater}
use Rattle.std.specs.Ordering.{nat_cmp, eq_by_cmp, is_eq}
use Rattle.std.specs.FinMap as finmap
use Rattle.std.specs.FinMap.Entries.{find, put, by_order}
use Rattle.std.specs.Cmp.{tied_itself}
use Rattle.std.proofs.lemmas.Cmp.{nat_cmp_total}
use Rattle.std.proofs.lemmas.List.Sums.{sum_by-cons}
use Rattle.ground_model.specs.declared.line.LineId.{LineId}
use Rattle.ground_model.specs.declared.line.LineKind.{LineKind}
use Rattle.ground_model.specs.declared.edit.Edit.TheVariants.{AddLine, RemoveLine}
use Rattle.ground_model.specs.Place.{Coords, is_before}
use Rattle.ground_model.specs.Line.{Line, has_piece}
use Rattle.ground_model.specs.Table.{live, with_line, without_line, count_on}
use Rattle.ground_model.specs.Content.{Content, after, points_of, lines_of}
use Rattle.ground_model.specs.Planar.{IsPlanar}
use Rattle.ground_model.proofs.Elements.{entry_of_get, each_at}
use Rattle.predicates.specs.Net.{count_between}
use Rattle.cdt_law.proofs.LineTimes.{once_on, runs_on}

module _ (test : Line → Bool) where
  counted : List (ℕ × Line) → ℕ
  counted es = count_by test (map (λ e. e.1) es)

  counted-cons : (e : ℕ × Line) (es : List (ℕ × Line)) → counted (e ∷ es) ≡ cond (test e.1) 1 0 + counted es
  unfolding counted
  counted-cons e es = sum_by-cons (λ z. cond (test z) 1 0) e.1 (map (λ e. e.1) es)

  -- an entry at a new key is one more
  counted-put : (k : ℕ) (v : Line) (es : List (ℕ × Line)) → find nat_cmp k es ≡ None → counted (put nat_cmp k v es) ≡ cond (test v) 1 0 + counted es
  counted-put k v [] e = counted-cons (k, v) []
  counted-put k v (f ∷ es) e = by (nat_cmp k f.0) e (counted-put k v es)
    where
      swapped : (n m x y r s : ℕ) → n ≡ x + m → m ≡ y + r → s ≡ x + r → n ≡ y + s
      swapped n m x y r s e f g = omega (arith, e, f, g)

      by : (o : Ordering) → cond (is_eq o) (Some f.1) (find nat_cmp k es) ≡ None → (find nat_cmp k es ≡ None → counted (put nat_cmp k v es) ≡ cond (test v) 1 0 + counted es)
          → counted (by_order o ((k, v) ∷ f ∷ es) ((f.0, v) ∷ es) (f ∷ put nat_cmp k v es)) ≡ cond (test v) 1 0 + counted (f ∷ es)
      by Less h rest = counted-cons (k, v) (f ∷ es)
      by Equal h rest = cc
      by Greater h rest =
          swapped (counted (f ∷ put nat_cmp k v es)) (counted (put nat_cmp k v es)) (cond (test f.1) 1 0) (cond (test v) 1 0) (counted es) (counted (f ∷ es)) (counted-cons f (put nat_cmp k v es)) (rest h) (counted-cons f es)

  pub count-inserted : (m : finmap.FinMap nat_cmp Line) (k : ℕ) (v : Line) → finmap.get m k ≡ None → count_by test (finmap.values (finmap.insert m k v)) ≡ cond (test v) 1 0 + count_by test (finmap.values m)
  unfolding counted
  count-inserted m k v none = ap counted (finmap.entries-insert nat_cmp_total m k v) ∙ counted-put k v (finmap.entries m) (sym (finmap.get-entries m k) ∙ none)

  pub count-removed : (m : finmap.FinMap nat_cmp Line) (k : ℕ) (v : Line) → finmap.get m k ≡ Some v → count_by test (finmap.values m) ≡ cond (test v) 1 0 + count_by test (finmap.values (finmap.remove m k))
  count-removed m k v there =
      ap (λ (n : finmap.FinMap nat_cmp Line). count_by test (finmap.values n)) (finmap.same_map nat_cmp_total finmap.nat_cmp-IsAntisymmetric m (finmap.insert (finmap.remove m k) k v) back)
      ∙ count-inserted (finmap.remove m k) k v (finmap.get-remove nat_cmp_total m k k ∙ tied (eq_by_cmp nat_cmp k k) (itself k))
    where
      itself : (k : ℕ) → eq_by_cmp nat_cmp k k ≡ true
      itself k = ap is_eq (tied_itself nat_cmp_total k)

      tied : (t : Bool) → t ≡ true → cond t None (finmap.get m k) ≡ None
      tied true e = refl
      tied false e = cc

      back : (q : ℕ) → finmap.get m q ≡ finmap.get (finmap.insert (finmap.remove m k) k v) q
      back q = by (eq_by_cmp nat_cmp q k) refl ∙ sym (finmap.get-insert nat_cmp_total (finmap.remove m k) k v q ∙ ap (cond (eq_by_cmp nat_cmp q k) (Some v)) (finmap.get-remove nat_cmp_total m k q))
        where
          same : (o : Ordering) → nat_cmp q k ≡ o → is_eq o ≡ true → q ≡ k
          same Less e h = cc
          same Equal e h = finmap.nat_cmp-IsAntisymmetric q k e
          same Greater e h = cc

          by : (t : Bool) → eq_by_cmp nat_cmp q k ≡ t → finmap.get m q ≡ cond t (Some v) (cond t None (finmap.get m q))
          by true e = ap (finmap.get m) (same (nat_cmp q k) refl e) ∙ there
          by false e = refl

-- ---- contents
-- the number to come is above all that are live
new-number : (c : Content) → IsPlanar c → finmap.get c.table.lines c.table.next ≡ None
new-number c planar = by (finmap.get c.table.lines c.table.next) refl
  where
    never : (n : ℕ) → n < n → ⊥
    never n h = omega (arith, h)

    by : (o : Option Line) → finmap.get c.table.lines c.table.next ≡ o → o ≡ None
    by None e = refl
    by (Some line) e =
        absurd (never c.table.next (each_at (λ entry. entry.0 < c.table.next) (finmap.entries c.table.lines) (c.table.next, line) planar.fresh (entry_of_get nat_cmp_total finmap.nat_cmp-IsAntisymmetric c.table.lines c.table.next line e)))

either : (t : Bool) (x y u v m n : ℕ) → x ≡ u + m → y ≡ v + n → (if t then x else y) ≡ (if t then u else v) + (if t then m else n)
either true x y u v m n e f = e
either false x y u v m n e f = f

pub line-more : (c : Content) (kind : LineKind) (places : List Coords) → IsPlanar c → (p q : Coords)
    → count_between (after c (AddLine kind places)) p q ≡ runs_on (points_of c) (record { kind = kind; places = places }) p q + count_between c p q
unfolding after count_on
line-more c kind places planar p q = either (is_before p q) _ _ _ _ _ _ (one p q) (one q p)
  where
    one : (p q : Coords) → count_on (points_of c) (live (with_line c.table (record { kind = kind; places = places }))) p q ≡ once_on (points_of c) (record { kind = kind; places = places }) p q + count_on (points_of c) (lines_of c) p q
    one p q = count-inserted (λ line. has_piece (points_of c) line p q) c.table.lines c.table.next (record { kind = kind; places = places }) (new-number c planar)

pub line-less : (c : Content) (id : LineId) (line : Line) → finmap.get c.table.lines id.0 ≡ Some line → (p q : Coords)
    → count_between c p q ≡ runs_on (points_of c) line p q + count_between (after c (RemoveLine id)) p q
unfolding after count_on
line-less c id line there p q = either (is_before p q) _ _ _ _ _ _ (one p q) (one q p)
  where
    one : (p q : Coords) → count_on (points_of c) (lines_of c) p q ≡ once_on (points_of c) line p q + count_on (points_of c) (live (without_line c.table id.0)) p q
    one p q = count-removed (λ line. has_piece (points_of c) line p q) c.table.lines id.0 line there
