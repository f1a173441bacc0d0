-- A plan made at a legal history's base is right at its newest front, where no planned facet or point has changed.
use Rattle.std.proofs.Common.{◌≡◌, ℕ, zero, suc, ◌+◌, ◌<◌, ◌≤◌, ◌⊎◌, inl, inr, refl, sym, ap, subst, ◌∙◌, arith, List, [], ◌∷◌, Bool, true, false, cond, Some, None, take}
use Rattle.std.specs.Prelude.{not, ◌-◌, ◌||◌, map, slice_get, length, find, nat_lt, if◌then◌else◌}
use Rattle.std.specs.List.{list_any}
use Rattle.std.specs.declared.cmp.Ordering.{Ordering}
use Rattle.std.specs.declared.cmp.Ordering.TheVariants.{Less, Equal, Greater}
use Rattle.std.specs.Ordering.{eq_by_cmp, nat_cmp, is_eq}
use Rattle.std.specs.FinMap as finmap
use Rattle.std.proofs.lemmas.Bool.{both_ways as clash, lt-ltb, cases_lt}
use Rattle.std.proofs.lemmas.Cmp.{nat_cmp_total}
use Rattle.std.proofs.lemmas.List.{take-take}
use Rattle.std.proofs.Math.Seq.{take-length}
use Rattle.ground_model.specs.declared.limits.Limits.{Limits}
use Rattle.ground_model.specs.declared.entry.Entry.{Entry}
use Rattle.ground_model.specs.declared.mark.Mark.{Mark}
use Rattle.ground_model.specs.declared.mark.Mark.TheVariants.{Tri}
use Rattle.ground_model.specs.declared.facet.Facet.{Facet}
use Rattle.ground_model.specs.declared.line.LineId.{LineId}
use Rattle.ground_model.specs.declared.edit.Edit.{Edit}
use Rattle.ground_model.specs.declared.edit.Edit.TheVariants.{AddPoint, RemovePoint, SetLevel, AddLine, RemoveLine}
use Rattle.ground_model.specs.Line.{Line}
use Rattle.ground_model.specs.Content.{Content, after}
use Rattle.ground_model.specs.Tri.{tri, is_facet_of}
use Rattle.ground_model.specs.Mark.{is_same_facet, share_edge}
use Rattle.ground_model.specs.History.{content_of, IsLegal, IsNext, born}
use Rattle.ground_model.specs.Planar.{IsPlanar}
use Rattle.ground_model.specs.Answer.{is_there, has_changed, conflict}
use Rattle.ground_model.specs.Zone.{zone, planned_point, planned_facets, shaken, destroyed}
use Rattle.ground_model.proofs.Elements.{In, in_append, of_map, of_filter, none_found, each_at, each_from, entry_of_get}
use Rattle.ground_model.proofs.Planar.{planar-legal, is_point-keys}
use Rattle.ground_model.proofs.Past.{content_of-next, there_between}
use Rattle.ground_model.proofs.Members.{is_among-tri}
use Rattle.ground_model.proofs.Causes.{lawful_edit}
use Rattle.predicates.specs.Net.{Triangle}
use Rattle.cdt_law.specs.Plans.{Stands}
use Rattle.cdt_law.specs.StalePlan.{Stale, IsFresh, StaleLaw, content_at, plan_at}
use Rattle.cdt_law.proofs.PointLaw.{or_none}
use Rattle.cdt_law.proofs.Able.{Able, able-of}
use Rattle.cdt_law.proofs.PlanZone.{in-among}
use Rattle.cdt_law.proofs.PlanLaw.{Apt, right-where-apt}

-- ---- the first entries of a history
some-taken : {X : Type 0} (n : ℕ) (xs : List X) (k : ℕ) (x : X) → slice_get (take n xs) k ≡ Some x → (k < n) × (slice_get xs k ≡ Some x)
some-taken zero xs k x e = cc
some-taken (suc n) [] k x e = cc
some-taken (suc n) (y ∷ ys) zero x e = (omega arith, e)
some-taken (suc n) (y ∷ ys) (suc k) x e = let h = some-taken n ys k x e in (omega (arith, h.0), h.1)

-- they are legal
pub legal-taken : (limits : Limits) (h : List Entry) (n : ℕ) → IsLegal limits h → IsLegal limits (take n h)
legal-taken limits h n legal k entry e =
    let s = some-taken n h k entry e in
    subst (λ past. IsNext limits past entry) (sym (take-take k n h (at-most k n s.0))) (legal k entry s.1)
  where
    at-most : (k n : ℕ) → k < n → k ≤ n
    at-most k n h = omega (arith, h)

pub planar-taken : (limits : Limits) (h : List Entry) (n : ℕ) → IsLegal limits h → IsPlanar (content_of (take n h))
planar-taken limits h n legal = planar-legal limits (take n h) (legal-taken limits h n legal)

pub entry-at : {X : Type 0} (xs : List X) (k : ℕ) → k < length xs → (x : X) × (slice_get xs k ≡ Some x)
entry-at [] k lt = absurd (omega (arith, lt))
entry-at (x ∷ xs) zero lt = (x, refl)
entry-at (x ∷ xs) (suc k) lt = entry-at xs k (omega (arith, lt))

-- what holds at the base and passes from each entry to the next holds at each front from the base on
pub from-base : (h : List Entry) (base : ℕ) (P : ℕ → Type 0) → P base → ((k : ℕ) (x : Entry) → base ≤ k → k < length h → slice_get h k ≡ Some x → P k → P (suc k)) → (k : ℕ) → base ≤ k → k ≤ length h → P k
from-base h base P start next k le most = by (k - base) k le most (omega (arith, le))
  where
    by : (d k : ℕ) → base ≤ k → k ≤ length h → k ≡ base + d → P k
    by zero k le most e = subst P (omega (arith, e)) start
    by (suc d) zero le most e = absurd (omega (arith, e))
    by (suc d) (suc k) le most e =
        let x = entry-at h k (omega (arith, most)) in
        next k x.0 (omega (arith, e)) (omega (arith, most)) x.1 (by d k (omega (arith, e)) (omega (arith, most)) (omega (arith, e)))

-- ---- a line's number is not given again
pub not-next : (n m : ℕ) → n < m → eq_by_cmp nat_cmp n m ≡ false
not-next n m lt = by (eq_by_cmp nat_cmp n m) refl
  where
    equal : (r : Ordering) → nat_cmp n m ≡ r → is_eq r ≡ true → n ≡ m
    equal Less e h = cc
    equal Equal e h = finmap.nat_cmp-IsAntisymmetric n m e
    equal Greater e h = cc

    never : n ≡ m → ⊥
    never e = omega (arith, lt, e)

    by : (t : Bool) → eq_by_cmp nat_cmp n m ≡ t → t ≡ false
    by false e = refl
    by true e = absurd (never (equal (nat_cmp n m) refl e))

next-rises : (c : Content) (edit : Edit) → c.table.next ≤ (after c edit).table.next
unfolding after
next-rises c (AddPoint p z) = omega arith
next-rises c (RemovePoint p) = omega arith
next-rises c (SetLevel p z) = omega arith
next-rises c (AddLine kind places) = omega arith
next-rises c (RemoveLine id) = omega arith

-- a line of an old number that is there after an edit was there before
line-before : (c : Content) (edit : Edit) (n : ℕ) (line : Line) → n < c.table.next → finmap.get (after c edit).table.lines n ≡ Some line → finmap.get c.table.lines n ≡ Some line
unfolding after
line-before c (AddPoint p z) n line lt e = e
line-before c (RemovePoint p) n line lt e = e
line-before c (SetLevel p z) n line lt e = e
line-before c (AddLine kind places) n line lt e =
    sym (finmap.get-insert nat_cmp_total c.table.lines c.table.next (record { kind = kind; places = places }) n
    ∙ ap (λ t. cond t (Some (record { kind = kind; places = places })) (finmap.get c.table.lines n)) (not-next n c.table.next lt)) ∙ e
line-before c (RemoveLine id) n line lt e = by (eq_by_cmp nat_cmp n id.0) (sym (finmap.get-remove nat_cmp_total c.table.lines id.0 n) ∙ e)
  where
    by : (t : Bool) → cond t None (finmap.get c.table.lines n) ≡ Some line → finmap.get c.table.lines n ≡ Some line
    by true f = cc
    by false f = f

module _ (limits : Limits) (h : List Entry) (legal : IsLegal limits h) (base n : ℕ) (line : Line) (there : finmap.get (content_of (take base h)).table.lines n ≡ Some line) where
  number-old : n < (content_of (take base h)).table.next
  number-old =
      each_at (λ entry. entry.0 < (content_of (take base h)).table.next) (finmap.entries (content_of (take base h)).table.lines) (n, line) (planar-taken limits h base legal).fresh
      (entry_of_get nat_cmp_total finmap.nat_cmp-IsAntisymmetric (content_of (take base h)).table.lines n line there)

  pub still-old : (k : ℕ) → base ≤ k → k ≤ length h → n < (content_of (take k h)).table.next
  still-old = from-base h base (λ k. n < (content_of (take k h)).table.next) number-old (λ k x le lt at old. later k x at old)
    where
      later : (k : ℕ) (x : Entry) → slice_get h k ≡ Some x → n < (content_of (take k h)).table.next → n < (content_of (take (suc k) h)).table.next
      later k x at old = subst (λ c. n < c.table.next) (sym (content_of-next h k x at)) (up n (content_of (take k h)).table.next (after (content_of (take k h)) x.edit).table.next old (next-rises (content_of (take k h)) x.edit))
        where
          up : (a b c : ℕ) → a < b → b ≤ c → a < c
          up a b c h g = omega (arith, h, g)

  -- where a line has the number at a later front, it is the same line
  pub one-line : (k : ℕ) → base ≤ k → k ≤ length h → (other : Line) → finmap.get (content_of (take k h)).table.lines n ≡ Some other → finmap.get (content_of (take base h)).table.lines n ≡ Some other
  one-line = from-base h base (λ k. (other : Line) → finmap.get (content_of (take k h)).table.lines n ≡ Some other → finmap.get (content_of (take base h)).table.lines n ≡ Some other) (λ other e. e) next
    where
      next : (k : ℕ) (x : Entry) → base ≤ k → k < length h → slice_get h k ≡ Some x → ((other : Line) → finmap.get (content_of (take k h)).table.lines n ≡ Some other → finmap.get (content_of (take base h)).table.lines n ≡ Some other)
          → (other : Line) → finmap.get (content_of (take (suc k) h)).table.lines n ≡ Some other → finmap.get (content_of (take base h)).table.lines n ≡ Some other
      next k x le lt at before other e =
          before other (line-before (content_of (take k h)) x.edit n other (still-old k le (least k (length h) lt)) (sym (ap (λ (c : Content). finmap.get c.table.lines n) (content_of-next h k x at)) ∙ e))
        where
          least : (k n : ℕ) → k < n → k ≤ n
          least k n h = omega (arith, h)

-- ---- marks
-- the marks of an edit that can be made are there
point-marks : (c : Content) (edit : Edit) → Able c edit → (m : Mark) → In m (planned_point edit) → is_there c m ≡ true
point-marks c (AddPoint p z) able m i = absurd i
point-marks c (RemovePoint p) able m (inl e) = ap (is_there c) e ∙ sym (is_point-keys c.points p) ∙ able.0
point-marks c (RemovePoint p) able m (inr i) = absurd i
point-marks c (SetLevel p z) able m (inl e) = ap (is_there c) e ∙ sym (is_point-keys c.points p) ∙ able
point-marks c (SetLevel p z) able m (inr i) = absurd i
point-marks c (AddLine kind places) able m i = absurd i
point-marks c (RemoveLine id) able m i = absurd i

shaken-there : (c : Content) (edit : Edit) (f : Facet) → In f (shaken c edit) → is_facet_of c f ≡ true
unfolding shaken
shaken-there c edit f i =
    sym (is_among-tri c f) ∙ in-among (tri c) f (of_filter (λ f. list_any (λ g. is_same_facet f g || share_edge f g) (destroyed c edit)) (tri c) f i).0

facet-marks : (c : Content) (edit : Edit) (f : Facet) → In f (planned_facets c edit) → is_facet_of c f ≡ true
facet-marks c (AddPoint p z) f i = shaken-there c (AddPoint p z) f i
facet-marks c (RemovePoint p) f i = shaken-there c (RemovePoint p) f i
facet-marks c (SetLevel p z) f i = absurd i
facet-marks c (AddLine kind places) f i = shaken-there c (AddLine kind places) f i
facet-marks c (RemoveLine id) f i = shaken-there c (RemoveLine id) f i

zone-there : (c : Content) (edit : Edit) → Able c edit → (m : Mark) → In m (zone c edit) → is_there c m ≡ true
unfolding zone
zone-there c edit able m i = by (in_append (planned_point edit) (map Tri (planned_facets c edit)) m i)
  where
    by : In m (planned_point edit) ⊎ In m (map Tri (planned_facets c edit)) → is_there c m ≡ true
    by (inl i) = point-marks c edit able m i
    by (inr i) = let f = of_map Tri (planned_facets c edit) m i in ap (is_there c) f.2 ∙ facet-marks c edit f.0 f.1

-- ---- a fresh plan stands at each front from its base on
module _ (limits : Limits) (s : Stale) (f : IsFresh limits s) where
  abbrev base_content : Content
  base_content = content_at s.history s.pending.base

  pub able-base : Able base_content s.pending.edit
  able-base = able-of base_content limits s.pending.edit (lawful_edit base_content s.pending.base limits s.pending.edit f.lawful)

  mark-there : (k : ℕ) → s.pending.base ≤ k → k ≤ length s.history → (m : Mark) → In m (zone base_content s.pending.edit) → is_there (content_at s.history k) m ≡ true
  unfolding conflict born
  mark-there k le most m i = by (nat_lt s.pending.base (length s.history)) refl f.unchanged
    where
      not-less : (a b : ℕ) → nat_lt a b ≡ false → b ≤ a
      not-less a b e = by (cases_lt a b)
        where
          by : (a < b) ⊎ (b ≤ a) → b ≤ a
          by (inl lt) = absurd (clash (nat_lt a b) e (lt-ltb a b lt))
          by (inr ge) = ge

      not-off : (x : Bool) → not x ≡ false → x ≡ true
      not-off true e = refl
      not-off false e = cc

      is-base : (b n k : ℕ) → n ≤ b → b ≤ k → k ≤ n → b ≡ k
      is-base b n k h g e = omega (arith, h, g, e)

      by : (t : Bool) → nat_lt s.pending.base (length s.history) ≡ t → (if t then find (has_changed s.history s.pending.base) (zone base_content s.pending.edit) else None) ≡ None → is_there (content_at s.history k) m ≡ true
      by false e none =
          subst (λ j. is_there (content_at s.history j) m ≡ true) (is-base s.pending.base (length s.history) k (not-less s.pending.base (length s.history) e) le most) (zone-there base_content s.pending.edit able-base m i)
      by true e none =
          let changed = none_found (has_changed s.history s.pending.base) (zone base_content s.pending.edit) m none i in
          let parts = or_none (not (is_there (content_of s.history) m)) (nat_lt s.pending.base (born s.history m)) changed in
          there_between s.history m s.pending.base k (length s.history) le most (not-less s.pending.base (born s.history m) parts.1)
          (ap (λ h. is_there (content_of h) m) (take-length s.history) ∙ not-off (is_there (content_of s.history) m) parts.0)

  pub stands-at : (k : ℕ) → s.pending.base ≤ k → k ≤ length s.history → (now : List Triangle) → Stands (plan_at s k now)
  stands-at k le most now = record { inner = f.inner; there = each_from (λ m. is_there (content_at s.history k) m ≡ true) (zone base_content s.pending.edit) (mark-there k le most) }

  -- a line that the edit takes is one line
  pub same-line-at : (k : ℕ) → s.pending.base ≤ k → k ≤ length s.history → Able (content_at s.history k) s.pending.edit → (id : LineId) → s.pending.edit ≡ RemoveLine id
      → finmap.get (content_at s.history k).table.lines id.0 ≡ finmap.get base_content.table.lines id.0
  same-line-at k le most able id e =
      let here : Able (content_at s.history k) (RemoveLine id) = subst (Able (content_at s.history k)) e able in
      let there : Able base_content (RemoveLine id) = subst (Able base_content) e able-base in
      here.1 ∙ sym (one-line limits s.history f.legal s.pending.base id.0 there.0 there.1 k le most here.0 here.1)

  pub apt-at : (k : ℕ) → s.pending.base ≤ k → k ≤ length s.history → (now : List Triangle) → Able (content_at s.history k) s.pending.edit → Apt (plan_at s k now)
  apt-at k le most now able = record {
    planar = planar-taken limits s.history s.pending.base f.legal;
    planar_now = planar-taken limits s.history k f.legal;
    able = able-base;
    able_now = able;
    same_line = same-line-at k le most able;
  }

pub stale_law : StaleLaw
stale_law limits s now f lawful m =
    let all : length s.history ≤ length s.history = omega arith in
    let able = able-of (content_at s.history (length s.history)) limits s.pending.edit (lawful_edit (content_at s.history (length s.history)) (length s.history) limits s.pending.edit lawful) in
    right-where-apt (plan_at s (length s.history) now) m (apt-at limits s f (length s.history) f.within all now able) (stands-at limits s f (length s.history) f.within all now)
