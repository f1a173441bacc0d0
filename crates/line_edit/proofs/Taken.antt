-- One line less over an edge, and then Lawson's flips.
use Rattle.std.proofs.Common.{◌≡◌, ◌⊎◌, ◌<◌, ◌+◌, ℕ, Some, List, [], ◌∷◌, sym, ap, subst, ◌∙◌, inl, inr}
use Rattle.std.proofs.lemmas.Bool.{cases_eq}
use Rattle.ground_model.specs.declared.corner.Corner.TheVariants.{At}
use Rattle.ground_model.specs.Place.{Coords}
use Rattle.predicates.specs.Net.{Net, count_of}
use Rattle.tri_pages.specs.Slots.{State, triangle_at}
use Rattle.tri_pages.specs.declared.tri_slot.TriSlot.{TriSlot}
use Rattle.mesh.specs.Faces.{face_at}
use Rattle.mesh.specs.FlipRuns.{FlipRun, slots_named}
use Rattle.mesh.specs.Meshes.{MeshView, raised}
use Rattle.mesh.specs.Net.{Side, after, corner_at, count_at, side, slots_of}
use Rattle.mesh.specs.NetChanges.{HaveSamePoints, HaveSameCounts, IsPair}
use Rattle.mesh.specs.Recounts.{IsRecounted}
use Rattle.mesh.specs.Sheets.{IsSheetMesh, HasSide, net_in}
use Rattle.mesh.specs.Steps.{TakeStep}
use Rattle.mesh.specs.Suspects.{IsNamedFrom}
use Rattle.mesh.proofs.NetOfMesh.{net_law, sheet_in}
use Rattle.mesh.proofs.StepContents.{recount_law, flips_law}
use Rattle.point_edit.specs.Results.{NamesWritten}
use Rattle.point_edit.proofs.Written.{named, written_on, flips_written}
use Rattle.line_edit.specs.Counts.{HasOneLineMore}
use Rattle.line_edit.specs.Edges.{IsFromTo, HasNoSide}
use Rattle.line_edit.specs.Removals.{PieceRemoval}

-- ---- the slots of a changed count
pub recount_written : (old new : List State) (s : ℕ) (k : Side) (n m : ℕ) → IsRecounted old new s k n m → NamesWritten old new (s ∷ n ∷ [])
recount_written old new s k n m is = λ i.
    elim (cases_eq i s) as (λ _. IsNamedFrom (s ∷ n ∷ []) 0 i ⊎ (face_at (slots_of new) i ≡ face_at (slots_of old) i)) [
      | inl e ↦ inl (named (s ∷ n ∷ []) 0 i (ap Some (sym e)))
      | inr not_s ↦ elim (cases_eq i n) as (λ _. IsNamedFrom (s ∷ n ∷ []) 0 i ⊎ (face_at (slots_of new) i ≡ face_at (slots_of old) i)) [
        | inl e ↦ inl (named (s ∷ n ∷ []) 1 i (ap Some (sym e)))
        | inr not_n ↦ inr (is.rest i not_s not_n)
      ]
    ]

-- ---- an edge from p to q, and its count
module _ (slots : List State) (m : IsSheetMesh slots) (s k : ℕ) (p q : Coords) (is : IsFromTo slots s k p q) where
  pub edge_count : (t : TriSlot) → triangle_at slots s ≡ Some t → count_at t (side k) ≡ (net_in slots).count p q
  edge_count t there =
      let x : HasSide slots (At p) (At q) = record { slot = s; tri = t; side = side k; there = there; tail = is.from.at t there; head = is.to t there } in
      (net_law slots m).counts p q x

  pub edge_counted : 0 < (net_in slots).count p q → (t : TriSlot) → triangle_at slots s ≡ Some t → 0 < count_at t (side k)
  edge_counted some t there = subst (λ n. 0 < n) (sym (edge_count t there)) some

-- a piece is an edge
pub piece_is_edge : (slots : List State) (m : IsSheetMesh slots) (p q : Coords) → 0 < (net_in slots).count p q → HasNoSide slots p q → ⊥
piece_is_edge slots m p q some none = none ((net_law slots m).pieces p q some)

-- ---- a count that changed is that of pq alone
module _ (old new : List State) (m : IsSheetMesh old) (m' : IsSheetMesh new) (s k : ℕ) (p q : Coords) (is : IsFromTo old s k p q) (n c : ℕ) (x : IsRecounted old new s (side k) n c) where
  from : corner_at x.tri (side k) ≡ At p
  from = is.from.at x.tri x.here

  to : corner_at x.tri (after (side k)) ≡ At q
  to = is.to x.tri x.here

  pub count_now : (net_in new).count p q ≡ c
  count_now = subst (λ z. z) (λ i. count_of (net_in new) (from i) (to i) ≡ c) (recount_law old new s (side k) n c m m' x).1.0

  pub points_stay : HaveSamePoints (net_in old) (net_in new)
  points_stay = (recount_law old new s (side k) n c m m' x).0

  pub counts_stay : (a b : Coords) → (IsPair (At p) (At q) (At a) (At b) → ⊥) → (net_in new).count a b ≡ (net_in old).count a b
  counts_stay a b other = (recount_law old new s (side k) n c m m' x).1.1 a b (λ pair. other (subst (λ z. z) (λ i. IsPair (from i) (to i) (At a) (At b)) pair))

-- ---- one line less
module _ (old less : List State) (m : IsSheetMesh old) (m' : IsSheetMesh less) (s k : ℕ) (p q : Coords) (is : IsFromTo old s k p q) (before after_it : List ℕ) (t : TakeStep old less s (side k) before after_it) where
  there : (net_in old).count p q ≡ (net_in less).count p q + 1
  there = sym (edge_count old m s k p q is t.tri t.here) ∙ sym t.one_less ∙ ap (λ n. n + 1) (sym (count_now old less m m' s k p q is t.is.n t.count t.is.is))

  pub line_less : HasOneLineMore (net_in less) (net_in old) p q
  line_less = record {
    points = λ a. sym (points_stay old less m m' s k p q is t.is.n t.count t.is.is a);
    count = there;
    back = sym ((sheet_in old m).even p q) ∙ there ∙ ap (λ n. n + 1) ((sheet_in less m').even p q);
    others = λ a b other. sym (counts_stay old less m m' s k p q is t.is.n t.count t.is.is a b other);
  }

-- flips after it leave that
pub line_less_on : (mid new old : Net) (p q : Coords) → HasOneLineMore mid old p q → HaveSamePoints mid new → HaveSameCounts mid new → HasOneLineMore new old p q
line_less_on mid new old p q x points counts = record {
  points = λ a. x.points a ∙ sym (points a);
  count = x.count ∙ ap (λ n. n + 1) (sym (counts p q));
  back = x.back ∙ ap (λ n. n + 1) (sym (counts q p));
  others = λ a b other. x.others a b other ∙ sym (counts a b);
}

-- ---- a removal
abbrev pub removal_of : (old less new : MeshView) (p q : Coords) (slot edge : ℕ) (before named script : List ℕ) → before ≡ [] → IsFromTo old.slots slot edge p q → TakeStep old.slots less.slots slot (side edge) before named → less.turns ≡ raised old.turns
    → FlipRun less new named script → PieceRemoval old new p q script
removal_of old less new p q slot edge before named script fresh is taken counted flips = record {
  less = less;
  named = named;
  slot = slot;
  edge = edge;
  is = is;
  taken = subst (λ xs. TakeStep old.slots less.slots slot (side edge) xs named) fresh taken;
  counted = counted;
  flips = flips;
}

module _ (old new : MeshView) (p q : Coords) (script : List ℕ) (x : PieceRemoval old new p q script) (m : IsSheetMesh old.slots) (m' : IsSheetMesh x.less.slots) where
  pub removed_line : HasOneLineMore (net_in new.slots) (net_in old.slots) p q
  removed_line =
      let same = flips_law x.less new x.named script m' x.flips in
      line_less_on (net_in x.less.slots) (net_in new.slots) (net_in old.slots) p q (line_less old.slots x.less.slots m m' x.slot x.edge p q x.is [] x.named x.taken) same.0 same.1

pub removal_written : (old new : MeshView) (p q : Coords) (script : List ℕ) → PieceRemoval old new p q script → NamesWritten old.slots new.slots script
removal_written old new p q script x =
    subst (λ xs. NamesWritten old.slots new.slots xs) (sym x.flips.named)
    (written_on old.slots x.less.slots new.slots x.named (slots_named x.flips.flips)
    (subst (λ xs. NamesWritten old.slots x.less.slots xs) (sym x.taken.is.named) (recount_written old.slots x.less.slots x.slot (side x.edge) x.taken.is.n x.taken.count x.taken.is.is))
    (flips_written x.flips.flips x.less.slots new.slots x.flips.are))
