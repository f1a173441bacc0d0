-- The pieces at a point are gathered on the way round it.
use Rattle.std.proofs.Common.{◌≡◌, ◌⊎◌, ℕ, suc, zero, ◌<◌, ◌++◌, List, [], ◌∷◌, refl, sym, ap, subst, ◌∙◌, inl, inr, arith}
use Rattle.std.specs.Prelude.{nat_eq, false, Bool, if◌then◌else◌}
use Rattle.std.specs.List.{All, Contains}
use Rattle.std.proofs.lemmas.Bool.Decides.{nat_tests}
use Rattle.std.proofs.lemmas.List.Elements.{All-nil, All-push, All-weaker, All-map, All-contains, Contains-append_left, Contains-append_right, Contains-push, Contains-push_cases}
use Rattle.ground_model.specs.declared.corner.Corner.{Corner}
use Rattle.ground_model.specs.declared.corner.Corner.TheVariants.{At}
use Rattle.ground_model.specs.Place.{Coords}
use Rattle.tri_pages.specs.Slots.{State}
use Rattle.mesh.specs.Net.{after, corner_at, count_at}
use Rattle.mesh.specs.Sheets.{IsSheetMesh, HasCorner, net_in}
use Rattle.mesh.proofs.NetOfMesh.{net_law}
use Rattle.point_edit.specs.Pieces.{IsCounted, IsPieceAt}
use Rattle.point_edit.proofs.Added.{place_is}
use Rattle.point_edit.proofs.MetPieces.{IsNew}
use Rattle.point_edit.proofs.StuckPoints.{piece_of, net_count}
use Rattle.line_edit.specs.declared.pieces.PieceEnd.{PieceEnd}
use Rattle.line_edit.specs.Ends.{AreApart, ArePiecesAt, ends_of, with_end}

-- ---- lists of places
apart_push : (qs : List Coords) (q : Coords) → AreApart qs → (Contains qs q → ⊥) → AreApart (qs ++ q ∷ [])
apart_push [] q h none = ((λ x. never x.0 x.1), tt)
  where
    never : (k : ℕ) → k < 0 → ⊥
    never k lt = omega (arith, lt)
apart_push (p ∷ ps) q h none = (
  (λ x. elim (Contains-push_cases ps q p x) as (λ _. ⊥) [
    | inl y ↦ h.0 y
    | inr e ↦ none (subst (λ (z : Coords). Contains (p ∷ ps) z) (sym e) (0, omega arith, refl))
  ]),
  apart_push ps q h.1 (λ x. none (Contains-append_right (p ∷ []) ps q x)),
)

ends_push : (found : List PieceEnd) (x : PieceEnd) → ends_of (found ++ x ∷ []) ≡ ends_of found ++ x.end ∷ []
ends_push [] x = refl
ends_push (y ∷ ys) x = ap (λ l. y.end ∷ l) (ends_push ys x)

-- ---- one edge more
some_or_none : (k : ℕ) → (0 < k) ⊎ (k ≡ 0)
some_or_none zero = inr refl
some_or_none (suc k) = inl (omega arith)

with_none : (found : List PieceEnd) (end : Corner) (n : ℕ) → n ≡ 0 → with_end found end n ≡ found
with_none found end zero e = refl
with_none found end (suc n) e = absurd (omega (arith, e))

with_some : (found : List PieceEnd) (q : Coords) (n : ℕ) → 0 < n → with_end found (At q) n ≡ found ++ record { end = q; count = n } ∷ []
with_some found q n h = ap (λ (b : Bool). if b then found else found ++ record { end = q; count = n } ∷ []) (is_some n h)
  where
    is_some : (n : ℕ) → 0 < n → nat_eq n 0 ≡ false
    is_some n h = let t : false ≡ nat_eq n 0 = grind (arith, nat_tests, h) in sym t

never_none : (n : ℕ) → n ≡ 0 → 0 < n → ⊥
never_none n e h = omega (arith, e, h)

module _ (slots : List State) (p : Coords) where
  abbrev end_at : HasCorner slots (At p) → Corner
  end_at x = corner_at x.tri (after x.side)

  abbrev count_of : HasCorner slots (At p) → ℕ
  count_of x = count_at x.tri x.side

  -- a piece to the place q was found
  pub record IsHad (x : HasCorner slots (At p)) (found : List PieceEnd) : Type 0 where
    pub q : Coords
    pub is : end_at x ≡ At q
    pub had : Contains (ends_of found) q

  -- the pieces at the triangles of P
  pub record AreGathered (P : HasCorner slots (At p) → Type 0) (found : List PieceEnd) : Type 0 where
    pub each : All (λ x. IsPieceAt slots p P (At x.end) x.count) found
    pub all : (x : HasCorner slots (At p)) → P x → IsCounted slots p x → IsHad x found
    pub once : AreApart (ends_of found)

  pub gathered_none : (P : HasCorner slots (At p) → Type 0) → ((x : HasCorner slots (At p)) → P x → ⊥) → AreGathered P []
  gathered_none P none = record { each = All-nil (λ x. IsPieceAt slots p P (At x.end) x.count); all = λ x h more. absurd (none x h); once = tt }

  module _ (m : IsSheetMesh slots) (P Q : HasCorner slots (At p) → Type 0) (y : HasCorner slots (At p)) (new : IsNew slots p P Q y) (found : List PieceEnd) (g : AreGathered P found) where
    wider : (x : PieceEnd) → IsPieceAt slots p P (At x.end) x.count → IsPieceAt slots p Q (At x.end) x.count
    wider x a = record { x = a.x; was = new.kept a.x a.was; end_is = a.end_is; count_is = a.count_is; some = a.some }

    uncounted : count_of y ≡ 0 → AreGathered Q found
    uncounted none = record {
      each = All-weaker (λ x. IsPieceAt slots p P (At x.end) x.count) (λ x. IsPieceAt slots p Q (At x.end) x.count) wider found g.each;
      all = λ x in_q more. elim (new.each x in_q) as (λ _. IsHad x found) [
        | inl h ↦ g.all x h more
        | inr h ↦ absurd (never_none (count_of x) (h.1 ∙ none) more)
      ];
      once = g.once;
    }

    module _ (q : Coords) (is : end_at y ≡ At q) (some : 0 < count_of y) where
      abbrev piece : PieceEnd
      piece = record { end = q; count = count_of y }

      ends : ends_of (found ++ piece ∷ []) ≡ ends_of found ++ q ∷ []
      ends = ends_push found piece

      had_before : (x : HasCorner slots (At p)) → IsHad x found → IsHad x (found ++ piece ∷ [])
      had_before x h = record { q = h.q; is = h.is; had = subst (λ l. Contains l h.q) (sym ends) (Contains-append_left (ends_of found) (q ∷ []) h.q h.had) }

      had_now : (x : HasCorner slots (At p)) → end_at x ≡ end_at y → IsHad x (found ++ piece ∷ [])
      had_now x e = record { q = q; is = e ∙ is; had = subst (λ l. Contains l q) (sym ends) (Contains-push (ends_of found) q) }

      elsewhere : (x : PieceEnd) → IsPieceAt slots p P (At x.end) x.count → x.end ≡ q → ⊥
      elsewhere x a e = new.other a.x a.was (a.end_is ∙ ap At e ∙ sym is)

      fresh : Contains (ends_of found) q → ⊥
      fresh h =
          All-contains (λ (z : Coords). z ≡ q → ⊥) (ends_of found) q
          (All-map (λ (z : Coords). z ≡ q → ⊥) (λ (x : PieceEnd). x.end) found (All-weaker (λ x. IsPieceAt slots p P (At x.end) x.count) (λ x. x.end ≡ q → ⊥) elsewhere found g.each)) h refl

      counted : AreGathered Q (found ++ piece ∷ [])
      counted = record {
        each = All-push (λ x. IsPieceAt slots p Q (At x.end) x.count) found piece
            (All-weaker (λ x. IsPieceAt slots p P (At x.end) x.count) (λ x. IsPieceAt slots p Q (At x.end) x.count) wider found g.each)
            (record { x = y; was = new.now; end_is = is; count_is = refl; some = some });
        all = λ x in_q more. elim (new.each x in_q) as (λ _. IsHad x (found ++ piece ∷ [])) [
          | inl h ↦ had_before x (g.all x h more)
          | inr h ↦ had_now x h.0
        ];
        once = subst AreApart (sym ends) (apart_push (ends_of found) q g.once fresh);
      }

    pub gathered_on : AreGathered Q (with_end found (end_at y) (count_of y))
    gathered_on = elim (some_or_none (count_of y)) as (λ _. AreGathered Q (with_end found (end_at y) (count_of y))) [
      | inl some ↦
          let e = piece_of slots m p y some in
          subst (λ l. AreGathered Q l) (sym (ap (λ c. with_end found c (count_of y)) e.is ∙ with_some found e.end (count_of y) some)) (counted e.end e.is some)
      | inr none ↦ subst (λ l. AreGathered Q l) (sym (with_none found (end_at y) (count_of y) none)) (uncounted none)
    ]

  -- where the pieces of all triangles at p were gathered, they are those of the net
  pub gathered_all : (m : IsSheetMesh slots) (P : HasCorner slots (At p) → Type 0) (found : List PieceEnd) → ((x : HasCorner slots (At p)) → P x) → AreGathered P found → ArePiecesAt (net_in slots) p found
  gathered_all m P found every g = record {
    each = All-weaker (λ x. IsPieceAt slots p P (At x.end) x.count) (λ x. (0 < x.count) × ((net_in slots).count p x.end ≡ x.count)) (λ x a. (a.some, sym (net_count slots m p a.x x.end a.end_is) ∙ a.count_is)) found g.each;
    all = λ q some.
        let b = (net_law slots m).pieces p q some in
        let x : HasCorner slots (At p) = record { slot = b.slot; tri = b.tri; side = b.side; there = b.there; is = b.tail } in
        let h = g.all x (every x) (subst (λ k. 0 < k) (sym (net_count slots m p x q b.head)) some) in
        subst (λ (z : Coords). Contains (ends_of found) z) (place_is h.q q (sym h.is ∙ b.head)) h.had;
    once = g.once;
  }
