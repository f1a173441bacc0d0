-- Tests of faults: which of a list pass, and in which order the faults of an event stand.
use Rattle.std.proofs.Common.{◌≡◌, ℕ, ◌<◌, ◌≤◌, Bool, true, false, ◌==◌, ◌&&◌, cond, List, [], ◌∷◌, ◌++◌, refl, sym, ◌∙◌, ap, subst, arith, inl, inr, eqb-true, slice_index_or, if◌then◌else◌}
use Rattle.std.proofs.lemmas.List.Elements.{Contains-append_right, Contains-append_cases}
use Rattle.std.specs.Prelude.{Contains}
use Rattle.landxml_read.specs.declared.fault.DocCause.{DocCause}
use Rattle.landxml_read.specs.declared.fault.DocCause.TheVariants.{Utf8, Doctype, Syntax, Cut, Root, Depth, Tag, Long, Entity, Attr, Unit as BadUnit, SurfType, BrkType, BndType, Number, Big, Count, Range, NoHeight, Id, Face}
use Rattle.landxml_read.specs.Faults.{Fault, when}
use Rattle.landxml_read.specs.Answer.{rank}
use Rattle.landxml_read.proofs.Bytes.{both}
use Rattle.landxml_read.proofs.Totals.{total}

-- the cause at a place of the table
abbrev cause_at : ℕ → DocCause
cause_at n =
    if n == 0 then Utf8 else (if n == 1 then Doctype else (if n == 2 then Syntax else (if n == 3 then Cut else (if n == 4 then Root else (if n == 5 then Depth else (if n == 6 then Tag else (if n == 7 then Long
    else (if n == 8 then Entity else (if n == 9 then Attr else (if n == 10 then BadUnit else (if n == 11 then SurfType else (if n == 12 then BrkType else (if n == 13 then BndType else (if n == 14 then Number
    else (if n == 15 then Big else (if n == 16 then Count else (if n == 17 then Range else (if n == 18 then NoHeight else (if n == 19 then Id else Face)))))))))))))))))))

at_rank : (c : DocCause) → cause_at (rank c) ≡ c
at_rank Utf8 = refl
at_rank Doctype = refl
at_rank Syntax = refl
at_rank Cut = refl
at_rank Root = refl
at_rank Depth = refl
at_rank Tag = refl
at_rank Long = refl
at_rank Entity = refl
at_rank Attr = refl
at_rank BadUnit = refl
at_rank SurfType = refl
at_rank BrkType = refl
at_rank BndType = refl
at_rank Number = refl
at_rank Big = refl
at_rank Count = refl
at_rank Range = refl
at_rank NoHeight = refl
at_rank Id = refl
at_rank Face = refl

-- the fault is this one
abbrev pub is_fault : Fault → Fault → Bool
is_fault g f = (f.show == g.show && f.place == g.place) && rank f.cause == rank g.cause

pub fault_is : (g f : Fault) → is_fault g f ≡ true → f ≡ g
fault_is g f e =
    let h = both (f.show == g.show && f.place == g.place) (rank f.cause == rank g.cause) e in
    let k = both (f.show == g.show) (f.place == g.place) h.0 in
    let shows = eqb-true f.show g.show k.0 in
    let places = eqb-true f.place g.place k.1 in
    let causes : f.cause ≡ g.cause = sym (at_rank f.cause) ∙ ap cause_at (eqb-true (rank f.cause) (rank g.cause) h.1) ∙ at_rank g.cause in
    λ i. record { show = shows i; cause = causes i; place = places i }

same : (n : ℕ) → (n == n) ≡ true
same n = grind arith

pub is_itself : (f : Fault) → is_fault f f ≡ true
is_itself f = (λ i. (same f.show i && same f.place i) && same (rank f.cause) i)

-- one of a list passes a test that it passes
pub counted : (p : Fault → Bool) (fs : List Fault) (g : Fault) → p g ≡ true → Contains fs g → 0 < total p fs
counted p [] g e c = absurd (omega (arith, c.1))
counted p (f ∷ fs) g e c = elim (Contains-append_cases (f ∷ []) fs g c) [ inl h ↦ here h | inr h ↦ let r = counted p fs g e h in omega (arith, r) ]
  where
    here : Contains (f ∷ []) g → 0 < total p (f ∷ fs)
    here h =
        let zeroth : h.0 ≡ 0 = omega (arith, h.1) in
        let is : f ≡ g = sym (ap (λ k. slice_index_or (f ∷ []) k g) zeroth) ∙ h.2 in
        let passes : p f ≡ true = ap p is ∙ e in
        let one : ◌≡◌ {A = ℕ} (cond (p f) 1 0) 1 = ap (λ b. cond b 1 0) passes in
        omega (arith, one)

-- where one passes that only the fault passes, the fault is one of them
pub contained : (p : Fault → Bool) (g : Fault) → ((f : Fault) → p f ≡ true → f ≡ g) → (fs : List Fault) → 0 < total p fs → Contains fs g
contained p g only [] some = absurd (omega arith)
contained p g only (f ∷ fs) some = go (p f) refl (contained p g only fs)
  where
    go : (t : Bool) → p f ≡ t → (0 < total p fs → Contains fs g) → Contains (f ∷ fs) g
    go true e again =
        let Q : Fault → Type 0 = λ x. Contains (f ∷ fs) x in
        subst Q (only f e) (0, omega arith, refl)
    go false e again = let none : ◌≡◌ {A = ℕ} (cond (p f) 1 0) 0 = ap (λ b. cond b 1 0) e in Contains-append_right (f ∷ []) fs g (again (omega (arith, some, none)))

-- none passes
pub none_passes : (p : Fault → Bool) (fs : List Fault) → total p fs ≡ 0 → (g : Fault) → p g ≡ true → Contains fs g → ⊥
none_passes p fs e g passes c = let some = counted p fs g passes c in omega (arith, e, some)

-- all pass, so there is none
pub all_none : (fs : List Fault) → total (λ f. true) fs ≡ 0 → fs ≡ []
all_none [] e = refl
all_none (f ∷ fs) e = absurd (omega arith)

-- in the order of causes

-- from a place of the table to another, in its order
abbrev pub IsRanked : ℕ → ℕ → List Fault → Type 0
IsRanked low high [] = Unit {0}
IsRanked low high (f ∷ fs) = (low ≤ rank f.cause) × (rank f.cause ≤ high) × IsRanked (rank f.cause) high fs

lower : (low mid high : ℕ) (fs : List Fault) → low ≤ mid → IsRanked mid high fs → IsRanked low high fs
lower low mid high [] le r = tt
lower low mid high (f ∷ fs) le r = (omega (arith, r.0), r.1, r.2)

pub ranked_more : (low mid high : ℕ) (xs ys : List Fault) → low ≤ mid → mid ≤ high → IsRanked low mid xs → IsRanked mid high ys → IsRanked low high (xs ++ ys)
ranked_more low mid high [] ys le lf r s = lower low mid high ys le s
ranked_more low mid high (x ∷ xs) ys le lf r s = (r.0, omega (arith, r.1), ranked_more (rank x.cause) mid high xs ys r.1 lf r.2 s)

pub ranked_when : (low high : ℕ) (t : Bool) (f : Fault) → low ≤ rank f.cause → rank f.cause ≤ high → IsRanked low high (when t f)
ranked_when low high true f le lf = (le, lf, tt)
ranked_when low high false f le lf = tt

-- none stands before the first
pub first_ranked : (low high : ℕ) (fs : List Fault) (g : Fault) → IsRanked low high fs → Contains fs g → low ≤ rank g.cause
first_ranked low high [] g r c = absurd (omega (arith, c.1))
first_ranked low high (f ∷ fs) g r c = elim (Contains-append_cases (f ∷ []) fs g c) [ inl h ↦ here h | inr h ↦ let s = first_ranked (rank f.cause) high fs g r.2 h in omega (arith, r.0, s) ]
  where
    here : Contains (f ∷ []) g → low ≤ rank g.cause
    here h =
        let zeroth : h.0 ≡ 0 = omega (arith, h.1) in
        let is : f ≡ g = sym (ap (λ k. slice_index_or (f ∷ []) k g) zeroth) ∙ h.2 in
        let P : Fault → Type 0 = λ x. low ≤ rank x.cause in
        subst P is r.0
