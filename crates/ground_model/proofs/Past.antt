-- Histories: the content one entry on, and which entry a mark's birth is.
use Rattle.std.proofs.Common.{◌≡◌, ℕ, zero, suc, ◌<◌, ◌≤◌, refl, sym, ap, ◌∙◌, arith, true≢false, List, [], ◌∷◌, Bool, true, false, Some, take}
use Rattle.std.specs.Prelude.{ℤ, ◌+◌, ◌-◌, ◌&&◌, not, Option, None, is_some, fold, slice_get, if◌then◌else◌}
use Rattle.ground_model.specs.declared.entry.Entry.{Entry}
use Rattle.ground_model.specs.declared.mark.Mark.{Mark}
use Rattle.ground_model.specs.declared.mark.Mark.TheVariants.{Point, Tri}
use Rattle.ground_model.specs.Content.{Content, empty, after, level_of}
use Rattle.ground_model.specs.Tri.{is_facet_of}
use Rattle.ground_model.specs.History.{content_of, is_new_level, is_made, makes, born_by}
use Rattle.ground_model.specs.Answer.{is_there}

some_is : {X : Type 0} (x y : X) → Some x ≡ Some y → x ≡ y
some_is x y e = cc

pub content_of-next : (h : List Entry) (k : ℕ) (x : Entry) → slice_get h k ≡ Some x → content_of (take (suc k) h) ≡ after (content_of (take k h)) x.edit
unfolding content_of
content_of-next h k x e = next empty h k e
  where
    next : (c : Content) (h : List Entry) (k : ℕ) → slice_get h k ≡ Some x → fold (λ c entry. after c entry.edit) c (take (suc k) h) ≡ after (fold (λ c entry. after c entry.edit) c (take k h)) x.edit
    next c [] k e = cc
    next c (y ∷ ys) zero e = ap (λ z. after c z.edit) (some_is y x e)
    next c (y ∷ ys) (suc k) e = next (after c y.edit) ys k e

pub born_by-le : (h : List Entry) (m : Mark) (n : ℕ) → born_by h m n ≤ n
born_by-le h m zero = omega arith
born_by-le h m (suc n) = up (makes h m n) (born_by h m n) (born_by-le h m n)
  where
    up : (t : Bool) (k : ℕ) → k ≤ n → (if t then suc n else k) ≤ suc n
    up true k le = omega arith
    up false k le = omega (arith, le)

-- an entry that makes the mark does not come after its birth
pub born_by-after : (h : List Entry) (m : Mark) (base n k : ℕ) → base ≤ k → k < n → makes h m k ≡ true → base < born_by h m n
born_by-after h m base zero k le lt e = absurd (omega (arith, lt))
born_by-after h m base (suc n) k le lt e = by_test (makes h m n) (born_by h m n) (λ f.
    let other : ¬ (k ≡ n) = λ q. true≢false (sym e ∙ ap (makes h m) q ∙ f) in
    born_by-after h m base n k le (omega (arith, lt, other)) e)
  where
    by_test : (t : Bool) (b : ℕ) → (t ≡ false → base < b) → base < (if t then suc n else b)
    by_test true b more = omega (arith, le, lt)
    by_test false b more = more refl

-- a birth is an entry that makes the mark
pub born_by-made : (h : List Entry) (m : Mark) (base n : ℕ) → base < born_by h m n → (k : ℕ) × (base ≤ k) × (k < n) × (makes h m k ≡ true)
born_by-made h m base zero lt = absurd (omega (arith, lt))
born_by-made h m base (suc n) lt = by_test (makes h m n) refl lt (λ less. born_by-made h m base n less)
  where
    by_test : (t : Bool) → makes h m n ≡ t → base < (if t then suc n else born_by h m n)
        → (base < born_by h m n → (k : ℕ) × (base ≤ k) × (k < n) × (makes h m k ≡ true))
        → (k : ℕ) × (base ≤ k) × (k < suc n) × (makes h m k ≡ true)
    by_test true e lt below = (n, omega (arith, lt), omega arith, e)
    by_test false e lt below = later (below lt)
      where
        later : (k : ℕ) × (base ≤ k) × (k < n) × (makes h m k ≡ true) → (k : ℕ) × (base ≤ k) × (k < suc n) × (makes h m k ≡ true)
        later (k, le, less, made) = (k, le, omega (arith, less), made)

-- ---- what is there and was not made since was there all the time
there_before : (before now : Content) (m : Mark) → is_there now m ≡ true → is_made before now m ≡ false → is_there before m ≡ true
there_before before now (Tri f) t e = facet (is_facet_of now f) (is_facet_of before f) t e
  where
    facet : (x y : Bool) → x ≡ true → (x && not y) ≡ false → y ≡ true
    facet true true h e = refl
    facet true false h e = cc
    facet false y h e = cc
there_before before now (Point p) t e = level (level_of before p) (level_of now p) t e
  where
    level : (x y : Option ℤ) → is_some y ≡ true → is_new_level x y ≡ false → is_some x ≡ true
    level (Some x) y h e = refl
    level None None h e = cc
    level None (Some y) h e = cc

there_by : (h : List Entry) (m : Mark) (base k d n : ℕ) → n ≡ k + d → base ≤ k → born_by h m n ≤ base → is_there (content_of (take n h)) m ≡ true → is_there (content_of (take k h)) m ≡ true
there_by h m base k zero n e le born there = sym (ap (λ j. is_there (content_of (take j h)) m) same) ∙ there
  where
    same : n ≡ k
    same = omega (arith, e)
there_by h m base k (suc d) zero e le born there = absurd (omega (arith, e))
there_by h m base k (suc d) (suc n) e le born there = by_test (makes h m n) refl born (λ f less. there_by h m base k d n (omega (arith, e)) le less (there_before (content_of (take n h)) (content_of (take (suc n) h)) m there f))
  where
    by_test : (t : Bool) → makes h m n ≡ t → (if t then suc n else born_by h m n) ≤ base
        → (makes h m n ≡ false → born_by h m n ≤ base → is_there (content_of (take k h)) m ≡ true) → is_there (content_of (take k h)) m ≡ true
    by_test true f late rest = absurd (omega (arith, e, le, late))
    by_test false f late rest = rest f late

pub there_between : (h : List Entry) (m : Mark) (base k n : ℕ) → base ≤ k → k ≤ n → born_by h m n ≤ base → is_there (content_of (take n h)) m ≡ true → is_there (content_of (take k h)) m ≡ true
there_between h m base k n le less born there = there_by h m base k (n - k) n (omega (arith, less)) le born there
