-- Facts of tests and of bytes.
use Rattle.std.proofs.Common.{◌≡◌, ℕ, Bool, true, false, ◌==◌, ◌&&◌, ◌||◌, not, refl, ◌∙◌, ap, eqb-true, ◌⊎◌, inl, inr}
use Rattle.landxml_read.specs.Markup.{is_white, is_free, begins_name, is_in_name, is_quote}

pub both : (a b : Bool) → (a && b) ≡ true → (a ≡ true) × (b ≡ true)
both true true e = (refl, refl)
both true false e = cc
both false b e = cc

pub and_is : (a b : Bool) → a ≡ true → b ≡ true → (a && b) ≡ true
and_is a b e f = rw (e, f) refl

pub clash : (b : Bool) → b ≡ true → b ≡ false → ⊥
clash true e f = cc
clash false e f = cc

pub flip_true : (b : Bool) → not b ≡ true → b ≡ false
flip_true true e = cc
flip_true false e = refl

pub flip_false : (b : Bool) → b ≡ false → not b ≡ true
flip_false b e = ap not e

-- a byte that passes a test is not one that doesn't
pub differs : (p : ℕ → Bool) (b k : ℕ) → p b ≡ true → p k ≡ false → (b == k) ≡ false
differs p b k is isnt = pick (b == k) refl
  where
    pick : (t : Bool) → (b == k) ≡ t → t ≡ false
    pick false e = refl
    pick true e = absurd (clash (p b) is (ap p (eqb-true b k e) ∙ isnt))

either : (a b : Bool) → (a || b) ≡ true → (a ≡ true) ⊎ (b ≡ true)
either true b e = inl refl
either false b e = inr e

-- white is a space, TAB, LF or CR
pub white_cases : (p : ℕ → Bool) (t : Bool) (b : ℕ) → is_white b ≡ true → p 32 ≡ t → p 9 ≡ t → p 10 ≡ t → p 13 ≡ t → p b ≡ t
white_cases p t b w space tab lf cr =
    elim (either ((b == 32 || b == 9) || b == 10) (b == 13) w) [
      | inl x ↦ elim (either (b == 32 || b == 9) (b == 10) x) [
        | inl y ↦ elim (either (b == 32) (b == 9) y) [
          | inl e ↦ ap p (eqb-true b 32 e) ∙ space
          | inr e ↦ ap p (eqb-true b 9 e) ∙ tab
        ]
        | inr e ↦ ap p (eqb-true b 10 e) ∙ lf
      ]
      | inr e ↦ ap p (eqb-true b 13 e) ∙ cr
    ]

pub white_free : (b : ℕ) → is_white b ≡ true → is_free b ≡ true
white_free b w = white_cases is_free true b w refl refl refl refl

pub white_in_no_name : (b : ℕ) → is_white b ≡ true → is_in_name b ≡ false
white_in_no_name b w = white_cases is_in_name false b w refl refl refl refl

pub white_begins_no_name : (b : ℕ) → is_white b ≡ true → begins_name b ≡ false
white_begins_no_name b w = white_cases begins_name false b w refl refl refl refl

pub quote_cases : (q : ℕ) → is_quote q ≡ true → (q ≡ 34) ⊎ (q ≡ 39)
quote_cases q e = elim (either (q == 34) (q == 39) e) [ inl h ↦ inl (eqb-true q 34 h) | inr h ↦ inr (eqb-true q 39 h) ]
