-- Bytes up to the first end, and what comes after it.
use Rattle.std.proofs.Common.{◌≡◌, ℕ, true, false, ◌==◌, ◌&&◌, not, List, [], ◌∷◌, ◌++◌, length, take, bytes_eq, codes, refl, sym, ◌∙◌, ap, arith, append_assoc, length-append}
use Rattle.std.proofs.lemmas.List.{take-append-le}
use Rattle.landxml_read.specs.Markup.{is_free, is_up_to}
use Rattle.landxml_read.proofs.Bytes.{and_is}

-- the bytes go on to the first end, and what is left is an R
pub record Until (R : List ℕ → Type 0) (end ys : List ℕ) : Type 0 where
  pub bytes : List ℕ
  pub up_to : is_up_to end bytes ≡ true
  pub rest : List ℕ
  pub after : R rest
  pub text : ys ≡ bytes ++ (end ++ rest)

same_front : (end bytes rest : List ℕ) → take (length end) (bytes ++ (end ++ rest)) ≡ take (length end) (bytes ++ end)
same_front end bytes rest = ap (take (length end)) (sym (append_assoc bytes end rest)) ∙ take-append-le (length end) (bytes ++ end) rest (omega (arith, length-append bytes end))

-- a byte at which no end begins may stand before
pub until_more : (R : List ℕ → Type 0) (end ys : List ℕ) (y : ℕ) → is_free y ≡ true → bytes_eq (take (length end) (y ∷ ys)) end ≡ false → Until R end ys → Until R end (y ∷ ys)
until_more R end ys y free isnt c =
    record {
      bytes = y ∷ c.bytes;
      up_to = and_is _ _ (and_is _ _ (ap not (ap (λ w. bytes_eq w end) (sym (same_front end (y ∷ c.bytes) c.rest) ∙ ap (λ w. take (length end) (y ∷ w)) (sym c.text)) ∙ isnt)) free) c.up_to;
      rest = c.rest;
      after = c.after;
      text = ap (λ w. y ∷ w) c.text;
    }

pub until_end : (R : List ℕ → Type 0) (end rest : List ℕ) → R rest → Until R end (end ++ rest)
until_end R end rest r = record { bytes = []; up_to = refl; rest = rest; after = r; text = refl }

-- an end of a byte twice and >

abbrev pub twice : ℕ → List ℕ
twice x = x ∷ x ∷ 62 ∷ []

pub no_first : (x b : ℕ) (ys : List ℕ) → (b == x) ≡ false → bytes_eq (take 3 (b ∷ ys)) (twice x) ≡ false
no_first x b ys e = ap (λ t. t && bytes_eq (take 2 ys) (x ∷ 62 ∷ [])) e

same : (x : ℕ) → (x == x) ≡ true
same x = grind arith

pub no_second : (x b : ℕ) (ys : List ℕ) → (b == x) ≡ false → bytes_eq (take 3 (x ∷ b ∷ ys)) (twice x) ≡ false
no_second x b ys e = ap (λ t. t && (b == x && bytes_eq (take 1 ys) (62 ∷ []))) (same x) ∙ ap (λ t. t && bytes_eq (take 1 ys) (62 ∷ [])) e

pub no_third : (x b : ℕ) (ys : List ℕ) → (b == 62) ≡ false → bytes_eq (take 3 (x ∷ x ∷ b ∷ ys)) (twice x) ≡ false
no_third x b ys e = ap (λ t. t && (t && (b == 62 && bytes_eq (take 0 ys) []))) (same x) ∙ ap (λ t. t && bytes_eq (take 0 ys) []) e

-- an end of ? and >

pub no_mark : (b : ℕ) (ys : List ℕ) → (b == 63) ≡ false → bytes_eq (take 2 (b ∷ ys)) (codes "?>") ≡ false
no_mark b ys e = ap (λ t. t && bytes_eq (take 1 ys) (62 ∷ [])) e

pub no_close : (b : ℕ) (ys : List ℕ) → (b == 62) ≡ false → bytes_eq (take 2 (63 ∷ b ∷ ys)) (codes "?>") ≡ false
no_close b ys e = ap (λ t. t && bytes_eq (take 0 ys) []) e
