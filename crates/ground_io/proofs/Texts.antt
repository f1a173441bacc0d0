-- Bytes that are written one piece after another.
use Rattle.std.proofs.Common.{◌≡◌, ℕ, suc, ◌+◌, ◌≤◌, List, [], ◌∷◌, ◌++◌, length, take, None, Some, Option, Ok, Err, Result, sym, ap, subst, ◌∙◌, arith, append_assoc, length-append, add-one, drop, get_or, ◌<◌}
use Rattle.std.proofs.lemmas.List.{take-append-le, take-append-drop, append-nil}
use Rattle.std.proofs.lemmas.Grind.{flat_map-append}
use Rattle.std.proofs.Math.Seq.{take-suc}
use Rattle.std.specs.List.{flat_map}
use Rattle.std.specs.Io.KnownBytes.{Appends}
use Rattle.ground_io.specs.Order.{Event, SendsAll, SendsSome, SendsText}
use Rattle.ground_io.proofs.Ordering.{sends_both}
use Rattle.ground_io.specs.Streams.{AppendsSome, WritesText}

pub appends_none : (w : Option (List ℕ)) → Appends w w []
appends_none None = tt
appends_none (Some xs) = sym (append-nil xs)

pub appends_both : (a b c : Option (List ℕ)) (xs ys : List ℕ) → Appends a b xs → Appends b c ys → Appends a c (xs ++ ys)
appends_both None b c xs ys p q = tt
appends_both (Some w) None c xs ys p q = absurd p
appends_both (Some w) (Some v) None xs ys p q = absurd q
appends_both (Some w) (Some v) (Some u) xs ys p q = q ∙ ap (λ z. z ++ ys) p ∙ append_assoc w xs ys

add_one_out : (m n : ℕ) → suc m + n ≡ suc (m + n)
add_one_out m n = omega arith

-- a beginning of a text that stands after xs
front_after : (xs text : List ℕ) (n : ℕ) → take (length xs + n) (xs ++ text) ≡ xs ++ take n text
front_after [] text n = ap (λ k. take k text) (omega arith)
front_after (x ∷ xs) text n = rw (add_one_out (length xs) n) (ap (λ z. x ∷ z) (front_after xs text n))

module _ (xs text rest : List ℕ) (n : ℕ) (in_text : n ≤ length text) where
  within : length xs + n ≤ length (xs ++ text)
  within = rw length-append (omega (arith, in_text))

  fits : length xs + n ≤ length ((xs ++ text) ++ rest)
  fits = rw (length-append (xs ++ text) rest) (omega (arith, within))

  -- a beginning of a text after xs, as a beginning of all of it
  front_of_all : xs ++ take n text ≡ take (length xs + n) ((xs ++ text) ++ rest)
  front_of_all = sym (take-append-le (length xs + n) (xs ++ text) rest within ∙ front_after xs text n)

-- after xs a beginning of the text was written: a beginning of all of it
pub appends_part : (a b c : Option (List ℕ)) (xs text rest : List ℕ) → Appends a b xs → AppendsSome b c text → AppendsSome a c ((xs ++ text) ++ rest)
appends_part a b c xs text rest p q = (length xs + q.0, fits xs text rest q.0 q.1, subst (Appends a c) (front_of_all xs text rest q.0 q.1) (appends_both a b c xs (take q.0 text) p q.2))

pub sends_part : (a b c : Option (List Event)) (xs text rest : List ℕ) → SendsAll a b xs → SendsSome b c text → SendsSome a c ((xs ++ text) ++ rest)
sends_part a b c xs text rest p q = (length xs + q.0, fits xs text rest q.0 q.1, subst (SendsAll a c) (front_of_all xs text rest q.0 q.1) (sends_both a b c xs (take q.0 text) p q.2))

-- lines before, and lines after
pub lines_parted : {X : Type 0} (f : X → List ℕ) (head : List ℕ) (xs : List X) (i : ℕ) → (head ++ flat_map f xs) ++ 10 ∷ [] ≡ (head ++ flat_map f (take i xs)) ++ (flat_map f (drop i xs) ++ 10 ∷ [])
lines_parted f head xs i =
    let parts = ap (flat_map f) (sym (take-append-drop i xs)) ∙ flat_map-append f (take i xs) (drop i xs) in
    ap (λ t. (head ++ t) ++ 10 ∷ []) parts ∙ ap (λ t. t ++ 10 ∷ []) (sym (append_assoc head (flat_map f (take i xs)) (flat_map f (drop i xs)))) ∙ append_assoc (head ++ flat_map f (take i xs)) (flat_map f (drop i xs)) (10 ∷ [])

-- one line more
pub lines_more : {X : Type 0} (f : X → List ℕ) (head : List ℕ) (xs : List X) (i : ℕ) (x : X) → i < length xs → x ≡ get_or xs i x → head ++ flat_map f (take (i + 1) xs) ≡ (head ++ flat_map f (take i xs)) ++ f x
lines_more f head xs i x within is =
    let front : take (i + 1) xs ≡ take i xs ++ x ∷ [] = rw add-one (take-suc xs i x within ∙ ap (λ y. take i xs ++ y ∷ []) (sym is)) in
    ap (λ t. head ++ flat_map f t) front ∙ ap (λ t. head ++ t) (flat_map-append f (take i xs) (x ∷ []) ∙ ap (λ t. flat_map f (take i xs) ++ t) (append-nil (f x))) ∙ sym (append_assoc head (flat_map f (take i xs)) (f x))

-- what was handed on, what is left of the text, and one line more
pub handed_on : (before handed left text line all : List ℕ) → before ++ text ≡ all → handed ++ left ≡ text → (before ++ handed) ++ (left ++ line) ≡ all ++ line
handed_on before handed left text line all whole parts =
    append_assoc before handed (left ++ line) ∙ ap (λ t. before ++ t) (sym (append_assoc handed left line) ∙ ap (λ t. t ++ line) parts) ∙ sym (append_assoc before text line) ∙ ap (λ t. t ++ line) whole

-- a last text was written, or a beginning of it
pub written_last : {T E : Type 0} (a b c : Option (List ℕ)) (r : Result T E) (front text : List ℕ) → Appends a b front → WritesText b c r text → WritesText a c r (front ++ text)
written_last a b c (Ok x) front text p q = appends_both a b c front text p q
written_last a b c (Err e) front text p q = rw (← append-nil (front ++ text)) (appends_part a b c front text [] p q)

pub sent_last : {T E : Type 0} (a b c : Option (List Event)) (r : Result T E) (front text : List ℕ) → SendsAll a b front → SendsText b c r text → SendsText a c r (front ++ text)
sent_last a b c (Ok x) front text p q = sends_both a b c front text p q
sent_last a b c (Err e) front text p q = rw (← append-nil (front ++ text)) (sends_part a b c front text [] p q)
