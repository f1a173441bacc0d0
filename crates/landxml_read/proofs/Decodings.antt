-- A value is decoded as its parts are, byte by byte.
use Rattle.std.proofs.Common.{◌≡◌, ℕ, ◌+◌, ◌*◌, ◌≤◌, ◌<◌, min, Bool, true, false, ◌==◌, ◌&&◌, not, nat_lt, cond, List, [], ◌∷◌, ◌++◌, length, take, drop, get_or, Option, None, Some, refl, sym, ◌∙◌, ap, arith, append_assoc, length-append, lt-ltb, eqb-true}
use Rattle.std.proofs.lemmas.Bool.Decides.{nat_tests}
use Rattle.std.proofs.lemmas.List.{append-nil, take_more, take-append-drop}
use Rattle.std.proofs.lemmas.Nat.{mul-le}
use Rattle.std.specs.Option.{option_map, option_and_then}
use Rattle.std.specs.List.{slice_split, onto_first}
use Rattle.std.specs.Prelude.{position}
use Rattle.std.specs.List.{position_or_len}
use Rattle.std.proofs.Math.Seq.{take-append_seam, drop-append-add}
use Rattle.landxml_read.specs.declared.decode.Decoding.{Decoding}
use Rattle.landxml_read.specs.Values.{spaced_after, spaced, reference, after_ampersand, joined, decoded_parts, decoded}
use Rattle.landxml_read.specs.Decoding.{space_for, no_decoding, plain_next, replaced, name_next, decoding_next, decoding_run, decoding_end}
use Rattle.landxml_read.proofs.Running.{if_true, if_false}

-- one more digit of a number that is kept below a limit
pub capped_more : (v base d n : ℕ) → 1 ≤ base → n ≡ min v 0x110000 → min (n * base + d) 0x110000 ≡ min (v * base + d) 0x110000
capped_more v base d n some e = by (nat_lt v 0x110000) refl
  where
    by : (t : Bool) → nat_lt v 0x110000 ≡ t → min (n * base + d) 0x110000 ≡ min (v * base + d) 0x110000
    by true h = let less : v < 0x110000 = grind (arith, nat_tests) in let same : n ≡ v = omega arith in ap (λ k. min (k * base + d) 0x110000) same
    by false h =
        let more : 0x110000 ≤ v = grind (arith, nat_tests) in
        let same : n ≡ 0x110000 = omega arith in
        let a : 0x110000 * 1 ≤ v * base = mul-le 0x110000 1 v base more some in
        let b : 0x110000 * 1 ≤ n * base = mul-le 0x110000 1 n base (omega arith) some in
        omega (arith, a, b)

-- the parts of the bytes that are left, the first of them after some others
abbrev with_front : List ℕ → List (List ℕ) → List (List ℕ)
with_front front [] = front ∷ []
with_front front (part ∷ parts) = (front ++ part) ∷ parts

-- what is decoded of the parts that are left, after a CR or not
abbrev plain_parts : Bool → List (List ℕ) → Option (List ℕ)
plain_parts after_cr [] = Some []
plain_parts after_cr (plain ∷ parts) = option_map (λ rest. spaced_after after_cr plain ++ rest) (joined parts)

abbrev parts_of : List ℕ → List (List ℕ)
parts_of bs = slice_split (λ b. b == 38) bs

-- what is decoded of them inside a reference or not
abbrev left_of : Bool → List ℕ → Bool → List (List ℕ) → Option (List ℕ)
left_of true name after_cr parts = joined (with_front name parts)
left_of false name after_cr parts = plain_parts after_cr parts

-- what is decoded in all, from where the decoding stands
abbrev all_of : Decoding → List ℕ → Option (List ℕ)
all_of d bs = option_map (λ rest. d.out ++ rest) (left_of d.in_name d.name d.after_cr (parts_of bs))

-- the parts of some bytes are one or more
record Parts (bs : List ℕ) : Type 0 where
  first : List ℕ
  others : List (List ℕ)
  is : parts_of bs ≡ first ∷ others

parts_are : (bs : List ℕ) → Parts bs
parts_are [] = record { first = []; others = []; is = refl }
parts_are (b ∷ bs) = by (parts_are bs) (b == 38) refl
  where
    by : Parts bs → (t : Bool) → (b == 38) ≡ t → Parts (b ∷ bs)
    by p true e = record { first = []; others = parts_of bs; is = if_true (b == 38) ([] ∷ parts_of bs) (onto_first b (parts_of bs)) e }
    by p false e = record { first = b ∷ p.first; others = p.others; is = if_false (b == 38) ([] ∷ parts_of bs) (onto_first b (parts_of bs)) e ∙ ap (onto_first b) p.is }

-- no ; stands in a name
abbrev IsOpen : List ℕ → Type 0
IsOpen [] = Unit {0}
IsOpen (b ∷ bs) = ((b == 59) ≡ false) × IsOpen bs

open_more : (bs : List ℕ) (b : ℕ) → IsOpen bs → (b == 59) ≡ false → IsOpen (bs ++ b ∷ [])
open_more [] b h e = (e, tt)
open_more (c ∷ cs) b h e = (h.0, open_more cs b h.1 e)

place_of : (name rest : List ℕ) → IsOpen name → position_or_len (λ b. b == 59) (name ++ 59 ∷ rest) ≡ length name
place_of [] rest h = refl
place_of (b ∷ bs) rest h = let r = place_of bs rest h.1 in let g : 1 + position_or_len (λ c. c == 59) (bs ++ 59 ∷ rest) ≡ length (b ∷ bs) = omega (arith, r) in if_true (not (b == 59)) (1 + position_or_len (λ c. c == 59) (bs ++ 59 ∷ rest)) 0 (ap not h.0) ∙ g

no_place : (name : List ℕ) → IsOpen name → position_or_len (λ b. b == 59) name ≡ length name
no_place [] h = refl
no_place (b ∷ bs) h = let r = no_place bs h.1 in let g : 1 + position_or_len (λ c. c == 59) bs ≡ length (b ∷ bs) = omega (arith, r) in if_true (not (b == 59)) (1 + position_or_len (λ c. c == 59) bs) 0 (ap not h.0) ∙ g

-- a reference without its ; isn't listed
unended : (name : List ℕ) → IsOpen name → after_ampersand name ≡ None
unended name h =
    let e : position (λ b. b == 59) name ≡ None = ap (λ k. cond (nat_lt k (length name)) (Some k) None) (no_place name h) ∙ if_false (nat_lt (length name) (length name)) _ _ (not_less (length name)) in
    ap (option_and_then (λ k. option_map (λ c. c ++ spaced (drop (k + 1) name)) (reference (take k name)))) e
  where
    not_less : (n : ℕ) → nat_lt n n ≡ false
    not_less n = grind (arith, nat_tests)

-- a reference with its ;
ended : (name rest : List ℕ) → IsOpen name → after_ampersand (name ++ 59 ∷ rest) ≡ option_map (λ c. c ++ spaced rest) (reference name)
ended name rest h =
    let all = name ++ 59 ∷ rest in
    let e : position (λ b. b == 59) all ≡ Some (length name) = ap (λ k. cond (nat_lt k (length all)) (Some k) None) (place_of name rest h) ∙ if_true (nat_lt (length name) (length all)) _ _ (lt-ltb (length name) (length all) (omega (arith, length-append name (59 ∷ rest)))) in
    ap (option_and_then (λ k. option_map (λ c. c ++ spaced (drop (k + 1) all)) (reference (take k all)))) e
    ∙ (λ i. option_map (λ c. c ++ spaced (dropped i)) (reference (take-append_seam name (59 ∷ rest) i)))
  where
    dropped : drop (length name + 1) (name ++ 59 ∷ rest) ≡ rest
    dropped = drop-append-add name (59 ∷ rest) 1

-- texts put before what is decoded
grouped : (out text : List ℕ) (f : List ℕ) (o : Option (List ℕ)) → option_map (λ rest. (out ++ text) ++ rest) (option_map (λ rest. f ++ rest) o) ≡ option_map (λ rest. out ++ rest) (option_map (λ rest. (text ++ f) ++ rest) o)
grouped out text f None = refl
grouped out text f (Some j) = ap Some (append_assoc out text (f ++ j) ∙ ap (λ w. out ++ w) (sym (append_assoc text f j)))

empty_front : (o : Option (List ℕ)) → option_map (λ rest. [] ++ rest) o ≡ o
empty_front None = refl
empty_front (Some j) = refl

stays_none : (bs : List ℕ) → decoding_run None bs ≡ None
stays_none [] = refl
stays_none (b ∷ bs) = refl

-- where the decoding stands and what is left give what is decoded in all
runs : (bs : List ℕ) (d : Decoding) → (d.in_name ≡ true → IsOpen d.name) → decoding_end (decoding_run (Some d) bs) ≡ all_of d bs
runs [] d h = by d.in_name refl h
  where
    by : (t : Bool) → d.in_name ≡ t → (d.in_name ≡ true → IsOpen d.name) → cond d.in_name None (Some d.out) ≡ option_map (λ rest. d.out ++ rest) (left_of d.in_name d.name d.after_cr ([] ∷ []))
    by true e h =
        let u : after_ampersand (d.name ++ []) ≡ None = ap after_ampersand (append-nil d.name) ∙ unended d.name (h e) in
        ap (λ x. cond x None (Some d.out)) e ∙ sym (ap (λ x. option_map (λ rest. d.out ++ rest) (left_of x d.name d.after_cr ([] ∷ []))) e ∙ ap (λ o. option_map (λ rest. d.out ++ rest) (option_and_then (λ f. option_map (λ rest. f ++ rest) (Some [])) o)) u)
    by false e h = ap (λ x. cond x None (Some d.out)) e ∙ sym (ap (λ x. option_map (λ rest. d.out ++ rest) (left_of x d.name d.after_cr ([] ∷ []))) e ∙ ap Some (append-nil d.out))
runs (b ∷ bs) d h = by d.in_name refl (b == 38) refl (b == 59) refl (d.after_cr && b == 10) refl (λ u k. runs bs u k)
  where
    p : Parts bs
    p = parts_are bs

    amp : (b == 38) ≡ true → parts_of (b ∷ bs) ≡ [] ∷ p.first ∷ p.others
    amp e = if_true (b == 38) ([] ∷ parts_of bs) (onto_first b (parts_of bs)) e ∙ ap (λ ps. [] ∷ ps) p.is

    other : (b == 38) ≡ false → parts_of (b ∷ bs) ≡ (b ∷ p.first) ∷ p.others
    other e = if_false (b == 38) ([] ∷ parts_of bs) (onto_first b (parts_of bs)) e ∙ ap (onto_first b) p.is

    -- what is left, told by the parts
    left : (t : Bool) → d.in_name ≡ t → (ps : List (List ℕ)) → parts_of (b ∷ bs) ≡ ps → all_of d (b ∷ bs) ≡ option_map (λ rest. d.out ++ rest) (left_of t d.name d.after_cr ps)
    left t e ps f = λ i. option_map (λ rest. d.out ++ rest) (left_of (e i) d.name d.after_cr (f i))

    -- and after the byte
    later : (u : Decoding) (t : Bool) → u.in_name ≡ t → all_of u bs ≡ option_map (λ rest. u.out ++ rest) (left_of t u.name u.after_cr (p.first ∷ p.others))
    later u t e = λ i. option_map (λ rest. u.out ++ rest) (left_of (e i) u.name u.after_cr (p.is i))

    next_is : (t : Bool) (o : Option Decoding) → d.in_name ≡ t → cond t (name_next d b) (plain_next d b) ≡ o → decoding_end (decoding_run (Some d) (b ∷ bs)) ≡ decoding_end (decoding_run o bs)
    next_is t o e f = ap (λ x. decoding_end (decoding_run (cond x (name_next d b) (plain_next d b)) bs)) e ∙ ap (λ x. decoding_end (decoding_run x bs)) f

    space_is : (c : Bool) → (d.after_cr && b == 10) ≡ c → spaced_after d.after_cr (b ∷ p.first) ≡ cond c (spaced_after false p.first) (space_for b ∷ spaced_after (b == 13) p.first)
    space_is c e = ap (λ x. cond x (spaced_after false p.first) (space_for b ∷ spaced_after (b == 13) p.first)) e

    listed : (o : Option (List ℕ)) → reference d.name ≡ o → d.in_name ≡ true → (b == 38) ≡ false → (b == 59) ≡ true → ((u : Decoding) → (u.in_name ≡ true → IsOpen u.name) → decoding_end (decoding_run (Some u) bs) ≡ all_of u bs) → decoding_end (decoding_run (replaced d o) bs) ≡ option_map (λ rest. d.out ++ rest) (option_and_then (λ f. option_map (λ rest. f ++ rest) (joined p.others)) (option_map (λ c. c ++ spaced p.first) o))
    listed None r e a s again = ap decoding_end (stays_none bs)
    listed (Some text) r e a s again =
        let u : Decoding = record d { out = d.out ++ text; after_cr = false; in_name = false } in
        again u (λ x. cc) ∙ later u false refl ∙ grouped d.out text (spaced p.first) (joined p.others)

    by : (t : Bool) → d.in_name ≡ t → (a : Bool) → (b == 38) ≡ a → (s : Bool) → (b == 59) ≡ s → (c : Bool) → (d.after_cr && b == 10) ≡ c
        → ((u : Decoding) → (u.in_name ≡ true → IsOpen u.name) → decoding_end (decoding_run (Some u) bs) ≡ all_of u bs) → decoding_end (decoding_run (Some d) (b ∷ bs)) ≡ all_of d (b ∷ bs)
    by false e true a s f c g again =
        let u : Decoding = record d { in_name = true; name = [] } in
        next_is false (Some u) e (if_true (b == 38) _ _ a) ∙ again u (λ _. tt) ∙ later u true refl
        ∙ sym (left false e ([] ∷ p.first ∷ p.others) (amp a) ∙ ap (option_map (λ rest. d.out ++ rest)) (empty_front (joined (p.first ∷ p.others))))
    by false e false a s f true g again =
        let u : Decoding = record d { after_cr = false } in
        next_is false (Some u) e (if_false (b == 38) _ _ a ∙ if_true (d.after_cr && b == 10) _ _ g) ∙ again u (λ x. let y = sym e ∙ x in cc) ∙ later u false e
        ∙ sym (left false e ((b ∷ p.first) ∷ p.others) (other a) ∙ ap (λ w. option_map (λ rest. d.out ++ rest) (option_map (λ rest. w ++ rest) (joined p.others))) (space_is true g))
    by false e false a s f false g again =
        let u : Decoding = record d { out = d.out ++ space_for b ∷ []; after_cr = b == 13 } in
        next_is false (Some u) e (if_false (b == 38) _ _ a ∙ if_false (d.after_cr && b == 10) _ _ g) ∙ again u (λ x. let y = sym e ∙ x in cc) ∙ later u false e
        ∙ grouped d.out (space_for b ∷ []) (spaced_after (b == 13) p.first) (joined p.others)
        ∙ sym (left false e ((b ∷ p.first) ∷ p.others) (other a) ∙ ap (λ w. option_map (λ rest. d.out ++ rest) (option_map (λ rest. w ++ rest) (joined p.others))) (space_is false g))
    by true e true a s f c g again =
        let u : after_ampersand (d.name ++ []) ≡ None = ap after_ampersand (append-nil d.name) ∙ unended d.name (h e) in
        next_is true None e (if_true (b == 38) _ _ a) ∙ ap decoding_end (stays_none bs)
        ∙ sym (left true e ([] ∷ p.first ∷ p.others) (amp a) ∙ ap (λ o. option_map (λ rest. d.out ++ rest) (option_and_then (λ x. option_map (λ rest. x ++ rest) (joined (p.first ∷ p.others))) o)) u)
    by true e false a true f c g again =
        let byte : b ≡ 59 = eqb-true b 59 f in
        let u : after_ampersand (d.name ++ b ∷ p.first) ≡ option_map (λ x. x ++ spaced p.first) (reference d.name) = ap (λ x. after_ampersand (d.name ++ x ∷ p.first)) byte ∙ ended d.name p.first (h e) in
        next_is true (replaced d (reference d.name)) e (if_false (b == 38) _ _ a ∙ if_true (b == 59) _ _ f)
        ∙ listed (reference d.name) refl e a f again
        ∙ sym (left true e ((b ∷ p.first) ∷ p.others) (other a) ∙ ap (λ o. option_map (λ rest. d.out ++ rest) (option_and_then (λ x. option_map (λ rest. x ++ rest) (joined p.others)) o)) u)
    by true e false a false f c g again =
        let u : Decoding = record d { name = d.name ++ b ∷ [] } in
        next_is true (Some u) e (if_false (b == 38) _ _ a ∙ if_false (b == 59) _ _ f) ∙ again u (λ x. open_more d.name b (h e) f) ∙ later u true e
        ∙ ap (λ w. option_map (λ rest. d.out ++ rest) (joined (w ∷ p.others))) (append_assoc d.name (b ∷ []) p.first)
        ∙ sym (left true e ((b ∷ p.first) ∷ p.others) (other a))

-- a value is decoded byte by byte
pub decoded_by : (value : List ℕ) → decoding_end (decoding_run (Some no_decoding) value) ≡ decoded value
unfolding decoded
decoded_by value = let p = parts_are value in runs value no_decoding (λ x. cc) ∙ empty_front (plain_parts false (parts_of value)) ∙ by (parts_of value)
  where
    by : (ps : List (List ℕ)) → plain_parts false ps ≡ decoded_parts ps
    by [] = refl
    by (plain ∷ parts) = refl

-- a value that a byte stops isn't decoded
pub decoding_more : (o : Option Decoding) (xs ys : List ℕ) → decoding_run o (xs ++ ys) ≡ decoding_run (decoding_run o xs) ys
decoding_more o [] ys = refl
decoding_more None (x ∷ xs) ys = sym (stays_none ys)
decoding_more (Some d) (x ∷ xs) ys = decoding_more (decoding_next d x) xs ys

-- a byte of a value
pub decoding_step : (value : List ℕ) (k : ℕ) (d : Decoding) → k < length value → decoding_run (Some no_decoding) (take k value) ≡ Some d → decoding_run (Some no_decoding) (take (k + 1) value) ≡ decoding_next d (get_or value k 0)
decoding_step value k d within e =
    ap (decoding_run (Some no_decoding)) (take_more value k 0 within) ∙ decoding_more (Some no_decoding) (take k value) (get_or value k 0 ∷ []) ∙ ap (λ o. decoding_run o (get_or value k 0 ∷ [])) e

pub decoding_stops : (value : List ℕ) (k : ℕ) → decoding_run (Some no_decoding) (take k value) ≡ None → decoded value ≡ None
decoding_stops value k e =
    sym (decoded_by value) ∙ ap (λ w. decoding_end (decoding_run (Some no_decoding) w)) (sym (take-append-drop k value)) ∙ ap decoding_end (decoding_more (Some no_decoding) (take k value) (drop k value) ∙ ap (λ o. decoding_run o (drop k value)) e ∙ stays_none (drop k value))

pub decoding_ends : (value : List ℕ) (d : Decoding) → decoding_run (Some no_decoding) value ≡ Some d → decoded value ≡ cond d.in_name None (Some d.out)
decoding_ends value d e = sym (decoded_by value) ∙ ap decoding_end e
