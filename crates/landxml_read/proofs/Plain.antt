-- A byte below 128 ends a sequence of UTF-8, and what a value of whole UTF-8 without control bytes is decoded to is such a text too.
use Rattle.std.proofs.Common.{◌≡◌, ℕ, ◌+◌, ◌/◌, ◌%◌, ◌<◌, Bool, true, false, ◌==◌, ◌&&◌, ◌||◌, not, nat_lt, cond, List, [], ◌∷◌, ◌++◌, Option, None, Some, refl, sym, ◌∙◌, ap, subst, arith, le-ltb, eqb-true, take, drop}
use Rattle.std.proofs.lemmas.Bool.Decides.{nat_tests}
use Rattle.std.proofs.lemmas.Str.{IsUtf8-encode}
use Rattle.std.specs.List.{list_any, list_all}
use Rattle.std.specs.Char.{encode_utf8, IsScalar}
use Rattle.std.specs.Str.Parse.{digits_value}
use Rattle.std.specs.Prelude.{bytes_eq, codes}
use Rattle.ground_num.specs.Names.{is_control}
use Rattle.landxml_read.specs.declared.utf8.Utf8.{Utf8}
use Rattle.landxml_read.specs.declared.utf8.Utf8.TheVariants.{Ready, One, Two, Three, AfterE0, AfterEd, AfterF0, AfterF4}
use Rattle.landxml_read.specs.declared.decode.Decoding.{Decoding}
use Rattle.landxml_read.specs.Utf8.{is_between, on_between, begun_by, utf8_next, utf8_run}
use Rattle.landxml_read.specs.Values.{is_numeral, is_character, numbered, named, names, reference, decoded}
use Rattle.landxml_read.specs.Decoding.{space_for, no_decoding, plain_next, replaced, name_next, decoding_next, decoding_run, decoding_end}
use Rattle.landxml_read.specs.Known.{IsPlain}
use Rattle.landxml_read.proofs.Bytes.{both}
use Rattle.landxml_read.proofs.Running.{if_true, if_false}
use Rattle.landxml_read.proofs.Encoded.{taken, utf8_run_more}
use Rattle.landxml_read.proofs.Decodings.{decoded_by}

-- control bytes

pub any_more : (p : ℕ → Bool) (xs ys : List ℕ) → list_any p xs ≡ false → list_any p ys ≡ false → list_any p (xs ++ ys) ≡ false
any_more p [] ys e f = f
any_more p (x ∷ xs) ys e f = by (p x) e (any_more p xs ys)
  where
    by : (t : Bool) → (t || list_any p xs) ≡ false → (list_any p xs ≡ false → list_any p ys ≡ false → list_any p (xs ++ ys) ≡ false) → (t || list_any p (xs ++ ys)) ≡ false
    by true e again = cc
    by false e again = again e f

pub one_plain : (b : ℕ) → is_control b ≡ false → IsPlain (b ∷ [])
one_plain b e = rw e refl

pub push_plain : (xs : List ℕ) (b : ℕ) → IsPlain xs → is_control b ≡ false → IsPlain (xs ++ b ∷ [])
push_plain xs b e f = any_more is_control xs (b ∷ []) e (one_plain b f)

-- bytes below 128

no_between : (first last b : ℕ) (s u : Utf8) → nat_lt first b ≡ false → on_between first last b s ≡ Some u → ⊥
no_between first last b s u e f = let g = if_false (is_between first last b) (Some s) None (ap (λ x. x && nat_lt b last) e) in let h = sym g ∙ f in cc

low_begins : (b : ℕ) → nat_lt b 128 ≡ true → begun_by b ≡ Some Ready
low_begins b low = if_true (nat_lt b 0x80) _ _ low

pub ascii : (s u : Utf8) (b : ℕ) → nat_lt b 128 ≡ true → utf8_next s b ≡ Some u → (s ≡ Ready) × (u ≡ Ready)
ascii Ready u b low e = (refl, some (sym e ∙ low_begins b low))
  where
    some : {x y : Utf8} → Some x ≡ Some y → x ≡ y
    some k = cc
ascii One u b low e = absurd (no_between 0x7F 0xC0 b Ready u (grind (arith, nat_tests)) e)
ascii Two u b low e = absurd (no_between 0x7F 0xC0 b One u (grind (arith, nat_tests)) e)
ascii Three u b low e = absurd (no_between 0x7F 0xC0 b Two u (grind (arith, nat_tests)) e)
ascii AfterE0 u b low e = absurd (no_between 0x9F 0xC0 b One u (grind (arith, nat_tests)) e)
ascii AfterEd u b low e = absurd (no_between 0x7F 0xA0 b One u (grind (arith, nat_tests)) e)
ascii AfterF0 u b low e = absurd (no_between 0x8F 0xC0 b Two u (grind (arith, nat_tests)) e)
ascii AfterF4 u b low e = absurd (no_between 0x7F 0x90 b Two u (grind (arith, nat_tests)) e)

-- one more byte
pub run_push : (xs : List ℕ) (s u : Utf8) (b : ℕ) → utf8_run (Some Ready) xs ≡ Some s → utf8_next s b ≡ Some u → utf8_run (Some Ready) (xs ++ b ∷ []) ≡ Some u
run_push xs s u b e f = utf8_run_more (Some Ready) xs (b ∷ []) ∙ ap (λ o. utf8_run o (b ∷ [])) e ∙ f

-- texts

-- whole UTF-8 without control bytes
pub record IsFine (text : List ℕ) : Type 0 where
  pub utf8 : utf8_run (Some Ready) text ≡ Some Ready
  pub plain : IsPlain text

pub fine_none : IsFine []
fine_none = record { utf8 = refl; plain = refl }

fine_more : (xs ys : List ℕ) → IsFine xs → IsFine ys → IsFine (xs ++ ys)
fine_more xs ys x y = record { utf8 = utf8_run_more (Some Ready) xs ys ∙ ap (λ o. utf8_run o ys) x.utf8 ∙ y.utf8; plain = any_more is_control xs ys x.plain y.plain }

-- references

abbrev is_safe : ℕ → Bool
is_safe b = nat_lt b 128 && not (is_control b)

safe_fine : (b : ℕ) → is_safe b ≡ true → IsFine (b ∷ [])
safe_fine b e = let p = both (nat_lt b 128) (not (is_control b)) e in record { utf8 = low_begins b p.0; plain = one_plain b (flip (is_control b) p.1) }
  where
    flip : (t : Bool) → not t ≡ true → t ≡ false
    flip true e = cc
    flip false e = refl

named_fine : (rows : List (List ℕ × ℕ)) (name text : List ℕ) → list_all (λ row. is_safe row.1) rows ≡ true → named rows name ≡ Some text → IsFine text
named_fine [] name text safe e = cc
named_fine (row ∷ rows) name text safe e = by (bytes_eq name row.0) (named_fine rows name text (both (is_safe row.1) (list_all (λ r. is_safe r.1) rows) safe).1) e
  where
    by : (t : Bool) → (named rows name ≡ Some text → IsFine text) → cond t (Some (row.1 ∷ [])) (named rows name) ≡ Some text → IsFine text
    by true again e = let same : row.1 ∷ [] ≡ text = cc in let P : List ℕ → Type 0 = IsFine in subst P same (safe_fine row.1 (both (is_safe row.1) (list_all (λ r. is_safe r.1) rows) safe).0)
    by false again e = again e

high_plain : (x : ℕ) → 31 < x → is_control x ≡ false
high_plain x high = let e : nat_lt x 32 ≡ false = le-ltb x 32 (omega (arith, high)) in rw e refl

pick : (x : Bool) (G : Type 0) → (x ≡ true → G) → (x ≡ false → G) → G
pick true G first second = first refl
pick false G first second = second refl

character_scalar : (c : ℕ) → is_character c ≡ true → IsScalar c
character_scalar c e = grind (arith, nat_tests, e)

character_plain : (c : ℕ) → is_character c ≡ true → is_control c ≡ false
character_plain c e = pick (is_control c) _ (λ h. absurd (grind (arith, nat_tests, e, h))) (λ h. h)

encoded_plain : (c : ℕ) → is_character c ≡ true → IsPlain (encode_utf8 c)
unfolding encode_utf8
encoded_plain c e =
    pick (nat_lt c 128) _ (λ f. rw f (one_plain c (character_plain c e)))
    (λ f. pick (nat_lt c 2048) _
    (λ g. rw (f, g) (two (192 + c / 64) (128 + c % 64) (omega arith) (omega arith)))
    (λ g. pick (nat_lt c 65536) _
    (λ h. rw (f, g, h) (three (224 + c / 4096) (128 + (c / 64) % 64) (128 + c % 64) (omega arith) (omega arith) (omega arith)))
    (λ h. rw (f, g, h) (four (240 + c / 262144) (128 + (c / 4096) % 64) (128 + (c / 64) % 64) (128 + c % 64) (omega arith) (omega arith) (omega arith) (omega arith)))))
  where
    two : (x y : ℕ) → 31 < x → 31 < y → IsPlain (x ∷ y ∷ [])
    two x y a b = rw (high_plain x a, high_plain y b) refl

    three : (x y z : ℕ) → 31 < x → 31 < y → 31 < z → IsPlain (x ∷ y ∷ z ∷ [])
    three x y z a b c = rw (high_plain x a, high_plain y b, high_plain z c) refl

    four : (x y z w : ℕ) → 31 < x → 31 < y → 31 < z → 31 < w → IsPlain (x ∷ y ∷ z ∷ w ∷ [])
    four x y z w a b c d = rw (high_plain x a, high_plain y b, high_plain z c, high_plain w d) refl

numbered_fine : (base : ℕ) (digits text : List ℕ) → numbered base digits ≡ Some text → IsFine text
numbered_fine base digits text e = by (is_numeral base digits) (is_character (digits_value base digits)) refl e
  where
    v : ℕ
    v = digits_value base digits

    by : (x y : Bool) → is_character v ≡ y → cond (x && y) (Some (encode_utf8 v)) None ≡ Some text → IsFine text
    by true true f e =
        let same : encode_utf8 v ≡ text = cc in
        let P : List ℕ → Type 0 = IsFine in
        subst P same (record { utf8 = taken (encode_utf8 v) (IsUtf8-encode v (character_scalar v f)); plain = encoded_plain v f })
    by true false f e = cc
    by false y f e = cc

reference_fine : (name text : List ℕ) → reference name ≡ Some text → IsFine text
reference_fine name text e = by (bytes_eq (take 2 name) (codes "#x")) (bytes_eq (take 1 name) (codes "#")) e
  where
    by : (x y : Bool) → cond x (numbered 16 (drop 2 name)) (cond y (numbered 10 (drop 1 name)) (named names name)) ≡ Some text → IsFine text
    by true y e = numbered_fine 16 (drop 2 name) text e
    by false true e = numbered_fine 10 (drop 1 name) text e
    by false false e = named_fine names name text refl e

-- values

-- what was decoded so far, at a state of UTF-8
record Decodes (d : Decoding) (s : Utf8) : Type 0 where
  inside : d.in_name ≡ true → utf8_run (Some Ready) d.out ≡ Some Ready
  outside : d.in_name ≡ false → utf8_run (Some Ready) d.out ≡ Some s
  plain : IsPlain d.out

none_decoded : Decodes no_decoding Ready
none_decoded = record { inside = λ e. refl; outside = λ e. refl; plain = refl }

-- a space for white
spaced_on : (d : Decoding) (s u : Utf8) (b : ℕ) → d.in_name ≡ false → Decodes d s → utf8_next s b ≡ Some u → is_control b ≡ false → Decodes (record d { out = d.out ++ space_for b ∷ []; after_cr = b == 13 }) u
spaced_on d s u b e h f plain = by (b == 9 || b == 10 || b == 13) refl
  where
    at_white : (b == 9 || b == 10 || b == 13) ≡ true → nat_lt b 128 ≡ true
    at_white k = grind (arith, nat_tests, k)

    by : (t : Bool) → (b == 9 || b == 10 || b == 13) ≡ t → Decodes (record d { out = d.out ++ cond t 32 b ∷ []; after_cr = b == 13 }) u
    by true k =
        let a = ascii s u b (at_white k) f in
        record {
          inside = λ x. let y = sym e ∙ x in cc;
          outside = λ x. run_push d.out s u 32 (h.outside e) (ap (λ z. utf8_next z 32) a.0 ∙ ap Some (sym a.1));
          plain = push_plain d.out 32 h.plain refl;
        }
    by false k = record { inside = λ x. let y = sym e ∙ x in cc; outside = λ x. run_push d.out s u b (h.outside e) f; plain = push_plain d.out b h.plain plain }

plain_on : (d v : Decoding) (s u : Utf8) (b : ℕ) → d.in_name ≡ false → Decodes d s → utf8_next s b ≡ Some u → is_control b ≡ false → plain_next d b ≡ Some v → Decodes v u
plain_on d v s u b e h f plain g = by (b == 38) refl (d.after_cr && b == 10) refl g
  where
    P : Decoding → Type 0
    P x = Decodes x u

    by : (x : Bool) → (b == 38) ≡ x → (y : Bool) → (d.after_cr && b == 10) ≡ y
        → cond x (Some (record d { in_name = true; name = [] })) (cond y (Some (record d { after_cr = false })) (Some (record d { out = d.out ++ space_for b ∷ []; after_cr = b == 13 }))) ≡ Some v → Decodes v u
    by true k y l g =
        let same : record d { in_name = true; name = [] } ≡ v = cc in
        let a = ascii s u b (ap (λ z. nat_lt z 128) (eqb-true b 38 k)) f in
        subst P same (record { inside = λ x. h.outside e ∙ ap Some a.0; outside = λ x. cc; plain = h.plain })
    by false k true l g =
        let same : record d { after_cr = false } ≡ v = cc in
        let a = ascii s u b (ap (λ z. nat_lt z 128) (eqb-true b 10 (both d.after_cr (b == 10) l).1)) f in
        subst P same (record { inside = λ x. let y = sym e ∙ x in cc; outside = λ x. h.outside e ∙ ap Some a.0 ∙ ap Some (sym a.1); plain = h.plain })
    by false k false l g =
        let same : record d { out = d.out ++ space_for b ∷ []; after_cr = b == 13 } ≡ v = cc in
        subst P same (spaced_on d s u b e h f plain)

name_on : (d v : Decoding) (s u : Utf8) (b : ℕ) → d.in_name ≡ true → Decodes d s → utf8_next s b ≡ Some u → name_next d b ≡ Some v → Decodes v u
name_on d v s u b e h f g = by (b == 38) (b == 59) refl g
  where
    P : Decoding → Type 0
    P x = Decodes x u

    put : nat_lt b 128 ≡ true → (o : Option (List ℕ)) → reference d.name ≡ o → replaced d o ≡ Some v → Decodes v u
    put low None r k = cc
    put low (Some text) r k =
        let same : record d { out = d.out ++ text; after_cr = false; in_name = false } ≡ v = cc in
        let all = fine_more d.out text (record { utf8 = h.inside e; plain = h.plain }) (reference_fine d.name text r) in
        subst P same (record { inside = λ x. cc; outside = λ x. all.utf8 ∙ ap Some (sym (ascii s u b low f).1); plain = all.plain })

    by : (x y : Bool) → (b == 59) ≡ y → cond x None (cond y (replaced d (reference d.name)) (Some (record d { name = d.name ++ b ∷ [] }))) ≡ Some v → Decodes v u
    by true y k g = cc
    by false true k g = put (ap (λ z. nat_lt z 128) (eqb-true b 59 k)) (reference d.name) refl g
    by false false k g =
        let same : record d { name = d.name ++ b ∷ [] } ≡ v = cc in
        subst P same (record { inside = λ x. h.inside e; outside = λ x. let y = sym e ∙ x in cc; plain = h.plain })

decodes_on : (d v : Decoding) (s u : Utf8) (b : ℕ) → Decodes d s → utf8_next s b ≡ Some u → is_control b ≡ false → decoding_next d b ≡ Some v → Decodes v u
decodes_on d v s u b h f plain g = by d.in_name refl g
  where
    by : (t : Bool) → d.in_name ≡ t → cond t (name_next d b) (plain_next d b) ≡ Some v → Decodes v u
    by true e g = name_on d v s u b e h f g
    by false e g = plain_on d v s u b e h f plain g

decodes_all : (bs : List ℕ) (d : Decoding) (s : Utf8) (text : List ℕ) → Decodes d s → utf8_run (Some s) bs ≡ Some Ready → IsPlain bs → decoding_end (decoding_run (Some d) bs) ≡ Some text → IsFine text
decodes_all [] d s text h f plain e = by d.in_name refl e
  where
    by : (t : Bool) → d.in_name ≡ t → cond t None (Some d.out) ≡ Some text → IsFine text
    by true g e = cc
    by false g e =
        let same : d.out ≡ text = cc in
        let P : List ℕ → Type 0 = IsFine in
        subst P same (record { utf8 = h.outside g ∙ f; plain = h.plain })
decodes_all (b ∷ bs) d s text h f plain e = go (utf8_next s b) refl (decoding_next d b) refl (λ v u k l. decodes_all bs v u text k l (rest (is_control b) plain)) f e
  where
    rest : (x : Bool) → (x || list_any is_control bs) ≡ false → IsPlain bs
    rest true k = cc
    rest false k = k

    first : (x : Bool) → (x || list_any is_control bs) ≡ false → x ≡ false
    first true k = cc
    first false k = refl

    dead : (ys : List ℕ) → utf8_run None ys ≡ Some Ready → ⊥
    dead [] k = cc
    dead (y ∷ ys) k = cc

    stuck : (ys : List ℕ) → decoding_end (decoding_run None ys) ≡ Some text → ⊥
    stuck [] k = cc
    stuck (y ∷ ys) k = cc

    go : (o : Option Utf8) → utf8_next s b ≡ o → (p : Option Decoding) → decoding_next d b ≡ p
        → ((v : Decoding) (u : Utf8) → Decodes v u → utf8_run (Some u) bs ≡ Some Ready → decoding_end (decoding_run (Some v) bs) ≡ Some text → IsFine text)
        → utf8_run o bs ≡ Some Ready → decoding_end (decoding_run p bs) ≡ Some text → IsFine text
    go None k p l again f e = absurd (dead bs f)
    go (Some u) k None l again f e = absurd (stuck bs e)
    go (Some u) k (Some v) l again f e = again v u (decodes_on d v s u b h k (first (is_control b) plain) l) f e

-- a value of such a text is decoded to one
pub decoded_fine : (value text : List ℕ) → IsFine value → decoded value ≡ Some text → IsFine text
decoded_fine value text v e = decodes_all value no_decoding Ready text none_decoded v.utf8 v.plain (decoded_by value ∙ e)
