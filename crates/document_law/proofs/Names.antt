-- The text of a name, read back.
use Rattle.std.proofs.Common.{◌≡◌, ℕ, Bool, true, false, ◌==◌, ◌&&◌, ◌||◌, not, nat_lt, cond, List, [], ◌∷◌, ◌++◌, flat_map, codes, Option, None, Some, refl, sym, ◌∙◌, ap, subst, arith, append_assoc, eqb-true}
use Rattle.std.proofs.lemmas.Bool.Decides.{nat_tests}
use Rattle.std.proofs.lemmas.List.{append-nil}
use Rattle.std.proofs.lemmas.List.Folds.{list_all-append}
use Rattle.std.specs.List.{list_all, list_any}
use Rattle.ground_num.specs.Names.{is_control, escape}
use Rattle.landxml_read.specs.Markup.{is_white, is_in_value}
use Rattle.landxml_read.specs.declared.utf8.Utf8.{Utf8}
use Rattle.landxml_read.specs.declared.utf8.Utf8.TheVariants.{Ready, One, Two, Three, AfterE0, AfterEd, AfterF0, AfterF4}
use Rattle.landxml_read.specs.Utf8.{utf8_run, utf8_next}
use Rattle.landxml_read.specs.Values.{decoded}
use Rattle.landxml_read.specs.Decoding.{decoding_run, no_decoding}
use Rattle.landxml_read.proofs.Bytes.{and_is}
use Rattle.landxml_read.proofs.Decodings.{decoding_more, decoding_ends}
use Rattle.landxml_read.proofs.Encoded.{utf8_run_more}

-- what holds in each state of UTF-8 holds in all
at_each : (P : Utf8 → Type 0) → P Ready → P One → P Two → P Three → P AfterE0 → P AfterEd → P AfterF0 → P AfterF4 → (s : Utf8) → P s
at_each P ready one two three after_e0 after_ed after_f0 after_f4 Ready = ready
at_each P ready one two three after_e0 after_ed after_f0 after_f4 One = one
at_each P ready one two three after_e0 after_ed after_f0 after_f4 Two = two
at_each P ready one two three after_e0 after_ed after_f0 after_f4 Three = three
at_each P ready one two three after_e0 after_ed after_f0 after_f4 AfterE0 = after_e0
at_each P ready one two three after_e0 after_ed after_f0 after_f4 AfterEd = after_ed
at_each P ready one two three after_e0 after_ed after_f0 after_f4 AfterF0 = after_f0
at_each P ready one two three after_e0 after_ed after_f0 after_f4 AfterF4 = after_f4

-- the text stands for the byte
record Escaped (b : ℕ) (text : List ℕ) : Type 0 where
  decoding : (out name : List ℕ) → (after : List ℕ) × (decoding_run (Some (record no_decoding { out = out; name = name })) text ≡ Some (record no_decoding { out = out ++ b ∷ []; name = after }))
  value : is_control b ≡ false → list_all (is_in_value 34) text ≡ true
  utf8 : (s : Utf8) → utf8_run (Some s) text ≡ utf8_next s b

ampersand : Escaped 38 (codes "&amp;")
ampersand = record { decoding = λ out name. (codes "amp", refl); value = λ e. refl; utf8 = at_each (λ s. utf8_run (Some s) (codes "&amp;") ≡ utf8_next s 38) refl refl refl refl refl refl refl refl }

less : Escaped 60 (codes "&lt;")
less = record { decoding = λ out name. (codes "lt", refl); value = λ e. refl; utf8 = at_each (λ s. utf8_run (Some s) (codes "&lt;") ≡ utf8_next s 60) refl refl refl refl refl refl refl refl }

greater : Escaped 62 (codes "&gt;")
greater = record { decoding = λ out name. (codes "gt", refl); value = λ e. refl; utf8 = at_each (λ s. utf8_run (Some s) (codes "&gt;") ≡ utf8_next s 62) refl refl refl refl refl refl refl refl }

quote : Escaped 34 (codes "&quot;")
quote = record { decoding = λ out name. (codes "quot", refl); value = λ e. refl; utf8 = at_each (λ s. utf8_run (Some s) (codes "&quot;") ≡ utf8_next s 34) refl refl refl refl refl refl refl refl }

tab : Escaped 9 (codes "&#9;")
unfolding lib.Utf8.encode
tab = record { decoding = λ out name. (codes "#9", refl); value = λ e. refl; utf8 = at_each (λ s. utf8_run (Some s) (codes "&#9;") ≡ utf8_next s 9) refl refl refl refl refl refl refl refl }

feed : Escaped 10 (codes "&#10;")
unfolding lib.Utf8.encode
feed = record { decoding = λ out name. (codes "#10", refl); value = λ e. refl; utf8 = at_each (λ s. utf8_run (Some s) (codes "&#10;") ≡ utf8_next s 10) refl refl refl refl refl refl refl refl }

carriage : Escaped 13 (codes "&#13;")
unfolding lib.Utf8.encode
carriage = record { decoding = λ out name. (codes "#13", refl); value = λ e. refl; utf8 = at_each (λ s. utf8_run (Some s) (codes "&#13;") ≡ utf8_next s 13) refl refl refl refl refl refl refl refl }

-- a byte that is written as it is
itself : (b : ℕ) → (b == 38) ≡ false → (b == 60) ≡ false → (b == 34) ≡ false → (b == 9) ≡ false → (b == 10) ≡ false → (b == 13) ≡ false → Escaped b (b ∷ [])
itself b amp less quote tab feed cr = record {
  decoding = λ out name. (name, (λ i. cond (amp i) (Some (record no_decoding { out = out; in_name = true; name = [] })) (Some (record no_decoding { out = out ++ cond (tab i || feed i || cr i) 32 b ∷ []; after_cr = cr i; name = name }))));
  value = λ control.
      let high : nat_lt 31 b ≡ true = by (nat_lt b 32) refl control in
      λ i. (high i || is_white b) && not (quote i) && not (less i) && true;
  utf8 = λ s. refl;
}
  where
    by : (t : Bool) → nat_lt b 32 ≡ t → is_control b ≡ false → nat_lt 31 b ≡ true
    by false e control = grind (arith, nat_tests, e)
    by true e control = let is : is_control b ≡ true = λ i. e i && not (tab i) && not (feed i) && not (cr i) in cc

escaped_as : (b k : ℕ) (text rest : List ℕ) → Escaped k text → ((b == k) ≡ false → Escaped b rest) → Escaped b (cond (b == k) text rest)
escaped_as b k text rest is else = by (b == k) refl
  where
    by : (t : Bool) → (b == k) ≡ t → Escaped b (cond t text rest)
    by true e = let P : ℕ → Type 0 = λ x. Escaped x text in subst P (sym (eqb-true b k e)) is
    by false e = else e

escaped : (b : ℕ) → Escaped b (escape b)
escaped b =
    escaped_as b 38 _ _ ampersand
    (λ amp. escaped_as b 60 _ _ less
    (λ lt. escaped_as b 62 _ _ greater
    (λ gt. escaped_as b 34 _ _ quote
    (λ qt. escaped_as b 9 _ _ tab
    (λ tb. escaped_as b 10 _ _ feed
    (λ fd. escaped_as b 13 _ _ carriage
    (λ cr. itself b amp lt qt tb fd cr)))))))

decoding_on : (name out held : List ℕ) → (after : List ℕ) × (decoding_run (Some (record no_decoding { out = out; name = held })) (flat_map escape name) ≡ Some (record no_decoding { out = out ++ name; name = after }))
decoding_on [] out held = (held, λ i. Some (record no_decoding { out = sym (append-nil out) i; name = held }))
decoding_on (b ∷ bs) out held =
    let one = (escaped b).decoding out held in
    let rest = decoding_on bs (out ++ b ∷ []) one.0 in
    (rest.0, decoding_more (Some (record no_decoding { out = out; name = held })) (escape b) (flat_map escape bs) ∙ ap (λ o. decoding_run o (flat_map escape bs)) one.1 ∙ rest.1 ∙ (λ i. Some (record no_decoding { out = append_assoc out (b ∷ []) bs i; name = rest.0 })))

-- the text stands for the name
pub name_decoded : (name : List ℕ) → decoded (flat_map escape name) ≡ Some name
name_decoded name = let d = decoding_on name [] [] in decoding_ends (flat_map escape name) (record no_decoding { out = name; name = d.0 }) d.1

-- neither of two tests holds
pub neither : (a b : Bool) → (a || b) ≡ false → (a ≡ false) × (b ≡ false)
neither true b e = cc
neither false b e = (refl, e)

-- its bytes may stand in a value
pub name_value : (name : List ℕ) → list_any is_control name ≡ false → list_all (is_in_value 34) (flat_map escape name) ≡ true
name_value [] plain = refl
name_value (b ∷ bs) plain =
    let p = neither (is_control b) (list_any is_control bs) plain in
    list_all-append (is_in_value 34) (escape b) (flat_map escape bs) ∙ and_is (list_all (is_in_value 34) (escape b)) (list_all (is_in_value 34) (flat_map escape bs)) ((escaped b).value p.0) (name_value bs p.1)

-- it is UTF-8 as the name is
pub name_utf8 : (name : List ℕ) (o : Option Utf8) → utf8_run o (flat_map escape name) ≡ utf8_run o name
name_utf8 [] o = refl
name_utf8 (b ∷ bs) None = none (escape b ++ flat_map escape bs)
  where
    none : (xs : List ℕ) → utf8_run None xs ≡ None
    none [] = refl
    none (x ∷ xs) = refl
name_utf8 (b ∷ bs) (Some s) = utf8_run_more (Some s) (escape b) (flat_map escape bs) ∙ ap (λ o. utf8_run o (flat_map escape bs)) ((escaped b).utf8 s) ∙ name_utf8 bs (utf8_next s b)

-- what has no byte that is escaped is its own text
pub plain_decoded : (text : List ℕ) → flat_map escape text ≡ text → decoded text ≡ Some text
plain_decoded text same = ap decoded (sym same) ∙ name_decoded text
