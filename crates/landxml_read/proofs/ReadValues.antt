-- What the values of a tag come to, by the list of them.
use Rattle.std.proofs.Common.{◌≡◌, ℕ, Bool, true, false, ◌==◌, ◌||◌, not, nat_lt, List, [], ◌∷◌, length, map, filter, bytes_eq, Option, None, Some, refl, sym, ◌∙◌, ap, subst, arith, lt-ltb, suc, cond}
use Rattle.std.proofs.lemmas.Bool.Decides.{nat_tests}
use Rattle.std.specs.Option.{is_none}
use Rattle.std.specs.List.{list_any}
use Rattle.landxml_read.specs.declared.values.Values.{Values}
use Rattle.landxml_read.specs.Markup.{Attribute}
use Rattle.landxml_read.specs.Values.{decoded}
use Rattle.landxml_read.specs.Faults.{values_named, first_decoded, is_long}
use Rattle.landxml_read.specs.Events.{no_values, with_value, with_attributes}
use Rattle.landxml_read.proofs.Running.{if_true}

-- with further values
abbrev with_values : Values → List (List ℕ) → Values
with_values v [] = v
with_values v (text ∷ texts) = with_values (with_value v (decoded text)) texts

by_list : (read : Option (List ℕ)) (v : Values) (attributes : List Attribute) → with_attributes read v attributes ≡ with_values v (values_named read attributes)
by_list None v [] = refl
by_list None v (a ∷ more) = by_list None v more
by_list (Some name) v [] = refl
by_list (Some name) v (a ∷ more) = go (bytes_eq a.name name) refl (λ u. by_list (Some name) u more)
  where
    kept : List Attribute
    kept = filter (λ x. bytes_eq x.name name) more

    go : (t : Bool) → bytes_eq a.name name ≡ t → ((u : Values) → with_attributes (Some name) u more ≡ with_values u (values_named (Some name) more)) → with_attributes (Some name) v (a ∷ more) ≡ with_values v (values_named (Some name) (a ∷ more))
    go true e again =
        ap (λ x. with_attributes (Some name) (cond x (with_value v (decoded a.value)) v) more) e ∙ again (with_value v (decoded a.value)) ∙ sym (ap (λ x. with_values v (map (λ y. y.value) (cond x (a ∷ kept) kept))) e)
    go false e again =
        ap (λ x. with_attributes (Some name) (cond x (with_value v (decoded a.value)) v) more) e ∙ again v ∙ sym (ap (λ x. with_values v (map (λ y. y.value) (cond x (a ∷ kept) kept))) e)

-- a test that holds of one of them

any_later : (get : Values → Bool) (q : Option (List ℕ) → Bool) → ((v : Values) (text : Option (List ℕ)) → get (with_value v text) ≡ (get v || q text)) → (v : Values) (texts : List (List ℕ)) → get (with_values v texts) ≡ (get v || list_any q (map decoded texts))
any_later get q each v [] = or_false (get v)
  where
    or_false : (b : Bool) → b ≡ (b || false)
    or_false true = refl
    or_false false = refl
any_later get q each v (text ∷ texts) = any_later get q each (with_value v (decoded text)) texts ∙ ap (λ b. b || list_any q (map decoded texts)) (each v (decoded text)) ∙ or_more (get v) (q (decoded text)) (list_any q (map decoded texts))
  where
    or_more : (a b c : Bool) → ((a || b) || c) ≡ (a || (b || c))
    or_more true b c = refl
    or_more false b c = refl

still_there : (v : Values) (texts : List (List ℕ)) → v.is_there ≡ true → (with_values v texts).is_there ≡ true
still_there v [] e = e
still_there v (text ∷ texts) e = still_there (with_value v (decoded text)) texts refl

still_twice : (v : Values) (texts : List (List ℕ)) → v.is_twice ≡ true → (with_values v texts).is_twice ≡ true
still_twice v [] e = e
still_twice v (text ∷ texts) e = still_twice (with_value v (decoded text)) texts (ap (λ b. b || v.is_there) e)

still_first : (v : Values) (texts : List (List ℕ)) → v.is_there ≡ true → (with_values v texts).first ≡ v.first
still_first v [] e = refl
still_first v (text ∷ texts) e = still_first (with_value v (decoded text)) texts refl ∙ if_true v.is_there v.first (decoded text) e

-- what the values of a tag come to
pub record Comes (texts : List (List ℕ)) (v : Values) : Type 0 where
  pub some : v.is_there ≡ nat_lt 0 (length (map decoded texts))
  pub none : not v.is_there ≡ (length (map decoded texts) == 0)
  pub twice : v.is_twice ≡ nat_lt 1 (length (map decoded texts))
  pub long : v.is_long ≡ list_any is_long (map decoded texts)
  pub unlisted : v.is_unlisted ≡ list_any is_none (map decoded texts)
  pub first : v.first ≡ first_decoded texts

comes : (texts : List (List ℕ)) → Comes texts (with_values no_values texts)
comes texts = by texts (any_later (λ v. v.is_long) is_long (λ v text. refl) no_values texts) (any_later (λ v. v.is_unlisted) is_none (λ v text. refl) no_values texts)
  where
    positive : (n : ℕ) → true ≡ nat_lt 0 (suc (suc n))
    positive n = sym (lt-ltb 0 (suc (suc n)) (omega arith))

    many : (n : ℕ) → true ≡ nat_lt 1 (suc (suc n))
    many n = sym (lt-ltb 1 (suc (suc n)) (omega arith))

    nonzero : (n : ℕ) → false ≡ (suc (suc n) == 0)
    nonzero n = let t : (suc (suc n) == 0) ≡ false = grind (arith, nat_tests) in sym t

    by : (texts : List (List ℕ)) → (with_values no_values texts).is_long ≡ list_any is_long (map decoded texts) → (with_values no_values texts).is_unlisted ≡ list_any is_none (map decoded texts) → Comes texts (with_values no_values texts)
    by [] long unlisted = record { some = refl; none = refl; twice = refl; long = long; unlisted = unlisted; first = refl }
    by (a ∷ []) long unlisted = record { some = refl; none = refl; twice = refl; long = long; unlisted = unlisted; first = refl }
    by (a ∷ b ∷ more) long unlisted =
        let v = with_value no_values (decoded a) in
        let u = with_value v (decoded b) in
        let there = still_there u more refl in
        record { some = there ∙ positive (length (map decoded more)); none = ap not there ∙ nonzero (length (map decoded more)); twice = still_twice u more refl ∙ many (length (map decoded more)); long = long; unlisted = unlisted; first = still_first u more refl }

-- what the read attributes of a tag come to
pub read_values : (read : Option (List ℕ)) (attributes : List Attribute) → Comes (values_named read attributes) (with_attributes read no_values attributes)
read_values read attributes = let P : Values → Type 0 = Comes (values_named read attributes) in subst P (sym (by_list read no_values attributes)) (comes (values_named read attributes))
