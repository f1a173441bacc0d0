-- Lists of elements, each with a property: elements in others, and counts over those before a place.
use Rattle.std.proofs.Common.{◌≡◌, ℕ, ◌+◌, ◌-◌, ◌≤◌, Bool, true, false, cond, List, [], ◌∷◌, ◌++◌, length, map, flat_map, Option, None, Some, refl, sym, ◌∙◌, ap, subst, arith, filter, append_assoc, length-append}
use Rattle.std.proofs.lemmas.List.Elements.{All-nil, All-cons}
use Rattle.std.specs.List.{filter_map, cons_option}
use Rattle.std.specs.Prelude.{All}
use Rattle.landxml_read.specs.declared.kind.Kind.{Kind}
use Rattle.landxml_read.specs.Markup.{StartTag, EndTag, Content, Nothing, Byte, Comment, Instruction, CData, Empty, Element, content_text, start_text, empty_text, end_text}
use Rattle.landxml_read.specs.Elements.{Found, below, elements, whole_found}
use Rattle.landxml_read.specs.Lists.{inner}
use Rattle.landxml_read.proofs.Places.{filter_more}
use Rattle.landxml_read.proofs.Nesting.{flat_more}

module _ {X : Type 0} where
  -- the property of each
  abbrev pub Each : (X → Type 0) → List X → Type 0
  Each P [] = Unit {0}
  Each P (x ∷ xs) = P x × Each P xs

  pub each_more : (P : X → Type 0) (xs ys : List X) → Each P xs → Each P ys → Each P (xs ++ ys)
  each_more P [] ys f g = g
  each_more P (x ∷ xs) ys f g = (f.0, each_more P xs ys f.1 g)

  pub each_front : (P : X → Type 0) (xs ys : List X) → Each P (xs ++ ys) → Each P xs
  each_front P [] ys f = tt
  each_front P (x ∷ xs) ys f = (f.0, each_front P xs ys f.1)

  pub each_rest : (P : X → Type 0) (xs ys : List X) → Each P (xs ++ ys) → Each P ys
  each_rest P [] ys f = f
  each_rest P (x ∷ xs) ys f = each_rest P xs ys f.1

  pub each_weaker : (P Q : X → Type 0) → ((x : X) → P x → Q x) → (xs : List X) → Each P xs → Each Q xs
  each_weaker P Q h [] f = tt
  each_weaker P Q h (x ∷ xs) f = (h x f.0, each_weaker P Q h xs f.1)

  pub each_both : (P Q : X → Type 0) (xs : List X) → Each P xs → Each Q xs → Each (λ x. P x × Q x) xs
  each_both P Q [] f g = tt
  each_both P Q (x ∷ xs) f g = ((f.0, g.0), each_both P Q xs f.1 g.1)

  pub all_of : (P : X → Type 0) (xs : List X) → Each P xs → All P xs
  all_of P [] f = All-nil P
  all_of P (x ∷ xs) f = All-cons P x xs f.0 (all_of P xs f.1)

  -- by where each stands
  pub each_at : (P : X → Type 0) (front xs : List X) → ((ys : List X) (x : X) (zs : List X) → front ++ xs ≡ ys ++ x ∷ zs → P x) → Each P xs
  each_at P front [] h = tt
  each_at P front (x ∷ xs) h = (h front x xs refl, each_at P (front ++ x ∷ []) xs (λ ys y zs e. h ys y zs (sym (append_assoc front (x ∷ []) xs) ∙ e)))

-- the property of what is there, where there is something
abbrev pub Holds : {Y : Type 0} → (Y → Type 0) → Option Y → Type 0
Holds P None = Unit {0}
Holds P (Some y) = P y

module _ {X Y : Type 0} where
  -- of what each gives
  pub each_flat : (P : Y → Type 0) (f : X → List Y) (xs : List X) → Each (λ x. Each P (f x)) xs → Each P (flat_map f xs)
  each_flat P f [] h = tt
  each_flat P f (x ∷ xs) h = each_more P (f x) (flat_map f xs) h.0 (each_flat P f xs h.1)

  pub each_map : (P : Y → Type 0) (f : X → Y) (xs : List X) → Each (λ x. P (f x)) xs → Each P (map f xs)
  each_map P f [] h = tt
  each_map P f (x ∷ xs) h = (h.0, each_map P f xs h.1)

  pub each_found : (P : Y → Type 0) (f : X → Option Y) (xs : List X) → Each (λ x. Holds P (f x)) xs → Each P (filter_map f xs)
  each_found P f [] h = tt
  each_found P f (x ∷ xs) h = by (f x) h.0 (each_found P f xs h.1)
    where
      by : (o : Option Y) → Holds P o → Each P (filter_map f xs) → Each P (cons_option o (filter_map f xs))
      by None a b = b
      by (Some y) a b = (a, b)

  -- what some of a list give is no more than what all do
  fewer : (f : X → List Y) (p : X → Bool) (xs : List X) → length (flat_map f (filter p xs)) ≤ length (flat_map f xs)
  fewer f p [] = omega arith
  fewer f p (x ∷ xs) = by (p x) (fewer f p xs)
    where
      by : (t : Bool) → length (flat_map f (filter p xs)) ≤ length (flat_map f xs) → length (flat_map f (cond t (x ∷ filter p xs) (filter p xs))) ≤ length (f x ++ flat_map f xs)
      by true h = let a = length-append (f x) (flat_map f (filter p xs)) in let b = length-append (f x) (flat_map f xs) in omega (arith, a, b, h)
      by false h = let b = length-append (f x) (flat_map f xs) in omega (arith, b, h)

  -- and with one that is not among them still no more
  pub one_apart : (f : X → List Y) (p : X → Bool) (ys : List X) (x : X) (zs : List X) → p x ≡ false → length (flat_map f (filter p (ys ++ x ∷ zs))) + length (f x) ≤ length (flat_map f (ys ++ x ∷ zs))
  one_apart f p ys x zs e =
      let left : filter p (ys ++ x ∷ zs) ≡ filter p ys ++ filter p zs = filter_more p ys (x ∷ zs) ∙ ap (λ t. filter p ys ++ cond t (x ∷ filter p zs) (filter p zs)) e in
      let a = ap (λ es. length (flat_map f es)) left in
      let b = ap length (flat_more f (filter p ys) (filter p zs)) in
      let c = length-append (flat_map f (filter p ys)) (flat_map f (filter p zs)) in
      let d = ap length (flat_more f ys (x ∷ zs)) in
      let g = length-append (flat_map f ys) (f x ++ flat_map f zs) in
      let h = length-append (f x) (flat_map f zs) in
      let i = fewer f p ys in
      let j = fewer f p zs in
      omega (arith, a, b, c, d, g, h, i, j)

-- the elements in an element are elements of what holds it

start_some : (tag : StartTag) → 1 ≤ length (start_text tag)
start_some tag = omega arith

inner_whole : (own : Kind) (depth at : ℕ) (tag : StartTag) (inside : Content) (end : EndTag) → inner (whole_found own depth at tag inside end) ≡ elements own depth (at + length (start_text tag)) inside
inner_whole own depth at tag inside end =
    let a = start_some tag in
    let e : at + length (start_text tag) - 1 + 1 ≡ at + length (start_text tag) = omega (arith, a) in
    ap (λ m. elements own depth m inside) e

pub inner_each : (P : Found → Type 0) (k : Kind) (depth at : ℕ) (x : Content) → Each P (elements k depth at x) → Each (λ e. Each P (inner e)) (elements k depth at x)
inner_each P k depth at Nothing h = tt
inner_each P k depth at (Byte b after) h = inner_each P k depth (at + 1) after h
inner_each P k depth at (Comment bytes after) h = inner_each P k depth (at + (length bytes + 7)) after h
inner_each P k depth at (Instruction bytes after) h = inner_each P k depth (at + (length bytes + 4)) after h
inner_each P k depth at (CData bytes after) h = inner_each P k depth (at + (length bytes + 12)) after h
inner_each P k depth at (Empty tag after) h = (tt, inner_each P k depth (at + length (empty_text tag)) after h.1)
inner_each P k depth at (Element tag inside end after) h =
    let own = below k tag.name in
    let m = at + length (start_text tag) in
    let there = m + length (content_text inside) + length (end_text end) in
    let within = elements own (depth + 1) m inside in
    let further = elements k depth there after in
    let here = each_front P within further h.1 in
    let Q : List Found → Type 0 = Each P in (
      subst Q (sym (inner_whole own (depth + 1) at tag inside end)) here,
      each_more (λ e. Each P (inner e)) within further (inner_each P own (depth + 1) m inside here) (inner_each P k depth there after (each_rest P within further h.1)),
    )
