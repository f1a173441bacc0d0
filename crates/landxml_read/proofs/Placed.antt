-- Where an element of a surface stands among the others.
use Rattle.std.proofs.Common.{◌≡◌, ◌≤◌, ℕ, ◌+◌, List, [], ◌∷◌, ◌++◌, length, flat_map, sym, ◌∙◌, ap, arith}
use Rattle.landxml_read.specs.declared.raw.RawSurface.{RawSurface}
use Rattle.landxml_read.specs.declared.kind.Kind.{Kind}
use Rattle.landxml_read.specs.Elements.{Found, elements}
use Rattle.landxml_read.specs.Lists.{before, triples_of, pairs_of}
use Rattle.landxml_read.proofs.Places.{upto_later, upto_earlier, none_before, end_of, IsPart, narrowed, second_part, before_is}
use Rattle.landxml_read.proofs.Effects.{of_kind, IsCounted}

-- the elements of an element of a kind
abbrev pub within : Kind → Found → List Found
within k e = elements k e.depth (e.tag_end + 1) e.inside

module _ (surface : Found) where
  -- an element and its elements stand between offsets
  pub record IsPlaced (k : Kind) (e : Found) (to : ℕ) (pre post : List Found) : Type 0 where
    pub part : IsPart surface e.at to (of_kind e k ∷ within k e) pre post
    pub tag : e.at ≤ e.tag_end
    pub end : end_of (e.tag_end + 1) e.inside ≤ to

  -- its elements alone
  pub inner_part : (k : Kind) (e : Found) (to : ℕ) (pre post : List Found) → IsPlaced k e to pre post → IsPart surface (e.tag_end + 1) (end_of (e.tag_end + 1) e.inside) (within k e) (pre ++ of_kind e k ∷ []) post
  inner_part k e to pre post p =
      let a = p.tag in
      let whole = second_part surface e.at (e.tag_end + 1) to (of_kind e k ∷ []) (within k e) pre post (omega (arith, a)) (λ offset h. upto_earlier offset (of_kind e k) [] (omega (arith, a, h))) p.part in
      narrowed surface (e.tag_end + 1) to (e.tag_end + 1) (end_of (e.tag_end + 1) e.inside) (within k e) (pre ++ of_kind e k ∷ []) post (omega arith) p.end whole

  -- the elements before it
  before_it : (k : Kind) (e : Found) (to : ℕ) (pre post : List Found) → IsPlaced k e to pre post → before e.at surface ≡ pre
  before_it k e to pre post p =
      let a = p.tag in
      let b = p.end in
      before_is surface e.at to (of_kind e k ∷ within k e) pre post (omega (arith, a, b)) (upto_later e.at (of_kind e k) (within k e) (omega arith) ∙ none_before k e.depth (e.tag_end + 1) e.inside e.at (omega (arith, a))) p.part

  -- how many triples are before it
  pub triples_before : (k : Kind) (e : Found) (to : ℕ) (pre post : List Found) (s : RawSurface) → IsPlaced k e to pre post → IsCounted pre s → length (flat_map triples_of (before e.at surface)) ≡ length s.triples
  triples_before k e to pre post s p c = ap (λ xs. length (flat_map triples_of xs)) (before_it k e to pre post p) ∙ sym c.triples

  -- how many pairs are before it
  pub pairs_before : (k : Kind) (e : Found) (to : ℕ) (pre post : List Found) (s : RawSurface) → IsPlaced k e to pre post → IsCounted pre s → length (flat_map pairs_of (before e.at surface)) ≡ length s.pairs
  pairs_before k e to pre post s p c = ap (λ xs. length (flat_map pairs_of xs)) (before_it k e to pre post p) ∙ sym c.pairs
