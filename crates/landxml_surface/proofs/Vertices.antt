-- Vertices within the limits, and one place after others.
use Rattle.std.proofs.Common.{◌≡◌, ℕ, zero, suc, ◌+◌, ◌<◌, Bool, true, false, cond, arith, List, [], ◌∷◌, ◌++◌, length, take, get_or, Option, None, Some, refl, sym, ap, subst, ◌∙◌}
use Rattle.std.specs.Prelude.{slice_get, option_map, unwrap_or, filter_map, map, find, bytes_eq, All}
use Rattle.std.specs.List.{cons_option}
use Rattle.std.proofs.lemmas.List.{take_more, map-append}
use Rattle.std.proofs.lemmas.Option.{get_or_from_slice_get, slice_get_within}
use Rattle.std.proofs.lemmas.List.Elements.{filter_map-append, All-head, All-tail}
use Rattle.ground_num.specs.declared.head.Origin.{Origin}
use Rattle.ground_model.specs.Place.{IsPlace}
use Rattle.landxml_read.specs.declared.raw.Triple.{Triple}
use Rattle.landxml_read.specs.declared.raw.Pair2.{Pair2}
use Rattle.landxml_read.specs.declared.raw.RawId.{RawId}
use Rattle.landxml_read.specs.declared.raw.RawSurface.{RawSurface}
use Rattle.landxml_read.specs.declared.raw.RawVertex.{RawVertex}
use Rattle.landxml_read.specs.declared.raw.RawVertex.TheVariants as vertex
use Rattle.landxml_surface.specs.declared.spot.Spot.{Spot}
use Rattle.landxml_surface.specs.Drafts.{vertex_spot}
use Rattle.landxml_surface.specs.Faults.{pair_spot}
use Rattle.landxml_surface.specs.Heights.{spot_of}
use Rattle.landxml_surface.specs.Ids.{triple_of}
use Rattle.landxml_surface.specs.Origins.{from_origin}
use Rattle.landxml_surface.specs.Placed.{IsPlaced}

pub same_some : {X : Type 0} (a b : X) → Some a ≡ Some b → a ≡ b
same_some a b e = ap (λ o. unwrap_or o a) e

-- a vertex lies within the limits
pub vertex-placed : (origin : Origin) (s : RawSurface) (v : RawVertex) (p : Spot) → IsPlaced origin s → vertex_spot s v ≡ Some p → IsPlace (from_origin origin p)
vertex-placed origin s (vertex.Triple k) p placed e = by (slice_get s.triples k) refl e
  where
    by : (o : Option Triple) → slice_get s.triples k ≡ o → option_map spot_of o ≡ Some p → IsPlace (from_origin origin p)
    by None at f = cc
    by (Some t) at f = subst (λ q. IsPlace (from_origin origin q)) (same_some (spot_of t) p f) (placed.triples k t at)
vertex-placed origin s (vertex.Pair k) p placed e = by (slice_get s.pairs k) refl e
  where
    by : (o : Option Pair2) → slice_get s.pairs k ≡ o → option_map pair_spot o ≡ Some p → IsPlace (from_origin origin p)
    by None at f = cc
    by (Some t) at f = subst (λ q. IsPlace (from_origin origin q)) (same_some (pair_spot t) p f) (placed.pairs k t at)

-- what is made of one element more
pub made-more : {X Y : Type 0} (f : X → Option Y) (xs : List X) (k : ℕ) (d : X) (y : Y) → k < length xs → f (get_or xs k d) ≡ Some y → filter_map f (take k xs) ++ y ∷ [] ≡ filter_map f (take (k + 1) xs)
made-more f xs k d y less made =
    ap (λ o. filter_map f (take k xs) ++ cons_option o []) (sym made) ∙ sym (filter_map-append f (take k xs) (get_or xs k d ∷ [])) ∙ ap (filter_map f) (sym (take_more xs k d less))

pub is_there : {X : Type 0} (xs : List X) (k : ℕ) → k < length xs → slice_get xs k ≡ None → ⊥
is_there [] k within none = absurd (omega (arith, within))
is_there (x ∷ xs) zero within none = cc
is_there (x ∷ xs) (suc k) within none = is_there xs k (omega (arith, within)) none

-- one element more, each made into another
pub map-more : {X Y : Type 0} (f : X → Y) (xs : List X) (k : ℕ) (x : X) → slice_get xs k ≡ Some x → map f (take k xs) ++ f x ∷ [] ≡ map f (take (k + 1) xs)
map-more f xs k x at =
    sym (map-append f (take k xs) (x ∷ [])) ∙ ap (λ y. map f (take k xs ++ y ∷ [])) (sym (get_or_from_slice_get xs k x x at)) ∙ ap (map f) (sym (take_more xs k x (slice_get_within xs k x at)))

-- the triple of an id is one of so many, where each id's is
pub triple-below : (ids : List RawId) (name : List ℕ) (k n : ℕ) → All (λ (i : RawId). i.triple < n) ids → triple_of ids name ≡ Some k → k < n
triple-below [] name k n all e = cc
triple-below (i ∷ ids) name k n all e = by (bytes_eq name i.id) e (λ f. triple-below ids name k n (All-tail (λ (j : RawId). j.triple < n) i ids all) f)
  where
    by : (b : Bool) → option_map (λ (j : RawId). j.triple) (cond b (Some i) (find (λ (j : RawId). bytes_eq name j.id) ids)) ≡ Some k → (triple_of ids name ≡ Some k → k < n) → k < n
    by true f rest = subst (λ m. m < n) (same_some i.triple k f) (All-head (λ (j : RawId). j.triple < n) i ids all)
    by false f rest = rest f
