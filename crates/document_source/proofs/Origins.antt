-- The origin of a draft is within its limit.
use Rattle.std.proofs.Common.{arith, ◌≡◌, ◌≤◌, ◌^◌, ℕ, List, [], ◌∷◌, map, subst, sym}
use Rattle.std.specs.Prelude.{ℤ, pos, negsuc, ◌*ℤ◌, ◌+ℤ◌, unsigned_abs}
use Rattle.std.specs.List.{All}
use Rattle.std.proofs.lemmas.Int.{ints}
use Rattle.std.proofs.lemmas.List.Elements.{All-map, All-weaker, All-same, All-head}
use Rattle.ground_num.specs.declared.head.LinearUnit.{LinearUnit}
use Rattle.ground_num.specs.Decimal.{IsWithin}
use Rattle.ground_num.specs.Head.{IsOrigin}
use Rattle.ground_num.specs.Spelling.{number_limit}
use Rattle.ground_model.proofs.Floor.{floor_div-le, floor_div-more}
use Rattle.landxml_read.specs.declared.raw.RawSurface.{RawSurface}
use Rattle.landxml_read.specs.declared.raw.Triple.{Triple}
use Rattle.landxml_read.specs.Lawful.{IsLawfulSurface, IsLawfulTriple}
use Rattle.landxml_surface.specs.declared.draft.Draft.{Draft}
use Rattle.landxml_surface.specs.declared.origin.OriginRule.{OriginRule}
use Rattle.landxml_surface.specs.declared.origin.OriginRule.TheVariants.{Given, Nearest}
use Rattle.landxml_surface.specs.Drafts.{draft_of, IsRule}
use Rattle.landxml_surface.specs.Origins.{nearest, origin_by}

within : (x : ℤ) → unsigned_abs x ≤ 2 ^ 50 → IsWithin (2 ^ 50) x
within (pos n) small = small
within (negsuc n) small = omega (arith, small)

nearest-within : (x : ℤ) → unsigned_abs x ≤ number_limit → IsWithin (2 ^ 50) (nearest x)
nearest-within x small =
    let low = floor_div-le (pos 2 *ℤ x +ℤ pos 100000000) (pos 200000000) (omega (arith, ints)) in
    let high = floor_div-more (pos 2 *ℤ x +ℤ pos 100000000) (pos 200000000) (omega (arith, ints)) in
    within (nearest x) (omega (arith, ints, low, high, small))

origin-within : (rule : OriginRule) (ts : List Triple) → IsRule rule → All IsLawfulTriple ts → IsOrigin (origin_by rule ts)
origin-within (Given origin) ts rule lawful = rule
origin-within Nearest [] rule lawful = record { n = omega arith; e = omega arith }
origin-within Nearest (t ∷ ts) rule lawful =
    let first = All-head IsLawfulTriple t ts lawful in
    record { n = nearest-within t.n.0 first.n; e = nearest-within t.e.0 first.e }

of_draft : (unit : LinearUnit) (rule : OriginRule) (s : RawSurface) → IsRule rule → IsLawfulSurface s → IsOrigin (draft_of unit rule s).head.origin
unfolding draft_of
of_draft unit rule s is lawful = origin-within rule s.triples is lawful.triples

pub origins-within : (unit : LinearUnit) (rule : OriginRule) (ss : List RawSurface) (drafts : List Draft) → IsRule rule → All IsLawfulSurface ss → drafts ≡ map (draft_of unit rule) ss → All (λ (d : Draft). IsOrigin d.head.origin) drafts
origins-within unit rule ss drafts is lawful same =
    let P : Draft → Type 0 = λ d. IsOrigin d.head.origin in
    All-same P drafts (map (draft_of unit rule) ss) same (All-map P (draft_of unit rule) ss (All-weaker IsLawfulSurface (λ s. P (draft_of unit rule s)) (λ s h. of_draft unit rule s is h) ss lawful))
