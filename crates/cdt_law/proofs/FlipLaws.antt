-- The flip of an illegal edge destroys no facet.
use Rattle.std.proofs.Common.{◌≡◌, ℕ, ◌<◌, ◌⊎◌, inl, inr, refl, sym, ap, subst, ◌∙◌, arith, List, [], ◌∷◌, Bool, true, false}
use Rattle.std.specs.Prelude.{pos, ◌<ℤ◌, if◌then◌else◌}
use Rattle.std.specs.List.{All}
use Rattle.std.proofs.lemmas.List.Elements.{All-nil, All-cons}
use Rattle.ground_model.specs.declared.corner.Corner.{Corner}
use Rattle.ground_model.specs.declared.corner.Corner.TheVariants.{At, Far}
use Rattle.ground_model.specs.declared.facet.Facet.{Facet}
use Rattle.ground_model.specs.Place.{Coords, is_before}
use Rattle.ground_model.specs.Side.{side, crosses}
use Rattle.ground_model.specs.Line.{is_point}
use Rattle.ground_model.specs.Lifted.{Lifted}
use Rattle.ground_model.specs.Corner.{corner_at}
use Rattle.ground_model.specs.Mark.{is_among}
use Rattle.ground_model.specs.Table.{pieces_by}
use Rattle.ground_model.proofs.Ring.{var, ◌⊕◌, ◌⊖◌, ◌⊗◌, ring}
use Rattle.ground_model.proofs.Circle.{sideE}
use Rattle.ground_model.proofs.Members.{is_among-facets}
use Rattle.ground_model.proofs.Elements.{In, each_at}
use Rattle.ground_model.proofs.Along.{same_place}
use Rattle.predicates.specs.Depth.{depth}
use Rattle.predicates.specs.Net.{Net, Triangle, has, has_corner, count_of, tri_of}
use Rattle.predicates.specs.Sheet.{IsSheet, is_over}
use Rattle.predicates.proofs.Signs.{never-both, never-level, positive-along, positive-neg, negative-along, negative-neg}
use Rattle.predicates.proofs.FlatSides.{flat_ab, side-back}
use Rattle.predicates.proofs.Heights.{lift, deep}
use Rattle.predicates.proofs.InsideDepths.{inside-deep}
use Rattle.predicates.proofs.Valid.{IsValid}
use Rattle.predicates.proofs.FarTriangle.{sheet-valid, listed-place}
use Rattle.predicates.proofs.Tiling.{left-of}
use Rattle.predicates.proofs.CrossedEdges.{Crosses}
use Rattle.predicates.proofs.NeverCross.{crosses-way}
use Rattle.predicates.proofs.Owners.{IsTurn, Still, Once, Twice, Owner, turn-side, turn-next}
use Rattle.predicates.proofs.HasTriangles.{has-owner, turn-of, HasOwner}
use Rattle.cdt_law.specs.Flips.{IsSound, IsIllegal, HasFewerPieces, is_on, IsGone, Flipped, FlippedBehind, Crossed, Without, Covering, Step, IsStep, DestroyedLaw, EditLaw, FlipLaw}
use Rattle.cdt_law.proofs.Walk.{turn-valid}
use Rattle.cdt_law.proofs.GoodTriangle.{Site, IsGood, WallAt, good-turned}
use Rattle.cdt_law.proofs.GoodInSheet.{site_of, sheet-site, over-first, below-point}
use Rattle.cdt_law.proofs.OneTriangle.{PointAt}
use Rattle.cdt_law.proofs.Counts.{CountsPieces, both_ways, both-then, both-else}
use Rattle.cdt_law.proofs.GoodFacet.{site_by}
use Rattle.cdt_law.proofs.SheetFacets.{IsFacetOf, tested-of}
use Rattle.cdt_law.proofs.FacetLaws.{later_count}
use Rattle.cdt_law.proofs.NoWallOver.{no_wall}
use Rattle.predicates.proofs.Holding.{turn-held, turn-has_corner}

-- ---- of the two triangles over an illegal edge none is good
-- the points and pieces of the site are such of the net
record IsWithin (s : Site) (net : Net) : Type 0 where
  points : (p : Coords) → is_point net.points p ≡ true → is_point s.points p ≡ true
  pieces : (p q : Coords) → 0 < s.count p q → 0 < net.count p q

never_good : (net : Net) → IsSheet net → (s : Site) → IsWithin s net → (p q r : Coords) (d : Corner) → has net (At p) (At q) (At r) ≡ true → has net (At q) (At p) d ≡ true
    → net.count p q ≡ 0 → pos 0 <ℤ deep (At p) (At q) (At r) d → IsGood s (At p) (At q) (At r) → ⊥
never_good net sheet s within p q r d at_left at_right free deep_d good =
    no_wall net sheet p q z w.u w.v (record { index = o.index; triangle = o.triangle; at = o.at; turn = turn })
    (over-first net sheet l.index l.triangle (At p) (At q) l.third l.at l.turn)
    (over-first net sheet o.index o.triangle (At q) (At p) o.third o.at o.turn) free
    (within.pieces w.u w.v w.piece) w.at_a w.at_b
  where
    left : HasOwner net (At p) (At q) (At r)
    left = has-owner net (At p) (At q) (At r) at_left

    right : HasOwner net (At q) (At p) d
    right = has-owner net (At q) (At p) d at_right

    l : Owner net.triangles (At p) (At q)
    l = left.owner

    o : Owner net.triangles (At q) (At p)
    o = right.owner

    last : IsTurn o.triangle o.third (At q) (At p)
    last = turn-next o.triangle (At p) o.third (At q) (turn-next o.triangle (At q) (At p) o.third o.turn)

    at_third : is_over net.points o.third ≡ true
    at_third = over-first net sheet o.index o.triangle o.third (At q) (At p) o.at last

    valid_third : IsValid o.third
    valid_third = (turn-valid o.triangle o.third (At q) (At p) last (sheet-valid net sheet o.index o.triangle o.at)).a_in

    fourth : PointAt (site_of net) o.third
    fourth = below-point net sheet p q r
        (listed-place net.points sheet.places p (over-first net sheet l.index l.triangle (At p) (At q) l.third l.at l.turn))
        (listed-place net.points sheet.places q (over-first net sheet o.index o.triangle (At q) (At p) o.third o.at o.turn))
        (listed-place net.points sheet.places r at_r)
        good.turned o.third valid_third at_third (subst (λ (k : Corner). pos 0 <ℤ deep (At p) (At q) (At r) k) (sym right.third) deep_d)
      where
        turn_r : IsTurn l.triangle l.third (At p) (At q)
        turn_r = turn-next l.triangle (At q) l.third (At p) (turn-next l.triangle (At p) (At q) l.third l.turn)

        at_r : is_point net.points r ≡ true
        at_r = sym (ap (is_over net.points) left.third) ∙ over-first net sheet l.index l.triangle l.third (At p) (At q) l.at turn_r

    z : Coords
    z = fourth.place

    turn : IsTurn o.triangle (At z) (At q) (At p)
    turn = subst (λ (k : Corner). IsTurn o.triangle k (At q) (At p)) fourth.is last

    w : WallAt s (At p) (At q) z
    w = good.wall_ab z (within.points z fourth.at) (subst (λ (k : Corner). pos 0 <ℤ deep (At p) (At q) (At r) k) (sym right.third ∙ fourth.is) deep_d)
        (negative-neg (side q p z) (side p q z) (side-back q p z) (turn-side o.triangle (At q) (At p) (At z) turn_z (left-of net sheet o.index o.triangle o.at)))
      where
        turn_z : IsTurn o.triangle (At q) (At p) (At z)
        turn_z = subst (λ (k : Corner). IsTurn o.triangle (At q) (At p) k) fourth.is o.turn

-- ---- the depth is that of the other triangle
pub depth-exchanged : (a b c d : Lifted) → depth a b c d ≡ depth b a d c
unfolding side depth
depth-exchanged a b c d =
    ring (a.at.e ∷ a.at.n ∷ b.at.e ∷ b.at.n ∷ c.at.e ∷ c.at.n ∷ d.at.e ∷ d.at.n ∷ a.height ∷ b.height ∷ c.height ∷ d.height ∷ [])
    (var 8 ⊗ sideE 1 2 3 ⊕ var 9 ⊗ sideE 2 0 3 ⊕ var 10 ⊗ sideE 0 1 3 ⊖ var 11 ⊗ sideE 0 1 2)
    (var 9 ⊗ sideE 0 3 2 ⊕ var 8 ⊗ sideE 3 1 2 ⊕ var 11 ⊗ sideE 1 0 2 ⊖ var 10 ⊗ sideE 1 0 3) refl

-- ---- a facet on one of them
off_left : (net : Net) → IsSheet net → (s : Site) → IsWithin s net → (p q r : Coords) → IsGood s (At p) (At q) (At r) → (a b c d : Corner)
    → IsTurn (record { a = At p; b = At q; c = At r }) a b c → has net a b c ≡ true → has net b a d ≡ true → count_of net a b ≡ 0 → pos 0 <ℤ deep a b c d → ⊥
off_left net sheet s within p q r good a b c d Still left right free deep_d = never_good net sheet s within p q r d left right free deep_d good
off_left net sheet s within p q r good a b c d Once left right free deep_d = never_good net sheet s within q r p d left right free deep_d (good-turned s (At p) (At q) (At r) good)
off_left net sheet s within p q r good a b c d Twice left right free deep_d = never_good net sheet s within r p q d left right free deep_d (good-turned s (At q) (At r) (At p) (good-turned s (At p) (At q) (At r) good))

-- the count does not look at the direction
pub count-back : (net : Net) → IsSheet net → (a b : Corner) → count_of net a b ≡ 0 → count_of net b a ≡ 0
count-back net sheet (At p) (At q) e = sheet.even q p ∙ e
count-back net sheet (At p) (Far k) e = refl
count-back net sheet (Far j) (At q) e = refl
count-back net sheet (Far j) (Far k) e = refl

-- ---- the pieces between the points of a sound net
sound-counts : (net : Net) → IsSound net → CountsPieces net.points (later_count net)
sound-counts net sound = record {
  ordered = λ p q some. (parts p q (is_before p q) refl some).0;
  first = λ p q some. sound.joined p q (parts p q (is_before p q) refl some).1;
  last = λ p q some. sound.joined q p (along (net.count q p) (net.count p q) (sound.even q p) (parts p q (is_before p q) refl some).1);
}
  where
    along : (m n : ℕ) → m ≡ n → 0 < n → 0 < m
    along m n e h = omega (arith, e, h)

    parts : (p q : Coords) (t : Bool) → is_before p q ≡ t → 0 < (if is_before p q then net.count p q else 0) → (is_before p q ≡ true) × (0 < net.count p q)
    parts p q true e some = (e, along (net.count p q) (if is_before p q then net.count p q else 0) (sym (ap (λ (k : Bool). if k then net.count p q else 0) e)) some)
    parts p q false e some = absurd (none (if is_before p q then net.count p q else 0) (ap (λ (k : Bool). if k then net.count p q else 0) e) some)
      where
        none : (m : ℕ) → m ≡ 0 → 0 < m → ⊥
        none m e h = omega (arith, e, h)

later-some : (net : Net) → IsSound net → (p q : Coords) → 0 < both_ways (later_count net) p q → 0 < net.count p q
later-some net sound p q some = by (is_before p q) (is_before q p) refl refl
  where
    later : (x y : Coords) → is_before x y ≡ true → later_count net x y ≡ net.count x y
    later x y e = ap (λ (k : Bool). if k then net.count x y else 0) e

    along : (m n : ℕ) → m ≡ n → 0 < m → 0 < n
    along m n e h = omega (arith, e, h)

    none : (m : ℕ) → m ≡ 0 → 0 < m → ⊥
    none m e h = omega (arith, e, h)

    by : (t u : Bool) → is_before p q ≡ t → is_before q p ≡ u → 0 < net.count p q
    by true u e f = along (both_ways (later_count net) p q) (net.count p q) (both-then (later_count net) p q e ∙ later p q e) some
    by false true e f = along (both_ways (later_count net) p q) (net.count p q) (both-else (later_count net) p q e ∙ later q p f ∙ sound.even q p) some
    by false false e f = absurd (none (both_ways (later_count net) p q) (both-else (later_count net) p q e ∙ ap (λ (k : Bool). if k then net.count q p else 0) f) some)

pub facet-sound : (net : Net) → IsSound net → (f : Facet) → is_among (tri_of net) f ≡ true → IsFacetOf (site_by (later_count net) net.points) f
facet-sound net sound f e = tested-of (later_count net) net.points (sound-counts net sound) sound.places f (sym (is_among-facets net.points (pieces_by (later_count net) net.points) f) ∙ e)

-- ---- the laws
-- neither triangle over an illegal edge is a facet
no_facet : (net other : Net) → IsSheet net → IsSound other → HasFewerPieces other net → (a b c d : Corner) → IsIllegal net a b c d → (f : Facet) → IsFacetOf (site_by (later_count other) other.points) f
    → (IsTurn (record { a = At f.a; b = At f.b; c = At f.c }) a b c → ⊥) × (IsTurn (record { a = At f.a; b = At f.b; c = At f.c }) b a d → ⊥)
no_facet net other sheet sound fewer a b c d illegal f h = (
  (λ turn. off_left net sheet s within f.a f.b f.c h.good a b c d turn illegal.left illegal.right illegal.free deep_d),
  (λ turn. off_left net sheet s within f.a f.b f.c h.good b a d c turn illegal.right illegal.left (count-back net sheet a b illegal.free)
      (positive-along (deep b a d c) (deep a b c d) (sym (depth-exchanged (lift a) (lift b) (lift c) (lift d))) deep_d)),
)
  where
    s : Site
    s = site_by (later_count other) other.points

    within : IsWithin s net
    within = record { points = fewer.points; pieces = λ p q some. fewer.pieces p q (later-some other sound p q some) }

    deep_d : pos 0 <ℤ deep a b c d
    deep_d = inside-deep a b c d illegal.inside

-- the facet's corners are points, no piece crosses its edges, and it has no other point
turn-facet_good : (s : Site) (f : Facet) (a b c : Corner) → IsFacetOf s f → IsTurn (record { a = At f.a; b = At f.b; c = At f.c }) a b c → IsGood s a b c × (is_over s.points a ≡ true)
turn-facet_good s f a b c h turn = by (At f.a) (At f.b) (At f.c) a b c turn h.good h.at_a h.at_b h.at_c
  where
    by : (p q r x y z : Corner) → IsTurn (record { a = p; b = q; c = r }) x y z → IsGood s p q r → is_over s.points p ≡ true → is_over s.points q ≡ true → is_over s.points r ≡ true → IsGood s x y z × (is_over s.points x ≡ true)
    by p q r x y z Still g i j k = (g, i)
    by p q r x y z Once g i j k = (good-turned s p q r g, j)
    by p q r x y z Twice g i j k = (good-turned s q r p (good-turned s p q r g), k)

some-later : (net : Net) → IsSound net → (p q : Coords) → (p ≡ q → ⊥) → 0 < net.count p q → 0 < both_ways (later_count net) p q
some-later net sound p q differ some = by (is_before p q) (is_before q p) refl refl
  where
    later : (x y : Coords) → is_before x y ≡ true → later_count net x y ≡ net.count x y
    later x y e = ap (λ (k : Bool). if k then net.count x y else 0) e

    along : (m n : ℕ) → m ≡ n → 0 < n → 0 < m
    along m n e h = omega (arith, e, h)

    by : (t u : Bool) → is_before p q ≡ t → is_before q p ≡ u → 0 < both_ways (later_count net) p q
    by true u e f = along (both_ways (later_count net) p q) (net.count p q) (both-then (later_count net) p q e ∙ later p q e) some
    by false true e f = along (both_ways (later_count net) p q) (net.count p q) (both-else (later_count net) p q e ∙ later q p f ∙ sound.even q p) some
    by false false e f = absurd (differ (same_place p q e f))

pub destroyed_law : DestroyedLaw
destroyed_law net other sheet sound a b c gone f e = by (is_on f a b c) (λ on. none gone (turn-of a b c (record { a = At f.a; b = At f.b; c = At f.c }) on))
  where
    s : Site
    s = site_by (later_count other) other.points

    h : IsFacetOf s f
    h = facet-sound other sound f e

    never : (t : Bool) → t ≡ false → t ≡ true → ⊥
    never true e g = cc
    never false e g = cc

    uncrossed : IsGood s a b c → (p q : Coords) → 0 < other.count p q → crosses (corner_at a) (corner_at b) p q ≡ true → ⊥
    uncrossed good p q some x = way (crosses-way (corner_at a) (corner_at b) p q x)
      where
        way : Crosses (corner_at a) (corner_at b) p q ⊎ Crosses p q (corner_at a) (corner_at b) → ⊥
        way (inl k) = good.free_ab p q (some-later other sound p q (λ i. never-both (side (corner_at a) (corner_at b) q) k.v_left (negative-along (side (corner_at a) (corner_at b) q) (side (corner_at a) (corner_at b) p) (ap (side (corner_at a) (corner_at b)) (sym i)) k.u_right)) some) k
        way (inr k) = good.free_ab q p (some-later other sound q p (λ i. never-level (side p q (corner_at b)) k.v_left (flat_ab p q (corner_at b) (sym i))) (along (other.count q p) (other.count p q) (sound.even q p) some)) (record {
          v_left = k.a_left;
          u_right = k.b_right;
          a_left = positive-neg (side p q (corner_at a)) (side q p (corner_at a)) (side-back p q (corner_at a)) k.u_right;
          b_right = negative-neg (side p q (corner_at b)) (side q p (corner_at b)) (side-back p q (corner_at b)) k.v_left;
        })
          where
            along : (m n : ℕ) → m ≡ n → 0 < n → 0 < m
            along m n e h = omega (arith, e, h)

    none : IsGone net other a b c → IsTurn (record { a = At f.a; b = At f.b; c = At f.c }) a b c → ⊥
    none (Flipped d illegal fewer) turn = (no_facet net other sheet sound fewer a b c d illegal f h).0 turn
    none (FlippedBehind d illegal fewer) turn = (no_facet net other sheet sound fewer b a d c illegal f h).1 turn
    none (Crossed p q some x) turn = uncrossed (turn-facet_good s f a b c h turn).0 p q some x
    none (Without out) turn = never (is_over other.points a) out (turn-facet_good s f a b c h turn).1
    none (Covering p at held off) turn =
        let t : Triangle = record { a = a; b = b; c = c } in
        let k = turn-held t a b c p Still held in
        never (has_corner t (At p)) off (turn-has_corner t a b c (At p) Still ((turn-facet_good s f a b c h turn).0.clear p at k.ab k.bc k.ca))

    by : (t : Bool) → (t ≡ true → ⊥) → t ≡ false
    by true h = absurd (h refl)
    by false h = refl

-- ---- a whole edit
pub edit_law : EditLaw
edit_law before after sound_before sound_after steps each f in_before in_after = all_of steps (λ s i. off s (each_at (IsStep before after) steps s each i))
  where
    off : (s : Step) → IsStep before after s → is_on f s.a s.b s.c ≡ false
    off s i = by i.gone
      where
        by : IsGone s.net before s.a s.b s.c ⊎ IsGone s.net after s.a s.b s.c → is_on f s.a s.b s.c ≡ false
        by (inl g) = destroyed_law s.net before i.sheet sound_before s.a s.b s.c g f in_before
        by (inr g) = destroyed_law s.net after i.sheet sound_after s.a s.b s.c g f in_after

    all_of : (xs : List Step) → ((x : Step) → In x xs → is_on f x.a x.b x.c ≡ false) → All (λ s. is_on f s.a s.b s.c ≡ false) xs
    all_of [] h = All-nil (λ s. is_on f s.a s.b s.c ≡ false)
    all_of (x ∷ xs) h = All-cons (λ s. is_on f s.a s.b s.c ≡ false) x xs (h x (inl refl)) (all_of xs (λ y i. h y (inr i)))

pub sheet-sound : (net : Net) → IsSheet net → IsSound net
sheet-sound net sheet = let site = sheet-site net sheet in record { places = site.places; joined = site.ends; even = site.even }

pub flip_law : FlipLaw
flip_law net sheet a b c d illegal f e =
    (destroyed_law net net sheet sound a b c (Flipped d illegal fewer) f e, destroyed_law net net sheet sound b a d (FlippedBehind c illegal fewer) f e)
  where
    sound : IsSound net
    sound = sheet-sound net sheet

    fewer : HasFewerPieces net net
    fewer = record { points = λ p h. h; pieces = λ p q h. h }
