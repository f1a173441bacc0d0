-- The net of a mesh: its places and counts are those of its triangles.
use Rattle.std.proofs.Common.{◌≡◌, ◌⊎◌, ℕ, suc, zero, Bool, true, false, Some, None, List, [], ◌∷◌, refl, sym, ap, ◌∙◌, inl, inr, subst, arith}
use Rattle.std.specs.Prelude.{if◌then◌else◌}
use Rattle.std.proofs.lemmas.Bool.{or_cases, or_left, or_right, and_parts, and_from}
use Rattle.std.proofs.lemmas.Option.{none-some}
use Rattle.ground_model.specs.declared.corner.Corner.{Corner}
use Rattle.ground_model.specs.declared.corner.Corner.TheVariants.{At, Far}
use Rattle.ground_model.specs.Corner.{is_same_corner}
use Rattle.ground_model.specs.Line.{is_point}
use Rattle.ground_model.specs.Place.{Coords, is_same}
use Rattle.ground_model.proofs.LinePieces.{is_same_itself}
use Rattle.ground_model.proofs.Ties.{same_of_is_same}
use Rattle.predicates.proofs.Edges.{corner-equal, corner-self}
use Rattle.predicates.specs.Sheet.{IsSheet}
use Rattle.tri_pages.specs.declared.tri_slot.TriSlot.{TriSlot}
use Rattle.tri_pages.specs.Slots.{State, triangle_at, holding}
use Rattle.mesh.specs.Net.{Side, first, second, third, after, corner_at, count_at, edge, edge_of}
use Rattle.mesh.specs.Sheets.{place_before, places_in, is_side, count_in, net_in, IsSheetMesh, HasSide, HasCorner, NetLaw}
use Rattle.mesh.proofs.NamedEdges.{same_in}
use Rattle.mesh.proofs.SheetLaw.{standing, sheet_law}
use Rattle.mesh.proofs.TurnedSlots.{by_side}

place_first : (c : Corner) (ps : List Coords) (p : Coords) → is_point (place_before c ps) p ≡ true → (c ≡ At p) ⊎ (is_point ps p ≡ true)
place_first (At q) ps p h = elim (or_cases (is_same p q) (is_point ps p) h) as (λ _. (At q ≡ At p) ⊎ (is_point ps p ≡ true)) [
  | inl e ↦ inl (ap At (sym (same_of_is_same p q e)))
  | inr e ↦ inr e
]
place_first (Far k) ps p h = inr h

place_later : (c : Corner) (ps : List Coords) (p : Coords) → is_point ps p ≡ true → is_point (place_before c ps) p ≡ true
place_later (At q) ps p h = or_right (is_same p q) (is_point ps p) h
place_later (Far k) ps p h = h

place_here : (c : Corner) (ps : List Coords) (p : Coords) → c ≡ At p → is_point (place_before c ps) p ≡ true
place_here c ps p e = subst (λ (d : Corner). is_point (place_before d ps) p ≡ true) (sym e) (or_left (is_same p p) (is_point ps p) (is_same_itself p))

-- a place that is a corner is listed
listed : (states : List State) (i : ℕ) (t : TriSlot) (k : Side) (p : Coords) → triangle_at states i ≡ Some t → corner_at t k ≡ At p → is_point (places_in states) p ≡ true
listed [] i t k p there is = absurd (none-some t there)
listed (None ∷ states) zero t k p there is = absurd (none-some t there)
listed (None ∷ states) (suc i) t k p there is = listed states i t k p there is
listed (Some None ∷ states) zero t k p there is = absurd (none-some t there)
listed (Some None ∷ states) (suc i) t k p there is = listed states i t k p there is
listed (Some (Some u) ∷ states) zero t k p there is =
    by_side (λ j. corner_at u j ≡ At p → is_point (places_in (holding u ∷ states)) p ≡ true)
    (place_here (corner_at u first) (place_before (corner_at u second) (place_before (corner_at u third) (places_in states))) p)
    (λ e. place_later (corner_at u first) (place_before (corner_at u second) (place_before (corner_at u third) (places_in states))) p (place_here (corner_at u second) (place_before (corner_at u third) (places_in states)) p e))
    (λ e. place_later (corner_at u first) (place_before (corner_at u second) (place_before (corner_at u third) (places_in states))) p
    (place_later (corner_at u second) (place_before (corner_at u third) (places_in states)) p (place_here (corner_at u third) (places_in states) p e)))
    k (ap (λ y. corner_at y k) (same_in u t there) ∙ is)
listed (Some (Some u) ∷ states) (suc i) t k p there is =
    place_later (corner_at u first) (place_before (corner_at u second) (place_before (corner_at u third) (places_in states))) p
    (place_later (corner_at u second) (place_before (corner_at u third) (places_in states)) p (place_later (corner_at u third) (places_in states) p (listed states i t k p there is)))

abbrev corner_later : (o : State) (states : List State) (c : Corner) → HasCorner states c → HasCorner (o ∷ states) c
corner_later o states c x = record { slot = suc x.slot; tri = x.tri; side = x.side; there = x.there; is = x.is }

-- and a place that is listed is a corner
unlisted : (states : List State) (p : Coords) → is_point (places_in states) p ≡ true → HasCorner states (At p)
unlisted [] p h = cc
unlisted (None ∷ states) p h = corner_later None states (At p) (unlisted states p h)
unlisted (Some None ∷ states) p h = corner_later (Some None) states (At p) (unlisted states p h)
unlisted (Some (Some t) ∷ states) p h = elim (place_first (corner_at t first) (place_before (corner_at t second) (place_before (corner_at t third) (places_in states))) p h) as (λ _. HasCorner (holding t ∷ states) (At p)) [
  | inl e ↦ record { slot = zero; tri = t; side = first; there = refl; is = e }
  | inr g ↦ elim (place_first (corner_at t second) (place_before (corner_at t third) (places_in states)) p g) as (λ _. HasCorner (holding t ∷ states) (At p)) [
    | inl e ↦ record { slot = zero; tri = t; side = second; there = refl; is = e }
    | inr f ↦ elim (place_first (corner_at t third) (places_in states) p f) as (λ _. HasCorner (holding t ∷ states) (At p)) [
      | inl e ↦ record { slot = zero; tri = t; side = third; there = refl; is = e }
      | inr e ↦ corner_later (holding t) states (At p) (unlisted states p e)
    ]
  ]
]

abbrev side_later : (o : State) (states : List State) (p q : Coords) → HasSide states (At p) (At q) → HasSide (o ∷ states) (At p) (At q)
side_later o states p q x = record { slot = suc x.slot; tri = x.tri; side = x.side; there = x.there; tail = x.tail; head = x.head }

-- the edge has this count, or there is none, and the count is 0
abbrev IsCounted : List State → Coords → Coords → ℕ → Type 0
IsCounted states p q n = ((x : HasSide states (At p) (At q)) × (count_at x.tri x.side ≡ n)) ⊎ ((HasSide states (At p) (At q) → ⊥) × (n ≡ 0))

skipped : (o : State) (states : List State) (p q : Coords) (n : ℕ) → ((t : TriSlot) → triangle_at (o ∷ states) zero ≡ Some t → ⊥) → IsCounted states p q n → IsCounted (o ∷ states) p q n
skipped o states p q n empty (inl h) = inl (side_later o states p q h.0, h.1)
skipped o states p q n empty (inr h) = inr ((λ x. nowhere x.slot x.tri x.side x.there x.tail x.head), h.1)
  where
    nowhere : (i : ℕ) (u : TriSlot) (k : Side) → triangle_at (o ∷ states) i ≡ Some u → corner_at u k ≡ At p → corner_at u (after k) ≡ At q → ⊥
    nowhere zero u k there tail head = empty u there
    nowhere (suc i) u k there tail head = h.0 (record { slot = i; tri = u; side = k; there = there; tail = tail; head = head })

abbrev side_is : (t : TriSlot) (states : List State) (k : Side) (p q : Coords) → is_side t k p q ≡ true → HasSide (holding t ∷ states) (At p) (At q)
side_is t states k p q e =
    let both = and_parts (is_same_corner (corner_at t k) (At p)) (is_same_corner (corner_at t (after k)) (At q)) e in
    record { slot = zero; tri = t; side = k; there = refl; tail = corner-equal (corner_at t k) (At p) both.0; head = corner-equal (corner_at t (after k)) (At q) both.1 }

side_test : (t : TriSlot) (k : Side) (p q : Coords) → corner_at t k ≡ At p → corner_at t (after k) ≡ At q → is_side t k p q ≡ true
side_test t k p q e f = and_from (is_same_corner (corner_at t k) (At p)) (is_same_corner (corner_at t (after k)) (At q)) (ap (λ (c : Corner). is_same_corner c (At p)) e ∙ corner-self (At p)) (ap (λ (c : Corner). is_same_corner c (At q)) f ∙ corner-self (At q))

never : true ≡ false → ⊥
never e = cc

counted_by : (t : TriSlot) (states : List State) (p q : Coords) (a b c : Bool) → is_side t first p q ≡ a → is_side t second p q ≡ b → is_side t third p q ≡ c → IsCounted states p q (count_in states p q)
    → IsCounted (holding t ∷ states) p q (if a then count_at t first else if b then count_at t second else if c then count_at t third else count_in states p q)
counted_by t states p q true b c e f g rest = inl (side_is t states first p q e, refl)
counted_by t states p q false true c e f g rest = inl (side_is t states second p q f, refl)
counted_by t states p q false false true e f g rest = inl (side_is t states third p q g, refl)
counted_by t states p q false false false e f g (inl h) = inl (side_later (holding t) states p q h.0, h.1)
counted_by t states p q false false false e f g (inr h) = inr ((λ x. nowhere x.slot x.tri x.side x.there x.tail x.head), h.1)
  where
    nowhere : (i : ℕ) (u : TriSlot) (k : Side) → triangle_at (holding t ∷ states) i ≡ Some u → corner_at u k ≡ At p → corner_at u (after k) ≡ At q → ⊥
    nowhere zero u k there tail head =
        by_side (λ j. is_side t j p q ≡ true → ⊥) (λ h. never (sym h ∙ e)) (λ h. never (sym h ∙ f)) (λ h. never (sym h ∙ g)) k
        (ap (λ y. is_side y k p q) (same_in t u there) ∙ side_test u k p q tail head)
    nowhere (suc i) u k there tail head = h.0 (record { slot = i; tri = u; side = k; there = there; tail = tail; head = head })

is_counted : (states : List State) (p q : Coords) → IsCounted states p q (count_in states p q)
is_counted [] p q = inr ((λ x. none-some x.tri x.there), refl)
is_counted (None ∷ states) p q = skipped None states p q (count_in states p q) (λ t e. none-some t e) (is_counted states p q)
is_counted (Some None ∷ states) p q = skipped (Some None) states p q (count_in states p q) (λ t e. none-some t e) (is_counted states p q)
is_counted (Some (Some t) ∷ states) p q = counted_by t states p q (is_side t first p q) (is_side t second p q) (is_side t third p q) refl refl refl (is_counted states p q)

-- two triangles with one edge are one
one_count : (slots : List State) (m : IsSheetMesh slots) (p q : Coords) (x y : HasSide slots (At p) (At q)) → count_at x.tri x.side ≡ count_at y.tri y.side
one_count slots m p q x y =
    let a = standing slots m.mesh x.slot x.tri x.there in
    let b = standing slots m.mesh y.slot y.tri y.there in
    let same = m.mesh.net.one x.slot y.slot x.side y.side (edge x.tri x.side) (edge y.tri y.side) (ap (λ o. edge_of o x.side) a) (ap (λ o. edge_of o y.side) b) (x.tail ∙ sym y.tail) (x.head ∙ sym y.head) in
    let tri : x.tri ≡ y.tri = same_in x.tri y.tri (sym x.there ∙ ap (triangle_at slots) same.0 ∙ y.there) in
    (λ i. count_at (tri i) (same.1 i))

pub net_law : NetLaw
net_law slots m = record {
  triangles = refl;
  corners = λ p x. listed slots x.slot x.tri x.side p x.there x.is;
  points = unlisted slots;
  counts = λ p q x. elim (is_counted slots p q) as (λ _. count_at x.tri x.side ≡ count_in slots p q) [
    | inl y ↦ one_count slots m p q x y.0 ∙ y.1
    | inr h ↦ absurd (h.0 x)
  ];
  pieces = λ p q h. elim (is_counted slots p q) as (λ _. HasSide slots (At p) (At q)) [
    | inl y ↦ y.0
    | inr n ↦ absurd (omega (arith, h, n.1))
  ];
}

pub sheet_in : (slots : List State) → IsSheetMesh slots → IsSheet (net_in slots)
sheet_in slots m = sheet_law slots (net_in slots) m (net_law slots m)
