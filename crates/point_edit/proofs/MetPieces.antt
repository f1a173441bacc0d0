-- What the pieces at a point, met on the way round it, tell of taking it out.
use Rattle.std.proofs.Common.{◌≡◌, ◌⊎◌, ℕ, suc, zero, ◌<◌, Bool, true, false, List, refl, sym, ap, subst, ◌∙◌, inl, inr, arith}
use Rattle.std.specs.Prelude.{pos, nat_eq, if◌then◌else◌, ⊤}
use Rattle.std.proofs.lemmas.Bool.Decides.{nat_tests}
use Rattle.ground_model.specs.declared.corner.Corner.{Corner}
use Rattle.ground_model.specs.declared.corner.Corner.TheVariants.{At}
use Rattle.ground_model.specs.Corner.{corner_side}
use Rattle.ground_model.specs.Place.{Coords}
use Rattle.ground_model.specs.Side.{side}
use Rattle.ground_model.proofs.Circle.{side-turned}
use Rattle.predicates.specs.Far.{IsKnown}
use Rattle.tri_pages.specs.Slots.{State}
use Rattle.mesh.specs.Net.{after, corner_at, count_at}
use Rattle.mesh.specs.Sheets.{IsSheetMesh, HasCorner, net_in}
use Rattle.mesh.proofs.NetOfMesh.{net_law}
use Rattle.point_edit.specs.Pieces.{AreMet, NoPiece, OnePiece, TwoPieces, MorePieces, IsCounted, IsPieceAt, met_with}
use Rattle.point_edit.specs.Removals.{GoesOn, IsRemovable}
use Rattle.point_edit.specs.declared.pieces.Met.{Met}
use Rattle.point_edit.proofs.Added.{place_is}
use Rattle.point_edit.proofs.StuckPoints.{piece_of, net_count}
use Rattle.point_edit.proofs.StuckStars.{flat_on}

-- ---- one edge more
then_of : (b : Bool) (x y : Met) → b ≡ true → (if b then x else y) ≡ x
then_of b x y e = ap (λ t. if t then x else y) e

else_of : (b : Bool) (x y : Met) → b ≡ false → (if b then x else y) ≡ y
else_of b x y e = ap (λ t. if t then x else y) e

is_none : (n : ℕ) → n ≡ 0 → nat_eq n 0 ≡ true
is_none zero e = refl
is_none (suc n) e = absurd (omega (arith, e))

is_some : (n : ℕ) → 0 < n → nat_eq n 0 ≡ false
is_some n h = let t : false ≡ nat_eq n 0 = grind (arith, nat_tests, h) in sym t

abbrev as_first : Met → Corner → ℕ → Met
as_first met end n = record { first = n; first_end = end; second = met.second; second_end = met.second_end; more = met.more }

abbrev as_second : Met → Corner → ℕ → Met
as_second met end n = record { first = met.first; first_end = met.first_end; second = n; second_end = end; more = met.more }

abbrev as_more : Met → Met
as_more met = record { first = met.first; first_end = met.first_end; second = met.second; second_end = met.second_end; more = true }

with_none : (met : Met) (end : Corner) (n : ℕ) → n ≡ 0 → met_with met end n ≡ met
with_none met end n e = then_of (nat_eq n 0) met _ (is_none n e)

with_first : (met : Met) (end : Corner) (n : ℕ) → 0 < n → met.first ≡ 0 → met_with met end n ≡ as_first met end n
with_first met end n more e = else_of (nat_eq n 0) met _ (is_some n more) ∙ then_of (nat_eq met.first 0) (as_first met end n) _ (is_none met.first e)

with_second : (met : Met) (end : Corner) (n : ℕ) → 0 < n → 0 < met.first → met.second ≡ 0 → met_with met end n ≡ as_second met end n
with_second met end n more first e =
    else_of (nat_eq n 0) met _ (is_some n more) ∙ else_of (nat_eq met.first 0) (as_first met end n) _ (is_some met.first first) ∙ then_of (nat_eq met.second 0) (as_second met end n) (as_more met) (is_none met.second e)

with_more : (met : Met) (end : Corner) (n : ℕ) → 0 < n → 0 < met.first → 0 < met.second → met_with met end n ≡ as_more met
with_more met end n more first second =
    else_of (nat_eq n 0) met _ (is_some n more) ∙ else_of (nat_eq met.first 0) (as_first met end n) _ (is_some met.first first) ∙ else_of (nat_eq met.second 0) (as_second met end n) (as_more met) (is_some met.second second)

never_none : (n : ℕ) → n ≡ 0 → 0 < n → ⊥
never_none n e h = omega (arith, e, h)

some_or_none : (k : ℕ) → (0 < k) ⊎ (k ≡ 0)
some_or_none zero = inr refl
some_or_none (suc k) = inl (omega arith)

module _ (slots : List State) (p : Coords) where
  abbrev end_of : HasCorner slots (At p) → Corner
  end_of x = corner_at x.tri (after x.side)

  abbrev count_of : HasCorner slots (At p) → ℕ
  count_of x = count_at x.tri x.side

  -- the triangle y is met after those of P, and begins with an edge to this end
  pub record IsNew (P Q : HasCorner slots (At p) → Type 0) (y : HasCorner slots (At p)) : Type 0 where
    pub kept : (x : HasCorner slots (At p)) → P x → Q x
    pub now : Q y
    pub each : (x : HasCorner slots (At p)) → Q x → P x ⊎ ((end_of x ≡ end_of y) × (count_of x ≡ count_of y))
    pub other : (x : HasCorner slots (At p)) → P x → end_of x ≡ end_of y → ⊥

  module _ (P Q : HasCorner slots (At p) → Type 0) (y : HasCorner slots (At p)) (new : IsNew P Q y) where
    wider : (end : Corner) (n : ℕ) → IsPieceAt slots p P end n → IsPieceAt slots p Q end n
    wider end n a = record { x = a.x; was = new.kept a.x a.was; end_is = a.end_is; count_is = a.count_is; some = a.some }

    the_new : 0 < count_of y → IsPieceAt slots p Q (end_of y) (count_of y)
    the_new more = record { x = y; was = new.now; end_is = refl; count_is = refl; some = more }

    -- what was met ends elsewhere
    apart : (end : Corner) (n : ℕ) → IsPieceAt slots p P end n → end_of y ≡ end → ⊥
    apart end n a e = new.other a.x a.was (a.end_is ∙ sym e)

    uncounted : (met : Met) → count_of y ≡ 0 → AreMet slots p P met → AreMet slots p Q met
    uncounted met none (NoPiece a b c only) = NoPiece a b c (λ x in_q more. elim (new.each x in_q) as (λ _. ⊥) [ inl h ↦ only x h more | inr h ↦ never_none (count_of x) (h.1 ∙ none) more ])
    uncounted met none (OnePiece a b c only) = OnePiece (wider met.first_end met.first a) b c (λ x in_q more. elim (new.each x in_q) as (λ _. end_of x ≡ met.first_end) [
      | inl h ↦ only x h more
      | inr h ↦ absurd (never_none (count_of x) (h.1 ∙ none) more)
    ])
    uncounted met none (TwoPieces a b differ c only) = TwoPieces (wider met.first_end met.first a) (wider met.second_end met.second b) differ c (λ x in_q more. elim (new.each x in_q) as (λ _. (end_of x ≡ met.first_end) ⊎ (end_of x ≡ met.second_end)) [
      | inl h ↦ only x h more
      | inr h ↦ absurd (never_none (count_of x) (h.1 ∙ none) more)
    ])
    uncounted met none (MorePieces end n a b c ab ca cb more) = MorePieces end n (wider met.first_end met.first a) (wider met.second_end met.second b) (wider end n c) ab ca cb more

    counted : (met : Met) → 0 < count_of y → AreMet slots p P met → AreMet slots p Q (met_with met (end_of y) (count_of y))
    counted met some (NoPiece a b c only) = subst (λ m. AreMet slots p Q m) (sym (with_first met (end_of y) (count_of y) some a)) (OnePiece (the_new some) b c (λ x in_q more. elim (new.each x in_q) as (λ _. end_of x ≡ end_of y) [
      | inl h ↦ absurd (only x h more)
      | inr h ↦ h.0
    ]))
    counted met some (OnePiece a b c only) = subst (λ m. AreMet slots p Q m) (sym (with_second met (end_of y) (count_of y) some a.some b))
        (TwoPieces (wider met.first_end met.first a) (the_new some) (λ e. apart met.first_end met.first a (sym e)) c (λ x in_q more. elim (new.each x in_q) as (λ _. (end_of x ≡ met.first_end) ⊎ (end_of x ≡ end_of y)) [
          | inl h ↦ inl (only x h more)
          | inr h ↦ inr h.0
        ]))
    counted met some (TwoPieces a b differ c only) = subst (λ m. AreMet slots p Q m) (sym (with_more met (end_of y) (count_of y) some a.some b.some))
        (MorePieces (end_of y) (count_of y) (wider met.first_end met.first a) (wider met.second_end met.second b) (the_new some) differ (apart met.first_end met.first a) (apart met.second_end met.second b) refl)
    counted met some (MorePieces end n a b c ab ca cb more) = subst (λ m. AreMet slots p Q m) (sym (with_more met (end_of y) (count_of y) some a.some b.some))
        (MorePieces end n (wider met.first_end met.first a) (wider met.second_end met.second b) (wider end n c) ab ca cb refl)

    pub met_on : (met : Met) → AreMet slots p P met → AreMet slots p Q (met_with met (end_of y) (count_of y))
    met_on met x = elim (some_or_none (count_of y)) as (λ _. AreMet slots p Q (met_with met (end_of y) (count_of y))) [
      | inl more ↦ counted met more x
      | inr none ↦ subst (λ m. AreMet slots p Q m) (sym (with_none met (end_of y) (count_of y) none)) (uncounted met none x)
    ]

  -- where all were met
  pub met_all : (P : HasCorner slots (At p) → Type 0) (met : Met) → ((x : HasCorner slots (At p)) → P x) → AreMet slots p P met → AreMet slots p (λ x. ⊤) met
  met_all P met all (NoPiece a b c only) = NoPiece a b c (λ x h more. only x (all x) more)
  met_all P met all (OnePiece a b c only) = OnePiece (record { x = a.x; was = tt; end_is = a.end_is; count_is = a.count_is; some = a.some }) b c (λ x h more. only x (all x) more)
  met_all P met all (TwoPieces a b differ c only) =
      TwoPieces (record { x = a.x; was = tt; end_is = a.end_is; count_is = a.count_is; some = a.some }) (record { x = b.x; was = tt; end_is = b.end_is; count_is = b.count_is; some = b.some }) differ c (λ x h more. only x (all x) more)
  met_all P met all (MorePieces end n a b c ab ca cb more) =
      MorePieces end n (record { x = a.x; was = tt; end_is = a.end_is; count_is = a.count_is; some = a.some }) (record { x = b.x; was = tt; end_is = b.end_is; count_is = b.count_is; some = b.some })
      (record { x = c.x; was = tt; end_is = c.end_is; count_is = c.count_is; some = c.some }) ab ca cb more

-- ---- what all pieces tell
module _ (slots : List State) (m : IsSheetMesh slots) (p : Coords) (met : Met) where
  abbrev All : HasCorner slots (At p) → Type 0
  All x = ⊤

  -- a piece that was met, in the net
  pub record IsEnd (end : Corner) (n : ℕ) : Type 0 where
    pub q : Coords
    pub is : end ≡ At q
    pub count_is : (net_in slots).count p q ≡ n
    pub some : 0 < (net_in slots).count p q

  end_at : (end : Corner) (n : ℕ) → IsPieceAt slots p All end n → IsEnd end n
  end_at end n a =
      let r = piece_of slots m p a.x (subst (λ k. 0 < k) (sym a.count_is) a.some) in
      record { q = r.end; is = sym a.end_is ∙ r.is; count_is = sym (net_count slots m p a.x r.end r.is) ∙ a.count_is; some = r.counted }

  known_at : (end : Corner) (n : ℕ) → IsPieceAt slots p All end n → IsKnown end
  known_at end n a = subst IsKnown a.end_is ((m.turned a.x.slot a.x.tri a.x.there).known (after a.x.side))

  pub first_known : AreMet slots p (λ x. ⊤) met → (met.first ≡ 0 → ⊥) → IsKnown met.first_end
  first_known (NoPiece a b c only) some = absurd (some a)
  first_known (OnePiece a b c only) some = known_at met.first_end met.first a
  first_known (TwoPieces a b differ c only) some = known_at met.first_end met.first a
  first_known (MorePieces end n a b c ab ca cb more) some = known_at met.first_end met.first a

  pub second_known : AreMet slots p (λ x. ⊤) met → (met.second ≡ 0 → ⊥) → IsKnown met.second_end
  second_known (NoPiece a b c only) some = absurd (some b)
  second_known (OnePiece a b c only) some = absurd (some b)
  second_known (TwoPieces a b differ c only) some = known_at met.second_end met.second b
  second_known (MorePieces end n a b c ab ca cb more) some = known_at met.second_end met.second b

  -- a piece of the net, at a triangle
  record IsHeld (q : Coords) : Type 0 where
    x : HasCorner slots (At p)
    is : corner_at x.tri (after x.side) ≡ At q
    counted : IsCounted slots p x

  held : (q : Coords) → 0 < (net_in slots).count p q → IsHeld q
  held q some =
      let b = (net_law slots m).pieces p q some in
      let x : HasCorner slots (At p) = record { slot = b.slot; tri = b.tri; side = b.side; there = b.there; is = b.tail } in
      record { x = x; is = b.head; counted = subst (λ k. 0 < k) (sym (net_count slots m p x q b.head)) some }

  -- ---- none
  pub none_free : AreMet slots p (λ x. ⊤) met → met.first ≡ 0 → IsRemovable (net_in slots) p
  none_free (NoPiece a b c only) e = record {
    straight = λ q some. let h = held q some in absurd (only h.x tt h.counted);
    two = λ q r x some_q some_r some_x differ. let h = held q some_q in absurd (only h.x tt h.counted);
  }
  none_free (OnePiece a b c only) e = absurd (never_none met.first e a.some)
  none_free (TwoPieces a b differ c only) e = absurd (never_none met.first e a.some)
  none_free (MorePieces end n a b c ab ca cb more) e = absurd (never_none met.first e a.some)

  -- ---- one
  pub one_fast : AreMet slots p (λ x. ⊤) met → (met.first ≡ 0 → ⊥) → met.second ≡ 0 → IsRemovable (net_in slots) p → ⊥
  one_fast (NoPiece a b c only) some none free = some a
  one_fast (OnePiece a b c only) some none free =
      let e = end_at met.first_end met.first a in
      let g = free.straight e.q e.some in
      let h = held g.other (subst (λ k. 0 < k) (sym g.same_count) e.some) in
      g.apart (place_is g.other e.q (sym h.is ∙ only h.x tt h.counted ∙ e.is))
  one_fast (TwoPieces a b differ c only) some none free = never_none met.second none b.some
  one_fast (MorePieces end n a b c ab ca cb more) some none free = never_none met.second none b.some

  -- ---- more
  differs : (c d : Corner) (q r : Coords) → c ≡ At q → d ≡ At r → (c ≡ d → ⊥) → q ≡ r → ⊥
  differs c d q r e f ne same = ne (e ∙ ap At same ∙ sym f)

  pub more_fast : AreMet slots p (λ x. ⊤) met → met.more ≡ true → IsRemovable (net_in slots) p → ⊥
  more_fast (NoPiece a b c only) e free = cc
  more_fast (OnePiece a b c only) e free = cc
  more_fast (TwoPieces a b differ c only) e free = cc
  more_fast (MorePieces end n a b c ab ca cb more) e free =
      let x = end_at met.first_end met.first a in
      let y = end_at met.second_end met.second b in
      let z = end_at end n c in
      elim (free.two x.q y.q z.q x.some y.some z.some (differs met.first_end met.second_end x.q y.q x.is y.is ab)) as (λ _. ⊥) [
        | inl h ↦ differs end met.first_end z.q x.q z.is x.is ca h
        | inr h ↦ differs end met.second_end z.q y.q z.is y.is cb h
      ]

  -- ---- two
  flat_turned : (q r : Coords) → side q p r ≡ pos 0 → side r p q ≡ pos 0
  flat_turned q r e = side-turned r p q ∙ flat_on q p r e

  which : (q a b : Coords) → (At q ≡ At a) ⊎ (At q ≡ At b) → (q ≡ a) ⊎ (q ≡ b)
  which q a b (inl e) = inl (place_is q a e)
  which q a b (inr e) = inr (place_is q b e)

  two_of : (q r x a b : Coords) → (q ≡ a) ⊎ (q ≡ b) → (r ≡ a) ⊎ (r ≡ b) → (x ≡ a) ⊎ (x ≡ b) → (q ≡ r → ⊥) → (x ≡ q) ⊎ (x ≡ r)
  two_of q r x a b (inl e) (inl f) g differ = absurd (differ (e ∙ sym f))
  two_of q r x a b (inl e) (inr f) (inl g) differ = inl (g ∙ sym e)
  two_of q r x a b (inl e) (inr f) (inr g) differ = inr (g ∙ sym f)
  two_of q r x a b (inr e) (inl f) (inl g) differ = inr (g ∙ sym f)
  two_of q r x a b (inr e) (inl f) (inr g) differ = inl (g ∙ sym e)
  two_of q r x a b (inr e) (inr f) g differ = absurd (differ (e ∙ sym f))

  module _ (x : IsEnd met.first_end met.first) (y : IsEnd met.second_end met.second) (differ : met.first_end ≡ met.second_end → ⊥)
      (only : (z : HasCorner slots (At p)) → ⊤ → IsCounted slots p z → (corner_at z.tri (after z.side) ≡ met.first_end) ⊎ (corner_at z.tri (after z.side) ≡ met.second_end)) where
    end_is : (q : Coords) → 0 < (net_in slots).count p q → (q ≡ x.q) ⊎ (q ≡ y.q)
    end_is q some =
        let h = held q some in
        elim (only h.x tt h.counted) as (λ _. (q ≡ x.q) ⊎ (q ≡ y.q)) [ inl e ↦ inl (place_is q x.q (sym h.is ∙ e ∙ x.is)) | inr e ↦ inr (place_is q y.q (sym h.is ∙ e ∙ y.is)) ]

    -- the one goes on as the other
    on : (q a b : Coords) → q ≡ a → side a p b ≡ pos 0 → (b ≡ a → ⊥) → (net_in slots).count p b ≡ (net_in slots).count p a → GoesOn (net_in slots) p q
    on q a b e flat ne same = subst (λ (k : Coords). GoesOn (net_in slots) p k) (sym e) (record { other = b; apart = ne; straight = flat; same_count = same })

    pub two_free : met.first ≡ met.second → corner_side met.first_end (At p) met.second_end ≡ pos 0 → IsRemovable (net_in slots) p
    two_free same flat =
        let line : side x.q p y.q ≡ pos 0 = subst (λ z. z) (λ i. corner_side (x.is i) (At p) (y.is i) ≡ pos 0) flat in
        let counts = y.count_is ∙ sym same ∙ sym x.count_is in
        record {
          straight = λ q some. elim (end_is q some) as (λ _. GoesOn (net_in slots) p q) [
            | inl e ↦ on q x.q y.q e line (λ h. differs met.first_end met.second_end x.q y.q x.is y.is differ (sym h)) counts
            | inr e ↦ on q y.q x.q e (flat_turned x.q y.q line) (differs met.first_end met.second_end x.q y.q x.is y.is differ) (sym counts)
          ];
          two = λ q r z some_q some_r some_z ne. two_of q r z x.q y.q (end_is q some_q) (end_is r some_r) (end_is z some_z) ne;
        }

    pub two_fast : (met.first ≡ met.second → corner_side met.first_end (At p) met.second_end ≡ pos 0 → ⊥) → IsRemovable (net_in slots) p → ⊥
    two_fast unlike free =
        let g = free.straight x.q x.some in
        elim (end_is g.other (subst (λ k. 0 < k) (sym g.same_count) x.some)) as (λ _. ⊥) [
          | inl e ↦ g.apart e
          | inr e ↦
              unlike (sym x.count_is ∙ sym g.same_count ∙ ap (λ k. (net_in slots).count p k) e ∙ y.count_is)
              (subst (λ z. z) (λ i. corner_side (sym x.is i) (At p) (sym y.is i) ≡ pos 0) (subst (λ (k : Coords). side x.q p k ≡ pos 0) e g.straight))
        ]

  pub two_yes : AreMet slots p (λ x. ⊤) met → (met.first ≡ 0 → ⊥) → (met.second ≡ 0 → ⊥) → met.more ≡ false → met.first ≡ met.second → corner_side met.first_end (At p) met.second_end ≡ pos 0 → IsRemovable (net_in slots) p
  two_yes (NoPiece a b c only) some other few same flat = absurd (some a)
  two_yes (OnePiece a b c only) some other few same flat = absurd (other b)
  two_yes (TwoPieces a b differ c only) some other few same flat = two_free (end_at met.first_end met.first a) (end_at met.second_end met.second b) differ only same flat
  two_yes (MorePieces end n a b c ab ca cb more) some other few same flat = cc

  pub two_no : AreMet slots p (λ x. ⊤) met → (met.first ≡ 0 → ⊥) → (met.second ≡ 0 → ⊥) → met.more ≡ false → (met.first ≡ met.second → corner_side met.first_end (At p) met.second_end ≡ pos 0 → ⊥) → IsRemovable (net_in slots) p → ⊥
  two_no (NoPiece a b c only) some other few unlike free = some a
  two_no (OnePiece a b c only) some other few unlike free = other b
  two_no (TwoPieces a b differ c only) some other few unlike free = two_fast (end_at met.first_end met.first a) (end_at met.second_end met.second b) differ only unlike free
  two_no (MorePieces end n a b c ab ca cb more) some other few unlike free = cc
