-- The neighbours of new triangles are turned to them, one edge at a time.
use Rattle.std.proofs.Common.{◌≡◌, ◌⊎◌, ◌<◌, ◌+◌, ℕ, Option, Some, None, List, refl, sym, ap, ◌∙◌, inl, inr, subst, arith}
use Rattle.std.specs.List.{slice_get}
use Rattle.ground_model.specs.declared.corner.Corner.{Corner}
use Rattle.tri_pages.specs.declared.tri_slot.TriSlot.{TriSlot}
use Rattle.std.proofs.lemmas.Bool.{cases_eq}
use Rattle.tri_pages.specs.Slots.{State}
use Rattle.mesh.specs.EdgeSearch.{IsEdgeAt, HasNone}
use Rattle.mesh.specs.Faces.{KeepsFaces}
use Rattle.mesh.specs.Laying.{Layout, LeadsInside}
use Rattle.mesh.specs.Net.{Side, Edge, next_at, outside}
use Rattle.mesh.specs.Redirects.{IsTurned, Turned, IsRedirected}
use Rattle.mesh.specs.Turning.{IsLedOn, LedOn, AreLedOn, AreOnce, IsTurnedAt, IsTurnedRound}
use Rattle.mesh.proofs.NamedEdges.{same_in}

module _ (lay : Layout) where
  -- what an edge was
  pub record LedFrom (o : Option Edge) (f : Edge) : Type 0 where
    pub edge : Edge
    pub is : o ≡ Some edge
    pub led : IsLedOn lay edge f

  pub led_from : (o n : Option Edge) (f : Edge) → n ≡ Some f → LedOn lay o n → LedFrom o f
  led_from None n f e t = absurd (subst (λ x. LedOn lay None x) e t)
  led_from (Some g) n f e t = record { edge = g; is = refl; led = subst (λ x. LedOn lay (Some g) x) e t }

  -- what it is now
  pub record LedTo (n : Option Edge) (e : Edge) : Type 0 where
    pub edge : Edge
    pub is : n ≡ Some edge
    pub led : IsLedOn lay e edge

  pub led_to : (o n : Option Edge) (e : Edge) → o ≡ Some e → LedOn lay o n → LedTo n e
  led_to o None e h t = absurd (subst (λ x. LedOn lay x None) h t)
  led_to o (Some g) e h t = record { edge = g; is = refl; led = subst (λ x. LedOn lay x (Some g)) h t }

  led_same : (o : Option Edge) → LedOn lay o o
  led_same None = tt
  led_same (Some e) = record { same_tail = refl; same_head = refl; same_count = refl; beyond = inr refl }

  -- where the slot beyond is the same, so is what it leads to
  pub still_inside : (a b c d : Corner) (n m : ℕ) → a ≡ c → b ≡ d → n ≡ m → LeadsInside lay a b n → LeadsInside lay c d m
  still_inside a b c d n m e f h x = record {
    index = x.index;
    side = x.side;
    is = record { tri = x.is.tri; there = x.is.there; tail = x.is.tail ∙ f; head = x.is.head ∙ e };
    slot = x.slot ∙ ap Some h;
  }

  beyond_twice : (e f g : Edge) → IsLedOn lay e f → IsLedOn lay f g → LeadsInside lay g.tail g.head g.next ⊎ (g.next ≡ f.next) → LeadsInside lay f.tail f.head f.next ⊎ (f.next ≡ e.next) → LeadsInside lay g.tail g.head g.next ⊎ (g.next ≡ e.next)
  beyond_twice e f g x y (inl h) z = inl h
  beyond_twice e f g x y (inr h) (inl z) = inl (still_inside f.tail f.head g.tail g.head f.next g.next (sym y.same_tail) (sym y.same_head) (sym h) z)
  beyond_twice e f g x y (inr h) (inr z) = inr (h ∙ z)

  led_twice : (o p q : Option Edge) → LedOn lay o p → LedOn lay p q → LedOn lay o q
  led_twice None None None x y = tt
  led_twice None None (Some g) x y = y
  led_twice None (Some f) q x y = absurd x
  led_twice (Some e) None q x y = absurd x
  led_twice (Some e) (Some f) None x y = y
  led_twice (Some e) (Some f) (Some g) x y = record {
    same_tail = y.same_tail ∙ x.same_tail;
    same_head = y.same_head ∙ x.same_head;
    same_count = y.same_count ∙ x.same_count;
    beyond = beyond_twice e f g x y y.beyond x.beyond;
  }

  pub not_led : (ed : ℕ → Side → Option Edge) → AreLedOn lay ed ed
  not_led ed = λ s k. led_same (ed s k)

  pub led_then : (ed mid new : ℕ → Side → Option Edge) → AreLedOn lay ed mid → AreLedOn lay mid new → AreLedOn lay ed new
  led_then ed mid new x y = λ s k. led_twice (ed s k) (mid s k) (new s k) (x s k) (y s k)

  -- a redirection to where the reverse is laid
  redirected_by : (m q : ℕ) (a b : Corner) (i s : ℕ) (k : Side) (o n : Option Edge) → IsEdgeAt lay.news i k a b → slice_get lay.slots i ≡ Some q → Turned m q b a s o n → LedOn lay o n
  redirected_by m q a b i s k None None x e t = tt
  redirected_by m q a b i s k None (Some f) x e t = t
  redirected_by m q a b i s k (Some g) None x e t = t
  redirected_by m q a b i s k (Some g) (Some f) x e t = record {
    same_tail = t.same_tail;
    same_head = t.same_head;
    same_count = t.same_count;
    beyond = elim t.beyond as (λ _. LeadsInside lay f.tail f.head f.next ⊎ (f.next ≡ g.next)) [
      | inl h ↦ inl record {
        index = i;
        side = k;
        is = record { tri = x.tri; there = x.there; tail = x.tail ∙ sym h.1 ∙ sym t.same_head; head = x.head ∙ sym h.0 ∙ sym t.same_tail };
        slot = e ∙ ap Some (sym h.2);
      }
      | inr h ↦ inr h.1
    ];
  }

  pub redirected_led : (m q : ℕ) (a b : Corner) (i : ℕ) (k : Side) (ed new : ℕ → Side → Option Edge) → IsEdgeAt lay.news i k a b → slice_get lay.slots i ≡ Some q → IsRedirected m q b a ed new → AreLedOn lay ed new
  redirected_led m q a b i k ed new x e h = λ s l. redirected_by m q a b i s k (ed s l) (new s l) x e (h s l)

  turned_by : (m q : ℕ) (a b : Corner) (i s : ℕ) (k : Side) (o n : Option Edge) (f : Edge) → IsEdgeAt lay.news i k a b → slice_get lay.slots i ≡ Some q → s ≡ m → (s ≡ outside → ⊥) → n ≡ Some f → f.tail ≡ b → f.head ≡ a → Turned m q b a s o n
      → LeadsInside lay f.tail f.head f.next
  turned_by m q a b i s k None n f x e at live there t h w = absurd (subst (λ z. Turned m q b a s None z) there w)
  turned_by m q a b i s k (Some g) n f x e at live there t h w = by (subst (λ z. Turned m q b a s (Some g) z) there w)
    where
      by : IsTurned m q s b a g f → LeadsInside lay f.tail f.head f.next
      by v = elim v.beyond as (λ _. LeadsInside lay f.tail f.head f.next) [
        | inl y ↦ record { index = i; side = k; is = record { tri = x.tri; there = x.there; tail = x.tail ∙ sym h; head = x.head ∙ sym t }; slot = e ∙ ap Some (sym y.2) }
        | inr y ↦ absurd (y.0 at (λ z. live (at ∙ z)) (sym v.same_tail ∙ t) (sym v.same_head ∙ h))
      ]

  -- after the redirection the edge is turned
  pub turned_here : (m q : ℕ) (a b : Corner) (i j : ℕ) (k l : Side) (ed new : ℕ → Side → Option Edge) → IsEdgeAt lay.news i k a b → slice_get lay.slots i ≡ Some q → (y : IsEdgeAt lay.was j l a b) → AreOnce lay.was
      → m ≡ next_at y.tri l → IsRedirected m q b a ed new → IsTurnedAt lay new a b
  turned_here m q a b i j k l ed new x e y once is h = λ i2 j2 k2 l2 x2 y2 s n f at live there t u.
      let same = once j j2 l l2 a b y y2 in
      let tri : y.tri ≡ y2.tri = same_in y.tri y2.tri (sym y.there ∙ ap (slice_get lay.was) same.0 ∙ y2.there) in
      let lead : next_at y.tri l ≡ next_at y2.tri l2 = λ p. next_at (tri p) (same.1 p) in
      turned_by m q a b i s k (ed s n) (new s n) f x e (at ∙ sym lead ∙ sym is) live there t u (h s n)

  -- where no new triangle has the edge, nothing is to be turned
  pub none_new : (ed : ℕ → Side → Option Edge) (a b : Corner) → HasNone lay.news a b → IsTurnedAt lay ed a b
  none_new ed a b none = λ i j k l x y s m f _ _ _ _ _. absurd (none i k x)

  -- and so where no old one has it
  pub none_old : (ed : ℕ → Side → Option Edge) (a b : Corner) → HasNone lay.was a b → IsTurnedAt lay ed a b
  none_old ed a b none = λ i j k l x y s m f _ _ _ _ _. absurd (none j l y)

  -- what is turned stays turned
  pub still_turned : (ed new : ℕ → Side → Option Edge) (a b : Corner) → AreLedOn lay ed new → IsTurnedAt lay ed a b → IsTurnedAt lay new a b
  still_turned ed new a b led x = λ i j k l n o s m f at live there t h.
      let w = led_from (ed s m) (new s m) f there (led s m) in
      let before = x i j k l n o s m w.edge at live w.is (sym w.led.same_tail ∙ t) (sym w.led.same_head ∙ h) in
      elim w.led.beyond as (λ _. LeadsInside lay f.tail f.head f.next) [
        | inl y ↦ y
        | inr y ↦ still_inside w.edge.tail w.edge.head f.tail f.head w.edge.next f.next (sym w.led.same_tail) (sym w.led.same_head) (sym y) before
      ]

  pub turned_as : (ed : ℕ → Side → Option Edge) (a b c d : Corner) → a ≡ c → b ≡ d → IsTurnedAt lay ed a b → IsTurnedAt lay ed c d
  turned_as ed a b c d e f x = subst (λ z. z) (λ p. IsTurnedAt lay ed (e p) (f p)) x

  pub still_turned_round : (ed new : ℕ → Side → Option Edge) (t : TriSlot) → AreLedOn lay ed new → IsTurnedRound lay ed t → IsTurnedRound lay new t
  still_turned_round ed new t led x = λ k. still_turned ed new _ _ led (x k)

  -- one triangle further
  pub one_more_turned : (ed new : ℕ → Side → Option Edge) (over : List TriSlot) (n : ℕ) (t : TriSlot) → AreLedOn lay ed new → slice_get over n ≡ Some t → IsTurnedRound lay new t
      → ((i : ℕ) (u : TriSlot) → i < n → slice_get over i ≡ Some u → IsTurnedRound lay ed u) → (i : ℕ) (u : TriSlot) → i < n + 1 → slice_get over i ≡ Some u → IsTurnedRound lay new u
  one_more_turned ed new over n t led here turned before = λ i u h e. elim (cases_eq i n) as (λ _. IsTurnedRound lay new u) [
    | inl same ↦ subst (λ x. IsTurnedRound lay new x) (same_in t u (sym here ∙ ap (slice_get over) (sym same) ∙ e)) turned
    | inr ne ↦ still_turned_round ed new u led (before i u (omega (arith, h, ne)) e)
  ]

  -- the edges of new triangles were gone over
  pub all_by_news : (ed : ℕ → Side → Option Edge) → ((i : ℕ) (t : TriSlot) → slice_get lay.news i ≡ Some t → IsTurnedRound lay ed t) → (a b : Corner) → IsTurnedAt lay ed a b
  all_by_news ed all a b = λ i j k l x. turned_as ed _ _ a b x.tail x.head (all i x.tri x.there k) i j k l x

  -- or those of old ones
  pub all_by_was : (ed : ℕ → Side → Option Edge) → ((i : ℕ) (t : TriSlot) → slice_get lay.was i ≡ Some t → IsTurnedRound lay ed t) → (a b : Corner) → IsTurnedAt lay ed a b
  all_by_was ed all a b = λ i j k l x y. turned_as ed _ _ a b y.tail y.head (all j y.tri y.there l) i j k l x y

pub faces_then : (old mid new : List State) → KeepsFaces old mid → KeepsFaces mid new → KeepsFaces old new
faces_then old mid new x y = record {
  faces = λ s. y.faces s ∙ x.faces s;
  blanks = λ s e. x.blanks s (y.blanks s e);
  len = y.len ∙ x.len;
}
