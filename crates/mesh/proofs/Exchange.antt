-- Some edges of a net are exchanged for others.
use Rattle.std.specs.Prelude.{◌≡◌, ◌⊎◌, ℕ, Option, Some}
use Rattle.ground_model.specs.declared.corner.Corner.{Corner}
use Rattle.mesh.specs.Net.{Side, Edge, outside}

-- an edge of a family, in its place
pub record Among (F : ℕ → Side → Edge → Type 0) : Type 0 where
  pub slot : ℕ
  pub side : Side
  pub edge : Edge
  pub in_it : F slot side edge

-- a new edge within the patch: its reverse is new
pub record IsPaired (New : ℕ → Side → Edge → Type 0) (e : Edge) : Type 0 where
  pub with : Among New
  pub back_tail : with.edge.tail ≡ e.head
  pub back_head : with.edge.head ≡ e.tail
  pub same_count : with.edge.count ≡ e.count
  pub next_is : e.next ≡ with.slot

-- a new edge on the patch's boundary: an old edge whose reverse is not old
pub record IsOuter (Old : ℕ → Side → Edge → Type 0) (e : Edge) : Type 0 where
  pub was : Among Old
  pub same_tail : was.edge.tail ≡ e.tail
  pub same_head : was.edge.head ≡ e.head
  pub same_count : was.edge.count ≡ e.count
  pub next_is : e.next ≡ was.edge.next
  pub alone : (s : ℕ) (k : Side) (f : Edge) → Old s k f → f.tail ≡ e.head → f.head ≡ e.tail → ⊥

-- an old edge stays within, or is again an edge; if of another slot, the reverse is open
pub record IsAgain (IsOpen : Corner → Corner → Type 0) (New : ℕ → Side → Edge → Type 0) (s : ℕ) (e : Edge) : Type 0 where
  pub now : Among New
  pub same_tail : now.edge.tail ≡ e.tail
  pub same_head : now.edge.head ≡ e.head
  pub same_count : now.edge.count ≡ e.count
  pub place : (s ≡ now.slot) ⊎ ((a b : Corner) → a ≡ e.head → b ≡ e.tail → IsOpen a b)

pub record IsExchange (IsOpen : Corner → Corner → Type 0) (ed new : ℕ → Side → Option Edge) (Kept : ℕ → Type 0) (Old New : ℕ → Side → Edge → Type 0) : Type 0 where
  -- an edge is old or stays; it is new or was there
  pub old_is : (s : ℕ) (k : Side) (e : Edge) → Old s k e → ed s k ≡ Some e
  pub new_is : (s : ℕ) (k : Side) (e : Edge) → New s k e → new s k ≡ Some e
  pub stays : (s : ℕ) (k : Side) (e : Edge) → ed s k ≡ Some e → Old s k e ⊎ (Kept s × (new s k ≡ Some e))
  pub was : (s : ℕ) (k : Side) (e : Edge) → new s k ≡ Some e → New s k e ⊎ (Kept s × (ed s k ≡ Some e))
  pub apart : (s : ℕ) (k : Side) (e : Edge) → Old s k e → Kept s → ⊥
  pub live : (s : ℕ) (k : Side) (e : Edge) → Old s k e → s ≡ outside → ⊥
  -- no new edge occurs twice, nor among those that stay
  pub once : (s s' : ℕ) (k k' : Side) (e e' : Edge) → New s k e → New s' k' e' → e.tail ≡ e'.tail → e.head ≡ e'.head → (s ≡ s') × (k ≡ k')
  pub fresh : (s s' : ℕ) (k k' : Side) (e e' : Edge) → New s k e → Kept s' → ed s' k' ≡ Some e' → e.tail ≡ e'.tail → e.head ≡ e'.head → ⊥
  pub parts : (s : ℕ) (k : Side) (e : Edge) → New s k e → IsPaired New e ⊎ IsOuter Old e
  pub again : (s : ℕ) (k : Side) (e : Edge) → Old s k e → ((r : Among Old) × (r.edge.tail ≡ e.head) × (r.edge.head ≡ e.tail)) ⊎ IsAgain IsOpen New s e
