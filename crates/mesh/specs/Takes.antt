-- Slots are taken for new triangles.
use Rattle.std.specs.Prelude.{◌≡◌, ◌≤◌, ◌^◌, ℕ, List, length}
use Rattle.tri_pages.specs.Slots.{State, state_at, blank, free}
use Rattle.mesh.specs.Net.{outside}

-- a free slot is taken, and the others are as before
pub record IsTaking (old new : List State) (slot : ℕ) : Type 0 where
  pub was_free : state_at old slot ≡ free
  pub is_blank : state_at new slot ≡ blank
  pub live : slot ≡ outside → ⊥
  pub rest : (i : ℕ) → (i ≡ slot → ⊥) → state_at new i ≡ state_at old i
  pub few : length new ≤ 2 ^ 30

-- two free slots are taken
pub record IsTakingTwo (old new : List State) (f g : ℕ) : Type 0 where
  pub f_free : state_at old f ≡ free
  pub g_free : state_at old g ≡ free
  pub f_blank : state_at new f ≡ blank
  pub g_blank : state_at new g ≡ blank
  pub f_live : f ≡ outside → ⊥
  pub g_live : g ≡ outside → ⊥
  pub apart : f ≡ g → ⊥
  pub rest : (i : ℕ) → (i ≡ f → ⊥) → (i ≡ g → ⊥) → state_at new i ≡ state_at old i
  pub few : length new ≤ 2 ^ 30
