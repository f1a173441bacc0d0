-- The four triangles round a corner give way to two.
use Rattle.std.specs.Prelude.{◌≡◌, ℕ, Some, List, [], ◌∷◌}
use Rattle.tri_pages.specs.declared.tri_slot.TriSlot.{TriSlot}
use Rattle.tri_pages.specs.Slots.{State, state_at, triangle_at, free}
use Rattle.mesh.specs.Acrosses.{apex, IsAcross, IsInner, HasNoEdge}
use Rattle.mesh.specs.Faces.{Face, face_at}
use Rattle.mesh.specs.Meshes.{IsLive}
use Rattle.mesh.specs.Net.{Side, after, corner_at, count_at, next_at, slots_of}

-- t is apc from its side k on, u is pbc from its side j on: abc takes the place of both, with y beyond its edge ab
abbrev pub upper : TriSlot → Side → TriSlot → Side → ℕ → TriSlot
upper t k u j y = record {
  corners = corner_at t k ∷ corner_at u (after j) ∷ apex t k ∷ [];
  counts = count_at t k ∷ count_at u (after j) ∷ count_at t (after (after k)) ∷ [];
  next = y ∷ next_at u (after j) ∷ next_at t (after (after k)) ∷ [];
  stamp = 0;
}

-- its face
abbrev pub upper_face : TriSlot → Side → TriSlot → Side → Face
upper_face t k u j = record { corners = corner_at t k ∷ corner_at u (after j) ∷ apex t k ∷ []; counts = count_at t k ∷ count_at u (after j) ∷ count_at t (after (after k)) ∷ []; stamp = 0 }

-- round the end p of the edge ap of t = apc: u = pbc across pc, w = bpd across pb, v = pad across ap
pub record AreFour (slots : List State) (t : TriSlot) (k : Side) (f : ℕ) (u : TriSlot) (j : Side) (n : ℕ) (w : TriSlot) (i : Side) (g : ℕ) (v : TriSlot) (l : Side) : Type 0 where
  pub ahead : IsAcross slots t (after k) f u (after (after j))
  pub below : IsAcross slots u j n w i
  pub under : IsAcross slots t k g v l

-- the four close up, a and b are two corners that no edge joins, and so c and d; ap and pb have one count, pc and pd none
pub record IsLine (slots : List State) (t : TriSlot) (k : Side) (u : TriSlot) (j : Side) (w : TriSlot) (i : Side) (v : TriSlot) (l : Side) : Type 0 where
  pub closed : apex v l ≡ apex w i
  pub two_ends : corner_at t k ≡ corner_at w i → ⊥
  pub two_apexes : apex t k ≡ apex w i → ⊥
  pub unjoined : HasNoEdge slots (corner_at t k) (corner_at w i)
  pub one_count : count_at t k ≡ count_at u j
  pub uncounted : (count_at t (after k) ≡ 0) × (count_at w (after i) ≡ 0)

-- the end p of the edge k of slot s has four triangles round it; both edges through it have one count, the other two have none, and no edge joins the two ends yet
pub record IsEdgeUnsplittable (slots : List State) (s : ℕ) (k : Side) : Type 0 where
  pub live : IsLive slots s
  pub inner : IsInner slots s k
  pub inner_ahead : IsInner slots s (after k)
  pub inner_below : (t : TriSlot) (f : ℕ) (u : TriSlot) (j : Side) → triangle_at slots s ≡ Some t → IsAcross slots t (after k) f u (after (after j)) → IsInner slots f j
  pub four : (t : TriSlot) (f : ℕ) (u : TriSlot) (j : Side) (n : ℕ) (w : TriSlot) (i : Side) (g : ℕ) (v : TriSlot) (l : Side) → triangle_at slots s ≡ Some t → AreFour slots t k f u j n w i g v l → IsLine slots t k u j w i v l

-- the triangles in s, f, n and g give way to abc in s and bad in n; f and g are free, and all further slots keep their faces
pub record IsEdgeUnsplit (old new : List State) (s : ℕ) (k : Side) (f n g : ℕ) : Type 0 where
  pub tri : TriSlot
  pub ahead : TriSlot
  pub ahead_side : Side
  pub below : TriSlot
  pub below_side : Side
  pub under : TriSlot
  pub under_side : Side
  pub here : triangle_at old s ≡ Some tri
  pub four : AreFour old tri k f ahead ahead_side n below below_side g under under_side
  pub in_s : face_at (slots_of new) s ≡ Some (upper_face tri k ahead ahead_side)
  pub in_n : face_at (slots_of new) n ≡ Some (upper_face below below_side under under_side)
  pub f_free : state_at new f ≡ free
  pub g_free : state_at new g ≡ free
  pub rest : (i : ℕ) → (i ≡ s → ⊥) → (i ≡ f → ⊥) → (i ≡ n → ⊥) → (i ≡ g → ⊥) → face_at (slots_of new) i ≡ face_at (slots_of old) i
