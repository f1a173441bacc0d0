-- The edges at one corner that cross a line.
use Rattle.std.specs.Prelude.{◌≡◌, ◌<◌, ◌≤◌, ◌<ℤ◌, ◌≤ℤ◌, ◌+ℤ◌, ◌-ℤ◌, ◌*ℤ◌, ℤ, ℕ, suc, pos}
use Rattle.ground_model.specs.Place.{Coords}
use Rattle.ground_model.specs.Side.{side}

-- how far a place lies along the way from p to q
abbrev pub along : Coords → Coords → Coords → ℤ
along p q x = (q.e -ℤ p.e) *ℤ (x.e -ℤ p.e) +ℤ (q.n -ℤ p.n) *ℤ (x.n -ℤ p.n)

-- round w stand v 0 to v (k + 1), counterclockwise, each next one by less than half a turn
abbrev pub IsFan : Coords → (ℕ → Coords) → ℕ → Type 0
IsFan w v k = (j : ℕ) → j ≤ k → pos 0 <ℤ side w (v j) (v (suc j))

-- w lies to the left of the line from p to q, and the k edges from it to v 1 .. v k cross the line; those to v 0 and v (k + 1) do not, so the run of these k is maximal; neither of these two lies farther to the left than w, nor both as far
pub record IsRun (p q w : Coords) (v : ℕ → Coords) (k : ℕ) : Type 0 where
  pub some : 0 < k
  pub fan : IsFan w v k
  pub left : pos 0 <ℤ side p q w
  pub crossed : (j : ℕ) → j < k → side p q (v (suc j)) <ℤ pos 0
  pub first : pos 0 ≤ℤ side p q (v 0)
  pub last : pos 0 ≤ℤ side p q (v (suc k))
  pub first_near : side p q (v 0) ≤ℤ side p q w
  pub last_near : side p q (v (suc k)) ≤ℤ side p q w
  pub one_nearer : side p q (v 0) ≡ side p q w → side p q (v (suc k)) ≡ side p q w → ⊥

-- how far the end after v j lies to the left of the line through the run's two outer neighbours: less than 0, and the least is the farthest
abbrev pub depth : (ℕ → Coords) → ℕ → ℕ → ℤ
depth v k j = side (v 0) (v (suc k)) (v j)

-- the end after v j lies at least as far beyond that line as the one before it, and farther than the next
pub record IsPeak (v : ℕ → Coords) (k j : ℕ) : Type 0 where
  pub within : j < k
  pub before : depth v k (suc j) ≤ℤ depth v k j
  pub next : depth v k (suc j) <ℤ depth v k (suc (suc j))

-- the edge from w to the end after v j can be flipped: its two triangles make a strictly convex quadrilateral
pub record IsFlippableIn (w : Coords) (v : ℕ → Coords) (j : ℕ) : Type 0 where
  pub at_w : pos 0 <ℤ side w (v j) (v (suc (suc j)))
  pub at_end : pos 0 <ℤ side (v j) (v (suc j)) (v (suc (suc j)))

-- each peak of a run can be flipped, and a run has one
pub record RunLaw : Type 0 where
  pub peak : (p q w : Coords) (v : ℕ → Coords) (k j : ℕ) → IsRun p q w v k → IsPeak v k j → IsFlippableIn w v j
  pub some : (p q w : Coords) (v : ℕ → Coords) (k : ℕ) → IsRun p q w v k → (j : ℕ) × IsPeak v k j

-- wxy is counterclockwise. Where x lies nearer to the line on its left than w and y as far as w, y comes after w along it; where y lies nearer and x as far, x comes before w
pub record TieLaw : Type 0 where
  pub last : (p q w x y : Coords) → pos 0 <ℤ side w x y → side p q x <ℤ side p q w → side p q y ≡ side p q w → along p q w <ℤ along p q y
  pub first : (p q w x y : Coords) → pos 0 <ℤ side w x y → side p q y <ℤ side p q w → side p q x ≡ side p q w → along p q x <ℤ along p q w
