-- What a worker makes of its door's sessions.
use Rattle.std.specs.Prelude.{◌≡◌, ℕ, true, false, List, [], ◌∷◌, ◌++◌, Option, None, Some, IfSome, ⊤}
use Rattle.ground_io.specs.Causes.{Rose}
use Rattle.ground_io.specs.Wires.{WireView}
use Rattle.turn_lock.specs.Journal.{IsPrefix}
use Rattle.turn_lock.specs.Seat.{Seat}
use Rattle.session.specs.declared.conversation.Ended.{Ended}
use Rattle.serve.specs.AtDesk.{Goes}
use Rattle.serve.specs.Served.{Served}
use Rattle.serve.specs.declared.worker.Worker.{Worker}

-- one wire, before and after the session over it, whose pass goes on from the history that it had seen
abbrev pub ServesWire : Seat → Seat → ℕ → WireView → WireView → Type 0
ServesWire p q budget before after = (end : Ended) × Served p q budget (before, after) end × IsPrefix p.seen q.seen

-- these wires, one after another, each with the pass that the one before left
abbrev pub ServesWires : Seat → Seat → ℕ → List WireView → List WireView → Type 0
ServesWires p q budget [] [] = q ≡ p
ServesWires p q budget (before ∷ coming) (after ∷ back) = (r : Seat) × ServesWire p r budget before after × ServesWires r q budget coming back
ServesWires p q budget [] (after ∷ back) = ⊥
ServesWires p q budget (before ∷ coming) [] = ⊥

-- the first wires of a known list left it
abbrev pub LeaveFirst : Option (List WireView) → Option (List WireView) → List WireView → Type 0
LeaveFirst None new wires = ⊤
LeaveFirst (Some xs) None wires = ⊥
LeaveFirst (Some xs) (Some ys) wires = xs ≡ wires ++ ys

-- a known list got these wires at its end
abbrev pub ComeLast : Option (List WireView) → Option (List WireView) → List WireView → Type 0
ComeLast None new wires = ⊤
ComeLast (Some xs) None wires = ⊥
ComeLast (Some xs) (Some ys) wires = ys ≡ xs ++ wires

-- a door's sessions: the wires that came, in order, went back as the sessions over them left them, and the pass went on from the history that it had seen
pub record ServesDoor (old new : Seat) (budget : ℕ) (coming back : Option (List WireView) × Option (List WireView)) : Type 0 where
  pub before : List WireView
  pub after : List WireView
  pub served : ServesWires old new budget before after
  pub came : LeaveFirst coming.0 coming.1 before
  pub went : ComeLast back.0 back.1 after
  pub fronts : List ℕ
  pub goes : Goes old new fronts
  pub goes_on : IsPrefix old.seen new.seen

-- a worker with a pass has it again, and served all sessions of its door, or the door failed
pub record WorksWith {D : Type 0} (coming back : D → Option (List WireView)) (out sessions faults : D → ℕ) (budget : ℕ) (p q : Seat) (old new : Worker D) : Type 0 where
  pub door : ServesDoor p q budget (coming old.door, coming new.door) (back old.door, back new.door)
  pub table : q.table ≡ p.table
  pub same_out : out new.door ≡ out old.door
  pub all : new.failed ≡ false → (sessions new.door ≡ 0) × IfSome (coming new.door) (λ wires. wires ≡ [])
  pub rose : new.failed ≡ true → Rose (faults old.door) (faults new.door)
  pub passed : new.failed ≡ false → faults new.door ≡ faults old.door

-- what a worker does, by the passes that it has before and after
abbrev pub WorksBy : {D : Type 0} → (D → Option (List WireView)) → (D → Option (List WireView)) → (D → ℕ) → (D → ℕ) → (D → ℕ) → ℕ → Option Seat → Option Seat → Worker D → Worker D → Type 0
WorksBy coming back out sessions faults budget None after old new = ⊤
WorksBy coming back out sessions faults budget (Some p) None old new = ⊥
WorksBy coming back out sessions faults budget (Some p) (Some q) old new = WorksWith coming back out sessions faults budget p q old new

abbrev pub Works : {D : Type 0} → (D → Option (List WireView)) → (D → Option (List WireView)) → (D → ℕ) → (D → ℕ) → (D → ℕ) → ℕ → Worker D → Worker D → Type 0
Works coming back out sessions faults budget old new = WorksBy coming back out sessions faults budget old.pass new.pass old new
