-- The wires of a door, one after another.
use Rattle.std.proofs.Common.{◌≡◌, ℕ, List, [], ◌∷◌, ◌++◌, length, Option, None, Some, IfSome, refl, sym, ap, subst, ◌∙◌, append_assoc, append-nil, arith}
use Rattle.ground_io.specs.Wires.{WireView, SameWires, Gives, TakesBack}
use Rattle.turn_lock.specs.Seat.{Seat}
use Rattle.serve.specs.Doors.{ServesWire, ServesWires, LeaveFirst, ComeLast}

-- one wire more
pub serves_more : (p q r : Seat) (budget : ℕ) (before after : List WireView) (b a : WireView) → ServesWires p q budget before after → ServesWire q r budget b a → ServesWires p r budget (before ++ b ∷ []) (after ++ a ∷ [])
serves_more p q r budget [] [] b a s w = (r, subst (λ (x : Seat). ServesWire x r budget b a) s w, refl)
serves_more p q r budget (c ∷ before) (d ∷ after) b a s w = (s.0, s.1, serves_more s.0 q r budget before after b a s.2 w)
serves_more p q r budget [] (d ∷ after) b a s w = absurd s
serves_more p q r budget (c ∷ before) [] b a s w = absurd s

-- ---- the wires to come

pub leave_none : (xs : Option (List WireView)) → LeaveFirst xs xs []
leave_none None = tt
leave_none (Some xs) = refl

pub leave_more : (xs ys zs : Option (List WireView)) (wires : List WireView) (w : WireView) → LeaveFirst xs ys wires → Gives ys zs w → LeaveFirst xs zs (wires ++ w ∷ [])
leave_more None ys zs wires w l g = tt
leave_more (Some xs) None zs wires w l g = absurd l
leave_more (Some xs) (Some ys) None wires w l g = absurd g
leave_more (Some xs) (Some ys) (Some zs) wires w l g = l ∙ ap (λ more. wires ++ more) g ∙ sym (append_assoc wires (w ∷ []) zs)

pub leave_same : (xs ys zs : Option (List WireView)) (wires : List WireView) → LeaveFirst xs ys wires → SameWires ys zs → LeaveFirst xs zs wires
leave_same None ys zs wires l s = tt
leave_same (Some xs) None zs wires l s = absurd l
leave_same (Some xs) (Some ys) None wires l s = absurd s
leave_same (Some xs) (Some ys) (Some zs) wires l s = l ∙ ap (λ more. wires ++ more) (sym s)

-- none is left where no session may come
pub none_left : (xs : Option (List WireView)) (n : ℕ) → IfSome xs (λ wires. length wires ≡ n) → n ≡ 0 → IfSome xs (λ wires. wires ≡ [])
none_left None n counted none = tt
none_left (Some []) n counted none = refl
none_left (Some (x ∷ xs)) n counted none = absurd (omega (arith, counted, none))

-- ---- the wires that were handed back

pub come_none : (xs : Option (List WireView)) → ComeLast xs xs []
come_none None = tt
come_none (Some xs) = sym (append-nil xs)

pub come_more : (xs ys zs : Option (List WireView)) (wires : List WireView) (w : WireView) → ComeLast xs ys wires → TakesBack ys zs w → ComeLast xs zs (wires ++ w ∷ [])
come_more None ys zs wires w c t = tt
come_more (Some xs) None zs wires w c t = absurd c
come_more (Some xs) (Some ys) None wires w c t = absurd t
come_more (Some xs) (Some ys) (Some zs) wires w c t = t ∙ ap (λ all. all ++ w ∷ []) c ∙ append_assoc xs wires (w ∷ [])

pub come_same : (xs ys zs : Option (List WireView)) (wires : List WireView) → ComeLast xs ys wires → SameWires ys zs → ComeLast xs zs wires
come_same None ys zs wires c s = tt
come_same (Some xs) None zs wires c s = absurd c
come_same (Some xs) (Some ys) None wires c s = absurd s
come_same (Some xs) (Some ys) (Some zs) wires c s = s ∙ c
