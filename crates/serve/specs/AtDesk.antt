-- What a session at a desk makes of its pass.
use Rattle.std.proofs.Common.{refl, ap, ◌∙◌, append_assoc, append-nil, sym}
use Rattle.std.specs.Prelude.{◌≡◌, ℕ, List, [], ◌++◌, Option, None, Some, ⊤}
use Rattle.line_protocol.specs.declared.reply.Reply.{Reply}
use Rattle.line_protocol.specs.declared.request.Request.{Request}
use Rattle.turn_lock.specs.Seat.{Seat}
use Rattle.turn_lock.specs.declared.journal.Journal.{Journal}
use Rattle.session.specs.Sessions.{SessionView}
use Rattle.session.specs.Turns.{TakesTurn}

-- the pass keeps its desk, its author and the authors joined into it, and found these fronts, one after another
pub record Goes (old new : Seat) (fronts : List ℕ) : Type 0 where
  pub pass : new ≡ record old { seen = new.seen; found = new.found }
  pub found : new.found ≡ old.found ++ fronts

-- a turn of a session with a pass: what `TakesTurn` says, of the history that the pass has seen
abbrev pub TurnsAt : Seat → Seat → SessionView → SessionView → Request → Reply → Type 0
TurnsAt old new before after request reply = TakesTurn old.number (old.seen, new.seen) before after request reply (Goes old new)

-- the author of a pass, where there is one
abbrev pub number_of : Option Seat → ℕ
number_of None = 0
number_of (Some p) = p.number

-- the history that a pass has seen, and that of the opening where there is none
abbrev pub seen_of : Journal → Option Seat → Journal
seen_of opening None = opening
seen_of opening (Some p) = p.seen

-- a pass went on so, where there was one
abbrev pub GoesBy : Option Seat → Option Seat → List ℕ → Type 0
GoesBy None new fronts = ⊤
GoesBy (Some p) None fronts = ⊥
GoesBy (Some p) (Some q) fronts = Goes p q fronts

pub goes_none : (p : Option Seat) → GoesBy p p []
goes_none None = tt
goes_none (Some p) = record { pass = refl; found = sym (append-nil p.found) }

pub goes_both : (p q r : Option Seat) (fs gs : List ℕ) → GoesBy p q fs → GoesBy q r gs → GoesBy p r (fs ++ gs)
goes_both None q r fs gs s t = tt
goes_both (Some p) None r fs gs s t = absurd s
goes_both (Some p) (Some q) None fs gs s t = absurd t
goes_both (Some p) (Some q) (Some r) fs gs s t = record {
  pass = t.pass ∙ ap (λ (x : Seat). record x { seen = r.seen; found = r.found }) s.pass;
  found = t.found ∙ ap (λ xs. xs ++ gs) s.found ∙ append_assoc p.found fs gs;
}
