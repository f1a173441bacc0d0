-- The passes of the workers that serve a surface.
use Rattle.std.proofs.Common.{◌≡◌, ◌⊎◌, ℕ, ◌<◌, ◌+◌, List, [], ◌∷◌, ◌++◌, length, Option, None, Some, refl, sym, ap, subst, ◌∙◌, ⊎_elim, arith}
use Rattle.std.specs.Prelude.{IsSomeAnd, IsSome}
use Rattle.std.specs.List.{All, slice_index_or, slice_set}
use Rattle.std.proofs.Math.Nat.{eq-or-lt_of_le}
use Rattle.std.proofs.Math.Seq.{get_or-append_seam}
use Rattle.std.proofs.lemmas.Grind.{get_or-set_at}
use Rattle.std.proofs.lemmas.List.{get_or_default, get_or_append_left, get_or-set_other}
use Rattle.ground_io.specs.Wires.{WireView}
use Rattle.ground_model.specs.History.{IsLegal}
use Rattle.turn_lock.specs.Seat.{Lock, Seat, numbers_of, fresh_seat, AreFirst, AreAll}
use Rattle.turn_lock.specs.declared.journal.Journal.{Journal}
use Rattle.turn_lock.proofs.Gathers.{first_all, same_all}
use Rattle.desk.specs.Closing.{Closes}
use Rattle.serve.specs.Doors.{WorksWith, WorksBy, Works}
use Rattle.serve.specs.Surfaces.{HavePasses, GaveBack, ServesSurface}
use Rattle.serve.specs.declared.worker.Worker.{Worker}

-- the passes taken back have one more
pub had-more : {D : Type 0} (old : List (Worker D)) (passes all : List Seat) (k : ℕ) (w : Worker D) (p : Seat) → length passes ≡ k → k < length old → (slice_index_or old k w).pass ≡ Some p → all ≡ passes ++ p ∷ []
    → ((i : ℕ) (d : Worker D) (q : Seat) → i < k → (slice_index_or old i d).pass ≡ Some (slice_index_or passes i q))
    → (i : ℕ) (d : Worker D) (q : Seat) → i < k + 1 → (slice_index_or old i d).pass ≡ Some (slice_index_or all i q)
had-more {D} old passes all k w p count within has is before i d q low =
    let split : (i ≡ k) ⊎ (i < k) = eq-or-lt_of_le (omega arith) in
    ⊎_elim
    (λ (at : i ≡ k). ap (λ (x : Worker D). x.pass) (ap (λ n. slice_index_or old n d) at ∙ get_or_default old k d w within) ∙ has ∙ ap (λ (x : Seat). Some x) (sym (got at)))
    (λ (less : i < k). before i d q less ∙ ap (λ (x : Seat). Some x) (sym (ap (λ xs. slice_index_or xs i q) is ∙ get_or_append_left passes (p ∷ []) q i (omega arith))))
    split
  where
    got : i ≡ k → slice_index_or all i q ≡ p
    got at = ap (λ xs. slice_index_or xs i q) is ∙ ap (λ n. slice_index_or (passes ++ p ∷ []) n q) (at ∙ sym count) ∙ get_or-append_seam passes p [] q

-- one worker more is without its pass
pub left-more : {D : Type 0} (old now : List (Worker D)) (k : ℕ) (w v : Worker D) → k < length now → k < length old → slice_index_or now k w ≡ slice_index_or old k w → v ≡ record (slice_index_or now k w) { pass = None }
    → ((i : ℕ) (d : Worker D) → i < k → slice_index_or now i d ≡ record (slice_index_or old i d) { pass = None })
    → (i : ℕ) (d : Worker D) → i < k + 1 → slice_index_or (slice_set now k v) i d ≡ record (slice_index_or old i d) { pass = None }
left-more {D} old now k w v within among same is before i d low =
    let split : (i ≡ k) ⊎ (i < k) = eq-or-lt_of_le (omega arith) in
    ⊎_elim
    (λ (at : i ≡ k). get_or-set_at now k i v d at within ∙ is ∙ ap (λ (x : Worker D). record x { pass = None }) (same ∙ get_or_default old k w d among ∙ ap (λ n. slice_index_or old n d) (sym at)))
    (λ (less : i < k). get_or-set_other now k i v d (λ (e : i ≡ k). omega (arith, e, less)) ∙ before i d less)
    split

-- an element of a list that has one
pub one-of : {A : Type 0} → (xs : List A) (i : ℕ) → i < length xs → A
one-of [] i low = absurd (omega arith)
one-of (x ∷ xs) i low = x

-- each worker that got a first pass has one of the desk
pub of-desk : {D : Type 0} (desk : Lock) (first : List Seat) (old new : List (Worker D)) → AreFirst desk first → desk.seats ≡ length old → HavePasses first old new → All (λ (w : Worker D). IsSomeAnd w.pass (λ p. p.table ≡ desk.table)) new
of-desk {D} desk first old new are count have i d low =
    let p : Seat = fresh_seat desk.table desk.opening 0 in
    let size = are.count in
    let same = have.count in
    let got = ap (λ (w : Worker D). w.pass) (have.each i d p (omega arith)) in
    subst (λ (o : Option Seat). IsSomeAnd o (λ p. p.table ≡ desk.table)) (sym got) ((first_all desk first are).of_lock i p (omega arith))

module _ {D : Type 0} (coming back : D → Option (List WireView)) (out sessions faults : D → ℕ) (budget : ℕ) where
  -- who works has a pass again
  has-again : (o : Option Seat) (p : Seat) (old new : Worker D) → WorksBy coming back out sessions faults budget (Some p) o old new → IsSome o
  has-again None p old new w = absurd w
  has-again (Some q) p old new w = refl

  -- a worker that got a pass, worked, and gave one back
  works-at : (w0 w1 w2 w3 : Worker D) (p q : Seat) → w1 ≡ record w0 { pass = Some p } → w2.pass ≡ Some q → w3 ≡ record w2 { pass = None } → Works coming back out sessions faults budget w1 w2 → WorksWith coming back out sessions faults budget p q w0 w3
  works-at w0 w1 w2 w3 p q got had gave works =
      let given : WorksBy coming back out sessions faults budget (Some p) w2.pass (record w0 { pass = Some p }) w2 = subst (λ (w : Worker D). WorksBy coming back out sessions faults budget w.pass w2.pass w w2) got works in
      let with : WorksWith coming back out sessions faults budget p q (record w0 { pass = Some p }) w2 = subst (λ (o : Option Seat). WorksBy coming back out sessions faults budget (Some p) o (record w0 { pass = Some p }) w2) had given in
      subst (λ (w : Worker D). WorksWith coming back out sessions faults budget p q w0 w) (sym gave) (record { door = with.door; table = with.table; same_out = with.same_out; all = with.all; rose = with.rose; passed = with.passed })

  -- workers that got these first passes, and worked
  module _ (w0 w1 w2 : List (Worker D)) (first : List Seat) (have : HavePasses first w0 w1) (same : length w2 ≡ length w1)
      (works : (i : ℕ) (d : Worker D) → i < length w1 → Works coming back out sessions faults budget (slice_index_or w1 i d) (slice_index_or w2 i d)) where
    -- all of them have a pass again
    pub all-there : Seat → All (λ (w : Worker D). IsSome w.pass) w2
    all-there p i d low =
        let count = have.count in
        let got = have.each i d p (omega arith) in
        has-again (slice_index_or w2 i d).pass (slice_index_or first i p) (slice_index_or w1 i d) (slice_index_or w2 i d)
        (subst (λ (o : Option Seat). WorksBy coming back out sessions faults budget o (slice_index_or w2 i d).pass (slice_index_or w1 i d) (slice_index_or w2 i d)) (ap (λ (w : Worker D). w.pass) got) (works i d (omega arith)))

    -- and gave these back
    module _ (w3 : List (Worker D)) (last : List Seat) (gave : GaveBack last w2 w3) where
      each-works : (i : ℕ) (d : Worker D) (p : Seat) → i < length w0 → WorksWith coming back out sessions faults budget (slice_index_or first i p) (slice_index_or last i p) (slice_index_or w0 i d) (slice_index_or w3 i d)
      each-works i d p low =
          let count = have.count in
          works-at (slice_index_or w0 i d) (slice_index_or w1 i d) (slice_index_or w2 i d) (slice_index_or w3 i d) (slice_index_or first i p) (slice_index_or last i p)
          (have.each i d p low) (gave.had i d p (omega arith)) (gave.left i d (omega arith)) (works i d (omega arith))

      -- which are all passes of the desk
      pub last-all : (desk : Lock) → AreFirst desk first → desk.seats ≡ length w0 → AreAll desk last
      last-all desk are count =
          let size = are.count in
          let given = have.count in
          let returned = gave.count in
          same_all desk first last (omega arith) (first_all desk first are) (λ i p low.
          let d = one-of w0 i (omega arith) in
          let goes = (each-works i d p (omega arith)).door.goes in
          (ap (λ (s : Seat). s.table) goes.pass, ap numbers_of goes.pass))

      -- what was served
      pub serves : (desk : Lock) (opening closing : Journal) → desk.opening ≡ opening → AreFirst desk first → desk.seats ≡ length w0 → Closes desk last closing → IsLegal closing.limits closing.entries
          → ServesSurface coming back out sessions faults budget opening closing w0 w3
      serves desk opening closing opened are count closes legal =
          let given = have.count in
          let returned = gave.count in
          let kept = gave.workers in
          record {
            desk = desk;
            opened = opened;
            first = first;
            last = last;
            passes = are;
            seats = count;
            returned = omega arith;
            workers = omega arith;
            each = each-works;
            free = λ i d low. ap (λ (w : Worker D). w.pass) (gave.left i d (omega arith));
            closes = closes;
            legal = legal;
          }
