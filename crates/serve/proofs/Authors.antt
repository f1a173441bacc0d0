-- Who made the entries that a served surface got.
use Rattle.std.proofs.Common.{◌≡◌, ℕ, suc, ◌<◌, ◌≤◌, ◌+◌, List, [], ◌∷◌, length, Option, sym, ap, subst, ◌∙◌, ⊎_elim, arith}
use Rattle.std.specs.List.{All, Contains, flat_map, slice_index_or}
use Rattle.std.proofs.lemmas.List.Elements.{Contains-append_cases}
use Rattle.std.proofs.lemmas.Option.{get_or_from_slice_get}
use Rattle.ground_io.specs.Wires.{WireView}
use Rattle.ground_model.specs.declared.entry.Entry.{Entry}
use Rattle.turn_lock.specs.Seat.{Seat, numbers_of, fresh_seat}
use Rattle.turn_lock.specs.declared.journal.Journal.{Journal}
use Rattle.serve.specs.Surfaces.{ServesSurface}
use Rattle.serve.specs.declared.worker.Worker.{Worker}
use Rattle.serve.proofs.Surfaces.{one-of}

-- what holds of each number of each pass holds of the numbers of all
of-each : (P : ℕ → Type 0) (passes : List Seat) → ((i : ℕ) (p : Seat) (k : ℕ) → i < length passes → Contains (numbers_of (slice_index_or passes i p)) k → P k) → (k : ℕ) → Contains (flat_map numbers_of passes) k → P k
of-each P [] each k m = absurd (omega (arith, m.1))
of-each P (p ∷ passes) each k m = ⊎_elim
    (λ (h : Contains (numbers_of p) k). each 0 p k (omega arith) h)
    (λ (h : Contains (flat_map numbers_of passes) k). of-each P passes (λ i q n low c. each (suc i) q n (omega arith) c) k h)
    (Contains-append_cases (numbers_of p) (flat_map numbers_of passes) k m)

-- a list of one number has it alone
alone : (n k : ℕ) → Contains (n ∷ []) k → n ≡ k
alone n k is = let first : is.0 ≡ 0 = omega (arith, is.1) in ap (λ j. slice_index_or (n ∷ []) j k) (sym first) ∙ is.2

module _ {D : Type 0} (coming back : D → Option (List WireView)) (out sessions faults : D → ℕ) (budget : ℕ) (opening closing : Journal) (old new : List (Worker D)) (served : ServesSurface coming back out sessions faults budget opening closing old new) where
  -- a pass comes back with the number of its worker's place, from 1
  number-at : (i : ℕ) (p : Seat) (k : ℕ) → i < length served.last → Contains (numbers_of (slice_index_or served.last i p)) k → (0 < k) × (k ≤ length old)
  number-at i p k low m =
      let returned = served.returned in
      let seats = served.seats in
      let goes = (served.each i (one-of old i (omega arith)) p (omega arith)).door.goes in
      let first : slice_index_or served.first i p ≡ fresh_seat served.desk.table served.desk.opening (i + 1) = get_or_from_slice_get served.first i (fresh_seat served.desk.table served.desk.opening (i + 1)) p (served.passes.each i (omega arith)) in
      let same = alone (i + 1) k (subst (λ ns. Contains ns k) (ap numbers_of goes.pass ∙ ap numbers_of first) m) in
      (omega (arith, same), omega (arith, same))

  -- each entry past the opening is by the author of a worker's place
  pub made-by-workers : All (λ (e : Entry). (0 < e.author) × (e.author ≤ length old)) served.closes.entries.past
  made-by-workers i d low = of-each (λ k. (0 < k) × (k ≤ length old)) served.last number-at (slice_index_or served.closes.entries.past i d).author (served.closes.entries.named i d low)
