-- All seats of a lock, which are joined one by one into the last.
use Rattle.std.proofs.Common.{◌≡◌, ◌⊎◌, inl, inr, ℕ, zero, suc, ◌+◌, ◌%◌, ◌<◌, List, [], ◌∷◌, ◌++◌, length, take, drop, refl, sym, ap, ◌∙◌, subst, ⊎_elim, arith, append-nil}
use Rattle.std.specs.List.{All, Contains, flat_map, remove, slice_index_or}
use Rattle.std.proofs.Math.Nat.{mod-lt}
use Rattle.std.proofs.lemmas.Option.{get_or_from_slice_get}
use Rattle.std.proofs.lemmas.List.Elements.{All-append, All-take, All-drop, Contains-append_left, Contains-append_right, Contains-append_cases}
use Rattle.turn_lock.specs.Seat.{Lock, Seat, numbers_of, fresh_seat, with_joined, HasAll, AreFirst, AreAll}

-- the numbers of a seat among others are among those of all
among : (seats : List Seat) (i : ℕ) (d : Seat) (k : ℕ) → i < length seats → Contains (numbers_of (slice_index_or seats i d)) k → Contains (flat_map numbers_of seats) k
among [] i d k low m = absurd (omega arith)
among (s ∷ seats) zero d k low m = Contains-append_left (numbers_of s) (flat_map numbers_of seats) k m
among (s ∷ seats) (suc i) d k low m = Contains-append_right (numbers_of s) (flat_map numbers_of seats) k (among seats i d k (omega arith) m)

-- the seats of a new lock are all
pub first_all : (lock : Lock) (seats : List Seat) → AreFirst lock seats → AreAll lock seats
first_all lock seats first = record { of_lock = λ i d low. ap (λ (s : Seat). s.table) (at i d (let c = first.count in omega arith)); numbers = given }
  where
    at : (i : ℕ) (d : Seat) → i < lock.seats → slice_index_or seats i d ≡ fresh_seat lock.table lock.opening (i + 1)
    at i d low = get_or_from_slice_get seats i (fresh_seat lock.table lock.opening (i + 1)) d (first.each i low)

    given : HasAll lock (flat_map numbers_of seats)
    given zero low high = absurd (omega arith)
    given (suc i) low high =
        let d : Seat = fresh_seat lock.table lock.opening 0 in
        let m : Contains ((i + 1) ∷ []) (suc i) = (0, omega arith, omega arith) in
        among seats i d (suc i) (let c = first.count in omega arith) (subst (λ (s : Seat). Contains (numbers_of s) (suc i)) (sym (at i d (omega arith))) m)

-- seats with the same numbers are all of them too
pub same_all : (lock : Lock) (old new : List Seat) → length new ≡ length old → AreAll lock old
    → ((i : ℕ) (d : Seat) → i < length old → ((slice_index_or new i d).table ≡ (slice_index_or old i d).table) × (numbers_of (slice_index_or new i d) ≡ numbers_of (slice_index_or old i d))) → AreAll lock new
same_all lock old new len all same = record {
  of_lock = λ i d low. (same i d (omega arith)).0 ∙ all.of_lock i d (omega arith);
  numbers = subst (HasAll lock) (sym (alike old new len (λ i d low. (same i d low).1))) all.numbers;
}
  where
    alike : (xs ys : List Seat) → length ys ≡ length xs → ((i : ℕ) (d : Seat) → i < length xs → numbers_of (slice_index_or ys i d) ≡ numbers_of (slice_index_or xs i d)) → flat_map numbers_of ys ≡ flat_map numbers_of xs
    alike [] [] len same = refl
    alike [] (y ∷ ys) len same = absurd (omega arith)
    alike (x ∷ xs) [] len same = absurd (omega arith)
    alike (x ∷ xs) (y ∷ ys) len same = (λ i. same 0 x (omega arith) i ++ alike xs ys (omega arith) (λ k d low. same (suc k) d (omega arith)) i)

pub removed_all : (lock : Lock) (numbers : List ℕ) (seats : List Seat) (i : ℕ) (s : Seat) → i < length seats → s ≡ slice_index_or seats i s → HasAll lock (numbers ++ flat_map numbers_of seats) → HasAll lock ((numbers ++ numbers_of s) ++ flat_map numbers_of (remove seats i))
removed_all lock numbers seats i s low is all k p q = ⊎_elim
    (λ (m : Contains numbers k). Contains-append_left (numbers ++ numbers_of s) (flat_map numbers_of (remove seats i)) k (Contains-append_left numbers (numbers_of s) k m))
    (λ (m : Contains (flat_map numbers_of seats) k). ⊎_elim
    (λ (h : Contains (numbers_of s) k). Contains-append_left (numbers ++ numbers_of s) (flat_map numbers_of (remove seats i)) k (Contains-append_right numbers (numbers_of s) k h))
    (λ (h : Contains (flat_map numbers_of (remove seats i)) k). Contains-append_right (numbers ++ numbers_of s) (flat_map numbers_of (remove seats i)) k h)
    (parted seats i s low is k m))
    (Contains-append_cases numbers (flat_map numbers_of seats) k (all k p q))
  where
    parted : (seats : List Seat) (i : ℕ) (s : Seat) → i < length seats → s ≡ slice_index_or seats i s → (k : ℕ) → Contains (flat_map numbers_of seats) k → Contains (numbers_of s) k ⊎ Contains (flat_map numbers_of (remove seats i)) k
    parted [] i s low is k m = absurd (omega arith)
    parted (x ∷ seats) zero s low is k m = subst (λ (y : Seat). Contains (numbers_of y) k ⊎ Contains (flat_map numbers_of seats) k) (sym is) (Contains-append_cases (numbers_of x) (flat_map numbers_of seats) k m)
    parted (x ∷ seats) (suc i) s low is k m = ⊎_elim
        (λ (h : Contains (numbers_of x) k). inr (Contains-append_left (numbers_of x) (flat_map numbers_of (remove seats i)) k h))
        (λ (h : Contains (flat_map numbers_of seats) k). ⊎_elim inl
        (λ (h : Contains (flat_map numbers_of (remove seats i)) k). inr (Contains-append_right (numbers_of x) (flat_map numbers_of (remove seats i)) k h)) (parted seats i s (omega arith) is k h))
        (Contains-append_cases (numbers_of x) (flat_map numbers_of seats) k m)

pub remove_of_lock : (lock : Lock) (seats : List Seat) (i : ℕ) → All (λ (s : Seat). s.table ≡ lock.table) seats → All (λ (s : Seat). s.table ≡ lock.table) (remove seats i)
remove_of_lock lock seats i h = All-append (λ (s : Seat). s.table ≡ lock.table) (take i seats) (drop (suc i) seats) (All-take (λ (s : Seat). s.table ≡ lock.table) i seats h) (All-drop (λ (s : Seat). s.table ≡ lock.table) (suc i) seats h)

-- the first seat is taken out of all, and steps
pub first_removed : (lock : Lock) (seats : List Seat) (i : ℕ) (s w : Seat) → i < length seats → s ≡ slice_index_or seats i s → AreAll lock seats → w.table ≡ s.table → numbers_of w ≡ numbers_of s
    → (w.table ≡ lock.table) × All (λ (s : Seat). s.table ≡ lock.table) (remove seats i) × HasAll lock (numbers_of w ++ flat_map numbers_of (remove seats i))
first_removed lock seats i s w low is all table same = (
  table ∙ (ap (λ (t : Seat). t.table) is ∙ all.of_lock i s low),
  remove_of_lock lock seats i all.of_lock,
  subst (λ ns. HasAll lock (ns ++ flat_map numbers_of (remove seats i))) (sym same) (removed_all lock [] seats i s low is all.numbers),
)

-- the next seat is taken out of those that are left, steps, and is joined into one
pub next_removed : (lock : Lock) (seats : List Seat) (i : ℕ) (s w all joint : Seat) → i < length seats → s ≡ slice_index_or seats i s → HasAll lock (numbers_of all ++ flat_map numbers_of seats) → numbers_of w ≡ numbers_of s → joint ≡ with_joined all w
    → HasAll lock (numbers_of joint ++ flat_map numbers_of (remove seats i))
next_removed lock seats i s w all joint low is has same joined =
    subst (λ ns. HasAll lock (ns ++ flat_map numbers_of (remove seats i))) (sym (ap numbers_of joined ∙ ap (λ ns. numbers_of all ++ ns) same)) (removed_all lock (numbers_of all) seats i s low is has)

-- none is left
pub none_left : (lock : Lock) (all : Seat) (seats : List Seat) → length seats ≡ 0 → HasAll lock (numbers_of all ++ flat_map numbers_of seats) → HasAll lock (numbers_of all)
none_left lock all [] len has = subst (HasAll lock) (append-nil (numbers_of all)) has
none_left lock all (s ∷ seats) len has = absurd (omega arith)

pub in_reach : (a n m : ℕ) → n ≡ m → 0 < n → a % n < m
in_reach a n m e pos = subst (λ k. a % n < k) e (mod-lt a pos)
