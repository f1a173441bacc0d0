-- Passes that are joined one by one.
use Rattle.std.proofs.Common.{◌≡◌, ℕ, zero, suc, ◌<◌, Bool, true, false, List, [], ◌∷◌, ◌++◌, length, refl, sym, ap, ◌∙◌, subst, arith, append_assoc, append-nil}
use Rattle.std.specs.Prelude.{nat_lt, if◌then◌else◌}
use Rattle.std.specs.List.{Any, Contains, flat_map, remove, slice_index_or}
use Rattle.std.proofs.lemmas.List.{flat_map_more}
use Rattle.std.proofs.lemmas.List.Elements.{All-push, Contains-append_left, Contains-append_right}
use Rattle.std.proofs.lemmas.List.Quantifiers.{Any-push}
use Rattle.turn_lock.specs.declared.journal.Journal.{Journal}
use Rattle.turn_lock.specs.Journal.{OthersAdded, AddedBy}
use Rattle.turn_lock.specs.Seat.{Lock, Seat, numbers_of, with_joined, HasAll, AreAll}
use Rattle.turn_lock.proofs.Prefix.{prefix_refl, prefix_trans}
use Rattle.desk.specs.Closing.{IsLongest, Gathers, Closes}

-- the first of a list, and the rest
pub headed : (xs : List Seat) (x : Seat) → 0 < length xs → x ≡ slice_index_or xs 0 x → xs ≡ x ∷ remove xs 0
headed [] x some is = absurd (omega arith)
headed (y ∷ ys) x some is = (λ i. sym is i ∷ ys)

-- the numbers of a pass among others are among those of all
among : (passes : List Seat) (i : ℕ) (d : Seat) (k : ℕ) → i < length passes → Contains (numbers_of (slice_index_or passes i d)) k → Contains (flat_map numbers_of passes) k
among [] i d k low m = absurd (omega arith)
among (p ∷ passes) zero d k low m = Contains-append_left (numbers_of p) (flat_map numbers_of passes) k m
among (p ∷ passes) (suc i) d k low m = Contains-append_right (numbers_of p) (flat_map numbers_of passes) k (among passes i d k (omega arith) m)

-- one journal after another, where the first is known of fewer authors
added-on : (few many : List ℕ) (x y z : Journal) → ((k : ℕ) → Contains few k → Contains many k) → OthersAdded few x y → OthersAdded many y z → OthersAdded few x z
added-on few many x y z within first next = record {
  prefix = prefix_trans x y z first.prefix next.prefix;
  own = λ k m. next.own k (within k m) ∙ first.own k m;
}

pub unchanged : (numbers : List ℕ) (x : Journal) → OthersAdded numbers x x
unchanged numbers x = record { prefix = prefix_refl x; own = λ k m. refl }

-- one pass alone
pub gathers-one : (p : Seat) → Gathers (p ∷ []) p
gathers-one p = record {
  numbers = sym (append-nil (numbers_of p));
  longest = record {
    seen = Any-push (λ (q : Seat). q.seen ≡ p.seen) [] p refl;
    each = All-push (λ (q : Seat). OthersAdded (numbers_of q) q.seen p.seen) [] p (λ k d low. absurd (omega arith)) (unchanged (numbers_of p) p.seen);
  };
}

-- one pass more
pub gathers-more : (passes : List Seat) (all p joint : Seat) → Gathers passes all → joint ≡ with_joined all p → OthersAdded (numbers_of all) all.seen joint.seen → OthersAdded (numbers_of p) p.seen joint.seen → Gathers (passes ++ p ∷ []) joint
gathers-more passes all p joint have is left right = record {
  numbers = ap numbers_of is ∙ (ap (λ ns. ns ++ numbers_of p) have.numbers ∙ flat_map_more numbers_of [] passes p);
  longest = record {
    seen = pick (nat_lt (length all.seen.entries) (length p.seen.entries)) (ap (λ (q : Seat). q.seen) is);
    each = All-push (λ (q : Seat). OthersAdded (numbers_of q) q.seen joint.seen) passes p
        (λ i d low. added-on (numbers_of (slice_index_or passes i d)) (numbers_of all) (slice_index_or passes i d).seen all.seen joint.seen
        (λ k m. subst (λ ns. Contains ns k) (sym have.numbers) (among passes i d k low m)) (have.longest.each i d low) left)
        right;
  };
}
  where
    kept : (xs : List Seat) (j : Journal) → Any (λ (q : Seat). q.seen ≡ j) xs → Any (λ (q : Seat). q.seen ≡ j) (xs ++ p ∷ [])
    kept xs j any = let at = Contains-append_left xs (p ∷ []) any.1 (any.0, any.2, any.3) in (at.0, any.1, at.1, at.2, any.4)

    pick : (c : Bool) → joint.seen ≡ (if c then p.seen else all.seen) → Any (λ (q : Seat). q.seen ≡ joint.seen) (passes ++ p ∷ [])
    pick true e = Any-push (λ (q : Seat). q.seen ≡ joint.seen) passes p (sym e)
    pick false e = kept passes joint.seen (subst (λ (j : Journal). Any (λ (q : Seat). q.seen ≡ j) passes) (sym e) have.longest.seen)

-- the passes that are left, after those that were joined
pub moved : (before passes whole : List Seat) (p : Seat) → 0 < length passes → p ≡ slice_index_or passes 0 p → before ++ passes ≡ whole → (before ++ p ∷ []) ++ remove passes 0 ≡ whole
moved before passes whole p some is all = append_assoc before (p ∷ []) (remove passes 0) ∙ (ap (λ ps. before ++ ps) (sym (headed passes p some is)) ∙ all)

pub none-left : (before passes whole : List Seat) → length passes ≡ 0 → before ++ passes ≡ whole → before ≡ whole
none-left before [] whole none all = sym (append-nil before) ∙ all
none-left before (p ∷ passes) whole none all = absurd (omega arith)

-- ---- the desk is closed

pub has-all : (desk : Lock) (passes : List Seat) (all : Seat) → AreAll desk passes → Gathers passes all → HasAll desk (numbers_of all)
has-all desk passes all are have = subst (HasAll desk) (sym have.numbers) are.numbers

pub some-pass : (desk : Lock) (passes : List Seat) → 0 < desk.seats → AreAll desk passes → 0 < length passes
some-pass desk [] some are = let m = are.numbers 1 (omega arith) (omega arith) in let low = m.1 in absurd (omega arith)
some-pass desk (p ∷ passes) some are = omega arith

pub closed : (desk : Lock) (passes : List Seat) (all : Seat) (j : Journal) → Gathers passes all → j ≡ all.seen → AddedBy (numbers_of all) desk.opening all.seen → Closes desk passes j
closed desk passes all j have is entries = record {
  longest = subst (IsLongest passes) (sym is) have.longest;
  entries = subst (AddedBy (flat_map numbers_of passes) desk.opening) (sym is) (subst (λ ns. AddedBy ns desk.opening all.seen) have.numbers entries);
}
