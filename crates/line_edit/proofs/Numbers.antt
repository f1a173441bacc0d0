-- The place of a point's number.
use Rattle.std.proofs.Common.{◌≡◌, ◌/◌, ◌%◌, ℕ, List}
use Rattle.std.specs.Prelude.{Option, Some, None, Result, Ok, Err, IfSome, IfNone, IfOk}
use Rattle.ground_model.specs.Place.{Coords}
use Rattle.tri_pages.specs.Slots.{State}
use Rattle.point_edit.specs.Removals.{IsPointOf}
use Rattle.point_edit.proofs.Closed.{one_place}

-- ---- what is found of an answer is found of all that follows from it
pub some_as : {X : Type 0} (P Q : X → Type 0) (o : Option X) → ((x : X) → P x → Q x) → IfSome o P → IfSome o Q
some_as P Q (Some x) more h = more x h
some_as P Q None more h = h

pub none_as : {X : Type 0} (P Q : Type 0) (o : Option X) → (P → Q) → IfNone o P → IfNone o Q
none_as P Q (Some x) more h = h
none_as P Q None more h = more h

pub ok_as : {X E : Type 0} (P Q : X → Type 0) (o : Result X E) → ((x : X) → P x → Q x) → IfOk o P → IfOk o Q
ok_as P Q (Ok x) more h = more x h
ok_as P Q (Err e) more h = h

-- ---- a number is of one place
pub one_point : (slots : List State) (number : ℕ) (p q : Coords) → IsPointOf slots number p → IsPointOf slots number q → p ≡ q
one_point slots number p q a b = one_place slots (number / 4) (number % 4) p q a b
