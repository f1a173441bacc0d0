-- Answers that are known where there is one.
use Rattle.std.proofs.Common.{◌≡◌, ◌∙◌, Ok, Err, IfOk}
use Rattle.std.specs.Prelude.{Result, MatchResult}

pub ok_as : {X E : Type 0} (r : Result X E) (x y : X) → x ≡ y → IfOk r (λ found. found ≡ x) → IfOk r (λ found. found ≡ y)
ok_as (Ok found) x y e h = h ∙ e
ok_as (Err cause) x y e h = tt

pub ok_by : {X Y E : Type 0} (f : X → Y) (r : Result X E) (x y : Y) → x ≡ y → IfOk r (λ found. f found ≡ x) → IfOk r (λ found. f found ≡ y)
ok_by f (Ok found) x y e h = h ∙ e
ok_by f (Err cause) x y e h = tt

pub ok_where : {X E : Type 0} (F : E → Type 0) (P Q : X → Type 0) (r : Result X E) → ((x : X) → P x → Q x) → MatchResult r P F → IfOk r Q
ok_where F P Q (Ok found) f h = f found h
ok_where F P Q (Err cause) f h = tt

pub ok_map : {X E : Type 0} (P Q : X → Type 0) (r : Result X E) → ((x : X) → P x → Q x) → IfOk r P → IfOk r Q
ok_map P Q (Ok found) f h = f found h
ok_map P Q (Err cause) f h = tt
