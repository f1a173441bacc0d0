-- Workers that nobody gave a pass yet.
use Rattle.std.proofs.Common.{◌≡◌, Bool, false, List, [], ◌∷◌, ◌++◌, Option, None, sym, subst}
use Rattle.std.specs.List.{All}
use Rattle.std.proofs.lemmas.List.Elements.{All-push}
use Rattle.serve.specs.declared.worker.Worker.{Worker}

-- one more worker
pub idle_more : {D : Type 0} (xs ys : List (Worker D)) (w : Worker D) → ys ≡ xs ++ w ∷ [] → w.pass ≡ None → w.failed ≡ false → All (λ (v : Worker D). (v.pass ≡ None) × (v.failed ≡ false)) xs → All (λ (v : Worker D). (v.pass ≡ None) × (v.failed ≡ false)) ys
idle_more {D} xs ys w more free whole all =
    subst (All (λ (v : Worker D). (v.pass ≡ None) × (v.failed ≡ false))) (sym more) (All-push (λ (v : Worker D). (v.pass ≡ None) × (v.failed ≡ false)) xs w all (free, whole))
