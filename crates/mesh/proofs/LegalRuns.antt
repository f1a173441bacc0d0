-- Runs of Lawson's flips.
use Rattle.std.proofs.Common.{◌≡◌, ◌<◌, ◌+◌, ◌*◌, ◌-◌, ◌^◌, ℕ, List, [], ◌∷◌, ◌++◌, length, refl, sym, ap, ◌∙◌, subst, arith}
use Rattle.tri_pages.specs.Slots.{State}
use Rattle.mesh.specs.FlipRuns.{Flip, IsLawsonFlip, AreFlips, slots_named, FlipRun, FlipOrNone, NoFlip, OneFlip, volume_of}
use Rattle.mesh.specs.Meshes.{MeshView}

more_flips : (fs : List Flip) (f : Flip) (old mid new : List State) → AreFlips fs old mid → IsLawsonFlip mid new f → AreFlips (fs ++ f ∷ []) old new
more_flips [] f old mid new same x = (new, subst (λ ps. IsLawsonFlip ps new f) (sym same) x, refl)
more_flips (g ∷ fs) f old mid new run x = (run.0, run.1, more_flips fs f run.0 mid new run.2 x)

append_assoc : (xs ys zs : List ℕ) → (xs ++ ys) ++ zs ≡ xs ++ (ys ++ zs)
append_assoc [] ys zs = refl
append_assoc (x ∷ xs) ys zs = ap (λ l. x ∷ l) (append_assoc xs ys zs)

append_nil : (xs : List ℕ) → xs ≡ xs ++ []
append_nil [] = refl
append_nil (x ∷ xs) = ap (λ l. x ∷ l) (append_nil xs)

more_named : (fs : List Flip) (f : Flip) → slots_named fs ++ f.slot ∷ f.beyond ∷ [] ≡ slots_named (fs ++ f ∷ [])
more_named [] f = refl
more_named (g ∷ fs) f = ap (λ l. g.slot ∷ g.beyond ∷ l) (more_named fs f)

one_longer : (fs : List Flip) (f : Flip) → length (fs ++ f ∷ []) ≡ length fs + 1
one_longer [] f = refl
one_longer (g ∷ fs) f = let rest = one_longer fs f in omega (arith, rest)

two_longer : (xs : List ℕ) (a b : ℕ) → length (xs ++ a ∷ b ∷ []) ≡ length xs + 2
two_longer [] a b = refl
two_longer (x ∷ xs) a b = let rest = two_longer xs a b in omega (arith, rest)

pub no_flips : (mesh : MeshView) (script : List ℕ) → mesh.turns < 2 ^ 64 → FlipRun mesh mesh script script
no_flips mesh script fits = record { flips = []; are = refl; named = append_nil script; counted = omega (arith, fits) }

pub run_then : (old mid new : MeshView) (s0 s1 s2 : List ℕ) → FlipRun old mid s0 s1 → FlipOrNone mid new s1 s2 → FlipRun old new s0 s2
run_then old mid new s0 s1 s2 run (NoFlip slots turns script) = record {
  flips = run.flips;
  are = subst (λ ps. AreFlips run.flips old.slots ps) (sym slots) run.are;
  named = script ∙ run.named;
  counted = turns ∙ run.counted;
}
run_then old mid new s0 s1 s2 run (OneFlip f x turns script) =
    let longer = one_longer run.flips f in
    record {
      flips = run.flips ++ f ∷ [];
      are = more_flips run.flips f old.slots mid.slots new.slots run.are x;
      named = script ∙ ap (λ l. l ++ f.slot ∷ f.beyond ∷ []) run.named ∙ append_assoc s0 (slots_named run.flips) (f.slot ∷ f.beyond ∷ []) ∙ ap (λ l. s0 ++ l) (more_named run.flips f);
      counted = omega (arith, turns, run.counted, longer);
    }

-- less is left to do
pub less_left : (old new : MeshView) (s0 s1 : List ℕ) (index : ℕ) → FlipOrNone old new s0 s1 → index < length s0 → 2 * volume_of new.slots + (length s1 - (index + 1)) < 2 * volume_of old.slots + (length s0 - index)
less_left old new s0 s1 index (NoFlip slots turns script) within =
    let same : volume_of new.slots ≡ volume_of old.slots = ap volume_of slots in
    let len : length s1 ≡ length s0 = ap (λ l. length l) script in
    omega (arith, same, len, within)
less_left old new s0 s1 index (OneFlip f x turns script) within =
    let len : length s1 ≡ length s0 + 2 = ap (λ l. length l) script ∙ two_longer s0 f.slot f.beyond in
    omega (arith, x.falls, len, within)
