-- The least of some faults and of further ones.
use Rattle.std.proofs.Common.{◌≡◌, ℕ, ◌+◌, ◌<◌, ◌≤◌, length, take, get_or, append-nil, Bool, true, false, List, [], ◌∷◌, ◌++◌, Option, None, Some, refl, sym, ap, ◌∙◌, arith}
use Rattle.std.specs.Prelude.{nat_lt, if◌then◌else◌}
use Rattle.std.specs.List.{flat_map}
use Rattle.std.proofs.lemmas.List.{take_more}
use Rattle.std.proofs.lemmas.Grind.{flat_map-append}
use Rattle.std.proofs.lemmas.Bool.{ltb-true, ltb-false}
use Rattle.landxml_read.specs.declared.fault.DocFault.{DocFault}
use Rattle.landxml_surface.specs.Faults.{earlier_fault, least_of}

none-right : (f : Option DocFault) → earlier_fault f None ≡ f
none-right None = refl
none-right (Some f) = refl

three-faults : (f g h : DocFault) → earlier_fault (Some f) (earlier_fault (Some g) (Some h)) ≡ earlier_fault (earlier_fault (Some f) (Some g)) (Some h)
three-faults f g h = by (nat_lt g.at f.at) (nat_lt h.at g.at) (nat_lt h.at f.at) refl refl refl
  where
    choose : Bool → DocFault → DocFault → Option DocFault
    choose b x y = if b then Some x else Some y

    by : (a b c : Bool) → nat_lt g.at f.at ≡ a → nat_lt h.at g.at ≡ b → nat_lt h.at f.at ≡ c
        → earlier_fault (Some f) (choose (nat_lt h.at g.at) h g) ≡ earlier_fault (choose (nat_lt g.at f.at) g f) (Some h)
    by true true true p q r =
        ap (λ x. earlier_fault (Some f) (choose x h g)) q ∙ ap (λ x. choose x h f) r ∙ sym (ap (λ x. earlier_fault (choose x g f) (Some h)) p ∙ ap (λ x. choose x h g) q)
    by true true false p q r = absurd (wrong (ltb-true g.at f.at p) (ltb-true h.at g.at q) (ltb-false h.at f.at r))
      where
        wrong : g.at < f.at → h.at < g.at → f.at ≤ h.at → ⊥
        wrong x y z = omega (arith, x, y, z)
    by true false c p q r =
        ap (λ x. earlier_fault (Some f) (choose x h g)) q ∙ ap (λ x. choose x g f) p ∙ sym (ap (λ x. earlier_fault (choose x g f) (Some h)) p ∙ ap (λ x. choose x h g) q)
    by false true c p q r =
        ap (λ x. earlier_fault (Some f) (choose x h g)) q ∙ ap (λ x. choose x h f) r ∙ sym (ap (λ x. earlier_fault (choose x g f) (Some h)) p ∙ ap (λ x. choose x h f) r)
    by false false false p q r =
        ap (λ x. earlier_fault (Some f) (choose x h g)) q ∙ ap (λ x. choose x g f) p ∙ sym (ap (λ x. earlier_fault (choose x g f) (Some h)) p ∙ ap (λ x. choose x h f) r)
    by false false true p q r = absurd (wrong (ltb-false g.at f.at p) (ltb-false h.at g.at q) (ltb-true h.at f.at r))
      where
        wrong : f.at ≤ g.at → g.at ≤ h.at → h.at < f.at → ⊥
        wrong x y z = omega (arith, x, y, z)

earlier-assoc : (a b c : Option DocFault) → earlier_fault a (earlier_fault b c) ≡ earlier_fault (earlier_fault a b) c
earlier-assoc None b c = refl
earlier-assoc (Some f) None c = refl
earlier-assoc (Some f) (Some g) None = sym (none-right (earlier_fault (Some f) (Some g)))
earlier-assoc (Some f) (Some g) (Some h) = three-faults f g h

pub least-append : (fs gs : List DocFault) → least_of (fs ++ gs) ≡ earlier_fault (least_of fs) (least_of gs)
least-append [] gs = refl
least-append (f ∷ fs) gs = ap (earlier_fault (Some f)) (least-append fs gs) ∙ earlier-assoc (Some f) (least_of fs) (least_of gs)

-- no fault is least exactly where there is none
pub none-least : (fs : List DocFault) → least_of fs ≡ None → fs ≡ []
none-least [] e = refl
none-least (f ∷ fs) e = absurd (by (least_of fs) e)
  where
    by : (o : Option DocFault) → earlier_fault (Some f) o ≡ None → ⊥
    by None e = cc
    by (Some g) e = choose (nat_lt g.at f.at) e
      where
        choose : (b : Bool) → (if b then Some g else Some f) ≡ None → ⊥
        choose true e = cc
        choose false e = cc

-- the least of the faults of one element more
pub least-more : {X : Type 0} (f : X → List DocFault) (xs : List X) (k : ℕ) (d : X) → k < length xs
    → earlier_fault (least_of (flat_map f (take k xs))) (least_of (f (get_or xs k d))) ≡ least_of (flat_map f (take (k + 1) xs))
least-more f xs k d less =
    sym (least-append (flat_map f (take k xs)) (f (get_or xs k d)))
    ∙ ap least_of (ap (λ t. flat_map f (take k xs) ++ t) (sym (append-nil (f (get_or xs k d)))) ∙ sym (flat_map-append f (take k xs) (get_or xs k d ∷ [])) ∙ ap (flat_map f) (sym (take_more xs k d less)))

-- neither is a fault where the earlier one is none
pub both-none : (a b : Option DocFault) → earlier_fault a b ≡ None → (a ≡ None) × (b ≡ None)
both-none None b e = (refl, e)
both-none (Some f) None e = cc
both-none (Some f) (Some g) e = absurd (choose (nat_lt g.at f.at) e)
  where
    choose : (b : Bool) → (if b then Some g else Some f) ≡ None → ⊥
    choose true e = cc
    choose false e = cc
