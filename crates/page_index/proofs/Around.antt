-- What a call at a key finds and changes, where all pairs before a part are below the key and all after it above.
use Rattle.std.proofs.Common.{◌≡◌, ℕ, [], ◌∷◌, ◌++◌, nat_eq, nat_lt, nat_le, cond, Some, None, refl, sym, ap, ◌∙◌, append_assoc, append-nil, arith}
use Rattle.std.proofs.lemmas.List.Elements.{filter-append}
use Rattle.page_index.specs.Pairs.{Pairs, AreBelow, AreAbove, below, above, from_on, put, value_of, without}
use Rattle.page_index.proofs.Order.{eq_false, below_all, below_none, above_all, above_none, from_all, from_none, from_above}

pub value_after : {V : Type 0} → (key : ℕ) (xs ys : Pairs V) → AreBelow key xs → value_of key (xs ++ ys) ≡ value_of key ys
value_after key [] ys h = refl
value_after key (p ∷ xs) ys h = ap (λ b. cond b (Some p.1) (value_of key (xs ++ ys))) (eq_false p.0 key (λ e. absurd (omega (arith, e, h.0)))) ∙ value_after key xs ys h.1

pub value_none : {V : Type 0} → (key : ℕ) (xs : Pairs V) → AreAbove key xs → value_of key xs ≡ None
value_none key [] h = refl
value_none key (p ∷ xs) h = ap (λ b. cond b (Some p.1) (value_of key xs)) (eq_false p.0 key (λ e. absurd (omega (arith, e, h.0)))) ∙ value_none key xs h.1

pub value_before : {V : Type 0} → (key : ℕ) (xs ys : Pairs V) → AreAbove key ys → value_of key (xs ++ ys) ≡ value_of key xs
value_before key [] ys h = value_none key ys h
value_before key (p ∷ xs) ys h = ap (λ r. cond (nat_eq p.0 key) (Some p.1) r) (value_before key xs ys h)

module _ {V : Type 0} (key : ℕ) (front part back : Pairs V) (lo : AreBelow key front) (hi : AreAbove key back) where
  pub value_around : value_of key (front ++ (part ++ back)) ≡ value_of key part
  value_around = value_after key front (part ++ back) lo ∙ value_before key part back hi

  below_around : below key (front ++ (part ++ back)) ≡ front ++ below key part
  below_around =
      filter-append (λ p. nat_lt p.0 key) front (part ++ back)
      ∙ ap (λ r. r ++ below key (part ++ back)) (below_all key front lo)
      ∙ ap (λ r. front ++ r) (filter-append (λ p. nat_lt p.0 key) part back ∙ ap (λ r. below key part ++ r) (below_none key back hi) ∙ append-nil (below key part))

  above_around : above key (front ++ (part ++ back)) ≡ above key part ++ back
  above_around =
      filter-append (λ p. nat_lt key p.0) front (part ++ back)
      ∙ ap (λ r. r ++ above key (part ++ back)) (above_none key front lo)
      ∙ filter-append (λ p. nat_lt key p.0) part back ∙ ap (λ r. above key part ++ r) (above_all key back hi)

  pub from_around : from_on key (front ++ (part ++ back)) ≡ from_on key part ++ back
  from_around =
      filter-append (λ p. nat_le key p.0) front (part ++ back)
      ∙ ap (λ r. r ++ from_on key (part ++ back)) (from_none key front lo)
      ∙ filter-append (λ p. nat_le key p.0) part back ∙ ap (λ r. from_on key part ++ r) (from_all key back (from_above key back hi))

  pub put_around : (value : V) → put key value (front ++ (part ++ back)) ≡ front ++ (put key value part ++ back)
  put_around value =
      ap (λ r. r ++ (key, value) ∷ above key (front ++ (part ++ back))) below_around
      ∙ ap (λ r. (front ++ below key part) ++ (key, value) ∷ r) above_around
      ∙ append_assoc front (below key part) ((key, value) ∷ (above key part ++ back))
      ∙ ap (λ r. front ++ r) (sym (append_assoc (below key part) ((key, value) ∷ above key part) back))

  pub without_around : without key (front ++ (part ++ back)) ≡ front ++ (without key part ++ back)
  without_around =
      ap (λ r. r ++ above key (front ++ (part ++ back))) below_around
      ∙ ap (λ r. (front ++ below key part) ++ r) above_around
      ∙ append_assoc front (below key part) (above key part ++ back)
      ∙ ap (λ r. front ++ r) (sym (append_assoc (below key part) (above key part) back))
