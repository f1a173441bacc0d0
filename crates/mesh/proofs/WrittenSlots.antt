-- Two, three and four slots are written.
use Rattle.std.proofs.Common.{◌≡◌, ℕ, Some, List, length, set, sym, ◌∙◌, subst}
use Rattle.std.proofs.lemmas.List.{length-set}
use Rattle.tri_pages.specs.declared.tri_slot.TriSlot.{TriSlot}
use Rattle.tri_pages.specs.Slots.{State, state_at, blank, IsTaken, holding}
use Rattle.mesh.specs.Net.{outside, slots_of}
use Rattle.mesh.proofs.Slots.{set_here, set_there, taken_set, blank_set}

pub record WroteTwo (pages new : List State) (s n : ℕ) (one two : TriSlot) : Type 0 where
  pub in_s : slots_of new s ≡ Some one
  pub in_n : slots_of new n ≡ Some two
  pub rest : (i : ℕ) → (i ≡ s → ⊥) → (i ≡ n → ⊥) → slots_of new i ≡ slots_of pages i
  pub blanks : (i : ℕ) → state_at new i ≡ blank → (i ≡ s → ⊥) × (i ≡ n → ⊥) × (state_at pages i ≡ blank)
  pub len : length new ≡ length pages
  pub taken : (i : ℕ) → IsTaken pages i → IsTaken new i

pub record WroteThree (pages new : List State) (s f g : ℕ) (one two three : TriSlot) : Type 0 where
  pub in_s : slots_of new s ≡ Some one
  pub in_f : slots_of new f ≡ Some two
  pub in_g : slots_of new g ≡ Some three
  pub rest : (i : ℕ) → (i ≡ s → ⊥) → (i ≡ f → ⊥) → (i ≡ g → ⊥) → slots_of new i ≡ slots_of pages i
  pub blanks : (i : ℕ) → state_at new i ≡ blank → (i ≡ s → ⊥) × (i ≡ f → ⊥) × (i ≡ g → ⊥) × (state_at pages i ≡ blank)
  pub len : length new ≡ length pages

pub record WroteFour (pages new : List State) (s n f g : ℕ) (one two three four : TriSlot) : Type 0 where
  pub in_s : slots_of new s ≡ Some one
  pub in_n : slots_of new n ≡ Some two
  pub in_f : slots_of new f ≡ Some three
  pub in_g : slots_of new g ≡ Some four
  pub rest : (i : ℕ) → (i ≡ s → ⊥) → (i ≡ n → ⊥) → (i ≡ f → ⊥) → (i ≡ g → ⊥) → slots_of new i ≡ slots_of pages i
  pub blanks : (i : ℕ) → state_at new i ≡ blank → (i ≡ s → ⊥) × (i ≡ n → ⊥) × (i ≡ f → ⊥) × (i ≡ g → ⊥) × (state_at pages i ≡ blank)
  pub len : length new ≡ length pages

two : (pages : List State) (s n : ℕ) (x y : TriSlot) → (s ≡ outside → ⊥) → (n ≡ outside → ⊥) → (s ≡ n → ⊥) → IsTaken pages s → IsTaken pages n
    → WroteTwo pages (set (set pages s (holding x)) n (holding y)) s n x y
two pages s n x y s_live n_live apart s_in n_in =
    let once = set pages s (holding x) in
    let n_taken = taken_set pages s x n s_in n_in in
    record {
      in_s = set_there once n (holding y) s apart ∙ set_here pages s x s_live s_in;
      in_n = set_here once n y n_live n_taken;
      rest = λ i a b. set_there once n (holding y) i b ∙ set_there pages s (holding x) i a;
      blanks = λ i e.
          let b = blank_set once n y i n_taken e in
          let c = blank_set pages s x i s_in b.was in
          (c.other, b.other, c.was);
      len = length-set once n (holding y) ∙ length-set pages s (holding x);
      taken = λ i h. taken_set once n y i n_taken (taken_set pages s x i s_in h);
    }

three : (pages : List State) (s f g : ℕ) (x y z : TriSlot) → (s ≡ outside → ⊥) → (f ≡ outside → ⊥) → (g ≡ outside → ⊥) → (s ≡ f → ⊥) → (s ≡ g → ⊥) → (f ≡ g → ⊥)
    → IsTaken pages s → IsTaken pages f → IsTaken pages g
    → WroteThree pages (set (set (set pages s (holding x)) f (holding y)) g (holding z)) s f g x y z
three pages s f g x y z s_live f_live g_live sf sg fg s_in f_in g_in =
    let w = two pages s f x y s_live f_live sf s_in f_in in
    let twice = set (set pages s (holding x)) f (holding y) in
    let g_taken = taken_set (set pages s (holding x)) f y g (taken_set pages s x f s_in f_in) (taken_set pages s x g s_in g_in) in
    record {
      in_s = set_there twice g (holding z) s sg ∙ w.in_s;
      in_f = set_there twice g (holding z) f fg ∙ w.in_n;
      in_g = set_here twice g z g_live g_taken;
      rest = λ i a b c. set_there twice g (holding z) i c ∙ w.rest i a b;
      blanks = λ i e.
          let b = blank_set twice g z i g_taken e in
          let c = w.blanks i b.was in
          (c.0, c.1, b.other, c.2);
      len = length-set twice g (holding z) ∙ w.len;
    }

four : (pages : List State) (s n f g : ℕ) (x y z v : TriSlot) → (s ≡ outside → ⊥) → (n ≡ outside → ⊥) → (f ≡ outside → ⊥) → (g ≡ outside → ⊥)
    → (s ≡ n → ⊥) → (s ≡ f → ⊥) → (s ≡ g → ⊥) → (n ≡ f → ⊥) → (n ≡ g → ⊥) → (f ≡ g → ⊥) → IsTaken pages s → IsTaken pages n → IsTaken pages f → IsTaken pages g
    → WroteFour pages (set (set (set (set pages s (holding x)) n (holding y)) f (holding z)) g (holding v)) s n f g x y z v
four pages s n f g x y z v s_live n_live f_live g_live sn sf sg nf ng fg s_in n_in f_in g_in =
    let w = three pages s n f x y z s_live n_live f_live sn sf nf s_in n_in f_in in
    let thrice = set (set (set pages s (holding x)) n (holding y)) f (holding z) in
    let twice = set (set pages s (holding x)) n (holding y) in
    let once = set pages s (holding x) in
    let f_taken = taken_set once n y f (taken_set pages s x n s_in n_in) (taken_set pages s x f s_in f_in) in
    let g_taken = taken_set twice f z g f_taken (taken_set once n y g (taken_set pages s x n s_in n_in) (taken_set pages s x g s_in g_in)) in
    record {
      in_s = set_there thrice g (holding v) s sg ∙ w.in_s;
      in_n = set_there thrice g (holding v) n ng ∙ w.in_f;
      in_f = set_there thrice g (holding v) f fg ∙ w.in_g;
      in_g = set_here thrice g v g_live g_taken;
      rest = λ i a b c d. set_there thrice g (holding v) i d ∙ w.rest i a b c;
      blanks = λ i e.
          let b = blank_set thrice g v i g_taken e in
          let c = w.blanks i b.was in
          (c.0, c.1, c.2, b.other, c.3);
      len = length-set thrice g (holding v) ∙ w.len;
    }

-- of the values that were written it is known what they are
pub wrote_two : (pages new : List State) (s n : ℕ) (x y x' y' : TriSlot) → new ≡ set (set pages s (holding x)) n (holding y) → x ≡ x' → y ≡ y'
    → (s ≡ outside → ⊥) → (n ≡ outside → ⊥) → (s ≡ n → ⊥) → IsTaken pages s → IsTaken pages n → WroteTwo pages new s n x' y'
wrote_two pages new s n x y x' y' e f g s_live n_live apart s_in n_in =
    subst (λ ps. WroteTwo pages ps s n x' y') (sym (e ∙ (λ i. set (set pages s (holding (f i))) n (holding (g i))))) (two pages s n x' y' s_live n_live apart s_in n_in)

pub wrote_three : (pages new : List State) (s f g : ℕ) (x y z x' y' z' : TriSlot) → new ≡ set (set (set pages s (holding x)) f (holding y)) g (holding z) → x ≡ x' → y ≡ y' → z ≡ z'
    → (s ≡ outside → ⊥) → (f ≡ outside → ⊥) → (g ≡ outside → ⊥) → (s ≡ f → ⊥) → (s ≡ g → ⊥) → (f ≡ g → ⊥)
    → IsTaken pages s → IsTaken pages f → IsTaken pages g → WroteThree pages new s f g x' y' z'
wrote_three pages new s f g x y z x' y' z' e p q r s_live f_live g_live sf sg fg s_in f_in g_in =
    subst (λ ps. WroteThree pages ps s f g x' y' z') (sym (e ∙ (λ i. set (set (set pages s (holding (p i))) f (holding (q i))) g (holding (r i)))))
    (three pages s f g x' y' z' s_live f_live g_live sf sg fg s_in f_in g_in)

pub wrote_four : (pages new : List State) (s n f g : ℕ) (x y z v x' y' z' v' : TriSlot) → new ≡ set (set (set (set pages s (holding x)) n (holding y)) f (holding z)) g (holding v) → x ≡ x' → y ≡ y' → z ≡ z' → v ≡ v'
    → (s ≡ outside → ⊥) → (n ≡ outside → ⊥) → (f ≡ outside → ⊥) → (g ≡ outside → ⊥)
    → (s ≡ n → ⊥) → (s ≡ f → ⊥) → (s ≡ g → ⊥) → (n ≡ f → ⊥) → (n ≡ g → ⊥) → (f ≡ g → ⊥) → IsTaken pages s → IsTaken pages n → IsTaken pages f → IsTaken pages g → WroteFour pages new s n f g x' y' z' v'
wrote_four pages new s n f g x y z v x' y' z' v' e p q r u s_live n_live f_live g_live sn sf sg nf ng fg s_in n_in f_in g_in =
    subst (λ ps. WroteFour pages ps s n f g x' y' z' v') (sym (e ∙ (λ i. set (set (set (set pages s (holding (p i))) n (holding (q i))) f (holding (r i))) g (holding (u i)))))
    (four pages s n f g x' y' z' v' s_live n_live f_live g_live sn sf sg nf ng fg s_in n_in f_in g_in)
