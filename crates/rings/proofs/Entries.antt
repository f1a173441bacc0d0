-- What an iterator over the entries of a table gives: the lines, by their numbers.
use Rattle.std.proofs.Common.{◌≡◌, ℕ, ap, subst, ◌∙◌, List, [], ◌∷◌, length}
use Rattle.std.specs.Prelude.{map, reverse}
use Rattle.std.specs.Iterator.{YieldsFirstBy, YieldsLastBy}
use Rattle.std.specs.Iterator.Adapters.{rev_source, rev_steps}
use Rattle.std.specs.declared.iter.Rev.{Rev}
use Rattle.std.proofs.lemmas.Iterator.{YieldsList}
use Rattle.std.proofs.lemmas.Iterator.Consumers.{YieldsList-from_shown}
use Rattle.std.proofs.lemmas.List.{map-append, reverse-append}
use Rattle.ground_model.specs.Line.{Line}

module _ {A : Type 0} (view : A → ℕ × Line) where
  pub lines-first : {s : List (ℕ × Line)} (es : List (ℕ × Line)) → s ≡ es → YieldsList (YieldsFirstBy view (λ rest. rest)) (λ x. (view x).1) s (map (λ e. e.1) es)
  lines-first {s} es e = subst (λ l. YieldsList (YieldsFirstBy view (λ rest. rest)) (λ x. (view x).1) s (map (λ e. e.1) l)) e
      (YieldsList-from_shown (YieldsFirstBy view (λ rest. rest)) (λ x. (view x).1) (map (λ e. e.1)) (λ _ _ h. ap (λ l. length (map (λ e. e.1) l)) h.0) (λ _ _ _ h. ap (map (λ e. e.1)) h) s)

  pub lines-last : {s : Rev (List (ℕ × Line))} (es : List (ℕ × Line)) → rev_source s ≡ es → YieldsList (rev_steps (YieldsLastBy view (λ rest. rest))) (λ x. (view x).1) s (reverse (map (λ e. e.1) es))
  lines-last {s} es e = subst (λ l. YieldsList (rev_steps (YieldsLastBy view (λ rest. rest))) (λ x. (view x).1) s (reverse (map (λ e. e.1) l))) e
      (YieldsList-from_shown (rev_steps (YieldsLastBy view (λ rest. rest))) (λ x. (view x).1) (λ t. reverse (map (λ e. e.1) (rev_source t))) (λ _ _ h. ap (λ l. length (reverse (map (λ e. e.1) l))) h.0)
      (λ _ x t h. ap (λ l. reverse (map (λ e. e.1) l)) h ∙ ap reverse (map-append (λ e. e.1) (rev_source t) (view x ∷ [])) ∙ reverse-append (map (λ e. e.1) (rev_source t)) ((view x).1 ∷ [])) s)
