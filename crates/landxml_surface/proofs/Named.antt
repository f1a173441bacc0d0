-- One id after others.
use Rattle.std.proofs.Common.{◌≡◌, ℕ, Bool, true, false, cond, not, List, [], ◌∷◌, ◌++◌, Option, None, Some, refl, sym, ap, ◌∙◌, append_assoc, append-nil}
use Rattle.std.specs.Prelude.{bytes_eq, is_some, option_map, ◌||◌}
use Rattle.std.specs.List.{find}
use Rattle.std.specs.Map.{lookup}
use Rattle.std.specs.Option.{option_or}
use Rattle.std.proofs.lemmas.List.Folds.{find-append}
use Rattle.std.proofs.lemmas.Slice.Eq.{bytes_eq-Decides}
use Rattle.landxml_read.specs.declared.fault.DocCause.TheVariants.{Id}
use Rattle.landxml_read.specs.declared.raw.RawId.{RawId}
use Rattle.landxml_surface.specs.Faults.{id_faults, when}
use Rattle.landxml_surface.specs.Ids.{triple_of, is_id, AreIds}

-- the first that passes, of one element more
pub lookup-more : {K X : Type 0} (test : K → Bool) (es : List (K × X)) (k : K) (v : X) → lookup test (es ++ (k, v) ∷ []) ≡ option_or (lookup test es) (cond (test k) (Some v) None)
lookup-more test [] k v = refl
lookup-more test (e ∷ es) k v = by (test e.0) (lookup-more test es k v)
  where
    by : (b : Bool) → lookup test (es ++ (k, v) ∷ []) ≡ option_or (lookup test es) (cond (test k) (Some v) None) → cond b (Some e.1) (lookup test (es ++ (k, v) ∷ [])) ≡ option_or (cond b (Some e.1) (lookup test es)) (cond (test k) (Some v) None)
    by true h = refl
    by false h = h

triple-more : (ids : List RawId) (i : RawId) (name : List ℕ) → triple_of (ids ++ i ∷ []) name ≡ option_or (triple_of ids name) (cond (bytes_eq name i.id) (Some i.triple) None)
triple-more ids i name = ap (option_map (λ (u : RawId). u.triple)) (find-append (λ (u : RawId). bytes_eq name u.id) ids (i ∷ [])) ∙ by (find (λ (u : RawId). bytes_eq name u.id) ids) (bytes_eq name i.id)
  where
    by : (o : Option RawId) (b : Bool) → option_map (λ (u : RawId). u.triple) (option_or o (cond b (Some i) None)) ≡ option_or (option_map (λ (u : RawId). u.triple) o) (cond b (Some i.triple) None)
    by None true = refl
    by None false = refl
    by (Some u) b = refl

-- an id is there exactly where it has a triple
pub is_id-some : (ids : List RawId) (name : List ℕ) → is_id ids name ≡ is_some (triple_of ids name)
is_id-some [] name = refl
is_id-some (i ∷ ids) name = by (bytes_eq name i.id) (is_id-some ids name)
  where
    by : (b : Bool) → is_id ids name ≡ is_some (triple_of ids name) → (b || is_id ids name) ≡ is_some (option_map (λ (u : RawId). u.triple) (cond b (Some i) (find (λ (u : RawId). bytes_eq name u.id) ids)))
    by true h = refl
    by false h = h

module _ (ids : List RawId) (i : RawId) (look : List ℕ → Option ℕ) (are : AreIds ids look) where
  -- an id that an earlier one is
  pub again : (k : ℕ) → look i.id ≡ Some k → (false ≡ not (is_id ids i.id)) × AreIds (ids ++ i ∷ []) look
  again k some = (sym (ap not (is_id-some ids i.id ∙ ap is_some (sym (are i.id) ∙ some))), λ name. are name ∙ sym (triple-more ids i name ∙ kept name (triple_of ids name) refl (bytes_eq name i.id) refl))
    where
      kept : (name : List ℕ) (o : Option ℕ) → triple_of ids name ≡ o → (b : Bool) → bytes_eq name i.id ≡ b → option_or o (cond b (Some i.triple) None) ≡ o
      kept name (Some n) e b f = refl
      kept name None e false f = refl
      kept name None e true f = absurd (clash (sym e ∙ ap (triple_of ids) ((bytes_eq-Decides name i.id).0 f) ∙ sym (are i.id) ∙ some))
        where
          clash : None ≡ Some k → ⊥
          clash g = cc

  -- a new id
  pub fresh : (more : List ℕ → Option ℕ) → look i.id ≡ None → ((name : List ℕ) → more name ≡ option_or (look name) (cond (bytes_eq name i.id) (Some i.triple) None)) → (true ≡ not (is_id ids i.id)) × AreIds (ids ++ i ∷ []) more
  fresh more none is = (sym (ap not (is_id-some ids i.id ∙ ap is_some (sym (are i.id) ∙ none))), λ name. is name ∙ ap (λ o. option_or o (cond (bytes_eq name i.id) (Some i.triple) None)) (are name) ∙ sym (triple-more ids i name))

-- the faults of one id more
pub id_faults-more : (earlier ids : List RawId) (i : RawId) → id_faults earlier (ids ++ i ∷ []) ≡ id_faults earlier ids ++ when (is_id (earlier ++ ids) i.id) i.at Id
id_faults-more earlier [] i =
    append-nil (when (is_id earlier i.id) i.at Id) ∙ ap (λ e. when (is_id e i.id) i.at Id) (sym (append-nil earlier))
id_faults-more earlier (j ∷ ids) i =
    ap (λ fs. when (is_id earlier j.id) j.at Id ++ fs) (id_faults-more (earlier ++ j ∷ []) ids i ∙ ap (λ e. id_faults (earlier ++ j ∷ []) ids ++ when (is_id e i.id) i.at Id) (append_assoc earlier (j ∷ []) ids))
    ∙ sym (append_assoc (when (is_id earlier j.id) j.at Id) (id_faults (earlier ++ j ∷ []) ids) (when (is_id (earlier ++ j ∷ ids) i.id) i.at Id))
