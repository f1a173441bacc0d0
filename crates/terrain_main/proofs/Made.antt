-- What a load leaves, and which entries sessions make past it.
use Rattle.std.proofs.Common.{◌≡◌, ℕ, zero, suc, ◌+◌, ◌-◌, ◌<◌, Bool, true, List, [], ◌∷◌, ◌++◌, length, length-append, Option, None, Some, refl, sym, ap, subst, ◌∙◌, arith}
use Rattle.std.specs.Prelude.{not, nat_eq, if◌then◌else◌, codes}
use Rattle.std.specs.List.{All, filter, position}
use Rattle.std.proofs.Math.Dec.{eqb-suc-zero}
use Rattle.std.specs.declared.result.Result.{Result}
use Rattle.std.specs.declared.result.Result.TheVariants.{Ok, Err}
use Rattle.std.proofs.lemmas.List.Elements.{All-nil, All-cons, All-tail, All-append, filter-append}
use Rattle.ground_io.specs.Wires.{WireView}
use Rattle.ground_model.specs.declared.edit.Edit.{Edit}
use Rattle.ground_model.specs.declared.entry.Entry.{Entry}
use Rattle.ground_model.specs.declared.limits.Limits.{Limits}
use Rattle.ground_model.specs.Answer.{next_entry}
use Rattle.line_protocol.specs.Replies.{spaced}
use Rattle.landxml_surface.specs.declared.origin.OriginRule.{OriginRule}
use Rattle.turn_lock.specs.declared.journal.Journal.{Journal}
use Rattle.store.specs.Versions.{StoreView, with_next}
use Rattle.document_law.specs.Reloaded.{edits_of}
use Rattle.document_source.specs.declared.drafted.Drafted.{Drafted}
use Rattle.document_source.specs.declared.fault.SourceFault.{SourceFault}
use Rattle.draft_load.specs.Loads.{ground_of, with_edits}
use Rattle.document_commands.specs.Rewriting.{is_asked, OpensAt, OpensFor, Opens}
use Rattle.document_commands.specs.Streams.{Sides}
use Rattle.serve.proofs.Authors.{made-by-workers}
use Rattle.serve.specs.Surfaces.{ServesSurface}
use Rattle.serve.specs.declared.worker.Worker.{Worker}
use Rattle.terrain_main.specs.Serving.{made_by_sessions, served_line}

-- ---- a load

-- edits of author 0 after entries of author 0
by_load : (j : Journal) (edits : List Edit) → All (λ (e : Entry). e.author ≡ 0) j.entries → All (λ (e : Entry). e.author ≡ 0) (with_edits j edits).entries
by_load j [] all = all
by_load j (edit ∷ edits) all =
    let next : Entry = next_entry 0 j.entries edit in
    by_load (with_next 0 j edit) edits (All-append (λ (e : Entry). e.author ≡ 0) j.entries (next ∷ []) all (All-cons (λ (e : Entry). e.author ≡ 0) next [] refl (All-nil (λ (e : Entry). e.author ≡ 0))))

-- all entries of a surface that was opened are by author 0
pub opened_by_load : (name : Option (List ℕ)) (rule : OriginRule) (limits : Limits) (before after : Sides) (store : StoreView) → Opens name rule limits before after (Ok store) → All (λ (e : Entry). e.author ≡ 0) store.journal.entries
opened_by_load name rule limits before after store o = by o.came o.opens
  where
    at : (drafted : Drafted) (k : Option ℕ) → OpensAt limits drafted before.sink after.sink (Ok store) k → All (λ (e : Entry). e.author ≡ 0) store.journal.entries
    at drafted None h = absurd h
    at drafted (Some k) h = subst (λ (j : Journal). All (λ (e : Entry). e.author ≡ 0) j.entries) (sym h.2.1) (by_load (ground_of h.0 limits) (edits_of h.0) (All-nil (λ (e : Entry). e.author ≡ 0)))

    by : (came : Result Drafted SourceFault) → OpensFor name limits before.sink after.sink (Ok store) came → All (λ (e : Entry). e.author ≡ 0) store.journal.entries
    by (Ok drafted) h = at drafted (position (is_asked name) drafted.drafts) h
    by (Err fault) h = absurd h

-- ---- the entries of sessions

-- whether a session made the entry
abbrev is_made : Entry → Bool
is_made e = not (nat_eq e.author 0)

counted : (n : ℕ) → 0 < n → not (nat_eq n 0) ≡ true
counted zero low = absurd (omega arith)
counted (suc n) low = ap not (eqb-suc-zero n)

kept : (es : List Entry) → All (λ (e : Entry). 0 < e.author) es → made_by_sessions es ≡ es
kept [] all = refl
kept (e ∷ es) all =
    ap (λ (b : Bool). if b then e ∷ made_by_sessions es else made_by_sessions es) (counted e.author (all 0 e (omega arith)))
    ∙ ap (λ (xs : List Entry). e ∷ xs) (kept es (All-tail (λ (x : Entry). 0 < x.author) e es all))

dropped : (es : List Entry) → All (λ (e : Entry). e.author ≡ 0) es → made_by_sessions es ≡ []
dropped [] all = refl
dropped (e ∷ es) all =
    ap (λ (n : ℕ). if not (nat_eq n 0) then e ∷ made_by_sessions es else made_by_sessions es) (all 0 e (omega arith))
    ∙ dropped es (All-tail (λ (x : Entry). x.author ≡ 0) e es all)

module _ {D : Type 0} (coming back : D → Option (List WireView)) (out sessions faults : D → ℕ) (budget : ℕ) (opening closing : Journal) (old new : List (Worker D)) (serves : ServesSurface coming back out sessions faults budget opening closing old new) where
  -- sessions made the entries past those of the load
  pub made_past : All (λ (e : Entry). e.author ≡ 0) opening.entries → length (made_by_sessions closing.entries) ≡ length closing.entries - length opening.entries
  made_past load =
      let past = serves.closes.entries.past in
      let began : closing.entries ≡ opening.entries ++ past = ap (λ (j : Journal). j.entries) serves.closes.entries.began ∙ ap (λ (j : Journal). j.entries ++ past) serves.opened in
      let made : made_by_sessions closing.entries ≡ past =
      ap made_by_sessions began ∙ filter-append is_made opening.entries past ∙ ap (λ (xs : List Entry). xs ++ made_by_sessions past) (dropped opening.entries load)
      ∙ kept past (λ i d low. (made-by-workers coming back out sessions faults budget opening closing old new serves i d low).0) in
      let count : length closing.entries ≡ length opening.entries + length past = ap length began ∙ length-append opening.entries past in
      let same = ap length made in
      omega (arith, count, same)

-- the last line by these numbers
pub line_of : (made front : ℕ) (es : List Entry) → made ≡ length (made_by_sessions es) → front ≡ length es → codes "served" ++ spaced made ++ codes " front" ++ spaced front ++ 10 ∷ [] ≡ served_line es
line_of made front es m f = λ i. codes "served" ++ spaced (m i) ++ codes " front" ++ spaced (f i) ++ 10 ∷ []
