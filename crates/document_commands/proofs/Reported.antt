-- A report, surface by surface.
use Rattle.std.proofs.Common.{arith, ◌≡◌, ◌+◌, ◌<◌, ◌≤◌, ℕ, suc, List, [], ◌∷◌, ◌++◌, length, drop, get_or, drop-cons, drop_of_length-le, Some, refl, sym, ap, ◌∙◌, subst, append_assoc}
use Rattle.std.specs.Prelude.{is_none, ◌&&◌, codes, if◌then◌else◌}
use Rattle.std.specs.Io.KnownBytes.{Appends}
use Rattle.std.proofs.KnownBytes.{Appends-nil, Appends-trans}
use Rattle.std.proofs.lemmas.List.{append-nil}
use Rattle.ground_io.specs.Causes.{Rose}
use Rattle.ground_io.specs.Streams.{AppendsSome}
use Rattle.ground_model.specs.declared.limits.Limits.{Limits}
use Rattle.ground_model.specs.declared.refusal.Refusal.{Refusal}
use Rattle.landxml_surface.specs.declared.draft.Draft.{Draft}
use Rattle.line_protocol.specs.Replies.{spaced}
use Rattle.document_commands.specs.declared.ending.Ending.{Ending}
use Rattle.document_commands.specs.declared.ending.Ending.TheVariants.{Done, BadDocument, ReadFault, WriteFault, Memory, TooLarge, BadSurface}
use Rattle.document_commands.specs.Lines.{line_text}
use Rattle.document_commands.specs.Loaded.{refused, facets_of}
use Rattle.document_commands.specs.Reaching.{refusal_of, Writes}
use Rattle.document_commands.specs.Report.{lines_by, last_by, lines_after, last_after, are_loaded, closing, sound_text, Reports}
use Rattle.document_commands.specs.Streams.{Stream, WritesLine}
use Rattle.document_commands.proofs.Putting.{line_after, some_done, some_after}

-- so many surfaces were loaded and reported, and these are left
pub record Going (limits : Limits) (drafts left : List Draft) (k : ℕ) (before now : Stream) : Type 0 where
  pub done : List ℕ
  pub appended : Appends before.bytes now.bytes done
  pub faults : now.faults ≡ before.faults
  pub lines : lines_after limits 0 drafts ≡ done ++ lines_after limits k left
  pub last : last_after limits 0 drafts ≡ last_after limits k left
  pub loaded : are_loaded limits drafts ≡ are_loaded limits left

pub begins : (limits : Limits) (drafts : List Draft) (s : Stream) → Going limits drafts drafts 0 s s
begins limits drafts s = record { done = []; appended = Appends-nil s.bytes; faults = refl; lines = refl; last = refl; loaded = refl }

module _ (limits : Limits) (k : ℕ) (d : Draft) (ds : List Draft) where
  lines_by_is : lines_after limits k (d ∷ ds) ≡ lines_by (refused limits d) (line_text (k + 1) d (facets_of limits d)) (lines_after limits (k + 1) ds)
  unfolding lines_after
  lines_by_is = refl

  last_by_is : last_after limits k (d ∷ ds) ≡ last_by (refused limits d) (k + 1) d (last_after limits (k + 1) ds)
  unfolding last_after
  last_by_is = refl

  module _ (drafts : List Draft) (before mid now : Stream) (going : Going limits drafts (d ∷ ds) k before mid) where
    -- one surface more
    pub goes : Writes limits (k + 1) d (line_text (k + 1) d (facets_of limits d)) mid now Done → Going limits drafts ds (k + 1) before now
    goes w =
        let text = line_text (k + 1) d (facets_of limits d) in
        record {
          done = going.done ++ text;
          appended = Appends-trans before.bytes mid.bytes now.bytes going.done text going.appended w.1;
          faults = w.2 ∙ going.faults;
          lines = going.lines ∙ ap (λ x. going.done ++ x) (lines_by_is ∙ ap (λ r. lines_by r text (lines_after limits (k + 1) ds)) w.0) ∙ sym (append_assoc going.done text (lines_after limits (k + 1) ds));
          last = going.last ∙ last_by_is ∙ ap (λ r. last_by r (k + 1) d (last_after limits (k + 1) ds)) w.0;
          loaded = going.loaded ∙ ap (λ r. is_none r && are_loaded limits ds) w.0;
        }

    none_more : (r : ℕ × Refusal) → refused limits d ≡ Some r → lines_after limits 0 drafts ≡ going.done
    none_more r e = going.lines ∙ ap (λ x. going.done ++ x) (lines_by_is ∙ ap (λ o. lines_by o (line_text (k + 1) d (facets_of limits d)) (lines_after limits (k + 1) ds)) e) ∙ append-nil going.done

    -- a surface ends the report
    pub stops : (end : Ending) → (end ≡ Done → ⊥) → Writes limits (k + 1) d (line_text (k + 1) d (facets_of limits d)) mid now end → Reports limits drafts before now end
    stops Done other w = absurd (other refl)
    stops BadDocument other w = absurd w
    stops ReadFault other w = absurd w
    stops TooLarge other w = absurd w
    stops BadSurface other w =
        let fault = going.last ∙ last_by_is ∙ ap (λ r. last_by r (k + 1) d (last_after limits (k + 1) ds)) w.1 in
        let P : List ℕ → Type 0 = WritesLine before now (lines_after limits 0 drafts) in (
          going.loaded ∙ ap (λ r. is_none r && are_loaded limits ds) w.1,
          subst P (sym fault) (line_after before mid now going.done (lines_after limits 0 drafts) (refusal_of (k + 1) d w.0) (none_more w.0 w.1) going.faults going.appended w.2),
        )
    stops Memory other w =
        let P : Stream → Type 0 = λ s. AppendsSome before.bytes s.bytes (sound_text limits drafts) in
        let whole = ap (λ x. x ++ closing limits drafts) going.lines ∙ append_assoc going.done (lines_after limits k (d ∷ ds)) (closing limits drafts) in (
          subst (λ b. AppendsSome before.bytes b (sound_text limits drafts)) (sym w.bytes) (some_done before.bytes mid.bytes going.done (lines_after limits k (d ∷ ds) ++ closing limits drafts) (sound_text limits drafts) whole going.appended),
          w.faults ∙ going.faults,
        )
    stops WriteFault other w =
        let text = line_text (k + 1) d (facets_of limits d) in
        let more = lines_after limits (k + 1) ds in
        let whole : sound_text limits drafts ≡ going.done ++ (text ++ (more ++ closing limits drafts)) =
        ap (λ x. x ++ closing limits drafts) (going.lines ∙ ap (λ x. going.done ++ x) (lines_by_is ∙ ap (λ r. lines_by r text more) w.0))
        ∙ append_assoc going.done (text ++ more) (closing limits drafts) ∙ ap (λ x. going.done ++ x) (append_assoc text more (closing limits drafts)) in
        let P : ℕ → Type 0 = λ f. Rose f now.faults in
        (some_after before.bytes mid.bytes now.bytes going.done text (more ++ closing limits drafts) (sound_text limits drafts) whole going.appended w.1, subst P going.faults w.2)

-- ---- the surface at an index

module _ (limits : Limits) (drafts : List Draft) (i : ℕ) (d : Draft) (less : i < length drafts) (is : d ≡ get_or drafts i d) (before mid now : Stream) (going : Going limits drafts (drop i drafts) i before mid) where
  left_here : drop i drafts ≡ d ∷ drop (i + 1) drafts
  left_here =
      let next : suc i ≡ i + 1 = omega arith in
      drop-cons drafts i d less ∙ (λ k. sym is k ∷ drop (next k) drafts)

  here : Going limits drafts (d ∷ drop (i + 1) drafts) i before mid
  here = subst (λ left. Going limits drafts left i before mid) left_here going

  pub goes_at : (number : ℕ) → number ≡ i + 1 → Writes limits number d (line_text number d (facets_of limits d)) mid now Done → Going limits drafts (drop (i + 1) drafts) (i + 1) before now
  goes_at number same w = goes limits i d (drop (i + 1) drafts) drafts before mid now here (subst (λ n. Writes limits n d (line_text n d (facets_of limits d)) mid now Done) same w)

  pub stops_at : (number : ℕ) → number ≡ i + 1 → (end : Ending) → (end ≡ Done → ⊥) → Writes limits number d (line_text number d (facets_of limits d)) mid now end → Reports limits drafts before now end
  stops_at number same end other w = stops limits i d (drop (i + 1) drafts) drafts before mid now here end other (subst (λ n. Writes limits n d (line_text n d (facets_of limits d)) mid now end) same w)

-- ---- the last line

module _ (limits : Limits) (drafts : List Draft) (i : ℕ) (all : length drafts ≤ i) (before mid now : Stream) (going : Going limits drafts (drop i drafts) i before mid) where
  none_left : drop i drafts ≡ []
  none_left = drop_of_length-le drafts all

  at_end : Going limits drafts [] i before mid
  at_end = subst (λ left. Going limits drafts left i before mid) none_left going

  lines_end : lines_after limits 0 drafts ≡ at_end.done
  unfolding lines_after
  lines_end = at_end.lines ∙ append-nil at_end.done

  last_end : last_after limits 0 drafts ≡ codes "surfaces" ++ spaced i ++ 10 ∷ []
  unfolding last_after
  last_end = at_end.last

  -- it was written
  pub ends_well : (count : ℕ) (line : List ℕ) → count ≡ i → line ≡ codes "surfaces" ++ spaced count ++ 10 ∷ [] → Appends mid.bytes now.bytes line → now.faults ≡ mid.faults → Reports limits drafts before now Done
  ends_well count line same is w kept =
      let P : List ℕ → Type 0 = Appends before.bytes now.bytes in
      let text : line ≡ last_after limits 0 drafts = is ∙ ap (λ n. codes "surfaces" ++ spaced n ++ 10 ∷ []) same ∙ sym last_end in
      (at_end.loaded, subst P ((λ k. sym lines_end k ++ text k)) (Appends-trans before.bytes mid.bytes now.bytes at_end.done line at_end.appended w), kept ∙ at_end.faults)

  -- or not
  pub ends_short : (count : ℕ) (line : List ℕ) → count ≡ i → line ≡ codes "surfaces" ++ spaced count ++ 10 ∷ [] → AppendsSome mid.bytes now.bytes line → Rose mid.faults now.faults → Reports limits drafts before now WriteFault
  ends_short count line same is w rose =
      let text : line ≡ last_after limits 0 drafts = is ∙ ap (λ n. codes "surfaces" ++ spaced n ++ 10 ∷ []) same ∙ sym last_end in
      let close : closing limits drafts ≡ line = ap (λ b. if b then last_after limits 0 drafts else []) at_end.loaded ∙ sym text in
      let P : ℕ → Type 0 = λ f. Rose f now.faults in
      (some_after before.bytes mid.bytes now.bytes at_end.done line [] (sound_text limits drafts) ((λ k. lines_end k ++ close k) ∙ ap (λ x. at_end.done ++ x) (sym (append-nil line))) at_end.appended w, subst P at_end.faults rose)
