-- The faults of encoding and markup, from where they stand.
use Rattle.std.proofs.Common.{◌≡◌, ℕ, zero, suc, ◌+◌, ◌-◌, ◌<◌, ◌≤◌, Bool, true, false, ◌==◌, ◌&&◌, nat_lt, cond, List, [], ◌∷◌, ◌++◌, length, take, drop, get_or, codes, Option, None, Some, refl, sym, ◌∙◌, ap, subst, arith, append_assoc, length-append, inl, inr, eqb-true}
use Rattle.std.proofs.lemmas.Bool.Decides.{nat_tests}
use Rattle.std.proofs.lemmas.List.{take-append-le, append-nil, take-append-drop, take_more}
use Rattle.std.proofs.Math.Seq.{take-length, drop-append_seam}
use Rattle.std.specs.Str.{IsUtf8}
use Rattle.ground_num.specs.FirstFault.{Begins, IsFirstFault}
use Rattle.landxml_read.specs.declared.fault.DocCause.{DocCause}
use Rattle.landxml_read.specs.declared.fault.DocCause.TheVariants.{Utf8, Doctype, Syntax, Cut, Root, Depth, Tag, Long, Entity, Attr, Unit as BadUnit, SurfType, BrkType, BndType, Number, Big, Count, Range, NoHeight, Id, Face}
use Rattle.landxml_read.specs.declared.standing.Standing.{Standing}
use Rattle.landxml_read.specs.declared.utf8.Utf8.{Utf8 as State}
use Rattle.landxml_read.specs.declared.utf8.Utf8.TheVariants.{Ready}
use Rattle.landxml_read.specs.Markup.{IsDocumentText}
use Rattle.landxml_read.specs.Faults.{Fault, fault}
use Rattle.landxml_read.specs.Answer.{IsLastUtf8, ShowsOutline, IsBefore, rank, IsOutlineFault}
use Rattle.landxml_read.specs.declared.fault.DocFault.{DocFault}
use Rattle.landxml_read.specs.Outline.{StandsAt, IsStrayFault, IsShownAt, HasRead}
use Rattle.landxml_read.specs.Scan.{run, start, next, is_bang, is_final}
use Rattle.landxml_read.specs.Utf8.{utf8_run, utf8_next, is_ready}
use Rattle.landxml_read.proofs.Bytes.{both}
use Rattle.landxml_read.proofs.FirstFaults.{fault_at, no_fault, begins_take}
use Rattle.landxml_read.proofs.Scanning.{begun, not_begun, whole, not_whole, run_more}
use Rattle.landxml_read.proofs.Sequences.{sound}
use Rattle.landxml_read.proofs.Encoded.{ready, utf8_begun, not_utf8, not_ready, sequence_on, sequence_fails, utf8_run_more}
use Rattle.landxml_read.proofs.Depths.{after_bang, only_bang}

before : (f g : Fault) → f.show ≤ g.show → rank f.cause ≤ rank g.cause → IsBefore f g
before f g less ranks = by (nat_lt f.show g.show) refl
  where
    by : (t : Bool) → nat_lt f.show g.show ≡ t → IsBefore f g
    by true e = inl (grind (arith, nat_tests))
    by false e = inr (grind (arith, nat_tests), ranks)

sooner : (f g : Fault) → f.show < g.show → IsBefore f g
sooner f g less = inl less

-- a first fault is not in a front that begins a text
later : (P : List ℕ → Type 0) (seen rest : List ℕ) (k : ℕ) → Begins P seen → IsFirstFault P (seen ++ rest) k → length seen ≤ k
later P seen rest k begins f = by (nat_lt k (length seen)) refl
  where
    by : (t : Bool) → nat_lt k (length seen) ≡ t → length seen ≤ k
    by false e = grind (arith, nat_tests)
    by true e =
        let less : k < length seen = grind (arith, nat_tests) in
        let Q : List ℕ → Type 0 = Begins P in
        absurd (f.not_allowed (omega (arith, length-append seen rest)) (subst Q (sym (take-append-le (k + 1) seen rest (omega arith))) (begins_take P seen (k + 1) begins)))

-- the four causes of encoding and markup
pub outline_cases : (bytes : List ℕ) (f : Fault) (P : DocCause → Type 0) → ShowsOutline bytes f → (ShowsOutline bytes (record f { cause = Utf8 }) → P Utf8) → (ShowsOutline bytes (record f { cause = Doctype }) → P Doctype)
    → (ShowsOutline bytes (record f { cause = Syntax }) → P Syntax) → (ShowsOutline bytes (record f { cause = Cut }) → P Cut) → P f.cause
outline_cases bytes f P h utf8 doctype syntax cut = by f.cause h
  where
    by : (c : DocCause) → ShowsOutline bytes (record f { cause = c }) → P c
    by Utf8 h = utf8 h
    by Doctype h = doctype h
    by Syntax h = syntax h
    by Cut h = cut h
    by Root h = absurd h
    by Depth h = absurd h
    by Tag h = absurd h
    by Long h = absurd h
    by Entity h = absurd h
    by Attr h = absurd h
    by BadUnit h = absurd h
    by SurfType h = absurd h
    by BrkType h = absurd h
    by BndType h = absurd h
    by Number h = absurd h
    by Big h = absurd h
    by Count h = absurd h
    by Range h = absurd h
    by NoHeight h = absurd h
    by Id h = absurd h
    by Face h = absurd h

-- what the bytes show is shown no sooner than where both stand
pub shown_later : (seen rest : List ℕ) (g : Fault) → Begins IsUtf8 seen → Begins IsDocumentText seen → ShowsOutline (seen ++ rest) g → length seen ≤ g.show
shown_later seen rest g u d s =
    outline_cases (seen ++ rest) g (λ _. length seen ≤ g.show) s (λ h. later IsUtf8 seen rest g.show u h.0) (λ h. later IsDocumentText seen rest g.show d h.0.0) (λ h. later IsDocumentText seen rest g.show d h.0.0)
    (λ h. later IsDocumentText seen rest g.show d h.0.0)

-- UTF-8 doesn't go on with the byte
pub utf8_shown : (seen : List ℕ) (s : Standing) (b : ℕ) (more : List ℕ) → StandsAt seen s → utf8_next s.utf8 b ≡ None → IsOutlineFault (seen ++ b ∷ more) (fault (length seen) Utf8 s.sequence)
utf8_shown seen s b more at none =
    let u = utf8_begun seen s.utf8 at.utf8 in
    record {
      shown = (
        fault_at IsUtf8 seen b more u (λ rest v. not_utf8 seen s.utf8 b rest at.utf8 none v),
        sequence_fails seen s.utf8 b s.sequence more at.utf8 none at.sequence at.within,
        omega (arith, at.within, length-append seen (b ∷ more)),
      );
      first = λ g h. before (fault (length seen) Utf8 (s.sequence)) g (shown_later seen (b ∷ more) g u (begun seen s.scan at.scan) h) (omega arith);
    }

-- of what a byte shows that UTF-8 goes on with, nothing is of UTF-8
not_of_utf8 : (seen : List ℕ) (s : Standing) (b : ℕ) (more : List ℕ) (t : State) → StandsAt seen s → utf8_next s.utf8 b ≡ Some t → (g : Fault) → IsFirstFault IsUtf8 (seen ++ b ∷ more) g.show → length seen < g.show
not_of_utf8 seen s b more t at e g f =
    let all = utf8_run_more (Some Ready) seen (b ∷ []) ∙ ap (λ o. utf8_run o (b ∷ [])) at.utf8 ∙ e in
    let Q : List ℕ → Type 0 = λ w. IsFirstFault IsUtf8 w g.show in
    let past = later IsUtf8 (seen ++ b ∷ []) more g.show (utf8_begun (seen ++ b ∷ []) t all) (subst Q (sym (append_assoc seen (b ∷ []) more)) f) in
    omega (arith, past, length-append seen (b ∷ []))

-- the three bytes before and at an offset
record Three (seen : List ℕ) (b p : ℕ) : Type 0 where
  ends : seen ≡ take p seen ++ 60 ∷ 33 ∷ []
  byte : b ≡ 68

three : (seen : List ℕ) (b p : ℕ) (more : List ℕ) → p + 2 ≡ length seen → take 3 (drop p (seen ++ b ∷ more)) ≡ codes "<!D" → Three seen b p
three (x ∷ []) b p more e f = absurd (omega arith)
three [] b p more e f = absurd (omega arith)
three (x ∷ y ∷ []) b zero more e f = record { ends = let a : x ≡ 60 = cc in let c : y ≡ 33 = cc in ap (λ z. z ∷ y ∷ []) a ∙ ap (λ z. 60 ∷ z ∷ []) c; byte = cc }
three (x ∷ y ∷ z ∷ seen) b zero more e f = absurd (omega arith)
three (x ∷ y ∷ seen) b (suc p) more e f = let r = three (y ∷ seen) b p more (omega arith) f in record { ends = ap (λ w. x ∷ w) r.ends; byte = r.byte }

-- the scan doesn't take the byte, and it is no D after <!
pub syntax_shown : (seen : List ℕ) (s : Standing) (b : ℕ) (more : List ℕ) (t : State) → StandsAt seen s → utf8_next s.utf8 b ≡ Some t → next s.scan b ≡ None → (b == 68 && is_bang s.scan.part) ≡ false
    → IsOutlineFault (seen ++ b ∷ more) (fault (length seen) Syntax s.offset)
syntax_shown seen s b more t at u none other = record {
  shown = ((fault_at IsDocumentText seen b more (begun seen s.scan at.scan) (λ rest d. not_begun seen s.scan b rest at.scan none d), omega (arith, length-append seen (b ∷ more))), at.offset);
  first = λ g h. let less = shown_later seen (b ∷ more) g (utf8_begun seen s.utf8 at.utf8) (begun seen s.scan at.scan) h in
      let f = fault (length seen) Syntax s.offset in
      outline_cases (seen ++ b ∷ more) g (λ c. IsBefore f (record g { cause = c })) h (λ k. sooner f (record g { cause = Utf8 }) (not_of_utf8 seen s b more t at u g k.0))
      (λ k. sooner f (record g { cause = Doctype }) (never g less k.1 k.2 (nat_lt (length seen) g.show) refl)) (λ k. before f (record g { cause = Syntax }) less (omega arith)) (λ k. before f (record g { cause = Cut }) less (omega arith));
}
  where
    never : (g : Fault) → length seen ≤ g.show → g.place + 2 ≡ g.show → take 3 (drop g.place (seen ++ b ∷ more)) ≡ codes "<!D" → (r : Bool) → nat_lt (length seen) g.show ≡ r → length seen < g.show
    never g less at_place text true e = grind (arith, nat_tests)
    never g less at_place text false e =
        let same : g.show ≡ length seen = grind (arith, nat_tests) in
        let x = three seen b g.place more (at_place ∙ same) text in
        let after : run (Some start) (take g.place seen ++ 60 ∷ 33 ∷ []) ≡ Some s.scan = ap (run (Some start)) (sym x.ends) ∙ at.scan in
        let bang = only_bang (take g.place seen) s.scan after (ap (next s.scan) (sym x.byte) ∙ none) in
        let both_true : (b == 68 && is_bang s.scan.part) ≡ true = ap (λ y. y == 68 && is_bang s.scan.part) x.byte ∙ bang in
        cc

-- the scan doesn't take a D after <!
pub doctype_shown : (seen : List ℕ) (s : Standing) (b : ℕ) (more : List ℕ) (t : State) → StandsAt seen s → utf8_next s.utf8 b ≡ Some t → next s.scan b ≡ None → (b == 68 && is_bang s.scan.part) ≡ true
    → IsOutlineFault (seen ++ b ∷ more) (fault (length seen) Doctype (s.offset - 2))
doctype_shown seen s b more t at u none is =
    let p = both (b == 68) (is_bang s.scan.part) is in
    let byte = eqb-true b 68 p.0 in
    let front = after_bang seen s.scan at.scan p.1 in
    let len : length seen ≡ length front.0 + 2 = ap length front.1 ∙ length-append front.0 (60 ∷ 33 ∷ []) in
    let place : s.offset - 2 ≡ length front.0 = ap (λ n. n - 2) (at.offset ∙ len) ∙ omega arith in
    let text : drop (length front.0) (seen ++ b ∷ more) ≡ 60 ∷ 33 ∷ b ∷ more = ap (λ w. drop (length front.0) (w ++ b ∷ more)) front.1 ∙ ap (drop (length front.0)) (append_assoc front.0 (60 ∷ 33 ∷ []) (b ∷ more)) ∙ drop-append_seam front.0 (60 ∷ 33 ∷ b ∷ more) in
    record {
      shown = (
        (fault_at IsDocumentText seen b more (begun seen s.scan at.scan) (λ rest d. not_begun seen s.scan b rest at.scan none d), omega (arith, length-append seen (b ∷ more))),
        omega arith,
        ap (λ n. take 3 (drop n (seen ++ b ∷ more))) place ∙ ap (take 3) text ∙ ap (λ x. 60 ∷ 33 ∷ x ∷ []) byte,
      );
      first = λ g h. let less = shown_later seen (b ∷ more) g (utf8_begun seen s.utf8 at.utf8) (begun seen s.scan at.scan) h in
          let f = fault (length seen) Doctype (s.offset - 2) in
          outline_cases (seen ++ b ∷ more) g (λ c. IsBefore f (record g { cause = c })) h (λ k. sooner f (record g { cause = Utf8 }) (not_of_utf8 seen s b more t at u g k.0))
          (λ k. before f (record g { cause = Doctype }) less (omega arith)) (λ k. before f (record g { cause = Syntax }) less (omega arith)) (λ k. before f (record g { cause = Cut }) less (omega arith));
    }

-- the scan doesn't take the byte
pub stray_shown : (seen : List ℕ) (s : Standing) (b : ℕ) (more : List ℕ) (t : State) (f : DocFault) → StandsAt seen s → utf8_next s.utf8 b ≡ Some t → next s.scan b ≡ None → IsStrayFault s b f
    → IsOutlineFault (seen ++ b ∷ more) (fault (length seen) f.cause f.at)
stray_shown seen s b more t f at u none is = by (b == 68 && is_bang s.scan.part) refl
  where
    by : (x : Bool) → (b == 68 && is_bang s.scan.part) ≡ x → IsOutlineFault (seen ++ b ∷ more) (fault (length seen) f.cause f.at)
    by true e =
        let P : DocFault → Type 0 = λ g. IsOutlineFault (seen ++ b ∷ more) (fault (length seen) g.cause g.at) in
        subst P (sym (is ∙ ap (λ y. cond y (record { at = s.offset - 2; cause = Doctype }) (record { at = s.offset; cause = Syntax })) e)) (doctype_shown seen s b more t at u none e)
    by false e =
        let P : DocFault → Type 0 = λ g. IsOutlineFault (seen ++ b ∷ more) (fault (length seen) g.cause g.at) in
        subst P (sym (is ∙ ap (λ y. cond y (record { at = s.offset - 2; cause = Doctype }) (record { at = s.offset; cause = Syntax })) e)) (syntax_shown seen s b more t at u none e)

-- a byte on
pub stands_on : (seen : List ℕ) (s t : Standing) (b : ℕ) → StandsAt seen s → utf8_next s.utf8 b ≡ Some t.utf8 → next s.scan b ≡ Some t.scan → t.offset ≡ s.offset + 1
    → t.sequence ≡ cond (is_ready t.utf8) (s.offset + 1) s.sequence → StandsAt (seen ++ b ∷ []) t
stands_on seen s t b at u e offset sequence =
    let len = length-append seen (b ∷ []) in
    let P : ℕ → Type 0 = λ n. IsLastUtf8 (seen ++ b ∷ []) n in
    let here : t.sequence ≡ cond (is_ready t.utf8) (length seen + 1) s.sequence = sequence ∙ ap (λ n. cond (is_ready t.utf8) (n + 1) s.sequence) at.offset in
    record {
      utf8 = utf8_run_more (Some Ready) seen (b ∷ []) ∙ ap (λ o. utf8_run o (b ∷ [])) at.utf8 ∙ u;
      scan = run_more (Some start) seen (b ∷ []) ∙ ap (λ o. run o (b ∷ [])) at.scan ∙ e;
      offset = offset ∙ ap (λ n. n + 1) at.offset ∙ sym len;
      within = by (is_ready t.utf8) here;
      sequence = subst P (sym here) (sequence_on seen s.utf8 t.utf8 b s.sequence at.utf8 u at.sequence at.within);
    }
  where
    by : (x : Bool) → t.sequence ≡ cond x (length seen + 1) s.sequence → t.sequence ≤ length (seen ++ b ∷ [])
    by true h = omega (arith, length-append seen (b ∷ []))
    by false h = omega (arith, at.within, length-append seen (b ∷ []))

-- at the end

-- all that bytes show, where both take them, is shown at their end
ends_later : (seen : List ℕ) (s : Standing) (g : Fault) → StandsAt seen s → ShowsOutline seen g → length seen ≤ g.show
ends_later seen s g at h =
    let Q : List ℕ → Type 0 = λ w. ShowsOutline w g in
    shown_later seen [] g (utf8_begun seen s.utf8 at.utf8) (begun seen s.scan at.scan) (subst Q (sym (append-nil seen)) h)

-- a sequence is open
pub utf8_at_end : (seen : List ℕ) (s : Standing) → StandsAt seen s → is_ready s.utf8 ≡ false → IsOutlineFault seen (fault (length seen) Utf8 s.sequence)
utf8_at_end seen s at busy = record {
  shown = (no_fault IsUtf8 seen (utf8_begun seen s.utf8 at.utf8), at.sequence, by (nat_lt s.sequence (length seen)) refl);
  first = λ g h. before (fault (length seen) Utf8 (s.sequence)) g (ends_later seen s g at h) (omega arith);
}
  where
    by : (t : Bool) → nat_lt s.sequence (length seen) ≡ t → s.sequence < length seen
    by true e = grind (arith, nat_tests)
    by false e =
        let within = at.within in
        let past : length seen ≤ s.sequence = grind (arith, nat_tests) in
        let full : s.sequence ≡ length seen = omega arith in
        let Q : List ℕ → Type 0 = IsUtf8 in
        absurd (not_ready seen s.utf8 at.utf8 busy (subst Q (ap (λ n. take n seen) full ∙ take-length seen) at.sequence.is))

-- the document isn't whole
pub cut_at_end : (seen : List ℕ) (s : Standing) → StandsAt seen s → IsUtf8 seen → is_final s.scan ≡ false → IsOutlineFault seen (fault (length seen) Cut s.offset)
cut_at_end seen s at utf8 early = record {
  shown = ((no_fault IsDocumentText seen (begun seen s.scan at.scan), not_whole seen s.scan at.scan early, refl), at.offset);
  first = λ g h. let less = ends_later seen s g at h in
      outline_cases seen g (λ c. IsBefore (fault (length seen) Cut s.offset) (record g { cause = c })) h (λ k. absurd (all_utf8 g.place k.2 k.1)) (λ k. absurd (omega (arith, k.0.1, less))) (λ k. absurd (omega (arith, k.0.1, less)))
      (λ k. before (fault (length seen) Cut s.offset) (record g { cause = Cut }) less (omega arith));
}
  where
    all_utf8 : (n : ℕ) → n < length seen → IsLastUtf8 seen n → ⊥
    all_utf8 n less last = let Q : List ℕ → Type 0 = IsUtf8 in last.last (length seen) less (omega arith) (subst Q (sym (take-length seen)) utf8)

-- no sequence is open
pub utf8_whole : (seen : List ℕ) (s : Standing) → StandsAt seen s → is_ready s.utf8 ≡ true → IsUtf8 seen
utf8_whole seen s at e = sound seen (at.utf8 ∙ ap Some (ready s.utf8 e))

-- the document is whole
pub document_whole : (seen : List ℕ) (s : Standing) → StandsAt seen s → is_final s.scan ≡ true → IsDocumentText seen
document_whole seen s at e = whole seen s.scan at.scan e

-- in a piece

-- a byte of a piece
pub piece_step : (seen piece : List ℕ) (k : ℕ) → k < length piece → seen ++ take (k + 1) piece ≡ (seen ++ take k piece) ++ get_or piece k 0 ∷ []
piece_step seen piece k in_it = ap (λ w. seen ++ w) (take_more piece k 0 in_it) ∙ sym (append_assoc seen (take k piece) (get_or piece k 0 ∷ []))

-- what comes before a byte of a piece, and what comes after it
pub piece_cut : (seen piece more : List ℕ) (k : ℕ) → k < length piece → (seen ++ piece) ++ more ≡ (seen ++ take k piece) ++ get_or piece k 0 ∷ (drop (k + 1) piece ++ more)
piece_cut seen piece more k in_it =
    ap (λ w. (seen ++ w) ++ more) (sym (take-append-drop (k + 1) piece) ∙ ap (λ w. w ++ drop (k + 1) piece) (take_more piece k 0 in_it))
    ∙ regroup seen (take k piece) (get_or piece k 0) (drop (k + 1) piece) more
  where
    regroup : (a b : List ℕ) (x : ℕ) (c d : List ℕ) → (a ++ ((b ++ x ∷ []) ++ c)) ++ d ≡ (a ++ b) ++ x ∷ (c ++ d)
    regroup a b x c d = simp append_assoc

-- what a reader has read

pub standing_of : (seen : List ℕ) (s : Standing) (f : Option DocFault) → f ≡ None → HasRead seen (record { standing = s; fault = f }) → StandsAt seen s
standing_of seen s None e h = h
standing_of seen s (Some f) e h = cc

pub standing_read : (seen : List ℕ) (s : Standing) (f : Option DocFault) → f ≡ None → StandsAt seen s → HasRead seen (record { standing = s; fault = f })
standing_read seen s None e h = h
standing_read seen s (Some f) e h = cc

pub fault_of : (seen : List ℕ) (s : Standing) (f : DocFault) (g : Option DocFault) → g ≡ Some f → HasRead seen (record { standing = s; fault = g }) → (more : List ℕ) → (show : ℕ) × IsShownAt show (seen ++ more) f
fault_of seen s f None e h = cc
fault_of seen s f (Some g) e h = let same : g ≡ f = cc in let P : DocFault → Type 0 = λ x. (more : List ℕ) → (show : ℕ) × IsShownAt show (seen ++ more) x in subst P same h

pub fault_read : (seen piece : List ℕ) (s : Standing) (f : DocFault) (g : Option DocFault) → g ≡ Some f → HasRead seen (record { standing = s; fault = g }) → HasRead (seen ++ piece) (record { standing = s; fault = g })
fault_read seen piece s f None e h = cc
fault_read seen piece s f (Some g) e h =
    λ more. let r = h (piece ++ more) in let P : List ℕ → Type 0 = λ w. IsShownAt r.0 w g in (r.0, subst P (sym (append_assoc seen piece more)) r.1)
