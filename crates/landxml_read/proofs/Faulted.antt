-- The first fault that a reading shows is that of the bytes, and a reading that shows none reads a faultless tree.
use Rattle.std.proofs.Common.{◌≡◌, ℕ, ◌+◌, ◌<◌, ◌≤◌, Bool, true, false, ◌==◌, nat_lt, cond, List, [], ◌∷◌, ◌++◌, length, take, drop, flat_map, Some, refl, sym, ◌∙◌, ap, subst, arith, append_assoc, length-append, ◌⊎◌, inl, inr, eqb-true}
use Rattle.std.proofs.lemmas.Bool.Decides.{nat_tests}
use Rattle.std.proofs.lemmas.List.{append-nil, take-append-le, take-append-drop, length-take-le}
use Rattle.std.proofs.Math.Seq.{take-append-add}
use Rattle.std.specs.Str.{IsUtf8}
use Rattle.ground_num.specs.FirstFault.{Begins}
use Rattle.landxml_read.specs.declared.fault.DocCause.{DocCause}
use Rattle.landxml_read.specs.declared.fault.DocCause.TheVariants.{Utf8, Doctype, Syntax, Cut, Root, Depth, Tag, Long, Entity, Attr, Unit as BadUnit, SurfType, BrkType, BndType, Number, Big, Count, Range, NoHeight, Id, Face}
use Rattle.landxml_read.specs.declared.scan.Scan.{Scan}
use Rattle.landxml_read.specs.Markup.{Document, IsDocument, IsDocumentText, document_text}
use Rattle.landxml_read.specs.Faults.{Fault, fault, tree_faults}
use Rattle.landxml_read.specs.Answer.{rank, Shows, ShowsOutline, IsOfTree, IsBefore, IsFaultOf, IsOutlineFault, IsTreeOf}
use Rattle.landxml_read.specs.Events.{Event, event_faults, document_events}
use Rattle.landxml_read.specs.Scan.{next}
use Rattle.landxml_read.specs.Tokens.{Reading, act, shown, on, led, reads, pushed, at_start}
use Rattle.std.specs.Option.{option_map}
use Rattle.landxml_read.proofs.Bytes.{clash}
use Rattle.landxml_read.specs.declared.level.Level.TheVariants.{After}
use Rattle.landxml_read.specs.declared.scan.Part.TheVariants.{Text}
use Rattle.landxml_read.proofs.Running.{reading, reads_more, run_of}
use Rattle.landxml_read.proofs.Accepted.{document_read}
use Rattle.landxml_read.proofs.Scanning.{begun}
use Rattle.landxml_read.proofs.Outlines.{shown_later, outline_cases}
use Rattle.landxml_read.proofs.Totals.{total, totals, total_flat}
use Rattle.landxml_read.proofs.Shown.{shown_total}
use Rattle.landxml_read.proofs.FaultTests.{is_fault, fault_is, is_itself, counted, contained, none_passes, all_none, IsRanked, first_ranked}
use Rattle.landxml_read.proofs.Telling.{NoneAt, shown_ranked, shown_none, pushed_totals, told_total, told_later, told_stays, offset_after, from_front}

pick : (x : Bool) (G : Type 0) → (x ≡ true → G) → (x ≡ false → G) → G
pick true G first second = first refl
pick false G first second = second refl

-- a test that a fault passes alone passes none that another byte shows
none_other : (g : Fault) (n : ℕ) → g.show < n → NoneAt (is_fault g) n
none_other g n less c at = pick (is_fault g (fault n c at)) _ (λ e. let same = ap (λ f. f.show) (fault_is g (fault n c at) e) in absurd (omega (arith, same))) (λ e. e)

none_apart : (g : Fault) (n : ℕ) → (g.show == n) ≡ false → NoneAt (is_fault g) n
none_apart g n apart c at = pick (is_fault g (fault n c at)) _ (λ e. let same = ap (λ f. f.show) (fault_is g (fault n c at) e) in let t : (g.show == n) ≡ true = grind (arith, nat_tests) in absurd (clash _ t apart)) (λ e. e)

-- no fault was told
abbrev pub IsQuiet : Reading → Type 0
IsQuiet r = told_total (λ f. true) r ≡ 0

fewer : (p : Fault → Bool) (fs : List Fault) → total p fs ≤ total (λ f. true) fs
fewer p [] = omega arith
fewer p (f ∷ fs) = let a = fewer p fs in by (p f) a
  where
    by : (t : Bool) → total p fs ≤ total (λ f. true) fs → cond t 1 0 + total p fs ≤ 1 + total (λ f. true) fs
    by true a = omega (arith, a)
    by false a = omega (arith, a)

fewer_told : (p : Fault → Bool) (es : List Event) → totals p event_faults es ≤ totals (λ f. true) event_faults es
fewer_told p [] = omega arith
fewer_told p (e ∷ es) = let a = fewer p (event_faults e) in let b = fewer_told p es in omega (arith, a, b)

-- the faults of the tree that pass a test are those that were told at its end
told_all : (p : Fault → Bool) (d : Document) → IsDocument d → (front more : List ℕ) (q : Reading) → reads (Some at_start) front ≡ Some q → front ++ more ≡ document_text d
    → (u : Reading) × (reads (Some q) more ≡ Some u) × (total p (tree_faults d) ≡ told_total p u)
told_all p d is front more q e text =
    let r = document_read d is in
    let u = reading Text After (length (document_text d)) r.tokens (pushed (document_events d) []) in
    let f = from_front front more at_start u (ap (reads (Some at_start)) text ∙ r.runs) in
    let same : f.0 ≡ q = some (sym f.1 ∙ e) in
    let Q : Reading → Type 0 = λ x. reads (Some x) more ≡ Some u in
    let a = pushed_totals p (document_events d) [] in
    let b = total_flat p event_faults (document_events d) in
    let c = shown_total p d in
    (u, subst Q same f.2, omega (arith, a, b, c))
  where
    some : {x y : Reading} → Some x ≡ Some y → x ≡ y
    some h = cc

-- those shown before the end of a front are those that were told in it
tree_total : (g : Fault) (d : Document) → IsDocument d → (front more : List ℕ) (q : Reading) → reads (Some at_start) front ≡ Some q → front ++ more ≡ document_text d → g.show < length front → total (is_fault g) (tree_faults d) ≡ told_total (is_fault g) q
tree_total g d is front more q e text less =
    let t = told_all (is_fault g) d is front more q e text in
    let offset : q.offset ≡ 0 + length front = offset_after front at_start q e in
    t.2 ∙ told_later (is_fault g) more q t.0 (λ n le. none_other g n (omega (arith, offset, le, less))) t.1

-- in a beginning
front_of : (seen rest : List ℕ) (n : ℕ) → n ≤ length seen → take n (seen ++ rest) ≡ take n seen
front_of seen rest n le = take-append-le n seen rest le

-- a fault of a tree isn't shown before the end of what was read quietly
pub tree_later : (seen rest : List ℕ) (r : Reading) (g : Fault) → reads (Some at_start) seen ≡ Some r → IsQuiet r → IsOfTree (seen ++ rest) g → length seen ≤ g.show
tree_later seen rest r g e quiet h =
    pick (nat_lt g.show (length seen)) (length seen ≤ g.show)
    (λ t. let less : g.show < length seen = grind (arith, nat_tests) in absurd (never less))
    (λ t. grind (arith, nat_tests))
  where
    never : g.show < length seen → ⊥
    never less =
        let front = take (g.show + 1) seen in
        let whole : front ++ drop (g.show + 1) seen ≡ seen = take-append-drop (g.show + 1) seen in
        let f = from_front front (drop (g.show + 1) seen) at_start r (ap (reads (Some at_start)) whole ∙ e) in
        let more = h.1.0 in
        let d = h.1.1 in
        let text : front ++ more ≡ document_text d = ap (λ w. w ++ more) (sym (front_of seen rest (g.show + 1) (omega (arith, less)))) ∙ h.1.3 in
        let size : length front ≡ g.show + 1 = length-take-le (g.show + 1) seen (omega (arith, less)) in
        let a = tree_total g d h.1.2 front more f.0 f.1 text (omega (arith, size)) in
        let b = told_stays (is_fault g) (drop (g.show + 1) seen) f.0 r f.2 in
        let c = fewer_told (is_fault g) r.told in
        none_passes (is_fault g) (tree_faults d) (omega (arith, a, b, c, quiet)) g (is_itself g) h.1.4

-- the causes that come of a tree, and those that come of encoding and markup
pub kinds_of : (bytes : List ℕ) (g : Fault) → Shows bytes g → (ShowsOutline bytes g × (rank g.cause ≤ 3)) ⊎ (IsOfTree bytes g × (4 ≤ rank g.cause))
kinds_of bytes g h = by g.cause h
  where
    by : (c : DocCause) → Shows bytes (record g { cause = c }) → (ShowsOutline bytes (record g { cause = c }) × (rank c ≤ 3)) ⊎ (IsOfTree bytes (record g { cause = c }) × (4 ≤ rank c))
    by Utf8 h = inl (h, omega arith)
    by Doctype h = inl (h, omega arith)
    by Syntax h = inl (h, omega arith)
    by Cut h = inl (h, omega arith)
    by Root h = inr (h, omega arith)
    by Depth h = inr (h, omega arith)
    by Tag h = inr (h, omega arith)
    by Long h = inr (h, omega arith)
    by Entity h = inr (h, omega arith)
    by Attr h = inr (h, omega arith)
    by BadUnit h = inr (h, omega arith)
    by SurfType h = inr (h, omega arith)
    by BrkType h = inr (h, omega arith)
    by BndType h = inr (h, omega arith)
    by Number h = inr (h, omega arith)
    by Big h = inr (h, omega arith)
    by Count h = inr (h, omega arith)
    by Range h = inr (h, omega arith)
    by NoHeight h = inr (h, omega arith)
    by Id h = inr (h, omega arith)
    by Face h = inr (h, omega arith)

of_outline : (bytes : List ℕ) (f : Fault) → ShowsOutline bytes f → Shows bytes f × (rank f.cause ≤ 3)
of_outline bytes f h =
    outline_cases bytes f (λ c. Shows bytes (record f { cause = c }) × (rank c ≤ 3)) h (λ k. (k, omega arith)) (λ k. (k, omega arith)) (λ k. (k, omega arith)) (λ k. (k, omega arith))

of_tree : (bytes : List ℕ) (f : Fault) → IsOfTree bytes f → 4 ≤ rank f.cause → Shows bytes f
of_tree bytes f h le = by f.cause h le
  where
    by : (c : DocCause) → IsOfTree bytes (record f { cause = c }) → 4 ≤ rank c → Shows bytes (record f { cause = c })
    by Utf8 h le = absurd (omega arith)
    by Doctype h le = absurd (omega arith)
    by Syntax h le = absurd (omega arith)
    by Cut h le = absurd (omega arith)
    by Root h le = h
    by Depth h le = h
    by Tag h le = h
    by Long h le = h
    by Entity h le = h
    by Attr h le = h
    by BadUnit h le = h
    by SurfType h le = h
    by BrkType h le = h
    by BndType h le = h
    by Number h le = h
    by Big h le = h
    by Count h le = h
    by Range h le = h
    by NoHeight h le = h
    by Id h le = h
    by Face h le = h

-- before a fault that is shown later, or at once with a cause that stands no sooner in the table
before : (f g : Fault) → f.show ≤ g.show → (g.show ≡ f.show → rank f.cause ≤ rank g.cause) → IsBefore f g
before f g less ranks = pick (nat_lt f.show g.show) (IsBefore f g) (λ e. inl (grind (arith, nat_tests))) (λ e. let same : g.show ≡ f.show = grind (arith, nat_tests) in inr (sym same, ranks same))

-- the fault of encoding or markup, where the bytes before it were read quietly
pub outline_fault : (seen rest : List ℕ) (r : Reading) (f : Fault) → reads (Some at_start) seen ≡ Some r → IsQuiet r → f.show ≡ length seen → IsOutlineFault (seen ++ rest) f → IsFaultOf (seen ++ rest) f
outline_fault seen rest r f e quiet at o =
    let mine = of_outline (seen ++ rest) f o.shown in
    record {
      shown = mine.0;
      first = λ g h. elim (kinds_of (seen ++ rest) g h) [
        | inl x ↦ o.first g x.0
        | inr x ↦ before f g (let later = tree_later seen rest r g e quiet x.0 in omega (arith, later, at)) (λ _. omega (arith, mine.1, x.1))
      ];
    }

-- the fault of a tree that a byte shows first, where the bytes before it were read quietly
pub tree_fault : (seen : List ℕ) (b : ℕ) (more : List ℕ) (r : Reading) (s : Scan) (f : Fault) (fs : List Fault) → reads (Some at_start) seen ≡ Some r → IsQuiet r → Begins IsUtf8 (seen ++ b ∷ []) → next r.scan b ≡ Some s
    → flat_map event_faults (shown (act r.scan.part s.part) r.offset b r.tokens) ≡ f ∷ fs → IsFaultOf (seen ++ b ∷ more) f
tree_fault seen b more r s f fs e quiet utf8 goes is =
    let E = shown (act r.scan.part s.part) r.offset b r.tokens in
    let q = on r b s in
    let all : reads (Some at_start) (seen ++ b ∷ []) ≡ Some q = reads_more (Some at_start) seen (b ∷ []) ∙ ap (λ o. reads o (b ∷ [])) e ∙ ap (led r b) goes in
    let offset : r.offset ≡ 0 + length seen = offset_after seen at_start r e in
    let totals_in : (p : Fault → Bool) → totals p event_faults E ≡ total p (f ∷ fs) = λ p. sym (total_flat p event_faults E) ∙ ap (total p) is in
    let quiet_in : (p : Fault → Bool) → told_total p r ≡ 0 = λ p. let a = fewer_told p r.told in omega (arith, a, quiet) in
    let itself : ◌≡◌ {A = ℕ} (cond (is_fault f f) 1 0) 1 = ap (λ x. cond x 1 0) (is_itself f) in
    let ranked : IsRanked 4 16 (f ∷ fs) = (let P : List Fault → Type 0 = IsRanked 4 16 in subst P is (shown_ranked (act r.scan.part s.part) r.offset b r.tokens)) in
    let here : f.show ≡ length seen =
    pick (f.show == r.offset) (f.show ≡ length seen) (λ t. let same = eqb-true f.show r.offset t in omega (arith, same, offset))
    (λ t. let none = shown_none (is_fault f) (act r.scan.part s.part) r.offset b r.tokens (none_apart f r.offset t) in let a = totals_in (is_fault f) in absurd (omega (arith, a, none, itself))) in
    let a = begun (seen ++ b ∷ []) s (run_of at_start (seen ++ b ∷ []) ∙ ap (option_map (λ u. u.scan)) all) in
    let d = a.1.0 in
    let t = told_all (is_fault f) d a.1.1 (seen ++ b ∷ []) a.0 q all a.1.2 in
    let stays = told_stays (is_fault f) a.0 q t.0 t.1 in
    let split : (p : Fault → Bool) → told_total p q ≡ totals p event_faults E + told_total p r = λ p. pushed_totals p E r.told in
    let some : 0 < total (is_fault f) (tree_faults d) = (let k = totals_in (is_fault f) in let l = split (is_fault f) in let m = t.2 in omega (arith, k, l, m, stays, itself)) in
    let cut : (n : ℕ) → n ≡ length seen → take (n + 1) (seen ++ b ∷ more) ≡ seen ++ b ∷ [] = λ n same. ap (λ k. take (k + 1) (seen ++ b ∷ more)) same ∙ take-append-add seen (b ∷ more) 1 in
    let size = length-append seen (b ∷ []) in
    record {
      shown = of_tree (seen ++ b ∷ more) f
          (omega (arith, here, length-append seen (b ∷ more)), (a.0, d, a.1.1, ap (λ w. w ++ a.0) (cut f.show here) ∙ a.1.2, contained (is_fault f) f (fault_is f) (tree_faults d) some)) ranked.0;
      first = λ g h. elim (kinds_of (seen ++ b ∷ more) g h) [
        | inl x ↦
            let P : List ℕ → Type 0 = λ w. ShowsOutline w g in
            let later = shown_later (seen ++ b ∷ []) more g utf8 (begun (seen ++ b ∷ []) s (run_of at_start (seen ++ b ∷ []) ∙ ap (option_map (λ u. u.scan)) all)) (subst P (sym (append_assoc seen (b ∷ []) more)) x.0) in
            before f g (omega (arith, later, here, size)) (λ same. absurd (omega (arith, later, here, size, same)))
        | inr x ↦
            let later = tree_later seen (b ∷ more) r g e quiet x.0 in
            before f g (omega (arith, later, here))
            (λ same.
            let y = x.0.1 in
            let there : g.show ≡ length seen = omega (arith, same, here) in
            let total_is = tree_total g y.1 y.2 (seen ++ b ∷ []) y.0 q all (ap (λ w. w ++ y.0) (sym (cut g.show there)) ∙ y.3) (omega (arith, there, size)) in
            let counts = counted (is_fault g) (tree_faults y.1) g (is_itself g) y.4 in
            let k = totals_in (is_fault g) in
            let l = split (is_fault g) in
            let m = quiet_in (is_fault g) in
            first_ranked (rank f.cause) 16 (f ∷ fs) g (omega arith, ranked.1, ranked.2) (contained (is_fault g) g (fault_is g) (f ∷ fs) (omega (arith, total_is, counts, k, l, m))))
      ];
    }

-- a byte that shows no fault is read quietly
pub quiet_on : (r : Reading) (b : ℕ) (s : Scan) → IsQuiet r → flat_map event_faults (shown (act r.scan.part s.part) r.offset b r.tokens) ≡ [] → IsQuiet (on r b s)
quiet_on r b s quiet none =
    let E = shown (act r.scan.part s.part) r.offset b r.tokens in
    let a = pushed_totals (λ f. true) E r.told in
    let c = total_flat (λ f. true) event_faults E in
    let d = ap (total (λ f. true)) none in
    omega (arith, a, c, d, quiet)

-- the tree of bytes that were read quietly to their end
pub whole_tree : (seen : List ℕ) (r : Reading) → reads (Some at_start) seen ≡ Some r → IsQuiet r → IsUtf8 seen → IsDocumentText seen → (d : Document) × IsTreeOf seen d
whole_tree seen r e quiet utf8 d =
    let t = told_all (λ f. true) d.0 d.1 seen [] r e (append-nil seen ∙ d.2) in
    let same : r ≡ t.0 = some t.1 in
    let told = ap (told_total (λ f. true)) same in
    (d.0, record { utf8 = utf8; shaped = d.1; text = d.2; faultless = all_none (tree_faults d.0) (let a = t.2 in omega (arith, a, told, quiet)) })
  where
    some : {x y : Reading} → Some x ≡ Some y → x ≡ y
    some h = cc
