-- A reader after one more byte.
use Rattle.std.proofs.Common.{◌≡◌, ℕ, ◌+◌, ◌<◌, ◌^◌, true, List, [], ◌∷◌, ◌++◌, length, take, drop, get_or, flat_map, Option, None, Some, refl, sym, ◌∙◌, ap, subst, append_assoc, length-append}
use Rattle.std.proofs.lemmas.List.{append-nil, take-append-drop}
use Rattle.std.specs.Str.{IsUtf8}
use Rattle.landxml_read.specs.Markup.{Document, IsDocumentText}
use Rattle.landxml_read.specs.declared.standing.Standing.{Standing}
use Rattle.landxml_read.specs.declared.tokens.Tokens.{Tokens}
use Rattle.landxml_read.specs.declared.fault.DocFault.{DocFault}
use Rattle.landxml_read.specs.Faults.{Fault, fault}
use Rattle.landxml_read.specs.Answer.{IsFaultOf, IsTreeOf}
use Rattle.landxml_read.specs.Events.{Event, event_faults}
use Rattle.landxml_read.specs.Scan.{next, run, start}
use Rattle.landxml_read.specs.Outline.{StandsAt, IsShownAt}
use Rattle.landxml_read.specs.Tokens.{Reading, act, after, shown, on, led, reads, at_start, no_tokens, pushed}
use Rattle.landxml_read.specs.Verdict.{first_of, verdict_of}
use Rattle.landxml_read.specs.declared.fault.ReadFault.{ReadFault}
use Rattle.landxml_read.specs.declared.fault.ReadFault.TheVariants.{Doc, Memory}
use Rattle.landxml_read.specs.declared.course.Course.{Course}
use Rattle.landxml_read.specs.declared.gather.Gathered.{Gathered}
use Rattle.landxml_read.specs.declared.scan.Scan.{Scan}
use Rattle.landxml_read.specs.Gather.{nothing, gathered_of, gather, unit_or_meter}
use Rattle.landxml_read.specs.declared.raw.RawDoc.{RawDoc}
use Rattle.landxml_read.specs.Lawful.{IsLawful}
use Rattle.landxml_read.specs.Course.{Reads, HasTaken, IsShown, IsEnd}
use Rattle.landxml_read.specs.Reader.{HasReadBy, IsRead, IsEndOf}
use Rattle.landxml_read.proofs.Scanning.{run_more}
use Rattle.landxml_read.proofs.Encoded.{utf8_begun}
use Rattle.landxml_read.proofs.Running.{reads_more}
use Rattle.landxml_read.proofs.Totals.{total, total_flat}
use Rattle.landxml_read.proofs.FaultTests.{all_none}
use Rattle.landxml_read.proofs.Faulted.{IsQuiet, outline_fault, tree_fault, quiet_on, whole_tree}
use Rattle.landxml_read.proofs.Outlines.{piece_step}
use Rattle.landxml_read.proofs.ListsRead.{lists_at_end}
use Rattle.landxml_read.proofs.Obeyed.{lawful_doc}
use Rattle.landxml_read.proofs.FirstShown.{verdict_is}

-- the reading of a reader
abbrev reading_of : (seen : List ℕ) (s : Standing) (t : Tokens) → Reads seen s t → Reading
reading_of seen s t r = record { scan = s.scan; offset = s.offset; tokens = t; told = r.told }

quiet_of : (seen : List ℕ) (s : Standing) (t : Tokens) (r : Reads seen s t) → IsQuiet (reading_of seen s t r)
quiet_of seen s t r = sym (total_flat (λ f. true) event_faults r.told) ∙ ap (total (λ f. true)) r.quiet

-- the byte leads the scan on
goes : (seen : List ℕ) (s n : Standing) (b : ℕ) → StandsAt seen s → StandsAt (seen ++ b ∷ []) n → next s.scan b ≡ Some n.scan
goes seen s n b at then_at = sym (ap (λ o. run o (b ∷ [])) at.scan) ∙ sym (run_more (Some start) seen (b ∷ [])) ∙ then_at.scan

some_of : (fs : List Fault) (f : DocFault) → first_of fs ≡ Some f → (g : Fault) × (rest : List Fault) × (fs ≡ g ∷ rest) × (f ≡ record { at = g.place; cause = g.cause })
some_of [] f e = cc
some_of (g ∷ rest) f e = (g, rest, refl, some e)
  where
    some : {x y : DocFault} → Some x ≡ Some y → y ≡ x
    some k = cc

none_of : (fs : List Fault) → first_of fs ≡ None → fs ≡ []
none_of [] e = refl
none_of (g ∷ rest) e = cc

-- a fault of encoding or markup
pub outline_ends : (seen : List ℕ) (s : Standing) (t : Tokens) (rest : List ℕ) (f : DocFault) → Reads seen s t → IsShownAt (length seen) (seen ++ rest) f → IsShown (seen ++ rest) f
outline_ends seen s t rest f r h = (length seen, outline_fault seen rest (reading_of seen s t r) (fault (length seen) f.cause f.at) r.reading (quiet_of seen s t r) refl h)

-- a fault of the tree
pub tree_ends : (seen : List ℕ) (s n : Standing) (t : Tokens) (b : ℕ) (more : List ℕ) (f : DocFault) → Reads seen s t → StandsAt (seen ++ b ∷ []) n → verdict_of (act s.scan.part n.scan.part) s.offset b t ≡ Some f → IsShown (seen ++ b ∷ more) f
tree_ends seen s n t b more f r then_at v =
    let a = act s.scan.part n.scan.part in
    let g = some_of (flat_map event_faults (shown a s.offset b t)) f (verdict_is a s.offset b t ∙ v) in
    let h = tree_fault seen b more (reading_of seen s t r) n.scan g.0 g.1 r.reading (quiet_of seen s t r) (utf8_begun (seen ++ b ∷ []) n.utf8 then_at.utf8) (goes seen s n b r.outline then_at) g.2 in
    let P : DocFault → Type 0 = λ x. IsFaultOf (seen ++ b ∷ more) (fault g.0.show x.cause x.at) in
    (g.0.show, subst P (sym g.3) h)

-- a byte that shows no fault
pub reads_on : (seen : List ℕ) (s n : Standing) (t u : Tokens) (b : ℕ) → Reads seen s t → StandsAt (seen ++ b ∷ []) n → verdict_of (act s.scan.part n.scan.part) s.offset b t ≡ None → u ≡ after (act s.scan.part n.scan.part) s.offset b t → Reads (seen ++ b ∷ []) n u
reads_on seen s n t u b r then_at v e =
    let a = act s.scan.part n.scan.part in
    let q = reading_of seen s t r in
    let none = none_of (flat_map event_faults (shown a s.offset b t)) (verdict_is a s.offset b t ∙ v) in
    let now = on q b n.scan in
    let offset : s.offset + 1 ≡ n.offset = ap (λ k. k + 1) r.outline.offset ∙ sym (then_at.offset ∙ length-append seen (b ∷ [])) in
    record {
      outline = then_at;
      told = now.told;
      reading = reads_more (Some at_start) seen (b ∷ []) ∙ ap (λ o. reads o (b ∷ [])) r.reading ∙ ap (led q b) (goes seen s n b r.outline then_at)
          ∙ (λ i. Some (record { scan = n.scan; offset = offset i; tokens = e' i; told = now.told }));
      quiet = all_none (flat_map event_faults now.told) (total_flat (λ f. true) event_faults now.told ∙ quiet_on q b n.scan (quiet_of seen s t r) none);
    }
  where
    e' : after (act s.scan.part n.scan.part) s.offset b t ≡ u
    e' = sym e

-- what the bytes showed is gathered

gathered_pushed : (es told : List Event) → gathered_of (pushed es told) ≡ gather (gathered_of told) es
gathered_pushed [] told = refl
gathered_pushed (e ∷ es) told = gathered_pushed es (e ∷ told)

-- at the beginning
pub taken_at_start : (s : Standing) (t : Tokens) (g : Gathered) → StandsAt [] s → t ≡ no_tokens → g ≡ nothing → HasTaken [] (record { standing = s; tokens = t; gathered = g })
taken_at_start s t g at e f = record {
  read = record {
    outline = at;
    told = [];
    reading = (λ i. Some (record { scan = some at.scan i; offset = sym at.offset i; tokens = sym e i; told = [] }));
    quiet = refl;
  };
  gathered = f;
}
  where
    some : {x y : Scan} → Some x ≡ Some y → x ≡ y
    some k = cc

-- after a byte that shows no fault
pub taken_on : (seen : List ℕ) (c m : Course) (b : ℕ) → HasTaken seen c → StandsAt (seen ++ b ∷ []) m.standing → verdict_of (act c.standing.scan.part m.standing.scan.part) c.standing.offset b c.tokens ≡ None
    → m.tokens ≡ after (act c.standing.scan.part m.standing.scan.part) c.standing.offset b c.tokens → m.gathered ≡ gather c.gathered (shown (act c.standing.scan.part m.standing.scan.part) c.standing.offset b c.tokens) → HasTaken (seen ++ b ∷ []) m
unfolding reads_on
taken_on seen c m b h then_at v e f =
    let es = shown (act c.standing.scan.part m.standing.scan.part) c.standing.offset b c.tokens in
    record { read = reads_on seen c.standing m.standing c.tokens m.tokens b h.read then_at v e; gathered = f ∙ ap (λ g. gather g es) h.gathered ∙ sym (gathered_pushed es h.read.told) }

-- what ended a reading ends it whatever comes after

pub end_longer : (seen rest : List ℕ) (e : ReadFault) → IsEnd seen e → IsEnd (seen ++ rest) e
end_longer seen rest (Doc f) h = λ more. let P : List ℕ → Type 0 = λ w. IsShown w f in subst P (sym (append_assoc seen rest more)) (h (rest ++ more))
end_longer seen rest Memory h = tt

pub read_longer : (seen rest : List ℕ) (c : Course) (e : ReadFault) (o : Option ReadFault) → o ≡ Some e → HasReadBy seen c o → HasReadBy (seen ++ rest) c o
read_longer seen rest c e None is h = cc
read_longer seen rest c e (Some x) is h = end_longer seen rest x h

pub ended_of : (seen : List ℕ) (c : Course) (e : ReadFault) (o : Option ReadFault) → o ≡ Some e → HasReadBy seen c o → IsEndOf seen e
ended_of seen c e None is h = cc
ended_of seen c e (Some x) is h = let same : x ≡ e = cc in let P : ReadFault → Type 0 = IsEndOf seen in subst P same (by x h)
  where
    by : (x : ReadFault) → IsEnd seen x → IsEndOf seen x
    by (Doc f) h = let P : List ℕ → Type 0 = λ w. IsShown w f in subst P (append-nil seen) (h [])
    by Memory h = tt

pub taken_of : (seen : List ℕ) (c : Course) (o : Option ReadFault) → o ≡ None → HasReadBy seen c o → HasTaken seen c
taken_of seen c None is h = h
taken_of seen c (Some x) is h = cc

-- at the end of the bytes

pub tree_at_end : (seen : List ℕ) (s : Standing) (t : Tokens) → Reads seen s t → IsUtf8 seen → IsDocumentText seen → (d : Document) × IsTreeOf seen d
tree_at_end seen s t r utf8 d = whole_tree seen (reading_of seen s t r) r.reading (quiet_of seen s t r) utf8 d

pub fault_at_end : (seen : List ℕ) (s : Standing) (t : Tokens) (f : DocFault) → Reads seen s t → IsShownAt (length seen) seen f → IsShown seen f
fault_at_end seen s t f r h =
    let P : List ℕ → Type 0 = λ w. IsShown w f in
    let Q : List ℕ → Type 0 = λ w. IsShownAt (length seen) w f in
    subst P (append-nil seen) (outline_ends seen s t [] f r (subst Q (sym (append-nil seen)) h))

-- what was gathered of a whole document
pub read_at_end : (seen : List ℕ) (c : Course) (doc : RawDoc) → HasTaken seen c → IsUtf8 seen → IsDocumentText seen → doc.unit ≡ unit_or_meter c.gathered.unit → doc.surfaces ≡ c.gathered.surfaces → IsRead seen doc
read_at_end seen c doc r utf8 text unit surfaces =
    let tree = tree_at_end seen c.standing c.tokens r.read utf8 text in
    let held = lists_at_end seen c.standing c.tokens r.read tree.0 tree.1 in
    (tree.0, tree.1, record { unit = unit ∙ ap (λ g. unit_or_meter g.unit) r.gathered ∙ held.unit; surfaces = surfaces ∙ ap (λ g. g.surfaces) r.gathered ∙ held.surfaces })

pub lawful_at_end : (seen : List ℕ) (doc : RawDoc) → IsRead seen doc → length seen < 2 ^ 32 → IsLawful doc
lawful_at_end seen doc h short = lawful_doc seen h.0 doc h.1 h.2 short

-- in a piece

pub piece_ended : (seen piece : List ℕ) (k : ℕ) (e : ReadFault) → k < length piece → IsEnd ((seen ++ take k piece) ++ get_or piece k 0 ∷ []) e → IsEnd (seen ++ piece) e
piece_ended seen piece k e within h =
    let P : List ℕ → Type 0 = λ w. IsEnd w e in
    subst P (ap (λ w. w ++ drop (k + 1) piece) (sym (piece_step seen piece k within)) ∙ append_assoc seen (take (k + 1) piece) (drop (k + 1) piece) ∙ ap (λ w. seen ++ w) (take-append-drop (k + 1) piece))
    (end_longer ((seen ++ take k piece) ++ get_or piece k 0 ∷ []) (drop (k + 1) piece) e h)
