-- A reader that is fed a piece more, up to the most bytes of a document.
use Rattle.std.proofs.Common.{arith, ◌≡◌, ◌+◌, ◌-◌, ◌<◌, ◌≤◌, ℕ, List, ◌++◌, length, take, Option, None, Some, min, refl, sym, ap, ◌∙◌, subst, length-append, nat_lt, Bool, true, false}
use Rattle.std.proofs.lemmas.Bool.Decides.{nat_tests}
use Rattle.std.specs.declared.result.Result.{Result}
use Rattle.std.specs.declared.result.Result.TheVariants.{Err}
use Rattle.std.specs.Io.KnownBytes.{Consumes}
use Rattle.std.proofs.KnownBytes.{Consumes-trans}
use Rattle.std.proofs.lemmas.List.{take_all}
use Rattle.std.proofs.Math.Seq.{take-append-add}
use Rattle.landxml_read.specs.declared.course.Course.{Course}
use Rattle.landxml_read.specs.declared.fault.DocFault.{DocFault}
use Rattle.landxml_read.specs.declared.fault.ReadFault.{ReadFault}
use Rattle.landxml_read.specs.declared.fault.ReadFault.TheVariants.{Doc, Memory}
use Rattle.landxml_read.specs.declared.reader.Reader.{Reader}
use Rattle.document_source.specs.declared.fault.SourceFault.{SourceFault}
use Rattle.document_source.specs.declared.fault.SourceFault.TheVariants.{Failed}
use Rattle.landxml_read.specs.Course.{IsEnd}
use Rattle.landxml_read.specs.Reader.{fed, HasReadBy, HasReadAll}
use Rattle.landxml_read.proofs.Readers.{taken_of}
use Rattle.document_source.specs.Reading.{longest, ShowsNoFault, fault_of}
use Rattle.document_source.specs.Feeding.{IsGoing, IsCutOff, FeedsPiece, FeedsAll}
use Rattle.document_source.proofs.NoFault.{taken_quietly}

-- the bytes that a reader is fed are the first of all
pub fed_front : (seen piece : List ℕ) (count front : ℕ) → count ≡ length seen → count ≤ longest → front ≡ min (length piece) (longest - count) → take longest (seen ++ piece) ≡ seen ++ take front piece
fed_front seen piece count front size within is =
    let all : longest ≡ length seen + (longest - count) = omega arith in
    ap (λ n. take n (seen ++ piece)) all ∙ take-append-add seen piece (longest - count) ∙ ap (λ xs. seen ++ xs) (by (nat_lt (longest - count) (length piece)) refl)
  where
    by : (a : Bool) → nat_lt (longest - count) (length piece) ≡ a → take (longest - count) piece ≡ take front piece
    by true e = let same : front ≡ longest - count = grind (arith, nat_tests) in ap (λ n. take n piece) (sym same)
    by false e = let le : length piece ≤ longest - count = grind (arith, nat_tests) in let same : front ≡ length piece = omega arith in take_all (longest - count) piece le ∙ sym (take_all front piece (omega arith))

end_of : (seen : List ℕ) (c : Course) (e : ReadFault) (o : Option ReadFault) → o ≡ Some e → HasReadBy seen c o → IsEnd seen e
end_of seen c e None is h = cc
end_of seen c e (Some x) is h = let same : x ≡ e = cc in let P : ReadFault → Type 0 = IsEnd seen in subst P same h

cut_by : (read : List ℕ) (e : ReadFault) → IsEnd (take longest read) e → IsCutOff read (fault_of e)
cut_by read (Doc f) h = h
cut_by read Memory h = tt

-- a fault that a piece shows
pub piece_cut : (seen piece : List ℕ) (count front : ℕ) (r : Reader) (e : ReadFault) → count ≡ length seen → count ≤ longest → front ≡ min (length piece) (longest - count) → r.ended ≡ Some e → HasReadAll (seen ++ take front piece) r → IsCutOff (seen ++ piece) (fault_of e)
piece_cut seen piece count front r e size within is ended h =
    let P : List ℕ → Type 0 = λ w. IsEnd w e in
    cut_by (seen ++ piece) e (subst P (sym (fed_front seen piece count front size within is)) (end_of (seen ++ take front piece) r.course e r.ended ended h))

quiet_reader : (seen : List ℕ) (r : Reader) → r.ended ≡ None → HasReadAll seen r → ShowsNoFault seen
quiet_reader seen r ended h = taken_quietly seen r.course (taken_of seen r.course r.ended ended h)

-- more bytes than a document has
pub piece_large : (seen piece : List ℕ) (count front : ℕ) (r : Reader) → count ≡ length seen → count ≤ longest → front ≡ min (length piece) (longest - count) → front < length piece → r.ended ≡ None → HasReadAll (seen ++ take front piece) r
    → (longest < length (seen ++ piece)) × ShowsNoFault (take longest (seen ++ piece))
piece_large seen piece count front r size within is more ended h =
    let P : List ℕ → Type 0 = ShowsNoFault in
    (simp length-append (omega arith), subst P (sym (fed_front seen piece count front size within is)) (quiet_reader (seen ++ take front piece) r ended h))

-- a piece that shows none
pub piece_fed : (seen piece : List ℕ) (count front : ℕ) (r : Reader) → count ≡ length seen → count ≤ longest → front ≡ min (length piece) (longest - count) → length piece ≤ front → r.ended ≡ None → fed r ≡ count + front → HasReadAll (seen ++ take front piece) r
    → IsGoing (seen ++ piece) r (count + front)
piece_fed seen piece count front r size within is all ended now h =
    let P : List ℕ → Type 0 = λ w. HasReadAll (seen ++ w) r in
    let same : HasReadAll (seen ++ piece) r = subst P (take_all front piece all) h in
    record {
      reading = same;
      quiet = quiet_reader (seen ++ piece) r ended same;
      taken = now;
      size = simp length-append (omega arith);
      within = omega arith;
    }

-- no fault of a reader is a read that failed
pub never_failed : (e : ReadFault) (f : SourceFault) → f ≡ fault_of e → ◌≡◌ {A = Result ℕ SourceFault} (Err f) (Err Failed) → ⊥
never_failed (Doc d) f is same = cc
never_failed Memory f is same = cc

-- what a piece ends is ended for all bytes
pub cut_all : (a b c : Option (List ℕ)) (seen bytes : List ℕ) (count : ℕ) (r s : Reader) (f : SourceFault) → Consumes a b seen → IsGoing seen r count → Consumes b c bytes → FeedsPiece r s count bytes (Err f) → FeedsAll a c s (Err f)
cut_all a b c seen bytes count r s f first going more h = record { read = seen ++ bytes; consumed = Consumes-trans a b c seen bytes first more; comes = h seen going }
