-- From the bytes of a source to drafts.
use Rattle.std.proofs.Common.{arith, ◌≡◌, ◌≤◌, ℕ, List, length, Option, None, Some, inl, inr, refl, ap, ◌∙◌, subst, map}
use Rattle.std.specs.declared.result.Result.{Result}
use Rattle.std.specs.declared.result.Result.TheVariants.{Ok, Err}
use Rattle.landxml_read.specs.declared.fault.DocFault.{DocFault}
use Rattle.landxml_read.specs.declared.fault.ReadFault.{ReadFault}
use Rattle.landxml_read.specs.declared.fault.ReadFault.TheVariants as reader
use Rattle.landxml_read.specs.declared.raw.RawDoc.{RawDoc}
use Rattle.landxml_read.specs.declared.raw.RawSurface.{RawSurface}
use Rattle.landxml_read.specs.declared.reader.Reader.{Reader}
use Rattle.landxml_read.specs.Lawful.{IsLawful}
use Rattle.landxml_read.specs.Reader.{HasReadAll, IsRead, IsEndOf}
use Rattle.landxml_surface.specs.declared.origin.OriginRule.{OriginRule}
use Rattle.landxml_surface.specs.Drafts.{document_faults}
use Rattle.landxml_surface.specs.Faults.{least_of}
use Rattle.document_source.specs.declared.drafted.Read.{Read}
use Rattle.document_source.specs.declared.fault.SourceFault.{SourceFault}
use Rattle.document_source.specs.declared.fault.SourceFault.TheVariants.{Document, TooLarge, Failed, Memory}
use Rattle.document_source.specs.Feeding.{FeedsAll, ReadsWhole}
use Rattle.document_source.specs.Reading.{longest, fault_of, ReadsDrafts}

module _ (before after : Option (List ℕ)) where
  -- a reader that was fed all bytes
  pub read_of : (r : Reader) (count : ℕ) (doc : RawDoc) → FeedsAll before after r (Ok count) → ((seen : List ℕ) → HasReadAll seen r → IsRead seen doc) → ((seen : List ℕ) → HasReadAll seen r → IsLawful doc)
      → ReadsWhole before after (Ok (record { length = count; doc = doc }))
  read_of r count doc f whole lawful =
      let going = f.comes.0 in
      let size = going.size in
      let within = going.within in
      record { read = f.read; consumed = f.consumed; comes = record { doc = whole f.read going.reading; lawful = lawful f.read going.reading; size = size; within = omega (arith, size, within); end = f.comes.1 } }

  -- a fault at the end of the bytes
  pub fault_at_end : (r : Reader) (count : ℕ) (e : ReadFault) → FeedsAll before after r (Ok count) → ((seen : List ℕ) → HasReadAll seen r → IsEndOf seen e) → ReadsWhole before after (Err (fault_of e))
  fault_at_end r count (reader.Doc d) f ends =
      let going = f.comes.0 in
      let size = going.size in
      let within = going.within in
      record { read = f.read; consumed = f.consumed; comes = inr (omega (arith, size, within), f.comes.1, ends f.read going.reading) }
  fault_at_end r count reader.Memory f ends = record { read = f.read; consumed = f.consumed; comes = tt }

  module _ (rule : OriginRule) where
    -- no document
    pub unread : (f : SourceFault) → ReadsWhole before after (Err f) → ReadsDrafts rule before after (Err f)
    unread (Document d) w = record { read = w.read; consumed = w.consumed; comes = elim w.comes [ inl x ↦ inl x | inr x ↦ inr (x.0, x.1, inl x.2) ] }
    unread TooLarge w = record { read = w.read; consumed = w.consumed; comes = w.comes }
    unread Failed w = record { read = w.read; consumed = w.consumed; comes = w.comes }
    unread Memory w = record { read = w.read; consumed = w.consumed; comes = tt }

    -- a fault of the surfaces
    pub surfaces_fault : (read : Read) (e : ReadFault) → ReadsWhole before after (Ok read) → ((f : DocFault) → ◌≡◌ {A = Result (List ℕ) ReadFault} (Err e) (Err (reader.Doc f)) → least_of (document_faults rule read.doc.surfaces) ≡ Some f) → ReadsDrafts rule before after (Err (fault_of e))
    surfaces_fault read (reader.Doc d) w least =
        let tree = w.comes.doc in
        record { read = w.read; consumed = w.consumed; comes = inr (w.comes.within, w.comes.end, inr (tree.0, tree.1, subst (λ (ss : List RawSurface). least_of (document_faults rule ss) ≡ Some d) tree.2.surfaces (least d refl))) }
    surfaces_fault read reader.Memory w least = record { read = w.read; consumed = w.consumed; comes = tt }
