-- A draft that couldn't be loaded, and what was written of it.
use Rattle.std.proofs.Common.{ℕ, ◌+◌, List, [], length, Option, None, Some, subst}
use Rattle.std.specs.List.{position}
use Rattle.std.specs.declared.result.Result.{Result}
use Rattle.std.specs.declared.result.Result.TheVariants.{Ok, Err}
use Rattle.ground_model.specs.declared.limits.Limits.{Limits}
use Rattle.ground_model.specs.declared.refusal.Refusal.{Refusal}
use Rattle.landxml_surface.specs.declared.draft.Draft.{Draft}
use Rattle.landxml_surface.specs.declared.origin.OriginRule.{OriginRule}
use Rattle.document_source.specs.declared.drafted.Drafted.{Drafted}
use Rattle.document_source.specs.declared.fault.SourceFault.{SourceFault}
use Rattle.document_law.specs.Reloaded.{edits_of}
use Rattle.draft_load.specs.Loads.{ground_of, Refuses}
use Rattle.document_commands.specs.declared.ending.Ending.{Ending}
use Rattle.document_commands.specs.declared.ending.Ending.TheVariants.{Done, BadDocument, ReadFault, WriteFault, Memory, TooLarge, BadSurface}
use Rattle.document_commands.specs.Faults.{refused_line}
use Rattle.document_commands.specs.Reaching.{Fails, Writes}
use Rattle.document_commands.specs.Rewriting.{is_asked, text_of, OpensAt, OpensFor, Opens, WritesAt, Answers, Rewrites}
use Rattle.document_commands.specs.Streams.{Stream, Sides, WritesLine}

module _ (limits : Limits) (number : ℕ) (d : Draft) where
  -- a draft that is refused, and its fault line
  pub refused_so : (before after : Stream) (line : ℕ) (cause : Refusal) → Refuses (ground_of d limits) (edits_of d) (length d.points) line cause → WritesLine before after [] (refused_line number line d.head.origin cause) → Fails limits number d before after BadSurface
  refused_so before after line cause f w = ((f.front, cause), f.first, subst (λ n. WritesLine before after [] (refused_line number n d.head.origin cause)) f.number w)

  module _ (text : List ℕ) (before : Stream) where
    -- nothing of the text was written
    pub failed : (after : Stream) (end : Ending) → Fails limits number d before after end → Writes limits number d text before after end
    failed after Done h = absurd h
    failed after BadDocument h = absurd h
    failed after ReadFault h = absurd h
    failed after WriteFault h = absurd h
    failed after TooLarge h = absurd h
    failed after BadSurface h = h
    failed after Memory h = h

-- ---- the surface that is asked for
module _ (name : Option (List ℕ)) (rule : OriginRule) (limits : Limits) (before after : Sides) where
  -- not there, or not loaded
  pub not_rewritten : (end : Ending) → Opens name rule limits before after (Err end) → Rewrites name rule limits before after end
  not_rewritten end o = record { came = o.came; reads = o.reads; cause = o.cause; answers = by o.came o.opens }
    where
      at : (drafted : Drafted) (k : Option ℕ) → OpensAt limits drafted before.sink after.sink (Err end) k → WritesAt limits drafted before.sink after.sink end k
      at drafted None h = h
      at drafted (Some k) h = (h.0, h.1, failed limits (k + 1) h.0 (text_of limits h.0) before.sink after.sink end h.2)

      by : (came : Result Drafted SourceFault) → OpensFor name limits before.sink after.sink (Err end) came → Answers name limits before.sink after.sink end came
      by (Ok drafted) h = at drafted (position (is_asked name) drafted.drafts) h
      by (Err fault) h = h
