-- What a turn at a desk is to the session that made it.
use Rattle.std.proofs.Common.{◌≡◌, ℕ, List, [], ◌∷◌, length, IfOk, Result, sym, ap, ◌∙◌, arith}
use Rattle.std.specs.Prelude.{slice_index_or}
use Rattle.std.specs.List.{Contains}
use Rattle.std.specs.declared.alloc.AllocError.{AllocError}
use Rattle.ground_model.specs.declared.edit.Edit.{Edit}
use Rattle.ground_model.specs.History.{IsLegal}
use Rattle.line_protocol.specs.declared.reply.Reply.{Reply}
use Rattle.line_protocol.specs.declared.request.Request.{Request}
use Rattle.turn_lock.specs.Journal.{OthersAdded}
use Rattle.turn_lock.specs.Seat.{Seat, numbers_of}
use Rattle.turn_lock.specs.declared.journal.Journal.{Journal}
use Rattle.store.specs.Versions.{VersionView, PlanView}
use Rattle.store.specs.declared.answers.Applied.{Applied}
use Rattle.store.specs.declared.answers.Commit.{Commit}
use Rattle.desk.specs.Turns.{Finds, CommitsInTurn, AppliesInTurn}
use Rattle.session.specs.Sessions.{SessionView, Begins, Ends}
use Rattle.session.specs.declared.session.Work.TheVariants as works
use Rattle.session.specs.declared.session.WorkDone.TheVariants as dones
use Rattle.session.proofs.Stepped.{turn-hold, turn-commit, turn-apply}
use Rattle.serve.specs.AtDesk.{Goes, TurnsAt}

-- a turn found one front more
goes-on : (old new : Seat) (found : Journal) → Finds old new found → Goes old new (length found.entries ∷ [])
goes-on old new found f =
    let fronts = ap (λ (s : Seat). s.found) f.pass in
    record {
      pass = f.pass ∙ ap (λ (fs : List ℕ). record old { seen = new.seen; found = fs }) (sym fronts);
      found = fronts;
    }

-- what those joined into a pass and its author didn't add, its author didn't add
pub by-others : (p : Seat) (x y : Journal) → OthersAdded (numbers_of p) x y → OthersAdded (p.number ∷ []) x y
by-others p x y added = record { prefix = added.prefix; own = λ a is. added.own a (among a is) }
  where
    among : (a : ℕ) → Contains (p.number ∷ []) a → Contains (numbers_of p) a
    among a is =
        let first : is.0 ≡ 0 = omega (arith, is.1) in
        let same : p.number ≡ a = ap (λ k. slice_index_or (p.number ∷ []) k a) (sym first) ∙ is.2 in
        (0, omega arith, same)

module _ (old new : Seat) (before mid after : SessionView) (request : Request) (reply : Reply) (legal : IsLegal new.seen.limits new.seen.entries) where
  pub hold-at : (r : Result VersionView AllocError) → Begins before mid request works.Hold → Finds old new new.seen → IfOk r (λ version. version.journal ≡ new.seen) → Ends mid after (dones.Held r) reply → TurnsAt old new before after request reply
  hold-at r begins finds version ends = record {
    found = new.seen;
    added = by-others old old.seen new.seen finds.added;
    step = turn-hold before mid after new.seen request r reply begins version ends;
    legal = legal;
    finds = goes-on old new new.seen finds;
  }

  pub commit-at : (plan : PlanView) (r : Commit) → before.author ≡ old.number → Begins before mid request (works.Commit plan) → CommitsInTurn old new plan r → Ends mid after (dones.Committed r) reply → TurnsAt old new before after request reply
  commit-at plan r own begins turn ends = record {
    found = turn.found;
    added = by-others old old.seen turn.found turn.finds.added;
    step = turn-commit old.number before mid after turn.found new.seen request plan r reply own begins turn.commits ends;
    legal = legal;
    finds = goes-on old new turn.found turn.finds;
  }

  pub apply-at : (edit : Edit) (r : Applied) → before.author ≡ old.number → Begins before mid request (works.Apply edit) → AppliesInTurn old new edit r → Ends mid after (dones.Applied r) reply → TurnsAt old new before after request reply
  apply-at edit r own begins turn ends = record {
    found = turn.found;
    added = by-others old old.seen turn.found turn.finds.added;
    step = turn-apply old.number before mid after turn.found new.seen request edit r reply own begins turn.applies ends;
    legal = legal;
    finds = goes-on old new turn.found turn.finds;
  }
