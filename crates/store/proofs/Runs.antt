-- An event of a run, and all of them.
use Rattle.std.proofs.Common.{◌≡◌, ℕ, suc, ◌+◌, ◌<◌, ◌++◌, [], ◌∷◌, List, length, drop, get_or, arith, drop-cons, Bool, true, false, cond, Option, None, Some, refl, sym, ap, subst, ◌∙◌, append_assoc}
use Rattle.std.specs.Prelude.{nat_eq}
use Rattle.std.specs.BTreeMap.{is_at}
use Rattle.std.specs.Map.{lookup}
use Rattle.std.specs.Ordering.{nat_cmp}
use Rattle.turn_lock.specs.Journal.{IsPrefix}
use Rattle.turn_lock.specs.declared.journal.Journal.{Journal}
use Rattle.turn_lock.proofs.Prefix.{prefix_trans}
use Rattle.store.specs.declared.event.CoreReply.{CoreReply}
use Rattle.store.specs.declared.event.Event.{Event}
use Rattle.store.specs.declared.run.Run.{Run}
use Rattle.store.specs.Versions.{StoreView, VersionView}
use Rattle.store.specs.Core.{Holding, first_holding, session_of, move, move_at, core_from}
use Rattle.store.specs.Members.{MemberView, holding_of, holding_at, Makes}
use Rattle.store.specs.Runs.{member_at, state_of, HoldsPrefix, IsTaken, Serves}
use Rattle.store.proofs.Counted.{at-equal}

-- ---- a session's first event

pub first-held : (j first : Journal) (m : MemberView) → first ≡ record j { entries = [] } → m ≡ record { journal = first; pending = None } → IsPrefix m.journal j
first-held j first m empty is = subst (λ k. IsPrefix k j) (sym (ap (λ (x : MemberView). x.journal) is ∙ empty)) (j.entries, refl)

pub first-holding : (j first : Journal) (m : MemberView) → first ≡ record j { entries = [] } → m ≡ record { journal = first; pending = None } → holding_of m ≡ first_holding
first-holding j first m empty is = ap holding_of is ∙ ap (λ (k : Journal). record { front = length k.entries; pending = None }) empty

-- ---- one event

holds-longer : (j k : Journal) (m : Option MemberView) → IsPrefix j k → HoldsPrefix j m → HoldsPrefix k m
holds-longer j k None grows held = tt
holds-longer j k (Some m) grows held = prefix_trans m.journal j k held grows

module _ (old taken mid now : Run) (event : Event) (m n : MemberView) (reply : CoreReply) where
  pub serves : (s : ℕ) → s ≡ session_of event → IsTaken (old, taken) s m
      → Makes (taken.store.journal, mid.store.journal) (move taken.store.journal.limits taken.store.journal.entries (holding_of m) event) n reply
      → mid.first ≡ taken.first → mid.members.entries ≡ taken.members.entries → now.store ≡ mid.store → now.first ≡ mid.first
      → ((t : ℕ) → lookup (is_at (nat_cmp t)) now.members.entries ≡ cond (is_at (nat_cmp s) t) (Some n) (lookup (is_at (nat_cmp t)) mid.members.entries))
      → Serves (old, now) event reply
  serves s own took makes first members store firsts updates =
      let there : taken.store.journal ≡ old.store.journal = ap (λ (x : StoreView). x.journal) took.store in
      let newest : now.store.journal ≡ mid.store.journal = ap (λ (x : StoreView). x.journal) store in
      let here : move taken.store.journal.limits taken.store.journal.entries (holding_of m) event ≡ move_at old.store.journal.limits (state_of old) event =
      (λ i. move (there i).limits (there i).entries (took.holding i) event) ∙ ap (λ t. move old.store.journal.limits old.store.journal.entries (holding_at (member_at old t)) event) own in
      let made : Makes (old.store.journal, mid.store.journal) (move_at old.store.journal.limits (state_of old) event) n reply =
      subst (λ j. Makes (j, mid.store.journal) (move_at old.store.journal.limits (state_of old) event) n reply) there (subst (λ mv. Makes (taken.store.journal, mid.store.journal) mv n reply) here makes) in
      let same : (t : ℕ) → member_at mid t ≡ member_at taken t = λ t. ap (λ es. lookup (is_at (nat_cmp t)) es) members in
      let chosen : (t : ℕ) → member_at now t ≡ cond (nat_eq s t) (Some n) (member_at taken t) = λ t.
      updates t ∙ (λ i. cond (at-equal s t i) (Some n) (same t i)) in
      record {
        run = record {
          first = ap (λ (v : VersionView). v.journal) (firsts ∙ first) ∙ took.run.first ∙ (λ i. record (there i) { entries = [] }) ∙ sym (ap (λ (j : Journal). record j { entries = [] }) (newest ∙ made.journal));
          held = λ t. subst (HoldsPrefix now.store.journal) (sym (chosen t)) (subst (λ j. HoldsPrefix j (cond (nat_eq s t) (Some n) (member_at taken t))) (sym newest) (held-now (nat_eq s t) (member_at taken t) made.held (holds-longer old.store.journal mid.store.journal (member_at taken t) made.grows (subst (λ j. HoldsPrefix j (member_at taken t)) there (took.run.held t)))));
        };
        limits = ap (λ (j : Journal). j.limits) (newest ∙ made.journal);
        state = λ i. record { history = entries newest made i; holdings = λ t. holdings own took chosen made t i };
        reply = made.reply;
      }
    where
      held-now : (b : Bool) (k : Option MemberView) → IsPrefix n.journal mid.store.journal → HoldsPrefix mid.store.journal k → HoldsPrefix mid.store.journal (cond b (Some n) k)
      held-now true k mine other = mine
      held-now false k mine other = other

      entries : now.store.journal ≡ mid.store.journal → Makes (old.store.journal, mid.store.journal) (move_at old.store.journal.limits (state_of old) event) n reply → now.store.journal.entries ≡ (move_at old.store.journal.limits (state_of old) event).history
      entries newest made = ap (λ (j : Journal). j.entries) (newest ∙ made.journal)

      by : (b : Bool) (t : ℕ) (x y : Holding) → holding_of n ≡ x → (b ≡ false → holding_at (member_at taken t) ≡ y) → holding_at (cond b (Some n) (member_at taken t)) ≡ cond b x y
      by true t x y mine other = mine
      by false t x y mine other = other refl

      holdings : s ≡ session_of event → IsTaken (old, taken) s m → ((t : ℕ) → member_at now t ≡ cond (nat_eq s t) (Some n) (member_at taken t)) → Makes (old.store.journal, mid.store.journal) (move_at old.store.journal.limits (state_of old) event) n reply
          → (t : ℕ) → holding_at (member_at now t) ≡ cond (nat_eq (session_of event) t) (move_at old.store.journal.limits (state_of old) event).holding (holding_at (member_at old t))
      holdings own took chosen made t =
          ap holding_at (chosen t)
          ∙ by (nat_eq s t) t (move_at old.store.journal.limits (state_of old) event).holding (holding_at (member_at old t)) made.holding (λ e. ap holding_at (took.others t e))
          ∙ ap (λ k. cond (nat_eq k t) (move_at old.store.journal.limits (state_of old) event).holding (holding_at (member_at old t))) own

-- ---- all events

pub runs-on : (old now : Run) (events : List Event) (i : ℕ) (event : Event) (replies : List CoreReply) (reply : CoreReply) → i < length events → event ≡ get_or events i event → Serves (old, now) event reply
    → (replies ++ reply ∷ []) ++ (core_from now.store.journal.limits (state_of now) (drop (i + 1) events)).1 ≡ replies ++ (core_from old.store.journal.limits (state_of old) (drop i events)).1
runs-on old now events i event replies reply within is served =
    let rest : drop i events ≡ event ∷ drop (i + 1) events = drop-cons events i event within ∙ (λ k. sym is k ∷ drop (next k) events) in
    append_assoc replies (reply ∷ []) (core_from now.store.journal.limits (state_of now) (drop (i + 1) events)).1
    ∙ ap (λ more. replies ++ more) ((λ k. served.reply k ∷ (core_from (served.limits k) (served.state k) (drop (i + 1) events)).1) ∙ ap (λ es. (core_from old.store.journal.limits (state_of old) es).1) (sym rest))
  where
    next : suc i ≡ i + 1
    next = omega arith
