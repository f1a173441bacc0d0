-- The rule at the start, after a split, after a join, and what it says at the end.
use Rattle.std.proofs.Common.{◌≡◌, ◌≢◌, inl, inr, max, ℕ, zero, suc, ◌+◌, ◌<◌, ◌≤◌, false, eqb, List, [], ◌∷◌, ◌++◌, length, set, refl, sym, ap, ◌∙◌, subst, ⊎_elim, arith, Option, Some, length-set, length-append, append-nil, true≢false}
use mathlib.Core.Option.{some, some-injective, some-ne-none}
use mathlib.Core.Logic.{dite}
use native.Mathlib.Decide.{ℕ_discrete}
use lib.ListN.{get_elem?}
use Rattle.std.specs.List.{list_any, All, Contains}
use Rattle.std.proofs.lemmas.Bool.{false_from_ne_true}
use Rattle.std.proofs.lemmas.List.Elements.{All-nil, All-weaker}
use Rattle.atomic_table.specs.Table.{State, Splits, Joins, opening}
use Rattle.atomic_table.proofs.Lists.{set_here, set_else, at_longer}
use Rattle.ground_model.specs.declared.entry.Entry.{Entry}
use Rattle.turn_lock.specs.declared.journal.Journal.{Journal}
use Rattle.turn_lock.specs.declared.view.View.{View}
use Rattle.turn_lock.specs.declared.view.Stage.TheVariants.{Idle}
use Rattle.turn_lock.specs.Journal.{IsPrefix, entries_by, OthersAdded, AddedBy}
use Rattle.turn_lock.specs.Rule.{IsHolding, IsSeat, AtStage, Fits, Slot, InTurn}
use Rattle.turn_lock.specs.Steps.{opener, left_by_split, right_by_split, joined, spent}
use Rattle.turn_lock.proofs.Queue.{at_lt, at_one, only_one, one_distinct, none_apart, distinct_append}
use Rattle.turn_lock.proofs.Prefix.{prefix_refl, prefix_length, longer_prefix, longer_left, longer_right, longer_whole}
use Rattle.turn_lock.proofs.Authors.{seats_stay, at_end, longer_by, auth_split, auth_join}
use Rattle.turn_lock.proofs.Stages.{idle_not_holding, holding_seat}
use Rattle.turn_lock.proofs.Moves.{still_bounded}

max_given : (m n count : ℕ) → (0 < m → m ≡ count) → (0 < n → n ≡ count) → 0 < max m n → max m n ≡ count
max_given m n count a b h = dite (ℕ_discrete m 0) (λ z. dite (ℕ_discrete n 0) (λ y. absurd (omega arith)) (λ y. let e = b (omega arith) in omega arith))
    (λ z. let d = a (omega arith) in dite (ℕ_discrete n 0) (λ y. omega arith) (λ y. let e = b (omega arith) in omega arith))

module _ {S : Type 0} (journal : S → Journal) (seats : ℕ) (origin : Journal) where
  abbrev Rule : State (Option S) View → Type 0
  Rule = InTurn journal seats origin

  pub starts : (x : S) (front : ℕ) → front ≡ length (journal x).entries → 0 < seats → seats ≤ 65536 → origin ≡ journal x → Rule (opening (front ∷ 0 ∷ 0 ∷ []) (Some x ∷ []) (opener (journal x)))
  starts x front size one small begin = record {
    log = journal x;
    first = 0;
    queue = [];
    out = false;
    giver = 0;
    words = ap (λ f. f ∷ 0 ∷ 0 ∷ []) size;
    few = omega arith;
    small = small;
    apart = none_apart;
    inside = λ q h. absurd (true≢false (sym h));
    busy = λ f. absurd (true≢false (sym f));
    known = (0, opener (journal x), refl, omega arith, refl);
    authored = record {
      owner = λ _. 0;
      past = [];
      began = from.1;
      named = All-nil (λ (e : Entry). (0 < e.author) × (e.author ≤ 1));
      owned = its;
      begun = λ j v e p. subst (λ (u : View). IsPrefix origin u.seen) (sole j v e).1 from;
    };
    slot = (x, refl, refl);
    each = only;
  }
    where
      from : IsPrefix origin (journal x)
      from = ([], sym begin ∙ ap (λ (l : List Entry). record origin { entries = l }) (sym (append-nil origin.entries)))

      sole : (j : ℕ) (v : View) → get_elem? (opener (journal x) ∷ []) j ≡ some v → (j ≡ 0) × (opener (journal x) ≡ v)
      sole zero v e = (refl, some-injective (opener (journal x)) v e)
      sole (suc j) v e = absurd (some-ne-none v (sym e))

      its : (j : ℕ) (v : View) → get_elem? (opener (journal x) ∷ []) j ≡ some v → (a : ℕ) → Contains v.numbers a → (0 ≡ j) × (0 < a) × (a ≤ 1) × (entries_by a (journal x).entries ≡ entries_by a v.seen.entries)
      its j v e a m = let t = sole j v e in let is : a ≡ 1 = only_one a 1 (subst (λ (u : View). Contains u.numbers a) (sym t.1) m) in
          (sym t.0, omega arith, omega arith, ap (λ (u : View). entries_by a u.seen.entries) t.1)

      only : (j : ℕ) (v : View) → get_elem? (opener (journal x) ∷ []) j ≡ some v → Fits (journal x) 0 [] false 0 1 j v
      only zero v e = subst (Fits (journal x) 0 [] false 0 1 0) (some-injective (opener (journal x)) v e)
          record { prefix = λ _. prefix_refl (journal x); bounded = All-nil (λ f. f ≤ length (journal x).entries); given = λ _. (refl, refl); distinct = one_distinct 1; spent = λ z. absurd (omega arith); stage = refl }
      only (suc j) v e = absurd (some-ne-none v (sym e))

  pub splits : (id : ℕ) (v : View) → 0 < v.given → v.given < seats → IsSeat v → Splits Rule id v (left_by_split v) (right_by_split v)
  splits id v one few seat s r at =
      let w : View = left_by_split v in
      let o : View = right_by_split v in
      let vs : List View = set s.views id w ++ o ∷ [] in
      let mine = r.each id v at in
      let count : v.given ≡ length s.views = (mine.given one).1 in
      let len : length vs ≡ length s.views + 1 = let a = length-set s.views id w in omega (arith, length-append (set s.views id w) (o ∷ [])) in
      let free : list_any (eqb (length s.views)) r.queue ≡ false = false_from_ne_true _ (λ h. let low = r.inside (length s.views) h in absurd (omega arith)) in
      let here : get_elem? vs id ≡ some w = at_longer (set s.views id w) (o ∷ []) id w (set_here s.views id w (at_lt s.views id v at)) in
      let else_here : (j : ℕ) (u : View) → j ≢ id → get_elem? s.views j ≡ some u → get_elem? vs j ≡ some u = (λ j u ne e. at_longer (set s.views id w) (o ∷ []) j u (set_else s.views id j w ne ∙ e)) in
      record {
        log = r.log;
        first = r.first;
        queue = r.queue;
        out = r.out;
        giver = r.giver;
        words = r.words;
        few = omega arith;
        small = r.small;
        apart = r.apart;
        inside = λ q h. let low = r.inside q h in omega arith;
        busy = λ h. let b = r.busy h in dite (ℕ_discrete b.0 id)
            (λ e. let same : b.1 ≡ v = at_one s.views id b.1 v (subst (λ k. get_elem? s.views k ≡ some b.1) e b.2) at in (id, w, here, subst IsHolding same b.3))
            (λ ne. (b.0, b.1, else_here b.0 b.1 ne b.2, b.3));
        known = let b = r.known in dite (ℕ_discrete b.0 id)
            (λ e. (id, w, here, seat, ap (λ (x : View). x.seen) (at_one s.views id v b.1 at (subst (λ k. get_elem? s.views k ≡ some b.1) e b.2)) ∙ b.4))
            (λ ne. (b.0, b.1, else_here b.0 b.1 ne b.2, b.3, b.4));
        authored = auth_split origin r.log s.views id v r.authored at seat count (mine.prefix seat);
        slot = r.slot;
        each = λ j u e. ⊎_elim
            (seats_stay (Fits r.log r.first r.queue r.out r.giver (length vs)) s.views id w
            record { prefix = mine.prefix; bounded = mine.bounded; given = λ _. ((mine.given one).0, let g : v.given + 1 ≡ length vs = omega arith in g); distinct = mine.distinct; spent = mine.spent; stage = mine.stage }
            (λ k x ne a. let f = r.each k x a in record { prefix = f.prefix; bounded = f.bounded; given = λ p. absurd (ne ((f.given p).0 ∙ sym (mine.given one).0)); distinct = f.distinct; spent = f.spent; stage = f.stage })
            j u)
            (λ (t : (j ≡ length (set s.views id w)) × (o ≡ u)).
            subst (λ (x : ℕ × View). Fits r.log r.first r.queue r.out r.giver (length vs) x.0 x.1) (λ i. ((let g : length s.views ≡ j = sym (length-set s.views id w) ∙ sym t.0 in g) i, t.1 i))
            record { prefix = λ _. mine.prefix seat; bounded = All-nil (λ f. f ≤ length v.seen.entries); given = λ p. absurd (omega arith); distinct = one_distinct (v.given + 1); spent = λ z. absurd (omega arith); stage = free })
            (at_end (set s.views id w) o u j e);
      }

  pub joins : (id : ℕ) (v : View) (other : ℕ) (u : View) → v.stage ≡ Idle → u.stage ≡ Idle → IsSeat v → IsSeat u → Joins Rule id v other u (joined v u) spent
  joins id v other u idle idle' seat seat' s r at apart there =
      let w : View = joined v u in
      let vs : List View = set s.views id w in
      let mine = r.each id v at in
      let len : length (set vs other spent) ≡ length s.views = length-set vs other spent ∙ length-set s.views id w in
      let was : get_elem? s.views other ≡ some u = sym (set_else s.views id other w apart) ∙ there in
      let its = r.each other u was in
      let pre : IsPrefix v.seen r.log = mine.prefix seat in
      let pre' : IsPrefix u.seen r.log = its.prefix seat' in
      let here : get_elem? (set vs other spent) id ≡ some w = set_else vs other id spent (λ e. apart (sym e)) ∙ set_here s.views id w (at_lt s.views id v at) in
      let both : length w.numbers ≡ length v.numbers + length u.numbers = omega (arith, length-append v.numbers u.numbers) in
      let mine_kept : OthersAdded v.numbers v.seen w.seen = record { prefix = longer_left r.log v.seen u.seen pre pre'; own = λ a m. let k = (r.authored.owned id v at a m).3 in sym (longer_by a r.log v.seen u.seen pre pre' (inl k)) ∙ k } in
      let its_kept : OthersAdded u.numbers u.seen w.seen = record { prefix = longer_right r.log v.seen u.seen pre pre'; own = λ a m. let k = (r.authored.owned other u was a m).3 in sym (longer_by a r.log v.seen u.seen pre pre' (inr k)) ∙ k } in
      let away : list_any (eqb id) r.queue ≡ false = subst (AtStage r.log r.first r.queue r.out id v.seen) idle mine.stage in
      let gives : (k : ℕ) × (0 < max v.given u.given → id ≡ k) × ((j : ℕ) → j ≢ other → j ≡ r.giver → j ≡ k) =
      dite (ℕ_discrete u.given 0) (λ z. (r.giver, (λ h. (mine.given (omega arith)).0), λ j _ e. e)) (λ nz. (id, (λ _. refl), λ j ne e. absurd (ne (e ∙ sym (its.given (omega arith)).0)))) in
      let F : ℕ → View → Type 0 = Fits r.log r.first r.queue r.out gives.0 (length (set vs other spent)) in
      record {
        log = r.log;
        first = r.first;
        queue = r.queue;
        out = r.out;
        giver = gives.0;
        words = r.words;
        few = let f = r.few in omega arith;
        small = r.small;
        apart = r.apart;
        inside = λ q h. let low = r.inside q h in omega arith;
        busy = λ h. let b = r.busy h in
            let not_id : b.0 ≢ id = (λ e. idle_not_holding v idle (subst IsHolding (at_one s.views id b.1 v (subst (λ k. get_elem? s.views k ≡ some b.1) e b.2) at) b.3)) in
            let not_other : b.0 ≢ other = (λ e. idle_not_holding u idle' (subst IsHolding (at_one s.views other b.1 u (subst (λ k. get_elem? s.views k ≡ some b.1) e b.2) was) b.3)) in
            (b.0, b.1, set_else vs other b.0 spent not_other ∙ (set_else s.views id b.0 w not_id ∙ b.2), b.3);
        known = let b = r.known in
            dite (ℕ_discrete b.0 id)
            (λ e. (id, w, here, omega arith, longer_whole r.log v.seen u.seen pre pre' (inl (ap (λ (x : View). x.seen) (at_one s.views id v b.1 at (subst (λ k. get_elem? s.views k ≡ some b.1) e b.2)) ∙ b.4))))
            (λ not_id. dite (ℕ_discrete b.0 other)
            (λ e. (id, w, here, omega arith, longer_whole r.log v.seen u.seen pre pre' (inr (ap (λ (x : View). x.seen) (at_one s.views other u b.1 was (subst (λ k. get_elem? s.views k ≡ some b.1) e b.2)) ∙ b.4))))
            (λ not_other. (b.0, b.1, set_else vs other b.0 spent not_other ∙ (set_else s.views id b.0 w not_id ∙ b.2), b.3, b.4)));
        authored = auth_join origin r.log s.views id v other u r.authored at apart was seat pre pre';
        slot = r.slot;
        each = seats_stay F vs other spent
            record {
              prefix = λ p. absurd (omega arith);
              bounded = All-nil (λ f. f ≤ 0);
              given = λ p. absurd (omega arith);
              distinct = none_apart;
              spent = λ _. refl;
              stage = subst (AtStage r.log r.first r.queue r.out other u.seen) idle' its.stage;
            }
            (λ j x ne a. seats_stay (λ k y. k ≢ other → F k y) s.views id w
            (λ _. record {
              prefix = λ _. longer_prefix r.log v.seen u.seen pre pre';
              bounded = still_bounded v.found (length v.seen.entries) (length w.seen.entries) (prefix_length v.seen w.seen mine_kept.prefix) mine.bounded;
              given = λ p. (gives.1 p, max_given v.given u.given (length s.views) (λ h. (mine.given h).1) (λ h. (its.given h).1) p ∙ sym len);
              distinct = distinct_append v.numbers u.numbers mine.distinct its.distinct (λ a m m'. apart (sym (r.authored.owned other u was a m').0 ∙ (r.authored.owned id v at a m).0));
              spent = λ z. absurd (omega arith);
              stage = (away, mine_kept, its_kept);
            })
            (λ k y ne' a' o. let f = r.each k y a' in record { prefix = f.prefix; bounded = f.bounded; given = λ p. let m = f.given p in (gives.2 k o m.0, m.1 ∙ sym len); distinct = f.distinct; spent = f.spent; stage = f.stage }) j x a ne);
      }

  -- a seat at rest that has all numbers leaves the slot at home, with the journal that it has seen
  pub settles : (s : State (Option S) View) → Rule s → (id : ℕ) (v : View) → get_elem? s.views id ≡ some v → v.stage ≡ Idle → IsSeat v → ((k : ℕ) → 0 < k → k ≤ seats → Contains v.numbers k)
      → (x : S) × (s.homes ≡ some (Some x) ∷ []) × (journal x ≡ v.seen) × AddedBy v.numbers origin v.seen
  settles s r id v at idle seat all =
      let mine = r.each id v at in
      let m = r.few in
      let sole : (j : ℕ) (u : View) → get_elem? s.views j ≡ some u → IsSeat u → v ≡ u = (λ j u e p.
      let first : Contains u.numbers (number_of u.numbers) = number_there u.numbers p in
      let o = r.authored.owned j u e (number_of u.numbers) first in
      let low = o.2 in
      let k = r.authored.owned id v at (number_of u.numbers) (all (number_of u.numbers) o.1 (omega arith)) in
      at_one s.views id v u at (subst (λ i. get_elem? s.views i ≡ some u) (sym o.0 ∙ k.0) e)) in
      let calm : r.out ≡ false = false_from_ne_true r.out (λ h. let b = r.busy h in
      absurd (idle_not_holding v idle (subst IsHolding (sym (sole b.0 b.1 b.2 (holding_seat b.1 (r.each b.0 b.1 b.2).spent b.3))) b.3))) in
      let home = subst (λ b. Slot journal b s.homes r.log) calm r.slot in
      let k = r.known in
      let whole : v.seen ≡ r.log = ap (λ (x : View). x.seen) (sole k.0 k.1 k.2 k.3) ∙ k.4 in
      let named : All (λ (e : Entry). Contains v.numbers e.author) r.authored.past =
      All-weaker (λ (e : Entry). (0 < e.author) × (e.author ≤ length s.views)) (λ (e : Entry). Contains v.numbers e.author) (λ (e : Entry) (h : (0 < e.author) × (e.author ≤ length s.views)). all e.author h.0 (let low = h.1 in omega arith)) r.authored.past r.authored.named in
      (home.0, home.1, home.2 ∙ sym whole, record { past = r.authored.past; began = whole ∙ r.authored.began; named = named })
    where
      number_of : List ℕ → ℕ
      number_of [] = 0
      number_of (n ∷ ns) = n

      number_there : (ns : List ℕ) → 0 < length ns → Contains ns (number_of ns)
      number_there [] p = absurd (omega arith)
      number_there (n ∷ ns) p = (0, omega arith, refl)
