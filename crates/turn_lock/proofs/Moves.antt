-- Each step on a word keeps the rule.
use Rattle.std.proofs.Common.{◌≡◌, ◌≢◌, ◌⊎◌, inl, inr, ◌||◌, ℕ, ◌+◌, ◌%◌, ◌^◌, ◌<◌, ◌≤◌, Bool, true, false, eqb, List, [], ◌∷◌, ◌++◌, length, get_or, set, refl, sym, ap, ◌∙◌, subst, ⊎_elim, arith, Option, Some, length-set, length-append, true≢false}
use mathlib.Core.Option.{none, some}
use mathlib.Core.Option as maybe
use mathlib.Core.Logic.{dite}
use native.Mathlib.Decide.{ℕ_discrete}
use lib.ListN.{get_elem?}
use lib.Seq.{set-get_or}
use Rattle.std.specs.List.{IsDistinct, list_any, All, Contains}
use Rattle.std.proofs.Math.Nat.{mod-add-mod}
use Rattle.std.proofs.lemmas.Bool.{false_from_ne_true}
use Rattle.std.proofs.lemmas.Map.Steps.{length-le_from_distinct_below}
use Rattle.std.proofs.lemmas.List.Elements.{All-push, All-weaker}
use Rattle.atomic_table.specs.Table.{State, step, keeps, takes, gives, Allows}
use Rattle.atomic_table.proofs.Lists.{set_here, set_else, at_last, one_turn}
use Rattle.ground_model.specs.declared.entry.Entry.{Entry}
use Rattle.turn_lock.specs.declared.journal.Journal.{Journal}
use Rattle.turn_lock.specs.declared.view.Known.{Known}
use Rattle.turn_lock.specs.declared.view.View.{View}
use Rattle.turn_lock.specs.declared.view.Stage.TheVariants.{Idle, Joined, Waits, Holds}
use Rattle.turn_lock.specs.Journal.{extended, IsPrefix, entries_by, OthersAdded}
use Rattle.turn_lock.specs.Rule.{ticket, IsHolding, IsSeat, AtStage, Fits, Authored, Slot, InTurn}
use Rattle.turn_lock.specs.Steps.{HasBoth, drawn, served, looked, noted, passed, recalled}
use Rattle.turn_lock.proofs.Queue.{at_lt, at_one, head_absent, tail_apart, push_apart, in_pushed}
use Rattle.turn_lock.proofs.Prefix.{prefix_refl, prefix_trans, prefix_length}
use Rattle.turn_lock.proofs.Authors.{seats_stay, auth_same, auth_whole, auth_noted}
use Rattle.turn_lock.proofs.Stages.{stage_pushed, stage_other, stage_passed, head_of, idle_not_holding, waiting_not_holding, joined_not_holding, holding_seat, waiting_seat, joined_seat}

-- fronts that were below a length are below a greater one
pub still_bounded : (found : List ℕ) (m n : ℕ) → m ≤ n → All (λ f. f ≤ m) found → All (λ f. f ≤ n) found
still_bounded found m n le h = All-weaker (λ f. f ≤ m) (λ f. f ≤ n) (λ f (low : f ≤ m). omega arith) found h

module _ {S : Type 0} (journal : S → Journal) (seats : ℕ) (origin : Journal) where
  abbrev St : Type 0
  St = State (Option S) View

  abbrev Rule : St → Type 0
  Rule = InTurn journal seats origin

  -- a step of the seat id, whose view becomes w
  moves : (s : St) (r : Rule s) (id : ℕ) (v w : View) → get_elem? s.views id ≡ some v → IsSeat v → w.numbers ≡ v.numbers → w.given ≡ v.given
      → (words : List ℕ) (homes : List (maybe.Option (Option S))) (log : Journal) (first : ℕ) (queue : List ℕ) (out : Bool)
      → words ≡ length log.entries ∷ (first + length queue) % 2 ^ 64 ∷ first % 2 ^ 64 ∷ []
      → IsDistinct eqb queue → ((q : ℕ) → list_any (eqb q) queue ≡ true → q < length s.views)
      → (out ≡ true → IsHolding w ⊎ ((r.out ≡ true) × (¬ IsHolding v))) → Slot journal out homes log
      → IsPrefix w.seen log → All (λ f. f ≤ length w.seen.entries) w.found → (w.seen ≡ log) ⊎ ((r.log ≡ log) × (w.seen ≡ v.seen)) → AtStage log first queue out id w.seen w.stage
      → IsPrefix r.log log → ((j : ℕ) (u : View) → j ≢ id → AtStage r.log r.first r.queue r.out j u.seen u.stage → AtStage log first queue out j u.seen u.stage)
      → Authored origin log (set s.views id w) → Rule record { words = words; homes = homes; views = set s.views id w }
  moves s r id v w at seat numbers given words homes log first queue out words_are apart inside busy slot prefix bounded knows stage grows others auth =
      let len : length (set s.views id w) ≡ length s.views = length-set s.views id w in
      let mine = r.each id v at in
      let here : get_elem? (set s.views id w) id ≡ some w = set_here s.views id w (at_lt s.views id v at) in
      let still : IsSeat w = subst (λ ns. 0 < length ns) (sym numbers) seat in
      record {
        log = log;
        first = first;
        queue = queue;
        out = out;
        giver = r.giver;
        words = words_are;
        few = let f = r.few in omega arith;
        small = r.small;
        apart = apart;
        inside = λ q h. let low = inside q h in omega arith;
        busy = λ h. ⊎_elim (λ (now : IsHolding w). (id, w, here, now))
            (λ (old : (r.out ≡ true) × (¬ IsHolding v)). let b = r.busy old.0 in
            let other : b.0 ≢ id = (λ e. old.1 (subst IsHolding (at_one s.views id b.1 v (subst (λ k. get_elem? s.views k ≡ some b.1) e b.2) at) b.3)) in (b.0, b.1, set_else s.views id b.0 w other ∙ b.2, b.3)) (busy h);
        known = ⊎_elim (λ (now : w.seen ≡ log). (id, w, here, still, now))
            (λ (old : (r.log ≡ log) × (w.seen ≡ v.seen)). let b = r.known in dite (ℕ_discrete b.0 id)
            (λ e. (
              id,
              w,
              here,
              still,
              old.1 ∙ (ap (λ (x : View). x.seen) (at_one s.views id v b.1 at (subst (λ k. get_elem? s.views k ≡ some b.1) e b.2)) ∙ (b.4 ∙ old.0)),
            ))
            (λ ne. (b.0, b.1, set_else s.views id b.0 w ne ∙ b.2, b.3, b.4 ∙ old.0))) knows;
        authored = auth;
        slot = slot;
        each = seats_stay (Fits log first queue out r.giver (length (set s.views id w))) s.views id w
            record {
              prefix = λ _. prefix;
              bounded = bounded;
              given = λ p. let m = mine.given (let q : v.given ≡ w.given = sym given in omega arith) in (m.0, given ∙ (m.1 ∙ sym len));
              distinct = subst (IsDistinct eqb) (sym numbers) mine.distinct;
              spent = λ z. absurd (omega arith);
              stage = stage;
            }
            (λ j u ne a. let f = r.each j u a in record {
              prefix = λ p. prefix_trans u.seen r.log log (f.prefix p) grows;
              bounded = f.bounded;
              given = λ p. let m = f.given p in (m.0, m.1 ∙ sym len);
              distinct = f.distinct;
              spent = f.spent;
              stage = others j u ne f.stage;
            });
      }

  pub draws : (slots id : ℕ) (v : View) (c : List (ℕ × Option S)) → v.stage ≡ Idle → IsSeat v → Allows Rule slots id (v, c) 1 (λ n. (n + 1) % 2 ^ 64) (drawn journal (step slots 1 1 0 none) (v, c))
  draws slots id v c idle seat s r deep at fits =
      let n : ℕ = r.first + length r.queue in
      let w : View = record v { stage = Waits n } in
      let mine = r.each id v at in
      let free : list_any (eqb id) r.queue ≡ false = subst (AtStage r.log r.first r.queue r.out id v.seen) idle mine.stage in
      let longer : length (r.queue ++ id ∷ []) ≡ length r.queue + 1 = omega (arith, length-append r.queue (id ∷ [])) in
      let next : (n % 2 ^ 64 + 1) % 2 ^ 64 ≡ (r.first + length (r.queue ++ id ∷ [])) % 2 ^ 64 = mod-add-mod n (2 ^ 64) 1 ∙ ap (λ z. z % 2 ^ 64) (let g : n + 1 ≡ r.first + length (r.queue ++ id ∷ []) = omega arith in g) in
      let calm : length r.queue ≡ 0 → r.out ≡ false = (λ z. false_from_ne_true r.out (λ h. let b = r.busy h in
      let there = subst (AtStage r.log r.first r.queue r.out b.0 b.1.seen) b.3 (r.each b.0 b.1 b.2).stage in let low = at_lt r.queue 0 b.0 there.1 in absurd (omega arith))) in (
        w,
        keeps,
        tt,
        moves s r id v w at seat refl refl _ s.homes r.log r.first (r.queue ++ id ∷ []) r.out
            (ap (λ ws. set ws 1 ((get_or ws 1 0 + 1) % 2 ^ 64)) r.words ∙ ap (λ x. length r.log.entries ∷ x ∷ r.first % 2 ^ 64 ∷ []) next)
            (push_apart r.queue id r.apart free)
            (λ q h. dite (ℕ_discrete q id) (λ e. let low = at_lt s.views id v at in omega arith) (λ ne. r.inside q (sym (in_pushed r.queue id q ne) ∙ h)))
            (λ h. inr (h, idle_not_holding v idle)) r.slot (mine.prefix seat) mine.bounded (inr (refl, refl))
            (length r.queue, refl, at_last r.queue id (length r.queue) refl, calm) (prefix_refl r.log)
            (λ j u ne st. stage_pushed r.log r.first r.queue r.out j id u.seen u.stage ne st) (auth_same origin r.log s.views id v w r.authored at refl refl),
        (n, ap (λ ws. get_or ws 1 0) r.words, refl),
      )

  -- the seat that waits is the first in the queue where the word says that its ticket is served
  its_turn : (s : St) (r : Rule s) (id n k : ℕ) → n ≡ r.first + k → get_elem? r.queue k ≡ some id → get_or s.words 2 0 ≡ n % 2 ^ 64 → (r.first ≡ n) × (k ≡ 0)
  its_turn s r id n k is here hit =
      let low = at_lt r.queue k id here in
      let few = r.few in
      let small = r.small in
      let short : length r.queue ≤ length s.views = length-le_from_distinct_below r.queue (length s.views) r.apart r.inside in
      let serving : get_or s.words 2 0 ≡ r.first % 2 ^ 64 = ap (λ ws. get_or ws 2 0) r.words in
      let now : r.first ≡ n = one_turn r.first n (2 ^ 64) (omega arith) (omega arith) (sym serving ∙ hit) in
      (now, omega arith)

  pub serves : (slots id : ℕ) (v : View) (c : List (ℕ × Option S)) → v.stage ≡ Waits (ticket v.stage) → Allows Rule slots id (v, c) 2 (λ n. n) (served journal (step slots 2 0 0 none) (v, c))
  serves slots id v c is s r deep at fits =
      let n : ℕ = ticket v.stage in
      let mine = r.each id v at in
      let seat = waiting_seat v mine.spent is in
      let k = subst (AtStage r.log r.first r.queue r.out id v.seen) is mine.stage in
      let same : set s.words 2 (get_or s.words 2 0) ≡ s.words = set-get_or s.words 2 0 in
      dite (ℕ_discrete (get_or s.words 2 0) (n % 2 ^ 64))
      (λ hit.
      let now = its_turn s r id n k.0 k.1 k.2 hit in
      let head : get_elem? r.queue 0 ≡ some id = subst (λ z. get_elem? r.queue z ≡ some id) now.1 k.2 in
      let home = subst (λ b. Slot journal b s.homes r.log) (k.3 now.1) r.slot in
      let x : S = home.0 in
      let w : View = record v { stage = Holds n; seen = journal x } in
      let later : IsPrefix v.seen (journal x) = subst (λ l. IsPrefix v.seen l) (sym home.2) (mine.prefix seat) in
      let added : OthersAdded v.numbers v.seen (journal x) = record { prefix = later; own = λ a m. ap (λ (j : Journal). entries_by a j.entries) home.2 ∙ (r.authored.owned id v at a m).3 } in (
        w,
        takes 0 (Some x),
        ap (λ hs. get_elem? hs 0) home.1,
        moves s r id v w at seat refl refl _ _ r.log r.first r.queue true (same ∙ r.words) r.apart r.inside (λ _. inl refl) (ap (λ hs. set hs 0 none) home.1)
            (subst (λ l. IsPrefix l r.log) (sym home.2) (prefix_refl r.log)) (still_bounded v.found (length v.seen.entries) (length (journal x).entries) (prefix_length v.seen (journal x) later) mine.bounded) (inl home.2) (sym now.0, head, refl, home.2)
            (prefix_refl r.log) (λ j u ne st. stage_other r.log r.log r.first r.queue r.out j id u.seen u.stage ne head st) (auth_whole origin r.log s.views id v w r.authored at refl home.2),
        ((λ _. (x, added, refl)), λ miss. absurd (miss hit)),
      ))
      (λ miss. (
        v,
        keeps,
        tt,
        moves s r id v v at seat refl refl _ s.homes r.log r.first r.queue r.out (same ∙ r.words) r.apart r.inside (λ h. inr (h, waiting_not_holding v is)) r.slot (mine.prefix seat) mine.bounded (inr (refl, refl)) mine.stage
            (prefix_refl r.log) (λ j u ne st. st) (auth_same origin r.log s.views id v v r.authored at refl refl),
        ((λ hit. absurd (miss hit)), λ _. refl),
      ))

  pub looks : (slots id : ℕ) (v : View) (c : List (ℕ × Option S)) → IsHolding v → Allows Rule slots id (v, c) 0 (λ n. n) (looked journal (step slots 0 0 0 none) (v, c))
  looks slots id v c is s r deep at fits =
      let mine = r.each id v at in
      let seat = holding_seat v mine.spent is in
      let h = subst (AtStage r.log r.first r.queue r.out id v.seen) is mine.stage in
      let t : ℕ = get_or s.words 0 0 in
      let front : t ≡ length v.seen.entries = ap (λ ws. get_or ws 0 0) r.words ∙ ap (λ (j : Journal). length j.entries) (sym h.3) in
      let w : View = record v { found = v.found ++ t ∷ [] } in (
        w,
        keeps,
        tt,
        moves s r id v w at seat refl refl _ s.homes r.log r.first r.queue r.out (set-get_or s.words 0 0 ∙ r.words) r.apart r.inside (λ _. inl is) r.slot (mine.prefix seat)
            (All-push (λ f. f ≤ length v.seen.entries) v.found t mine.bounded (omega arith)) (inr (refl, refl)) mine.stage
            (prefix_refl r.log) (λ j u ne st. st) (auth_same origin r.log s.views id v w r.authored at refl refl),
        (front, subst (λ n. All (λ f. f ≤ n) v.found) (sym front) mine.bounded, refl),
      )

  pub recalls : (slots id : ℕ) (v : View) (c : List (ℕ × Option S)) (x y : Known) → v.stage ≡ Joined x y → Allows Rule slots id (v, c) 0 (λ n. n) (recalled journal (step slots 0 0 0 none) (v, c))
  recalls slots id v c x y is s r deep at fits =
      let mine = r.each id v at in
      let seat = joined_seat v x y mine.spent is in
      let h = subst (AtStage r.log r.first r.queue r.out id v.seen) is mine.stage in
      let w : View = record v { stage = Idle } in (
        w,
        keeps,
        tt,
        moves s r id v w at seat refl refl _ s.homes r.log r.first r.queue r.out (set-get_or s.words 0 0 ∙ r.words) r.apart r.inside (λ o. inr (o, joined_not_holding v x y is)) r.slot (mine.prefix seat) mine.bounded (inr (refl, refl)) h.0
            (prefix_refl r.log) (λ j u ne st. st) (auth_same origin r.log s.views id v w r.authored at refl refl),
        (subst (HasBoth v.seen) (sym is) (h.1, h.2), refl),
      )

  pub notes : (slots id : ℕ) (v : View) (c : List (ℕ × Option S)) (e : Entry) (new : ℕ) → IsHolding v → Contains v.numbers e.author → new ≡ length v.seen.entries + 1
      → Allows Rule slots id (v, c) 0 (λ _. new) (λ _. noted journal e (step slots 0 new 0 none) (v, c) new)
  notes slots id v c e new is own size s r deep at fits =
      let mine = r.each id v at in
      let seat = holding_seat v mine.spent is in
      let h = subst (AtStage r.log r.first r.queue r.out id v.seen) is mine.stage in
      let log : Journal = extended r.log (e ∷ []) in
      let w : View = record v { seen = extended v.seen (e ∷ []) } in
      let whole : w.seen ≡ log = ap (λ (l : Journal). extended l (e ∷ [])) h.3 in
      let more : length (r.log.entries ++ e ∷ []) ≡ length r.log.entries + 1 = omega (arith, length-append r.log.entries (e ∷ [])) in
      let grown : new ≡ length log.entries = size ∙ (ap (λ (l : Journal). length l.entries + 1) h.3 ∙ sym more) in (
        w,
        keeps,
        tt,
        moves s r id v w at seat refl refl _ s.homes log r.first r.queue true (ap (λ ws. set ws 0 new) r.words ∙ ap (λ x. x ∷ (r.first + length r.queue) % 2 ^ 64 ∷ r.first % 2 ^ 64 ∷ []) grown) r.apart r.inside
            (λ _. inl is) (subst (λ b. Slot journal b s.homes r.log) h.2 r.slot) (subst (λ l. IsPrefix l log) (sym whole) (prefix_refl log))
            (still_bounded v.found (length v.seen.entries) (length w.seen.entries) (prefix_length v.seen w.seen (e ∷ [], refl)) mine.bounded) (inl whole)
            (subst (AtStage log r.first r.queue true id w.seen) (sym is) (h.0, h.1, refl, whole)) (e ∷ [], refl)
            (λ j u ne st. stage_other r.log log r.first r.queue r.out j id u.seen u.stage ne h.1 st) (auth_noted origin r.log e s.views id v w r.authored at refl whole own),
        refl,
      )

  passes_word : (slots id : ℕ) (v : View) (y : S) (new : ℕ) → IsHolding v → journal y ≡ v.seen → new ≡ (ticket v.stage + 1) % 2 ^ 64
      → Allows Rule slots id (v, (0, Some y) ∷ []) 2 (λ _. new) (λ _. passed journal (step slots 2 new 0 none) (v, (0, Some y) ∷ []) new)
  passes_word slots id v y new is same size s r deep at fits =
      let mine = r.each id v at in
      let seat = holding_seat v mine.spent is in
      let h = subst (AtStage r.log r.first r.queue r.out id v.seen) is mine.stage in
      let q = head_of r.queue id h.1 in
      let rest : List ℕ = q.0 in
      let w : View = record v { stage = Idle } in
      let apart : IsDistinct eqb (id ∷ rest) = subst (IsDistinct eqb) q.1 r.apart in
      let away : s.homes ≡ none ∷ [] = subst (λ b. Slot journal b s.homes r.log) h.2 r.slot in
      let tickets : r.first + length r.queue ≡ r.first + 1 + length rest = let g = ap length q.1 in omega arith in
      let next : new ≡ (r.first + 1) % 2 ^ 64 = size ∙ ap (λ z. (z + 1) % 2 ^ 64) h.0 in (
        w,
        gives,
        tt,
        moves s r id v w at seat refl refl _ _ r.log (r.first + 1) rest false (ap (λ ws. set ws 2 new) r.words ∙ (λ i. length r.log.entries ∷ tickets i % 2 ^ 64 ∷ next i ∷ []))
            (tail_apart id rest apart) (λ k a. r.inside k (subst (λ l. list_any (eqb k) l ≡ true) (sym q.1) (in_tail (eqb k id) (list_any (eqb k) rest) a)))
            (λ f. absurd (true≢false (sym f))) (y, ap (λ hs. set hs 0 (some (Some y))) away, same ∙ h.3) (mine.prefix seat) mine.bounded (inr (refl, refl)) (head_absent id rest apart)
            (prefix_refl r.log) (λ j u ne st. stage_passed r.log r.first rest r.out j id u.seen u.stage ne (subst (λ l. AtStage r.log r.first l r.out j u.seen u.stage) q.1 st)) (auth_same origin r.log s.views id v w r.authored at refl refl),
        refl,
      )
    where
      in_tail : (a b : Bool) → b ≡ true → (a || b) ≡ true
      in_tail true b h = refl
      in_tail false b h = h

  -- the same, for a seat that knows its ticket as a word
  pub passes : (slots id : ℕ) (v : View) (c : List (ℕ × Option S)) (y : S) (k new : ℕ) → c ≡ (0, Some y) ∷ [] → IsHolding v → journal y ≡ v.seen → k ≡ ticket v.stage % 2 ^ 64 → new ≡ (k + 1) % 2 ^ 64
      → Allows Rule slots id (v, c) 2 (λ _. new) (λ _. passed journal (step slots 2 new 0 none) (v, c) new)
  passes slots id v c y k new e is same now size = subst (λ d. Allows Rule slots id (v, d) 2 (λ _. new) (λ _. passed journal (step slots 2 new 0 none) (v, d) new)) (sym e)
      (passes_word slots id v y new is same (size ∙ (ap (λ z. (z + 1) % 2 ^ 64) now ∙ mod-add-mod (ticket v.stage) (2 ^ 64) 1)))
