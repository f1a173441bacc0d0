-- What the calls of write_all say, as the flow of a writer; and the flow of a whole text, as what was written.
use Rattle.std.proofs.Common.{◌≡◌, ℕ, ◌≤◌, List, [], ◌++◌, length, take, Bool, true, false, Option, Ok, Err, OnOk, refl, sym, ap, subst, ◌∙◌, arith, append-nil, length-append, MatchResult}
use Rattle.std.specs.declared.result.Result.{Result}
use Rattle.std.specs.Prelude.{is_err, drop}
use Rattle.std.specs.Io.KnownBytes.{Appends}
use Rattle.std.proofs.lemmas.List.{take-append-drop, take-append-le, take_all}
use Rattle.ground_io.specs.Causes.{HasCause, Rose}
use Rattle.ground_io.specs.Order.{SendsAll, SendsText}
use Rattle.ground_io.specs.Streams.{Rest, WritesText, AppendsSome}
use Rattle.landxml_write.specs.Flowing.{Flow, Flows, FlowsBy, Passes, Breaks, Front, flows_both}

front : (whole : List ℕ) (P : List ℕ → Type 0) (n : ℕ) → P (take n whole) → Front whole P
front whole P n has = record { sent = take n whole; rest = drop n whole; parts = sym (take-append-drop n whole); has = has }

module _ {T E : Type 0} (x y : Flow) (text : List ℕ) where
  flow_by : (r : Result T E) → y.held ≡ [] → WritesText x.written y.written r (x.held ++ text) → SendsText x.order y.order r (x.held ++ text) → HasCause x.faults y.faults r → FlowsBy false (is_err r) x y text
  flow_by (Ok v) held bytes order cause = record {
    sent = x.held ++ text;
    parts = sym (append-nil (x.held ++ text)) ∙ ap (λ w. (x.held ++ text) ++ w) (sym held);
    sends = record { bytes = bytes; order = order };
    faults = cause.kept;
  }
  flow_by (Err e) held bytes order cause = record {
    bytes = front (x.held ++ text) (Appends x.written y.written) bytes.0 bytes.2;
    order = front (x.held ++ text) (SendsAll x.order y.order) order.0 order.2;
    rose = cause.failed;
    later = cause.later;
  }

-- one call wrote what was held and the text
pub written-flows : {T E : Type 0} (x y : Flow) (text all : List ℕ) (r : Result T E) → x.held ++ text ≡ all → x.failed ≡ false → y.failed ≡ is_err r → y.held ≡ []
    → WritesText x.written y.written r all → SendsText x.order y.order r all → HasCause x.faults y.faults r → y.beside ≡ x.beside → y.name ≡ x.name → Flows x y text
written-flows x y text all r whole began failed held bytes order cause beside name = record {
  beside = beside;
  name = name;
  flow = subst (λ b. FlowsBy b y.failed x y text) (sym began) (subst (λ b. FlowsBy false b x y text) (sym failed)
      (flow_by x y text r held (subst (λ w. WritesText x.written y.written r w) (sym whole) bytes) (subst (λ w. SendsText x.order y.order r w) (sym whole) order) cause));
}

-- ---- a whole text

module _ (x z : Flow) (text : List ℕ) (began : x.failed ≡ false) (empty : x.held ≡ []) (flows : Flows x z text) where
  passed : z.failed ≡ false → Passes x z text
  passed still = subst (λ b. FlowsBy false b x z text) still (subst (λ b. FlowsBy b z.failed x z text) began flows.flow)

  broken : z.failed ≡ true → Breaks x z text
  broken failed = subst (λ b. FlowsBy false b x z text) failed (subst (λ b. FlowsBy b z.failed x z text) began flows.flow)

  -- all that was sent, where nothing is held any more
  all_sent : (p : Passes x z text) → z.held ≡ [] → p.sent ≡ text
  all_sent p none = sym (append-nil p.sent) ∙ ap (λ w. p.sent ++ w) (sym none) ∙ sym p.parts ∙ ap (λ w. w ++ text) empty

  begun : {P : List ℕ → Type 0} → Front (x.held ++ text) P → (n : ℕ) × (n ≤ length text) × P (take n text)
  begun {P} f =
      let parts : text ≡ f.sent ++ f.rest = ap (λ w. w ++ text) (sym empty) ∙ f.parts in
      let short : length f.sent ≤ length text = omega (arith, ap length parts, length-append f.sent f.rest) in
      let is : take (length f.sent) text ≡ f.sent = ap (take (length f.sent)) parts ∙ take-append-le (length f.sent) f.sent f.rest (omega arith) ∙ take_all (length f.sent) f.sent (omega arith) in
      (length f.sent, short, subst P (sym is) f.has)

  pub whole-text : {T E : Type 0} (r : Result T E) → OnOk r (z.held ≡ []) → MatchResult r (λ _. z.failed ≡ false) (λ _. z.failed ≡ true) → WritesText x.written z.written r text
  whole-text (Ok v) held failed = let p = passed failed in subst (Appends x.written z.written) (all_sent p held) p.sends.bytes
  whole-text (Err e) held failed = begun (broken failed).bytes

  pub whole-order : {T E : Type 0} (r : Result T E) → OnOk r (z.held ≡ []) → MatchResult r (λ _. z.failed ≡ false) (λ _. z.failed ≡ true) → SendsText x.order z.order r text
  whole-order (Ok v) held failed = let p = passed failed in subst (SendsAll x.order z.order) (all_sent p held) p.sends.order
  whole-order (Err e) held failed = begun (broken failed).order

  pub whole-cause : {T E : Type 0} (r : Result T E) → MatchResult r (λ _. z.failed ≡ false) (λ _. z.failed ≡ true) → HasCause x.faults z.faults r
  whole-cause (Ok v) failed = let same = (passed failed).faults in record { later = omega (arith, same); failed = tt; kept = same }
  whole-cause (Err e) failed = let b = broken failed in record { later = b.later; failed = b.rose; kept = tt }

-- a text, and then nothing more
pub then-nothing : (x y z : Flow) (text : List ℕ) → Flows x y text → Flows y z [] → Flows x z text
then-nothing x y z text p q = subst (Flows x z) (append-nil text) (flows_both x y z text [] p q)
