-- What a buffered writer has sent on of a text, and what it still holds.
use Rattle.std.proofs.Common.{refl, sym, ap, subst, ◌∙◌, append_assoc, append-nil}
use Rattle.std.specs.Prelude.{◌≡◌, ℕ, ◌≤◌, Bool, true, false, List, [], ◌++◌, Option}
use Rattle.std.specs.Io.KnownBytes.{Appends}
use Rattle.ground_io.specs.Causes.{Rose}
use Rattle.ground_io.specs.Order.{Event, SendsAll}
use Rattle.ground_io.specs.Streams.{Rest}
use Rattle.ground_io.proofs.Ordering.{sends_both, sends_none}
use Rattle.ground_io.proofs.Texts.{appends_both, appends_none}

-- the sink's bytes, order, faults and side, the name of the reference to it, the bytes held, and whether a write failed
pub record Flow : Type 0 where
  pub written : Option (List ℕ)
  pub order : Option (List Event)
  pub faults : ℕ
  pub beside : Rest
  pub name : ℕ
  pub held : List ℕ
  pub failed : Bool

abbrev pub flow_of : Option (List ℕ) → Option (List Event) → ℕ → Rest → ℕ → List ℕ → Bool → Flow
flow_of written order faults beside name held failed = record { written = written; order = order; faults = faults; beside = beside; name = name; held = held; failed = failed }

-- these bytes were sent
pub record Sends (x y : Flow) (sent : List ℕ) : Type 0 where
  pub bytes : Appends x.written y.written sent
  pub order : SendsAll x.order y.order sent

-- what was held and the text: some of it was sent, and the rest is held
pub record Passes (x y : Flow) (text : List ℕ) : Type 0 where
  pub sent : List ℕ
  pub parts : x.held ++ text ≡ sent ++ y.held
  pub sends : Sends x y sent
  pub faults : y.faults ≡ x.faults

-- a beginning of the whole has the property
pub record Front (whole : List ℕ) (Has : List ℕ → Type 0) : Type 0 where
  pub sent : List ℕ
  pub rest : List ℕ
  pub parts : whole ≡ sent ++ rest
  pub has : Has sent

-- a write failed, after a beginning of what was held and the text was sent
pub record Breaks (x y : Flow) (text : List ℕ) : Type 0 where
  pub bytes : Front (x.held ++ text) (Appends x.written y.written)
  pub order : Front (x.held ++ text) (SendsAll x.order y.order)
  pub rose : Rose x.faults y.faults
  pub later : x.faults ≤ y.faults

-- nothing was tried, since a write had failed
pub record Stays (x y : Flow) : Type 0 where
  pub written : y.written ≡ x.written
  pub order : y.order ≡ x.order
  pub faults : y.faults ≡ x.faults

abbrev pub FlowsBy : Bool → Bool → Flow → Flow → List ℕ → Type 0
FlowsBy false false x y text = Passes x y text
FlowsBy false true x y text = Breaks x y text
FlowsBy true false x y text = ⊥
FlowsBy true true x y text = Stays x y

-- the writer took the text: of the same sink, whose side it left alone
pub record Flows (x y : Flow) (text : List ℕ) : Type 0 where
  pub beside : y.beside ≡ x.beside
  pub name : y.name ≡ x.name
  pub flow : FlowsBy x.failed y.failed x y text

-- nothing taken is no change
flow_none : (b : Bool) (x : Flow) → FlowsBy b b x x []
flow_none false x = record { sent = []; parts = append-nil x.held; sends = record { bytes = appends_none x.written; order = sends_none x.order }; faults = refl }
flow_none true x = record { written = refl; order = refl; faults = refl }

pub flows_none : (x : Flow) → Flows x x []
flows_none x = record { beside = refl; name = refl; flow = flow_none x.failed x }

sends_on : (x y z : Flow) (s t : List ℕ) → Sends x y s → Sends y z t → Sends x z (s ++ t)
sends_on x y z s t p q = record { bytes = appends_both x.written y.written z.written s t p.bytes q.bytes; order = sends_both x.order y.order z.order s t p.order q.order }

-- what was sent first, then the rest of it and a further text
parts_on : (held text sent kept more sent' last : List ℕ) → held ++ text ≡ sent ++ kept → kept ++ more ≡ sent' ++ last → held ++ (text ++ more) ≡ (sent ++ sent') ++ last
parts_on held text sent kept more sent' last p q =
    sym (append_assoc held text more) ∙ ap (λ w. w ++ more) p ∙ append_assoc sent kept more ∙ ap (λ w. sent ++ w) q ∙ sym (append_assoc sent sent' last)

-- a beginning of the further text sent after the first
front_on : (held text sent kept more : List ℕ) (P Q R : List ℕ → Type 0) → held ++ text ≡ sent ++ kept → P sent → ((s t : List ℕ) → P s → Q t → R (s ++ t)) → Front (kept ++ more) Q → Front (held ++ (text ++ more)) R
front_on held text sent kept more P Q R p has both f = record {
  sent = sent ++ f.sent;
  rest = f.rest;
  parts = parts_on held text sent kept more f.sent f.rest p f.parts;
  has = both sent f.sent has f.has;
}

-- a beginning of a text is one of a longer text
front_more : (held text more : List ℕ) (P Q : List ℕ → Type 0) → ((s : List ℕ) → P s → Q s) → Front (held ++ text) P → Front (held ++ (text ++ more)) Q
front_more held text more P Q still f = record {
  sent = f.sent;
  rest = f.rest ++ more;
  parts = sym (append_assoc held text more) ∙ ap (λ w. w ++ more) f.parts ∙ append_assoc f.sent f.rest more;
  has = still f.sent f.has;
}

flow_both : (a b c : Bool) (x y z : Flow) (t u : List ℕ) → FlowsBy a b x y t → FlowsBy b c y z u → FlowsBy a c x z (t ++ u)
flow_both false false false x y z t u p q = record {
  sent = p.sent ++ q.sent;
  parts = parts_on x.held t p.sent y.held u q.sent z.held p.parts q.parts;
  sends = sends_on x y z p.sent q.sent p.sends q.sends;
  faults = q.faults ∙ p.faults;
}
flow_both false false true x y z t u p q = record {
  bytes = front_on x.held t p.sent y.held u (Appends x.written y.written) (Appends y.written z.written) (Appends x.written z.written) p.parts p.sends.bytes (λ s v a b. appends_both x.written y.written z.written s v a b) q.bytes;
  order = front_on x.held t p.sent y.held u (SendsAll x.order y.order) (SendsAll y.order z.order) (SendsAll x.order z.order) p.parts p.sends.order (λ s v a b. sends_both x.order y.order z.order s v a b) q.order;
  rose = subst (λ k. Rose k z.faults) p.faults q.rose;
  later = subst (λ k. k ≤ z.faults) p.faults q.later;
}
flow_both false true true x y z t u p q = record {
  bytes = front_more x.held t u (Appends x.written y.written) (Appends x.written z.written) (λ s a. subst (λ w. Appends x.written w s) (sym q.written) a) p.bytes;
  order = front_more x.held t u (SendsAll x.order y.order) (SendsAll x.order z.order) (λ s a. subst (λ w. SendsAll x.order w s) (sym q.order) a) p.order;
  rose = subst (λ k. Rose x.faults k) (sym q.faults) p.rose;
  later = subst (λ k. x.faults ≤ k) (sym q.faults) p.later;
}
flow_both false true false x y z t u p q = absurd q
flow_both true false c x y z t u p q = absurd p
flow_both true true false x y z t u p q = absurd q
flow_both true true true x y z t u p q = record { written = q.written ∙ p.written; order = q.order ∙ p.order; faults = q.faults ∙ p.faults }

-- one text after another
pub flows_both : (x y z : Flow) (t u : List ℕ) → Flows x y t → Flows y z u → Flows x z (t ++ u)
flows_both x y z t u p q = record { beside = q.beside ∙ p.beside; name = q.name ∙ p.name; flow = flow_both x.failed y.failed z.failed x y z t u p.flow q.flow }
