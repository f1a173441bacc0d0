use Rattle.std.proofs.Common.{◌≡◌, ◌∙◌, refl, ap, sym, subst, Some, IsSome, unwrap_or}
use mathlib.Core.Option.{some-injective}
use lib.ListN.{get_elem?}
use Rattle.turn_lock.specs.Seat.{Lock}
use Rattle.turn_lock.proofs.Rests.{rest_settles}
use Rattle.turn_lock.proofs.lock.TurnLock.close.Goals as goal

pub unwrap-value-requires : goal.unwrap-value-requires
unwrap-value-requires g c =
    let end = c.close_with-closed.ensures.values.2 in
    let home = rest_settles _ _ _ _ c.seat.invariant c.into_seat.ensures.2 g.S.Filed.journal _ _ c.args.self _ c.args.seat c.seat.view_is (ap (λ (l : Lock). l.seats) c.self.view_is) (ap (λ (l : Lock). l.opening) c.self.view_is) c.requires.last end.0 end.1.0 c.into_seat.result.id end.1.1 in
    let there = end.4 0 (Some home.0) (ap (λ hs. get_elem? hs 0) home.1) in
    subst IsSome (some-injective _ _ (sym there ∙ c.take.ensures.value)) refl

pub returns : goal.returns
returns g c =
    let end = c.close_with-closed.ensures.values.2 in
    let home = rest_settles _ _ _ _ c.seat.invariant c.into_seat.ensures.2 g.S.Filed.journal _ _ c.args.self _ c.args.seat c.seat.view_is (ap (λ (l : Lock). l.seats) c.self.view_is) (ap (λ (l : Lock). l.opening) c.self.view_is) c.requires.last end.0 end.1.0 c.into_seat.result.id end.1.1 in
    let there = end.4 0 (Some home.0) (ap (λ hs. get_elem? hs 0) home.1) in
    let is : Some home.0 ≡ Some c.unwrap-value.result = some-injective _ _ (sym there ∙ c.take.ensures.value) ∙ c.unwrap-value.ensures in
    let value : home.0 ≡ c.unwrap-value.result = ap (λ o. unwrap_or o home.0) is in
    record { value = ap g.S.Filed.journal (sym value) ∙ home.2; entries = home.3 }
