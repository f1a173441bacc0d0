use Rattle.std.proofs.Common.{◌≡◌, sym, ap, ◌∙◌, subst}
use Rattle.std.specs.Prelude.{IsSome, IfSome, ◌↔◌}
use Rattle.ground_model.specs.Place.{Coords, IsPlace}
use Rattle.document_commands.proofs.Places.{south_is, south_value, west_or_none, west_value}
use Rattle.document_commands.proofs.agreeing.place_before.Goals as goal

pub returns-in-Some : goal.returns-in-Some
returns-in-Some c =
    let is = c.in-Some.ensures.value ∙ south_value c.e.result c.n.result c.args.place c.e.ensures.place c.e.ensures.value c.n.ensures.value in
    south_is c.in-Some.before c.args.place (ap (λ (p : Coords). p.e) is) (ap (λ (p : Coords). p.n) is)

pub returns-in-None : goal.returns-in-None
returns-in-None c =
    let south = south_value c.e.result c.n.result c.args.place c.e.ensures.place c.e.ensures.value c.n.ensures.value in
    let west = west_value c.e-in-None.result c.args.place c.e.ensures.place c.e-in-None.ensures.value in
    let r = c.new-in-None.result in
    west_or_none c.args.place r c.e.ensures.place (λ at. let h = c.in-None.ensures.within.1 (subst IsPlace (sym south) at) in cc)
    (subst (λ q. IfSome r (λ p. p ≡ q)) west c.new-in-None.ensures.value) (subst (λ q. IsSome r ↔ IsPlace q) west c.new-in-None.ensures.within)
