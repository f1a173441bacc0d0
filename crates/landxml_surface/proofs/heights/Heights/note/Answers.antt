use Rattle.std.proofs.Common.{◌≡◌, refl, sym, ap, subst, cond, ◌∙◌, None, Some}
use Rattle.landxml_surface.specs.declared.spot.Spot.{Spot}
use Rattle.indexmap.specs.IndexMap.{get}
use Rattle.indexmap.proofs.CallerLemmas.{insert_entry-new}
use Rattle.landxml_surface.specs.Heights.{is_same_spot, spot_of}
use Rattle.landxml_surface.proofs.Noted.{noted-first, noted-again}
use Rattle.landxml_surface.proofs.heights.Heights.note.Goals as goal

pub returns-in-Some : goal.returns-in-Some
returns-in-Some c ts are =
    let some : get is_same_spot c.args.self.now.levels (spot_of c.args.triple.now) ≡ Some c.in-Some.level = ap (get is_same_spot c.args.self.now.levels) (sym c.spot_of-spot.ensures) ∙ sym c.level.ensures ∙ c.in-Some.is in
    noted-again ts c.args.triple.now c.args.self.now _ are c.in-Some.level some c.count.ensures.levels (rw (← c.is_level.ensures) c.count.ensures.doubles) (rw (← c.is_level.ensures) c.count.ensures.clashes)

pub returns-in-Ok : goal.returns-in-Ok
returns-in-Ok c ts are =
    let made = c.in-Ok.ensures in
    let none : get is_same_spot c.args.self.now.levels c.spot_of-spot.result ≡ None = sym c.level.ensures ∙ c.in-None.is in
    noted-first ts c.args.triple.now c.args.self.now _ are (rw (← c.spot_of-spot.ensures) none)
    (rw (← c.spot_of-spot.ensures) (made.entries ∙ insert_entry-new is_same_spot c.args.self.now.levels c.spot_of-spot.result c.args.triple.now.z none)) (subst (λ (s : Spot). (q : Spot) → get is_same_spot c.insert.new.self q ≡ cond (is_same_spot s q) (Some c.args.triple.now.z) (get is_same_spot c.args.self.now.levels q)) c.spot_of-spot.ensures made.updates.0) refl refl
