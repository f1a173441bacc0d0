-- A legal history's content is planar, and so none of its pieces crosses another.
use Rattle.ground_model.specs.History.{content_of}
use Rattle.ground_model.proofs.Planar.{planar-legal, none_cross}
use Rattle.ground_model.proofs.laws.planar_law.Goals as goal

pub returns : goal.returns
returns c = λ limits h legal. (planar-legal limits h legal, none_cross (content_of h) (planar-legal limits h legal))
