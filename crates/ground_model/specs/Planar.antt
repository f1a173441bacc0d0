-- What no lawful edit breaks: a content is planar.
use Rattle.std.specs.Prelude.{◌≡◌, ◌<◌, false, IsTrue, List}
use Rattle.std.specs.List.{All}
use Rattle.ground_model.specs.declared.limits.Limits.{Limits}
use Rattle.ground_model.specs.declared.entry.Entry.{Entry}
use Rattle.ground_model.specs.declared.piece.Piece.{Piece}
use Rattle.ground_model.specs.Side.{crosses}
use Rattle.ground_model.specs.Table.{numbered}
use Rattle.ground_model.specs.Content.{Content, points_of, lines_of, pieces}
use Rattle.ground_model.specs.History.{content_of, IsLegal}
use Rattle.ground_model.specs.Crossings.{lines_cross, is_on_points}

-- each place of a line is a point, no pieces of two lines or of one cross, and the number to come is above all that are live
pub record IsPlanar (c : Content) : Type 0 where
  pub on_points : All (λ line. IsTrue (is_on_points (points_of c) line)) (lines_of c)
  pub apart : All (λ l. All (λ m. lines_cross (points_of c) l m ≡ false) (lines_of c)) (lines_of c)
  pub fresh : All (λ entry. entry.0 < c.table.next) (numbered c.table)

-- no piece crosses another
abbrev pub NoneCross : List Piece → Type 0
NoneCross ps = All (λ x. All (λ y. crosses x.p x.q y.p y.q ≡ false) ps) ps

-- the pieces of the content of every legal history cross nowhere
abbrev pub LegalIsPlanar : Type 0
LegalIsPlanar = (limits : Limits) (h : List Entry) → IsLegal limits h → IsPlanar (content_of h) × NoneCross (pieces (content_of h))
