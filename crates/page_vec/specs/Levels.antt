-- The tree of a list, by the level of its top page.
use Rattle.std.specs.Prelude.{◌≡◌, ℕ, ◌<◌, ◌^◌, List, length}
use Rattle.page_vec.specs.declared.tree.Tree.{Tree}
use Rattle.page_vec.specs.declared.tree.Tree.TheVariants.{Second, Third, Fourth, Fifth}

-- the entries of a tree
abbrev pub items_of : {T : Type 0} → Tree T → List T
items_of (Second items) = items
items_of (Third items) = items
items_of (Fourth items) = items
items_of (Fifth items) = items

-- how many entries its levels hold when they are full
abbrev pub room_of : {T : Type 0} → Tree T → ℕ
room_of (Second items) = 2 ^ 12
room_of (Third items) = 2 ^ 18
room_of (Fourth items) = 2 ^ 24
room_of (Fifth items) = 2 ^ 30

-- the same entries, with room for one more
pub record IsRaised {T : Type 0} (old new : Tree T) : Type 0 where
  pub same : items_of new ≡ items_of old
  pub room : length (items_of old) < room_of new
