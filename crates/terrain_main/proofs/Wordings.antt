-- The words of a command line that can be had.
use Rattle.std.proofs.Common.{◌≡◌, ◌∙◌, sym, ap, List, Option, Some, Vec, String, Global}
use Rattle.std.specs.Prelude.{option_map}
use Rattle.terrain_main.specs.Commands.{words_or_none}

pub words_are : (o : Option (Vec (String Global) Global)) (w : Vec (String Global) Global) (list : List (String Global)) → o ≡ Some w → list ≡ w.items → words_or_none (option_map (λ v. v.items) o) ≡ list
words_are o w list is same = ap (λ (x : Option (Vec (String Global) Global)). words_or_none (option_map (λ (v : Vec (String Global) Global). v.items) x)) is ∙ sym same
