-- What a read moves, and what it leaves.
use Rattle.std.proofs.Common.{◌≡◌, ℕ, ◌+◌, ◌<◌, List, [], ◌++◌, length, take, drop, min, sym, arith}
use Rattle.std.proofs.Math.ListN.{drop_of_length-le}
use Rattle.std.proofs.lemmas.List.{take-append-drop, drop-drop, length-drop}

-- what is left begins with the bytes that were moved
pub left-moved : (xs moved : List ℕ) (at n : ℕ) → take n moved ≡ take n (drop at xs) → drop at xs ≡ take n moved ++ drop (at + n) xs
left-moved xs moved at n same = rw same (rw (← drop-drop n at xs) (sym (take-append-drop n (drop at xs))))

-- a read that had room and moved nothing is at the end
pub left-end : (xs : List ℕ) (at n room : ℕ) → n ≡ min (length (drop at xs)) room → n ≡ 0 → 0 < room → drop (at + n) xs ≡ []
left-end xs at n room count none some = drop_of_length-le xs (omega (arith, length-drop at xs))
