-- What counts tell that are sums of others.
use Rattle.std.proofs.Common.{◌≡◌, ℕ, suc, ◌+◌, ◌<◌, arith}

pub along : (m n : ℕ) → m ≡ n → 0 < m → 0 < n
along m n e h = omega (arith, e, h)

pub some-of : (m k : ℕ) → m ≡ suc k → 0 < m
some-of m k e = omega (arith, e)

-- where one is not 0 and the other is, they differ
pub apart : (m n : ℕ) → 0 < m → n ≡ 0 → m ≡ n → ⊥
apart m n h e f = omega (arith, h, e, f)

-- of a sum
pub larger-first : (n k m : ℕ) → n ≡ k + m → 0 < k → 0 < n
larger-first n k m e h = omega (arith, e, h)

pub larger-last : (n k m : ℕ) → n ≡ k + m → 0 < m → 0 < n
larger-last n k m e h = omega (arith, e, h)

pub differs-from-last : (n k m : ℕ) → n ≡ k + m → 0 < k → n ≡ m → ⊥
differs-from-last n k m e h f = omega (arith, e, h, f)

pub last-left : (n k m : ℕ) → n ≡ k + m → k ≡ 0 → n ≡ m
last-left n k m e f = omega (arith, e, f)

-- of two sums with the same first part
pub same-last : (b n k l m r : ℕ) → b ≡ k + m → n ≡ l + r → k ≡ l → b ≡ n → m ≡ r
same-last b n k l m r e f g h = omega (arith, e, f, g, h)
