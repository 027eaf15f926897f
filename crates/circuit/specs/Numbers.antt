-- Numbers as digits of a fixed count, the highest first: bytes in base 256, bits in base 2. Assumes nothing.
use Rattle.std.specs.Prelude.{ℕ, zero, suc, ◌/◌, ◌%◌, Bool, true, false, cond, List, [], ◌∷◌, ◌++◌, map, length, take, drop, Some, None, Option, nat_eq, nat_le}
use Rattle.std.specs.Int.Digits.{number_from_digits}

-- the n lowest digits of x in base b
unfoldable pub digits : ℕ → ℕ → ℕ → List ℕ
digits b zero x = []
digits b (suc n) x = digits b n (x / b) ++ (x % b ∷ [])

abbrev pub bit : Bool → ℕ
bit false = 0
bit true = 1

-- the number that bits write
abbrev pub binary : List Bool → ℕ
binary bs = number_from_digits 2 (map bit bs)

-- the n lowest bits of x
abbrev pub bits : ℕ → ℕ → List Bool
bits n x = map (λ d. nat_eq d 1) (digits 2 n x)

-- the number that the first n bytes write, and what is left
abbrev pub front : ℕ → List ℕ → Option (ℕ × List ℕ)
front n xs = cond (nat_le n (length xs)) (Some (number_from_digits 256 (take n xs), drop n xs)) None
