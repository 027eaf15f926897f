-- Bits as text: a byte for each. Assumes nothing.
use Rattle.std.specs.Prelude.{◌≡◌, ℕ, ◌+◌, ◌-◌, Bool, true, false, cond, ◌&&◌, List, [], ◌∷◌, ◌++◌, map, length, take, is_some, Some, None, Ok, Option, ◌==◌, slice_index}
use Rattle.std.specs.Option.{unwrap_or}
use Rattle.circuit.specs.Numbers.{bit}
use Rattle.circuit.specs.Refusals.{Answer, require}
use Rattle.circuit.specs.declared.refusals.Refusal.{Refusal}
use Rattle.circuit.specs.declared.refusals.Refusal.TheVariants.{Malformed, Values}

-- 0 is the byte `base`, and 1 the one after it
abbrev pub bit_of : ℕ → ℕ → Option Bool
bit_of base x = cond (x == base) (Some false) (cond (x == base + 1) (Some true) None)

unfoldable pub all_bits : ℕ → List ℕ → Bool
all_bits base [] = true
all_bits base (x ∷ xs) = is_some (bit_of base x) && all_bits base xs

abbrev pub bits_of : ℕ → List ℕ → List Bool
bits_of base xs = map (λ x. unwrap_or (bit_of base x) false) xs

-- n bits and nothing else, or the refusal e
abbrev pub bits_text : ℕ → ℕ → Refusal → List ℕ → Answer (List Bool)
bits_text base n e xs = require (length xs == n && all_bits base xs) e (Ok (bits_of base xs))

-- values: the bytes 0 and 1
abbrev pub values_text : ℕ → List ℕ → Answer (List Bool)
values_text n xs = bits_text 0 n Values xs

-- a line: the characters 0 and 1, and the line's end, which may be missing
abbrev pub line_without_end : List ℕ → List ℕ
line_without_end xs = cond (slice_index xs (length xs - 1) == 10) (take (length xs - 1) xs) xs

abbrev pub line_text : ℕ → List ℕ → Answer (List Bool)
line_text n xs = bits_text 48 n Malformed (line_without_end xs)

abbrev pub line_of : List Bool → List ℕ
line_of bs = map (λ b. 48 + bit b) bs

-- the line of some bits is read as those bits, without its end and with it
pub record LineBack (bs : List Bool) : Type 0 where
  pub back : line_text (length bs) (line_of bs) ≡ Ok bs
  pub back_with_end : line_text (length bs) (line_of bs ++ (10 ∷ [])) ≡ Ok bs
