-- Bits as text: a test of all of them, and what is written is read back. Assumes nothing.
use Rattle.std.proofs.Common.{◌≡◌, ℕ, zero, suc, ◌+◌, ◌-◌, ◌<◌, ◌≤◌, Bool, true, false, ◌&&◌, List, [], ◌∷◌, ◌++◌, map, length, get_or, is_some, Some, Ok, refl, ap, ◌∙◌, arith}
use lib.Utf8.{encodes}
use Rattle.std.specs.List.{list_all}
use Rattle.std.proofs.lemmas.Bool.{eq-eqb, ne_eqb}
use Rattle.std.proofs.lemmas.List.{get_or_push, length-map, length_push, take_at}
use Rattle.std.proofs.lemmas.Str.Ascii.{encodes-IsAscii}
use Rattle.bits.specs.Texts.{bit_of, all_bits, bits_of, bits_text, values_text, line_without_end, line_of, line_text, LineBack}
use Rattle.circuit.specs.Numbers.{bit}
use Rattle.circuit.specs.declared.refusals.Refusal.{Refusal}
use Rattle.circuit.specs.declared.refusals.Refusal.TheVariants.{Malformed, Values}

pub all_bits_is : (base : ℕ) (xs : List ℕ) → all_bits base xs ≡ list_all (λ x. is_some (bit_of base x)) xs
unfolding all_bits
all_bits_is base [] = refl
all_bits_is base (x ∷ xs) = ap (λ b. is_some (bit_of base x) && b) (all_bits_is base xs)

-- bits are read as they were written, where each is written as its own byte
module _ (base : ℕ) (byte : Bool → ℕ) (own : (b : Bool) → bit_of base (byte b) ≡ Some b) where
  all_written : (bs : List Bool) → all_bits base (map byte bs) ≡ true
  unfolding all_bits
  all_written [] = refl
  all_written (b ∷ bs) = rw (own b) (all_written bs)

  same_bits : (bs : List Bool) → bits_of base (map byte bs) ≡ bs
  same_bits [] = refl
  same_bits (b ∷ bs) = rw (own b, same_bits bs)

  written_back : (n : ℕ) (e : Refusal) (bs : List Bool) → length bs ≡ n → bits_text base n e (map byte bs) ≡ Ok bs
  written_back n e bs size = rw (eq-eqb (length (map byte bs)) n (length-map bs byte ∙ size), all_written bs, same_bits bs)

pub bit_le : (b : Bool) → bit b ≤ 1
bit_le true = omega arith
bit_le false = omega arith

value_read : (b : Bool) → bit_of 0 (bit b) ≡ Some b
value_read true = refl
value_read false = refl

pub values_back : (n : ℕ) (bs : List Bool) → length bs ≡ n → values_text n (map bit bs) ≡ Ok bs
values_back n bs size = written_back 0 bit value_read n Values bs size

-- a digit is an ASCII character and no line's end
digit_at : (bs : List Bool) (i : ℕ) → (get_or (line_of bs) i 0 < 128) × (get_or (line_of bs) i 0 ≡ 10 → ⊥)
digit_at [] i = (omega arith, λ e. omega arith)
digit_at (false ∷ bs) zero = (omega arith, λ e. omega arith)
digit_at (true ∷ bs) zero = (omega arith, λ e. omega arith)
digit_at (b ∷ bs) (suc i) = digit_at bs i

pub digits_encoded : (bs : List Bool) → encodes (line_of bs) ≡ line_of bs
digits_encoded bs = encodes-IsAscii (line_of bs) (λ i. (digit_at bs i).0)

-- a line's end is taken off, and nothing else
pub without_end : (line : List ℕ) → line_without_end (line ++ (10 ∷ [])) ≡ line
without_end line =
    let len : length (line ++ (10 ∷ [])) - 1 ≡ length line = omega (arith, length_push line 10) in
    rw (len, get_or_push line 10 0 (length line) refl, take_at line (10 ∷ []) (length line) refl)

pub no_end : (text : List ℕ) → (get_or text (length text - 1) 0 ≡ 10 → ⊥) → line_without_end text ≡ text
no_end text other = rw (ne_eqb (get_or text (length text - 1) 0) 10 other)

digit_read : (b : Bool) → bit_of 48 (48 + bit b) ≡ Some b
digit_read true = refl
digit_read false = refl

pub line_is_back : (bs : List Bool) → LineBack bs
line_is_back bs =
    let whole : bits_text 48 (length bs) Malformed (line_of bs) ≡ Ok bs = written_back 48 (λ b. 48 + bit b) digit_read (length bs) Malformed bs refl in
    record { back = rw (no_end (line_of bs) (digit_at bs (length (line_of bs) - 1)).1) whole; back_with_end = rw (without_end (line_of bs)) whole }

pub line_back : (bs : List Bool) → line_text (length bs) (line_of bs) ≡ Ok bs
line_back bs = (line_is_back bs).back

pub line_back_with_end : (bs : List Bool) → line_text (length bs) (line_of bs ++ (10 ∷ [])) ≡ Ok bs
line_back_with_end bs = (line_is_back bs).back_with_end
