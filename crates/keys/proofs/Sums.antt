-- Exclusive or of bytes, made by calls at each place. Assumes nothing.
use Rattle.std.proofs.Common.{◌≡◌, ℕ, ◌<◌, List, length, get_or, sym, ◌∙◌, arith}
use denote.Param.Members.{Mut, Called}
use lib.Bits.{bit_xor}
use Rattle.std.specs.Array.{IsFromFnResult}
use Rattle.std.proofs.lemmas.List.{ext_get_or}
use Rattle.circuit.proofs.Arrays.{made_at}
use Rattle.scheme.specs.Bytes.{xor_bytes}
use Rattle.scheme.proofs.Blocks.{bytes_size, byte_at}

pub sum_made : {F : Type 0} {g : Mut F (ℕ × Unit {0}) ℕ} {f : F} {sum : List ℕ} (a b : List ℕ) → length a ≡ 16 → length b ≡ 16 → IsFromFnResult g f sum 16 →
    ((i y : ℕ) (q : F) → i < 16 → Called g f (i, tt) y q → (q ≡ f) × (y ≡ bit_xor (get_or a i 0) (get_or b i 0))) → sum ≡ xor_bytes a b
sum_made {g = g} {f = f} {sum} a b m n made calls =
    ext_get_or 0 sum (xor_bytes a b) (made.long ∙ sym (bytes_size 16 a b m n))
    (λ i below.
    let within : i < 16 = omega (arith, made.long) in
    made_at g f (λ k. bit_xor (get_or a k 0) (get_or b k 0)) sum 16 made calls i 0 within ∙ sym (byte_at a b i (omega arith) (omega arith)))
