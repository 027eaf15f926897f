-- Exclusive or of bytes has its laws, so equal terms are equal bytes. Assumes nothing.
use Rattle.std.proofs.Common.{◌≡◌, ℕ, zero, suc, ◌+◌, ◌*◌, ◌/◌, ◌%◌, ◌^◌, ◌<◌, List, [], ◌∷◌, ◌++◌, length, get_or, replicate, sym, refl, ap, ◌∙◌, ap₂, arith}
use mathlib.Core.List.{zip_with}
use lib.Bits.{bit_xor, xor_assoc, xor_comm, xor_self, xor_zero_r, xor_shr, xor_mod}
use Rattle.std.proofs.lemmas.Nat.{mod-pow-add, mod_below, div-mul-add, mod-mul-add}
use Rattle.circuit.specs.Numbers.{digits}
use Rattle.circuit.proofs.Numbers.{length_digits}
use Rattle.scheme.specs.Bytes.{xor_bytes, Drawn, value}
use Rattle.scheme.specs.Promises.{Sound}
use Rattle.scheme.specs.Terms.{Sort, block, Term, secret, public, xor, pad, same, flip, chain, regroup, swap, unit, twice, numbers, wraps, in_xor, in_pad, in_text, ◌≈◌}
use Rattle.scheme.proofs.Lists.{conses}

pub bytes_comm : (a b : List ℕ) → xor_bytes a b ≡ xor_bytes b a
unfolding zip_with
bytes_comm [] [] = refl
bytes_comm [] (y ∷ b) = refl
bytes_comm (x ∷ a) [] = refl
bytes_comm (x ∷ a) (y ∷ b) = conses (xor_comm x y) (bytes_comm a b)

pub bytes_assoc : (a b c : List ℕ) → xor_bytes (xor_bytes a b) c ≡ xor_bytes a (xor_bytes b c)
unfolding zip_with
bytes_assoc [] b c = refl
bytes_assoc (x ∷ a) [] c = refl
bytes_assoc (x ∷ a) (y ∷ b) [] = refl
bytes_assoc (x ∷ a) (y ∷ b) (z ∷ c) = conses (xor_assoc x y z) (bytes_assoc a b c)

pub bytes_zero : (n : ℕ) (a : List ℕ) → length a ≡ n → xor_bytes a (replicate n 0) ≡ a
unfolding zip_with
bytes_zero n [] e = refl
bytes_zero zero (x ∷ a) e = absurd (omega arith)
bytes_zero (suc n) (x ∷ a) e = conses (xor_zero_r x) (bytes_zero n a (omega arith))

pub bytes_self : (n : ℕ) (a : List ℕ) → length a ≡ n → xor_bytes a a ≡ replicate n 0
unfolding zip_with
bytes_self zero [] e = refl
bytes_self (suc n) [] e = absurd (omega arith)
bytes_self zero (x ∷ a) e = absurd (omega arith)
bytes_self (suc n) (x ∷ a) e = conses (xor_self x) (bytes_self n a (omega arith))

pub bytes_size : (n : ℕ) (a b : List ℕ) → length a ≡ n → length b ≡ n → length (xor_bytes a b) ≡ n
unfolding zip_with
bytes_size n [] b p q = p
bytes_size n (x ∷ a) [] p q = q
bytes_size zero (x ∷ a) (y ∷ b) p q = absurd (omega arith)
bytes_size (suc n) (x ∷ a) (y ∷ b) p q = ap suc (bytes_size n a b (omega arith) (omega arith))

pub byte_at : (a e : List ℕ) (i : ℕ) → i < length a → i < length e → get_or (xor_bytes a e) i 0 ≡ bit_xor (get_or a i 0) (get_or e i 0)
unfolding zip_with
byte_at [] e i p q = absurd (omega arith)
byte_at (x ∷ a) [] i p q = absurd (omega arith)
byte_at (x ∷ a) (y ∷ e) zero p q = refl
byte_at (x ∷ a) (y ∷ e) (suc i) p q = byte_at a e i (omega arith) (omega arith)

bytes_push : (a b : List ℕ) (x y : ℕ) → length a ≡ length b → xor_bytes (a ++ (x ∷ [])) (b ++ (y ∷ [])) ≡ xor_bytes a b ++ (bit_xor x y ∷ [])
unfolding zip_with
bytes_push [] [] x y e = refl
bytes_push [] (v ∷ b) x y e = absurd (omega arith)
bytes_push (u ∷ a) [] x y e = absurd (omega arith)
bytes_push (u ∷ a) (v ∷ b) x y e = ap (λ l. bit_xor u v ∷ l) (bytes_push a b x y (omega arith))

-- numbers as bytes
bytes_digits : (n x y : ℕ) → xor_bytes (digits 256 n x) (digits 256 n y) ≡ digits 256 n (bit_xor x y)
unfolding digits zip_with
bytes_digits zero x y = refl
bytes_digits (suc n) x y =
    bytes_push (digits 256 n (x / 256)) (digits 256 n (y / 256)) (x % 256) (y % 256) (length_digits 256 n (x / 256) ∙ sym (length_digits 256 n (y / 256)))
    ∙ ap₂ (λ (l : List ℕ) (d : ℕ). l ++ (d ∷ [])) (bytes_digits n (x / 256) (y / 256) ∙ ap (digits 256 n) (sym (xor_shr x y 8))) (sym (xor_mod x y 8))

pub digits_wrap : (n x : ℕ) → digits 256 n (x % 2 ^ (8 * n)) ≡ digits 256 n x
unfolding digits
digits_wrap zero x = refl
digits_wrap (suc n) x =
    let high = x / 256 % 2 ^ (8 * n) in
    let low = x % 256 in
    let small : low < 256 = mod_below x 256 (omega arith) in
    let split : x % 2 ^ (8 * suc n) ≡ high * 256 + low = ap (λ e. x % 2 ^ e) (omega arith) ∙ mod-pow-add x (8 * n) 8 in
    ap (digits 256 (suc n)) split
    ∙ ap₂ (λ (l : List ℕ) (d : ℕ). l ++ (d ∷ [])) (ap (digits 256 n) (div-mul-add high 256 low small) ∙ digits_wrap n (x / 256)) (mod-mul-add high 256 low small)

no_bytes : digits 256 16 0 ≡ replicate 16 0
unfolding digits
no_bytes = refl

module _ {A : Type 0} (d : Drawn A) where
  pub value_size : (t : Term A block) → length (value d t) ≡ 16
  unfolding value
  value_size (secret k) = (d.secrets_block k).0
  value_size (public n) = length_digits 256 16 n
  value_size (xor t u) = bytes_size 16 (value d t) (value d u) (value_size t) (value_size u)
  value_size (pad t) = (d.hash_block (value d t).0 (value d t).1).0

  value_alike : {s : Sort} {t u : Term A s} → t ≈ u → value d t ≡ value d u
  unfolding value
  value_alike same = refl
  value_alike (flip e) = sym (value_alike e)
  value_alike (chain e f) = value_alike e ∙ value_alike f
  value_alike (regroup t u v) = grind (arith, bytes_assoc)
  value_alike (swap t u) = bytes_comm (value d t) (value d u)
  value_alike (unit t) = rw no_bytes (bytes_zero 16 (value d t) (value_size t))
  value_alike (twice t) = rw no_bytes (bytes_self 16 (value d t) (value_size t))
  value_alike (numbers m n) = bytes_digits 16 m n
  value_alike (wraps n) = sym (digits_wrap 16 n)
  value_alike (in_xor e f) = ap₂ xor_bytes (value_alike e) (value_alike f)
  value_alike (in_pad e) = grind (arith, value_alike e)
  value_alike (in_text e f) = grind (arith, value_alike e, value_alike f)

pub sound : {A : Type 0} → Sound A
sound d s t u e = value_alike d e
