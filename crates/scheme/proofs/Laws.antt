-- The laws of exclusive or are all there: terms without pads that are equal bytes, whatever is drawn, are equal terms. Such a term is a sum of secrets and a number;
-- drawing one secret as 1 and all others as 0 shows whether it stands in the sum an odd number of times. Assumes nothing.
use Rattle.std.proofs.Common.{◌≡◌, ℕ, zero, suc, ◌%◌, ◌^◌, ◌<◌, ◌≤◌, Bool, true, false, List, [], ◌∷◌, ◌++◌, map, length, get_or, replicate, sym, refl, ap, ◌∙◌, arith}
use lib.Bits.{bit_xor, xor_assoc, xor_self, xor_zero_r}
use Rattle.std.specs.Int.Digits.{number_from_digits as number}
use Rattle.std.proofs.lemmas.Nat.{mod_below}
use Rattle.std.proofs.lemmas.Bool.{true≢false, not-false}
use Rattle.circuit.specs.Numbers.{bit, digits}
use Rattle.circuit.proofs.Numbers.{number_digits}
use Rattle.scheme.specs.Bytes.{Drawn, value}
use Rattle.scheme.specs.Coins.{◌⊕◌}
use Rattle.scheme.specs.Promises.{Plain, AllLaws}
use Rattle.scheme.specs.Terms.{block, Term, Equal, secret, public, xor, pad, same, flip, chain, regroup, swap, unit, twice, numbers, wraps, in_xor, ◌≈◌, sum}
use Rattle.scheme.proofs.Bare.{drawing}
use Rattle.scheme.proofs.Blocks.{bytes_comm, bytes_zero, byte_at, digits_wrap, sound, value_size}
use Rattle.scheme.proofs.Colours.{xor_same, xor_back, xor_past}
use Rattle.scheme.proofs.Colours.{xor_assoc as bool-assoc}
use Rattle.scheme.proofs.Derived.{equals, off}

-- a term past another
past : {A : Type 0} (t u v : Term A block) → xor t (xor u v) ≈ xor u (xor t v)
past t u v = chain (flip (regroup t u v)) (chain (in_xor (swap t u) same) (regroup u t v))

module _ {A : Type 0} where
  abbrev total : List A → ℕ → Term A block
  total ks n = sum (map secret ks) n

  number_in : (m : ℕ) (ks : List A) (n : ℕ) → xor (public m) (total ks n) ≈ total ks (bit_xor m n)
  number_in m [] n = numbers m n
  number_in m (k ∷ ks) n = chain (past (public m) (secret k) (total ks n)) (in_xor same (number_in m ks n))

  total_append : (ks ls : List A) (m n : ℕ) → xor (total ks m) (total ls n) ≈ total (ks ++ ls) (bit_xor m n)
  total_append [] ls m n = number_in m ls n
  total_append (k ∷ ks) ls m n = chain (regroup (secret k) (total ks m) (total ls n)) (in_xor same (total_append ks ls m n))

  -- every term without pads is a sum
  totalled : (t : Term A block) → Plain t → (ks : List A) × (n : ℕ) × (t ≈ total ks n)
  totalled (secret k) plain = (k ∷ [], 0, flip (unit (secret k)))
  totalled (public n) plain = ([], n, same)
  totalled (xor t u) plain =
      let a = totalled t plain.0 in
      let e = totalled u plain.1 in
      (a.0 ++ e.0, bit_xor a.1 e.1, chain (in_xor a.2 e.2) (total_append a.0 e.0 a.1 e.1))
  totalled (pad t) plain = absurd plain

  same_number : {m n : ℕ} (ks : List A) → Equal A block (public m) (public n) → total ks m ≈ total ks n
  same_number [] e = e
  same_number (k ∷ ks) e = in_xor same (same_number ks e)

  -- numbers with the same bytes
  same_public : (m n : ℕ) → digits 256 16 m ≡ digits 256 16 n → Equal A block (public m) (public n)
  same_public m n e =
      let number_of : (x : ℕ) → number 256 (digits 256 16 x) ≡ x % 2 ^ 128 = λ x.
      ap (number 256) (sym (digits_wrap 16 x)) ∙ number_digits 256 16 (x % 2 ^ 128) (omega arith) (mod_below x (2 ^ 128) (omega arith)) in
      chain (wraps m) (chain (equals (ap public (sym (number_of m) ∙ ap (number 256) e ∙ number_of n))) (flip (wraps n)))

-- bytes and bits
bits_xor : (a b : Bool) → bit_xor (bit a) (bit b) ≡ bit (a ⊕ b)
bits_xor a b = grind arith

same_bit : (a b : Bool) (x : ℕ) → bit_xor (bit a) x ≡ bit_xor (bit b) x → a ≡ b
same_bit a b x e = go a b (sym (without (bit a)) ∙ ap (λ y. bit_xor y x) e ∙ without (bit b))
  where
    without : (y : ℕ) → bit_xor (bit_xor y x) x ≡ y
    without y = xor_assoc y x x ∙ ap (bit_xor y) (xor_self x) ∙ xor_zero_r y

    go : (a b : Bool) → bit a ≡ bit b → a ≡ b
    go a b e = grind arith

-- secrets that can be told from each other
module _ {A : Type 0} (eq : A → A → Bool) (eq_same : (k j : A) → eq k j ≡ true → k ≡ j) (eq_self : (k : A) → eq k k ≡ true) where
  -- a secret stands in a list an odd number of times
  abbrev odd : A → List A → Bool
  odd k [] = false
  odd k (j ∷ js) = eq k j ⊕ odd k js

  -- then it can be pulled to the front
  record Pulled (k : A) (ks : List A) : Type 0 where
    rest : List A
    shorter : length ks ≡ suc (length rest)
    odds : (j : A) → odd j ks ≡ eq j k ⊕ odd j rest
    same_total : (n : ℕ) → total ks n ≈ xor (secret k) (total rest n)

  pull : (k : A) (ks : List A) → odd k ks ≡ true → Pulled k ks
  pull k [] is = absurd (true≢false (sym is))
  pull k (j ∷ js) is = go (eq k j) refl (pull k js)
    where
      go : (b : Bool) → eq k j ≡ b → (odd k js ≡ true → Pulled k js) → Pulled k (j ∷ js)
      go true own further =
          record { rest = js; shorter = refl; odds = λ i. ap (λ l. eq i l ⊕ odd i js) (sym (eq_same k j own)); same_total = λ n. equals (ap (λ l. xor (secret l) (total js n)) (sym (eq_same k j own))) }
      go false other further =
          let p = further (sym (ap (λ b. b ⊕ odd k js) other) ∙ is) in
          record {
            rest = j ∷ p.rest;
            shorter = ap suc p.shorter;
            odds = λ i. ap (λ b. eq i j ⊕ b) (p.odds i) ∙ xor_past (eq i j) (eq i k) (odd i p.rest);
            same_total = λ n. chain (in_xor same (p.same_total n)) (past (secret j) (secret k) (total p.rest n));
          }

  -- a sum in which no secret stands an odd number of times is its number
  even_total : (size : ℕ) (ks : List A) → length ks ≤ size → ((k : A) → odd k ks ≡ false) → (n : ℕ) → total ks n ≈ public n
  even_total size [] small even n = same
  even_total zero (k ∷ ks) small even n = absurd (omega arith)
  even_total (suc size) (k ∷ ks) small even n =
      let again : odd k ks ≡ true = not-false (odd k ks) (sym (ap (λ b. b ⊕ odd k ks) (eq_self k)) ∙ even k) in
      let p = pull k ks again in
      let fewer : length p.rest ≤ size = omega (arith, p.shorter) in
      chain (in_xor same (p.same_total n))
      (chain (flip (regroup (secret k) (secret k) (total p.rest n)))
      (chain (in_xor (twice (secret k)) same)
      (chain (swap (public 0) (total p.rest n))
      (chain (unit (total p.rest n))
      (even_total size p.rest fewer (λ j. sym (xor_back (eq j k) (odd j p.rest)) ∙ sym (ap (λ b. eq j k ⊕ b) (p.odds j)) ∙ even j) n)))))

  odd_append : (k : A) (ks ls : List A) → odd k (ks ++ ls) ≡ odd k ks ⊕ odd k ls
  odd_append k [] ls = refl
  odd_append k (j ∷ ks) ls = ap (λ b. eq k j ⊕ b) (odd_append k ks ls) ∙ sym (bool-assoc (eq k j) (odd k ks) (odd k ls))

  -- sums with the same odd secrets are equal
  same_totals : (ks ls : List A) → ((k : A) → odd k ks ≡ odd k ls) → (n : ℕ) → total ks n ≈ total ls n
  same_totals ks ls odds n =
      let even : (k : A) → odd k (ks ++ ls) ≡ false = λ k. odd_append k ks ls ∙ ap (λ b. b ⊕ odd k ls) (odds k) ∙ xor_same (odd k ls) in
      let none = chain (total_append ks ls n n) (chain (even_total (length (ks ++ ls)) (ks ++ ls) (omega arith) even (bit_xor n n)) (equals (ap public (xor_self n)))) in
      chain (flip (off (total ks n) (total ls n))) (chain (in_xor none same) (chain (swap (public 0) (total ls n)) (unit (total ls n))))

  -- all secrets drawn as 0, or one of them as 1
  no_secret : (ks : List A) (n : ℕ) → value (drawing (λ k. false)) (total ks n) ≡ digits 256 16 n
  unfolding value
  no_secret [] n = refl
  no_secret (k ∷ ks) n =
      bytes_comm (replicate 16 0) (value (drawing (λ k. false)) (total ks n)) ∙ bytes_zero 16 (value (drawing (λ k. false)) (total ks n)) (value_size (drawing (λ k. false)) (total ks n))
      ∙ no_secret ks n

  one_secret : (j : A) (ks : List A) (n : ℕ) → get_or (value (drawing (eq j)) (total ks n)) 15 0 ≡ bit_xor (bit (odd j ks)) (get_or (digits 256 16 n) 15 0)
  unfolding value
  one_secret j [] n = refl
  one_secret j (k ∷ ks) n =
      let more = value (drawing (eq j)) (total ks n) in
      let size = value_size (drawing (eq j)) (total ks n) in
      let last : 15 < length more = omega (arith, size) in
      byte_at (replicate 15 0 ++ (bit (eq j k) ∷ [])) more 15 (omega arith) last
      ∙ ap (bit_xor (bit (eq j k))) (one_secret j ks n) ∙ sym (xor_assoc (bit (eq j k)) (bit (odd j ks)) (get_or (digits 256 16 n) 15 0))
      ∙ ap (λ b. bit_xor b (get_or (digits 256 16 n) 15 0)) (bits_xor (eq j k) (odd j ks))

  pub all_laws : AllLaws A
  all_laws t u plain-t plain_u equal =
      let a = totalled t plain-t in
      let e = totalled u plain_u in
      let bytes : (d : Drawn A) → value d (total a.0 a.1) ≡ value d (total e.0 e.1) =
      λ d. sym (sound d block t (total a.0 a.1) a.2) ∙ equal d ∙ sound d block u (total e.0 e.1) e.2 in
      let number = sym (no_secret a.0 a.1) ∙ bytes (drawing (λ k. false)) ∙ no_secret e.0 e.1 in
      let odds : (j : A) → odd j a.0 ≡ odd j e.0 = λ j.
      same_bit (odd j a.0) (odd j e.0) (get_or (digits 256 16 e.1) 15 0)
      (ap (λ l. bit_xor (bit (odd j a.0)) (get_or l 15 0)) (sym number) ∙ sym (one_secret j a.0 a.1) ∙ ap (λ l. get_or l 15 0) (bytes (drawing (eq j))) ∙ one_secret j e.0 e.1) in
      chain a.2 (chain (same_totals a.0 e.0 odds a.1) (chain (same_number e.0 (same_public a.1 e.1 number)) (flip e.2)))
