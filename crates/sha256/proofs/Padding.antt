-- The blocks of a padded text: the full ones, and the last or last two. Assumes nothing.
use Rattle.std.proofs.Common.{◌≡◌, ℕ, zero, suc, ◌+◌, ◌-◌, ◌*◌, ◌/◌, ◌%◌, ◌^◌, ◌<◌, ◌≤◌, List, [], ◌∷◌, ◌++◌, length, take, drop, replicate, fold, sym, refl, ap, ◌∙◌, ap₂, append_assoc, arith}
use Rattle.std.specs.List.{flat_map}
use Rattle.std.specs.Simd.{first_chunks}
use Rattle.std.specs.Int.Digits.{number_from_digits}
use Rattle.std.proofs.lemmas.Nat.{shr-shr, field_of, div-add-mod'}
use Rattle.std.proofs.lemmas.List.{length-append, length-replicate, length-drop, drop-drop, replicate-append-replicate, take-append-le, drop-append-le, take_at, drop_at, take_all}
use Rattle.circuit.specs.Numbers.{digits}
use Rattle.circuit.proofs.Numbers.{length_digits}
use Rattle.sha256.specs.Hash.{words, blocks, compressed, zeros, padding, start, sha256}
use Rattle.sha256.specs.Turns.{value_from}
use Rattle.sha256.proofs.Bytes.{four}
use Rattle.sha256.proofs.Written.{written, written_all}

length_padding : (n : ℕ) → length (padding n) ≡ zeros n + 9
length_padding n =
    let a = length-append (replicate (zeros n) 0) (digits 256 8 (8 * n)) in
    let b : length (replicate {A = ℕ} (zeros n) 0) ≡ zeros n = length-replicate (zeros n) 0 in
    let d = length_digits 256 8 (8 * n) in
    omega arith

blocks_suc : (n : ℕ) (h b : List ℕ) → blocks (suc n) h b ≡ blocks n (compressed h (words (take 64 b))) (drop 64 b)
unfolding blocks
blocks_suc n h b = refl

-- the full blocks
pub value_blocks : (n k : ℕ) (h text rest state : List ℕ) → k * 64 ≤ length text → rest ≡ drop (k * 64) text →
    state ≡ fold (λ h b. compressed h (words b)) h (first_chunks 64 k text) → value_from n state rest ≡ value_from n h text
value_blocks n zero h text rest state long er es = rw (er, es) refl
value_blocks n (suc k) h text rest state long er es =
    let a = length-append text (padding n) in
    let b = length-append (drop 64 text) (padding n) in
    let d = length-drop 64 text in
    let count : length (text ++ padding n) / 64 ≡ suc (length (drop 64 text ++ padding n) / 64) = omega arith in
    let on : suc k * 64 ≡ 64 + k * 64 = omega arith in
    let next = compressed h (words (take 64 text)) in
    value_blocks n k next (drop 64 text) rest state (omega arith) (er ∙ rw (on, drop-drop (k * 64) 64 text) refl) es
    ∙ sym (rw (count, blocks_suc (length (drop 64 text ++ padding n) / 64) h (text ++ padding n), take-append-le 64 text (padding n) (omega arith), drop-append-le 64 text (padding n) (omega arith)) refl)

-- ---- the count of bits

number_four : (x : ℕ) → number_from_digits 256 (four x) ≡ x % 2 ^ 32
number_four x =
    let a : x / 256 / 256 ≡ x / 65536 = shr-shr x 8 8 in
    let b : x / 65536 / 256 ≡ x / 16777216 = shr-shr x 16 8 in
    let c : x / 16777216 / 256 ≡ x / 2 ^ 32 = shr-shr x 24 8 in
    let d = div-add-mod' x 256 in
    let e = div-add-mod' (x / 256) 256 in
    let f = div-add-mod' (x / 65536) 256 in
    let g = div-add-mod' (x / 16777216) 256 in
    let h = div-add-mod' x (2 ^ 32) in
    omega arith

eight_bytes : (x : ℕ) → digits 256 8 x ≡ four (x / 2 ^ 32) ++ four x
unfolding digits
eight_bytes x = rw (shr-shr x 8 8, shr-shr x 16 8, shr-shr x 24 8, shr-shr x 32 8, shr-shr x 40 8, shr-shr x 48 8, shr-shr x 32 16, shr-shr x 32 24)

-- a block that ends with it
words_sized : (p : List ℕ) (x b : ℕ) → length p ≡ 56 → b ≡ x % 2 ^ 64 →
    words (p ++ digits 256 8 x) ≡ take 14 (words (p ++ replicate 8 0)) ++ ((b / 2 ^ 32) ∷ (b % 2 ^ 32) ∷ [])
words_sized p x b len eb =
    let high : number_from_digits 256 (four (x / 2 ^ 32)) ≡ b / 2 ^ 32 = number_four (x / 2 ^ 32) ∙ sym (rw eb (field_of x 32 32)) in
    let low : number_from_digits 256 (four x) ≡ b % 2 ^ 32 = number_four x ∙ rw eb (omega arith) in
    rw (written_all 56 p len, eight_bytes x)
    (ap₂ (λ (u v : ℕ). take 14 (words (written 56 p ++ replicate 8 0)) ++ (u ∷ v ∷ [])) high low)

-- ---- the last block, or the last two

one_block : (h x : List ℕ) → length x ≡ 64 → blocks (length x / 64) h x ≡ compressed h (words x)
unfolding blocks
one_block h x len = rw len (rw (take_all 64 x (omega arith)) refl)

two_blocks : (h x y : List ℕ) → length x ≡ 64 → length y ≡ 64 → blocks (length (x ++ y) / 64) h (x ++ y) ≡ compressed (compressed h (words x)) (words y)
unfolding blocks
two_blocks h x y lx ly =
    let all : length (x ++ y) ≡ 128 = (let a = length-append x y in omega arith) in
    rw all (rw (take_at x y 64 lx, drop_at x y 64 lx, take_all 64 y (omega arith)) refl)

module _ (n : ℕ) (h rest : List ℕ) (part : length rest ≡ n % 64) where
  -- what is left of the text, the bit, and z zeros
  marked : ℕ → List ℕ
  marked z = rest ++ (128 ∷ replicate z 0)

  length_marked : (z : ℕ) → length (marked z) ≡ length rest + 1 + z
  unfolding marked
  length_marked z =
      let a = length-append rest (128 ∷ replicate z 0) in
      let b : length (replicate {A = ℕ} z 0) ≡ z = length-replicate z 0 in
      omega arith

  marked_more : (y z : ℕ) → marked (y + z) ≡ marked y ++ replicate z 0
  unfolding marked
  marked_more y z = rw (append_assoc rest (128 ∷ replicate y 0) (replicate z 0), replicate-append-replicate {A = ℕ} y z 0) refl

  whole : rest ++ padding n ≡ marked (zeros n) ++ digits 256 8 (8 * n)
  unfolding marked
  whole = sym (append_assoc rest (128 ∷ replicate (zeros n) 0) (digits 256 8 (8 * n)))

  sized_length : (x : List ℕ) → length x ≡ 56 → length (x ++ digits 256 8 (8 * n)) ≡ 64
  sized_length x len =
      let a = length-append x (digits 256 8 (8 * n)) in
      let b = length_digits 256 8 (8 * n) in
      omega arith

  pub value_short : (m b s r : List ℕ) (bits : ℕ) → length rest < 56 → bits ≡ (8 * n) % 2 ^ 64 → m ≡ rest ++ (128 ∷ replicate (63 - length rest) 0) →
      b ≡ words m → s ≡ take 14 b ++ ((bits / 2 ^ 32) ∷ (bits % 2 ^ 32) ∷ []) → r ≡ compressed h s → r ≡ value_from n h rest
  unfolding marked
  value_short m b s r bits short eb em ew es er =
      let z : zeros n ≡ 55 - length rest = omega arith in
      let x = marked (55 - length rest) in
      let lx : length x ≡ 56 = (let a = length_marked (55 - length rest) in omega arith) in
      let all : rest ++ padding n ≡ x ++ digits 256 8 (8 * n) = whole ∙ ap (λ (k : ℕ). marked k ++ digits 256 8 (8 * n)) z in
      let k : 63 - length rest ≡ 55 - length rest + 8 = omega arith in
      let m_is : m ≡ x ++ replicate 8 0 = em ∙ ap marked k ∙ marked_more (55 - length rest) 8 in
      let s_is : s ≡ words (x ++ digits 256 8 (8 * n)) =
      es ∙ ap (λ (y : List ℕ). take 14 y ++ ((bits / 2 ^ 32) ∷ (bits % 2 ^ 32) ∷ [])) (ew ∙ ap words m_is) ∙ sym (words_sized x (8 * n) bits lx eb) in
      er ∙ ap (compressed h) s_is ∙ sym (ap (λ (y : List ℕ). blocks (length y / 64) h y) all ∙ one_block h (x ++ digits 256 8 (8 * n)) (sized_length x lx))

  pub value_long : (m b t s r : List ℕ) (bits : ℕ) → 56 ≤ length rest → bits ≡ (8 * n) % 2 ^ 64 → m ≡ rest ++ (128 ∷ replicate (63 - length rest) 0) →
      b ≡ words m → t ≡ compressed h b → s ≡ take 14 (replicate 16 0) ++ ((bits / 2 ^ 32) ∷ (bits % 2 ^ 32) ∷ []) → r ≡ compressed t s → r ≡ value_from n h rest
  unfolding marked
  value_long m b t s r bits long eb em ew et es er =
      let z : zeros n ≡ 63 - length rest + 56 = omega arith in
      let x = marked (63 - length rest) in
      let y = replicate 56 0 ++ digits 256 8 (8 * n) in
      let lx : length x ≡ 64 = (let a = length_marked (63 - length rest) in omega arith) in
      let ly : length y ≡ 64 = sized_length (replicate 56 0) refl in
      let all : rest ++ padding n ≡ x ++ y =
      whole ∙ ap (λ (k : ℕ). marked k ++ digits 256 8 (8 * n)) z ∙ ap (λ (q : List ℕ). q ++ digits 256 8 (8 * n)) (marked_more (63 - length rest) 56)
      ∙ append_assoc x (replicate 56 0) (digits 256 8 (8 * n)) in
      let s_is : s ≡ words y = es ∙ sym (words_sized (replicate 56 0) (8 * n) bits refl eb) in
      er ∙ ap₂ compressed (et ∙ ap (compressed h) (ew ∙ ap words em)) s_is
      ∙ sym (ap (λ (q : List ℕ). blocks (length q / 64) h q) all ∙ two_blocks h x y lx ly)

pub hashed : (text v : List ℕ) → v ≡ value_from (length text) start text → sha256 text ≡ flat_map (digits 256 4) v
unfolding sha256
hashed text v is = ap (flat_map (digits 256 4)) (sym is)
