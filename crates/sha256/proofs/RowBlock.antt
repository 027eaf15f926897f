-- The text of a row's pad fills one block. Assumes nothing.
use Rattle.std.proofs.Common.{◌≡◌, ℕ, ◌+◌, ◌*◌, ◌/◌, ◌^◌, ◌<◌, List, [], ◌∷◌, ◌++◌, length, take, sym, refl, ap, ◌∙◌, ap₂, arith}
use mathlib.Core.List.{flatten}
use Rattle.std.specs.List.{flat_map}
use Rattle.std.specs.Int.Digits.{number_from_digits}
use Rattle.circuit.specs.Numbers.{digits}
use Rattle.circuit.proofs.Numbers.{four_bytes, number_digits}
use Rattle.sha256.specs.Hash.{word, words, padded, start, blocks, compressed, sha256}
use Rattle.sha256.specs.Pads.{row_text}
use Rattle.sha256.proofs.Bytes.{four}
use Rattle.sha256.proofs.Written.{written, written_all}

-- the 37 bytes of a text, one by one
abbrev bytes : List ℕ → List ℕ → ℕ → ℕ → List ℕ
bytes l r gate place = written 16 l ++ (written 16 r ++ (four gate ++ (place ∷ [])))

row_bytes : (l r : List ℕ) (gate place : ℕ) → length l ≡ 16 → length r ≡ 16 → row_text (l ∷ r ∷ []) gate place ≡ bytes l r gate place
unfolding flatten
row_bytes l r gate place ll lr =
    ap₂ (λ (x y : List ℕ). row_text (x ∷ y ∷ []) gate place) (written_all 16 l ll) (written_all 16 r lr)
    ∙ ap (λ (x : List ℕ). flatten (written 16 l ∷ written 16 r ∷ []) ++ (x ++ (place ∷ []))) (four_bytes gate)

-- the sixteen words of the block, the keys' words given
abbrev pub block_words : List ℕ → List ℕ → ℕ → ℕ → List ℕ
block_words l r gate place = written 4 l ++ (written 4 r ++ (gate ∷ (place * 0x100_0000 + 0x80_0000) ∷ 0 ∷ 0 ∷ 0 ∷ 0 ∷ 0 ∷ 296 ∷ []))

abbrev pub words_of_key : List ℕ → List ℕ
words_of_key k = word k 0 ∷ word k 1 ∷ word k 2 ∷ word k 3 ∷ []

row_words : (l r : List ℕ) (gate place : ℕ) → gate < 2 ^ 32 →
    words (take 64 (padded (bytes l r gate place))) ≡ block_words (words_of_key (written 16 l)) (words_of_key (written 16 r)) gate place
unfolding digits
row_words l r gate place fits =
    let g : number_from_digits 256 (four gate) ≡ gate = ap (number_from_digits 256) (sym (four_bytes gate)) ∙ number_digits 256 4 gate (omega arith) fits in
    let p : number_from_digits 256 (place ∷ 128 ∷ 0 ∷ 0 ∷ []) ≡ place * 0x100_0000 + 0x80_0000 = omega arith in
    ap₂ (λ (x y : ℕ). words_of_key (written 16 l) ++ (words_of_key (written 16 r) ++ (x ∷ y ∷ 0 ∷ 0 ∷ 0 ∷ 0 ∷ 0 ∷ 296 ∷ []))) g p

one_block : (text : List ℕ) → length (padded text) / 64 ≡ 1 → sha256 text ≡ flat_map (digits 256 4) (compressed start (words (take 64 (padded text))))
unfolding sha256 blocks
one_block text one = ap (λ (n : ℕ). flat_map (digits 256 4) (blocks n start (padded text))) one

bytes_one_block : (l r : List ℕ) (gate place : ℕ) → length (padded (bytes l r gate place)) / 64 ≡ 1
unfolding digits
bytes_one_block l r gate place = refl

pub row_digest : (l r kl kr : List ℕ) (gate place : ℕ) → length l ≡ 16 → length r ≡ 16 → gate < 2 ^ 32 → kl ≡ words_of_key l → kr ≡ words_of_key r →
    sha256 (row_text (l ∷ r ∷ []) gate place) ≡ flat_map (digits 256 4) (compressed start (block_words kl kr gate place))
row_digest l r kl kr gate place ll lr fits el er =
    let l_words : words_of_key (written 16 l) ≡ kl = sym (el ∙ ap words_of_key (written_all 16 l ll)) in
    let r_words : words_of_key (written 16 r) ≡ kr = sym (er ∙ ap words_of_key (written_all 16 r lr)) in
    ap sha256 (row_bytes l r gate place ll lr) ∙ one_block (bytes l r gate place) (bytes_one_block l r gate place)
    ∙ ap (λ (m : List ℕ). flat_map (digits 256 4) (compressed start m))
    (row_words l r gate place fits ∙ ap₂ (λ (x y : List ℕ). block_words x y gate place) l_words r_words)
