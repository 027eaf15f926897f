-- A block with its last bit replaced: it stays a block, has the colour that it was given, and keeps its stem. Assumes nothing.
use Rattle.std.proofs.Common.{◌≡◌, ℕ, ◌+◌, ◌*◌, ◌/◌, ◌%◌, ◌<◌, ◌≤◌, Bool, true, false, eqb, List, ◌∷◌, ◌++◌, length, get_or, take, set, sym, ap, ◌∙◌, arith, rules, tests}
use Rattle.std.specs.Int.Digits.{number_from_digits}
use Rattle.std.proofs.lemmas.Int.Digits.{number_push}
use Rattle.std.proofs.ByRecursion.{All-get_or, All-set}
use Rattle.std.proofs.lemmas.List.{drop_all, get_or-set_same, length-set, set-get_or, set_split}
use Rattle.circuit.specs.Numbers.{bit}
use Rattle.scheme.specs.Bytes.{Block, colour_of}
use Rattle.keys.specs.Drawing.{stem, coloured}

bit_small : (c : Bool) → bit c ≤ 1
bit_small true = omega arith
bit_small false = omega arith

parity : (c : Bool) (h : ℕ) → eqb ((2 * h + bit c) % 2) 1 ≡ c
parity true h = search (rules, tests)
parity false h = search (rules, tests)

pub colour_coloured : (c : Bool) (k : List ℕ) → length k ≡ 16 → colour_of (coloured c k) ≡ c
colour_coloured c k size =
    let below : 15 < length k = omega arith in
    ap (λ x. eqb (x % 2) 1) (get_or-set_same k 15 (2 * (get_or k 15 0 / 2) + bit c) 0 below) ∙ parity c (get_or k 15 0 / 2)

pub block_coloured : (c : Bool) (k : List ℕ) → Block k → Block (coloured c k)
block_coloured c k block =
    let size : length k ≡ 16 = block.0 in
    let last : get_or k 15 0 < 256 = All-get_or (λ b. b < 256) k 15 0 (omega arith) block.1 in
    let small = bit_small c in
    (length-set k 15 (2 * (get_or k 15 0 / 2) + bit c) ∙ size, All-set (λ b. b < 256) k 15 (2 * (get_or k 15 0 / 2) + bit c) (omega arith) block.1)

-- the number of sixteen bytes, the last of them apart
number_set : (k : List ℕ) (x : ℕ) → length k ≡ 16 → number_from_digits 256 (set k 15 x) ≡ number_from_digits 256 (take 15 k) * 256 + x
number_set k x size =
    let below : 15 < length k = omega arith in
    ap (number_from_digits 256) (set_split k 15 x below ∙ ap (λ r. take 15 k ++ (x ∷ r)) (drop_all 16 k (omega arith))) ∙ number_push 256 (take 15 k) x

pub stem_coloured : (c : Bool) (k : List ℕ) → length k ≡ 16 → stem (coloured c k) ≡ stem k
stem_coloured c k size =
    let last = get_or k 15 0 in
    let was : number_from_digits 256 k ≡ number_from_digits 256 (take 15 k) * 256 + last = ap (number_from_digits 256) (sym (set-get_or k 15 0)) ∙ number_set k last size in
    let is : number_from_digits 256 (coloured c k) ≡ number_from_digits 256 (take 15 k) * 256 + (2 * (last / 2) + bit c) = number_set k (2 * (last / 2) + bit c) size in
    let small = bit_small c in
    omega (arith, was, is)
