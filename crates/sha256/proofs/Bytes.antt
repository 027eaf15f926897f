-- Words as bytes and bytes as words, written out. Assumes nothing.
use Rattle.std.proofs.Common.{◌≡◌, ℕ, zero, suc, ◌+◌, ◌-◌, ◌*◌, ◌/◌, ◌%◌, ◌<◌, ◌≤◌, List, [], ◌∷◌, ◌++◌, map, length, get_or, take, drop, set, replicate, sym, refl, ap, ◌∙◌, ap₂, w32, arith}
use Rattle.std.specs.List.{flat_map, range_with_len}
use Rattle.std.specs.Int.Digits.{number_from_digits}
use Rattle.std.specs.Int.{to_be_bytes, from_be_bytes}
use Rattle.std.specs.Simd.{first_chunks}
use Rattle.std.proofs.lemmas.List.{drop_more, drop-drop, drop-replicate, length-drop, length-take-le, get_or-take, ext_get_or, set_at, take_all}
use Rattle.std.proofs.lemmas.List.FromFn.{fill_by_all, length-map-range_with_len, get_or-map-range_with_len}
use Rattle.circuit.specs.Numbers.{digits}
use Rattle.circuit.proofs.Numbers.{four_bytes}
use Rattle.sha256.specs.Hash.{word}
use Rattle.sha256.proofs.Written.{written, written_all}

-- the bytes of a word
abbrev pub four : ℕ → List ℕ
four x = x / 16777216 % 256 ∷ x / 65536 % 256 ∷ x / 256 % 256 ∷ x % 256 ∷ []

pub joined_four : (xs : List ℕ) → flat_map (digits 256 4) xs ≡ flat_map four xs
joined_four [] = refl
joined_four (x ∷ xs) = ap₂ (λ (a b : List ℕ). a ++ b) (four_bytes x) (joined_four xs)

-- the next two are kept, as docs/PORT.md names them; nothing cites them now
pub four_words_are : (x y z u : ℕ) (a b c d : List ℕ) → a ≡ four x → b ≡ four y → c ≡ four z → d ≡ four u →
    written 4 a ++ (written 4 b ++ (written 4 c ++ written 4 d)) ≡ flat_map (digits 256 4) (x ∷ y ∷ z ∷ u ∷ [])
four_words_are x y z u a b c d ea eb ec ed = rw (ea, eb, ec, ed) (sym (joined_four (x ∷ y ∷ z ∷ u ∷ [])))

pub first_half_is : (h r : List ℕ) → length h ≡ 8 → r ≡ flat_map (digits 256 4) (written 4 h) → r ≡ take 16 (flat_map (digits 256 4) h)
first_half_is h r len is =
    is ∙ joined_four (written 4 h) ∙ sym (ap (λ (x : List ℕ). take 16 (flat_map (digits 256 4) x)) (written_all 8 h len) ∙ ap (take 16) (joined_four (written 8 h)))

length_four : (xs : List ℕ) → length (flat_map four xs) ≡ 4 * length xs
length_four [] = refl
length_four (x ∷ xs) = omega (arith, length_four xs)

-- the bytes of some words, each by its place
pub byte_is : (h : List ℕ) (i : ℕ) → i < 4 * length h → get_or (to_be_bytes w32 (get_or h (i / 4) 0)) (i % 4) 0 ≡ get_or (flat_map four h) i 0
byte_is [] i below = absurd (omega arith)
byte_is (x ∷ xs) zero below = refl
byte_is (x ∷ xs) (suc zero) below = refl
byte_is (x ∷ xs) (suc (suc zero)) below = refl
byte_is (x ∷ xs) (suc (suc (suc zero))) below = refl
byte_is (x ∷ xs) (suc (suc (suc (suc i)))) below =
    let word : suc (suc (suc (suc i))) / 4 ≡ suc (i / 4) = omega arith in
    let place : suc (suc (suc (suc i))) % 4 ≡ i % 4 = omega arith in
    rw (word, place) (byte_is xs i (omega arith))

pub bytes_are : (n : ℕ) (h r : List ℕ) → n ≤ 4 * length h → r ≡ map (λ i. get_or (to_be_bytes w32 (get_or h (i / 4) 0)) (i % 4) 0) (range_with_len 0 n) →
    r ≡ take n (flat_map (digits 256 4) h)
bytes_are n h r most is =
    let all = flat_map four h in
    let long : n ≤ length all = omega (arith, length_four h) in
    is ∙ ext_get_or 0 _ _ (length-map-range_with_len _ 0 n ∙ sym (length-take-le n all long))
    (λ i below.
    let low : i < n = omega (arith, length-map-range_with_len (λ i. get_or (to_be_bytes w32 (get_or h (i / 4) 0)) (i % 4) 0) 0 n) in
    get_or-map-range_with_len _ 0 n i i 0 low (omega arith) ∙ byte_is h i (omega arith) ∙ sym (get_or-take n all i 0 low))
    ∙ ap (take n) (sym (joined_four h))

pub all_bytes_are : (h r : List ℕ) → length h ≡ 8 → r ≡ take 32 (flat_map (digits 256 4) h) → r ≡ flat_map (digits 256 4) h
all_bytes_are h r eight is =
    is ∙ ap (take 32) (joined_four h) ∙ take_all 32 (flat_map four h) (omega (arith, length_four h)) ∙ sym (joined_four h)

-- a word from its bytes
pub word_is : (b : List ℕ) (j : ℕ) → 4 * j + 3 < length b →
    get_or b (4 * j) 0 * 16777216 + get_or b (4 * j + 1) 0 * 65536 + get_or b (4 * j + 2) 0 * 256 + get_or b (4 * j + 3) 0 ≡ word b j
word_is b j below =
    let e0 = drop_more b (4 * j) 0 (omega arith) in
    let e1 = drop_more b (4 * j + 1) 0 (omega arith) in
    let e2 = drop_more b (4 * j + 2) 0 (omega arith) in
    let e3 = drop_more b (4 * j + 3) 0 below in
    let n2 : 4 * j + 1 + 1 ≡ 4 * j + 2 = omega arith in
    let n3 : 4 * j + 2 + 1 ≡ 4 * j + 3 = omega arith in
    rw (e0, e1, n2, e2, n3, e3) (omega arith)

-- some words from their bytes
chunk_is : (n : ℕ) (b : List ℕ) (j : ℕ) → j < n → get_or (first_chunks 4 n b) j [] ≡ take 4 (drop (4 * j) b)
chunk_is zero b j below = absurd (omega arith)
chunk_is (suc n) b zero below = refl
chunk_is (suc n) b (suc j) below =
    let on : 4 * suc j ≡ 4 + 4 * j = omega arith in
    rw on (chunk_is n (drop 4 b) j (omega arith) ∙ ap (take 4) (drop-drop (4 * j) 4 b))

joined : (x : List ℕ) → length x ≡ 4 → from_be_bytes w32 x ≡ number_from_digits 256 x
joined x len = rw (written_all 4 x len) (omega arith)

pub words_are : (n : ℕ) (b : List ℕ) (cs : List (List ℕ)) (r : List ℕ) → length b ≡ 4 * n → cs ≡ first_chunks 4 (length b / 4) b →
    r ≡ map (λ i. from_be_bytes w32 (get_or cs i [])) (range_with_len 0 n) → r ≡ map (word b) (range_with_len 0 n)
words_are n b cs r long ec is =
    is ∙ fill_by_all (word b) _ n 0 (length-map-range_with_len _ 0 n)
    (λ j below.
    let len : length (take 4 (drop (4 * j) b)) ≡ 4 = length-take-le 4 (drop (4 * j) b) (omega (arith, length-drop (4 * j) b)) in
    get_or-map-range_with_len _ 0 n j j 0 below (omega arith) ∙ ap (λ x. from_be_bytes w32 (get_or x j [])) ec
    ∙ ap (from_be_bytes w32) (chunk_is (length b / 4) b j (omega arith)) ∙ joined (take 4 (drop (4 * j) b)) len)

pub sized : (b : List ℕ) (x y : ℕ) → length b ≡ 16 → set (set b 14 x) 15 y ≡ take 14 b ++ (x ∷ y ∷ [])
sized b x y len = rw (written_all 16 b len) refl

-- what is put behind a list, over zeros
pub marked_is : (xs copied : List ℕ) → length xs < 64 → copied ≡ xs →
    set (copied ++ drop (length xs) (replicate 64 0)) (length xs) 128 ≡ xs ++ (128 ∷ replicate (63 - length xs) 0)
marked_is xs copied short same =
    let left : 64 - length xs ≡ suc (63 - length xs) = omega arith in
    rw (same, drop-replicate {X = ℕ} (length xs) 64 0, left) (set_at xs 0 (replicate (63 - length xs) 0) 128 (length xs) refl)
