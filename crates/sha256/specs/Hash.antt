-- SHA-256, as FIPS 180-4 defines it: from a block of sixteen words to the hash value, and from a text's bytes to its digest's. Assumes nothing.
use Rattle.std.specs.Prelude.{ℕ, zero, suc, ◌+◌, ◌-◌, ◌*◌, ◌/◌, ◌%◌, List, [], ◌∷◌, ◌++◌, map, length, take, drop, replicate, slice_index}
use Rattle.std.specs.List.{range_with_len, flat_map}
use Rattle.std.specs.Int.Digits.{number_from_digits}
use Rattle.circuit.specs.Numbers.{digits}
use Rattle.sha256.specs.Words.{◌⊞◌, choice, majority, Σ₀, Σ₁, σ₀, σ₁}

-- a constant for each round
abbrev pub constants : List ℕ
constants =
    0x428a_2f98 ∷ 0x7137_4491 ∷ 0xb5c0_fbcf ∷ 0xe9b5_dba5 ∷ 0x3956_c25b ∷ 0x59f1_11f1 ∷ 0x923f_82a4 ∷ 0xab1c_5ed5
    ∷ 0xd807_aa98 ∷ 0x1283_5b01 ∷ 0x2431_85be ∷ 0x550c_7dc3 ∷ 0x72be_5d74 ∷ 0x80de_b1fe ∷ 0x9bdc_06a7 ∷ 0xc19b_f174
    ∷ 0xe49b_69c1 ∷ 0xefbe_4786 ∷ 0x0fc1_9dc6 ∷ 0x240c_a1cc ∷ 0x2de9_2c6f ∷ 0x4a74_84aa ∷ 0x5cb0_a9dc ∷ 0x76f9_88da
    ∷ 0x983e_5152 ∷ 0xa831_c66d ∷ 0xb003_27c8 ∷ 0xbf59_7fc7 ∷ 0xc6e0_0bf3 ∷ 0xd5a7_9147 ∷ 0x06ca_6351 ∷ 0x1429_2967
    ∷ 0x27b7_0a85 ∷ 0x2e1b_2138 ∷ 0x4d2c_6dfc ∷ 0x5338_0d13 ∷ 0x650a_7354 ∷ 0x766a_0abb ∷ 0x81c2_c92e ∷ 0x9272_2c85
    ∷ 0xa2bf_e8a1 ∷ 0xa81a_664b ∷ 0xc24b_8b70 ∷ 0xc76c_51a3 ∷ 0xd192_e819 ∷ 0xd699_0624 ∷ 0xf40e_3585 ∷ 0x106a_a070
    ∷ 0x19a4_c116 ∷ 0x1e37_6c08 ∷ 0x2748_774c ∷ 0x34b0_bcb5 ∷ 0x391c_0cb3 ∷ 0x4ed8_aa4a ∷ 0x5b9c_ca4f ∷ 0x682e_6ff3
    ∷ 0x748f_82ee ∷ 0x78a5_636f ∷ 0x84c8_7814 ∷ 0x8cc7_0208 ∷ 0x90be_fffa ∷ 0xa450_6ceb ∷ 0xbef9_a3f7 ∷ 0xc671_78f2
    ∷ []

-- the hash value before the first block
abbrev pub start : List ℕ
start =
    0x6a09_e667 ∷ 0xbb67_ae85 ∷ 0x3c6e_f372 ∷ 0xa54f_f53a ∷ 0x510e_527f ∷ 0x9b05_688c ∷ 0x1f83_d9ab ∷ 0x5be0_cd19
    ∷ []

-- word number t of the message schedule, from those before it
abbrev pub next : List ℕ → ℕ → ℕ
next w t = σ₁ (slice_index w (t - 2)) ⊞ slice_index w (t - 7) ⊞ σ₀ (slice_index w (t - 15)) ⊞ slice_index w (t - 16)

-- n words more than the sixteen
unfoldable pub extended : ℕ → List ℕ → List ℕ
extended zero m = m
extended (suc n) m = extended n m ++ (next (extended n m) (n + 16) ∷ [])

abbrev pub schedule : List ℕ → List ℕ
schedule m = extended 48 m

-- a round takes the eight working variables, its constant and its word of the schedule
abbrev pub t₁ : List ℕ → ℕ → ℕ → ℕ
t₁ s k w = slice_index s 7 ⊞ Σ₁ (slice_index s 4) ⊞ choice (slice_index s 4) (slice_index s 5) (slice_index s 6) ⊞ k ⊞ w

abbrev pub t₂ : List ℕ → ℕ
t₂ s = Σ₀ (slice_index s 0) ⊞ majority (slice_index s 0) (slice_index s 1) (slice_index s 2)

abbrev pub round : List ℕ → ℕ → ℕ → List ℕ
round s k w =
    (t₁ s k w ⊞ t₂ s) ∷ slice_index s 0 ∷ slice_index s 1 ∷ slice_index s 2 ∷ (slice_index s 3 ⊞ t₁ s k w) ∷ slice_index s 4 ∷ slice_index s 5 ∷ slice_index s 6 ∷ []

-- the first n rounds
unfoldable pub rounds : ℕ → List ℕ → List ℕ → List ℕ
rounds zero w s = s
rounds (suc n) w s = round (rounds n w s) (slice_index constants n) (slice_index w n)

abbrev pub sums : List ℕ → List ℕ → List ℕ
sums s t = map (λ i. slice_index s i ⊞ slice_index t i) (range_with_len 0 8)

-- the hash value after the block m, from the one before it
unfoldable pub compressed : List ℕ → List ℕ → List ℕ
compressed h m = sums (rounds 64 (schedule m) h) h

-- the sixteen words of a block's bytes
abbrev pub word : List ℕ → ℕ → ℕ
word b j = number_from_digits 256 (take 4 (drop (4 * j) b))

abbrev pub words : List ℕ → List ℕ
words b = map (word b) (range_with_len 0 16)

-- the hash value after n blocks of 64 bytes, from the one before them
unfoldable pub blocks : ℕ → List ℕ → List ℕ → List ℕ
blocks zero h b = h
blocks (suc n) h b = blocks n (compressed h (words (take 64 b))) (drop 64 b)

-- the zeros that fill the last block of a text of n bytes
abbrev pub zeros : ℕ → ℕ
zeros n = (119 - n % 64) % 64

-- what is put behind a text of n bytes: a bit 1, zeros, and the count of its bits
abbrev pub padding : ℕ → List ℕ
padding n = 128 ∷ (replicate (zeros n) 0 ++ digits 256 8 (8 * n))

abbrev pub padded : List ℕ → List ℕ
padded text = text ++ padding (length text)

-- the digest
unfoldable pub sha256 : List ℕ → List ℕ
sha256 text = flat_map (digits 256 4) (blocks (length (padded text) / 64) start (padded text))
