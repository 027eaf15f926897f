-- A pad is sixteen bytes. Assumes nothing.
use Rattle.std.proofs.Common.{◌≡◌, ℕ, zero, suc, ◌*◌, ◌/◌, ◌<◌, List, [], ◌∷◌, length, take, drop, refl, ◌∙◌, arith}
use Rattle.std.specs.List.{flat_map, AllByRecursion}
use Rattle.std.proofs.ByRecursion.{All-append, All-take}
use Rattle.std.proofs.lemmas.List.{length-append, length-take-le}
use Rattle.circuit.specs.Numbers.{digits}
use Rattle.circuit.proofs.Numbers.{length_digits, under_digits}
use Rattle.sha256.specs.Hash.{blocks, compressed, words, padded, start, sha256}
use Rattle.sha256.specs.Pads.{pad}

length_blocks : (n : ℕ) (h b : List ℕ) → length h ≡ 8 → length (blocks n h b) ≡ 8
unfolding blocks compressed
length_blocks zero h b len = len
length_blocks (suc n) h b len = length_blocks n (compressed h (words (take 64 b))) (drop 64 b) refl

length_bytes : (ws : List ℕ) → length (flat_map (digits 256 4) ws) ≡ 4 * length ws
length_bytes [] = refl
length_bytes (w ∷ ws) =
    let a = length-append (digits 256 4 w) (flat_map (digits 256 4) ws) in
    let b = length_digits 256 4 w in
    let d = length_bytes ws in
    omega arith

bytes_below : (ws : List ℕ) → AllByRecursion (λ b. b < 256) (flat_map (digits 256 4) ws)
bytes_below [] = tt
bytes_below (w ∷ ws) = All-append (λ b. b < 256) (digits 256 4 w) (flat_map (digits 256 4) ws) (under_digits 256 4 w (omega arith)) (bytes_below ws)

pub sha256_bytes : (t : List ℕ) → (length (sha256 t) ≡ 32) × AllByRecursion (λ b. b < 256) (sha256 t)
unfolding sha256
sha256_bytes t =
    let h = blocks (length (padded t) / 64) start (padded t) in
    let len : length h ≡ 8 = length_blocks (length (padded t) / 64) start (padded t) refl in
    (length_bytes h ∙ rw len refl, bytes_below h)

pub pad_block : (t : List ℕ) → (length (pad t) ≡ 16) × AllByRecursion (λ b. b < 256) (pad t)
pad_block t =
    let all = sha256_bytes t in
    (length-take-le 16 (sha256 t) (omega (arith, all.0)), All-take (λ b. b < 256) 16 (sha256 t) all.1)
