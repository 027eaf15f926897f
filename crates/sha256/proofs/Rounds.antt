-- The schedule's rule, the schedule word by word, and the rounds along lists of constants and words. Assumes nothing.
use Rattle.std.proofs.Common.{◌≡◌, ℕ, zero, suc, ◌+◌, ◌-◌, ◌*◌, ◌<◌, ◌≤◌, List, [], ◌∷◌, ◌++◌, length, get_or, take, drop, set, fold, zip, sym, refl, ap, ◌∙◌, ap₂, arith}
use Rattle.std.specs.Simd.{first_chunks}
use Rattle.std.proofs.lemmas.List.{take_more_set, get_or_append_left, get_or_at, get_or-take, length_push, drop_more, drop-drop}
use Rattle.sha256.specs.Turns.{steps}
use Rattle.sha256.specs.Hash.{next, extended, schedule, constants, rounds}

-- ---- a word once made stays

length_extended : (n : ℕ) (m : List ℕ) → length (extended n m) ≡ n + length m
unfolding extended
length_extended zero m = omega arith
length_extended (suc n) m =
    let pushed = length_push (extended n m) (next (extended n m) (n + 16)) in
    let before = length_extended n m in
    omega arith

extended_stays : (n k : ℕ) (m : List ℕ) (i : ℕ) → i < n + length m → get_or (extended (n + k) m) i 0 ≡ get_or (extended n m) i 0
unfolding extended
extended_stays n zero m i below = let same : n + 0 ≡ n = omega arith in rw same
extended_stays n (suc k) m i below =
    let more : n + suc k ≡ suc (n + k) = omega arith in
    let before = length_extended (n + k) m in
    rw more
    (get_or_append_left (extended (n + k) m) (next (extended (n + k) m) (n + k + 16) ∷ []) 0 i (omega arith) ∙ extended_stays n k m i below)

-- the schedule meets its rule: a law of the definition, which no proof cites
schedule_next : (m : List ℕ) → length m ≡ 16 → (n : ℕ) → n < 48 → get_or (schedule m) (n + 16) 0 ≡ next (schedule m) (n + 16)
unfolding extended
schedule_next m len n below =
    let a : suc n + (47 - n) ≡ 48 = omega arith in
    let b : n + (48 - n) ≡ 48 = omega arith in
    let made = extended_stays (suc n) (47 - n) m (n + 16) (omega arith) in
    let here = get_or_at (extended n m) (next (extended n m) (n + 16)) [] 0 (n + 16) (let q = length_extended n m in omega arith) in
    let e2 = extended_stays n (48 - n) m (n + 16 - 2) (omega arith) in
    let e7 = extended_stays n (48 - n) m (n + 16 - 7) (omega arith) in
    let e15 = extended_stays n (48 - n) m (n + 16 - 15) (omega arith) in
    let e16 = extended_stays n (48 - n) m (n + 16 - 16) (omega arith) in
    let same : next (extended n m) (n + 16) ≡ next (extended (n + (48 - n)) m) (n + 16) = cc in
    ap (λ (q : ℕ). get_or (extended q m) (n + 16) 0) (sym a) ∙ made ∙ here ∙ same ∙ ap (λ (q : ℕ). next (extended q m) (n + 16)) b

-- ---- the schedule word by word

-- a loop that makes the schedule
pub schedule_more : (m w : List ℕ) (t x : ℕ) → 16 ≤ t → t < length w → take t w ≡ extended (t - 16) m → x ≡ next w t →
    take (t + 1) (set w t x) ≡ extended (t + 1 - 16) m
unfolding extended
schedule_more m w t x low high so_far is =
    let more : t + 1 - 16 ≡ suc (t - 16) = omega arith in
    let back : t - 16 + 16 ≡ t = omega arith in
    let e2 = get_or-take t w (t - 2) 0 (omega arith) in
    let e7 = get_or-take t w (t - 7) 0 (omega arith) in
    let e15 = get_or-take t w (t - 15) 0 (omega arith) in
    let e16 = get_or-take t w (t - 16) 0 (omega arith) in
    let same : next (take t w) t ≡ next w t = cc in
    rw (more, back)
    (take_more_set w t x high ∙ ap₂ (λ (a : List ℕ) (b : ℕ). a ++ (b ∷ [])) so_far (is ∙ sym same ∙ ap (λ (a : List ℕ). next a t) so_far))

-- ---- the rounds

rounds_along : (w h : List ℕ) (t n : ℕ) → t + n ≤ 64 → t + n ≤ length w →
    steps (rounds t w h) (take n (drop t constants), take n (drop t w)) ≡ rounds (t + n) w h
unfolding rounds
rounds_along w h t zero in_constants in_words = let z : t + 0 ≡ t = omega arith in rw z refl
rounds_along w h t (suc n) in_constants in_words =
    let long : length constants ≡ 64 = refl in
    let z : t + suc n ≡ suc t + n = omega arith in
    let c = drop_more constants t 0 (omega arith) in
    let d = drop_more w t 0 (omega arith) in
    let o : t + 1 ≡ suc t = omega arith in
    rw (c, d, z, o) (rounds_along w h (suc t) n (omega arith) (omega arith))

rounds_in_eights : (w h : List ℕ) (t k : ℕ) → t + 8 * k ≤ 64 → t + 8 * k ≤ length w →
    fold steps (rounds t w h) (zip (first_chunks 8 k (drop t constants)) (first_chunks 8 k (drop t w))) ≡ rounds (t + 8 * k) w h
rounds_in_eights w h t zero in_constants in_words = let z : t + 8 * 0 ≡ t = omega arith in rw z refl
rounds_in_eights w h t (suc k) in_constants in_words =
    let z : t + 8 * suc k ≡ t + 8 + 8 * k = omega arith in
    let front = rounds_along w h t 8 (omega arith) (omega arith) in
    rw (front, drop-drop 8 t constants, drop-drop 8 t w, z) (rounds_in_eights w h (t + 8) k (omega arith) (omega arith))

pub all_rounds : (w h : List ℕ) → length w ≡ 64 → fold steps h (zip (first_chunks 8 8 constants) (first_chunks 8 8 w)) ≡ rounds 64 w h
unfolding rounds
all_rounds w h long = rounds_in_eights w h 0 8 (omega arith) (omega arith)
