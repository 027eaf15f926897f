-- Lists made place by place, in pieces of one size. Assumes nothing.
use Rattle.std.proofs.Common.{◌≡◌, ℕ, zero, suc, ◌+◌, ◌*◌, ◌∷◌, ◌++◌, map, refl, ap, ◌∙◌, add-zero, mul-zero, zero-add, mul-one, mul-suc, mul-add, arith}
use mathlib.Core.List.{map-append}
use Rattle.std.specs.List.{range_with_len, flat_map}
use Rattle.scheme.specs.Garbling.{tabulate}

counting_append : (a n m : ℕ) → range_with_len a (n + m) ≡ range_with_len a n ++ range_with_len (a + n) m
counting_append a zero m = rw (zero-add m, add-zero a)
counting_append a (suc n) m =
    let more : suc n + m ≡ suc (n + m) = omega arith in
    let next : a + suc n ≡ a + 1 + n = omega arith in
    rw (more, next) (ap (λ xs. a ∷ xs) (counting_append (a + 1) n m))

counting_from : {X : Type 0} (f : ℕ → X) (a b n : ℕ) → map (λ j. f (a + j)) (range_with_len b n) ≡ map f (range_with_len (a + b) n)
counting_from f a b zero = refl
counting_from f a b (suc n) =
    let next : a + (b + 1) ≡ a + b + 1 = omega arith in
    ap (λ xs. f (a + b) ∷ xs) (counting_from f a (b + 1) n ∙ rw next)

-- pieces of w places each, one after the other
pub in_pieces : {X : Type 0} (f : ℕ → X) (w a m : ℕ) → flat_map (λ i. tabulate w (λ j. f (w * i + j))) (range_with_len a m) ≡ map f (range_with_len (w * a) (w * m))
in_pieces f w a zero = rw (mul-zero w)
in_pieces f w a (suc m) =
    let long : w * suc m ≡ w + w * m = omega (arith, mul-suc w m) in
    let next : w * (a + 1) ≡ w * a + w = omega (arith, mul-add w a 1, mul-one w) in
    rw (long, counting_append (w * a) w (w * m), map-append f (range_with_len (w * a) w) (range_with_len (w * a + w) (w * m)), in_pieces f w (a + 1) m, next, counting_from f (w * a) 0 w, add-zero (w * a))
