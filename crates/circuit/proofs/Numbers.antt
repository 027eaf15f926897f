-- Digits of a fixed count: written out at the counts that the format has, and back and forth between a number and its digits. Assumes nothing.
use Rattle.std.proofs.Common.{◌≡◌, ℕ, zero, suc, ◌+◌, ◌*◌, ◌/◌, ◌%◌, ◌^◌, ◌<◌, Bool, true, false, eqb, List, [], ◌∷◌, ◌++◌, map, length, get_or, take, sym, refl, ap, ◌∙◌, pow-suc, add-one, arith}
use native.Mathlib.Nat.{pow-zero}
use Rattle.std.specs.Int.{bit_at}
use Rattle.std.specs.Int.Digits.{number_from_digits, AllBelowBase}
use Rattle.std.proofs.Math.Nat.{div-one}
use Rattle.std.proofs.lemmas.Nat.{mod_below, shr-shr, div-add-mod', div_below, div-mul-add, mod-mul-add}
use Rattle.std.proofs.lemmas.Int.Digits.{number_push, number_lt}
use Rattle.std.proofs.ByRecursion.{All-take, All-get_or, All-push}
use Rattle.std.proofs.lemmas.List.{length_push, length-map, length-take-le, take_more, take_all, nil_from_length}
use Rattle.circuit.specs.Numbers.{digits, bit, bits, binary}

pub four_bits : (x : ℕ) → bits 4 x ≡ eqb (bit_at x 3) 1 ∷ eqb (bit_at x 2) 1 ∷ eqb (bit_at x 1) 1 ∷ eqb (bit_at x 0) 1 ∷ []
unfolding digits
four_bits x = rw (shr-shr x 1 1, shr-shr x 2 1, div-one x)

pub one_byte : (x : ℕ) → x < 256 → digits 256 1 x ≡ x ∷ []
unfolding digits
one_byte x small = ap (λ d. d ∷ []) (omega arith)

pub two_bytes : (x : ℕ) → digits 256 2 x ≡ x / 256 % 256 ∷ x % 256 ∷ []
unfolding digits
two_bytes x = refl

pub four_bytes : (x : ℕ) → digits 256 4 x ≡ x / 16777216 % 256 ∷ x / 65536 % 256 ∷ x / 256 % 256 ∷ x % 256 ∷ []
unfolding digits
four_bytes x = rw (shr-shr x 8 8, shr-shr x 16 8)

pub length_digits : (b n x : ℕ) → length (digits b n x) ≡ n
unfolding digits
length_digits b zero x = refl
length_digits b (suc n) x = length_push (digits b n (x / b)) (x % b) ∙ rw (length_digits b n (x / b), add-one)

pub number_digits : (b n x : ℕ) → 0 < b → x < b ^ n → number_from_digits b (digits b n x) ≡ x
unfolding digits
number_digits b zero x pos small = omega (arith, pow-zero b)
number_digits b (suc n) x pos small =
    let low : x / b < b ^ n = div_below x b (b ^ n) pos (rw pow-suc at small) in
    number_push b (digits b n (x / b)) (x % b) ∙ rw (number_digits b n (x / b) pos low, div-add-mod')

pub digits_number : (b n : ℕ) (ds : List ℕ) → AllBelowBase b ds → length ds ≡ n → digits b n (number_from_digits b ds) ≡ ds
unfolding digits
digits_number b zero ds under len = sym (nil_from_length ds len)
digits_number b (suc n) ds under len =
    let last = get_or ds n 0 in
    let below : n < length ds = omega arith in
    let whole : ds ≡ take n ds ++ (last ∷ []) = sym (take_all (n + 1) ds (omega arith)) ∙ take_more ds n 0 below in
    let value : number_from_digits b ds ≡ number_from_digits b (take n ds) * b + last = ap (number_from_digits b) whole ∙ number_push b (take n ds) last in
    let small : last < b = All-get_or (λ d. d < b) ds n 0 below under in
    let front = digits_number b n (take n ds) (All-take (λ d. d < b) n ds under) (length-take-le n ds (omega arith)) in
    rw (value, div-mul-add (number_from_digits b (take n ds)) b last small, mod-mul-add (number_from_digits b (take n ds)) b last small, front) (sym whole)

pub under_digits : (b n x : ℕ) → 0 < b → AllBelowBase b (digits b n x)
unfolding digits
under_digits b zero x pos = tt
under_digits b (suc n) x pos = All-push (λ d. d < b) (digits b n (x / b)) (x % b) (under_digits b n (x / b) pos) (mod_below x b pos)

-- bits as digits in base 2, there and back
bits_from_digits : (ds : List ℕ) → AllBelowBase 2 ds → map bit (map (λ d. eqb d 1) ds) ≡ ds
bits_from_digits [] under = refl
bits_from_digits (zero ∷ ds) under = ap (λ es. 0 ∷ es) (bits_from_digits ds under.1)
bits_from_digits (suc zero ∷ ds) under = ap (λ es. 1 ∷ es) (bits_from_digits ds under.1)
bits_from_digits (suc (suc d) ∷ ds) under = absurd (let h = under.0 in omega arith)

digits_from_bits : (bs : List Bool) → map (λ d. eqb d 1) (map bit bs) ≡ bs
digits_from_bits [] = refl
digits_from_bits (false ∷ bs) = ap (λ cs. false ∷ cs) (digits_from_bits bs)
digits_from_bits (true ∷ bs) = ap (λ cs. true ∷ cs) (digits_from_bits bs)

under_bits : (bs : List Bool) → AllBelowBase 2 (map bit bs)
under_bits [] = tt
under_bits (false ∷ bs) = (omega arith, under_bits bs)
under_bits (true ∷ bs) = (omega arith, under_bits bs)

pub binary_bits : (n x : ℕ) → x < 2 ^ n → binary (bits n x) ≡ x
binary_bits n x small = rw (bits_from_digits (digits 2 n x) (under_digits 2 n x (omega arith))) (number_digits 2 n x (omega arith) small)

pub bits_binary : (n : ℕ) (bs : List Bool) → length bs ≡ n → bits n (binary bs) ≡ bs
bits_binary n bs len = rw (digits_number 2 n (map bit bs) (under_bits bs) (length-map bs bit ∙ len)) (digits_from_bits bs)

pub binary_lt : (bs : List Bool) → binary bs < 2 ^ length bs
binary_lt bs = rw (← length-map bs bit) (number_lt 2 (map bit bs) (under_bits bs))

pub length_bits : (n x : ℕ) → length (bits n x) ≡ n
length_bits n x = length-map (digits 2 n x) (λ d. eqb d 1) ∙ length_digits 2 n x
