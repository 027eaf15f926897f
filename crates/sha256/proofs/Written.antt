-- Lists of a known length, written out by their elements. Assumes nothing.
use Rattle.std.proofs.Common.{◌≡◌, ℕ, List, map, length, get_or, refl}
use Rattle.std.specs.List.{range_with_len}
use Rattle.std.proofs.lemmas.List.FromFn.{fill_by_all}

abbrev pub written : ℕ → List ℕ → List ℕ
written n xs = map (λ i. get_or xs i 0) (range_with_len 0 n)

pub written_all : (n : ℕ) (xs : List ℕ) → length xs ≡ n → xs ≡ written n xs
written_all n xs len = fill_by_all (λ i. get_or xs i 0) xs n 0 len (λ k below. refl)
