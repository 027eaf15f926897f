-- Keys of no bits but their colours, and a hash of none: such keys there are, and they tell some terms apart. Assumes nothing.
use Rattle.std.proofs.Common.{◌≡◌, ℕ, zero, suc, ◌<◌, Bool, true, false, List, [], ◌∷◌, ◌++◌, get_or, replicate, refl, ap, arith}
use Rattle.std.specs.List.{AllByRecursion}
use Rattle.circuit.specs.Circuit.{Circuit}
use Rattle.circuit.specs.Numbers.{bit}
use Rattle.scheme.specs.Bytes.{Drawn, value, colour_of}
use Rattle.scheme.specs.Garbling.{Key}
use Rattle.scheme.specs.Opening.{Tweak}
use Rattle.scheme.specs.Promises.{Coloured}
use Rattle.scheme.specs.Terms.{block, Term, ◌≈◌}
use Rattle.scheme.specs.Yao.{Order, yao_by}
use Rattle.scheme.proofs.Blocks.{sound}

pub small_zeros : (n : ℕ) (b : Bool) → AllByRecursion (λ x. x < 256) (replicate n 0 ++ (bit b ∷ []))
small_zeros zero true = (omega arith, tt)
small_zeros zero false = (omega arith, tt)
small_zeros (suc n) b = (omega arith, small_zeros n b)

-- secrets of one bit each
abbrev pub drawing : {A : Type 0} → (A → Bool) → Drawn A
drawing one =
    record {
      hash = λ ks ns. replicate 15 0 ++ (0 ∷ []);
      hash_block = λ ks ns. (refl, small_zeros 15 false);
      secrets = λ k. replicate 15 0 ++ (bit (one k) ∷ []);
      secrets_block = λ k. (refl, small_zeros 15 (one k));
    }

unfoldable pub bare_keys : Drawn Key
bare_keys = drawing (λ k. k.colour)

pub bare_coloured : (coin : List Bool → ℕ → Bool) (order : Order) (tweak : Tweak) (decoded : Circuit → List ℕ) (c : Circuit) (coins : List Bool) →
    Coloured (yao_by coin order tweak decoded) c coins bare_keys
unfolding value bare_keys
bare_coloured coin order tweak decoded c coins k below = go k.colour
  where
    go : (b : Bool) → colour_of (replicate 15 0 ++ (bit b ∷ [])) ≡ b
    go true = refl
    go false = refl

-- terms with other last bytes are not equal
pub apart : (t u : Term Key block) → (get_or (value bare_keys t) 15 0 ≡ get_or (value bare_keys u) 15 0 → ⊥) → t ≈ u → ⊥
apart t u other e = other (ap (λ bytes. get_or bytes 15 0) (sound bare_keys block t u e))
