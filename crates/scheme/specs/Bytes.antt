-- Blocks as bytes: what terms are once secrets are drawn and a hash is chosen. Assumes nothing.
use Rattle.std.specs.Prelude.{◌≡◌, ℕ, ◌%◌, ◌<◌, Bool, List, [], ◌∷◌, length, ◌==◌, bit_xor, slice_index}
use mathlib.Core.List.{zip_with}
use Rattle.std.specs.List.{AllByRecursion}
use Rattle.circuit.specs.Circuit.{Circuit}
use Rattle.circuit.specs.Numbers.{digits}
use Rattle.scheme.specs.Terms.{Sort, block, text, Term, secret, public, xor, pad, tweak, ◌then◌}

abbrev pub xor_bytes : List ℕ → List ℕ → List ℕ
xor_bytes a b = zip_with bit_xor a b

-- the colour of a key is its last bit
abbrev pub colour_of : List ℕ → Bool
colour_of k = slice_index k 15 % 2 == 1

-- the pad of a text, from its blocks and the numbers behind them
abbrev pub Hash : Type 0
Hash = List (List ℕ) → List ℕ → List ℕ

-- sixteen bytes
abbrev pub Block : List ℕ → Type 0
Block bs = (length bs ≡ 16) × AllByRecursion (λ b. b < 256) bs

-- a hash, and what was drawn
pub record Drawn (A : Type 0) : Type 0 where
  pub hash : Hash
  pub hash_block : (ks : List (List ℕ)) (ns : List ℕ) → Block (hash ks ns)
  pub secrets : A → List ℕ
  pub secrets_block : (k : A) → Block (secrets k)

-- a block is sixteen bytes, and a text is blocks and numbers
abbrev pub Value : Sort → Type 0
Value block = List ℕ
Value text = List (List ℕ) × List ℕ

unfoldable pub value : {A : Type 0} {s : Sort} → Drawn A → Term A s → Value s
value d (secret k) = d.secrets k
value d (public n) = digits 256 16 n
value d (xor t u) = xor_bytes (value d t) (value d u)
value d (pad t) = d.hash (value d t).0 (value d t).1
value d (tweak ns) = ([], ns)
value d (k then t) = (value d k ∷ (value d t).0, (value d t).1)

-- an opening (evaluation): what is made of a circuit, the keys of its inputs, its tables and the meanings
abbrev pub Evaluation : Type 0
Evaluation = Hash → Circuit → (keys : List (List ℕ)) → (tables : List (List (List ℕ))) → (meanings : List Bool) → List Bool
