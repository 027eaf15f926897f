-- Bytes as terms: what is drawn, what everyone knows, exclusive or and hash; when two terms are the same bytes; all that can be derived from some of
-- them; and when nobody tells two lists of them apart. Here the hash is a function of which nothing else is known, and nothing is guessed. Assumes nothing.
use Rattle.std.specs.Prelude.{◌≡◌, ℕ, ◌%◌, ◌^◌, ◌↔◌, List, [], ◌∷◌, length, bit_xor, slice_index_or}
use mathlib.Core.List.{Memᴰ}

-- a block is sixteen bytes; a text is what is hashed
pub data Sort : Type 0 where
  block : Sort
  text : Sort

-- terms over secrets, which are drawn: `public n` is the number n as a block, `pad t` the hash of the text t cut to a block, and a text is some blocks
-- with public numbers behind them, which are its tweak
infixr 30 ◌then◌
pub data Term (A : Type 0) : Sort → Type 0 where
  secret : A → Term A block
  public : ℕ → Term A block
  xor : Term A block → Term A block → Term A block
  pad : Term A text → Term A block
  tweak : List ℕ → Term A text
  ◌then◌ : Term A block → Term A text → Term A text

-- the same bytes by the laws of exclusive or, whatever is drawn; nothing is known of the hash but that it is a function
pub data Equal (A : Type 0) : (s : Sort) → Term A s → Term A s → Type 0 where
  same : {s : Sort} {t : Term A s} → Equal A s t t
  flip : {s : Sort} {t u : Term A s} → Equal A s t u → Equal A s u t
  chain : {s : Sort} {t u v : Term A s} → Equal A s t u → Equal A s u v → Equal A s t v
  regroup : (t u v : Term A block) → Equal A block (xor (xor t u) v) (xor t (xor u v))
  swap : (t u : Term A block) → Equal A block (xor t u) (xor u t)
  unit : (t : Term A block) → Equal A block (xor t (public 0)) t
  twice : (t : Term A block) → Equal A block (xor t t) (public 0)
  numbers : (m n : ℕ) → Equal A block (xor (public m) (public n)) (public (bit_xor m n))
  wraps : (n : ℕ) → Equal A block (public n) (public (n % 2 ^ 128))
  in_xor : {t t' u u' : Term A block} → Equal A block t t' → Equal A block u u' → Equal A block (xor t u) (xor t' u')
  in_pad : {t t' : Term A text} → Equal A text t t' → Equal A block (pad t) (pad t')
  in_text : {k k' : Term A block} {t t' : Term A text} → Equal A block k k' → Equal A text t t' → Equal A text (k then t) (k' then t')

infix 20 ◌≈◌
abbrev pub ◌≈◌ : {A : Type 0} {s : Sort} → Term A s → Term A s → Type 0
◌≈◌ {A} {s} t u = Equal A s t u

-- terms put in the place of secrets
unfoldable pub substitute : {A B : Type 0} {s : Sort} → (A → Term B block) → Term A s → Term B s
substitute f (secret a) = f a
substitute f (public n) = public n
substitute f (xor t u) = xor (substitute f t) (substitute f u)
substitute f (pad t) = pad (substitute f t)
substitute f (tweak ns) = tweak ns
substitute f (k then t) = substitute f k then substitute f t

-- a recipe says what to do with blocks that one has: it is a term over their places in a list, in which `secret i` takes the block at place i
abbrev pub Recipe : Sort → Type 0
Recipe s = Term ℕ s

abbrev pub run : {A : Type 0} {s : Sort} → List (Term A block) → Recipe s → Term A s
run have m = substitute (λ i. slice_index_or have i (public 0)) m

-- deduction: what some recipe gives
abbrev pub Derives : {A : Type 0} {s : Sort} → List (Term A block) → Term A s → Type 0
Derives {s = s} have t = (m : Recipe s) × (run have m ≈ t)

-- its rules
pub record Deduction {A : Type 0} (have : List (Term A block)) : Type 0 where
  pub has : (t : Term A block) → Memᴰ t have → Derives have t
  pub knows : (n : ℕ) → Derives have (public n)
  pub adds : (t u : Term A block) → Derives have t → Derives have u → Derives have (xor t u)
  pub writes : (k : Term A block) (t : Term A text) → Derives have k → Derives have t → Derives have (k then t)
  pub numbers : (ns : List ℕ) → Derives have (tweak ns)
  pub hashes : (t : Term A text) → Derives have t → Derives have (pad t)
  pub alike : (s : Sort) (t u : Term A s) → t ≈ u → Derives have t → Derives have u

-- two lists that nobody tells apart: two recipes give the same from the one just if they do from the other
pub record StaticallyEquivalent {A : Type 0} (a e : List (Term A block)) : Type 0 where
  pub size : length a ≡ length e
  pub tests : (m n : Recipe block) → run a m ≈ run a n ↔ run e m ≈ run e n

-- some blocks and a number added up
abbrev pub sum : {A : Type 0} → List (Term A block) → ℕ → Term A block
sum [] n = public n
sum (t ∷ ts) n = xor t (sum ts n)
