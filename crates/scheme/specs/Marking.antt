-- Why something is out of reach, for any scheme over terms: a test on terms that is false of all that is sent and that derivation keeps false, and the
-- exchange of what is out of reach for something else, which nobody notices. Assumes nothing.
use Rattle.std.specs.Prelude.{◌≡◌, ℕ, Bool, false, cond, ◌&&◌, ◌||◌, List}
use mathlib.Core.List.{Forall₂}
use Rattle.std.specs.List.{AllByRecursion}
use Rattle.scheme.specs.Coins.{◌⊕◌}
use Rattle.scheme.specs.Terms.{Sort, block, text, Term, secret, public, xor, pad, tweak, ◌then◌, ◌≈◌, Recipe, run, Derives, StaticallyEquivalent}

-- the secrets that are out of reach, and the tweaks of rows that hold one
pub record Marking (A : Type 0) : Type 0 where
  pub secrets : A → Bool
  pub rows : List ℕ → Bool

unfoldable pub tweak_of : {A : Type 0} → Term A text → List ℕ
tweak_of (tweak ns) = ns
tweak_of (k then t) = tweak_of t

-- The test. A text is marked if one of its blocks is, and its pad if besides the row that its tweak names holds a marked key: so in a row that cannot be
-- opened the mark of the key and that of the pad cancel.
unfoldable pub marked : {A : Type 0} {s : Sort} → Marking A → Term A s → Bool
unfolding tweak_of
marked m (secret k) = m.secrets k
marked m (public n) = false
marked m (xor t u) = marked m t ⊕ marked m u
marked m (pad t) = marked m t && m.rows (tweak_of t)
marked m (tweak ns) = false
marked m (k then t) = marked m k || marked m t

-- equal terms are marked alike
abbrev pub RespectsLaws : Type 0 → Type 0
RespectsLaws A = (m : Marking A) (s : Sort) (t u : Term A s) → t ≈ u → marked m t ≡ marked m u

-- no marked term is derived from terms that are not marked
abbrev pub OutOfReach : Type 0 → Type 0
OutOfReach A =
    (m : Marking A) (have : List (Term A block)) → AllByRecursion (λ t. marked m t ≡ false) have → (s : Sort) (t : Term A s) → Derives have t → marked m t ≡ false

-- The exchange: something else stands for a secret, and for a pad whose text is marked.
pub record Exchange (A : Type 0) : Type 0 where
  pub secrets : A → Term A block
  pub pads : List ℕ → Term A block

unfoldable pub exchanged : {A : Type 0} {s : Sort} → Marking A → Exchange A → Term A s → Term A s
exchanged m f (secret k) = f.secrets k
exchanged m f (public n) = public n
exchanged m f (xor t u) = xor (exchanged m f t) (exchanged m f u)
exchanged m f (pad t) = cond (marked m t) (f.pads (tweak_of t)) (pad (exchanged m f t))
exchanged m f (tweak ns) = tweak ns
exchanged m f (k then t) = exchanged m f k then exchanged m f t

-- one list is made of unmarked terms, and becomes the other by an exchange
abbrev pub Becomes : {A : Type 0} → Marking A → Exchange A → List (Term A block) → List (Term A block) → Type 0
Becomes m f a e = Forall₂ (λ t u. (marked m t ≡ false) × (exchanged m f t ≈ u)) a e

-- then so does whatever a recipe gives
abbrev pub Carried : Type 0 → Type 0
Carried A =
    (m : Marking A) (f : Exchange A) (a e : List (Term A block)) → Becomes m f a e → (r : Recipe block) (t u : Term A block) → exchanged m f t ≈ u → run a r ≈ t → run e r ≈ u

-- and nobody tells apart two lists of which each becomes the other
abbrev pub NotToldApart : Type 0 → Type 0
NotToldApart A =
    (m n : Marking A) (f g : Exchange A) (a e : List (Term A block)) → Becomes m f a e → Becomes n g e a → StaticallyEquivalent a e
