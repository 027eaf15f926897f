-- No marked term is derived from unmarked ones, and nobody tells apart two lists of which each becomes the other by an exchange: the core argument, for
-- any scheme over terms. Assumes nothing.
use Rattle.std.proofs.Common.{◌≡◌, ℕ, zero, suc, Bool, true, false, cond, ◌||◌, List, [], ◌∷◌, length, get_or, sym, refl, ap, ◌∙◌, ap₂, arith}
use mathlib.Core.List.Forall₂
use Rattle.std.specs.List.{AllByRecursion}
use Rattle.scheme.specs.Coins.{◌⊕◌}
use Rattle.scheme.specs.Marking.{Marking, tweak_of, marked, RespectsLaws, OutOfReach, Exchange, exchanged, Becomes, Carried, NotToldApart}
use Rattle.scheme.specs.Terms.{Sort, block, text, Term, secret, public, xor, pad, tweak, ◌then◌, same, flip, chain, regroup, swap, unit, twice, numbers, wraps, in_xor, in_pad, in_text, ◌≈◌, substitute, Recipe, run}
use Rattle.scheme.proofs.Colours.{xor_assoc, xor_comm, xor_same, xor_false}

-- equal texts have one tweak, and equal terms are marked alike
same_tweak : {A : Type 0} {t u : Term A text} → t ≈ u → tweak_of t ≡ tweak_of u
unfolding tweak_of
same_tweak same = refl
same_tweak (flip e) = sym (same_tweak e)
same_tweak (chain e f) = same_tweak e ∙ same_tweak f
same_tweak (in_text e f) = same_tweak f

module _ {A : Type 0} (m : Marking A) where
  marked_alike : {s : Sort} {t u : Term A s} → t ≈ u → marked m t ≡ marked m u
  unfolding marked
  marked_alike same = refl
  marked_alike (flip e) = sym (marked_alike e)
  marked_alike (chain e f) = marked_alike e ∙ marked_alike f
  marked_alike (regroup t u v) = grind (arith, xor_assoc)
  marked_alike (swap t u) = xor_comm (marked m t) (marked m u)
  marked_alike (unit t) = xor_false (marked m t)
  marked_alike (twice t) = xor_same (marked m t)
  marked_alike (numbers a b) = refl
  marked_alike (wraps n) = refl
  marked_alike (in_xor e f) = ap₂ ◌⊕◌ (marked_alike e) (marked_alike f)
  marked_alike (in_pad e) = grind (arith, same_tweak, marked_alike e)
  marked_alike (in_text e f) = ap₂ ◌||◌ (marked_alike e) (marked_alike f)

  item_unmarked : (have : List (Term A block)) → AllByRecursion (λ t. marked m t ≡ false) have → (i : ℕ) → marked m (get_or have i (public 0)) ≡ false
  unfolding marked
  item_unmarked [] all i = refl
  item_unmarked (t ∷ have) all zero = all.0
  item_unmarked (t ∷ have) all (suc i) = item_unmarked have all.1 i

  -- what a recipe gives is not marked
  recipe_unmarked : {s : Sort} (have : List (Term A block)) → AllByRecursion (λ t. marked m t ≡ false) have → (r : Recipe s) → marked m (run have r) ≡ false
  unfolding marked substitute
  recipe_unmarked have all (secret i) = item_unmarked have all i
  recipe_unmarked have all (public n) = refl
  recipe_unmarked have all (xor r q) = ap₂ ◌⊕◌ (recipe_unmarked have all r) (recipe_unmarked have all q)
  recipe_unmarked have all (pad r) = grind (arith, recipe_unmarked have all r)
  recipe_unmarked have all (tweak ns) = refl
  recipe_unmarked have all (k then r) = ap₂ ◌||◌ (recipe_unmarked have all k) (recipe_unmarked have all r)

pub respects_laws : {A : Type 0} → RespectsLaws A
respects_laws m s t u e = marked_alike m e

pub out_of_reach : {A : Type 0} → OutOfReach A
out_of_reach m have all s t d = sym (marked_alike m d.1) ∙ recipe_unmarked m have all d.0

-- an exchange keeps equal terms equal
cond_alike : {A : Type 0} (a b : Bool) (t t' u u' : Term A block) → a ≡ b → t ≡ t' → u ≈ u' → cond a t u ≈ cond b t' u'
cond_alike a b t t' u u' e f g = rw (e, f) (go b)
  where
    go : (b : Bool) → cond b t' u ≈ cond b t' u'
    go true = same
    go false = g

module _ {A : Type 0} (m : Marking A) (f : Exchange A) where
  exchange_alike : {s : Sort} {t u : Term A s} → t ≈ u → exchanged m f t ≈ exchanged m f u
  unfolding exchanged
  exchange_alike same = same
  exchange_alike (flip e) = flip (exchange_alike e)
  exchange_alike (chain e d) = chain (exchange_alike e) (exchange_alike d)
  exchange_alike (regroup t u v) = regroup (exchanged m f t) (exchanged m f u) (exchanged m f v)
  exchange_alike (swap t u) = swap (exchanged m f t) (exchanged m f u)
  exchange_alike (unit t) = unit (exchanged m f t)
  exchange_alike (twice t) = twice (exchanged m f t)
  exchange_alike (numbers a b) = numbers a b
  exchange_alike (wraps n) = wraps n
  exchange_alike (in_xor e d) = in_xor (exchange_alike e) (exchange_alike d)
  exchange_alike (in_pad {t = t} {t' = t'} e) =
      cond_alike (marked m t) (marked m t') (f.pads (tweak_of t)) (f.pads (tweak_of t')) (pad (exchanged m f t)) (pad (exchanged m f t'))
      (marked_alike m e) (ap f.pads (same_tweak e)) (in_pad (exchange_alike e))
  exchange_alike (in_text e d) = in_text (exchange_alike e) (exchange_alike d)

  -- the first list has no marked term, and by the exchange each recipe's outcome becomes its outcome from the second
  pub becomes_unmarked : {a e : List (Term A block)} → Becomes m f a e → AllByRecursion (λ t. marked m t ≡ false) a
  becomes_unmarked Forall₂.nil = tt
  becomes_unmarked (Forall₂.cons h t) = (h.0, becomes_unmarked t)

  item_exchanged : {a e : List (Term A block)} → Becomes m f a e → (i : ℕ) → exchanged m f (get_or a i (public 0)) ≈ get_or e i (public 0)
  unfolding exchanged
  item_exchanged Forall₂.nil i = same
  item_exchanged (Forall₂.cons h t) zero = h.1
  item_exchanged (Forall₂.cons h t) (suc i) = item_exchanged t i

  module _ (a e : List (Term A block)) (becomes : Becomes m f a e) where
    recipe_exchanged : {s : Sort} (r : Recipe s) → exchanged m f (run a r) ≈ run e r
    unfolding exchanged substitute
    recipe_exchanged (secret i) = item_exchanged becomes i
    recipe_exchanged (public n) = same
    recipe_exchanged (xor r q) = in_xor (recipe_exchanged r) (recipe_exchanged q)
    recipe_exchanged (pad r) = rw (recipe_unmarked m a (becomes_unmarked becomes) r) (in_pad (recipe_exchanged r))
    recipe_exchanged (tweak ns) = same
    recipe_exchanged (k then r) = in_text (recipe_exchanged k) (recipe_exchanged r)

    same_outcome : (r q : Recipe block) → run a r ≈ run a q → run e r ≈ run e q
    same_outcome r q h = chain (flip (recipe_exchanged r)) (chain (exchange_alike h) (recipe_exchanged q))

becomes_size : {A : Type 0} (m : Marking A) (f : Exchange A) {a e : List (Term A block)} → Becomes m f a e → length a ≡ length e
becomes_size m f Forall₂.nil = refl
becomes_size m f (Forall₂.cons h t) = ap suc (becomes_size m f t)

pub carried : {A : Type 0} → Carried A
carried m f a e becomes r t u is h = chain (flip (recipe_exchanged m f a e becomes r)) (chain (exchange_alike m f h) is)

pub not_told_apart : {A : Type 0} → NotToldApart A
not_told_apart m n f g a e there back =
    record {
      size = becomes_size m f there;
      tests = λ r q. (same_outcome m f a e there r q, same_outcome n g e a back r q);
    }
