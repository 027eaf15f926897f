-- A loop that writes the bytes of one item after the other: a turn and the end. Assumes nothing.
use Rattle.std.proofs.Common.{◌≡◌, ℕ, ◌+◌, ◌<◌, ◌≤◌, cond, List, ◌++◌, length, get_or, drop, is_ok, IfOk, Ok, Err, Result, ◌∙◌, append_assoc}
use Rattle.std.specs.List.{flat_map}
use Rattle.std.proofs.lemmas.List.{append-nil, drop_more, drop_all}

module _ {X A : Type 0} (write : X → List A) (xs : List X) (i : ℕ) {whole : List A} (text : List A) (so_far : text ++ flat_map write (drop i xs) ≡ whole) where
  pub written_more : {after : List A} (d : X) → i < length xs → after ≡ text ++ write (get_or xs i d) → after ++ flat_map write (drop (i + 1) xs) ≡ whole
  written_more d below e = rw (e, append_assoc text (write (get_or xs i d)) (flat_map write (drop (i + 1) xs))) (rw (drop_more xs i d below) at so_far)

  pub written_all : length xs ≤ i → text ≡ whole
  written_all end = rw (drop_all i xs end, append-nil) at so_far

-- what a slice that was written adds
pub extended : {T E : Type 0} {now : List ℕ} (r : Result T E) (was ys zs : List ℕ) → now ≡ cond (is_ok r) (was ++ ys) was → ys ≡ zs → IfOk r (λ _. now ≡ was ++ zs)
extended (Ok x) was ys zs e same = rw (← same) e
extended (Err x) was ys zs e same = tt

-- six pieces, one after the other
pub six : {A : Type 0} (first a b d e f g : List A) {t₁ t₂ t₃ t₄ t₅ t₆ : List A} → t₁ ≡ first ++ a → t₂ ≡ t₁ ++ b → t₃ ≡ t₂ ++ d → t₄ ≡ t₃ ++ e → t₅ ≡ t₄ ++ f → t₆ ≡ t₅ ++ g →
    t₆ ≡ first ++ (a ++ (b ++ (d ++ (e ++ (f ++ g)))))
six first a b d e f g p₁ p₂ p₃ p₄ p₅ p₆ = p₆ ∙ rw (p₅, p₄, p₃, p₂, p₁) (simp append_assoc)
