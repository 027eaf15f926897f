-- What `array::from_fn` makes with a closure that stays as it is, place by place and as a list. Assumes nothing.
use Rattle.std.proofs.Common.{◌≡◌, ℕ, zero, suc, ◌+◌, ◌<◌, List, map, get_or, subst, ◌∙◌, arith}
use Rattle.std.specs.List.{range_with_len}
use Rattle.std.specs.Array.{IsFromFnResult, IsFromFnResultFrom}
use Rattle.std.specs.Fn.{Called}
use denote.Param.Members.{Mut}
use Rattle.std.proofs.lemmas.List.FromFn.{fill_by_all}

module _ {F B : Type 0} (g : Mut F (ℕ × Unit {0}) B) (f : F) (h : ℕ → B) where
  made_from : (ys : List B) (i n : ℕ) → IsFromFnResultFrom g f ys i n → ((j : ℕ) (y : B) (q : F) → j < i + n → Called g f (j, tt) y q → (q ≡ f) × (y ≡ h j)) →
      (k : ℕ) (d : B) → k < n → get_or ys (i + k) d ≡ h (i + k)
  made_from ys i zero made gives k d below = absurd (omega arith)
  made_from ys i (suc n) (q, y, at, call, rest) gives zero d below =
      let here : i + 0 ≡ i = omega arith in
      rw here (at.1 d ∙ (gives i y q (omega arith) call).1)
  made_from ys i (suc n) (q, y, at, call, rest) gives (suc k) d below =
      let on : i + suc k ≡ i + 1 + k = omega arith in
      rw on
      (made_from ys (i + 1) n (subst (λ p. IsFromFnResultFrom g p ys (i + 1) n) (gives i y q (omega arith) call).0 rest)
      (λ j z p low. gives j z p (omega arith)) k d (omega arith))

  module _ (ys : List B) (n : ℕ) (is : IsFromFnResult g f ys n) (gives : (j : ℕ) (y : B) (q : F) → j < n → Called g f (j, tt) y q → (q ≡ f) × (y ≡ h j)) where
    pub made_at : (k : ℕ) (d : B) → k < n → get_or ys k d ≡ h k
    made_at k d below =
        let z : 0 + k ≡ k = omega arith in
        subst (λ p. get_or ys p d ≡ h p) z (made_from ys 0 n is.each (λ j y q low. gives j y q (omega arith)) k d below)

    pub made : B → ys ≡ map h (range_with_len 0 n)
    made d = fill_by_all h ys n d is.long (λ k below. made_at k d below)
