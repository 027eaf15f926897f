-- Lists made place by place: what holds at each place holds side by side, and what stands at a place is a member. Assumes nothing.
use Rattle.std.proofs.Common.{◌≡◌, ℕ, zero, suc, ◌+◌, ◌<◌, ◌⊎◌, List, ◌∷◌, map, get_or, sym, ap, ◌∙◌, subst, inl, inr, add-zero, arith}
use mathlib.Core.List.Memᴰ
use mathlib.Core.List.{map-map, flatten, Forall₂, Memᴰ}
use mathlib.Mathlib.Data.List.Forall2.Forall₂
use mathlib.Mathlib.Data.List.Forall2.{Forall₂-eq-eq-eq, Forall₂-map_right_iff, Rel-map}
use Rattle.std.specs.List.{range_with_len, AllByRecursion}
use Rattle.std.proofs.lemmas.List.FromFn.{get_or-map-range_with_len}
use Rattle.scheme.specs.Garbling.{tabulate}

pub conses : {X : Type 0} {x y : X} {xs ys : List X} → x ≡ y → xs ≡ ys → x ∷ xs ≡ y ∷ ys
conses p q = λ i. p i ∷ q i

pub entry : {X Y : Type 0} (f : X → Y) (h : ℕ → X) (n i : ℕ) (d : Y) → i < n → get_or (map f (tabulate n h)) i d ≡ f (h i)
entry f h n i d below = ap (λ ys. get_or ys i d) (map-map f h (range_with_len 0 n)) ∙ get_or-map-range_with_len (λ i. f (h i)) 0 n i i d below (omega arith)

-- side by side
module _ {X Y : Type 0} (R : X → Y → Type 0) (f : ℕ → X) (g : ℕ → Y) where
  counted_beside : (a n : ℕ) → ((i : ℕ) → i < n → R (f (a + i)) (g (a + i))) → Forall₂ R (map f (range_with_len a n)) (map g (range_with_len a n))
  counted_beside a zero h = Forall₂.nil
  counted_beside a (suc n) h =
      Forall₂.cons (rw (add-zero a) at (h 0 (omega arith)))
      (counted_beside (a + 1) n (λ i below. let e : a + suc i ≡ a + 1 + i = omega arith in rw e at (h (suc i) (omega arith))))

  pub tabulate_beside : (n : ℕ) → ((i : ℕ) → i < n → R (f i) (g i)) → Forall₂ R (tabulate n f) (tabulate n g)
  tabulate_beside n h = grind (arith, counted_beside)

pub map_map_beside : {X Y Z W : Type 0} (R : Z → W → Type 0) (f : X → Z) (g : Y → W) {xss : List (List X)} {yss : List (List Y)} →
    Forall₂ (Forall₂ (λ x y. R (f x) (g y))) xss yss → Forall₂ (Forall₂ R) (map (map f) xss) (map (map g) yss)
map_map_beside R f g {xss} {yss} h = Rel-map (map f) (map g) (Rel-map f g (λ x y r. r)) xss yss h

pub beside_map_map : {X Y Z : Type 0} (R : X → Z → Type 0) (g : Y → Z) {xss : List (List X)} {yss : List (List Y)} →
    Forall₂ (Forall₂ (λ x y. R x (g y))) xss yss → Forall₂ (Forall₂ R) xss (map (map g) yss)
beside_map_map R g h = (Forall₂-map_right_iff (map g)).1 (Forall₂.imp (λ xs ys. (Forall₂-map_right_iff g).1) h)

-- what is equal place by place is equal
pub equal_tables : {X : Type 0} {xss yss : List (List X)} → Forall₂ (Forall₂ (λ x y. x ≡ y)) xss yss → xss ≡ yss
equal_tables h = Forall₂-eq-eq-eq.0 (Forall₂.imp (λ xs ys. Forall₂-eq-eq-eq.0) h)

pub equal_tabulate : {X : Type 0} (f g : ℕ → X) (n : ℕ) → ((i : ℕ) → i < n → f i ≡ g i) → tabulate n f ≡ tabulate n g
equal_tabulate f g n h = Forall₂-eq-eq-eq.0 (tabulate_beside (λ x y. x ≡ y) f g n h)

-- members
pub member_beside : {X Y : Type 0} (P : Y → Type 0) {xs : List X} {ys : List Y} {y : Y} → Forall₂ (λ x y. P y) xs ys → Memᴰ y ys → P y
member_beside P Forall₂.nil m = absurd (Memᴰ.not-nil m)
member_beside P {y = y} (Forall₂.cons {b = z} {l₂ = ys} h t) m = go (Memᴰ.cases_cons m) (λ n. member_beside P t n)
  where
    go : (y ≡ z) ⊎ Memᴰ y ys → (Memᴰ y ys → P y) → P y
    go (inl e) rest = subst P (sym e) h
    go (inr n) rest = rest n

pub all_mem : {X : Type 0} (P : X → Type 0) {x : X} {xs : List X} → AllByRecursion P xs → Memᴰ x xs → P x
all_mem P all (Memᴰ.head e) = subst P (sym e) all.0
all_mem P all (Memᴰ.tail m) = all_mem P all.1 m

counted_member : {X : Type 0} (f : ℕ → X) (a n i : ℕ) → i < n → Memᴰ (f (a + i)) (map f (range_with_len a n))
counted_member f a zero i below = absurd (omega arith)
counted_member f a (suc n) zero below = Memᴰ.head (ap f (add-zero a))
counted_member f a (suc n) (suc i) below = let e : a + suc i ≡ a + 1 + i = omega arith in rw e (Memᴰ.tail (counted_member f (a + 1) n i (omega arith)))

pub tabulate_member : {X : Type 0} (f : ℕ → X) (n i : ℕ) → i < n → Memᴰ (f i) (tabulate n f)
tabulate_member f n i below = let e : 0 + i ≡ i = omega arith in rw e at (counted_member f 0 n i below)

pub flatten_member : {X : Type 0} {x : X} {xs : List X} {xss : List (List X)} → Memᴰ x xs → Memᴰ xs xss → Memᴰ x (flatten xss)
unfolding flatten
flatten_member {x = x} m (Memᴰ.head {xs = yss} e) = Memᴰ.append_left (flatten yss) (subst (λ zs. Memᴰ x zs) e m)
flatten_member m (Memᴰ.tail {x = ys} n) = Memᴰ.append_right ys (flatten_member m n)
