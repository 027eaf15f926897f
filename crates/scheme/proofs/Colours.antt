-- Exclusive or: its laws, and what `!=` on bits is. Assumes nothing.
use Rattle.std.proofs.Common.{◌≡◌, Bool, true, false, not, refl, arith}
use mathlib.Core.Bool.{beq}
use Rattle.scheme.specs.Coins.{◌⊕◌}

pub xor_twice : (c v : Bool) → c ⊕ v ⊕ v ≡ c
xor_twice c v = grind arith

pub xor_comm : (a b : Bool) → a ⊕ b ≡ b ⊕ a
xor_comm a b = grind arith

pub xor_assoc : (a b c : Bool) → a ⊕ b ⊕ c ≡ a ⊕ (b ⊕ c)
xor_assoc a b c = grind arith

pub xor_false : (x : Bool) → x ⊕ false ≡ x
xor_false x = grind arith

pub xor_past : (a b c : Bool) → a ⊕ (b ⊕ c) ≡ b ⊕ (a ⊕ c)
xor_past a b c = grind arith

pub xor_back : (c v : Bool) → c ⊕ (c ⊕ v) ≡ v
xor_back c v = grind arith

pub xor_same : (x : Bool) → x ⊕ x ≡ false
xor_same x = grind arith

-- what `!=` on bits means
pub xor_differs : (x y : Bool) → x ⊕ y ≡ not (beq x y)
xor_differs true true = refl
xor_differs true false = refl
xor_differs false true = refl
xor_differs false false = refl

pub same_from_xor : (x y : Bool) → x ⊕ y ≡ false → x ≡ y
same_from_xor x y e = grind arith
