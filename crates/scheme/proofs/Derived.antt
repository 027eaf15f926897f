-- Equal terms, the rules of deduction, and what is got by them from a row. Assumes nothing.
use Rattle.std.proofs.Common.{◌≡◌, ℕ, suc, List, [], ◌∷◌, get_or, sym}
use mathlib.Core.List.{Memᴰ}
use Rattle.std.specs.List.{AllByRecursion}
use Rattle.scheme.specs.Garbling.{text_of}
use Rattle.scheme.specs.Terms.{Sort, block, Term, secret, public, xor, pad, tweak, ◌then◌, same, chain, regroup, unit, twice, in_xor, in_pad, in_text, ◌≈◌, substitute, Derives, Deduction}

pub equals : {A : Type 0} {s : Sort} {t u : Term A s} → t ≡ u → t ≈ u
equals e = rw e same

-- added twice is gone
pub off : {A : Type 0} (t u : Term A block) → xor (xor t u) u ≈ t
off t u = chain (regroup t u u) (chain (in_xor same (twice u)) (unit t))

place_of : {A : Type 0} {t : Term A block} {have : List (Term A block)} → Memᴰ t have → (i : ℕ) × (get_or have i (public 0) ≡ t)
place_of (Memᴰ.head e) = (0, sym e)
place_of (Memᴰ.tail m) = let p = place_of m in (suc p.0, p.1)

pub deduction : {A : Type 0} (have : List (Term A block)) → Deduction have
unfolding substitute
deduction have =
    record {
      has = λ t m. let p = place_of m in (secret p.0, equals p.1);
      knows = λ n. (public n, same);
      adds = λ t u d e. (xor d.0 e.0, in_xor d.1 e.1);
      writes = λ k t d e. (d.0 then e.0, in_text d.1 e.1);
      numbers = λ ns. (tweak ns, same);
      hashes = λ t d. (pad d.0, in_pad d.1);
      alike = λ s t u e d. (d.0, chain d.1 e);
    }

module _ {A : Type 0} (have : List (Term A block)) where
  pub derive_text : (ks : List (Term A block)) (ns : List ℕ) → AllByRecursion (λ k. Derives have k) ks → Derives have (text_of ks ns)
  derive_text [] ns all = (deduction have).numbers ns
  derive_text (k ∷ ks) ns all = (deduction have).writes k (text_of ks ns) all.0 (derive_text ks ns all.1)

  -- what is closed with something that can be derived can be derived
  pub take_off : (t u : Term A block) → Derives have (xor t u) → Derives have u → Derives have t
  take_off t u d e = (deduction have).alike block (xor (xor t u) u) t (off t u) ((deduction have).adds (xor t u) u d e)
