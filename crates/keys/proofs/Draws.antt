-- All keys that are drawn are blocks of their colours, with stems that differ. Assumes nothing.
use Rattle.std.proofs.Common.{◌≡◌, ℕ, zero, suc, ◌<◌, ◌≤◌, Bool, true, false, cond, eqb, leb, List, [], ◌∷◌, length, take, drop, replicate, Ok, sym, refl, ap, ◌∙◌, ap₂, ⊎_elim, arith, rules}
use Rattle.std.proofs.ByRecursion.{All-take, All-drop}
use Rattle.std.proofs.lemmas.List.{get_or_past, length-take-le}
use Rattle.std.proofs.lemmas.Bool.Decides.{nat_tests}
use Rattle.std.proofs.lemmas.Bool.{cases_lt, leb-true, or_parts}
use Rattle.circuit.proofs.AndThen.{no_answer, then_ok, cond_ok}
use Rattle.scheme.specs.Bytes.{Block, colour_of}
use Rattle.scheme.specs.Garbling.{Key, key}
use Rattle.keys.specs.Drawing.{Bytes, stem, among, used_up, fresh, draw_key, draw_keys, wire_of, seen_with, draw_wires, no_wire, key_of, DrawsLawful}
use Rattle.keys.specs.declared.wires.WireKeys.{WireKeys}
use Rattle.keys.proofs.Coloured.{colour_coloured, block_coloured, stem_coloured}

-- a key that is drawn is a block with a stem of its own, and what is left is bytes
abbrev New : List ℕ → List ℕ × List ℕ → Type 0
New seen p = Block p.0 × (among seen (stem p.0) ≡ false) × Bytes p.1

new_key : (seen : List ℕ) (n : ℕ) (xs : List ℕ) (p : List ℕ × List ℕ) → Bytes xs → fresh seen n xs ≡ Ok p → New seen p
unfolding fresh
new_key seen zero xs p bytes e = no_answer e
new_key seen (suc n) xs p bytes e =
    let long = cond_ok {y = p} (leb 16 (length xs)) (cond (among seen (stem (take 16 xs))) (fresh seen n (drop 16 xs)) (Ok (take 16 xs, drop 16 xs))) used_up e in
    go (among seen (stem (take 16 xs))) refl long.0 long.1 (λ f. new_key seen n (drop 16 xs) p (All-drop (λ b. b < 256) 16 xs bytes) f)
  where
    go : (b : Bool) → among seen (stem (take 16 xs)) ≡ b → leb 16 (length xs) ≡ true → cond b (fresh seen n (drop 16 xs)) (Ok (take 16 xs, drop 16 xs)) ≡ Ok p →
        (fresh seen n (drop 16 xs) ≡ Ok p → New seen p) → New seen p
    go true old long f rest = rest f
    go false new long f rest =
        let same : p ≡ (take 16 xs, drop 16 xs) = cc in
        rw same ((length-take-le 16 xs (leb-true 16 (length xs) long), All-take (λ b. b < 256) 16 xs bytes), new, All-drop (λ b. b < 256) 16 xs bytes)

-- keys of wires, as they are by name, apart from each other and from stems seen before
pub record Fresh (seen : List ℕ) (n : ℕ) (ws : List WireKeys) : Type 0 where
  pub size : length ws ≡ n
  pub blocks : (w : ℕ) (c : Bool) → w < n → Block (key_of ws (key w c))
  pub colours : (w : ℕ) (c : Bool) → w < n → colour_of (key_of ws (key w c)) ≡ c
  pub news : (w : ℕ) (c : Bool) → w < n → among seen (stem (key_of ws (key w c))) ≡ false
  pub apart : (v w : ℕ) (c d : Bool) → v < n → w < n → stem (key_of ws (key v c)) ≡ stem (key_of ws (key w d)) → (v ≡ w) × (c ≡ d)

none : (seen : List ℕ) → Fresh seen 0 []
none seen =
    record {
      size = refl;
      blocks = λ w c below. absurd (omega arith);
      colours = λ w c below. absurd (omega arith);
      news = λ w c below. absurd (omega arith);
      apart = λ v w c d below _ _. absurd (omega arith);
    }

module _ (seen : List ℕ) (b : ℕ) (z o : List ℕ) (z_block : Block z) (o_block : Block o) (z_new : among seen (stem z) ≡ false) (o_new : among (stem z ∷ seen) (stem o) ≡ false)
    (n : ℕ) (ws : List WireKeys) (rest : Fresh (seen_with (z, o) seen) n ws) where
  o_parts : (eqb (stem z) (stem o) ≡ false) × (among seen (stem o) ≡ false)
  o_parts = or_parts (eqb (stem z) (stem o)) (among seen (stem o)) o_new

  -- the stem of a key of the first wire
  first_stem : (c : Bool) → stem (key_of (wire_of b (z, o) ∷ ws) (key 0 c)) ≡ cond c (stem o) (stem z)
  first_stem true = stem_coloured true o o_block.0
  first_stem false = stem_coloured false z z_block.0

  first_differ : (c d : Bool) → cond c (stem o) (stem z) ≡ cond d (stem o) (stem z) → c ≡ d
  first_differ true true e = refl
  first_differ false false e = refl
  first_differ true false e = let apart = o_parts.0 in grind (arith, nat_tests)
  first_differ false true e = let apart = o_parts.0 in grind (arith, nat_tests)

  -- a later key has neither of its stems, and none seen before
  later : (w : ℕ) (d : Bool) → w < n → (among seen (stem (key_of ws (key w d))) ≡ false) × ((c : Bool) → cond c (stem o) (stem z) ≡ stem (key_of ws (key w d)) → ⊥)
  later w d below =
      let s = stem (key_of ws (key w d)) in
      let not_o = or_parts (eqb (stem o) s) (among (stem z ∷ seen) s) (rest.news w d below) in
      let not_z = or_parts (eqb (stem z) s) (among seen s) not_o.1 in
      (not_z.1, neither s not_o.0 not_z.0)
    where
      neither : (s : ℕ) → eqb (stem o) s ≡ false → eqb (stem z) s ≡ false → (c : Bool) → cond c (stem o) (stem z) ≡ s → ⊥
      neither s not_o not_z true e = grind (arith, nat_tests)
      neither s not_o not_z false e = grind (arith, nat_tests)

  one_more : Fresh seen (suc n) (wire_of b (z, o) ∷ ws)
  one_more = record { size = ap suc rest.size; blocks = blocks; colours = colours; news = news; apart = apart }
    where
      blocks : (w : ℕ) (c : Bool) → w < suc n → Block (key_of (wire_of b (z, o) ∷ ws) (key w c))
      blocks zero true below = block_coloured true o o_block
      blocks zero false below = block_coloured false z z_block
      blocks (suc w) c below = rest.blocks w c (omega arith)

      colours : (w : ℕ) (c : Bool) → w < suc n → colour_of (key_of (wire_of b (z, o) ∷ ws) (key w c)) ≡ c
      colours zero true below = colour_coloured true o o_block.0
      colours zero false below = colour_coloured false z z_block.0
      colours (suc w) c below = rest.colours w c (omega arith)

      news : (w : ℕ) (c : Bool) → w < suc n → among seen (stem (key_of (wire_of b (z, o) ∷ ws) (key w c))) ≡ false
      news zero true below = ap (among seen) (first_stem true) ∙ o_parts.1
      news zero false below = ap (among seen) (first_stem false) ∙ z_new
      news (suc w) c below = (later w c (omega arith)).0

      apart : (v w : ℕ) (c d : Bool) → v < suc n → w < suc n →
          stem (key_of (wire_of b (z, o) ∷ ws) (key v c)) ≡ stem (key_of (wire_of b (z, o) ∷ ws) (key w d)) → (v ≡ w) × (c ≡ d)
      apart zero zero c d v_below w-below e = (refl, first_differ c d (sym (first_stem c) ∙ e ∙ first_stem d))
      apart zero (suc w) c d v_below w-below e = absurd ((later w d (omega arith)).1 c (sym (first_stem c) ∙ e))
      apart (suc v) zero c d v_below w-below e = absurd ((later v c (omega arith)).1 d (sym (first_stem d) ∙ sym e))
      apart (suc v) (suc w) c d v_below w-below e = let same = rest.apart v w c d (omega arith) (omega arith) e in (ap suc same.0, same.1)

drawn_fresh : (n : ℕ) (seen xs : List ℕ) (ws : List WireKeys) → Bytes xs → draw_wires n seen xs ≡ Ok ws → Fresh seen n ws
unfolding draw_wires
drawn_fresh zero seen xs ws bytes e = let same : ws ≡ [] = cc in rw same (none seen)
drawn_fresh (suc n) seen [] ws bytes e = no_answer e
drawn_fresh (suc n) seen (b ∷ xs) ws bytes e =
    then_ok (draw_keys seen xs) _ e (λ p came e.
    then_ok (draw_wires n (seen_with p.0 seen) p.1) _ e (λ vs came_rest e.
    then_ok (draw_key seen xs) _ came (λ z came_z came.
    then_ok (draw_key (stem z.0 ∷ seen) z.1) _ came (λ o came_o came.
    let new_z = new_key seen (length xs) xs z bytes.1 came_z in
    let new_o = new_key (stem z.0 ∷ seen) (length z.1) z.1 o new_z.2 came_o in
    let pair : p ≡ ((z.0, o.0), o.1) = cc in
    let same : ws ≡ wire_of b p.0 ∷ vs = cc in
    let rest = drawn_fresh n (seen_with p.0 seen) p.1 vs (rw pair new_o.2) came_rest in
    rw (same, pair) (one_more seen b z.0 o.0 new_z.0 new_o.0 new_z.1 new_o.1 n vs (rw pair at rest))))))

block_zero : Block (replicate 16 0)
block_zero = (refl, search rules)

no_wire_blocks : (c : Bool) → Block (cond c no_wire.one no_wire.zero)
no_wire_blocks true = block_zero
no_wire_blocks false = block_zero

pub draws_lawful : (n : ℕ) (xs : List ℕ) → DrawsLawful n xs
draws_lawful n xs bytes ws e =
    let all = drawn_fresh n [] xs ws bytes e in
    record {
      size = all.size;
      blocks = λ k. ⊎_elim (all.blocks k.wire k.colour) (past k all.size) (cases_lt k.wire n);
      colours = λ k below. all.colours k.wire k.colour below;
      apart = λ k l k_below l_below same. let one = all.apart k.wire l.wire k.colour l.colour k_below l_below same in ap₂ key one.0 one.1;
    }
  where
    past : (k : Key) → length ws ≡ n → n ≤ k.wire → Block (key_of ws k)
    past k size end = rw (get_or_past ws k.wire no_wire (omega arith)) (no_wire_blocks k.colour)
