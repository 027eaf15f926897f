-- The exchanged hash: it closes rows that hold other keys to the same bytes, goes back by the exchange back, and differs only at texts of closed rows. Assumes nothing.
use Rattle.std.proofs.Common.{◌≡◌, ℕ, ◌+◌, ◌<◌, Bool, true, false, cond, not, ◌&&◌, ltb, ◌⊎◌, List, [], ◌∷◌, map, length, get_or, sym, refl, ap, ◌∙◌, subst, ap₂, inl, inr}
use mathlib.Core.List.{map-map, zip_with, Memᴰ}
use mathlib.Core.Path.{fun_ext}
use Rattle.std.specs.List.{range_with_len}
use Rattle.std.proofs.lemmas.Bool.{and_parts, ltb-true, true≢false}
use Rattle.circuit.specs.Circuit.{Circuit, WellFormed, wire_count, at}
use Rattle.evaluate.proofs.Opened.{xor_block}
use Rattle.garble.specs.Garbled.{TextHash}
use Rattle.garble.specs.Interpretation.{BlockHash}
use Rattle.keys.specs.Drawing.{key_of, coins_of}
use Rattle.keys.specs.declared.wires.WireKeys.{WireKeys}
use Rattle.scheme.specs.Bytes.{Block, xor_bytes}
use Rattle.scheme.specs.Coins.{◌⊕◌, active_colour}
use Rattle.scheme.specs.Garbling.{Key, key, tabulate, all_held}
use Rattle.scheme.specs.Promises.{Known, Fits}
use Rattle.scheme.specs.Yao.{gate_at, held_for, yao}
use Rattle.scheme.proofs.Blocks.{bytes_comm, bytes_assoc, bytes_self, bytes_zero}
use Rattle.scheme.proofs.Colours.{xor_same}
use Rattle.scheme.proofs.Lists.{equal_tabulate}
use Rattle.scheme.proofs.Rows.{active_row, colours_held}
use Rattle.scheme.proofs.Stated.{statement}
use Rattle.sha256.specs.Pads.{row_text}
use Rattle.promise.specs.Exchange.{row_at, row_count, text_at, gate_in, place_in, same, closes, Held, exchanged, ClosedText}
use Rattle.promise.proofs.RowTexts.{gate_told, place_told, closes_own, same_equal}

-- exclusive or of blocks
xor_twice : (a b : List ℕ) → Block a → Block b → xor_bytes (xor_bytes a b) b ≡ a
xor_twice a b a_Block b-block = bytes_assoc a b b ∙ ap (xor_bytes a) (bytes_self 16 b b-block.0) ∙ bytes_zero 16 a a_Block.0

-- what the other run closes with the exchanged pad is what this one closes with its own
recloses : (k l p : List ℕ) → Block k → Block l → Block p → xor_bytes l (xor_bytes p (xor_bytes k l)) ≡ xor_bytes k p
recloses k l p k-block l-block p-block =
    bytes_comm l (xor_bytes p (xor_bytes k l)) ∙ ap (λ x. xor_bytes x l) (sym (bytes_assoc p k l))
    ∙ xor_twice (xor_bytes p k) l (xor_block p k p-block k-block) l-block ∙ bytes_comm p k

module _ (c : Circuit) (good : WellFormed c) (ws : List WireKeys) where
  module _ (before after : Held c) (before_block : (k p : ℕ) → Block (before k p)) (after_block : (k p : ℕ) → Block (after k p)) (h : TextHash) (hashed : BlockHash h) where
    abbrev g : TextHash
    g = exchanged c ws before after h

    abbrev shift : ℕ → ℕ → List ℕ
    shift k p = xor_bytes (before k p) (after k p)

    shift_block : (k p : ℕ) → Block (shift k p)
    shift_block k p = xor_block (before k p) (after k p) (before_block k p) (after_block k p)

    pub exchanged_block : BlockHash g
    exchanged_block t = go (closes c ws t)
      where
        go : (b : Bool) → Block (cond b (xor_bytes (h t) (shift (gate_in t) (place_in t))) (h t))
        go true = xor_block (h t) (shift (gate_in t) (place_in t)) (hashed t) (shift_block (gate_in t) (place_in t))
        go false = hashed t

    exchanged_own : (k p : ℕ) → k < length c.gates → p < row_count c k → g (text_at c ws k p) ≡ xor_bytes (h (text_at c ws k p)) (shift k p)
    exchanged_own k p gate place =
        let t = text_at c ws k p in
        ap (λ b. cond b (xor_bytes (h t) (shift (gate_in t) (place_in t))) (h t)) (closes_own c good ws k p gate place)
        ∙ ap₂ (λ a e. xor_bytes (h t) (shift a e)) (gate_told c good ws k p gate place) (place_told c good ws k p gate place)

    -- a row with the other key in it is closed to the same bytes
    pub row_same : (k p : ℕ) → k < length c.gates → p < row_count c k → xor_bytes (after k p) (g (text_at c ws k p)) ≡ xor_bytes (before k p) (h (text_at c ws k p))
    row_same k p gate place =
        ap (xor_bytes (after k p)) (exchanged_own k p gate place)
        ∙ recloses (before k p) (after k p) (h (text_at c ws k p)) (before_block k p) (after_block k p) (hashed (text_at c ws k p))

    pub exchanged_back : (t : List ℕ) → exchanged c ws after before g t ≡ h t
    exchanged_back t = go (closes c ws t)
      where
        go : (b : Bool) → cond b (xor_bytes (cond b (xor_bytes (h t) (shift (gate_in t) (place_in t))) (h t)) (xor_bytes (after (gate_in t) (place_in t)) (before (gate_in t) (place_in t))))
            (cond b (xor_bytes (h t) (shift (gate_in t) (place_in t))) (h t)) ≡ h t
        go true =
            ap (xor_bytes (xor_bytes (h t) (shift (gate_in t) (place_in t)))) (bytes_comm (after (gate_in t) (place_in t)) (before (gate_in t) (place_in t)))
            ∙ xor_twice (h t) (shift (gate_in t) (place_in t)) (hashed t) (shift_block (gate_in t) (place_in t))
        go false = refl

    -- where rows that are open hold the same key before and after, the hash is another only at texts of closed rows
    module _ (xs : List Bool) (xs_fit : length xs ≡ c.inputs) (size : length (coins_of ws) ≡ wire_count c)
        (open_same : (k p : ℕ) → k < length c.gates → all_held (active_colour c xs (coins_of ws)) (row_at c (coins_of ws) k p).keys ≡ true → after k p ≡ before k p) where
      abbrev act : ℕ → Bool
      act w = active_colour c xs (coins_of ws) w

      fits : Fits yao c xs (coins_of ws)
      fits = record { well_formed = good; inputs = xs_fit; drawn = size }

      -- a row of which not all keys are held has one that cannot be derived
      missing : (ks : List Key) → all_held act ks ≡ false → (k : Key) × Memᴰ k ks × (Known yao c xs (coins_of ws) k → ⊥)
      missing [] some = absurd (true≢false some)
      missing (k ∷ ks) some = go (not (k.colour ⊕ act k.wire)) refl some (missing ks)
        where
          go : (b : Bool) → not (k.colour ⊕ act k.wire) ≡ b → (b && all_held act ks) ≡ false →
              (all_held act ks ≡ false → (m : Key) × Memᴰ m ks × (Known yao c xs (coins_of ws) m → ⊥)) → (m : Key) × Memᴰ m (k ∷ ks) × (Known yao c xs (coins_of ws) m → ⊥)
          go false differs rest others = (
            k,
            Memᴰ.head refl,
            λ known.
                let own = (statement.promises.one_key c xs (coins_of ws) fits k).0 known in
                true≢false (sym (ap not (ap (λ b. b ⊕ act k.wire) own.1 ∙ xor_same (act k.wire))) ∙ differs),
          )
          go true held rest others = let later = others rest in (later.0, Memᴰ.tail later.1, later.2)

      at_row : (k p : ℕ) → k < length c.gates → p < row_count c k → (g (text_at c ws k p) ≡ h (text_at c ws k p)) ⊎ ClosedText c xs ws (text_at c ws k p)
      at_row k p gate place = go (all_held act (row_at c (coins_of ws) k p).keys) refl
        where
          go : (b : Bool) → all_held act (row_at c (coins_of ws) k p).keys ≡ b → (g (text_at c ws k p) ≡ h (text_at c ws k p)) ⊎ ClosedText c xs ws (text_at c ws k p)
          go true all =
              inl
              (exchanged_own k p gate place ∙ ap (λ l. xor_bytes (h (text_at c ws k p)) (xor_bytes (before k p) l)) (open_same k p gate all)
              ∙ ap (xor_bytes (h (text_at c ws k p))) (bytes_self 16 (before k p) (before_block k p).0) ∙ bytes_zero 16 (h (text_at c ws k p)) (hashed (text_at c ws k p)).0)
          go false some =
              let m = missing (row_at c (coins_of ws) k p).keys some in
              inr
              (record {
                gate = k;
                place = p;
                gate_within = gate;
                place_within = place;
                is = refl;
                missing = m.0;
                of_row = m.1;
                unknown = m.2;
              })

      pub elsewhere : (t : List ℕ) → (g t ≡ h t) ⊎ ClosedText c xs ws t
      elsewhere t = go (closes c ws t) refl
        where
          go : (b : Bool) → closes c ws t ≡ b → (g t ≡ h t) ⊎ ClosedText c xs ws t
          go true row =
              let k = gate_in t in
              let p = place_in t in
              let within = and_parts (ltb k (length c.gates) && ltb p (row_count c k)) (same t (text_at c ws k p)) row in
              let both = and_parts (ltb k (length c.gates)) (ltb p (row_count c k)) within.0 in
              let is : t ≡ text_at c ws k p = same_equal t (text_at c ws k p) within.1 in
              subst (λ s. (g s ≡ h s) ⊎ ClosedText c xs ws s) (sym is) (at_row k p (ltb-true k (length c.gates) both.0) (ltb-true p (row_count c k) both.1))
          go false other = inl (ap (λ b. cond b (xor_bytes (h t) (shift (gate_in t) (place_in t))) (h t)) other)

-- tables made place by place
pub map_tables : {X Y : Type 0} (f : X → Y) (n : ℕ) (m : ℕ → ℕ) (r : ℕ → ℕ → X) →
    map (map f) (tabulate n (λ k. tabulate (m k) (r k))) ≡ tabulate n (λ k. tabulate (m k) (λ p. f (r k p)))
map_tables f n m r =
    map-map (map f) (λ k. tabulate (m k) (r k)) (range_with_len 0 n)
    ∙ equal_tabulate (λ k. map f (tabulate (m k) (r k))) (λ k. tabulate (m k) (λ p. f (r k p))) n (λ k below. map-map f (r k) (range_with_len 0 (m k)))

-- other coins, and the same keys
module _ (c : Circuit) (good : WellFormed c) (ws vs : List WireKeys) (alike : (k : Key) → key_of vs k ≡ key_of ws k) where
  pub same_keys : (ks : List Key) → map (key_of vs) ks ≡ map (key_of ws) ks
  same_keys ks = ap (λ f. map f ks) (fun_ext alike)

  pub text_same : (k p : ℕ) → text_at c vs k p ≡ text_at c ws k p
  text_same k p = ap (λ ks. row_text ks k (get_or (row_at c (coins_of ws) k p).tweak 1 0)) (same_keys (row_at c (coins_of ws) k p).keys)

  pub closes_same : (t : List ℕ) → closes c vs t ≡ closes c ws t
  closes_same t = ap (λ s. ltb (gate_in t) (length c.gates) && ltb (place_in t) (row_count c (gate_in t)) && same t s) (text_same (gate_in t) (place_in t))

  pub exchanged_same : (before after : Held c) (h : TextHash) (t : List ℕ) → exchanged c vs before after h t ≡ exchanged c ws before after h t
  exchanged_same before after h t = ap (λ b. cond b (xor_bytes (h t) (xor_bytes (before (gate_in t) (place_in t)) (after (gate_in t) (place_in t)))) (h t)) (closes_same t)

-- the key in a row that is open is the active one of the gate's wire
pub open_holds : (c : Circuit) → WellFormed c → (xs : List Bool) → length xs ≡ c.inputs → (coins cs : List Bool) (k : ℕ) → k < length c.gates →
    length cs ≡ length (gate_at c k).wires → all_held (active_colour c xs coins) (zip_with key (gate_at c k).wires cs) ≡ true →
    held_for c (at coins) k cs ≡ active_colour c xs coins (c.inputs + k)
open_holds c good xs fit coins cs k gate size all =
    ap (held_for c (at coins) k) (colours_held (active_colour c xs coins) (gate_at c k).wires cs size all) ∙ active_row c good xs fit (at coins) k gate
