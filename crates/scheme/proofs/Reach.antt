-- The marking of keys that are not held. Tables may hold what they like but where all keys of a row are held: then what is sent has no mark, and becomes, by an
-- exchange, what is sent with other tables of that kind. Assumes nothing.
use Rattle.std.proofs.Common.{◌≡◌, ℕ, ◌+◌, ◌<◌, Bool, true, false, cond, not, ◌&&◌, ◌||◌, ltb, List, [], ◌∷◌, ◌++◌, map, length, sym, refl, ap, ◌∙◌, ap₂, arith}
use mathlib.Core.List.{zip_with, flatten}
use mathlib.Mathlib.Data.List.Forall2.{rel-append, rel-flatten}
use Rattle.std.specs.List.{AllByRecursion}
use Rattle.std.proofs.lemmas.Bool.{true≢false, lt-ltb, ltb-true}
use Rattle.circuit.specs.Circuit.{Circuit, wire_count}
use Rattle.scheme.specs.Coins.{◌⊕◌}
use Rattle.scheme.specs.Garbling.{Key, key, Row, text_of, tabulate, all_held, cipher}
use Rattle.scheme.specs.Marking.{Marking, tweak_of, marked, Exchange, exchanged, Becomes}
use Rattle.scheme.specs.Opening.{Tweak}
use Rattle.scheme.specs.Terms.{block, text, Term, secret, xor, pad, ◌then◌, same, chain, swap, in_xor, ◌≈◌, Recipe, run, StaticallyEquivalent, sum}
use Rattle.scheme.specs.Yao.{gate_at, row_of, tables_holding}
use Rattle.scheme.proofs.Colours.{xor_same, same_from_xor}
use Rattle.scheme.proofs.Derived.{equals, off}
use Rattle.scheme.proofs.Lists.{tabulate_beside, map_map_beside}
use Rattle.scheme.proofs.Marked.{carried, not_told_apart}
use Rattle.scheme.proofs.Rows.{Setting, wires_below, keys_below, colours_held}
use Rattle.scheme.proofs.Tables.{tables_beside}

tweak_of_text : {A : Type 0} (ks : List (Term A block)) (ns : List ℕ) → tweak_of (text_of ks ns) ≡ ns
unfolding tweak_of
tweak_of_text [] ns = refl
tweak_of_text (k ∷ ks) ns = tweak_of_text ks ns

not_and : (a b : Bool) → (not a || not b) ≡ not (a && b)
not_and a b = grind arith

-- tables, and the colour of the key that is held of each wire
module _ (tweak : Tweak) (order : ℕ → ℕ → List Bool) (c : Circuit) (on : Setting tweak order c) (act : ℕ → Bool) where
  -- the row for the keys that are held holds the key that is held
  abbrev pub Lawful : (ℕ → List Bool → Bool) → Type 0
  Lawful held = (k : ℕ) → k < length c.gates → held k (map act (gate_at c k).wires) ≡ act (c.inputs + k)

  abbrev pub blocks_of : (ℕ → List Bool → Bool) → List (Term Key block)
  blocks_of held = tabulate c.inputs (λ w. secret (key w (act w))) ++ flatten (map (map (cipher secret)) (tables_holding tweak c order held))

  abbrev keys_for : ℕ → List Bool → List Key
  keys_for k cs = zip_with key (gate_at c k).wires cs

  abbrev row_text : ℕ → List Bool → Term Key text
  row_text k cs = text_of (map secret (keys_for k cs)) (tweak k cs)

  -- a key of no wire, or not the one that is held
  abbrev missing : Key → Bool
  missing k = cond (ltb k.wire (wire_count c)) (k.colour ⊕ act k.wire) true

  within : (k : Key) → k.wire < wire_count c → missing k ≡ k.colour ⊕ act k.wire
  within k below = rw (lt-ltb k.wire (wire_count c) below)

  held_unmarked : (w : ℕ) → w < wire_count c → missing (key w (act w)) ≡ false
  held_unmarked w below = within (key w (act w)) below ∙ xor_same (act w)

  pub unmarked_key : (k : Key) → missing k ≡ false → (k.wire < wire_count c) × (k.colour ≡ act k.wire)
  unmarked_key k e = go (ltb k.wire (wire_count c)) refl e
    where
      go : (b : Bool) → ltb k.wire (wire_count c) ≡ b → cond b (k.colour ⊕ act k.wire) true ≡ false → (k.wire < wire_count c) × (k.colour ≡ act k.wire)
      go true is e = grind (arith, ltb-true, same_from_xor)
      go false is e = absurd (true≢false e)

  -- the row that a tweak tells
  abbrev row_named : (ℕ → List Bool → Bool) → List ℕ → Row
  row_named held ns = row_of tweak c (on.naming.gate ns) (on.naming.colours ns) (held (on.naming.gate ns) (on.naming.colours ns))

  abbrev pub marking : (ℕ → List Bool → Bool) → Marking Key
  marking held = record { secrets = missing; rows = λ ns. missing (row_named held ns).holds }

  -- a text of keys is marked unless all are held, and is left alone by an exchange
  marked_text : (held : ℕ → List Bool → Bool) (ks : List Key) (ns : List ℕ) → AllByRecursion (λ k. k.wire < wire_count c) ks →
      marked (marking held) (text_of (map secret ks) ns) ≡ not (all_held act ks)
  unfolding marked
  marked_text held [] ns all = refl
  marked_text held (k ∷ ks) ns all = grind (arith, within, not_and, marked_text held ks ns all.1)

  -- keys stand for themselves
  abbrev keeping : (List ℕ → Term Key block) → Exchange Key
  keeping pads = record { secrets = λ k. secret k; pads = pads }

  keys_exchanged : (held : ℕ → List Bool → Bool) (f : List ℕ → Term Key block) (ks : List Key) (ns : List ℕ) →
      exchanged (marking held) (keeping f) (text_of (map secret ks) ns) ≡ text_of (map secret ks) ns
  unfolding exchanged
  keys_exchanged held f [] ns = refl
  keys_exchanged held f (k ∷ ks) ns = ap (λ t. secret k then t) (keys_exchanged held f ks ns)

  sum_exchanged : (held : ℕ → List Bool → Bool) (f : List ℕ → Term Key block) (ks : List Key) (n : ℕ) →
      exchanged (marking held) (keeping f) (sum (map secret ks) n) ≡ sum (map secret ks) n
  unfolding exchanged
  sum_exchanged held f [] n = refl
  sum_exchanged held f (k ∷ ks) n = ap (λ t. xor (secret k) t) (sum_exchanged held f ks n)

  module _ (held other : ℕ → List Bool → Bool) (mine : Lawful held) (theirs : Lawful other) where
    module _ (k : ℕ) (below : k < length c.gates) (cs : List Bool) (len : length cs ≡ length (gate_at c k).wires) where
      text_names : (h : ℕ → List Bool → Bool) → row_named h (tweak_of (row_text k cs)) ≡ row_of tweak c k cs (h k cs)
      text_names h =
          ap (row_named h) (tweak_of_text (map secret (keys_for k cs)) (tweak k cs))
          ∙ ap₂ (λ (j : ℕ) (ds : List Bool). row_of tweak c j ds (h j ds)) (on.naming.gate_named k below cs len) (on.naming.colours_named k below cs len)

      text_marked : marked (marking held) (row_text k cs) ≡ not (all_held act (keys_for k cs))
      text_marked = marked_text held (keys_for k cs) (tweak k cs) (keys_below (wire_count c) (gate_at c k).wires cs (wires_below c on.good k below))

      -- where all keys are held, both hold the key that is held
      open_holds : (h : ℕ → List Bool → Bool) → Lawful h → all_held act (keys_for k cs) ≡ true → h k cs ≡ act (c.inputs + k)
      open_holds h lawful all = grind (arith, colours_held)

      -- in a row that is closed the marks cancel, and one that is open has none
      row_unmarked : marked (marking held) (cipher secret (row_of tweak c k cs (held k cs))) ≡ false
      unfolding marked
      row_unmarked =
          ap₂ (λ (b : Bool) (r : Row). mark ⊕ (b && missing r.holds)) text_marked (text_names held) ∙ go (all_held act (keys_for k cs)) refl
        where
          mark : Bool
          mark = missing (key (c.inputs + k) (held k cs))

          go : (b : Bool) → all_held act (keys_for k cs) ≡ b → mark ⊕ (not b && mark) ≡ false
          go true all = grind (arith, open_holds, held_unmarked)
          go false some = xor_same mark

    -- the block that stands for the pad of a closed row: with the key in it, it makes the other's row
    abbrev replaced : List ℕ → Term Key block
    replaced ns = xor (secret (row_named held ns).holds) (cipher secret (row_named other ns))

    abbrev pub exchange : Exchange Key
    exchange = keeping replaced

    abbrev Exchanges : Term Key block → Term Key block → Type 0
    Exchanges t u = (marked (marking held) t ≡ false) × (exchanged (marking held) exchange t ≈ u)

    row_becomes : (k : ℕ) → k < length c.gates → (cs : List Bool) → length cs ≡ length (gate_at c k).wires →
        Exchanges (cipher secret (row_of tweak c k cs (held k cs))) (cipher secret (row_of tweak c k cs (other k cs)))
    unfolding exchanged
    row_becomes k below cs len =
        (row_unmarked k below cs len, chain (equals (ap (λ (t : Term Key block). xor (secret here) t) exchanged_pad)) (go (all_held act (keys_for k cs)) refl))
      where
        here : Key
        here = key (c.inputs + k) (held k cs)

        there : Term Key block
        there = cipher secret (row_of tweak c k cs (other k cs))

        closing : Term Key block
        closing = pad (row_text k cs)

        exchanged_pad : exchanged (marking held) exchange closing ≡ cond (not (all_held act (keys_for k cs))) (xor (secret here) there) closing
        exchanged_pad =
            ap₂ (λ (b : Bool) (t : Term Key block). cond b t (pad (exchanged (marking held) exchange (row_text k cs)))) (text_marked k below cs len)
            (ap₂ (λ (r q : Row). xor (secret r.holds) (cipher secret q)) (text_names k below cs len held) (text_names k below cs len other))
            ∙ ap (λ (t : Term Key text). cond (not (all_held act (keys_for k cs))) (xor (secret here) there) (pad t)) (keys_exchanged held replaced (keys_for k cs) (tweak k cs))

        go : (b : Bool) → all_held act (keys_for k cs) ≡ b → xor (secret here) (cond (not b) (xor (secret here) there) closing) ≈ there
        go true all = equals (ap (λ b. xor (secret (key (c.inputs + k) b)) closing) (open_holds k below cs len held mine all ∙ sym (open_holds k below cs len other theirs all)))
        go false some = chain (in_xor same (swap (secret here) there)) (chain (swap (secret here) (xor there (secret here))) (off there (secret here)))

    pub blocks_become : Becomes (marking held) exchange (blocks_of held) (blocks_of other)
    unfolding marked exchanged
    blocks_become =
        rel-append (tabulate c.inputs (λ w. secret (key w (act w)))) (tabulate c.inputs (λ w. secret (key w (act w))))
        (tabulate_beside Exchanges (λ w. secret (key w (act w))) (λ w. secret (key w (act w))) c.inputs (λ w below. (held_unmarked w (omega arith), same)))
        (flatten (map (map (cipher secret)) (tables_holding tweak c order held))) (flatten (map (map (cipher secret)) (tables_holding tweak c order other)))
        (rel-flatten (map (map (cipher secret)) (tables_holding tweak c order held)) (map (map (cipher secret)) (tables_holding tweak c order other))
        (map_map_beside Exchanges (cipher secret) (cipher secret)
        (tables_beside tweak c order (λ r q. Exchanges (cipher secret r) (cipher secret q)) held other (λ k below p. row_becomes k below (order k p) (on.complete.sized k below p)))))

  -- nobody tells apart what is sent with the one and with the other
  pub held_alike : (held other : ℕ → List Bool → Bool) → Lawful held → Lawful other → StaticallyEquivalent (blocks_of held) (blocks_of other)
  held_alike held other mine theirs =
      not_told_apart (marking held) (marking other) (exchange held other mine theirs) (exchange other held theirs mine) (blocks_of held) (blocks_of other)
      (blocks_become held other mine theirs) (blocks_become other held theirs mine)

  -- and the same sums of keys come out
  pub sums_alike : (held other : ℕ → List Bool → Bool) → Lawful held → Lawful other → (r : Recipe block) (ks : List Key) (n : ℕ) →
      run (blocks_of held) r ≈ sum (map secret ks) n → run (blocks_of other) r ≈ sum (map secret ks) n
  sums_alike held other mine theirs r ks n =
      carried (marking held) (exchange held other mine theirs) (blocks_of held) (blocks_of other) (blocks_become held other mine theirs) r (sum (map secret ks) n) (sum (map secret ks) n)
      (equals (sum_exchanged held (replaced held other mine theirs) ks n))
