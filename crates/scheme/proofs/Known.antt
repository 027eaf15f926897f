-- Of each wire exactly the key that is held can be derived. Assumes nothing.
use Rattle.std.proofs.Common.{◌≡◌, ℕ, zero, suc, ◌+◌, ◌-◌, ◌<◌, ◌≤◌, Bool, ◌⊎◌, List, map, length, subst, inl, inr, arith}
use mathlib.Core.List.Memᴰ
use mathlib.Core.List.{zip_with, flatten, Memᴰ}
use Rattle.std.specs.List.{AllByRecursion}
use Rattle.std.proofs.ByRecursion.{All-map, All-weaker}
use Rattle.std.proofs.lemmas.List.{length-map}
use Rattle.std.proofs.lemmas.Bool.{cases_lt}
use Rattle.circuit.specs.Circuit.{Circuit, wire_count}
use Rattle.scheme.specs.Garbling.{Key, key, Row, text_of, tabulate, cipher}
use Rattle.scheme.specs.Marking.{marked}
use Rattle.scheme.specs.Opening.{Tweak}
use Rattle.scheme.specs.Terms.{block, Term, secret, pad, Derives}
use Rattle.scheme.specs.Yao.{gate_at, row_of, tables_holding}
use Rattle.scheme.proofs.Derived.{deduction, derive_text, take_off}
use Rattle.scheme.proofs.Lists.{tabulate_member}
use Rattle.scheme.proofs.Marked.{out_of_reach, becomes_unmarked}
use Rattle.scheme.proofs.Reach.{Lawful, blocks_of, marking, unmarked_key, exchange, blocks_become}
use Rattle.scheme.proofs.Rows.{Setting, gate_wires, keys_held}
use Rattle.scheme.proofs.Tables.{row_member}

module _ (tweak : Tweak) (order : ℕ → ℕ → List Bool) (c : Circuit) (on : Setting tweak order c) (act : ℕ → Bool) (held : ℕ → List Bool → Bool)
    (lawful : Lawful tweak order c on act held) where
  abbrev have : List (Term Key block)
  have = blocks_of tweak order c on act held

  abbrev Gets : Key → Type 0
  Gets k = Derives have (secret k)

  -- a row for all colours stands in the tables, whatever is made of it
  pub row_there : {X : Type 0} (f : Row → X) (k : ℕ) → k < length c.gates → (cs : List Bool) → length cs ≡ length (gate_at c k).wires →
      Memᴰ (f (row_of tweak c k cs (held k cs))) (flatten (map (map f) (tables_holding tweak c order held)))
  row_there f k below cs len =
      let full = on.complete in
      rw (full.there k below cs len) at (row_member tweak c order f held k (full.place k cs) below (full.within k below cs len))

  -- it opens for its keys
  row_opens : (k : ℕ) → k < length c.gates → (cs : List Bool) → length cs ≡ length (gate_at c k).wires →
      AllByRecursion Gets (zip_with key (gate_at c k).wires cs) → Gets (key (c.inputs + k) (held k cs))
  row_opens k below cs len all =
      let keys = zip_with key (gate_at c k).wires cs in
      let closing = text_of (map secret keys) (tweak k cs) in
      take_off have (secret (key (c.inputs + k) (held k cs))) (pad closing)
      ((deduction have).has (cipher secret (row_of tweak c k cs (held k cs))) (Memᴰ.append_right (tabulate c.inputs (λ w. secret (key w (act w)))) (row_there (cipher secret) k below cs len)))
      ((deduction have).hashes closing (derive_text have (map secret keys) (tweak k cs) (All-map (λ t. Derives have t) secret keys all)))

  input_known : (w : ℕ) → w < c.inputs → Gets (key w (act w))
  input_known w below =
      (deduction have).has (secret (key w (act w)))
      (Memᴰ.append_left (flatten (map (map (cipher secret)) (tables_holding tweak c order held))) (tabulate_member (λ w. secret (key w (act w))) c.inputs w below))

  -- a gate's wire, once those before it are known
  gate_known : (k : ℕ) → k < length c.gates → ((w : ℕ) → w < c.inputs + k → Gets (key w (act w))) → Gets (key (c.inputs + k) (act (c.inputs + k)))
  gate_known k below before =
      let ws = (gate_at c k).wires in
      subst (λ b. Gets (key (c.inputs + k) b)) (lawful k below)
      (row_opens k below (map act ws) (length-map ws act)
      (rw (keys_held act ws) (All-map Gets (λ w. key w (act w)) ws (All-weaker (λ w. w < c.inputs + k) (λ w. Gets (key w (act w))) before ws (gate_wires c on.good k below)))))

  -- wire after wire
  known_below : (n w : ℕ) → w < n → w < wire_count c → Gets (key w (act w))
  known_below zero w below within = absurd (omega arith)
  known_below (suc n) w below within = go (cases_lt w c.inputs) (known_below n)
    where
      go : (w < c.inputs) ⊎ (c.inputs ≤ w) → ((v : ℕ) → v < n → v < wire_count c → Gets (key v (act v))) → Gets (key w (act w))
      go (inl input) before = input_known w input
      go (inr gate) before =
          let k : ℕ = w - c.inputs in
          let is : c.inputs + k ≡ w = omega arith in
          subst (λ v. Gets (key v (act v))) is (gate_known k (omega arith) (λ v small. before v (omega arith) (omega arith)))

  pub held_known : (w : ℕ) → w < wire_count c → Gets (key w (act w))
  held_known w within = known_below (suc w) w (omega arith) within

  pub only_held : (k : Key) → Gets k → (k.wire < wire_count c) × (k.colour ≡ act k.wire)
  unfolding marked
  only_held k known =
      let m = marking tweak order c on act held in
      let unmarked = becomes_unmarked m (exchange tweak order c on act held held lawful lawful) (blocks_become tweak order c on act held held lawful lawful) in
      unmarked_key tweak order c on act k (out_of_reach m have unmarked block (secret k) known)
