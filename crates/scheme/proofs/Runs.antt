-- A run of a scheme whose tables are complete and whose tweaks tell their rows: of each wire one key, and what is seen is what can be derived. Assumes nothing.
use Rattle.std.proofs.Common.{◌≡◌, ℕ, ◌+◌, ◌-◌, ◌<◌, ◌≤◌, Bool, true, false, cond, not, ◌⊎◌, ◌↔◌, List, [], ◌∷◌, ◌++◌, map, length, sym, refl, ap, ◌∙◌, subst, inl, inr, arith}
use mathlib.Core.List.{zip_with, flatten, Memᴰ}
use mathlib.Mathlib.Data.List.Forall2.{rel-flatten}
use Rattle.std.specs.List.{AllByRecursion}
use Rattle.std.proofs.ByRecursion.{All-map, All-weaker}
use Rattle.std.proofs.lemmas.List.{length-map}
use Rattle.std.proofs.lemmas.Bool.{true≢false, cases_lt, and_from}
use Rattle.circuit.specs.Circuit.{Circuit, wire_count, at}
use Rattle.scheme.specs.Coins.{◌⊕◌}
use Rattle.scheme.specs.Garbling.{Key, key, Row, Scheme, blocks, Seen, opened, closed, View, all_held, look, cipher, value_key, sent, active, view}
use Rattle.scheme.specs.Opening.{Tweak}
use Rattle.scheme.specs.Promises.{Fits, Known, SeenAs, as_open, as_closed, Shows, Sees}
use Rattle.scheme.specs.Terms.{Derives, secret}
use Rattle.scheme.specs.Yao.{gate_at, row_of, tables_holding, held_for, Order, yao_by}
use Rattle.scheme.proofs.Colours.{xor_same}
use Rattle.scheme.proofs.Known.{row_there, held_known, only_held}
use Rattle.scheme.proofs.Lists.{conses, tabulate_beside, beside_map_map, equal_tabulate, member_beside, tabulate_member}
use Rattle.scheme.proofs.Reach.{Lawful, blocks_of}
use Rattle.scheme.proofs.Rows.{Complete, Naming, Setting, input_value, wires_below, active_row, keys_held, looks_open, colours_held}
use Rattle.scheme.proofs.Tables.{tables_beside}

module _ (coin : List Bool → ℕ → Bool) (order : Order) (tweak : Tweak) (decoded : Circuit → List ℕ) (c : Circuit) (xs coins : List Bool)
    (fits : Fits (yao_by coin order tweak decoded) c xs coins) (complete : Complete (λ k. order (coin coins) (gate_at c k)) c) (naming : Naming tweak c) where
  abbrev S : Scheme Key
  S = yao_by coin order tweak decoded

  abbrev places : ℕ → ℕ → List Bool
  places k = order (coin coins) (gate_at c k)

  pub on : Setting tweak places c
  on = record { good = fits.well_formed; complete = complete; naming = naming }

  -- by any account of the colours of the keys that are held
  module _ (act : ℕ → Bool) (acts : (w : ℕ) → w < wire_count c → (active S c xs coins w).colour ≡ act w) where
    colours_agree : (ws : List ℕ) → AllByRecursion (λ w. w < wire_count c) ws → map (λ w. (active S c xs coins w).colour) ws ≡ map act ws
    colours_agree [] all = refl
    colours_agree (w ∷ ws) all = conses (acts w all.0) (colours_agree ws all.1)

    pub lawful : Lawful tweak places c on act (held_for c (coin coins))
    lawful k below =
        ap (held_for c (coin coins) k) (sym (colours_agree (gate_at c k).wires (wires_below c fits.well_formed k below)))
        ∙ active_row c fits.well_formed xs fits.inputs (coin coins) k below ∙ acts (c.inputs + k) (omega arith)

    pub key_is : (w : ℕ) → w < c.inputs → value_key S c coins w (at xs w) ≡ key w (act w)
    key_is w below = ap (value_key S c coins w) (sym (input_value c fits.well_formed xs fits.inputs w below)) ∙ ap (key w) (acts w (omega arith))

    pub sent_is : blocks (sent S c xs coins) ≡ blocks_of tweak places c on act (held_for c (coin coins))
    sent_is =
        ap (λ ks. ks ++ flatten (map (map (cipher secret)) (tables_holding tweak c places (held_for c (coin coins)))))
        (equal_tabulate (λ w. secret (value_key S c coins w (at xs w))) (λ w. secret (key w (act w))) c.inputs (λ w below. ap secret (key_is w below)))

  abbrev act : ℕ → Bool
  act w = (active S c xs coins w).colour

  abbrev held : ℕ → List Bool → Bool
  held = held_for c (coin coins)

  is : blocks (sent S c xs coins) ≡ blocks_of tweak places c on act held
  is = sent_is act (λ w below. refl)

  law : Lawful tweak places c on act held
  law = lawful act (λ w below. refl)

  active_known : (w : ℕ) → w < wire_count c → Known S c xs coins (key w (act w))
  active_known w below = subst (λ l. Derives l (secret (key w (act w)))) (sym is) (held_known tweak places c on act held law w below)

  only_active : (k : Key) → Known S c xs coins k → (k.wire < wire_count c) × (k.colour ≡ act k.wire)
  only_active k known = only_held tweak places c on act held law k (subst (λ l. Derives l (secret k)) is known)

  pub one_key : (k : Key) → Known S c xs coins k ↔ ((k.wire < wire_count c) × (k.colour ≡ act k.wire))
  one_key k = (only_active k, λ own. subst (λ b. Known S c xs coins (key k.wire b)) (sym own.1) (active_known k.wire own.0))

  -- keys that can be derived are active, and a row's keys, where they are active, can be derived
  held_from_known : (ks : List Key) → AllByRecursion (Known S c xs coins) ks → all_held act ks ≡ true
  held_from_known [] all = refl
  held_from_known (k ∷ ks) all =
      and_from (not (k.colour ⊕ act k.wire)) (all_held act ks)
      (ap (λ b. not (b ⊕ act k.wire)) (only_active k all.0).1 ∙ ap not (xor_same (act k.wire))) (held_from_known ks all.1)

  known_from_held : (k : ℕ) → k < length c.gates → (cs : List Bool) → length cs ≡ length (gate_at c k).wires →
      all_held act (zip_with key (gate_at c k).wires cs) ≡ true → AllByRecursion (Known S c xs coins) (zip_with key (gate_at c k).wires cs)
  known_from_held k below cs len all =
      let ws = (gate_at c k).wires in
      rw (colours_held act ws cs len all, keys_held act ws)
      (All-map (Known S c xs coins) (λ w. key w (act w)) ws
      (All-weaker (λ w. w < wire_count c) (λ w. Known S c xs coins (key w (act w))) active_known ws (wires_below c fits.well_formed k below)))

  -- the key in a row that is seen open can be derived
  abbrev Got : Seen → Type 0
  Got (opened k) = Known S c xs coins k
  Got closed = Unit {0}

  row_seen : (k : ℕ) → k < length c.gates → (cs : List Bool) → length cs ≡ length (gate_at c k).wires →
      SeenAs S c xs coins (row_of tweak c k cs (held k cs)) (look act (row_of tweak c k cs (held k cs))) × Got (look act (row_of tweak c k cs (held k cs)))
  row_seen k below cs len = go (all_held act row.keys) refl
    where
      row : Row
      row = row_of tweak c k cs (held k cs)

      go : (b : Bool) → all_held act row.keys ≡ b → SeenAs S c xs coins row (cond b (opened row.holds) closed) × Got (cond b (opened row.holds) closed)
      go true all =
          let known = known_from_held k below cs len all in
          let own : held k cs ≡ act (c.inputs + k) = ap (held k) (colours_held act (gate_at c k).wires cs len all) ∙ law k below in
          (as_open known, subst (λ b. Known S c xs coins (key (c.inputs + k) b)) (sym own) (active_known (c.inputs + k) (omega arith)))
      go false some = (as_closed (λ all. true≢false (sym (held_from_known row.keys all) ∙ some)), tt)

  abbrev seen : View
  seen = view S c xs coins

  shown_known : (k : Key) → Shows S seen k → Known S c xs coins k
  shown_known k (inl m) =
      member_beside (Known S c xs coins)
      (tabulate_beside (λ j k. Known S c xs coins k) (λ w. w) (λ w. value_key S c coins w (at xs w)) c.inputs
      (λ w below. subst (Known S c xs coins) (sym (key_is act (λ w below. refl) w below)) (active_known w (omega arith)))) m
  shown_known k (inr m) =
      member_beside Got
      (rel-flatten (S.tables c coins) seen.rows
      (beside_map_map (λ r s. Got s) (look act)
      (tables_beside tweak c places (λ r q. Got (look act q)) held held (λ k below p. (row_seen k below (places k p) (complete.sized k below p)).1)))) m

  -- and each active key is seen
  gate_shown : (k : ℕ) → k < length c.gates → Memᴰ (opened (key (c.inputs + k) (act (c.inputs + k)))) (flatten seen.rows)
  gate_shown k below =
      let ws = (gate_at c k).wires in
      let open_row = looks_open act (row_of tweak c k (map act ws) (held k (map act ws))) ws refl ∙ ap (λ b. opened (key (c.inputs + k) b)) (law k below) in
      subst (λ s. Memᴰ s (flatten seen.rows)) open_row (row_there tweak places c on act held law (look act) k below (map act ws) (length-map ws act))

  active_shown : (w : ℕ) → w < wire_count c → Shows S seen (key w (act w))
  active_shown w within = go (cases_lt w c.inputs)
    where
      go : (w < c.inputs) ⊎ (c.inputs ≤ w) → Shows S seen (key w (act w))
      go (inl input) =
          inl (subst (λ k. Memᴰ k seen.keys) (key_is act (λ w below. refl) w input) (tabulate_member (λ w. value_key S c coins w (at xs w)) c.inputs w input))
      go (inr gate) =
          let k : ℕ = w - c.inputs in
          let own : c.inputs + k ≡ w = omega arith in
          inr (subst (λ v. Memᴰ (opened (key v (act v))) (flatten seen.rows)) own (gate_shown k (omega arith)))

  pub sees : Sees S c xs coins
  sees =
      record {
        rows =
            beside_map_map (SeenAs S c xs coins) (look act)
            (tables_beside tweak c places (λ r q. SeenAs S c xs coins r (look act q)) held held (λ k below p. (row_seen k below (places k p) (complete.sized k below p)).0));
        keys = λ k. (
          shown_known k,
          λ known.
              let own = only_active k known in
              subst (λ b. Shows S seen (key k.wire b)) (sym own.1) (active_shown k.wire own.0),
        );
      }
