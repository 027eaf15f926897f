-- The schemes that come near break their promises. Assumes nothing.
use Rattle.std.proofs.Common.{◌≡◌, ℕ, zero, suc, ◌+◌, ◌<◌, Bool, true, false, not, ◌&&◌, eqb, List, [], ◌∷◌, map, length, get_or, sym, refl, ap, ◌∙◌, subst, inl, inr, arith}
use mathlib.Core.List.{zip_with, flatten}
use Rattle.std.specs.List.{range_with_len}
use Rattle.std.proofs.lemmas.List.FromFn.{get_or-map-range_with_len}
use Rattle.std.proofs.lemmas.List.{length-map, map-append, get_or-append-add}
use Rattle.std.proofs.lemmas.Bool.{true≢false}
use Rattle.circuit.specs.Circuit.{Circuit, WellFormed, GoodGates, Below, at, at_all, extended, values, result}
use Rattle.circuit.specs.Numbers.{binary, bits, digits}
use Rattle.circuit.proofs.Numbers.{bits_binary, binary_lt}
use Rattle.circuit.proofs.Values.{four_of}
use Rattle.scheme.specs.Bytes.{value}
use Rattle.scheme.specs.Coins.{◌⊕◌, colour}
use Rattle.scheme.specs.Examples.{conjunction}
use Rattle.scheme.specs.Garbling.{Key, key, Scheme, blocks, Seen, opened, closed, View, seen_at, look, meanings, sent, active, view}
use Rattle.scheme.specs.NearMisses.{without_coins, by_value, rows_by_value, unnumbered, without_numbers, with_inner, with_inner_meanings, two_gates, overlaid, same_wires, NearMisses}
use Rattle.scheme.specs.Opening.{open_gates}
use Rattle.scheme.specs.Promises.{Fits, Right, OneKey, Shows, SeenByDerivation, HidesInputs, Matched}
use Rattle.scheme.specs.Terms.{block, Term, secret, public, xor, pad, tweak, ◌then◌, same, flip, chain, regroup, swap, unit, in_xor, ◌≈◌, substitute, run, StaticallyEquivalent}
use Rattle.scheme.specs.Yao.{gate_at, turned, row_of, held_for, by_colour, numbered, outputs_only}
use Rattle.scheme.proofs.Bare.{bare_keys, bare_coloured, apart}
use Rattle.scheme.proofs.Colours.{xor_back, xor_false, same_from_xor}
use Rattle.scheme.proofs.Derived.{off}
use Rattle.scheme.proofs.Layouts.{by_colour_complete, by_value_complete, one_gate}
use Rattle.scheme.proofs.Lists.{conses, all_mem}
use Rattle.scheme.proofs.Opens.{right, outputs_right}
use Rattle.scheme.proofs.Rows.{turned_values, active_row, looks_open}
use Rattle.scheme.proofs.Schemes.{one_key_of, one_key_numbered, seen_by_derivation}
use Rattle.scheme.proofs.Tables.{row_entry}

conjunction_formed : WellFormed conjunction
unfolding digits
conjunction_formed = (omega arith, omega arith, omega arith, omega arith, gates, outputs)
  where
    gates : GoodGates 2 conjunction.gates
    gates zero below = (refl, omega arith, omega arith, refl)
    gates (suc k) below = absurd (omega arith)

    outputs : Below 3 conjunction.outputs
    outputs zero below = omega arith
    outputs (suc k) below = absurd (omega arith)

two_gates_formed : WellFormed two_gates
unfolding digits
two_gates_formed = (omega arith, omega arith, omega arith, omega arith, gates, outputs)
  where
    gates : GoodGates 1 two_gates.gates
    gates zero below = (refl, omega arith, omega arith, refl)
    gates (suc zero) below = (refl, omega arith, omega arith, refl)
    gates (suc (suc k)) below = absurd (omega arith)

    outputs : Below 3 two_gates.outputs
    outputs zero below = omega arith
    outputs (suc k) below = absurd (omega arith)

-- inputs 1 0 and 0 1 have one result
one_result : result conjunction (true ∷ false ∷ []) ≡ result conjunction (false ∷ true ∷ [])
unfolding extended digits
one_result = refl

matched : (S : Scheme Key) → HidesInputs S → Matched S conjunction (true ∷ false ∷ []) (false ∷ true ∷ [])
matched S hides = grind (arith, conjunction_formed, one_result)

-- without coins the first key shows it
misses_without_coins : HidesInputs without_coins → ⊥
unfolding substitute value bare_keys zip_with digits
misses_without_coins hides =
    let one = secret (key 0 true) in
    let nought = secret (key 0 false) in
    let come = (((matched without_coins hides).alike (false ∷ false ∷ false ∷ []) refl).keys (secret 0) (key 0 true ∷ []) 0).0 (flip (unit one)) in
    apart nought (xor one (public 0)) (λ e. omega arith) come

-- in the order of values colours do not name rows
by_value_wrong : Right rows_by_value → ⊥
unfolding extended zip_with digits value bare_keys open_gates
by_value_wrong right =
    let fits : Fits rows_by_value conjunction (true ∷ true ∷ []) (true ∷ true ∷ false ∷ []) = record { well_formed = conjunction_formed; inputs = refl; drawn = refl } in
    true≢false (sym (ap (λ bs. at bs 0) (right conjunction (true ∷ true ∷ []) (true ∷ true ∷ false ∷ []) fits bare_keys
    (bare_coloured at by_value numbered outputs_only conjunction (true ∷ true ∷ false ∷ [])))))

-- the row that opens stands at the place of the values,
place_tells : (c : Circuit) (xs coins : List Bool) → Fits rows_by_value c xs coins → (k : ℕ) → k < length c.gates → (s : Seen) →
    seen_at (view rows_by_value c xs coins) k (binary (at_all (values c xs) (gate_at c k).wires)) s ≡ opened (active rows_by_value c xs coins (c.inputs + k))
place_tells c xs coins fits k below s =
    let ws = (gate_at c k).wires in
    let vs = at_all (values c xs) ws in
    let held : ℕ → Bool = λ w. (active rows_by_value c xs coins w).colour in
    let sized : length vs ≡ length ws = length-map ws (at (values c xs)) in
    let colours : by_value (at coins) (gate_at c k) (binary vs) ≡ map held ws = ap (turned (at coins) ws) (bits_binary (length ws) vs sized) ∙ turned_values (at coins) (values c xs) ws in
    row_entry numbered c (λ k. by_value (at coins) (gate_at c k)) (look held) (held_for c (at coins)) k (binary vs) s below (rw sized at (binary_lt vs))
    ∙ ap (λ cs. look held (row_of numbered c k cs (held_for c (at coins) k cs))) colours
    ∙ looks_open held (row_of numbered c k (map held ws) (held_for c (at coins) k (map held ws))) ws refl
    ∙ ap (λ b. opened (key (c.inputs + k) b)) (active_row c fits.well_formed xs fits.inputs (at coins) k below)

-- which shows them
second_closed : seen_at (view rows_by_value conjunction (true ∷ false ∷ []) (false ∷ false ∷ false ∷ [])) 0 1 closed ≡ closed
unfolding extended zip_with digits
second_closed = refl

not_both : {k : Key} → closed ≡ opened k → ⊥
not_both e = cc

misses_rows_by_value : HidesInputs rows_by_value → ⊥
unfolding extended digits
misses_rows_by_value hides =
    let m = matched rows_by_value hides in
    let none : List Bool = false ∷ false ∷ false ∷ [] in
    let coins = m.there none in
    let fits : Fits rows_by_value conjunction (false ∷ true ∷ []) coins =
    record { well_formed = conjunction_formed; inputs = refl; drawn = m.one_to_one.there_fits none refl } in
    not_both (sym second_closed ∙ ap (λ v. seen_at v 0 1 closed) (m.alike none refl).view ∙ place_tells conjunction (false ∷ true ∷ []) coins fits 0 (omega arith) closed)

-- with inner meanings the key in an open row shows it
one_zero : result two_gates (true ∷ []) ≡ result two_gates (false ∷ [])
unfolding extended digits
one_zero = refl

last : View → Seen
last v = seen_at v 0 3 closed

last_of_one : last (view with_inner_meanings two_gates (true ∷ []) (false ∷ false ∷ false ∷ [])) ≡ opened (key 1 true)
unfolding extended zip_with digits last
last_of_one = refl

-- where the input's coin is 1 that row opens for input 0
last_of_zero : (coins : List Bool) → at coins 0 ≡ true → last (view with_inner_meanings two_gates (false ∷ []) coins) ≡ opened (key 1 (at coins 1 ⊕ false))
unfolding extended zip_with digits last
last_of_zero coins is = rw is

seen_colour : Seen → Bool
seen_colour (opened k) = k.colour
seen_colour closed = false

misses_with_inner_meanings : HidesInputs with_inner_meanings → ⊥
unfolding seen_colour
misses_with_inner_meanings hides =
    let m = hides two_gates (true ∷ []) (false ∷ []) two_gates_formed refl refl one_zero in
    let none : List Bool = false ∷ false ∷ false ∷ [] in
    let seen = (m.alike none refl).view in
    let coins = m.there none in
    let input : true ≡ at coins 0 ⊕ false = ap (λ (v : View). (get_or v.keys 0 (key 0 false)).colour) seen in
    let meaning : false ≡ at coins 1 = ap (λ ms. at ms 1) (m.alike none refl).meanings in
    let row = sym last_of_one ∙ ap last seen ∙ last_of_zero coins (sym (xor_false (at coins 0)) ∙ sym input) in
    true≢false (ap seen_colour row ∙ ap (λ b. b ⊕ false) (sym meaning))

meanings_tell : (c : Circuit) (xs coins : List Bool) (k : ℕ) → k < length c.gates →
    colour (at (meanings with_inner_meanings c coins) (length c.outputs + k)) (active with_inner_meanings c xs coins (c.inputs + k)).colour ≡ at (values c xs) (c.inputs + k)
meanings_tell c xs coins k below = grind (arith, map-append, length-map, get_or-append-add, get_or-map-range_with_len, xor_back)

-- without gate numbers two rows have one pad, and laid over each other they are rid of it
overlay : {A : Type 0} (t u p q : Term A block) → xor (xor t p) (xor (xor u p) (xor (xor u q) q)) ≈ t
overlay t u p q = chain (in_xor same (chain (in_xor (swap u p) (off u q)) (off p u))) (off t p)

overlay_tells : run (blocks (sent without_numbers two_gates (bits 1 1) (bits 3 0b000))) overlaid ≈ secret (key 1 false)
unfolding substitute flatten zip_with digits
overlay_tells = grind (arith, overlay)

misses_without_numbers : OneKey without_numbers → ⊥
unfolding extended digits
misses_without_numbers one =
    let fits : Fits without_numbers two_gates (true ∷ []) (false ∷ false ∷ false ∷ []) = record { well_formed = two_gates_formed; inputs = refl; drawn = refl } in
    true≢false (sym ((one two_gates (true ∷ []) (false ∷ false ∷ false ∷ []) fits (key 1 false)).0 (overlaid, overlay_tells)).1)

-- what is derived is not all seen
is_it : Key → Bool
is_it k = eqb k.wire 1 && not k.colour

is_it_in : Seen → Bool
is_it_in (opened k) = is_it k
is_it_in closed = false

numbers_unseen : SeenByDerivation without_numbers → ⊥
unfolding extended flatten zip_with digits is_it is_it_in
numbers_unseen sees =
    let fits : Fits without_numbers two_gates (true ∷ []) (false ∷ false ∷ false ∷ []) = record { well_formed = two_gates_formed; inputs = refl; drawn = refl } in
    go (((sees two_gates (true ∷ []) (false ∷ false ∷ false ∷ []) fits).keys (key 1 false)).1 (overlaid, overlay_tells))
  where
    go : Shows without_numbers (view without_numbers two_gates (true ∷ []) (false ∷ false ∷ false ∷ [])) (key 1 false) → ⊥
    go (inl m) = true≢false (all_mem (λ k. is_it k ≡ false) (refl, tt) m)
    go (inr m) = true≢false (all_mem (λ s. is_it_in s ≡ false) (refl, (refl, (refl, (refl, (refl, (refl, (refl, (refl, tt)))))))) m)

-- and rows with one pad are tested against each other
same_wires_formed : WellFormed same_wires
unfolding digits
same_wires_formed = (omega arith, omega arith, omega arith, omega arith, gates, outputs)
  where
    gates : GoodGates 2 same_wires.gates
    gates zero below = (refl, omega arith, omega arith, refl)
    gates (suc zero) below = (refl, omega arith, omega arith, refl)
    gates (suc (suc k)) below = absurd (omega arith)

    outputs : Below 4 same_wires.outputs
    outputs zero below = omega arith
    outputs (suc zero) below = omega arith
    outputs (suc (suc k)) below = absurd (omega arith)

-- what is added to both is gone
both : {A : Type 0} (t u p : Term A block) → xor (xor t p) (xor u p) ≈ xor t u
both t u p = chain (in_xor same (swap u p)) (chain (flip (regroup (xor t p) p u)) (in_xor (off t p) same))

test_tells : StaticallyEquivalent (blocks (sent without_numbers same_wires (bits 2 0b10) (bits 4 0b0000))) (blocks (sent without_numbers same_wires (bits 2 0b01) (bits 4 0b1100))) → ⊥
unfolding substitute flatten zip_with digits value bare_keys
test_tells equivalent =
    let first : Term Key block = pad (secret (key 0 false) then secret (key 1 false) then tweak (0 ∷ [])) in
    let second : Term Key block = pad (secret (key 0 false) then secret (key 1 true) then tweak (1 ∷ [])) in
    let zero : Term Key block = secret (key 2 false) in
    let one : Term Key block = secret (key 2 true) in
    let none : Term Key block = secret (key 3 false) in
    apart (xor (xor one first) (xor none first)) (xor (xor zero second) (xor none second)) (λ e. omega arith)
    ((equivalent.tests (xor (secret 2) (secret 6)) (xor (secret 3) (secret 7))).0 (chain (both zero none first) (flip (both zero none second))))

same_seen : view without_numbers same_wires (bits 2 0b10) (bits 4 0b0000) ≡ view without_numbers same_wires (bits 2 0b01) (bits 4 0b1100)
unfolding extended zip_with digits
same_seen = refl

same_zero : result same_wires (bits 2 0b10) ≡ result same_wires (bits 2 0b01)
unfolding extended digits
same_zero = refl

-- the coins that show the same are those
same_coins : (ds : List Bool) → length ds ≡ 4 → view without_numbers same_wires (bits 2 0b10) (bits 4 0b0000) ≡ view without_numbers same_wires (bits 2 0b01) ds → ds ≡ bits 4 0b1100
unfolding digits
same_coins ds len seen = grind (arith, four_of, conses, xor_false, same_from_xor)

numbers_hide_not : HidesInputs without_numbers → ⊥
unfolding digits
numbers_hide_not hides =
    let m = hides same_wires (bits 2 0b10) (bits 2 0b01) same_wires_formed refl refl same_zero in
    let none : List Bool = bits 4 0b0000 in
    let like = m.alike none refl in
    let is = same_coins (m.there none) (m.one_to_one.there_fits none refl) like.view in
    test_tells (subst (λ ds. StaticallyEquivalent (blocks (sent without_numbers same_wires (bits 2 0b10) none)) (blocks (sent without_numbers same_wires (bits 2 0b01) ds))) is like.transcripts)

pub near_misses : NearMisses
near_misses =
    let none : List Bool → ℕ → Bool = λ coins w. false in
    record {
      misses_without_coins = misses_without_coins;
      misses_rows_by_value = (by_value_wrong, misses_rows_by_value);
      misses_without_numbers = (misses_without_numbers, numbers_unseen, numbers_hide_not);
      misses_with_inner_meanings = misses_with_inner_meanings;
      colour_tells = λ c xs coins w. refl;
      place_tells = place_tells;
      overlay_tells = overlay_tells;
      one_gate = λ c few. one_key_of at by_colour outputs_only by_colour_complete unnumbered c (one_gate c few);
      test_tells = test_tells;
      same_seen = same_seen;
      meanings_tell = meanings_tell;
      right_too = (outputs_right none numbered, outputs_right at unnumbered, right at numbered (λ c. range_with_len c.inputs (length c.gates)));
      one_key_too = (one_key_numbered none by_colour outputs_only by_colour_complete, one_key_numbered at by_value outputs_only by_value_complete, one_key_numbered at by_colour with_inner by_colour_complete);
      seen_too = (seen_by_derivation none by_colour outputs_only by_colour_complete, seen_by_derivation at by_value outputs_only by_value_complete, seen_by_derivation at by_colour with_inner by_colour_complete);
    }
