-- The values of all wires: a gate's, a turn of the loop over the gates and its end, and that they are the one assignment that agrees with inputs and gates. Assumes nothing.
use Rattle.std.proofs.Common.{◌≡◌, ℕ, zero, suc, ◌+◌, ◌<◌, ◌≤◌, Bool, false, List, [], ◌∷◌, ◌++◌, length, get_or, take, drop, sym, refl, ap, ◌∙◌, append_assoc, arith}
use Rattle.std.proofs.lemmas.List.{append-nil, drop_more, drop_all, get_or_append_left, get_or_at, length-append, length_push, take_all, take-append-drop, take_at, take_more}
use Rattle.circuit.specs.Circuit.{Circuit, GoodGate, GoodGates, WellFormed, at, at_all, gate_value, extended, values, no_gate, Assignment, OneAssignment}
use Rattle.circuit.specs.Numbers.{binary}
use Rattle.circuit.specs.declared.gates.Gate.{Gate}
use Rattle.circuit.proofs.Places.{first_place, later_places}

pub two_of : (ws : List ℕ) → length ws ≡ 2 → ws ≡ get_or ws 0 0 ∷ get_or ws 1 0 ∷ []
two_of [] e = absurd (omega arith)
two_of (a ∷ []) e = absurd (omega arith)
two_of (a ∷ b ∷ []) e = refl
two_of (a ∷ b ∷ c ∷ ws) e = absurd (omega arith)

pub four_of : (bs : List Bool) → length bs ≡ 4 → bs ≡ get_or bs 0 false ∷ get_or bs 1 false ∷ get_or bs 2 false ∷ get_or bs 3 false ∷ []
four_of [] e = absurd (omega arith)
four_of (a ∷ []) e = absurd (omega arith)
four_of (a ∷ b ∷ []) e = absurd (omega arith)
four_of (a ∷ b ∷ c ∷ []) e = absurd (omega arith)
four_of (a ∷ b ∷ c ∷ d ∷ []) e = refl
four_of (a ∷ b ∷ c ∷ d ∷ x ∷ bs) e = absurd (omega arith)

pub extended_more : {whole more : List Bool} (gs : List Gate) (vs : List Bool) (i : ℕ) → i < length gs → extended (drop i gs) vs ≡ whole →
    more ≡ vs ++ (gate_value (get_or gs i no_gate) vs ∷ []) → extended (drop (i + 1) gs) more ≡ whole
unfolding extended
extended_more gs vs i below so_far e = rw e (rw (drop_more gs i no_gate below) at so_far)

pub extended_all : {whole : List Bool} (gs : List Gate) (vs : List Bool) (i : ℕ) → length gs ≤ i → extended (drop i gs) vs ≡ whole → vs ≡ whole
unfolding extended
extended_all gs vs i end so_far = rw (drop_all i gs end) at so_far

-- the wires made so far come first
grown : (gs : List Gate) (vs : List Bool) → (ws : List Bool) × (extended gs vs ≡ vs ++ ws) × (length ws ≡ length gs)
unfolding extended
grown [] vs = ([], sym (append-nil vs), refl)
grown (g ∷ gs) vs =
    let x = gate_value g vs in
    let more = grown gs (vs ++ (x ∷ [])) in
    (x ∷ more.0, more.1 ∙ append_assoc vs (x ∷ []) more.0, ap suc more.2)

-- a gate takes nothing but the wires made before it
known_enough : (g : Gate) (vs ws : List Bool) → GoodGate (length vs) g → gate_value g (vs ++ ws) ≡ gate_value g vs
known_enough g vs ws good =
    let two = two_of g.wires good.0 in
    ap (λ us. at g.gives (binary us)) (ap (at_all (vs ++ ws)) two ∙ both ∙ sym (ap (at_all vs) two))
  where
    both : at_all (vs ++ ws) (get_or g.wires 0 0 ∷ get_or g.wires 1 0 ∷ []) ≡ at_all vs (get_or g.wires 0 0 ∷ get_or g.wires 1 0 ∷ [])
    both = rw (get_or_append_left vs ws false (get_or g.wires 0 0) good.1, get_or_append_left vs ws false (get_or g.wires 1 0) good.2)

gate_agrees : (gs : List Gate) (vs : List Bool) → GoodGates (length vs) gs → (k : ℕ) → k < length gs →
    at (extended gs vs) (length vs + k) ≡ gate_value (get_or gs k no_gate) (extended gs vs)
unfolding extended
gate_agrees [] vs good k below = absurd (omega arith)
gate_agrees (g ∷ gs) vs good zero below =
    let x = gate_value g vs in
    let all = grown (g ∷ gs) vs in
    let more = grown gs (vs ++ (x ∷ [])) in
    let same : length vs + 0 ≡ length vs = omega arith in
    let here : at (extended gs (vs ++ (x ∷ []))) (length vs) ≡ x = rw (more.1, append_assoc vs (x ∷ []) more.0) (get_or_at vs x more.0 false (length vs) refl) in
    rw same (here ∙ sym (rw all.1 (known_enough g vs all.0 (first_place GoodGate (length vs) g gs no_gate good))))
gate_agrees (g ∷ gs) vs good (suc k) below =
    let x = gate_value g vs in
    let longer = length_push vs x in
    let place : length vs + suc k ≡ length (vs ++ (x ∷ [])) + k = omega (arith, longer) in
    rw place (gate_agrees gs (vs ++ (x ∷ [])) (later_places GoodGate (length vs) g gs no_gate good (length (vs ++ (x ∷ []))) longer) k (omega arith))

only_values : (gs : List Gate) (known vs : List Bool) → GoodGates (length known) gs → length vs ≡ length known + length gs → take (length known) vs ≡ known →
    ((k : ℕ) → k < length gs → at vs (length known + k) ≡ gate_value (get_or gs k no_gate) vs) → vs ≡ extended gs known
unfolding extended
only_values [] known vs good all start agrees = sym (take_all (length known) vs (omega arith)) ∙ start
only_values (g ∷ gs) known vs good all start agrees =
    let n = length known in
    let x = gate_value g known in
    let longer = length_push known x in
    let split : vs ≡ known ++ drop n vs = sym (take-append-drop n vs) ∙ rw start in
    let same : n + 0 ≡ n = omega arith in
    let here : at vs n ≡ x = (rw same at (agrees 0 (omega arith))) ∙ ap (gate_value g) split ∙ known_enough g known (drop n vs) (first_place GoodGate n g gs no_gate good) in
    let further : take (length (known ++ (x ∷ []))) vs ≡ known ++ (x ∷ []) = rw longer (take_more vs n false (omega arith) ∙ rw (start, here)) in
    only_values gs (known ++ (x ∷ [])) vs (later_places GoodGate n g gs no_gate good (length (known ++ (x ∷ []))) longer) (omega (arith, longer)) further
    (λ k below. let place : length (known ++ (x ∷ [])) + k ≡ n + suc k = omega (arith, longer) in rw place (agrees (suc k) (omega arith)))

pub assigned : (c : Circuit) (xs : List Bool) → WellFormed c → length xs ≡ c.inputs → Assignment c xs (values c xs)
assigned c xs good len =
    let all = grown c.gates xs in
    record {
      size = rw all.1 (length-append xs all.0 ∙ rw (all.2, len));
      inputs = rw (← len, all.1) (take_at xs all.0 (length xs) refl);
      gates = λ k below. rw (← len) (gate_agrees c.gates xs (rw len good.4) k below);
    }

only_assignment : (c : Circuit) (xs vs : List Bool) → WellFormed c → length xs ≡ c.inputs → Assignment c xs vs → vs ≡ values c xs
only_assignment c xs vs good len is =
    only_values c.gates xs vs (rw len good.4) (rw len is.size) (rw len is.inputs) (λ k below. rw len (is.gates k below))

pub one_assignment : (c : Circuit) (xs : List Bool) → WellFormed c → length xs ≡ c.inputs → OneAssignment c xs (values c xs)
one_assignment c xs good len = record { agrees = assigned c xs good len; alone = λ us. only_assignment c xs us good len }
