-- What is written is read back: for each part, for many parts, for the whole. Assumes nothing.
use Rattle.std.proofs.Common.{◌≡◌, ℕ, suc, ◌+◌, ◌^◌, ◌<◌, ◌≤◌, Bool, cond, ltb, leb, List, [], ◌∷◌, ◌++◌, length, get_or, Ok, sym, refl, ap, ◌∙◌, append_assoc, arith}
use Rattle.std.specs.List.{flat_map}
use Rattle.std.proofs.lemmas.List.{take_at, drop_at, append-nil, length-append}
use Rattle.std.proofs.lemmas.Bool.{le-leb, lt-ltb}
use Rattle.circuit.specs.Numbers.{digits, bits, binary}
use Rattle.circuit.specs.Circuit.{Circuit, GoodGate, WellFormed, no_gate, most_inputs, most_gates, most_outputs}
use Rattle.circuit.specs.Format.{Part, field, count, wire, gate, checked, gate_bytes, many, kind, head, encode, parse}
use Rattle.circuit.specs.Refusals.{refuse}
use Rattle.circuit.specs.declared.gates.Gate.{Gate}
use Rattle.circuit.specs.declared.reading.Head.{Head}
use Rattle.circuit.specs.declared.refusals.Refusal.TheVariants.{Count, NotMade}
use Rattle.circuit.proofs.AndThen.{then_is}
use Rattle.circuit.proofs.Places.{first_place, later_places}
use Rattle.circuit.proofs.Values.{two_of}
use Rattle.circuit.proofs.Numbers.{one_byte, length_digits, number_digits, bits_binary, binary_lt}

field_back : (n x : ℕ) (rest : List ℕ) → x < 256 ^ n → field n (digits 256 n x ++ rest) ≡ Ok (x, rest)
field_back n x rest small =
    let len = length_digits 256 n x in
    let long : n ≤ length (digits 256 n x ++ rest) = omega (arith, length-append (digits 256 n x) rest) in
    rw (le-leb n (length (digits 256 n x ++ rest)) long, take_at (digits 256 n x) rest n len, drop_at (digits 256 n x) rest n len, number_digits 256 n x (omega arith) small)

count_back : (n most x : ℕ) (rest : List ℕ) → x < 256 ^ n → x ≤ most → count n most (digits 256 n x ++ rest) ≡ Ok (x, rest)
count_back n most x rest small within = then_is (λ p. cond (leb p.0 most) (Ok p) (refuse Count)) (field_back n x rest small) ∙ rw (le-leb x most within)

wire_back : (made x : ℕ) (rest : List ℕ) → made ≤ 256 ^ 4 → x < made → wire made (digits 256 4 x ++ rest) ≡ Ok (x, rest)
wire_back made x rest fits below = then_is (λ p. cond (ltb p.0 made) (Ok p) (refuse NotMade)) (field_back 4 x rest (omega arith)) ∙ rw (lt-ltb x made below)

table_small : (ts : List Bool) → length ts ≡ 4 → binary ts ≤ 15
table_small ts four = let small : binary ts < 2 ^ 4 = rw four at (binary_lt ts) in omega arith

checked_back : (made : ℕ) (g : Gate) (rest : List ℕ) → GoodGate made g → checked made (get_or g.wires 0 0) (get_or g.wires 1 0) (binary g.gives) rest ≡ Ok (g, rest)
checked_back made g rest good =
    let wires : get_or g.wires 0 0 ∷ get_or g.wires 1 0 ∷ [] ≡ g.wires = sym (two_of g.wires good.0) in
    let table : bits 4 (binary g.gives) ≡ g.gives = bits_binary 4 g.gives good.3 in
    rw (lt-ltb (get_or g.wires 0 0) made good.1, lt-ltb (get_or g.wires 1 0) made good.2, le-leb (binary g.gives) 15 (table_small g.gives good.3), table, wires)

gate_back : (made : ℕ) (g : Gate) (rest : List ℕ) → made ≤ 256 ^ 4 → GoodGate made g → gate made (gate_bytes g ++ rest) ≡ Ok (g, rest)
gate_back made g rest fits good =
    let l = get_or g.wires 0 0 in
    let r = get_or g.wires 1 0 in
    let t = binary g.gives in
    let small : t < 256 = (let s = table_small g.gives good.3 in omega arith) in
    let bytes : gate_bytes g ++ rest ≡ digits 256 4 l ++ (digits 256 4 r ++ (digits 256 1 t ++ rest)) =
    (let wires : flat_map (digits 256 4) g.wires ≡ digits 256 4 l ++ (digits 256 4 r ++ []) = ap (flat_map (digits 256 4)) (two_of g.wires good.0) in
    let one = one_byte t small in
    rw (wires, one) (simp (append_assoc, append-nil))) in
    ap (gate made) bytes ∙ then_is _ (field_back 4 l (digits 256 4 r ++ (digits 256 1 t ++ rest)) (omega (arith, good.1)))
    ∙ then_is _ (field_back 4 r (digits 256 1 t ++ rest) (omega (arith, good.2))) ∙ then_is _ (field_back 1 t rest small) ∙ checked_back made g rest good

module _ {X : Type 0} (one : ℕ → List ℕ → Part X) (write : X → List ℕ) (Good : ℕ → X → Type 0) (most : ℕ) (d : X)
    (step : (k : ℕ) (x : X) (rest : List ℕ) → k < most → Good k x → one k (write x ++ rest) ≡ Ok (x, rest)) where
  many_back : (xs : List X) (k : ℕ) (rest : List ℕ) → k + length xs ≤ most → ((j : ℕ) → j < length xs → Good (k + j) (get_or xs j d)) →
      many one (length xs) k (flat_map write xs ++ rest) ≡ Ok (xs, rest)
  unfolding many
  many_back [] k rest room good = refl
  many_back (x ∷ xs) k rest room good =
      rw (append_assoc (write x) (flat_map write xs) rest, step k x (flat_map write xs ++ rest) (omega arith) (first_place Good k x xs d good))
      (then_is _ (many_back xs (k + 1) rest (omega arith) (later_places Good k x xs d good (k + 1) refl)))

kind_back : (rest : List ℕ) → kind 1 (1 ∷ rest) ≡ Ok rest
kind_back rest = rw (le-leb 1 (suc (length rest)) (omega arith))

head_back : (h : Head) (rest : List ℕ) → h.inputs ≤ most_inputs → h.opener ≤ h.inputs → h.gates ≤ most_gates →
    head (1 ∷ (digits 256 2 h.inputs ++ (digits 256 2 h.opener ++ (digits 256 4 h.gates ++ rest)))) ≡ Ok (h, rest)
head_back h rest few within most =
    then_is _ (kind_back (digits 256 2 h.inputs ++ (digits 256 2 h.opener ++ (digits 256 4 h.gates ++ rest))))
    ∙ then_is _ (count_back 2 most_inputs h.inputs (digits 256 2 h.opener ++ (digits 256 4 h.gates ++ rest)) (omega arith) few)
    ∙ then_is _ (count_back 2 h.inputs h.opener (digits 256 4 h.gates ++ rest) (omega arith) within)
    ∙ then_is _ (count_back 4 most_gates h.gates rest (omega arith) most)

pub read_back : (c : Circuit) → WellFormed c → parse (encode c) ≡ Ok c
read_back c good =
    let h : Head = record { inputs = c.inputs; opener = c.opener; gates = length c.gates } in
    let made = c.inputs + length c.gates in
    let gates_room : c.inputs + length c.gates ≤ 256 ^ 4 = (let a = good.0 in let b = good.2 in omega arith) in
    let outputs_room : 0 + length c.outputs ≤ 256 ^ 4 = (let a = good.3 in omega arith) in
    let tail = digits 256 2 (length c.outputs) ++ flat_map (digits 256 4) c.outputs in
    let wires_back : many (λ _. wire made) (length c.outputs) 0 (flat_map (digits 256 4) c.outputs) ≡ Ok (c.outputs, []) =
    ap (many (λ _. wire made) (length c.outputs) 0) (sym (append-nil (flat_map (digits 256 4) c.outputs)))
    ∙ many_back (λ _. wire made) (digits 256 4) (λ _ w. w < made) (256 ^ 4) 0 (λ _ x rest _ below. wire_back made x rest gates_room below) c.outputs 0 [] outputs_room good.5 in
    then_is _ (head_back h (flat_map gate_bytes c.gates ++ tail) good.0 good.1 good.2)
    ∙ then_is _ (many_back gate gate_bytes GoodGate (256 ^ 4) no_gate (λ k g rest room fine. gate_back k g rest (omega arith) fine) c.gates c.inputs tail gates_room good.4)
    ∙ then_is _
    (then_is _ (count_back 2 most_outputs (length c.outputs) (flat_map (digits 256 4) c.outputs) (let a = good.3 in omega arith) good.3) ∙ wires_back)
