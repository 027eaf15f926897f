-- A sheet's bytes: what writes them, and what is read from any bytes, refusals included. Assumes nothing.
use Rattle.std.specs.Prelude.{ℕ, zero, suc, ◌+◌, ◌&&◌, List, [], ◌∷◌, ◌++◌, length, Ok, ◌==◌, nat_le, nat_lt}
use Rattle.std.specs.List.{flat_map}
use Rattle.std.specs.Option.{ok_or}
use Rattle.circuit.specs.Circuit.{Circuit, most_inputs, most_gates, most_outputs}
use Rattle.circuit.specs.Numbers.{digits, binary, bits, front}
use Rattle.circuit.specs.Refusals.{Answer, number_of, require, ◌and_then◌}
use Rattle.circuit.specs.declared.gates.Gate.{Gate}
use Rattle.circuit.specs.declared.reading.Head.{Head}
use Rattle.circuit.specs.declared.refusals.Refusal.TheVariants.{Malformed, Count, NotMade, Table}

-- Writing: numbers stand high byte first
abbrev pub gate_bytes : Gate → List ℕ
gate_bytes g = flat_map (digits 256 4) g.wires ++ (binary g.gives ∷ [])

-- what follows the kind
abbrev pub body : Circuit → List ℕ
body c =
    digits 256 2 c.inputs ++ (digits 256 2 c.opener ++ (digits 256 4 (length c.gates) ++ (flat_map gate_bytes c.gates
    ++ (digits 256 2 (length c.outputs) ++ flat_map (digits 256 4) c.outputs))))

abbrev pub encode : Circuit → List ℕ
encode c = 1 ∷ body c

-- Reading: a part is a value and what is left
abbrev pub Part : Type 0 → Type 0
Part X = Answer (X × List ℕ)

-- a number of n bytes
abbrev pub field : ℕ → List ℕ → Part ℕ
field n xs = ok_or (front n xs) (number_of Malformed)

-- a number of n bytes that is in its range
abbrev pub count : ℕ → ℕ → List ℕ → Part ℕ
count n most xs = field n xs and_then λ p. require (nat_le p.0 most) Count (Ok p)

-- the number of a wire made already
abbrev pub wire : ℕ → List ℕ → Part ℕ
wire made xs = field 4 xs and_then λ p. require (nat_lt p.0 made) NotMade (Ok p)

abbrev pub gate_of : ℕ → ℕ → ℕ → Gate
gate_of left right gives = record { wires = left ∷ right ∷ []; gives = bits 4 gives }

-- a gate is read whole, and of its faults the lowest number wins
abbrev pub checked : ℕ → ℕ → ℕ → ℕ → List ℕ → Part Gate
checked made left right gives rest = require (nat_lt left made && nat_lt right made) NotMade (require (nat_le gives 15) Table (Ok (gate_of left right gives, rest)))

abbrev pub gate : ℕ → List ℕ → Part Gate
gate made xs = field 4 xs and_then λ l. field 4 l.1 and_then λ r. field 1 r.1 and_then λ t. checked made l.0 r.0 t.0 t.1

-- n parts one after the other, the first of them number k
unfoldable pub many : {X : Type 0} → (ℕ → List ℕ → Part X) → ℕ → ℕ → List ℕ → Part (List X)
many one zero k xs = Ok ([], xs)
many one (suc n) k xs = one k xs and_then λ p. many one n (k + 1) p.1 and_then λ q. Ok (p.0 ∷ q.0, q.1)

abbrev pub kind : ℕ → List ℕ → Answer (List ℕ)
kind k xs = field 1 xs and_then λ p. require (p.0 == k) Malformed (Ok p.1)

-- the kind and the counts before the gates
abbrev pub head : List ℕ → Part Head
head xs =
    kind 1 xs and_then λ ys. count 2 most_inputs ys and_then λ n. count 2 n.0 n.1 and_then λ o. count 4 most_gates o.1 and_then λ g.
    Ok (record { inputs = n.0; opener = o.0; gates = g.0 }, g.1)

abbrev pub outputs : ℕ → List ℕ → Part (List ℕ)
outputs made xs = count 2 most_outputs xs and_then λ n. many (λ _. wire made) n.0 0 n.1

-- nothing is left over
abbrev pub ended : {X : Type 0} → X × List ℕ → Answer X
ended p = require (length p.1 == 0) Malformed (Ok p.0)

abbrev pub assembled : Head → List Gate → List ℕ → Circuit
assembled h gs ws = record { inputs = h.inputs; opener = h.opener; gates = gs; outputs = ws }

-- a circuit from its bytes, or the number of the first fault
abbrev pub parse : List ℕ → Answer Circuit
parse xs =
    head xs and_then λ h. many gate h.0.gates h.0.inputs h.1 and_then λ g. outputs (h.0.inputs + h.0.gates) g.1 and_then λ o.
    ended (assembled h.0 g.0 o.0, o.1)
