-- What an opener (evaluator) answers to the files that it gets, and that it is the circuit's result where they come from a maker. Assumes nothing.
use Rattle.std.specs.Prelude.{◌≡◌, ℕ, ◌-◌, Bool, List, ◌++◌, map, length, take, drop, Ok}
use Rattle.circuit.specs.Circuit.{Circuit, result}
use Rattle.circuit.specs.Numbers.{bit}
use Rattle.circuit.specs.Refusals.{Answer, ◌and_then◌}
use Rattle.garble.specs.Formats.{parse_tables, parse_meanings}
use Rattle.garble.specs.Garbled.{TextHash, pad_by, Files, garbled}
use Rattle.keys.specs.Drawing.{Bytes}
use Rattle.keys.specs.Files.{keys_for, notarized}
use Rattle.scheme.specs.Opening.{evaluate_by}
use Rattle.scheme.specs.Yao.{numbered}

-- the files are looked at in this order
abbrev pub evaluated : TextHash → Circuit → (openers makers tables meanings : List ℕ) → Answer (List Bool)
evaluated h c openers makers tables meanings =
    keys_for c.opener openers and_then λ os. keys_for (c.inputs - c.opener) makers and_then λ ms. parse_tables (length c.gates) tables and_then λ ts.
    parse_meanings (length c.outputs) meanings and_then λ ds. Ok (evaluate_by numbered (pad_by h) c (os ++ ms) ts ds)

-- of whatever a maker makes from its values and drawn bytes that suffice, once the notary gave the keys of the opener's values, it is the circuit's result
abbrev pub OpensRight : TextHash → Circuit → Type 0
OpensRight h c =
    (xs : List Bool) (bytes : List ℕ) (f : Files) → length xs ≡ c.inputs → Bytes bytes → garbled h c (drop c.opener xs) bytes ≡ Ok f →
    (os : List ℕ) × (notarized f.notary (map bit (take c.opener xs)) ≡ Ok os) × (evaluated h c os f.maker f.tables f.meanings ≡ Ok (result c xs))
