-- All that an opener receives: by what the programs compute, and by the terms that the scheme sends. Assumes nothing.
use Rattle.std.specs.Prelude.{ℕ, Bool, List, map, take, drop, Ok}
use Rattle.circuit.specs.Circuit.{Circuit}
use Rattle.circuit.specs.Numbers.{bit}
use Rattle.circuit.specs.Refusals.{Answer, ◌and_then◌}
use Rattle.garble.specs.Formats.{tables_file, meanings_file}
use Rattle.garble.specs.Garbled.{TextHash, garbled}
use Rattle.keys.specs.Files.{keys_file, notarized}
use Rattle.scheme.specs.Bytes.{Drawn, value}
use Rattle.scheme.specs.Garbling.{Key, Transcript}

-- the four files, as bytes
pub record Received : Type 0 where
  pub openers : List ℕ
  pub makers : List ℕ
  pub tables : List ℕ
  pub meanings : List ℕ

-- the maker garbles with its values and drawn bytes, and the notary is told the opener's; among the inputs the opener's come first
abbrev pub received : TextHash → Circuit → List Bool → List ℕ → Answer Received
received h c xs bytes =
    garbled h c (drop c.opener xs) bytes and_then λ f. notarized f.notary (map bit (take c.opener xs)) and_then λ os.
    Ok (record { openers = os; makers = f.maker; tables = f.tables; meanings = f.meanings })

-- a transcript of terms, each term as its bytes, in the same places
abbrev pub as_files : Circuit → Drawn Key → Transcript Key → Received
as_files c d t =
    record {
      openers = keys_file (take c.opener (map (λ k. value d k) t.keys));
      makers = keys_file (drop c.opener (map (λ k. value d k) t.keys));
      tables = tables_file 0 (map (map (λ r. value d r)) t.tables);
      meanings = meanings_file t.meanings;
    }
