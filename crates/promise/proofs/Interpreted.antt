-- What is received is what the scheme sends, as bytes. Assumes nothing.
use Rattle.std.proofs.Common.{◌≡◌, ℕ, Bool, false, List, map, length, take, drop, Ok, sym, ap, ◌∙◌, ap₂, arith}
use Rattle.std.proofs.lemmas.List.{get_or-take, length-take-le}
use Rattle.circuit.specs.Circuit.{Circuit, WellFormed, wire_count, at}
use Rattle.circuit.specs.Numbers.{bit}
use Rattle.circuit.specs.Refusals.{◌and_then◌}
use Rattle.circuit.proofs.AndThen.{then_is}
use Rattle.evaluate.proofs.Sent.{notarized_is, garbled_is, tables_are, openers_are, makers_are}
use Rattle.garble.specs.Formats.{tables_file, meanings_file}
use Rattle.garble.specs.Garbled.{TextHash, files_of, key_for, maker_keys, closed_tables}
use Rattle.garble.specs.Interpretation.{BlockHash, interpretation}
use Rattle.keys.specs.Drawing.{Bytes, drawn, stem, key_of, coins_of}
use Rattle.keys.specs.Files.{keys_file, notarized}
use Rattle.keys.specs.declared.wires.WireKeys.{WireKeys}
use Rattle.keys.proofs.Draws.{draws_lawful}
use Rattle.scheme.specs.Bytes.{Block, value}
use Rattle.scheme.specs.Garbling.{Key, tabulate, meanings, sent}
use Rattle.scheme.specs.Yao.{yao}
use Rattle.scheme.proofs.Lists.{equal_tabulate}
use Rattle.promise.specs.Received.{Received, received, as_files}
use Rattle.promise.specs.Promise.{Interprets}
use Rattle.promise.proofs.RowTexts.{texts_apart}

-- files from lists of keys
abbrev pub filed : (openers makers : List (List ℕ)) → (tables : List (List (List ℕ))) → List Bool → Received
filed openers makers tables ms = record { openers = keys_file openers; makers = keys_file makers; tables = tables_file 0 tables; meanings = meanings_file ms }

module _ (c : Circuit) (good : WellFormed c) (xs : List Bool) (fit : length xs ≡ c.inputs) (bytes : List ℕ) (ws : List WireKeys) (is : drawn (wire_count c) bytes ≡ Ok ws)
    (keyed : (k : Key) → Block (key_of ws k)) (h : TextHash) where
  pub received_is : received h c xs bytes
      ≡ Ok (filed (tabulate c.opener (λ w. key_for c ws w (at xs w))) (maker_keys c ws (drop c.opener xs)) (closed_tables c ws h) (meanings yao c (coins_of ws)))
  received_is =
      let own = take c.opener xs in
      let f = files_of c ws h (drop c.opener xs) in
      then_is (λ f. notarized f.notary (map bit own) and_then λ os. Ok (record { openers = os; makers = f.maker; tables = f.tables; meanings = f.meanings }))
      (garbled_is h c xs bytes ws fit is)
      ∙ then_is (λ os. Ok (record { openers = os; makers = f.maker; tables = f.tables; meanings = f.meanings }))
      (notarized_is c good ws keyed own (length-take-le c.opener xs (omega (arith, good.1))))
      ∙ ap (λ ks. Ok (filed ks (maker_keys c ws (drop c.opener xs)) (closed_tables c ws h) (meanings yao c (coins_of ws))))
      (equal_tabulate (λ w. key_for c ws w (at own w)) (λ w. key_for c ws w (at xs w)) c.opener (λ w below.
      ap (key_for c ws w) (get_or-take c.opener xs w false below)))

  pub received_terms : (hashed : BlockHash h) → received h c xs bytes ≡ Ok (as_files c (interpretation h hashed ws keyed) (sent yao c xs (coins_of ws)))
  received_terms hashed =
      let ms = meanings yao c (coins_of ws) in
      let keys = map (λ t. value (interpretation h hashed ws keyed) t) (sent yao c xs (coins_of ws)).keys in
      received_is
      ∙ ap (λ ks. Ok (filed ks (maker_keys c ws (drop c.opener xs)) (closed_tables c ws h) ms)) (sym (openers_are h hashed ws keyed c good xs))
      ∙ ap₂ (λ ks ts. Ok (filed (take c.opener keys) ks ts ms)) (sym (makers_are h hashed ws keyed c good xs))
      (sym (tables_are h hashed ws keyed (yao.tables c (coins_of ws))))

pub interprets : (c : Circuit) → WellFormed c → (bytes : List ℕ) (ws : List WireKeys) → Bytes bytes → drawn (wire_count c) bytes ≡ Ok ws → Interprets c bytes ws
interprets c good bytes ws small is =
    let lawful = draws_lawful (wire_count c) bytes small ws is in
    record {
      lawful = lawful;
      one_to_one = λ k l k_made l_made e. lawful.apart k l k_made l_made (ap stem e);
      sent = λ h hashed keyed xs fit. received_terms c good xs fit bytes ws is keyed h hashed;
      texts_apart = texts_apart c good ws;
    }
