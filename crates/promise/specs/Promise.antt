-- What is promised of the bytes that the programs send. Assumes nothing.
use Rattle.std.specs.Prelude.{◌≡◌, ℕ, ◌<◌, Bool, ◌⊎◌, List, length, Ok}
use Rattle.circuit.specs.Circuit.{Circuit, wire_count, result}
use Rattle.circuit.specs.Refusals.{◌and_then◌}
use Rattle.evaluate.specs.Evaluated.{OpensRight}
use Rattle.garble.specs.Garbled.{TextHash}
use Rattle.garble.specs.Interpretation.{BlockHash, interpretation}
use Rattle.keys.specs.Drawing.{Bytes, drawn, key_of, coins_of, Lawful}
use Rattle.keys.specs.Files.{ByChosenAlone}
use Rattle.keys.specs.declared.wires.WireKeys.{WireKeys}
use Rattle.scheme.specs.Bytes.{Block}
use Rattle.scheme.specs.Coins.{coins_of_pair}
use Rattle.scheme.specs.Garbling.{Key, sent}
use Rattle.scheme.specs.Yao.{yao}
use Rattle.promise.specs.Received.{received, as_files}
use Rattle.promise.specs.Pairing.{paired_bytes, paired_wires, paired_hash}
use Rattle.promise.specs.Exchange.{row_count, text_at, ClosedText}
use Rattle.promise.specs.Simulation.{simulated, tape_for, simulated_hash, maker's_hash}
use Rattle.promise.specs.Openers.{Opener, conclusion, NeverAsks}

module _ (c : Circuit) where
  -- From bytes to terms, for keys that were drawn.
  pub record Interprets (bytes : List ℕ) (ws : List WireKeys) : Type 0 where
    pub lawful : Lawful (wire_count c) ws
    -- keys are one to one with their bytes
    pub one_to_one : (k l : Key) → k.wire < wire_count c → l.wire < wire_count c → key_of ws k ≡ key_of ws l → k ≡ l
    -- what is received is what the scheme sends, row by row in its place, whatever the hash
    pub sent : (h : TextHash) (hashed : BlockHash h) (keyed : (k : Key) → Block (key_of ws k)) (xs : List Bool) → length xs ≡ c.inputs →
        received h c xs bytes ≡ Ok (as_files c (interpretation h hashed ws keyed) (sent yao c xs (coins_of ws)))
    -- no two rows are closed with the same text
    pub texts_apart : (k l p q : ℕ) → k < length c.gates → l < length c.gates → p < row_count c k → q < row_count c l →
        text_at c ws k p ≡ text_at c ws l q → (k ≡ l) × (p ≡ q)

  -- Drawn bytes paired off, for two inputs, of every length.
  pub record PairsBytes (xs ys : List Bool) (bytes : List ℕ) : Type 0 where
    pub size : length (paired_bytes c xs ys bytes) ≡ length bytes
    pub small : Bytes bytes → Bytes (paired_bytes c xs ys bytes)
    -- it can be undone, so it is one to one
    pub back : paired_bytes c ys xs (paired_bytes c xs ys bytes) ≡ bytes
    -- who runs out of bytes runs out in both, and who doesn't draws the same keys with paired coins
    pub drawn : drawn (wire_count c) (paired_bytes c xs ys bytes) ≡ (drawn (wire_count c) bytes and_then λ ws. Ok (paired_wires c xs ys ws))
    pub coins : (ws : List WireKeys) → length ws ≡ wire_count c → coins_of (paired_wires c xs ys ws) ≡ coins_of_pair c xs ys (coins_of ws)
    pub keys : (ws : List WireKeys) → length ws ≡ wire_count c → (k : Key) → key_of (paired_wires c xs ys ws) k ≡ key_of ws k

  -- The whole transcript: drawn bytes and a hash go one to one to paired bytes and an exchanged hash, and all that is received is the same.
  pub record SameReceived (xs ys : List Bool) (bytes : List ℕ) (h : TextHash) : Type 0 where
    pub hashed : BlockHash (paired_hash c xs ys bytes h)
    pub received : received (paired_hash c xs ys bytes h) c ys (paired_bytes c xs ys bytes) ≡ received h c xs bytes
    pub back : (t : List ℕ) → paired_hash c ys xs (paired_bytes c xs ys bytes) (paired_hash c xs ys bytes h) t ≡ h t
    -- the hash is another only at texts of rows that hold a key which cannot be derived
    pub elsewhere : (ws : List WireKeys) → drawn (wire_count c) bytes ≡ Ok ws → (t : List ℕ) → (paired_hash c xs ys bytes h t ≡ h t) ⊎ ClosedText c xs ws t
    -- so whatever an opener makes of it, it makes the same of both, by the premise on the hash
    pub concluded : (ws : List WireKeys) → drawn (wire_count c) bytes ≡ Ok ws → (o : Opener) → NeverAsks c xs ws h o →
        conclusion (paired_hash c xs ys bytes h) o ≡ conclusion h o

  -- The simulator: drawn bytes and a hash go one to one to a tape and an exchanged hash, from which it makes, by the result alone, all that is received.
  pub record Simulates (xs : List Bool) (bytes : List ℕ) (h : TextHash) : Type 0 where
    pub hashed : BlockHash (simulated_hash c xs bytes h)
    pub received : simulated c (simulated_hash c xs bytes h) (result c xs) (tape_for c xs bytes) ≡ received h c xs bytes
    pub size : length (tape_for c xs bytes) ≡ length bytes
    pub small : Bytes (tape_for c xs bytes)
    pub tape_back : tape_for c xs (tape_for c xs bytes) ≡ bytes
    pub hash_back : (t : List ℕ) → maker's_hash c xs (tape_for c xs bytes) (simulated_hash c xs bytes h) t ≡ h t
    pub hash_there : (t : List ℕ) → simulated_hash c xs (tape_for c xs bytes) (maker's_hash c xs bytes h) t ≡ h t
    pub elsewhere : (ws : List WireKeys) → drawn (wire_count c) bytes ≡ Ok ws → (t : List ℕ) → (simulated_hash c xs bytes h t ≡ h t) ⊎ ClosedText c xs ws t
    pub concluded : (ws : List WireKeys) → drawn (wire_count c) bytes ≡ Ok ws → (o : Opener) → NeverAsks c xs ws h o →
        conclusion (simulated_hash c xs bytes h) o ≡ conclusion h o

  pub record Promise : Type 0 where
    pub interprets : (bytes : List ℕ) (ws : List WireKeys) → Bytes bytes → drawn (wire_count c) bytes ≡ Ok ws → Interprets bytes ws
    pub right : (h : TextHash) → BlockHash h → OpensRight h c
    pub pairs : (xs ys : List Bool) (bytes : List ℕ) → PairsBytes xs ys bytes
    pub same_received : (xs ys : List Bool) (bytes : List ℕ) (h : TextHash) → length xs ≡ c.inputs → length ys ≡ c.inputs → result c xs ≡ result c ys → Bytes bytes → BlockHash h →
        SameReceived xs ys bytes h
    pub simulates : (xs : List Bool) (bytes : List ℕ) (h : TextHash) → length xs ≡ c.inputs → Bytes bytes → BlockHash h → Simulates xs bytes h
    -- what the notary gives is the same for all pairs of which the same keys are chosen
    pub notary : (vs : List Bool) → ByChosenAlone vs
