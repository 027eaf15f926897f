-- Terms as the bytes that drawn keys and a hash of texts make of them. Assumes nothing.
use Rattle.std.specs.Prelude.{ℕ, List, slice_index}
use Rattle.keys.specs.Drawing.{key_of}
use Rattle.keys.specs.declared.wires.WireKeys.{WireKeys}
use Rattle.scheme.specs.Bytes.{Block, Drawn}
use Rattle.scheme.specs.Garbling.{Key}
use Rattle.sha256.specs.Pads.{row_text}
use Rattle.garble.specs.Garbled.{TextHash, pad_by}

-- what it gives is sixteen bytes
abbrev pub BlockHash : TextHash → Type 0
BlockHash h = (t : List ℕ) → Block (h t)

-- a secret is a key, by its name; a pad is the hash of the row's text
abbrev pub interpretation : (h : TextHash) → BlockHash h → (ws : List WireKeys) → ((k : Key) → Block (key_of ws k)) → Drawn Key
interpretation h hashed ws keyed =
    record { hash = pad_by h; hash_block = λ ks ns. hashed (row_text ks (slice_index ns 0) (slice_index ns 1)); secrets = key_of ws; secrets_block = keyed }
