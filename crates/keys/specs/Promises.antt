-- What the calls of this crate promise of their answers. Assumes nothing.
use Rattle.std.specs.Prelude.{◌≡◌, ℕ, ◌≤◌, List, length, Ok, vec_items, Result, Vec}
use Rattle.std.specs.List.{AllByRecursion}
use Rattle.std.specs.declared.alloc.Global.{Global}
use Rattle.circuit.specs.Refusals.{Answers}
use Rattle.circuit.specs.declared.refusals.Failure.{Failure}
use Rattle.scheme.specs.Bytes.{Block}
use Rattle.keys.specs.Files.{most_keys, keys_file, written_keys, keys_for}

-- a file of keys
pub record Writes (ks : List (List ℕ)) (r : Result (Vec ℕ Global) Failure) : Type 0 where
  pub bytes : Answers vec_items r (written_keys ks)
  -- which is read as those keys
  pub read_back : length ks ≤ most_keys → keys_for (length ks) (keys_file ks) ≡ Ok ks

-- what a text is accepted as is as many keys as are told, and the text is the one that writes them
pub record Accepts (count : ℕ) (text : List ℕ) : Type 0 where
  pub well_formed : (ks : List (List ℕ)) → keys_for count text ≡ Ok ks → (length ks ≡ count) × AllByRecursion Block ks
  pub one_text : (ks : List (List ℕ)) → keys_for count text ≡ Ok ks → keys_file ks ≡ text

-- keys read from a text
pub record Reads (count : ℕ) (text : List ℕ) (r : Result (Vec (List ℕ) Global) Failure) : Type 0 where
  pub parsed : Answers vec_items r (keys_for count text)
  pub laws : Accepts count text
