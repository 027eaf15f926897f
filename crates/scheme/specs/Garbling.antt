-- Garbling schemes in general: keys and rows by name, what is sent of them, and what an opener (evaluator) sees of it. Assumes nothing.
use Rattle.std.specs.Prelude.{ℕ, Bool, true, cond, not, ◌&&◌, List, [], ◌∷◌, ◌++◌, map, slice_index_or}
use mathlib.Core.List.{flatten}
use Rattle.std.specs.List.{range_with_len}
use Rattle.circuit.specs.Circuit.{Circuit, at, values}
use Rattle.scheme.specs.Bytes.{Evaluation}
use Rattle.scheme.specs.Coins.{◌⊕◌, colour}
use Rattle.scheme.specs.Terms.{block, text, Term, xor, pad, tweak, ◌then◌}

-- a key (wire label), by its wire and its colour
pub record Key : Type 0 where
  pub wire : ℕ
  pub colour : Bool

abbrev pub key : ℕ → Bool → Key
key w c = record { wire = w; colour = c }

-- a row of a garbled table: the keys that open it, the numbers behind them in the text of its pad, and the key in it
pub record Row : Type 0 where
  pub keys : List Key
  pub tweak : List ℕ
  pub holds : Key

-- what a scheme says of a circuit and the coins (permute bits) that are drawn for it
pub record Scheme (A : Type 0) : Type 0 where
  -- how many coins there are
  pub coins : Circuit → ℕ
  -- the coin of a wire
  pub coin : Circuit → List Bool → ℕ → Bool
  -- the block that a key is
  pub key_block : Circuit → List Bool → Key → Term A block
  -- for each gate its rows, in the order in which they are sent
  pub tables : Circuit → List Bool → List (List Row)
  -- the wires whose coins are sent, in the plain
  pub decoded : Circuit → List ℕ
  -- how it is opened
  pub evaluate : Evaluation

-- all that an opener gets: keys of the inputs, rows, and meanings (output decoding)
pub record Transcript (A : Type 0) : Type 0 where
  pub keys : List (Term A block)
  pub tables : List (List (Term A block))
  pub meanings : List Bool

-- its blocks (the meanings are bits in the plain)
abbrev pub blocks : {A : Type 0} → Transcript A → List (Term A block)
blocks t = t.keys ++ flatten t.tables

abbrev pub text_of : {A : Type 0} → List (Term A block) → List ℕ → Term A text
text_of [] ns = tweak ns
text_of (k ∷ ks) ns = k then text_of ks ns

-- f 0, f 1, and so on: n of them
abbrev pub tabulate : {X : Type 0} → ℕ → (ℕ → X) → List X
tabulate n f = map f (range_with_len 0 n)

-- what an opener sees of a row: the key in it, or nothing but that it is there
pub data Seen : Type 0 where
  opened : Key → Seen
  closed : Seen

-- and of a transcript: the keys of the inputs, the rows in their places, the meanings
pub record View : Type 0 where
  pub keys : List Key
  pub rows : List (List Seen)
  pub meanings : List Bool

-- what an opener gets, what it sees of it, and the blocks that keys are there
pub record Got (A : Type 0) : Type 0 where
  pub transcript : Transcript A
  pub view : View
  pub key_block : Key → Term A block

-- all these keys are held, by one who holds of each wire w the key of colour `held w`
abbrev pub all_held : (held : ℕ → Bool) → List Key → Bool
all_held held [] = true
all_held held (k ∷ ks) = not (k.colour ⊕ held k.wire) && all_held held ks

-- a row looks open, and shows the key in it, to who holds all its keys
abbrev pub look : (held : ℕ → Bool) → Row → Seen
look held r = cond (all_held held r.keys) (opened r.holds) closed

-- row p of gate k, or s if there is none
abbrev pub seen_at : View → ℕ → ℕ → Seen → Seen
seen_at v k p s = slice_index_or (slice_index_or v.rows k []) p s

-- a row as it is sent: the key in it, closed with the pad over its keys and its tweak
abbrev pub cipher : {A : Type 0} → (key_block : Key → Term A block) → Row → Term A block
cipher key_block r = xor (key_block r.holds) (pad (text_of (map key_block r.keys) r.tweak))

module _ {A : Type 0} (S : Scheme A) (c : Circuit) where
  -- the key of a wire's value
  abbrev pub value_key : List Bool → ℕ → Bool → Key
  value_key coins w v = key w (colour (S.coin c coins w) v)

  abbrev pub meanings : List Bool → List Bool
  meanings coins = map (S.coin c coins) (S.decoded c)

  -- for each input the key of its value, all rows of all gates, and the meanings
  abbrev pub sent : List Bool → List Bool → Transcript A
  sent xs coins =
      record {
        keys = tabulate c.inputs (λ w. S.key_block c coins (value_key coins w (at xs w)));
        tables = map (map (cipher (S.key_block c coins))) (S.tables c coins);
        meanings = meanings coins;
      }

  module _ (xs coins : List Bool) where
    -- the key that an opener comes to hold of a wire
    abbrev pub active : ℕ → Key
    active w = value_key coins w (at (values c xs) w)

    abbrev pub view : View
    view =
        record {
          keys = tabulate c.inputs (λ w. value_key coins w (at xs w));
          rows = map (map (look (λ w. (active w).colour))) (S.tables c coins);
          meanings = meanings coins;
        }

    abbrev pub got : Got A
    got = record { transcript = sent xs coins; view = view; key_block = S.key_block c coins }
