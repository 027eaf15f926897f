-- What a garbling scheme promises: opening is right, of each wire one key can be derived, what is seen is what can be derived, all of it can be made from the
-- result alone, and so inputs with one result are not told apart. Assumes nothing.
use Rattle.std.specs.Prelude.{◌≡◌, ℕ, ◌<◌, Bool, ◌⊎◌, ◌↔◌, List, map, length}
use mathlib.Core.List.{flatten, Forall₂, Memᴰ}
use Rattle.std.specs.List.{AllByRecursion}
use Rattle.circuit.specs.Circuit.{Circuit, WellFormed, wire_count, at, result}
use Rattle.scheme.specs.Bytes.{Drawn, value, colour_of}
use Rattle.scheme.specs.Garbling.{Key, Row, Scheme, blocks, Seen, opened, closed, View, Got, sent, active, view, got}
use Rattle.scheme.specs.Terms.{Sort, block, Term, secret, public, xor, pad, tweak, ◌then◌, ◌≈◌, Recipe, run, Derives, StaticallyEquivalent, sum}

-- equal terms are equal bytes, whatever is drawn and whatever the hash
abbrev pub Sound : Type 0 → Type 0
Sound A = (d : Drawn A) (s : Sort) (t u : Term A s) → t ≈ u → value d t ≡ value d u

-- and no law is left out: terms without pads that are equal bytes, whatever is drawn, are equal terms
abbrev pub Plain : {A : Type 0} {s : Sort} → Term A s → Type 0
Plain (secret k) = Unit {0}
Plain (public n) = Unit {0}
Plain (xor t u) = Plain t × Plain u
Plain (pad t) = ⊥
Plain (tweak ns) = ⊥
Plain (k then t) = ⊥

abbrev pub AllLaws : Type 0 → Type 0
AllLaws A = (t u : Term A block) → Plain t → Plain u → ((d : Drawn A) → value d t ≡ value d u) → t ≈ u

-- two that nobody tells apart
pub record Alike {A : Type 0} (g h : Got A) : Type 0 where
  pub view : g.view ≡ h.view
  -- every test on blocks comes out the same
  pub transcripts : StaticallyEquivalent (blocks g.transcript) (blocks h.transcript)
  -- and a recipe that gives a key, or a sum of keys and a number, from the one gives the same from the other: so the colours read off keys are the same
  pub keys : (m : Recipe block) (ks : List Key) (n : ℕ) →
      run (blocks g.transcript) m ≈ sum (map g.key_block ks) n ↔ run (blocks h.transcript) m ≈ sum (map h.key_block ks) n
  pub meanings : g.transcript.meanings ≡ h.transcript.meanings

-- lists of n bits paired one to one, with none left out
pub record OneToOne (n : ℕ) (there back : List Bool → List Bool) : Type 0 where
  pub there_fits : (bs : List Bool) → length bs ≡ n → length (there bs) ≡ n
  pub back_fits : (bs : List Bool) → length bs ≡ n → length (back bs) ≡ n
  pub back_there : (bs : List Bool) → length bs ≡ n → back (there bs) ≡ bs
  pub there_back : (bs : List Bool) → length bs ≡ n → there (back bs) ≡ bs

module _ {A : Type 0} (S : Scheme A) where
  -- a circuit, a value for each input, and as many coins as the scheme draws
  pub record Fits (c : Circuit) (xs coins : List Bool) : Type 0 where
    pub well_formed : WellFormed c
    pub inputs : length xs ≡ c.inputs
    pub drawn : length coins ≡ S.coins c

  -- the last bit of each wire's keys is their colour
  abbrev pub Coloured : Circuit → List Bool → Drawn A → Type 0
  Coloured c coins d = (k : Key) → k.wire < wire_count c → colour_of (value d (S.key_block c coins k)) ≡ k.colour

  -- there are such keys
  abbrev pub Drawable : Type 0
  Drawable = (c : Circuit) (coins : List Bool) → (d : Drawn A) × Coloured c coins d

  -- 1. Right: for all coins, keys and hashes the opening of what is sent gives the circuit's result.
  abbrev pub Right : Type 0
  Right =
      (c : Circuit) (xs coins : List Bool) → Fits c xs coins → (d : Drawn A) → Coloured c coins d →
      S.evaluate d.hash c (map (λ t. value d t) (sent S c xs coins).keys) (map (map (λ t. value d t)) (sent S c xs coins).tables) (sent S c xs coins).meanings
      ≡ result c xs

  -- a key can be derived from what is sent
  abbrev pub Known : Circuit → List Bool → List Bool → Key → Type 0
  Known c xs coins k = Derives (blocks (sent S c xs coins)) (S.key_block c coins k)

  abbrev pub OneKeyOf : Circuit → Type 0
  OneKeyOf c =
      (xs coins : List Bool) → Fits c xs coins → (k : Key) → Known c xs coins k ↔ ((k.wire < wire_count c) × (k.colour ≡ (active S c xs coins k.wire).colour))

  -- 2. One key: the keys that can be derived are, of each wire of the circuit, that of its value, and no other.
  abbrev pub OneKey : Type 0
  OneKey = (c : Circuit) → OneKeyOf c

  -- a row is seen open, with the key in it, where all its keys can be derived, and closed where they cannot
  pub data SeenAs (c : Circuit) (xs coins : List Bool) (r : Row) : Seen → Type 0 where
    as_open : AllByRecursion (Known c xs coins) r.keys → SeenAs c xs coins r (opened r.holds)
    as_closed : (AllByRecursion (Known c xs coins) r.keys → ⊥) → SeenAs c xs coins r closed

  -- a key stands in a view: it is an input's, or is in an open row
  abbrev pub Shows : View → Key → Type 0
  Shows v k = Memᴰ k v.keys ⊎ Memᴰ (opened k) (flatten v.rows)

  -- 3. Seen by derivation: of each row what can be derived decides what is seen of it, and the keys seen are those that can be derived.
  pub record Sees (c : Circuit) (xs coins : List Bool) : Type 0 where
    pub rows : Forall₂ (Forall₂ (SeenAs c xs coins)) (S.tables c coins) (view S c xs coins).rows
    pub keys : (k : Key) → Shows (view S c xs coins) k ↔ Known c xs coins k

  abbrev pub SeenByDerivation : Type 0
  SeenByDerivation = (c : Circuit) (xs coins : List Bool) → Fits c xs coins → Sees c xs coins

  -- 4. Simulated: whoever knows the circuit and the result makes, from bits drawn at random, what is not told apart from what an opener gets.
  pub record Simulator (c : Circuit) : Type 0 where
    pub simulated : (bits result : List Bool) → Got A
    -- for each input those bits and the coins are paired one to one, with none left out
    pub random : (xs coins : List Bool) → List Bool
    pub coins : (xs bits : List Bool) → List Bool
    pub one_to_one : (xs : List Bool) → length xs ≡ c.inputs → OneToOne (S.coins c) (random xs) (coins xs)
    pub alike : (xs coins : List Bool) → Fits c xs coins → Alike (got S c xs coins) (simulated (random xs coins) (result c xs))
    -- the coin of an input follows from its value and the bits
    pub own : (xs ys bits : List Bool) → length xs ≡ c.inputs → length ys ≡ c.inputs → length bits ≡ S.coins c → (w : ℕ) → w < c.inputs → at xs w ≡ at ys w →
        S.coin c (coins xs bits) w ≡ S.coin c (coins ys bits) w

  abbrev pub Simulatable : Type 0
  Simulatable = (c : Circuit) → WellFormed c → Simulator c

  -- 5. Inputs hidden: two inputs with one result are not told apart, by as many coins of the one as of the other.
  pub record Matched (c : Circuit) (xs ys : List Bool) : Type 0 where
    pub there : List Bool → List Bool
    pub back : List Bool → List Bool
    pub one_to_one : OneToOne (S.coins c) there back
    pub alike : (coins : List Bool) → length coins ≡ S.coins c → Alike (got S c xs coins) (got S c ys (there coins))
    -- an input wire with the same value in both keeps its coin: so do all of the opener's own, where the two agree in them
    pub own : (coins : List Bool) → length coins ≡ S.coins c → (w : ℕ) → w < c.inputs → at xs w ≡ at ys w →
        S.coin c (there coins) w ≡ S.coin c coins w

  abbrev pub HidesInputs : Type 0
  HidesInputs =
      (c : Circuit) (xs ys : List Bool) → WellFormed c → length xs ≡ c.inputs → length ys ≡ c.inputs → result c xs ≡ result c ys → Matched c xs ys

  pub record KeepsPromises : Type 0 where
    pub right : Right
    -- and this is not said of nothing: keys with their colours as last bits exist
    pub drawable : Drawable
    pub one_key : OneKey
    pub seen : SeenByDerivation
    pub simulated : Simulatable
    pub hides : HidesInputs
