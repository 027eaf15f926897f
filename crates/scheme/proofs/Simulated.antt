-- The simulator makes what is not told apart from what is sent, and whatever can be simulated hides inputs. Assumes nothing.
use Rattle.std.proofs.Common.{◌≡◌, ℕ, ◌+◌, ◌<◌, Bool, true, false, cond, ◌↔◌, List, [], ◌∷◌, map, length, sym, refl, ap, ◌∙◌, subst, ap₂, arith}
use mathlib.Core.List.{zip_with}
use Rattle.std.specs.List.{AllByRecursion}
use Rattle.std.proofs.lemmas.List.FromFn.{length-map-range_with_len, get_or-map-range_with_len, fill_by_all}
use Rattle.std.proofs.ByRecursion.{All-from_get_or}
use Rattle.circuit.specs.Circuit.{Circuit, wire_count, at, at_all, values, result}
use Rattle.scheme.specs.Coins.{◌⊕◌, colour, colours_of}
use Rattle.scheme.specs.Garbling.{Key, key, Scheme, blocks, Got, opened, closed, all_held, look, value_key, active, got}
use Rattle.scheme.specs.Promises.{Alike, Fits, Simulatable, HidesInputs}
use Rattle.scheme.specs.Simulation.{simulate}
use Rattle.scheme.specs.Terms.{block, Term, secret, ◌≈◌, run, StaticallyEquivalent, sum}
use Rattle.scheme.specs.Yao.{gate_at, row_of, held_for, by_colour, numbered, outputs_only, yao}
use Rattle.scheme.proofs.Colours.{xor_twice}
use Rattle.scheme.proofs.Layouts.{by_colour_complete, by_number}
use Rattle.scheme.proofs.Lists.{conses, map_map_beside, equal_tables, equal_tabulate}
use Rattle.scheme.proofs.Reach.{Lawful, held_alike, sums_alike}
use Rattle.scheme.proofs.Rows.{Setting, input_value, wires_below, keys_below, colours_held}
use Rattle.scheme.proofs.Runs.{on, lawful, key_is, sent_is}
use Rattle.scheme.proofs.Tables.{tables_beside}

-- colours and coins
pub colours_size : (coins vs : List Bool) → length (colours_of coins vs) ≡ length coins
colours_size coins vs = grind (arith, length-map-range_with_len)

pub colour_at : (coins vs : List Bool) (w : ℕ) → w < length coins → at (colours_of coins vs) w ≡ colour (at coins w) (at vs w)
colour_at coins vs w below = grind (arith, get_or-map-range_with_len)

colours_twice : (coins vs : List Bool) → colours_of (colours_of coins vs) vs ≡ coins
colours_twice coins vs =
    let size = colours_size coins vs in
    sym (fill_by_all (λ w. colour (at (colours_of coins vs) w) (at vs w)) coins (length (colours_of coins vs)) false (sym size) (λ w below.
    sym (ap (λ b. colour b (at vs w)) (colour_at coins vs w (omega (arith, size))) ∙ xor_twice (at coins w) (at vs w))))

module _ (c : Circuit) (xs coins : List Bool) (fits : Fits yao c xs coins) where
  abbrev colours : List Bool
  colours = colours_of coins (values c xs)

  abbrev places : ℕ → ℕ → List Bool
  places k = by_colour (at coins) (gate_at c k)

  acts : (w : ℕ) → w < wire_count c → (active yao c xs coins w).colour ≡ at colours w
  acts w below = grind (arith, colour_at)

  abbrev set : Setting numbered places c
  set = on at by_colour numbered outputs_only c xs coins fits (by_colour_complete c (at coins)) (by_number c)

  -- the tables that are sent, and the simulator's
  real : Lawful numbered places c set (at colours) (held_for c (at coins))
  real = lawful at by_colour numbered outputs_only c xs coins fits (by_colour_complete c (at coins)) (by_number c) (at colours) acts

  abbrev one : ℕ → List Bool → Bool
  one k cs = at colours (c.inputs + k)

  fake : Lawful numbered places c set (at colours) one
  fake k below = refl

  -- the outputs' coins are made from their colours and the result
  meanings_made : (ws : List ℕ) → AllByRecursion (λ w. w < wire_count c) ws → map (at coins) ws ≡ zip_with ◌⊕◌ (at_all colours ws) (at_all (values c xs) ws)
  unfolding zip_with
  meanings_made [] all = refl
  meanings_made (w ∷ ws) all =
      conses
      (sym (ap (λ b. b ⊕ at (values c xs) w) (sym (acts w all.0)) ∙ xor_twice (at coins w) (at (values c xs) w))) (meanings_made ws all.1)

  held_agree : (ks : List Key) → AllByRecursion (λ k. k.wire < wire_count c) ks → all_held (λ w. (active yao c xs coins w).colour) ks ≡ all_held (at colours) ks
  held_agree [] all = refl
  held_agree (k ∷ ks) all = grind (arith, acts, held_agree ks all.1)

  -- a row looks the same whichever of the two it holds
  look_agrees : (k : ℕ) → k < length c.gates → (cs : List Bool) → length cs ≡ length (gate_at c k).wires →
      look (λ w. (active yao c xs coins w).colour) (row_of numbered c k cs (held_for c (at coins) k cs)) ≡ look (at colours) (row_of numbered c k cs (at colours (c.inputs + k)))
  look_agrees k below cs len =
      ap (λ b. cond b (opened (key (c.inputs + k) (held_for c (at coins) k cs))) closed)
      (held_agree keys (keys_below (wire_count c) (gate_at c k).wires cs (wires_below c fits.well_formed k below))) ∙ go (all_held (at colours) keys) refl
    where
      keys : List Key
      keys = zip_with key (gate_at c k).wires cs

      go : (b : Bool) → all_held (at colours) keys ≡ b →
          cond b (opened (key (c.inputs + k) (held_for c (at coins) k cs))) closed ≡ cond b (opened (key (c.inputs + k) (at colours (c.inputs + k)))) closed
      go true all =
          ap (λ b. opened (key (c.inputs + k) b))
          (ap (held_for c (at coins) k) (colours_held (at colours) (gate_at c k).wires cs len all) ∙ real k below)
      go false some = refl

  pub simulated_alike : Alike (got yao c xs coins) (simulate c colours (result c xs))
  simulated_alike =
      let same = meanings_made c.outputs (All-from_get_or (λ w. w < wire_count c) c.outputs 0 fits.well_formed.5) in
      let same_key = key_is at by_colour numbered outputs_only c xs coins fits (by_colour_complete c (at coins)) (by_number c) (at colours) acts in
      let keys = equal_tabulate (λ w. value_key yao c coins w (at xs w)) (λ w. key w (at colours w)) c.inputs same_key in
      let rows =
      equal_tables (map_map_beside (λ s t. s ≡ t) (look (λ w. (active yao c xs coins w).colour)) (look (at colours))
      (tables_beside numbered c places (λ r q. look (λ w. (active yao c xs coins w).colour) r ≡ look (at colours) q) (held_for c (at coins)) one
      (λ k below p. look_agrees k below (places k p) (set.complete.sized k below p)))) in
      let is = sent_is at by_colour numbered outputs_only c xs coins fits (by_colour_complete c (at coins)) (by_number c) (at colours) acts in
      let made = blocks (simulate c colours (result c xs)).transcript in
      record {
        view = λ i. record { keys = keys i; rows = rows i; meanings = same i };
        transcripts = subst (λ l. StaticallyEquivalent l made) (sym is) (held_alike numbered places c set (at colours) (held_for c (at coins)) one real fake);
        keys = λ m ks n.
            subst (λ l. run l m ≈ sum (map secret ks) n ↔ run made m ≈ sum (map secret ks) n) (sym is) (
              sums_alike numbered places c set (at colours) (held_for c (at coins)) one real fake m ks n,
              sums_alike numbered places c set (at colours) one (held_for c (at coins)) fake real m ks n,
            );
        meanings = same;
      }

pub simulatable : Simulatable yao
simulatable c good =
    record {
      simulated = simulate c;
      random = λ xs coins. colours_of coins (values c xs);
      coins = λ xs bits. colours_of bits (values c xs);
      one_to_one = λ xs fit.
          record {
            there_fits = λ bs len. colours_size bs (values c xs) ∙ len;
            back_fits = λ bs len. colours_size bs (values c xs) ∙ len;
            back_there = λ bs len. colours_twice bs (values c xs);
            there_back = λ bs len. colours_twice bs (values c xs);
          };
      alike = λ xs coins fits. simulated_alike c xs coins fits;
      own = λ xs ys bits xs_fit ys_fit len w below same.
          let within : w < length bits = omega arith in
          colour_at bits (values c xs) w within
          ∙ ap (colour (at bits w)) (input_value c good xs xs_fit w below ∙ same ∙ sym (input_value c good ys ys_fit w below))
          ∙ sym (colour_at bits (values c ys) w within);
    }

-- not to be told apart goes both ways, and from one to the next
equivalent_back : {A : Type 0} {a e : List (Term A block)} → StaticallyEquivalent a e → StaticallyEquivalent e a
equivalent_back q = record { size = sym q.size; tests = λ m n. ((q.tests m n).1, (q.tests m n).0) }

equivalent_on : {A : Type 0} {a e i : List (Term A block)} → StaticallyEquivalent a e → StaticallyEquivalent e i → StaticallyEquivalent a i
equivalent_on p q =
    record {
      size = p.size ∙ q.size;
      tests = λ m n. (λ h. (q.tests m n).0 ((p.tests m n).0 h), λ h. (p.tests m n).1 ((q.tests m n).1 h));
    }

-- two that are like one are alike
pub alike_both : {A : Type 0} {g h i : Got A} → Alike g i → Alike h i → Alike g h
alike_both p q =
    record {
      view = p.view ∙ sym q.view;
      transcripts = equivalent_on p.transcripts (equivalent_back q.transcripts);
      keys = λ m ks n. (λ h. (q.keys m ks n).1 ((p.keys m ks n).0 h), λ h. (p.keys m ks n).1 ((q.keys m ks n).0 h));
      meanings = p.meanings ∙ sym q.meanings;
    }

pub hides_if_simulatable : {A : Type 0} (S : Scheme A) → Simulatable S → HidesInputs S
hides_if_simulatable S sim c xs ys good xs_fit ys_fit one_result =
    let s = sim c good in
    let mine = s.one_to_one xs xs_fit in
    let theirs = s.one_to_one ys ys_fit in
    record {
      there = λ coins. s.coins ys (s.random xs coins);
      back = λ coins. s.coins xs (s.random ys coins);
      one_to_one =
          record {
            there_fits = λ bs len. theirs.back_fits (s.random xs bs) (mine.there_fits bs len);
            back_fits = λ bs len. mine.back_fits (s.random ys bs) (theirs.there_fits bs len);
            back_there = λ bs len. ap (s.coins xs) (theirs.there_back (s.random xs bs) (mine.there_fits bs len)) ∙ mine.back_there bs len;
            there_back = λ bs len. ap (s.coins ys) (mine.there_back (s.random ys bs) (theirs.there_fits bs len)) ∙ theirs.back_there bs len;
          };
      alike = λ coins len.
          let bits = s.random xs coins in
          let others = s.coins ys bits in
          let back : s.random ys others ≡ bits = theirs.there_back bits (mine.there_fits coins len) in
          alike_both (s.alike xs coins (record { well_formed = good; inputs = xs_fit; drawn = len }))
          (subst (λ g. Alike (got S c ys others) g) (ap₂ s.simulated back (sym one_result))
          (s.alike ys others (record { well_formed = good; inputs = ys_fit; drawn = theirs.back_fits bits (mine.there_fits coins len) })));
      own = λ coins len w below same.
          s.own ys xs (s.random xs coins) ys_fit xs_fit (mine.there_fits coins len) w below (sym same) ∙ ap (λ l. S.coin c l w) (mine.back_there coins len);
    }
