-- With paired coins an opener does not tell two inputs with one result apart. Assumes nothing.
use Rattle.std.proofs.Common.{◌≡◌, Bool, List, length, sym, ap, ◌∙◌, subst, ap₂, arith}
use Rattle.circuit.specs.Circuit.{Circuit, WellFormed, wire_count, at, values, result}
use Rattle.scheme.specs.Coins.{colour, colours_of, coins_of_pair}
use Rattle.scheme.specs.Garbling.{tabulate, got}
use Rattle.scheme.specs.Promises.{Alike}
use Rattle.scheme.specs.Simulation.{simulate}
use Rattle.scheme.specs.Yao.{yao}
use Rattle.scheme.proofs.Lists.{equal_tabulate}
use Rattle.scheme.proofs.Pairs.{pairs}
use Rattle.scheme.proofs.Simulated.{simulated_alike, alike_both}

module _ (c : Circuit) (xs ys coins : List Bool) (good : WellFormed c) (xs_fit : length xs ≡ c.inputs) (ys_fit : length ys ≡ c.inputs)
    (coins_fit : length coins ≡ wire_count c) where
  -- every wire has the same colour in both
  paired_colours : colours_of (coins_of_pair c xs ys coins) (values c ys) ≡ colours_of coins (values c xs)
  paired_colours =
      let paired = coins_of_pair c xs ys coins in
      let is = pairs c xs ys coins good xs_fit ys_fit coins_fit in
      ap (λ n. tabulate n (λ w. colour (at paired w) (at (values c ys) w))) (is.size ∙ sym coins_fit)
      ∙ equal_tabulate (λ w. colour (at paired w) (at (values c ys) w)) (λ w. colour (at coins w) (at (values c xs) w)) (length coins) (λ w below. is.colours w (omega (arith, coins_fit)))

  pub paired_alike : result c xs ≡ result c ys → Alike (got yao c xs coins) (got yao c ys (coins_of_pair c xs ys coins))
  paired_alike one_result =
      alike_both (simulated_alike c xs coins (record { well_formed = good; inputs = xs_fit; drawn = coins_fit }))
      (subst (Alike (got yao c ys (coins_of_pair c xs ys coins))) (ap₂ (simulate c) paired_colours (sym one_result))
      (simulated_alike c ys (coins_of_pair c xs ys coins) (record { well_formed = good; inputs = ys_fit; drawn = (pairs c xs ys coins good xs_fit ys_fit coins_fit).size })))
