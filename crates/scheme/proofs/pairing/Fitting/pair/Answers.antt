use Rattle.std.proofs.Common.{◌≡◌, vec_items, sym, ◌∙◌}
use Rattle.circuit.specs.Circuit.{Circuit, values, result}
use Rattle.circuit.specs.Meaning.{circuit_of}
use Rattle.circuit.proofs.Lawful.{well_formed}
use Rattle.scheme.specs.Coins.{coins_of_pair}
use Rattle.scheme.specs.Results.{first_differing}
use Rattle.scheme.specs.declared.pairing.Fitting.{Fitting}
use Rattle.scheme.proofs.Answered.{values_are, differ_answer, paired_answer}
use Rattle.scheme.proofs.Differences.{first_place}
use Rattle.scheme.proofs.Pairs.{zipped}
use Rattle.scheme.proofs.pairing.Fitting.pair.Goals as goal
use Rattle.scheme.proofs.pairing.Fitting.pair.Goals.{After-first_difference}

module _ (c : After-first_difference) where
  abbrev f : Fitting
  f = c.args.self.now

  abbrev circuit : Circuit
  circuit = circuit_of f.sheet.now

  before_is : vec_items c.in_ok-before.before ≡ values circuit f.first.now
  before_is = values_are circuit f.first.now (vec_items c.in_ok-before.before) f.first_fits c.in_ok-before.ensures.values

  after_is : vec_items c.in_ok-after.after ≡ values circuit f.second.now
  after_is = values_are circuit f.second.now (vec_items c.in_ok-after.after) f.second_fits c.in_ok-after.ensures.values

  difference_is : c.first_difference.result ≡ first_differing 0 (result circuit f.first.now) (result circuit f.second.now)
  difference_is =
      c.first_difference.ensures
      ∙ simp (c.deref.ensures.value ∙ before_is, c.deref-2.ensures.value ∙ after_is, c.deref-3.ensures.value)
      (first_place (values circuit f.first.now) (values circuit f.second.now) circuit.outputs)

pub returns-in-Some : goal.returns-in-Some
returns-in-Some c =
    let f = c.args.self.now in
    let at = (goal.at.returns-in-Some c).After-first_difference in
    let both = differ_answer (circuit_of f.sheet.now) f.first.now f.second.now f.coins.now (well_formed f.sheet.now) f.first_fits f.second_fits f.coins_fit
    c.in-Some.output (sym c.in-Some.is ∙ difference_is at) in
    record { answer = both.0; meaning = both.1 }

pub returns : goal.returns
returns c =
    let f = c.args.self.now in
    let at = (goal.at.returns c).After-first_difference in
    let ds = vec_items c.in_ok-paired_coins-in-None.field-0 in
    let coins : ds ≡ coins_of_pair (circuit_of f.sheet.now) f.first.now f.second.now f.coins.now =
    c.in_ok-paired_coins-in-None.ensures
    ∙ rw (c.deref-in-None.ensures.value ∙ before_is at, c.deref-in-None-2.ensures.value ∙ after_is at)
    (zipped (circuit_of f.sheet.now) f.first.now f.second.now f.coins.now (well_formed f.sheet.now) f.first_fits f.second_fits f.coins_fit) in
    let both = paired_answer (circuit_of f.sheet.now) f.first.now f.second.now f.coins.now (well_formed f.sheet.now) f.first_fits f.second_fits f.coins_fit
    ds (sym c.in-None.is ∙ difference_is at) coins in
    record { answer = both.0; meaning = both.1 }
