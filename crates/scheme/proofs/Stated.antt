-- The statement, put together. Assumes nothing.
use Rattle.std.proofs.Common.{◌≡◌, Bool, true, not, ◌&&◌, eqb, arith}
use Rattle.std.proofs.lemmas.Bool.Decides.{nat_tests}
use Rattle.circuit.specs.Circuit.{at}
use Rattle.scheme.specs.Coins.{◌⊕◌}
use Rattle.scheme.specs.Garbling.{Key}
use Rattle.scheme.specs.Promises.{KeepsPromises}
use Rattle.scheme.specs.Statement.{Statement}
use Rattle.scheme.specs.Yao.{by_colour, numbered, outputs_only, yao}
use Rattle.scheme.proofs.Bare.{bare_keys, bare_coloured}
use Rattle.scheme.proofs.Blocks.{sound}
use Rattle.scheme.proofs.Colours.{xor_same, same_from_xor}
use Rattle.scheme.proofs.Derived.{deduction}
use Rattle.scheme.proofs.Laws.{all_laws}
use Rattle.scheme.proofs.Layouts.{by_colour_complete}
use Rattle.scheme.proofs.Marked.{respects_laws, out_of_reach, carried, not_told_apart}
use Rattle.scheme.proofs.Missed.{near_misses}
use Rattle.scheme.proofs.Opens.{outputs_right}
use Rattle.scheme.proofs.Schemes.{one_key_numbered, seen_by_derivation}
use Rattle.scheme.proofs.Simulated.{simulatable, hides_if_simulatable}
use Rattle.scheme.proofs.Worked.{worked}

promises : KeepsPromises yao
promises =
    record {
      right = outputs_right at numbered;
      drawable = λ c coins. (bare_keys, bare_coloured at by_colour numbered outputs_only c coins);
      one_key = one_key_numbered at by_colour outputs_only by_colour_complete;
      seen = seen_by_derivation at by_colour outputs_only by_colour_complete;
      simulated = simulatable;
      hides = hides_if_simulatable yao simulatable;
    }

-- keys can be told from each other
same_keys : Key → Key → Bool
same_keys k j = eqb k.wire j.wire && not (k.colour ⊕ j.colour)

same_from_test : (k j : Key) → same_keys k j ≡ true → k ≡ j
unfolding same_keys
same_from_test k j is = grind (arith, nat_tests, same_from_xor)

self_test : (k : Key) → same_keys k k ≡ true
unfolding same_keys
self_test k = grind (arith, nat_tests, xor_same)

pub statement : Statement
statement =
    record {
      promises = promises;
      near_misses = near_misses;
      simulation_hides = hides_if_simulatable;
      sound = sound;
      all_laws = all_laws same_keys same_from_test self_test;
      deduction = deduction;
      respects_laws = respects_laws;
      out_of_reach = out_of_reach;
      carried = carried;
      not_told_apart = not_told_apart;
      worked = worked;
    }
