use Rattle.std.proofs.Common.{◌≡◌, ◌++◌, drop, vec_items}
use Rattle.std.specs.List.{flat_map}
use Rattle.circuit.proofs.writing.put_all.Given as goal

abbrev pub invariant-loop-item : goal.invariant-loop-item
invariant-loop-item g l = vec_items l.text ++ flat_map g.T.Encode.bytes (drop l.item-index l.items) ≡ vec_items l.initial.text ++ flat_map g.T.Encode.bytes l.items
