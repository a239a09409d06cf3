use Rattle.std.proofs.Common.{◌≡◌, take, drop}
use Rattle.sk_clock.specs.Kept.{moduli_of, offsets_of}
use Rattle.sk_clock.proofs.FieldLemmas.{HaveUnits}
use Rattle.sk_clock.proofs.kept.fields_of.Given as goal

abbrev pub invariant-loop-i : goal.invariant-loop-i
invariant-loop-i l = record {
  moduli : moduli_of l.fields.items ≡ take l.i l.moduli;
  offsets : offsets_of l.fields.items ≡ take l.i l.offsets;
  units : HaveUnits (drop l.i l.moduli) l.fields.items;
}
