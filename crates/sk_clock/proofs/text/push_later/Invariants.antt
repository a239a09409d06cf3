use Rattle.std.proofs.Common.{◌≡◌, ◌^◌, ◌<◌, ◌++◌, drop}
use Rattle.std.specs.String.{string_bytes}
use Rattle.sk_clock.specs.Kept.{later_text}
use Rattle.sk_clock.proofs.text.push_later.Given as goal

abbrev pub invariant-loop-field : goal.invariant-loop-field
invariant-loop-field l = record {
  small : l.rest < 2 ^ 60;
  appended : string_bytes l.text ++ later_text l.delimiter (drop l.field-index l.fields) l.rest
      ≡ string_bytes l.initial.text ++ later_text l.delimiter l.fields l.initial.rest;
}
