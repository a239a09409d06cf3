use Rattle.std.proofs.Common.{◌≡◌, ◌+◌, ◌-◌, ◌*◌, ◌^◌, ◌<◌, length, drop}
use Rattle.sk_octets.specs.Octets.{octets_value}
use Rattle.sk_octets.proofs.number.number_of.Given as goal

-- what is read, and the octets that are left, make the number
abbrev pub invariant-loop-octet : goal.invariant-loop-octet
invariant-loop-octet l = record {
  value : l.number * 256 ^ (length l.octets - l.octet-index) + octets_value (drop l.octet-index l.octets) ≡ octets_value l.octets;
  below : l.number < 256 ^ l.octet-index;
}
