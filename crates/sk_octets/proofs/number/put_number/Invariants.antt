use Rattle.std.proofs.Common.{◌≡◌, ◌+◌, ◌-◌, ◌*◌, ◌^◌, ◌<◌, ◌≤◌, length, drop}
use Rattle.sk_octets.specs.Octets.{octets_value, AreOctets}
use Rattle.sk_octets.proofs.number.put_number.Given as goal

-- the octets that are written, and what is left, make the number
abbrev pub invariant-loop-place : goal.invariant-loop-place
invariant-loop-place l = record {
  value : octets_value (drop l.place l.buf) + l.rest * 256 ^ (length l.buf - l.place) ≡ l.number;
  below : l.rest < 256 ^ l.place;
  octets : AreOctets (drop l.place l.buf);
  place : l.place ≤ length l.buf;
}

abbrev pub decreases-loop-place : goal.decreases-loop-place
decreases-loop-place l = l.place
