-- The kernel of a publication whose triples are claimed.
use Rattle.std.specs.Prelude.{◌≡◌, List, ◌++◌, flat_map, map}
use Rattle.sk_grammar.specs.declared.value.Value.{Value}
use Rattle.sk_publishing.specs.Terms.{Sight}
use Rattle.sk_publishing.specs.Input.{Input, AreTooMany}
use Rattle.sk_publishing.specs.Chain.{SegmentView, new_triples}
use Rattle.sk_publishing.specs.Kept.{IsPublication}
use Rattle.sk_publishing.specs.Table.{ChainView}
use Rattle.sk_publishing.specs.Published.{triple_values}
use Rattle.sk_line.specs.Triple.{TripleView}
use Rattle.sk_triples.specs.Kernel.{TriplesView}
use Rattle.sk_audit.specs.declared.walking.Account.{Account}
use Rattle.sk_audit.specs.Audit.{Audit, HasChain}
use Rattle.sk_audit.specs.Walking.{Tell}

-- the account is that of a publication whose triples are claimed, and the kernel has the old and the new ones
pub record IsNewKernel (x : Input) (old : TripleView) (values : List Value) (a : Account) (kernel : TriplesView) : Type 0 where
  pub dropped : List Sight
  pub chain : List SegmentView
  pub publication : IsPublication (x.terms old) x.all dropped chain
  pub tells : Tell a.segments.items chain
  pub places : a.dropped.items ≡ map (λ o. o.place) dropped
  pub few : ¬ AreTooMany x chain
  pub claimed : values ≡ flat_map triple_values (new_triples chain)
  pub triples : kernel.triples ≡ x.triples ++ new_triples chain

-- no publication of the input has these values
abbrev pub NoneClaims : Input → List Value → Type 0
NoneClaims x values = (a : Audit) → a.input ≡ x → (chain : ChainView) → ¬ HasChain a values chain
