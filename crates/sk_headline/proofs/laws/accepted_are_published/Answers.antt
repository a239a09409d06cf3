use Rattle.sk_headline.proofs.Accepted as texts
use Rattle.sk_headline.proofs.laws.accepted_are_published.Goals as goal

pub returns-clause-published : goal.returns-clause-published
returns-clause-published c = texts.accepted_are_published

pub returns-clause-accepted : goal.returns-clause-accepted
returns-clause-accepted c = texts.published_are_accepted

pub returns-clause-written : goal.returns-clause-written
returns-clause-written c = texts.written_is_accepted

pub returns-clause-canonical : goal.returns-clause-canonical
returns-clause-canonical c = texts.canonical_is_published
