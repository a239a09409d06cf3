use Rattle.sk_headline.proofs.Fewest as fewest
use Rattle.sk_headline.proofs.laws.no_fewer_triples.Goals as goal

pub returns-clause-kept : goal.returns-clause-kept
returns-clause-kept c = fewest.no_fewer_triples

pub returns-clause-told : goal.returns-clause-told
returns-clause-told c = fewest.no_fewer_than_told
