use Rattle.std.proofs.Common.{inl, inr, refl}
use Rattle.std.proofs.lemmas.Bool.{false≢true}
use Rattle.sk_triples.specs.Reading.{Follows}
use Rattle.sk_triples.specs.Values.{row_of}
use Rattle.sk_triples.proofs.ReadRows.{in_order, out_of_order, refused_alone}
use Rattle.sk_triples.proofs.reading.next_triple.Goals as goal

pub returns-then-follows : goal.returns-then-follows
returns-then-follows c = λ previous pair.
    let judged = c.in-Ok.ensures in
    let follows = c.if-follows.ensures.0 refl in
    ((judged.0.0, (judged.0.1.0, (judged.0.1.1.0, (judged.0.1.1.1.0, (in_order previous c.args.before (row_of c.args.row) c.in-Ok.triple pair judged.1.numbers follows, tt))))), (judged.1, follows))

pub returns-else-follows : goal.returns-else-follows
returns-else-follows c = λ previous pair.
    let judged = c.in-Ok.ensures in
    let not : ¬ Follows c.args.before c.in-Ok.triple = λ follows. false≢true (c.if-follows.ensures.1 follows) in
    inr (judged.0.0, inr (judged.0.1.0, inr (judged.0.1.1.0, inr (judged.0.1.1.1.0, inl (out_of_order previous c.args.before (row_of c.args.row) c.in-Ok.triple pair judged.1.numbers not, refl)))))

pub returns-in-Err : goal.returns-in-Err
returns-in-Err c = λ previous pair. refused_alone c.args.total c.args.number previous (row_of c.args.row) c.in-Err.fault c.in-Err.ensures
