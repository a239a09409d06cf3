use Rattle.std.proofs.Common.{◌≡◌, ◌≤◌, arith, Some, None}
use Rattle.std.proofs.lemmas.Option.{none-some}
use Rattle.sk_words.specs.Asked.{rows_in}
use Rattle.sk_words.proofs.Numbers.{sc_given}
use Rattle.sk_words.proofs.request.spacecraft_of.Goals as goal

pub overflow_cast-result : goal.overflow_cast-result
overflow_cast-result c =
    let f = sc_given (rows_in c.args.matches.now) c.args.command c.requires.asked c.requires.needed in
    let is = f.1 in
    let same : c.in-Some.number ≡ f.0 = cc in
    omega (arith, same, f.3)

pub returns-in-Some-clause-number : goal.returns-in-Some-clause-number
returns-in-Some-clause-number c =
    let f = sc_given (rows_in c.args.matches.now) c.args.command c.requires.asked c.requires.needed in
    let is = f.1 in
    let number = f.4 in
    cc

pub returns-in-Some-clause-range : goal.returns-in-Some-clause-range
returns-in-Some-clause-range c =
    let f = sc_given (rows_in c.args.matches.now) c.args.command c.requires.asked c.requires.needed in
    let is = f.1 in
    let same : c.in-Some.number ≡ f.0 = cc in
    let low : 1 ≤ c.in-Some.number = omega (arith, same, f.2) in
    let high : c.in-Some.number ≤ 999999999 = omega (arith, same, f.3) in
    (low, high)

pub returns-in-None-clause-number : goal.returns-in-None-clause-number
returns-in-None-clause-number c =
    let f = sc_given (rows_in c.args.matches.now) c.args.command c.requires.asked c.requires.needed in
    let is = f.1 in
    let none : None ≡ Some f.0 = cc in
    absurd (none-some f.0 none)

pub returns-in-None-clause-range : goal.returns-in-None-clause-range
returns-in-None-clause-range c =
    let f = sc_given (rows_in c.args.matches.now) c.args.command c.requires.asked c.requires.needed in
    let is = f.1 in
    let none : None ≡ Some f.0 = cc in
    absurd (none-some f.0 none)
