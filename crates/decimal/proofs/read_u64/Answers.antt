use Rattle.decimal.proofs.Reading.{plus, bare}
use Rattle.decimal.proofs.read_u64.Goals as goal

pub returns-in-Some : goal.returns-in-Some
returns-in-Some c =
    let found = (c.in-Some.ensures {u = tt}).cases in
    plus c.args.s.now c.in-Some.digits.now c.read_digits.result found.0 found.1 c.read_digits.ensures

pub returns-in-None : goal.returns-in-None
returns-in-None c = bare c.args.s.now c.read_digits-in-None.result (c.in-None.ensures {u = tt}).cases c.read_digits-in-None.ensures
