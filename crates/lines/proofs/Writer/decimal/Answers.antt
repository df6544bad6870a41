-- `lines::Writer::decimal` meets its contract: the digits from the first other than 0 on are the number's. Assumes nothing.
use Rattle.lines.proofs.DigitLaws.{decimal_part}
use Rattle.lines.proofs.Writer.decimal.Goals as goal

pub returns-clause-appended : goal.returns-clause-appended
returns-clause-appended c =
    let e = decimal_part c.args.n c.first_digit.result c.twenty-digits.result c.twenty-digits.ensures c.first_digit.ensures.1 in
    rw e at c.put.ensures.appended
