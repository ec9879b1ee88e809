use Rattle.std.proofs.Common.{rules}
use Rattle.programs.specs.Programs.{Shows, text}
use Rattle.programs.proofs.print.Goals as goal

pub returns-in_err-write_all-clause-err : goal.returns-in_err-write_all-clause-err
returns-in_err-write_all-clause-err g c =
    let shown : Shows c.args.edition c.output-size.result c.args.out.now c.output-size.new.out = search rules in
    search (rules, text shown)
