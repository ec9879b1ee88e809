use Rattle.std.proofs.Common.{◌≡◌, ◌+◌, ◌*◌, ◌/◌, ◌%◌, arith}
use Rattle.header.specs.Entry.{entry_cs}
use Rattle.header.proofs.entry_cs.Goals as goal

pub returns : goal.returns
unfolding entry_cs
returns c =
    let b = c.args.base in
    let f = rw c.to_le_bytes.ensures at c.from_le_bytes.ensures in
    let e : c.from_le_bytes.result
    ≡ 0xff + 256 * (0xff + 256 * (b % 256 + 256 * (b / 256 % 256 + 256 * (b / 65536 % 256 + 256 * (0x93 + 256 * (0x8f + 256 * (b / 16777216 % 256 + 256 * 0)))))))
    = omega arith in
    rw e
