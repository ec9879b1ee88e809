use Rattle.std.proofs.Common.{rules, arith, refl, not, ◌∙◌, ◌+◌}
use Rattle.std.proofs.lemmas.Iterator.{YieldsList-from_range}
use Rattle.std.proofs.lemmas.Iterator.Search.{all_from_yields_List}
use Rattle.memory.specs.Memory.{absent}
use Rattle.memory.proofs.Laws.{all_listed}
use Rattle.memory.proofs.all_there.Goals as goal

pub returns : goal.returns
returns c =
    let a = c.args in
    all_from_yields_List (λ b. not (absent a.window a.end b)) _ _ _ c.all.ensures.ran
    (YieldsList-from_range a.address (a.address + a.count) a.count refl (omega arith)) (λ x b q k. search rules)
    ∙ all_listed a.window a.end a.address a.count
