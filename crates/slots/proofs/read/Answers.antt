use Rattle.slots.proofs.Passing.{size_damaged, contents_held, contents_damaged}
use Rattle.slots.proofs.read.Goals as goal

pub returns-then-area-ne-AREA_SIZE : goal.returns-then-area-ne-AREA_SIZE
returns-then-area-ne-AREA_SIZE c = size_damaged _ c.if-area-ne-AREA_SIZE.true

pub returns-then-are_free : goal.returns-then-are_free
returns-then-are_free c =
    let f = c.leading-found.ensures in
    contents_held _ _ c.if-area-ne-AREA_SIZE.false _ f.fits f.last f.each (λ k. c.are_free.ensures.sound k c.if-are_free.true)

pub returns-else-are_free : goal.returns-else-are_free
returns-else-are_free c =
    let f = c.leading-found.ensures in
    contents_damaged _ _ c.if-area-ne-AREA_SIZE.false c.leading-found.result.ceiling f.fits f.last f.each f.stops _ c.are_free.ensures.complete c.if-are_free.false
