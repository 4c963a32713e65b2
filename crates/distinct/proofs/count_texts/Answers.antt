-- The list of the texts held says how many different ones there are.
use Rattle.distinct.proofs.Counting.{among, all}
use Rattle.distinct.proofs.count_texts.Goals as goal

pub returns-then-noting-clause-counts : goal.returns-then-noting-clause-counts
returns-then-noting-clause-counts c =
    all _ c.new-noting.result c.note_items.new.self _ c.new-noting.ensures.interner c.new-noting.ensures.took_all c.note_items.ensures c.len-count.ensures.sound.different c.len-count.ensures.length c.if-noting.true

pub returns-else-noting-clause-counts : goal.returns-else-noting-clause-counts
returns-else-noting-clause-counts c =
    among _ c.new-noting.result c.note_items.new.self _ c.new-noting.ensures.interner c.new-noting.ensures.took_all c.note_items.ensures c.len-count.ensures.sound.different c.len-count.ensures.length
