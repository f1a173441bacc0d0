use Rattle.std.proofs.Common.{[]}
use Rattle.landxml_tests.proofs.drafting.read.Goals as goal

pub returns : goal.returns
returns c = c.finish.ensures.lawful _ (c.feed.ensures.read [] c.new-reader.ensures.read)
