use Rattle.mesh.specs.Laying.{layout}
use Rattle.mesh.specs.Net.{edges_of, slots_of}
use Rattle.mesh.proofs.Turned.{all_by_news, all_by_was}
use Rattle.mesh.proofs.turn.turn_neighbours.Goals as goal

pub returns-then-was-news-clause-turned : goal.returns-then-was-news-clause-turned
returns-then-was-news-clause-turned g c = all_by_was (layout c.args.news.now c.args.slots.now c.args.was.now) (edges_of (slots_of c.turn_all.new.pages)) c.in_ok-turn_all.ensures.turned

pub returns-clause-turned : goal.returns-clause-turned
returns-clause-turned g c = all_by_news (layout c.args.news.now c.args.slots.now c.args.was.now) (edges_of (slots_of c.turn_all-2.new.pages)) c.in_ok-turn_all-2.ensures.turned
