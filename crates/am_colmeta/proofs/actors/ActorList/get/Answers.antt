use Rattle.std.proofs.Common.{drop, ap, ◌∙◌}
use Rattle.am_colmeta.proofs.EvenLaws.{got}
use Rattle.am_colmeta.proofs.actors.ActorList.get.Goals as goal

pub returns : goal.returns
returns c = got c.next.result c.skip.new.self c.next.new.self c.args.self.now c.args.i (c.skip.ensures ∙ ap (drop c.args.i) c.again-rest.ensures) c.next.ensures.end c.next.ensures.next
