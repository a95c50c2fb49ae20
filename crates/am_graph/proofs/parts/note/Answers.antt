use Rattle.am_graph.proofs.Noting.{noted}
use Rattle.am_graph.specs.Whole.{first_in}
use Rattle.std.proofs.Common.{◌∙◌, ap, cond, Some}
use Rattle.am_graph.specs.Whole.{lesser, pair_cmp}
use Rattle.std.specs.Ordering.{is_eq}
use Rattle.am_graph.proofs.parts.note.Goals as goal

pub returns-clause-ok : goal.returns-clause-ok
returns-clause-ok c = noted (first_in c.args.firsts.now) (first_in c.insert.new.self) c.args.author c.args.seq c.args.hash (λ b r. let u = c.in_ok-insert.ensures.updates.0 (b, r) in u ∙ ap (λ v. cond (is_eq (pair_cmp (c.args.author, c.args.seq) (b, r))) (Some v) (first_in c.args.firsts.now b r)) (c.least-first.ensures ∙ ap (λ o. lesser o c.args.hash) (c.copied.ensures ∙ c.get.ensures.value)))
