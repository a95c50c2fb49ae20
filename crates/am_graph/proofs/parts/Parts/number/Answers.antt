use Rattle.std.proofs.Common.{sym, subst}
use Rattle.am_graph.specs.Whole.{WholeOf, authors_of, first_in}
use Rattle.am_graph.proofs.Growing.{whole_with}
use Rattle.am_graph.proofs.parts.Parts.number.Goals as goal

pub returns-in_err-author-clause-whole : goal.returns-in_err-author-clause-whole
returns-in_err-author-clause-whole c = subst (λ n. WholeOf c.args.self.now.held.entries c.args.self.now.marks.items n (first_in c.args.self.now.firsts)) (sym c.in_err-author.ensures.err) c.requires

pub returns-clause-whole : goal.returns-clause-whole
returns-clause-whole c =
    subst (λ n. WholeOf c.args.self.now.held.entries c.args.self.now.marks.items n (first_in c.args.self.now.firsts)) (sym c.in_ok-author.ensures.ok)
    (whole_with c.args.self.now.held.entries c.args.self.now.marks.items (authors_of c.args.self.now) (first_in c.args.self.now.firsts) c.requires c.args.actor.now)
