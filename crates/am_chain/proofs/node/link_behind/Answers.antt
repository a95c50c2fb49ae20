use Rattle.am_chain.proofs.Links.{behind_passing, behind_directly}
use Rattle.am_chain.proofs.node.link_behind.Goals as goal

pub returns-in-Some : goal.returns-in-Some
returns-in-Some c = record {
  passing = λ e. rw c.in-Some.is (behind_passing c.args.nodes.now c.args.first c.requires.linked c.in-Some.node c.index-nodes-node.result (rw c.in-Some.is at c.requires.standing) e);
  directly = λ e. rw c.in-Some.is (behind_directly c.args.nodes.now c.args.first c.requires.linked c.in-Some.node c.index-nodes-node.result (rw c.in-Some.is at c.requires.standing) e);
}
