use Rattle.std.proofs.Common.{◌<◌, length, arith}
use Rattle.am_chain.proofs.Relinks.{inserted_front, inserted_behind, gap_last}
use Rattle.am_chain.proofs.node.put_in_gap.Goals as goal

pub index_mut-requires : goal.index_mut-requires
index_mut-requires c =
    let low : c.in-Some.before < length c.args.nodes.now.items = gap_last c.args.nodes.now.items c.args.first.now c.requires.linked _ _ c.args.id _ c.requires.gap.1 c.in-Some.before c.in-Some.is in
    omega (arith, c.in_ok-push.ensures.len)

pub returns-in-None-clause-put : goal.returns-in-None-clause-put
returns-in-None-clause-put c = λ target g.
    inserted_front c.args.nodes.now.items c.args.first.now c.requires.linked _ _ c.args.id target g c.requires.fresh c.requires.room c.in-None.is c.push.new.self.items c.in_ok-push.ensures.items c.len-node.result (omega (arith, c.len-node.ensures))

pub returns-in-Some-clause-put : goal.returns-in-Some-clause-put
returns-in-Some-clause-put c = λ target g.
    inserted_behind c.args.nodes.now.items c.args.first.now c.requires.linked _ _ c.args.id target g c.requires.fresh c.requires.room c.in-Some.before c.in-Some.is c.push.new.self.items c.in_ok-push.ensures.items c.len-node.result (omega (arith, c.len-node.ensures)) c.index_mut.result.now c.index_mut.ensures.value

pub returns-in-Some-clause-linked : goal.returns-in-Some-clause-linked
returns-in-Some-clause-linked c =
    (inserted_behind c.args.nodes.now.items c.args.first.now c.requires.linked _ _ c.args.id _ c.requires.gap.1 c.requires.fresh c.requires.room c.in-Some.before c.in-Some.is c.push.new.self.items c.in_ok-push.ensures.items c.len-node.result (omega (arith, c.len-node.ensures)) c.index_mut.result.now c.index_mut.ensures.value).linked

pub returns-in-None-clause-linked : goal.returns-in-None-clause-linked
returns-in-None-clause-linked c =
    (inserted_front c.args.nodes.now.items c.args.first.now c.requires.linked _ _ c.args.id _ c.requires.gap.1 c.requires.fresh c.requires.room c.in-None.is c.push.new.self.items c.in_ok-push.ensures.items c.len-node.result (omega (arith, c.len-node.ensures))).linked
