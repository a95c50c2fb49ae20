use Rattle.am_store.proofs.store.Store.adopt.Goals as goal

pub contents_for-requires : goal.contents_for-requires
contents_for-requires c = c.requires.built

pub put_in-requires-clause-contents : goal.put_in-requires-clause-contents
put_in-requires-clause-contents c = c.in_ok-contents.ensures

pub returns-clause-ok : goal.returns-clause-ok
returns-clause-ok c = c.put_in.ensures.takes

pub returns-clause-order : goal.returns-clause-order
returns-clause-order c = c.put_in.ensures.order
