use Rattle.am_change.specs.Hashes.{own_hash}
use Rattle.am_rebuild.proofs.Loop.{unbuildable, takes_next}
use Rattle.am_rebuild.proofs.building.join_next.Goals as goal

pub returns-in-None : goal.returns-in-None
returns-in-None c = λ rows meta b. unbuildable own_hash rows c.args.gathered.now meta c.args.change c.in-None.is b

pub returns-in_ok-joined-in-Some : goal.returns-in_ok-joined-in-Some
returns-in_ok-joined-in-Some c = λ rows meta b.
    takes_next own_hash rows c.args.gathered.now meta c.args.change c.in-Some.change c.in-Some.is b c.join.new.self c.in_ok-joined-in-Some.joined c.in_ok-joined-in-Some.ensures
