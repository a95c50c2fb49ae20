use Rattle.std.proofs.Common.{rules, ◌<◌, ◌^◌, length, subst}
use Rattle.am_store.specs.Kept.{Kept, Delivered}
use Rattle.am_session.proofs.Alike.{back}
use Rattle.am_session.proofs.bench.load.Goals as goal

pub unreachable-requires : goal.unreachable-requires
unreachable-requires c =
    let short : length c.args.file.now < 2 ^ 64 = search rules in
    let read = back c.documents_are_read_back.ensures.documents c.args.store.now c.graph-graph.ensures.kept c.args.file.now c.requires.file short in
    let fault = c.in-Err-Load.field-0-0 in
    read.never_bad fault.chunk fault.fault (search rules)

pub returns : goal.returns
returns c =
    let short : length c.args.file.now < 2 ^ 64 = search rules in
    let read = back c.documents_are_read_back.ensures.documents c.args.store.now c.graph-graph.ensures.kept c.args.file.now c.requires.file short in
    let found = c.in-Ok.ensures.ok in
    (read.again found.0 c.in-Ok.report c.read_file.new.self found.1 (subst (λ (k : Kept). Delivered k found.0 c.in-Ok.report c.read_file.new.self) c.requires.none found.2)).closed
