use Rattle.std.proofs.Common.{◌++◌}
use Rattle.am_colmeta.specs.Metadata.{metadata}
use Rattle.am_change.proofs.FrontLaws.{behind_is, fields}
use Rattle.am_doc.proofs.front.lists_at.Goals as goal

pub returns-clause-only : goal.returns-clause-only
returns-clause-only c = λ metas rows rest first_pairs second_pairs e.
    let first = fields _ _ _ _ (c.in-Ok.ensures.only metas (metadata rows ++ rest) first_pairs e) in
    let behind = behind_is c.args.bytes.now (metadata metas) c.split_at.result.1.now (metadata rows ++ rest) c.in-Ok.size first.1 c.split_at.ensures.back e in
    let second = fields _ _ _ _ (c.in-Ok-read.ensures.only rows rest second_pairs behind) in
    (first.0, second.0, behind_is c.split_at.result.1.now (metadata rows) c.split_at-2.result.1.now rest c.in-Ok-read.size second.1 c.split_at-2.ensures.back behind)
