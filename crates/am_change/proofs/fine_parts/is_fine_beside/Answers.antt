use Rattle.std.proofs.Common.{subst}
use Rattle.std.specs.Prelude.{IsUtf8}
use Rattle.am_change.proofs.InPlace.{Parts, whole_fine, whole_back}
use Rattle.am_change.proofs.fine_parts.is_fine_beside.Goals as goal

pub returns-clause-fine : goal.returns-clause-fine
returns-clause-fine c = λ e ops n preds each.
    let parts : Parts c.args.front.now c.args.extra.now = record {
      size = c.requires.hashes;
      hash_bytes = c.slice_known.ensures;
      message = subst IsUtf8 c.requires.message c.str_known.ensures;
      actor = c.slice_known-2.ensures;
      some = c.requires.some;
      short = c.requires.short;
      extra_bytes = c.slice_known-3.ensures;
    } in
    whole_fine c.args.front.now c.args.count ops c.args.extra.now parts (c.passes.ensures.0 e) n c.requires.few preds each

pub returns-clause-only : goal.returns-clause-only
returns-clause-only c = λ ops n fine. c.passes.ensures.1 (whole_back c.args.front.now c.args.count ops c.args.extra.now n fine)
