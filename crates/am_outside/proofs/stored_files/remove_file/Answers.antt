use Rattle.std.proofs.lemmas.Fn.{filter_same}
use Rattle.std.proofs.Common.{rules}
use Rattle.am_outside.proofs.stored_files.remove_file.Goals as goal

pub returns : goal.returns
returns c = filter_same _ _ _ (λ x b f h. search rules) _ _ c.retain.ensures.filtered
