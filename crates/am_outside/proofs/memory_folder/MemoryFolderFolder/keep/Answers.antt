use Rattle.std.proofs.Common.{ap, ◌∙◌}
use Rattle.std.specs.FinMap.{get}
use Rattle.am_outside.specs.Stored.{files_of}
use Rattle.am_outside.proofs.Lookup.{others_stay}
use Rattle.am_outside.proofs.memory_folder.MemoryFolderFolder.keep.Goals as goal

pub returns-then-contains-clause-others : goal.returns-then-contains-clause-others
returns-then-contains-clause-others c = λ _ other n.
    ap (λ files. get (files_of files) other) c.remove_file.ensures ∙ others_stay c.args.name.now other n c.args.self.now.files.items
