use Rattle.std.proofs.Common.{◌≡◌}
use Rattle.std.specs.FinMap.{get}
use Rattle.std.specs.VecDeque.Iter.{deque_iter_rest}
use Rattle.am_outside.specs.Stored.{files_of}
use Rattle.am_outside.proofs.stored_files.find_file.Given as goal

abbrev pub invariant-loop-file : goal.invariant-loop-file
invariant-loop-file l = get (files_of l.files.items) l.name ≡ get (files_of (deque_iter_rest l.file-iterator)) l.name
