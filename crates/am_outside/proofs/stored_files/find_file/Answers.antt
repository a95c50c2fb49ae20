use Rattle.std.proofs.Common.{◌≡◌, List, length, rules, [], ◌∷◌, sym, ap, ◌∙◌, refl}
use Rattle.std.specs.FinMap.{get}
use Rattle.std.specs.VecDeque.Iter.{deque_iter_rest}
use Rattle.am_outside.specs.declared.stored_files.File.{File}
use Rattle.am_outside.specs.Stored.{files_of}
use Rattle.am_outside.proofs.Lookup.{nothing}
use Rattle.am_outside.proofs.stored_files.find_file.Goals as goal

none_left : (files : List File) → length files ≡ 0 → files ≡ []
none_left [] e = refl
none_left (file ∷ files) e = cc

pub returns : goal.returns
returns c =
    let none : length (deque_iter_rest c.loop-file.file-iterator) ≡ 0 = search rules in
    sym (c.loop-file.invariant ∙ ap (λ files. get (files_of files) c.args.name.now) (none_left _ none) ∙ nothing c.args.name.now)
