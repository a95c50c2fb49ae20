-- What a line asks for, by what was read in it.
use Rattle.std.proofs.Common.{◌≡◌, ◌⊎◌, inl, inr, Option, Ok, Err, sym, ◌∙◌}
use Rattle.am_script.specs.Words.{Read}
use Rattle.am_script.specs.declared.Command.{Command}
use Rattle.am_script.specs.declared.LineFault.TheVariants.{NoMemory}

pub read_command : (r other : Read (Option Command)) (found : Option Command) → (r ≡ Err NoMemory) ⊎ (r ≡ other) → r ≡ Ok found → other ≡ Ok found
read_command r other found (inl wants) is = absurd (cc)
read_command r other found (inr same) is = sym same ∙ is
