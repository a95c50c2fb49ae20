-- Which object failed, by the fault that is told and by the end of a run.
use Rattle.std.specs.Prelude.{Bool, true, false}
use Rattle.am_outside.specs.declared.faults.WriteFault.{WriteFault}
use Rattle.am_outside.specs.declared.faults.WriteFault.TheVariants as write
use Rattle.am_cli.specs.declared.halt.Halt.{Halt}
use Rattle.am_cli.specs.declared.halt.Halt.TheVariants as halt
use Rattle.am_cli.specs.declared.input.Unread.{Unread}
use Rattle.am_cli.specs.declared.input.Unread.TheVariants as unread
use Rattle.am_cli.specs.declared.run.Status.{Status}
use Rattle.am_cli.specs.declared.run.Status.TheVariants as status

-- ---- faults

-- the folder failed
abbrev pub is_file_halt : Halt → Bool
is_file_halt halt.File = true
is_file_halt halt.Output = false
is_file_halt halt.NoMemory = false

-- the output failed
abbrev pub is_failed_write : WriteFault → Bool
is_failed_write write.Failed = true
is_failed_write write.NoMemory = false

abbrev pub is_output_halt : Halt → Bool
is_output_halt halt.File = false
is_output_halt halt.Output = true
is_output_halt halt.NoMemory = false

-- the input failed
abbrev pub is_failed_read : Unread → Bool
is_failed_read unread.Failed = true
is_failed_read unread.Long = false
is_failed_read unread.NoMemory = false

-- ---- how a run ended

-- at the input's fault, the folder's, the output's
abbrev pub is_input_fault : Status → Bool
is_input_fault status.InputFault = true
is_input_fault status.Done = false
is_input_fault status.SomeRefused = false
is_input_fault status.BadWords = false
is_input_fault status.FileFault = false
is_input_fault status.OutputFault = false
is_input_fault status.NoMemory = false
is_input_fault status.InputLong = false

abbrev pub is_file_fault : Status → Bool
is_file_fault status.FileFault = true
is_file_fault status.Done = false
is_file_fault status.SomeRefused = false
is_file_fault status.BadWords = false
is_file_fault status.InputFault = false
is_file_fault status.OutputFault = false
is_file_fault status.NoMemory = false
is_file_fault status.InputLong = false

abbrev pub is_output_fault : Status → Bool
is_output_fault status.OutputFault = true
is_output_fault status.Done = false
is_output_fault status.SomeRefused = false
is_output_fault status.BadWords = false
is_output_fault status.InputFault = false
is_output_fault status.FileFault = false
is_output_fault status.NoMemory = false
is_output_fault status.InputLong = false
