-- A command that gave no reply, and a reply that wasn't written whole: whose call failed.
use Rattle.std.proofs.Common.{◌≡◌, Option, false, Result, Ok, Err, sym, ap, subst, ◌∙◌}
use Rattle.std.specs.Prelude.{IsErrOf}
use Rattle.am_outside.specs.Calls.{Calls}
use Rattle.am_outside.specs.declared.faults.WriteFault.{WriteFault}
use Rattle.am_outside.specs.declared.faults.WriteFault.TheVariants as write
use Rattle.am_session.specs.FirstFault.{Ended, is_err_at, is_file_stop}
use Rattle.am_session.specs.declared.Stop.{Stop}
use Rattle.am_session.specs.declared.Stop.TheVariants as stop
use Rattle.am_session.proofs.FirstFault.{ended_more}
use Rattle.am_cli.specs.Gives.{HaltOfStop, HaltOfWrite}
use Rattle.am_cli.specs.Faults.{is_file_halt, is_failed_write, is_output_halt}
use Rattle.am_cli.specs.declared.halt.Halt.{Halt}

same_stop : {A B : Type 0} (r : Result A Stop) (q : Result B Halt) (why : Stop) (made : Halt) → r ≡ Err why → q ≡ Err made → HaltOfStop why made → is_err_at is_file_stop r ≡ is_err_at is_file_halt q
same_stop r q stop.File made is are gives = ap (is_err_at is_file_stop) is ∙ sym (ap (is_err_at is_file_halt) (are ∙ ap Err gives))
same_stop r q stop.NoMemory made is are gives = ap (is_err_at is_file_stop) is ∙ sym (ap (is_err_at is_file_halt) (are ∙ ap Err gives))

-- a command gave no reply
pub stop_ended : {A B : Type 0} (r : Result A Stop) (q : Result B Halt) (why : Stop) (made : Halt) (a b c : Option Calls) → r ≡ Err why → q ≡ Err made → HaltOfStop why made → Ended false a b → Ended (is_err_at is_file_stop r) b c → Ended (is_err_at is_file_halt q) a c
stop_ended r q why made a b c is are gives p h = ended_more (is_err_at is_file_halt q) a b c p (subst (λ f. Ended f b c) (same_stop r q why made is are gives) h)

no_output : {B : Type 0} (q : Result B Halt) (why : Stop) (made : Halt) → q ≡ Err made → HaltOfStop why made → false ≡ is_err_at is_output_halt q
no_output q stop.File made are gives = sym (ap (is_err_at is_output_halt) (are ∙ ap Err gives))
no_output q stop.NoMemory made are gives = sym (ap (is_err_at is_output_halt) (are ∙ ap Err gives))

pub stop_keeps_output : {B : Type 0} (q : Result B Halt) (why : Stop) (made : Halt) (a b : Option Calls) → q ≡ Err made → HaltOfStop why made → Ended false a b → Ended (is_err_at is_output_halt q) a b
stop_keeps_output q why made a b are gives p = subst (λ f. Ended f a b) (no_output q why made are gives) p

same_write : {A B : Type 0} (r : Result A WriteFault) (q : Result B Halt) (why : WriteFault) (made : Halt) → r ≡ Err why → q ≡ Err made → HaltOfWrite why made → is_err_at is_failed_write r ≡ is_err_at is_output_halt q
same_write r q write.Failed made is are gives = ap (is_err_at is_failed_write) is ∙ sym (ap (is_err_at is_output_halt) (are ∙ ap Err gives))
same_write r q write.NoMemory made is are gives = ap (is_err_at is_failed_write) is ∙ sym (ap (is_err_at is_output_halt) (are ∙ ap Err gives))

-- a reply wasn't written whole
pub write_ended : {A B : Type 0} (r : Result A WriteFault) (q : Result B Halt) (why : WriteFault) (made : Halt) (a b c : Option Calls) → r ≡ Err why → q ≡ Err made → HaltOfWrite why made → Ended false a b → Ended (is_err_at is_failed_write r) b c → Ended (is_err_at is_output_halt q) a c
write_ended r q why made a b c is are gives p h = ended_more (is_err_at is_output_halt q) a b c p (subst (λ f. Ended f b c) (same_write r q why made is are gives) h)

no_file : {B : Type 0} (q : Result B Halt) (why : WriteFault) (made : Halt) → q ≡ Err made → HaltOfWrite why made → false ≡ is_err_at is_file_halt q
no_file q write.Failed made are gives = sym (ap (is_err_at is_file_halt) (are ∙ ap Err gives))
no_file q write.NoMemory made are gives = sym (ap (is_err_at is_file_halt) (are ∙ ap Err gives))

pub write_keeps_folder : {B : Type 0} (q : Result B Halt) (why : WriteFault) (made : Halt) (a b : Option Calls) → q ≡ Err made → HaltOfWrite why made → Ended false a b → Ended (is_err_at is_file_halt q) a b
write_keeps_folder q why made a b are gives p = subst (λ f. Ended f a b) (no_file q why made are gives) p

pub ok_is_no_err : {A E : Type 0} (r : Result A E) (x : A) (fault : E) → r ≡ Ok x → IsErrOf r fault → ⊥
ok_is_no_err r x fault is err = cc
