-- What a delivery leaves, and what is told of it.
use Rattle.std.proofs.Common.{◌≡◌, ℕ, ◌-◌, List, length, Bool, Some, Result, ◌∙◌, inl, inr, arith}
use Rattle.std.specs.Prelude.{IfOk}
use Rattle.std.proofs.lemmas.List.Sorted.{length_permutation}
use Rattle.std.proofs.lemmas.Result.{IfOk-weaker}
use Rattle.am_types.specs.declared.Change.{Change}
use Rattle.am_store.specs.Kept.{Kept, Delivered}
use Rattle.am_store.specs.Files.{IsFile, FirstBad}
use Rattle.am_store.specs.declared.Report.{Report}
use Rattle.am_store.specs.declared.LoadFault.{LoadFault}
use Rattle.am_session.specs.Session.{Held, with_kept}
use Rattle.am_session.specs.Apply.{Applies, Delivers, outcome, report_text, bad_file}

delivers : (old : Kept) (cs : List Change) (report : Report) (reply : List ℕ) (new : Kept) → Delivered old cs report new → reply ≡ report_text report.added report.waiting report.rejected → Delivers old cs reply new
delivers old cs report reply new left told =
    let long = length_permutation (outcome old cs).closed new.closed left.closed in
    let added : report.added ≡ length (outcome old cs).closed - length old.closed = omega (arith, left.added, long) in
    let waiting = left.wait ∙ length_permutation (outcome old cs).waiting new.waiting left.waiting in
    record {
      closed = left.closed;
      waiting = left.waiting;
      reply_is = told ∙ (λ i. report_text (added i) (waiting i) (left.rejected i));
    }

pub applied_whole : {E : Type 0} (only : Bool) (r : Result (List ℕ) E) (bytes : List ℕ) (old new : Held) (report : Report) → ((cs : List Change) × IsFile only bytes cs × Delivered old.kept cs report new.kept) → new ≡ with_kept old new.kept
    → IfOk r (λ reply. reply ≡ report_text report.added report.waiting report.rejected) → IfOk r (λ reply. Applies only (Some bytes) old reply new)
applied_whole only r bytes old new report read rest = IfOk-weaker r _ _ (λ reply told. inl (read.0, read.1, delivers old.kept read.0 report reply new.kept read.2 told, rest))

pub applied_bad : {E : Type 0} (only : Bool) (r : Result (List ℕ) E) (bytes : List ℕ) (old new : Held) (k : ℕ) (fault : LoadFault) → FirstBad only bytes k fault → new ≡ old
    → IfOk r (λ reply. reply ≡ bad_file fault k) → IfOk r (λ reply. Applies only (Some bytes) old reply new)
applied_bad only r bytes old new k fault bad same = IfOk-weaker r _ _ (λ reply told. inr (k, fault, bad, told, same))
