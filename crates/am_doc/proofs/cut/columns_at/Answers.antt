use Rattle.std.proofs.Common.{◌≡◌, ℕ, List, Ok, Err, subst, arith, ◌∙◌}
use Rattle.am_colmeta.specs.Judgement.{Judges}
use Rattle.am_doc.proofs.CutOnce as cuts
use Rattle.am_doc.proofs.cut.columns_at.Goals as goal

pub returns-then-total-bytes-clause-only : goal.returns-then-total-bytes-clause-only
returns-then-total-bytes-clause-only c = λ columns rest plain are e b.
    let fits = cuts.room c.args.list.now c.args.bytes.now rest columns e b in
    omega arith

pub returns-in-Ok-clause-only : goal.returns-in-Ok-clause-only
returns-in-Ok-clause-only c = λ columns rest plain are e b.
    let p = cuts.parts c.args.list.now c.args.bytes.now rest columns c.total-total.result e b c.total-total.ensures.sum in
    let judged = subst (λ (l : List (ℕ × ℕ)). Judges l c.split_at.result.0.now c.args.known.now (Ok c.in-Ok.columns)) c.again.ensures c.in-Ok.ensures.judged in
    let same = cuts.as_judged c.args.list.now c.split_at.result.0.now c.args.known.now columns (Ok c.in-Ok.columns) plain are e (c.split_at.ensures.front ∙ p.0) judged in
    let columns_are : c.in-Ok.columns ≡ columns = cc in
    (columns_are, c.split_at.ensures.back ∙ p.1)

pub returns-in-Err-clause-only : goal.returns-in-Err-clause-only
returns-in-Err-clause-only c = λ columns rest plain are e b.
    let p = cuts.parts c.args.list.now c.args.bytes.now rest columns c.total-total.result e b c.total-total.ensures.sum in
    let judged = subst (λ (l : List (ℕ × ℕ)). Judges l c.split_at.result.0.now c.args.known.now (Err c.in-Err.field-0)) c.again.ensures c.in-Err.ensures.judged in
    let same = cuts.as_judged c.args.list.now c.split_at.result.0.now c.args.known.now columns (Err c.in-Err.field-0) plain are e (c.split_at.ensures.front ∙ p.0) judged in
    cc
