use Rattle.std.proofs.Common.{subst, sym}
use Rattle.am_fits.specs.Words.{words_of, WordsGrow}
use Rattle.am_fits.specs.declared.table.Texts.{Texts}
use Rattle.am_fits.proofs.table.Texts.kept.Goals as goal
use Rattle.am_fits.proofs.table.Texts.kept.Goals.{then-insert, else-insert+in_ok-slot}

pub returns-clause-grow : goal.returns-clause-grow
returns-clause-grow g c =
    let first = c.in_ok-object.ensures.grow in
    elim c.if-insert.branch [
      | then-insert w ↦ subst (λ (t : Texts). WordsGrow (words_of c.args.self.now) (words_of t)) (sym w.self-is) first
      | else-insert+in_ok-slot w ↦
          let then = w.in_ok-slot.ensures.grow in
          subst (λ (t : Texts). WordsGrow (words_of c.args.self.now) (words_of t)) (sym w.self-is)
          (record { authors = λ t n e. then.authors t n (first.authors t n e); names = λ t n e. then.names t n (first.names t n e) })
    ]
