use Rattle.std.proofs.Common.{◌≡◌, ◌-◌, ◌++◌, true, false, length, take, drop, take_all, ap, sym, ◌∙◌, arith}
use Rattle.std.proofs.lemmas.List.{length-drop, take-append-drop}
use Rattle.std.proofs.lemmas.Slice.Eq.{bytes_eq-Decides}
use Rattle.am_runs.proofs.apart.next_apart.Goals as goal

pub returns-else-same_bytes : goal.returns-else-same_bytes
returns-else-same_bytes g c =
    let bytes = c.args.bytes.now in
    let len = c.in-Some.len in
    let found = g.met.K.Item.reads.found bytes len (sym c.in-Some.ensures.exact) in
    let decides = bytes_eq-Decides c.args.before.now (take len bytes) in (
      found.1,
      (λ e. let q : true ≡ false = sym (decides.1 e) ∙ sym c.same_bytes.ensures ∙ c.if-same_bytes.false in cc),
      sym (take-append-drop len bytes) ∙ ap (λ r. take len bytes ++ r) (sym (take_all (length bytes - len) (drop len bytes) (omega (arith, length-drop len bytes)))),
    )
